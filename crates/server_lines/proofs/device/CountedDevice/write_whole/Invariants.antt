use Rattle.std.proofs.Common.{◌≡◌, ℕ, List, ◌++◌, length}
use Rattle.std.specs.Io.KnownBytes.{Appends}
use Rattle.server_lines.specs.Devices.{counts_of, IsSteady}
use Rattle.server_lines.proofs.device.CountedDevice.write_whole.Given as goal

abbrev pub invariant-loop-rest : goal.invariant-loop-rest
invariant-loop-rest g l = record {
  wrote : (out : List ℕ) × (l.bytes ≡ out ++ l.rest) × Appends (g.W.Write.contents l.initial.self.called.device) (g.W.Write.contents l.self.called.device) out;
  steady : IsSteady (counts_of l.initial.self) (counts_of l.self);
}

abbrev pub decreases-loop-rest : goal.decreases-loop-rest
decreases-loop-rest g l = length l.rest
