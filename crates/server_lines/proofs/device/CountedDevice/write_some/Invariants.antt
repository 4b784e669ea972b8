use Rattle.std.proofs.Common.{◌-◌}
use Rattle.std.specs.Io.KnownBytes.{Keeps}
use Rattle.server_lines.specs.Devices.{bound, counts_of, IsSteady}
use Rattle.server_lines.proofs.device.CountedDevice.write_some.Given as goal

abbrev pub invariant-loop-self : goal.invariant-loop-self
invariant-loop-self g l = record {
  kept : Keeps (g.W.Write.contents l.initial.self.called.device) (g.W.Write.contents l.self.called.device);
  steady : IsSteady (counts_of l.initial.self) (counts_of l.self);
}

abbrev pub decreases-loop-self : goal.decreases-loop-self
decreases-loop-self g l = bound - l.self.called.interrupted
