use Rattle.std.proofs.Common.{◌≡◌, ℕ, ◌+◌, ◌≤◌, List, ◌++◌, length}
use Rattle.std.specs.List.{All, flat_map}
use Rattle.server_lines.specs.Answering.{AreAnswers, by_calls}
use Rattle.server_lines.specs.Devices.{counts_of, device_of, IsSteady}
use Rattle.server_lines.specs.Lines.{IsLine, ended}
use Rattle.server_lines.specs.Output.{Sends}
use Rattle.server_lines.proofs.feed.feed.Given as goal

abbrev pub invariant-loop-line : goal.invariant-loop-line
invariant-loop-line g l = record {
  answered : (lines : List (List ℕ)) × (out : List ℕ) × (l.initial.held.items ++ l.block ≡ flat_map ended lines ++ (l.held.items ++ l.rest)) × All IsLine lines × (l.count ≡ length lines)
      × AreAnswers (by_calls g.F.FnMut) l.initial.answer lines out l.answer
      × Sends (g.W.Write.contents (device_of l.initial.writer)) l.initial.pending.items (g.W.Write.contents (device_of l.writer)) l.pending.items out;
  callable : goal.F-IsAlwaysCallable g l.answer;
  held : IsLine l.held.items;
  count : l.count + length l.rest ≤ length l.block;
  steady : IsSteady (counts_of l.initial.writer) (counts_of l.writer);
}

abbrev pub decreases-loop-line : goal.decreases-loop-line
decreases-loop-line g l = length l.rest
