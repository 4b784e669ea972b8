use Rattle.std.proofs.Common.{◌≡◌, ℕ, ◌-◌, ◌≤◌, List, [], ◌++◌, length}
use Rattle.std.specs.List.{All, flat_map}
use Rattle.std.specs.Io.KnownBytes.{Consumes}
use Rattle.server_lines.specs.Answering.{AreAnswers, by_calls}
use Rattle.server_lines.specs.Devices.{bound, calls_of, counts_of, device_of, given_of, IsSteady}
use Rattle.server_lines.specs.Lines.{IsLine, ended}
use Rattle.server_lines.specs.Output.{Sends}
use Rattle.server_lines.specs.Serving.{HasGrown}
use Rattle.server_lines.proofs.serving.serve.Given as goal

abbrev pub invariant-loop-n : goal.invariant-loop-n
invariant-loop-n g l = record {
  answered : (lines : List (List ℕ)) × (out : List ℕ) × All IsLine lines
      × Consumes (g.R.Read.remaining (device_of l.initial.reader)) (g.R.Read.remaining (device_of l.reader)) (flat_map ended lines ++ l.held.items)
      × (l.count ≡ length lines)
      × AreAnswers (by_calls g.F.FnMut) l.initial.answer lines out l.answer
      × Sends (g.W.Write.contents (device_of l.initial.writer)) [] (g.W.Write.contents (device_of l.writer)) l.pending.items out;
  callable : goal.F-IsAlwaysCallable g l.answer;
  sent : l.pending.items ≡ [];
  held : IsLine l.held.items;
  count : l.count ≤ given_of l.reader;
  grown : HasGrown (counts_of l.initial.reader) (counts_of l.reader);
  block : length l.block ≡ 65536;
  read : IsSteady (counts_of l.initial.reader) (counts_of l.reader);
  written : IsSteady (counts_of l.initial.writer) (counts_of l.writer);
}

abbrev pub decreases-loop-n : goal.decreases-loop-n
decreases-loop-n g l = bound - calls_of l.reader
