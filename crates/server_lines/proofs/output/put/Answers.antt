use Rattle.std.proofs.Common.{sym}
use Rattle.server_lines.proofs.Known.{sends_whole, cut_whole_then}
use Rattle.server_lines.proofs.output.put.Goals as goal

pub returns-in-Ok-write_whole-clause-ok : goal.returns-in-Ok-write_whole-clause-ok
returns-in-Ok-write_whole-clause-ok g c = sends_whole _ _ _ _ _ _ _ (sym c.if-keep.ensures) c.in-Ok.ensures.ok.0 c.in-Ok.ensures.ok.1 c.in-Ok-write_whole.ensures.ok

pub returns-in-Err-write_whole-clause-err : goal.returns-in-Err-write_whole-clause-err
returns-in-Err-write_whole-clause-err g c = cut_whole_then _ _ _ _ _ _ (sym c.if-keep.ensures) c.in-Ok.ensures.ok.1 c.in-Err-write_whole.ensures.err
