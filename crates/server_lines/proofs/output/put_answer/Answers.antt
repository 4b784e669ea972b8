use Rattle.std.proofs.Common.{ap, ◌++◌}
use Rattle.server_lines.specs.Lines.{ended}
use Rattle.server_lines.proofs.Known.{sends_same, cut_same}
use Rattle.server_lines.proofs.output.put_answer.Goals as goal

pub returns-in-Ok-put_line-clause-ok : goal.returns-in-Ok-put_line-clause-ok
returns-in-Ok-put_line-clause-ok g c = rw c.in-Ok.is (sends_same _ _ _ _ _ _ c.in-Ok-put_line.ensures.ok (ap ended c.as_bytes.ensures.value))

pub returns-in-Ok-clause-err : goal.returns-in-Ok-clause-err
returns-in-Ok-clause-err g c = rw c.in-Ok.is (cut_same _ _ _ _ c.in-Err.ensures.err (ap (λ text. c.args.pending.now.items ++ ended text) c.as_bytes.ensures.value))
