use Rattle.std.proofs.Common.{◌≢◌, append_assoc}
use Rattle.query_command.proofs.origin.written_line.Goals as goal

pub returns : goal.returns
returns c =
    let some : c.args.line ≢ 0 = c.if-line-eq0.false in
    (λ e. absurd (some e), λ _. simp append_assoc c.in_ok-format.ensures.ok)
