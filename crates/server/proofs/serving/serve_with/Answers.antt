use Rattle.std.proofs.Common.{rules}
use Rattle.server_lines.proofs.Widening.{serves_behind}
use Rattle.server.specs.Lines.{serving}
use Rattle.server.proofs.serving.serve_with.Goals as goal

pub returns-in-Ok : goal.returns-in-Ok
returns-in-Ok g c =
    (serves_behind _ (serving g.S.Source.may_answer) (λ f. f.0) (λ _. Unit {0})
    (λ f line text left _ met. (met.1.0, met.0.0, tt)) (λ f line left _ e met. (met.1.1, met.0.0, tt)) _ _ _ _ _ tt (search rules) c.in-Ok.ensures).0

pub returns-in-Err : goal.returns-in-Err
returns-in-Err g c =
    (serves_behind _ (serving g.S.Source.may_answer) (λ f. f.0) (λ _. Unit {0})
    (λ f line text left _ met. (met.1.0, met.0.0, tt)) (λ f line left _ e met. (met.1.1, met.0.0, tt)) _ _ _ _ _ tt (search rules) c.in-Err.ensures).0
