use Rattle.server_lines.proofs.Widening.{serves_kept}
use Rattle.server.specs.Lines.{serving}
use Rattle.world_answers.specs.Answers.{may_tell}
use Rattle.world_answers.specs.Lines.{IsClientOf, answering}
use Rattle.world_answers.proofs.Serving.{line-direct, line-client, stopped-client}
use Rattle.world_answers.proofs.law.lines_are_direct.Goals as goal

pub returns : goal.returns
returns c = λ s f g d r is served.
    serves_kept (serving may_tell) (answering s) (λ x. x) (IsClientOf s)
    (λ x line text y holds h. ((h.0, h.1, line-direct s x line h.0 y holds h.2), line-client s x line h.0 y holds h.2))
    (λ e x line y holds h. (h, stopped-client s e x line y holds h))
    f g d r is served
