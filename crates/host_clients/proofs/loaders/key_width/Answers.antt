use Rattle.std.proofs.Common.{◌∙◌, ap}
use Rattle.host_clients.specs.Lines.{by_in}
use Rattle.host_clients.specs.LoaderTexts.{width_by}
use Rattle.host_clients.proofs.loaders.key_width.Goals as goal

pub returns-in-Some-clause-width : goal.returns-in-Some-clause-width
returns-in-Some-clause-width c = c.width_of.ensures.width ∙ ap (λ line. width_by (by_in line)) c.in-Some.ensures

pub returns-in-None-clause-width : goal.returns-in-None-clause-width
returns-in-None-clause-width c = ap (λ line. width_by (by_in line)) c.in-None.ensures
