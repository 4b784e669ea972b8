use Rattle.std.proofs.Common.{map, ap, ◌∙◌}
use Rattle.load_queue.specs.Loaders.{as_made}
use Rattle.load_rounds.proofs.Histories.{calls-lead}
use Rattle.load_rounds.proofs.Stepping.{steps-made}
use Rattle.load_rounds.proofs.law.calls_keep_loaders.Goals as goal

pub returns : goal.returns
returns g c = λ calls old new h.
    let made = calls-lead g.S.LocalSource.may_tell calls old new h in
    let steps = made.1 in
    ap (λ s. map as_made s.loaders) steps.after ∙ steps-made old made.0
