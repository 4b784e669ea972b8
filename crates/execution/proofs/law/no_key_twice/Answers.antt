use Rattle.std.proofs.Common.{refl, map}
use Rattle.execution.specs.Loads.{read}
use Rattle.execution.specs.Program.{needs}
use Rattle.execution.specs.Rounds.{any_answer}
use Rattle.execution.proofs.TwiceLaws.{together, again}
use Rattle.execution.proofs.law.no_key_twice.Goals as goal

pub returns-clause-front : goal.returns-clause-front
returns-clause-front c = λ modes p M. (needs p (read modes M), refl)

pub returns-clause-keys : goal.returns-clause-keys
returns-clause-keys c = λ modes loader keys M. (map (λ key. record { loader = loader; key = key }) keys, refl)

pub returns-clause-together : goal.returns-clause-together
returns-clause-together c = λ rules M loads positive lacking. together rules M loads positive lacking

pub returns-clause-again : goal.returns-clause-again
returns-clause-again c = λ rules M t positive h. again any_answer rules M t.first t.later t.replies t.others t.between t.cell positive h.steps h.first h.later
