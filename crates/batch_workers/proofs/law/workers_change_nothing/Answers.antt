use Rattle.std.specs.Prelude.{string_bytes}
use Rattle.load_rounds.proofs.KeyByKey.{one-state, one-text, one-count}
use Rattle.load_rounds.proofs.SharedKeyByKey.{answered-alike}
use Rattle.batch_workers.proofs.law.workers_change_nothing.Goals as goal

pub returns-clause-one : goal.returns-clause-one
returns-clause-one g c = λ old turned worked p text_of turn work t w.
    let may = g.S.Source.may_answer in
    let item = g.S.PerKey.item_at in
    let by_key = (g.met.S.PerKey g.world.𝓛 g.world.𝓜 g.world.𝓡 ((λ s x. x), (λ x. x), (λ x. x), (λ x. x))).key_by_key in (
      one-text may item by_key old worked turned p text_of (string_bytes work.text) (string_bytes turn.text) work.rounds turn.rounds w t,
      one-count may item by_key old worked turned p text_of (string_bytes work.text) (string_bytes turn.text) work.rounds turn.rounds w t,
      one-state may item by_key old worked turned p text_of (string_bytes work.text) (string_bytes turn.text) work.rounds turn.rounds w t,
    )

pub returns-clause-several : goal.returns-clause-several
returns-clause-several g c =
    let by_key = (g.met.S.PerKey g.world.𝓛 g.world.𝓜 g.world.𝓡 ((λ s x. x), (λ x. x), (λ x. x), (λ x. x))).key_by_key in
    answered-alike g.S.Source.may_answer g.S.PerKey.item_at by_key
