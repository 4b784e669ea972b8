use Rattle.std.proofs.Common.{◌∷◌, [], map, ap, ◌∙◌, refl}
use Rattle.std.specs.Prelude.{is_none}
use Rattle.std.specs.Option.{option_or}
use Rattle.load_memory.specs.Keys.{key_of, cache_of}
use Rattle.load_memory.specs.Outcomes.{known, item_of}
use Rattle.load_memory.specs.Pairs.{PairOf, pair_of, look}
use Rattle.execution.specs.Rounds.{rule_of, modes_of, stored, without_failed}
use Rattle.execution.proofs.StoreLaws.{look-all_primed}
use Rattle.load_rounds.proofs.States.{cached, same-memory, state-is}
use Rattle.load_rounds.proofs.session.Session.prime.Goals as goal

pub returns-clause-report : goal.returns-clause-report
returns-clause-report g c =
    let modes = modes_of (map rule_of c.self.inside.loaders.items) in
    let key = cached modes c.drop_failed.new.self.modes c.args.loader c.mode-mode.result (cache_of c.in_ok-key.key) (key_of c.args.key.now) (c.drop_failed.ensures.modes ∙ c.self.invariant.modes) c.mode-mode.ensures c.in_ok-key.ensures in
    rw (← c.self.view_is, ← key) (c.in_ok-prime.ensures.found ∙ ap is_none (c.drop_failed.ensures.pairs c.args.loader (cache_of c.in_ok-key.key)))

pub returns-clause-after : goal.returns-clause-after
returns-clause-after g c =
    let modes = modes_of (map rule_of c.self.inside.loaders.items) in
    let key = cached modes c.drop_failed.new.self.modes c.args.loader c.mode-mode.result (cache_of c.in_ok-key.key) (key_of c.args.key.now) (c.drop_failed.ensures.modes ∙ c.self.invariant.modes) c.mode-mode.ensures c.in_ok-key.ensures in
    let old = without_failed (look c.self.inside.memory.pairs) in
    let pair : PairOf = pair_of c.args.loader (cache_of c.in_ok-key.key) (known (item_of c.args.item)) in
    let put = same-memory (look c.prime.new.self.pairs) (stored old (pair ∷ [])) (λ l k. c.in_ok-prime.ensures.pairs l k ∙ look-all_primed c.drop_failed.new.self.pairs (pair ∷ []) l k ∙ ap (λ x. option_or x (look (pair ∷ []) l k)) (c.drop_failed.ensures.pairs l k)) in
    rw (← c.self.view_is, ← key) (state-is c.self.inside.loaders.items c.self.inside.loaders.items (look c.prime.new.self.pairs) (stored old (pair ∷ [])) c.self.inside.rounds c.self.inside.rounds refl put refl)
