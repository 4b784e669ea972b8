use Rattle.std.proofs.Common.{map, ap, ◌∙◌, refl}
use Rattle.std.specs.Prelude.{is_some}
use Rattle.load_memory.specs.Keys.{key_of, cache_of}
use Rattle.load_memory.specs.Pairs.{look}
use Rattle.execution.specs.Rounds.{rule_of, modes_of, without_failed}
use Rattle.execution.specs.Sessions.{Cell, without, is_cell}
use Rattle.load_rounds.proofs.States.{cached, same-memory, state-is}
use Rattle.load_rounds.proofs.session.Session.clear.Goals as goal

pub returns-clause-report : goal.returns-clause-report
returns-clause-report g c =
    let modes = modes_of (map rule_of c.self.inside.loaders.items) in
    let key = cached modes c.drop_failed.new.self.modes c.args.loader c.mode-mode.result (cache_of c.in_ok-key.key) (key_of c.args.key.now) (c.drop_failed.ensures.modes ∙ c.self.invariant.modes) c.mode-mode.ensures c.in_ok-key.ensures in
    rw (← c.self.view_is, ← key) (c.clear.ensures.found ∙ ap is_some (c.drop_failed.ensures.pairs c.args.loader (cache_of c.in_ok-key.key)))

pub returns-clause-after : goal.returns-clause-after
returns-clause-after g c =
    let modes = modes_of (map rule_of c.self.inside.loaders.items) in
    let key = cached modes c.drop_failed.new.self.modes c.args.loader c.mode-mode.result (cache_of c.in_ok-key.key) (key_of c.args.key.now) (c.drop_failed.ensures.modes ∙ c.self.invariant.modes) c.mode-mode.ensures c.in_ok-key.ensures in
    let old = without_failed (look c.self.inside.memory.pairs) in
    let cell : Cell = (c.args.loader, cache_of c.in_ok-key.key) in
    let gone = same-memory (look c.clear.new.self.pairs) (without (is_cell cell) old) (λ l k. rw (← c.drop_failed.ensures.pairs l k) (c.clear.ensures.pairs l k)) in
    rw (← c.self.view_is, ← key) (state-is c.self.inside.loaders.items c.self.inside.loaders.items (look c.clear.new.self.pairs) (without (is_cell cell) old) c.self.inside.rounds c.self.inside.rounds refl gone refl)
