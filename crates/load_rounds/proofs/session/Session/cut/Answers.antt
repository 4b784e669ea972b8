use Rattle.std.proofs.Common.{◌≡◌, ◌<◌, ◌+◌, ℕ, length, arith, refl, ◌∙◌}
use Rattle.load_memory.specs.Pairs.{look}
use Rattle.load_memory.proofs.LoaderMemoryLaws.{SomeIff-at}
use Rattle.load_queue.specs.Wanted.{keys_wanted}
use Rattle.load_rounds.specs.Rounds.{first_keys}
use Rattle.load_rounds.proofs.Runs.{cut-state}
use Rattle.load_rounds.proofs.States.{entered-session, wanted-orders, state-lost, enters-nothing, on-err}
use Rattle.load_rounds.proofs.session.Session.cut.Goals as goal

pub returns-in_err-round-clause-lost : goal.returns-in_err-round-clause-lost
returns-in_err-round-clause-lost g c = λ loads wanted.
    let L = c.self.inside.loaders.items in
    let M = c.self.inside.memory in
    let r = c.self.inside.rounds in
    let keys = keys_wanted c.args.wants in
    let lined : length c.args.wants ≡ length L = rw (← c.self.view_is) at c.requires in
    let own = λ (m : ℕ) (lt : m < length L). wanted m (omega (arith, lt, lined)) in
    rw (← c.self.view_is) (on-err c.from_residual.result (record { loaders = 0; after = state-lost keys loads L own (r + 1) r r 0 L M M refl (enters-nothing (r + 1) r keys L) (λ l k. refl) }))

pub invariant_of-self : goal.invariant_of-self
invariant_of-self g c =
    let L = c.self.inside.loaders.items in
    let M = c.self.inside.memory in
    let r = c.self.inside.rounds in
    let keys = keys_wanted c.args.wants in
    let round = c.in_ok-round.round in
    let next : round ≡ r + 1 = SomeIff-at c.checked_add.result _ _ _ c.in_ok-round.ensures.ok_part c.checked_add.ensures in
    let lost = c.in_err-orders.ensures.lost in
    entered-session round r c.cut_all.new.rounds (first_keys lost.0 keys) L c.cut_all.new.loaders.items M M next c.self.invariant lost.1 refl

pub returns-in_err-orders-clause-lost : goal.returns-in_err-orders-clause-lost
returns-in_err-orders-clause-lost g c = λ loads wanted.
    let L = c.self.inside.loaders.items in
    let M = c.self.inside.memory in
    let r = c.self.inside.rounds in
    let keys = keys_wanted c.args.wants in
    let round = c.in_ok-round.round in
    let next : round ≡ r + 1 = SomeIff-at c.checked_add.result _ _ _ c.in_ok-round.ensures.ok_part c.checked_add.ensures in
    let lined : length c.args.wants ≡ length L = rw (← c.self.view_is) at c.requires in
    let own = λ (m : ℕ) (lt : m < length L). wanted m (omega (arith, lt, lined)) in
    let lost = c.in_err-orders.ensures.lost in
    rw (← c.self.view_is) (on-err c.from_residual-in_err-orders.result (record { loaders = lost.0; after = state-lost keys loads L own round r c.cut_all.new.rounds lost.0 c.cut_all.new.loaders.items M M next lost.1 (λ l k. refl) }))

pub invariant_of-self-2 : goal.invariant_of-self-2
invariant_of-self-2 g c =
    let L = c.self.inside.loaders.items in
    let M = c.self.inside.memory in
    let r = c.self.inside.rounds in
    let keys = keys_wanted c.args.wants in
    let round = c.in_ok-round.round in
    let next : round ≡ r + 1 = SomeIff-at c.checked_add.result _ _ _ c.in_ok-round.ensures.ok_part c.checked_add.ensures in
    entered-session round r c.cut_all.new.rounds keys L c.cut_all.new.loaders.items M M next c.self.invariant c.in_ok-orders.ensures.entered refl

pub returns-clause-orders : goal.returns-clause-orders
returns-clause-orders g c = λ loads wanted.
    let L = c.self.inside.loaders.items in
    let keys = keys_wanted c.args.wants in
    let lined : length c.args.wants ≡ length L = rw (← c.self.view_is) at c.requires in
    let own = λ (m : ℕ) (lt : m < length L). wanted m (omega (arith, lt, lined)) in
    rw (← c.self.view_is) (c.in_ok-orders.ensures.orders ∙ wanted-orders keys loads L own)

pub returns-clause-entered : goal.returns-clause-entered
returns-clause-entered g c = λ loads wanted.
    let L = c.self.inside.loaders.items in
    let M = c.self.inside.memory in
    let r = c.self.inside.rounds in
    let keys = keys_wanted c.args.wants in
    let round = c.in_ok-round.round in
    let next : round ≡ r + 1 = SomeIff-at c.checked_add.result _ _ _ c.in_ok-round.ensures.ok_part c.checked_add.ensures in
    let lined : length c.args.wants ≡ length L = rw (← c.self.view_is) at c.requires in
    let own = λ (m : ℕ) (lt : m < length L). wanted m (omega (arith, lt, lined)) in
    rw (← c.self.view_is) (cut-state keys loads L c.cut_all.new.loaders.items (look M.pairs) round r c.cut_all.new.rounds own next c.in_ok-orders.ensures.entered)
