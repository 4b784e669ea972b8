use Rattle.std.proofs.Common.{◌≡◌, ◌≢◌, ◌<◌, ◌+◌, ◌++◌, ℕ, [], map, length, ap, ◌∙◌, sym, arith, false, ◌⊎◌, inl, inr, ◌≤◌, refl}
use Rattle.std.specs.Prelude.{vec_len}
use Rattle.std.proofs.lemmas.Bool.{eqb-true, eqb-false}
use Rattle.std.proofs.lemmas.List.{length-map, map-append}
use Rattle.std.proofs.lemmas.List.Elements.{All-nil, All-append}
use Rattle.load_queue.proofs.WantLaws.{length-taken, taken-other}
use Rattle.load_rounds.proofs.Running.{none-left}
use Rattle.load_memory.specs.Keys.{key_of}
use Rattle.load_queue.specs.Batches.{batches}
use Rattle.load_queue.specs.Orders.{order_of, asks, identities, IsCutBy}
use Rattle.load_queue.proofs.IdentityLaws.{cut-over}
use Rattle.load_queue.specs.Wanted.{keys_wanted}
use Rattle.execution.specs.Rounds.{rule_of}
use Rattle.load_rounds.specs.Rounds.{orders_by, first_keys}
use Rattle.load_rounds.proofs.States.{on-err}
use Rattle.load_rounds.proofs.Cutting.{asks-cut, identities-logged, cut-here, orders-past, logged-past, length-logged, enters-kept, enters-cut, more-orders, orders-skipped, enters-skipped, enters-all, orders-same, first-some}
use Rattle.load_rounds.proofs.round.cut_all.Goals as goal
use Rattle.load_rounds.proofs.round.cut_all.Goals.{then-not-is_empty, else-not-is_empty}

pub loop-loader-init : goal.loop-loader-init
loop-loader-init g c =
    let keys = keys_wanted c.args.wants.now in
    let old = c.args.loaders.now.items in
    let none = orders-past 0 0 keys (map rule_of old) (omega arith) in
    record {
      orders = ap (map asks) c.new-orders.ensures.items ∙ sym none;
      cut = rw c.new-orders.ensures.items (All-nil (IsCutBy old));
      entered = record { loaders = sym (logged-past false c.args.round 0 0 keys old (omega arith)); rounds = rw none (omega arith) };
      lined = refl;
      rest = λ m le. refl;
    }

pub loop-loader-preserved-then-is_empty : goal.loop-loader-preserved-then-is_empty
loop-loader-preserved-then-is_empty g c =
    let keys = keys_wanted c.args.wants.now in
    let i = c.loop-loader.loader in
    let old = c.args.loaders.now.items in
    let was = c.loop-loader.invariant in
    let own = none-left c.keys.result.now (eqb-true (length c.keys.result.now) 0 (sym c.is_empty.ensures ∙ c.if-is_empty.true)) in
    let none : keys i ≡ [] = sym (was.rest i (omega arith)) ∙ sym c.keys.ensures ∙ ap (map key_of) own in
    record {
      orders = was.orders ∙ sym (orders-skipped i keys (map rule_of old) none);
      cut = was.cut;
      entered = enters-skipped c.args.round i keys old c.loop-loader.loaders.items c.args.rounds.now c.loop-loader.rounds none was.entered;
      lined = was.lined;
      rest = λ m le. was.rest m (omega (arith, le));
    }

pub take_keys-keys-requires : goal.take_keys-keys-requires
take_keys-keys-requires g c =
    omega (arith, c.loop-loader-test.true, c.len-loader-end.ensures, c.args.loaders.now.ok.0, c.loop-loader.invariant.lined, c.requires.lined_up)

pub returns-in_err-more-clause-lost : goal.returns-in_err-more-clause-lost
returns-in_err-more-clause-lost g c =
    let keys = keys_wanted c.args.wants.now in
    let i = c.loop-loader.loader in
    on-err c.from_residual.result
    (i, enters-kept c.args.round i (first_keys i keys) c.args.loaders.now.items c.loop-loader.loaders.items c.args.rounds.now c.loop-loader.rounds c.index_mut.result.now c.cut_owned.new.self c.loop-loader.invariant.entered c.index_mut.ensures.value c.in_err-more.ensures.kept)

pub returns-in_err-orders-clause-lost : goal.returns-in_err-orders-clause-lost
returns-in_err-orders-clause-lost g c =
    let keys = keys_wanted c.args.wants.now in
    let i = c.loop-loader.loader in
    let lt : i < length c.loop-loader.loaders.items = omega (arith, c.loop-loader-test.true, c.len-loader-end.ensures, c.args.loaders.now.ok.0, ap length c.loop-loader.invariant.entered.loaders, length-logged false c.args.round 0 (first_keys i keys) c.args.loaders.now.items) in
    let own_keys : map key_of c.take_keys-keys.result.items ≡ keys i = c.take_keys-keys.ensures.keys ∙ c.loop-loader.invariant.rest i (omega arith) in
    let more = c.in_ok-more.more.items in
    let size : length more ≡ vec_len c.in_ok-more.more = omega (arith, c.in_ok-more.more.ok.0) in
    let either : ((more ≢ []) × (c.if-not-is_empty.rounds ≡ c.args.round)) ⊎ ((more ≡ []) × (c.if-not-is_empty.rounds ≡ c.loop-loader.rounds)) = elim c.if-not-is_empty.branch [
      | then-not-is_empty w ↦ inl (λ h. eqb-false (vec_len c.in_ok-more.more) 0 (sym c.is_empty-in-loop-loader.ensures ∙ w.if-not-is_empty.true) (sym size ∙ ap length h), w.rounds-is)
      | else-not-is_empty w ↦ inr (none-left more (size ∙ eqb-true (vec_len c.in_ok-more.more) 0 (sym c.is_empty-in-loop-loader.ensures ∙ w.if-not-is_empty.false)), w.rounds-is)
    ] in
    let grown = enters-cut c.args.round i keys c.args.loaders.now.items c.loop-loader.loaders.items c.args.rounds.now c.loop-loader.rounds c.if-not-is_empty.rounds c.loop-loader.invariant.entered c.index_mut.result.now c.cut_owned.new.self lt c.index_mut.ensures.value
    (map key_of c.take_keys-keys.result.items) own_keys c.in_ok-more.ensures.entered more c.in_ok-more.ensures.orders either c.requires.next in
    on-err c.from_residual-in_err-orders.result (i + 1, grown)

pub loop-loader-preserved : goal.loop-loader-preserved
loop-loader-preserved g c =
    let keys = keys_wanted c.args.wants.now in
    let i = c.loop-loader.loader in
    let lt : i < length c.loop-loader.loaders.items = omega (arith, c.loop-loader-test.true, c.len-loader-end.ensures, c.args.loaders.now.ok.0, ap length c.loop-loader.invariant.entered.loaders, length-logged false c.args.round 0 (first_keys i keys) c.args.loaders.now.items) in
    let own_keys : map key_of c.take_keys-keys.result.items ≡ keys i = c.take_keys-keys.ensures.keys ∙ c.loop-loader.invariant.rest i (omega arith) in
    let more = c.in_ok-more.more.items in
    let size : length more ≡ vec_len c.in_ok-more.more = omega (arith, c.in_ok-more.more.ok.0) in
    let either : ((more ≢ []) × (c.if-not-is_empty.rounds ≡ c.args.round)) ⊎ ((more ≡ []) × (c.if-not-is_empty.rounds ≡ c.loop-loader.rounds)) = elim c.if-not-is_empty.branch [
      | then-not-is_empty w ↦ inl (λ h. eqb-false (vec_len c.in_ok-more.more) 0 (sym c.is_empty-in-loop-loader.ensures ∙ w.if-not-is_empty.true) (sym size ∙ ap length h), w.rounds-is)
      | else-not-is_empty w ↦ inr (none-left more (size ∙ eqb-true (vec_len c.in_ok-more.more) 0 (sym c.is_empty-in-loop-loader.ensures ∙ w.if-not-is_empty.false)), w.rounds-is)
    ] in
    let grown = enters-cut c.args.round i keys c.args.loaders.now.items c.loop-loader.loaders.items c.args.rounds.now c.loop-loader.rounds c.if-not-is_empty.rounds c.loop-loader.invariant.entered c.index_mut.result.now c.cut_owned.new.self lt c.index_mut.ensures.value
    (map key_of c.take_keys-keys.result.items) own_keys c.in_ok-more.ensures.entered more c.in_ok-more.ensures.orders either c.requires.next in
    let old = c.args.loaders.now.items in
    let d = c.index_mut.result.now in
    let next = more-orders c.args.round i keys old c.loop-loader.loaders.items c.args.rounds.now c.loop-loader.rounds c.loop-loader.invariant.entered d c.cut_owned.new.self lt c.index_mut.ensures.value (rw own_keys at c.in_ok-more.ensures.entered) in
    let own : map asks more ≡ map (order_of i) (batches d.limit (keys i)) = ap (map asks) (rw own_keys at c.in_ok-more.ensures.orders) ∙ asks-cut d.identity i (batches d.limit (keys i)) in
    let here = cut-here c.args.round i (first_keys i keys) old c.loop-loader.loaders.items d c.loop-loader.invariant.entered.loaders lt c.index_mut.ensures.value (batches d.limit (map key_of c.take_keys-keys.result.items)) in
    record {
      cut = rw c.in_ok-orders.ensures (All-append (IsCutBy old) c.loop-loader.orders.items more c.loop-loader.invariant.cut (rw c.in_ok-more.ensures.orders here));
      orders = ap (map asks) c.in_ok-orders.ensures ∙ map-append asks c.loop-loader.orders.items more ∙ ap (λ os. os ++ map asks more) c.loop-loader.invariant.orders ∙ ap (λ os. orders_by 0 (map rule_of old) (first_keys i keys) ++ os) own ∙ sym next;
      entered = grown;
      lined = rw c.take_keys-keys.ensures.after (length-taken c.loop-loader.wants i) ∙ c.loop-loader.invariant.lined;
      rest = λ m le. rw c.take_keys-keys.ensures.after (taken-other c.loop-loader.wants i m (omega (arith, le))) ∙ c.loop-loader.invariant.rest m (omega (arith, le));
    }

pub returns-clause-orders : goal.returns-clause-orders
returns-clause-orders g c =
    let keys = keys_wanted c.args.wants.now in
    let n : ℕ = c.loop-loader.loader in
    let old = c.args.loaders.now.items in
    let all : length old ≤ n = omega (arith, c.loop-loader-test.false, c.len-loader-end.ensures, c.args.loaders.now.ok.0) in
    c.loop-loader.invariant.orders ∙ orders-same 0 (first_keys n keys) keys (map rule_of old) (λ m le lt. first-some keys n m (omega (arith, lt, all, length-map old rule_of)))

pub returns-clause-entered : goal.returns-clause-entered
returns-clause-entered g c =
    let keys = keys_wanted c.args.wants.now in
    let n : ℕ = c.loop-loader.loader in
    let old = c.args.loaders.now.items in
    let all : length old ≤ n = omega (arith, c.loop-loader-test.false, c.len-loader-end.ensures, c.args.loaders.now.ok.0) in
    enters-all c.args.round n keys old c.loop-loader.loaders.items c.args.rounds.now c.loop-loader.rounds all c.loop-loader.invariant.entered

pub returns-clause-cut : goal.returns-clause-cut
returns-clause-cut g c =
    let n : ℕ = c.loop-loader.loader in
    let old = c.args.loaders.now.items in
    let cur = c.loop-loader.loaders.items in
    let same : identities cur ≡ identities old = ap identities c.loop-loader.invariant.entered.loaders ∙ identities-logged false c.args.round 0 (first_keys n (keys_wanted c.args.wants.now)) old in
    cut-over old cur same c.loop-loader.orders.items c.loop-loader.invariant.cut
