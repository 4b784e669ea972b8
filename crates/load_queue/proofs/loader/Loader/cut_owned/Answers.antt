use Rattle.std.proofs.Common.{rules, ◌≡◌, ◌+◌, ◌++◌, map, ap, length, arith, ◌∙◌, refl}
use Rattle.std.proofs.lemmas.List.{length-map, length-append}
use Rattle.load_memory.specs.Keys.{key_of}
use Rattle.load_queue.specs.Batches.{batches}
use Rattle.load_queue.specs.Loaders.{entered}
use Rattle.load_queue.specs.Logs.{asked_of}
use Rattle.load_queue.specs.Orders.{CutOf, cut_of}
use Rattle.load_queue.proofs.MarkLaws.{is-loader-later, is-loader-more}
use Rattle.load_queue.proofs.PieceLaws.{are-batches, keys-of-orders}
use Rattle.load_queue.proofs.loader.Loader.cut_owned.Goals as goal
use Rattle.load_queue.proofs.loader.Loader.cut_owned.Goals.{then-self-round, else-self-round}

pub returns-clause-pieces : goal.returns-clause-pieces
returns-clause-pieces g c =
    let cut = c.in_ok-orders.ensures ∙ ap (map (cut_of c.self.inside.identity c.args.loader)) (rw c.deref.ensures.value at c.piece_length-most.ensures.pieces) in
    rw (← c.self.view_is, cut, keys-of-orders) (are-batches c.self.inside.limit (map key_of c.args.keys.items) c.self.invariant.limited)

pub returns-clause-entered : goal.returns-clause-entered
returns-clause-entered g c =
    let log = c.self.inside.log.items in
    let orders = c.in_ok-orders.orders.items in
    let cut = c.in_ok-orders.ensures ∙ ap (map (cut_of c.self.inside.identity c.args.loader)) (rw c.deref.ensures.value at c.piece_length-most.ensures.pieces) in
    let ks = batches c.self.inside.limit (map key_of c.args.keys.items) in
    let own : map (λ (o : CutOf). o.keys) c.deref-2.result.now ≡ ks = rw (c.deref-2.ensures.value, cut) (keys-of-orders c.self.inside.identity c.args.loader ks) in
    let all : map asked_of c.enter.new.log.items ≡ map asked_of log ++ map (entered c.args.round) ks = c.in_ok-enter.ensures.entered ∙ ap (λ qs. map asked_of log ++ map (entered c.args.round) qs) own in
    let many : length orders ≡ length ks = ap length cut ∙ length-map ks (cut_of c.self.inside.identity c.args.loader) in
    let count : c.in_ok-count.count ≡ c.self.inside.orders + length orders = search rules in
    let counted : c.in_ok-count.count ≡ c.self.inside.orders + length ks = count ∙ ap (λ n. c.self.inside.orders + n) many in
    elim c.if-self-round.branch [
      | then-self-round w ↦ rw (w.self-is, ← c.self.view_is, all, counted) refl
      | else-self-round w ↦ rw (w.self-is, ← c.self.view_is, all, counted) refl
    ]

pub invariant_of-self-then-self-round : goal.invariant_of-self-then-self-round
invariant_of-self-then-self-round g c =
    let log = c.self.inside.log.items in
    let ks = map (λ (o : CutOf). o.keys) c.deref-2.result.now in
    rw c.in_ok-enter.ensures.entered
    (is-loader-later c.self.inside.limit c.self.inside.latest c.self.inside.earlier c.args.round c.len-earlier.result (map asked_of log) ks c.if-self-round.true (omega (arith, c.len-earlier.ensures, length-map log asked_of)) c.self.invariant)

pub invariant_of-self-else-self-round : goal.invariant_of-self-else-self-round
invariant_of-self-else-self-round g c =
    let log = c.self.inside.log.items in
    let ks = map (λ (o : CutOf). o.keys) c.deref-2.result.now in
    rw c.in_ok-enter.ensures.entered
    (is-loader-more c.self.inside.limit c.self.inside.latest c.self.inside.earlier c.args.round (map asked_of log) ks (omega (arith, c.if-self-round.false)) c.self.invariant)

pub returns-clause-recorded : goal.returns-clause-recorded
returns-clause-recorded g c =
    let log = c.self.inside.log.items in
    let orders = c.in_ok-orders.orders.items in
    let ks = map (λ (o : CutOf). o.keys) c.deref-2.result.now in
    let many : length ks ≡ length orders = length-map c.deref-2.result.now (λ (o : CutOf). o.keys) ∙ ap length c.deref-2.ensures.value in
    let size : length (map asked_of c.enter.new.log.items) ≡ length (map asked_of log) + length (map (entered c.args.round) ks) = ap length c.in_ok-enter.ensures.entered ∙ length-append (map asked_of log) (map (entered c.args.round) ks) in
    let entries : length (map asked_of c.enter.new.log.items) ≡ length (map asked_of log) + length orders = omega (arith, size, length-map ks (entered c.args.round), many) in
    let count : c.in_ok-count.count ≡ c.self.inside.orders + length orders = search rules in
    elim c.if-self-round.branch [
      | then-self-round w ↦ rw (w.self-is, ← c.self.view_is) (record { same = refl; made = length orders; orders = count; entries = entries })
      | else-self-round w ↦ rw (w.self-is, ← c.self.view_is) (record { same = refl; made = length orders; orders = count; entries = entries })
    ]

pub returns-in_err-enter-clause-recorded : goal.returns-in_err-enter-clause-recorded
returns-in_err-enter-clause-recorded g c =
    let entries : length (map asked_of c.enter.new.log.items) ≡ length (map asked_of c.self.inside.log.items) + 0 = omega (arith, ap length (ap (map asked_of) c.in_err-enter.ensures.kept)) in
    rw (← c.self.view_is) (record { same = refl; made = 0; orders = omega arith; entries = entries })
