use Rattle.std.proofs.Common.{◌≡◌, ◌<◌, ◌∙◌, ℕ, length, sym, ap, refl, arith, true, Some}
use Rattle.std.specs.Prelude.{slice_get}
use Rattle.rounds_by_hand.specs.declared.pending.Pending.{Pending}
use Rattle.rounds_by_hand.specs.declared.pending.Pending.TheVariants.{In}
use Rattle.rounds_by_hand.specs.Pending.{is_in_at}
use Rattle.rounds_by_hand.proofs.Orders.{set-set, set-back, get-at}
use Rattle.rounds_by_hand.proofs.pending.take_reply.Goals as goal

pub returns-in_ok-reply_with-in-Out-clause-taken : goal.returns-in_ok-reply_with-in-Out-clause-taken
returns-in_ok-reply_with-in-Out-clause-taken c =
    let ps = c.args.pending.now.items in
    let i : ℕ = c.args.number in
    let was : Pending = c.index_mut.result.now in
    let lt : i < length ps = omega (arith, c.if-number-len.false, c.len.ensures, c.args.pending.now.ok) in
    let found = get-at ps i was lt c.index_mut.ensures.value in
    record {
      order = c.in-Out.order;
      reply = c.in_ok-reply_with-in-Out.field-0;
      was = found ∙ ap Some (sym c.replace.ensures.value ∙ c.in-Out.is);
      loader = c.in_ok-reply_with-in-Out.ensures.loader;
      keys = c.in_ok-reply_with-in-Out.ensures.keys;
      outcomes = c.in_ok-reply_with-in-Out.ensures.outcomes;
      put = set-set ps i c.replace.new.dest (In c.in_ok-reply_with-in-Out.field-0);
    }

pub returns-in-In-clause-replied : goal.returns-in-In-clause-replied
returns-in-In-clause-replied c =
    let ps = c.args.pending.now.items in
    let i : ℕ = c.args.number in
    let was : Pending = c.index_mut.result.now in
    let lt : i < length ps = omega (arith, c.if-number-len.false, c.len.ensures, c.args.pending.now.ok) in
    let found : slice_get ps i ≡ Some (In c.in-In.earlier) = get-at ps i was lt c.index_mut.ensures.value ∙ ap Some (sym c.replace.ensures.value ∙ c.in-In.is) in
    let there : is_in_at (slice_get ps i) ≡ true = ap is_in_at found in
    (λ _. there, λ _. refl)

pub returns-in-In-clause-kept : goal.returns-in-In-clause-kept
returns-in-In-clause-kept c = λ _.
    let ps = c.args.pending.now.items in
    let i : ℕ = c.args.number in
    let was : Pending = c.index_mut.result.now in
    let lt : i < length ps = omega (arith, c.if-number-len.false, c.len.ensures, c.args.pending.now.ok) in
    let same : was ≡ In c.in-In.earlier = sym c.replace.ensures.value ∙ c.in-In.is in
    rw (← same) (set-back ps i c.replace.new.dest was lt c.index_mut.ensures.value)
