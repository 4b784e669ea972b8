use Rattle.std.proofs.Common.{◌≡◌, ◌∙◌, ap, sym, ℕ, List, Option, length, map, arith}
use Rattle.std.proofs.Math.Path.{fun_ext}
use Rattle.std.proofs.lemmas.List.{length-map}
use Rattle.rules_parts.specs.Parts.{VariableUse, use_of}
use Rattle.rules_untyped.specs.VariableUseIndex.{numbers_by}
use Rattle.rules_spreads.specs.OwnerLists.{owner_rows}
use Rattle.rules_untyped.specs.UseRows.{Stands}
use Rattle.rules_untyped.proofs.UseLaws.{use_at-map, stood_more, alike_more}
use Rattle.rules_untyped.proofs.variable_use_index.VariableUseIndex.new.Goals as goal

pub loop-place-preserved : goal.loop-place-preserved
loop-place-preserved c =
    let uses = map use_of c.args.uses.now in
    let numbers = c.in_ok-numbers.numbers.items in
    let so_far = c.loop-place.stand_ins in
    let k = c.loop-place.place in
    let item = c.index-uses-place.result in
    let number = c.number_at-number.result in
    let same = ap (λ (u : VariableUse). u.owner) (use_at-map c.args.uses.now k item c.loop-place-test.true c.index-uses-place.is) in
    let own : Stands uses numbers item.owner number k = record { stands = same; numbered = sym (rw c.deref.ensures.value at c.number_at-number.ensures) } in
    let next = c.in_ok-stand.ensures uses numbers own c.loop-place.invariant.so_far in
    let placed : length so_far.items ≡ k = omega (arith, so_far.ok.0) in
    record {
      placed = omega (arith, c.in_ok-push.ensures.len);
      so_far = next.further;
      stood = rw c.in_ok-push.ensures.items (stood_more uses numbers so_far.items (owner_rows c.loop-place.rows) (owner_rows c.stand_in.new.rows) c.stand_in.new.lasts.items item.owner number k c.in_ok-stand.stand placed own next c.loop-place.invariant.stood);
      alike = rw c.in_ok-push.ensures.items (alike_more uses numbers so_far.items (owner_rows c.loop-place.rows) (owner_rows c.stand_in.new.rows) c.stand_in.new.lasts.items item.owner number k c.in_ok-stand.stand placed own next c.loop-place.invariant.alike);
    }

pub returns : goal.returns
returns c =
    let uses = map use_of c.args.uses.now in
    record {
      names = c.in_ok-names.ensures;
      numbers = c.in_ok-numbers.ensures ∙ ap (λ (number : List ℕ → Option ℕ). numbers_by number uses) (fun_ext c.in_ok-names.ensures);
      sound = λ s o there. let b = c.loop-place.invariant.so_far.sound s o there in (omega (arith, b.0, length-map c.args.uses.now use_of), b.1);
      stood = λ k within. c.loop-place.invariant.stood k (omega (arith, length-map c.args.uses.now use_of));
      alike = λ k within. c.loop-place.invariant.alike k (omega (arith, length-map c.args.uses.now use_of));
    }
