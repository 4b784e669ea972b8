use Rattle.std.proofs.Common.{◌≡◌, ◌<◌, ◌+◌, ◌++◌, ℕ, true, List, [], ◌∷◌, length, arith, refl, sym, ap}
use Rattle.std.proofs.lemmas.List.{length-append}
use Rattle.std.proofs.lemmas.Bool.{both_ways}
use Rattle.merging_pairs.specs.Sets.{has}
use Rattle.merging_pairs.specs.Merging.{Fields}
use Rattle.merging_pairs.specs.Numbered.{fields_of, members_at}
use Rattle.merging_pairs.specs.Table.{AreMarks, KnowsInner, Tells, Holds}
use Rattle.merging_pairs.proofs.MergeLaws.{rule-laws}
use Rattle.merging_pairs.proofs.TableLaws.{entry-within, below-push, step, tells-push, inner-push, inner-noted, fields-symmetric}
use Rattle.merging_pairs.proofs.table.table.Goals as goal

pub loop-b-init : goal.loop-b-init
loop-b-init c =
    let none : (a : ℕ) → has c.new-inner.result a ≡ true → ⊥ = λ a e. both_ways (has c.new-inner.result a) (c.new-inner.ensures a) e in
    rw c.in_ok-rows.ensures.items (record {
      len = refl;
      below = λ b a e. absurd (let h = entry-within [] b a e in omega arith);
      inner = record { below = λ a e. absurd (none a e); only = λ a e. absurd (none a e); all = λ a lt f. absurd (omega arith) };
      tells = λ x y h. absurd (omega arith);
    })

pub loop-b-preserved : goal.loop-b-preserved
loop-b-preserved c =
    let D : Fields ℕ = fields_of c.args.fields.now in
    let rows : List (List ℕ) = c.loop-b.rows.items in
    let new : List ℕ = c.next_row-row.result in
    let b : ℕ = c.loop-b.b in
    let members : List ℕ = c.members_of-members.result.now in
    let marks : List ℕ = c.marks_of-marks.result in
    let inner : List ℕ = c.note_inner.new.inner in
    let lb : c.loop-b.b < length c.args.fields.now = c.loop-b-test.true in
    let items : c.push.new.self.items ≡ c.loop-b.rows.items ++ c.next_row-row.result ∷ [] = c.in_ok-push.ensures.items in
    let enters : (k : ℕ) → (fields_of c.args.fields.now).enters c.loop-b.b k ≡ has c.members_of-members.result.now k = λ k. ap (λ w. has w k) (sym c.members_of-members.ensures) in
    let marked : AreMarks c.loop-b.rows.items (has c.members_of-members.result.now) c.marks_of-marks.result = rw c.deref.ensures.value at c.marks_of-marks.ensures in
    let known : KnowsInner (fields_of c.args.fields.now) c.loop-b.rows.items c.note_inner.new.inner (c.loop-b.b + 1) =
    inner-noted D rows c.loop-b.inner inner marks members b enters marked c.note_inner.ensures.others c.note_inner.ensures.own c.loop-b.invariant.inner in
    let below : (x y : ℕ) → x < c.loop-b.b + 1 → (fields_of c.args.fields.now).enters x y ≡ true → y < c.loop-b.b = λ x y h e. let lt = c.requires.order x y e in omega arith in
    let laws = rule-laws D (fields-symmetric c.args.fields.now) (length c.args.fields.now) c.args.rule c.args.shapes.now c.requires.ready in
    let each : (a : ℕ) → a < c.loop-b.b → Tells (Holds c.args.rule (fields_of c.args.fields.now)) (fields_of c.args.fields.now) a c.loop-b.b (has c.next_row-row.result a) =
    λ a h. step c.args.rule D (length c.args.fields.now) c.args.shapes.now rows b members marks inner enters marked known a h (members_at c.args.fields.now a) (λ k. refl) laws (omega arith) lb (λ k e. below a k (omega arith) e) (λ k e. below b k (omega arith) e) c.loop-b.invariant.tells (has c.next_row-row.result a) (c.next_row-row.ensures.each a h) in
    rw items (record {
      len = omega (arith, length-append {A = List ℕ}, c.loop-b.invariant.len);
      below = below-push rows new b c.loop-b.invariant.len c.loop-b.invariant.below c.next_row-row.ensures.below;
      inner = inner-push D rows new inner b (b + 1) c.loop-b.invariant.len below known;
      tells = tells-push (Holds c.args.rule D) D rows new b (fields-symmetric c.args.fields.now) laws.swap c.loop-b.invariant.len c.loop-b.invariant.below c.next_row-row.ensures.below c.loop-b.invariant.tells each;
    })
