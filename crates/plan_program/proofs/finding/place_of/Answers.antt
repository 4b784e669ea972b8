use Rattle.std.proofs.Common.{◌≡◌, ℕ, false, [], length, get_or, ◌∙◌, sym, ap, arith, inl, inr, subst, ◌≢◌}
use Rattle.std.specs.Prelude.{bytes_eq, position, List}
use Rattle.std.specs.Borrow.{Bor}
use Rattle.std.proofs.lemmas.List.{length-map}
use Rattle.std.proofs.lemmas.Bool.{cases_lt}
use Rattle.load_memory.proofs.RowLaws.{position-found, position-none}
use Rattle.plan_program.specs.declared.group.Group.{Group}
use Rattle.plan_program.specs.Finding.{keys_in}
use Rattle.plan_program.proofs.Grouping.{position_texts, key-at}
use Rattle.plan_program.proofs.finding.place_of.Goals as goal

pub returns-then-not-is_empty : goal.returns-then-not-is_empty
returns-then-not-is_empty c =
    let full : length c.args.table.now.keys ≢ 0 = λ e. cc (c.if-not-is_empty.ensures.1 e) in
    c.get_index_of.ensures.index ∙ position_texts c.args.key.now c.args.table.now.keys ∙ ap (position (bytes_eq c.args.key.now)) (c.requires (omega (arith, full, length-map c.args.table.now.keys (λ (k : Bor (List ℕ)). k.now))))

pub returns-then-eq : goal.returns-then-eq
returns-then-eq c =
    let gs = c.args.groups.now in
    let at = key-at gs c.loop-place.place c.index-groups-place.result (omega (arith, c.loop-place-test.true)) c.index-groups-place.is ∙ ap (λ (g : Group). g.key.now) c.index-groups-place.is in
    position-found (bytes_eq c.args.key.now) (keys_in gs) [] c.loop-place.place (omega (arith, c.loop-place-test.true, length-map gs (λ (g : Group). g.key.now))) c.loop-place.invariant
    (ap (bytes_eq c.args.key.now) at ∙ sym c.eq.ensures ∙ c.if-eq.true)

pub loop-place-preserved : goal.loop-place-preserved
loop-place-preserved c k lt =
    let gs = c.args.groups.now in
    let at = key-at gs c.loop-place.place c.index-groups-place.result (omega (arith, c.loop-place-test.true)) c.index-groups-place.is ∙ ap (λ (g : Group). g.key.now) c.index-groups-place.is in
    let here : bytes_eq c.args.key.now (get_or (keys_in gs) c.loop-place.place []) ≡ false = ap (bytes_eq c.args.key.now) at ∙ sym c.eq.ensures ∙ c.if-eq.false in
    elim (cases_lt k c.loop-place.place) [
      | inl before ↦ c.loop-place.invariant k before
      | inr after ↦ subst (λ n. bytes_eq c.args.key.now (get_or (keys_in gs) n []) ≡ false) (omega (arith, lt, after)) here
    ]

pub returns : goal.returns
returns c =
    let gs = c.args.groups.now in
    position-none (bytes_eq c.args.key.now) (keys_in gs) [] c.loop-place.place (omega (arith, c.loop-place-test.false, length-map gs (λ (g : Group). g.key.now))) c.loop-place.invariant
