use Rattle.std.proofs.Common.{◌≡◌, ◌∙◌, ap, refl, ℕ, suc, ◌+◌, Bool, true, false, not, cond, length, List, [], ◌∷◌, map, Option, Some, None, arith, rules, tests}
use Rattle.std.specs.Prelude.{nat_lt, unwrap_or}
use Rattle.std.specs.List.{position_or_len}
use Rattle.std.proofs.lemmas.Iterator.{YieldsList-from_slice}
use Rattle.std.proofs.lemmas.Iterator.Search.{position_from_yields_List}
use Rattle.gq_schema.specs.Places.{place_from}
use Rattle.gq_schema.specs.Types.{tree_of}
use Rattle.rules_parts.specs.declared.part.FieldPart as rust
use Rattle.rules_parts.specs.Parts.{FieldPart, field_part_of}
use Rattle.merging_fields.specs.Attributes.{are_same}
use Rattle.merging_fields.proofs.attributes.number_of.Goals as goal

first_less : (n : ℕ) → nat_lt 0 (suc n) ≡ true
first_less n = grind arith

next_less : (m n : ℕ) → nat_lt (1 + m) (suc n) ≡ nat_lt m n
next_less m n = grind arith

-- the place of the first field that passes, in a list that begins at place n
first_place : (test : FieldPart → Bool) (n : ℕ) (fs : List rust.FieldPart) →
    let at = position_or_len (λ (f : rust.FieldPart). test (field_part_of f)) fs in
    cond (nat_lt at (length fs)) (Some (n + at)) None ≡ place_from n test (map field_part_of fs)
first_place test n [] = refl
first_place test n (f ∷ fs) = go (test (field_part_of f)) _ (first_place test (n + 1) fs)
  where
    go : (b : Bool) (at : ℕ) → cond (nat_lt at (length fs)) (Some ((n + 1) + at)) None ≡ place_from (n + 1) test (map field_part_of fs)
        → cond (nat_lt (cond (not b) (1 + at) 0) (suc (length fs))) (Some (n + cond (not b) (1 + at) 0)) None
        ≡ cond b (Some n) (place_from (n + 1) test (map field_part_of fs))
    go true at rest = let none : n + 0 ≡ n = omega arith in rw (first_less (length fs), none) refl
    go false at rest = let more : n + (1 + at) ≡ (n + 1) + at = omega arith in rw (next_less at (length fs), more) rest

pub returns : goal.returns
returns c =
    let test = are_same c.args.attribute (tree_of c.args.parts.now.schema.now) (field_part_of c.args.field.now) in
    let fields = c.args.parts.now.fields.items in
    let at = position_or_len (λ (f : rust.FieldPart). test (field_part_of f)) fields in
    let found = position_from_yields_List (λ (f : rust.FieldPart). test (field_part_of f)) _ _ c.position.result c.position.ensures.ran (YieldsList-from_slice fields cc) (λ x b q k. search (rules, tests)) in
    let none : at ≡ 0 + at = omega arith in
    let there = ap (λ (k : ℕ). cond (nat_lt at (length fields)) (Some k) None) none ∙ first_place test 0 fields in
    c.unwrap_or.ensures ∙ ap (λ (o : Option ℕ). unwrap_or o 0) (found ∙ there)
