-- What is inside a field of a document: the composite type of its definition.
use Rattle.std.proofs.Common.{◌≡◌, sym, ap, subst, refl, ℕ, ◌+◌, ◌<◌, List, length, get_or, map, [], ◌∷◌, ◌++◌, Option, Some, None}
use Rattle.std.specs.Prelude.{All}
use Rattle.std.proofs.lemmas.List.Elements.{All-nil, All-cons, All-head, All-tail, All-append, All-get_or}
use Rattle.gq_parser.specs.Tree.{Field, Spread, Inline, Below, nothing_below, below, SelectionSet, set_at, Selection, Selections, no_selection, and_selection, Operation, Fragment, Document}
use Rattle.schema_syntax.specs.Tree.{Definition}
use Rattle.rules_parts.specs.declared.part.Owner.{Owner}
use Rattle.rules_parts.specs.declared.part.Owner.TheVariants as owner
use Rattle.rules_parts.specs.declared.part.FieldPart as rust
use Rattle.rules_parts.specs.Parts.{FieldPart, SelectionPart, field_part_of}
use Rattle.rules_parts.specs.Parents.{known_field, inside_operation, inside_field, inside_condition, inside_inline}
use Rattle.rules_parts.specs.Selections.{selections_in, selections_among, selections_from, selections_below, operation_selections, fragment_selections}
use Rattle.rules_parts.specs.Listing.{field_part, fields_in, fields_of}

fields-append : (xs ys : List SelectionPart) → fields_in (xs ++ ys) ≡ fields_in xs ++ fields_in ys
fields-append [] ys = refl
fields-append (x ∷ xs) ys = go (field_part x) refl (fields-append xs ys)
  where
    go : (o : Option FieldPart) → field_part x ≡ o → fields_in (xs ++ ys) ≡ fields_in xs ++ fields_in ys → fields_in (x ∷ (xs ++ ys)) ≡ fields_in (x ∷ xs) ++ fields_in ys
    go None e rest = rw e rest
    go (Some f) e rest = rw e (ap (λ (fs : List FieldPart). f ∷ fs) rest)

-- what is inside a field is by its definition
abbrev pub IsInside : List Definition → FieldPart → Type 0
IsInside defs f = f.inside ≡ inside_field defs f.definition

module _ (defs : List Definition) where
  abbrev AreInside : List SelectionPart → Type 0
  AreInside parts = All (IsInside defs) (fields_in parts)

  both : (xs ys : List SelectionPart) → AreInside xs → AreInside ys → AreInside (xs ++ ys)
  both xs ys h k = subst (λ (fs : List FieldPart). All (IsInside defs) fs) (sym (fields-append xs ys)) (All-append (IsInside defs) (fields_in xs) (fields_in ys) h k)

  mutual
    in-set : (o : Owner) (parent : Option (List ℕ)) (s : SelectionSet) → AreInside (selections_in defs o parent s)
    in-set o parent (set_at p ss) = among o parent ss

    among : (o : Owner) (parent : Option (List ℕ)) (ss : Selections) → AreInside (selections_among defs o parent ss)
    among o parent no_selection = All-nil (IsInside defs)
    among o parent (and_selection s ss) = both (selections_from defs o parent s) (selections_among defs o parent ss) (in-selection o parent s) (among o parent ss)

    in-selection : (o : Owner) (parent : Option (List ℕ)) (s : Selection) → AreInside (selections_from defs o parent s)
    in-selection o parent (Field p alias name as' ds b) = All-cons (IsInside defs) _ (fields_in (selections_below defs o (inside_field defs (known_field defs parent name)) b)) refl (in-below o (inside_field defs (known_field defs parent name)) b)
    in-selection o parent (Spread p name ds) = All-nil (IsInside defs)
    in-selection o parent (Inline p c ds s) = in-set o (inside_inline defs parent c) s

    in-below : (o : Owner) (inside : Option (List ℕ)) (b : Below) → AreInside (selections_below defs o inside b)
    in-below o inside nothing_below = All-nil (IsInside defs)
    in-below o inside (below s) = in-set o inside s

  in-operations : (i : ℕ) (os : List Operation) → AreInside (operation_selections defs i os)
  in-operations i [] = All-nil (IsInside defs)
  in-operations i (o ∷ os) = both (selections_in defs (owner.Operation i) (inside_operation defs) o.selection_set) (operation_selections defs (i + 1) os) (in-set (owner.Operation i) (inside_operation defs) o.selection_set) (in-operations (i + 1) os)

  in-fragments : (i : ℕ) (fs : List Fragment) → AreInside (fragment_selections defs i fs)
  in-fragments i [] = All-nil (IsInside defs)
  in-fragments i (f ∷ fs) = both (selections_in defs (owner.Fragment i) (inside_condition defs f.condition) f.selection_set) (fragment_selections defs (i + 1) fs) (in-set (owner.Fragment i) (inside_condition defs f.condition) f.selection_set) (in-fragments (i + 1) fs)

  pub all-inside : (d : Document) → All (IsInside defs) (fields_of defs d)
  all-inside d = both (operation_selections defs 0 d.operations) (fragment_selections defs 0 d.fragments) (in-operations 0 d.operations) (in-fragments 0 d.fragments)

-- each of the fields that were read is so, where they are those of a document
pub inside-at : (defs : List Definition) (d : Document) (xs : List rust.FieldPart) → map field_part_of xs ≡ fields_of defs d → (i : ℕ) (x : rust.FieldPart) → i < length xs → x ≡ get_or xs i x → IsInside defs (field_part_of x)
inside-at defs d xs listed i x lt is =
    subst (λ (y : rust.FieldPart). IsInside defs (field_part_of y)) (sym is)
    (All-get_or (λ (y : rust.FieldPart). IsInside defs (field_part_of y)) xs i x lt
    (unmapped xs (subst (λ (fs : List FieldPart). All (IsInside defs) fs) (sym listed) (all-inside defs d))))
  where
    unmapped : (ys : List rust.FieldPart) → All (IsInside defs) (map field_part_of ys) → All (λ (y : rust.FieldPart). IsInside defs (field_part_of y)) ys
    unmapped [] h = All-nil (λ (y : rust.FieldPart). IsInside defs (field_part_of y))
    unmapped (y ∷ ys) h = All-cons (λ (z : rust.FieldPart). IsInside defs (field_part_of z)) y ys
        (All-head (IsInside defs) (field_part_of y) (map field_part_of ys) h) (unmapped ys (All-tail (IsInside defs) (field_part_of y) (map field_part_of ys) h))
