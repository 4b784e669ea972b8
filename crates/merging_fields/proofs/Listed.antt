-- A document's parts list its fields as they are written.
use Rattle.std.proofs.Common.{◌≡◌, ◌∙◌, sym, ap, refl, ℕ, ◌+◌, ◌≤◌, List, [], ◌∷◌, ◌++◌, length, map, Option, Some, None, arith}
use Rattle.std.specs.Prelude.{slice_get}
use Rattle.std.specs.Option.{option_map}
use Rattle.std.proofs.lemmas.List.{map-append, length-map}
use Rattle.std.proofs.lemmas.Option.{slice_get-map}
use Rattle.gq_parser.specs.Tree.{Field, Spread, Inline, Below, nothing_below, below, SelectionSet, set_at, Selection, Selections, no_selection, and_selection, Operation, Fragment, Document}
use Rattle.schema_syntax.specs.Tree.{Definition}
use Rattle.merging_members.specs.Members.{count_below, count_operations, count_fragments}
use Rattle.merging_members.specs.Written.{written_in, written_among, written_from, written_below, written_operations, written_fragments, written_fields, own_below, belows}
use Rattle.merging_members.proofs.Places.{fields-followed, fields-count}
use Rattle.rules_parts.specs.declared.part.Owner.{Owner}
use Rattle.rules_parts.specs.declared.part.Owner.TheVariants as owner
use Rattle.rules_parts.specs.Parts.{FieldPart, SelectionPart}
use Rattle.rules_parts.specs.Parents.{known_field, inside_operation, inside_field, inside_condition, inside_inline}
use Rattle.rules_parts.specs.Selections.{selections_in, selections_among, selections_from, selections_below, operation_selections, fragment_selections}
use Rattle.rules_parts.specs.Listing.{field_part, fields_in, fields_of}
use Rattle.merging_fields.specs.Numbered.{as_written}

fields-append : (xs ys : List SelectionPart) → fields_in (xs ++ ys) ≡ fields_in xs ++ fields_in ys
fields-append [] ys = refl
fields-append (x ∷ xs) ys = go (field_part x) refl (fields-append xs ys)
  where
    go : (o : Option FieldPart) → field_part x ≡ o → fields_in (xs ++ ys) ≡ fields_in xs ++ fields_in ys → fields_in (x ∷ (xs ++ ys)) ≡ fields_in (x ∷ xs) ++ fields_in ys
    go None e rest = rw e rest
    go (Some f) e rest = rw e (ap (λ (fs : List FieldPart). f ∷ fs) rest)

both-written : (xs ys : List SelectionPart) (us vs : List Selection) → map as_written (fields_in xs) ≡ us → map as_written (fields_in ys) ≡ vs → map as_written (fields_in (xs ++ ys)) ≡ us ++ vs
both-written xs ys us vs e f = ap (map as_written) (fields-append xs ys) ∙ (map-append as_written (fields_in xs) (fields_in ys) ∙ (rw (e, f) refl))

module _ (defs : List Definition) where
  mutual
    in-written : (o : Owner) (parent : Option (List ℕ)) (s : SelectionSet) → map as_written (fields_in (selections_in defs o parent s)) ≡ written_in s
    in-written o parent (set_at p ss) = among-written o parent ss

    among-written : (o : Owner) (parent : Option (List ℕ)) (ss : Selections) → map as_written (fields_in (selections_among defs o parent ss)) ≡ written_among ss
    among-written o parent no_selection = refl
    among-written o parent (and_selection s ss) =
        both-written (selections_from defs o parent s) (selections_among defs o parent ss) (written_from s) (written_among ss) (from-written o parent s) (among-written o parent ss)

    from-written : (o : Owner) (parent : Option (List ℕ)) (s : Selection) → map as_written (fields_in (selections_from defs o parent s)) ≡ written_from s
    from-written o parent (Field p alias name as' ds b) = ap (λ (fs : List Selection). Field p alias name as' ds b ∷ fs) (below-written o (inside_field defs (known_field defs parent name)) b)
    from-written o parent (Spread p name ds) = refl
    from-written o parent (Inline p c ds s) = in-written o (inside_inline defs parent c) s

    below-written : (o : Owner) (inside : Option (List ℕ)) (b : Below) → map as_written (fields_in (selections_below defs o inside b)) ≡ written_below b
    below-written o inside nothing_below = refl
    below-written o inside (below s) = in-written o inside s

  operations-written : (i : ℕ) (os : List Operation) → map as_written (fields_in (operation_selections defs i os)) ≡ written_operations os
  operations-written i [] = refl
  operations-written i (o ∷ os) =
      both-written (selections_in defs (owner.Operation i) (inside_operation defs) o.selection_set) (operation_selections defs (i + 1) os) (written_in o.selection_set) (written_operations os)
      (in-written (owner.Operation i) (inside_operation defs) o.selection_set) (operations-written (i + 1) os)

  fragments-written : (i : ℕ) (fs : List Fragment) → map as_written (fields_in (fragment_selections defs i fs)) ≡ written_fragments fs
  fragments-written i [] = refl
  fragments-written i (f ∷ fs) =
      both-written (selections_in defs (owner.Fragment i) (inside_condition defs f.condition) f.selection_set) (fragment_selections defs (i + 1) fs) (written_in f.selection_set) (written_fragments fs)
      (in-written (owner.Fragment i) (inside_condition defs f.condition) f.selection_set) (fragments-written (i + 1) fs)

  pub listed-written : (d : Document) → map as_written (fields_of defs d) ≡ written_fields d
  listed-written d =
      both-written (operation_selections defs 0 d.operations) (fragment_selections defs 0 d.fragments) (written_operations d.operations) (written_fragments d.fragments)
      (operations-written 0 d.operations) (fragments-written 0 d.fragments)

  module _ (d : Document) (fields : List FieldPart) (listed : fields ≡ fields_of defs d) where
    written : map as_written fields ≡ written_fields d
    written = ap (map as_written) listed ∙ listed-written d

    -- the field of a number, as it is written
    pub written-at : (a : ℕ) (f : FieldPart) → slice_get fields a ≡ Some f → slice_get (written_fields d) a ≡ Some (as_written f)
    written-at a f e = ap (λ (fs : List Selection). slice_get fs a) (sym written) ∙ (slice_get-map as_written fields a ∙ ap (option_map as_written) e)

    pub below-at : (a : ℕ) (f : FieldPart) → slice_get fields a ≡ Some f → slice_get (belows (written_fields d)) a ≡ Some f.below
    below-at a f e = slice_get-map own_below (written_fields d) a ∙ ap (option_map own_below) (written-at a f e)

    many : length (written_fields d) ≡ length fields
    many = ap length (sym written) ∙ length-map fields as_written

    pub inside-at : (a : ℕ) (f : FieldPart) → slice_get fields a ≡ Some f → (a + 1) + count_below f.below ≤ length fields
    inside-at a f e = let le = fields-followed d a (as_written f) (written-at a f e) in let same = many in omega (arith, le, same)

    pub counted : count_operations d.operations + count_fragments d.fragments ≡ length fields
    counted = sym (fields-count d) ∙ many
