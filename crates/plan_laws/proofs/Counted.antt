-- The fields of a document are as many as are counted where they are written.
use Rattle.std.proofs.Common.{◌≡◌, ◌∙◌, ap, refl, ℕ, ◌+◌, ◌≤◌, List, [], ◌∷◌, ◌++◌, length, length-append, Option, arith}
use Rattle.std.proofs.lemmas.List.Elements.{filter_map-append}
use Rattle.gq_parser.specs.Tree.{Selection, Field, Spread, Inline, Below, nothing_below, below, SelectionSet, set_at, Selections, no_selection, and_selection, Operation, Fragment, Document}
use Rattle.schema_syntax.specs.Tree.{Definition}
use Rattle.rules_parts.specs.declared.part.Owner.{Owner}
use Rattle.rules_parts.specs.declared.part.Owner.TheVariants as owner
use Rattle.rules_parts.specs.Parts.{SelectionPart, FieldPart}
use Rattle.rules_parts.specs.Parents.{known_field, inside_operation, inside_field, inside_condition, inside_inline}
use Rattle.rules_parts.specs.Selections.{selections_in, selections_among, selections_from, selections_below, operation_selections, fragment_selections}
use Rattle.rules_parts.specs.Listing.{field_part, fields_in, parts_of}
use Rattle.merging_members.specs.Members.{count_in, count_among, count_from, count_below, count_operations, count_fragments}

-- the fields of a list of selections
abbrev pub many : List SelectionPart → ℕ
many parts = length (fields_in parts)

pub many-append : (xs ys : List SelectionPart) → many (xs ++ ys) ≡ many xs + many ys
many-append xs ys = ap (λ (fs : List FieldPart). length fs) (filter_map-append field_part xs ys) ∙ length-append (fields_in xs) (fields_in ys)

module _ (defs : List Definition) (o : Owner) where
  mutual
    pub many-in : (parent : Option (List ℕ)) (s : SelectionSet) → many (selections_in defs o parent s) ≡ count_in s
    many-in parent (set_at p ss) = many-among parent ss

    pub many-among : (parent : Option (List ℕ)) (ss : Selections) → many (selections_among defs o parent ss) ≡ count_among ss
    many-among parent no_selection = refl
    many-among parent (and_selection s ss) = omega (arith, many-from parent s, many-among parent ss, many-append (selections_from defs o parent s) (selections_among defs o parent ss))

    pub many-from : (parent : Option (List ℕ)) (s : Selection) → many (selections_from defs o parent s) ≡ count_from s
    many-from parent (Field p alias name as' ds b) = omega (arith, many-below (inside_field defs (known_field defs parent name)) b)
    many-from parent (Spread p name ds) = refl
    many-from parent (Inline p c ds s) = many-in (inside_inline defs parent c) s

    pub many-below : (inside : Option (List ℕ)) (b : Below) → many (selections_below defs o inside b) ≡ count_below b
    many-below inside nothing_below = refl
    many-below inside (below s) = many-in inside s

module _ (defs : List Definition) where
  pub many-operations : (i : ℕ) (os : List Operation) → many (operation_selections defs i os) ≡ count_operations os
  many-operations i [] = refl
  many-operations i (o ∷ os) =
      omega (arith, many-in defs (owner.Operation i) (inside_operation defs) o.selection_set, many-operations (i + 1) os, many-append (selections_in defs (owner.Operation i) (inside_operation defs) o.selection_set) (operation_selections defs (i + 1) os))

  many-fragments : (i : ℕ) (fs : List Fragment) → many (fragment_selections defs i fs) ≡ count_fragments fs
  many-fragments i [] = refl
  many-fragments i (f ∷ fs) =
      omega (arith, many-in defs (owner.Fragment i) (inside_condition defs f.condition) f.selection_set, many-fragments (i + 1) fs, many-append (selections_in defs (owner.Fragment i) (inside_condition defs f.condition) f.selection_set) (fragment_selections defs (i + 1) fs))

  pub many-document : (d : Document) → count_operations d.operations + count_fragments d.fragments ≤ length (parts_of defs d).fields
  many-document d = omega (arith, many-operations 0 d.operations, many-fragments 0 d.fragments, many-append (operation_selections defs 0 d.operations) (fragment_selections defs 0 d.fragments))
