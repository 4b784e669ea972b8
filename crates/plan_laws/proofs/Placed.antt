-- Lemmas on where the fields of a document stand in the list of all of them, and that their selection sets can
-- be merged.
use Rattle.std.proofs.Common.{◌≡◌, ◌∙◌, sym, ap, subst, ℕ, zero, suc, ◌+◌, List, [], ◌∷◌, ◌++◌, length, append_assoc, append-nil, refl, Option, Some, inl, inr, arith}
use Rattle.std.specs.Prelude.{All, slice_get, bytes_eq}
use Rattle.std.proofs.lemmas.Bool.{cond_both}
use Rattle.std.proofs.lemmas.List.Elements.{filter_map-append, All-head, All-tail}
use Rattle.text_place.specs.declared.place.Place.{Place}
use Rattle.gq_parser.specs.Tree.{Argument, Directive, Selection, Field, Below, SelectionSet, set_at, Selections, and_selection, Operation, Fragment, Document}
use Rattle.schema_syntax.specs.Tree.{Definition}
use Rattle.rules_parts.specs.declared.part.Owner.{Owner}
use Rattle.rules_parts.specs.declared.part.Owner.TheVariants as owner
use Rattle.rules_parts.specs.Parts.{SelectionPart, FieldPart}
use Rattle.rules_parts.specs.Parents.{known_field, inside_operation, inside_field, inside_condition}
use Rattle.rules_parts.specs.Selections.{selections_in, selections_among, selections_from, selections_below, operation_selections, fragment_selections}
use Rattle.rules_parts.specs.Listing.{field_part, fields_in, parts_of}
use Rattle.merging_pairs.specs.Merging.{CanMerge}
use Rattle.merging_pairs.specs.Numbered.{is_in}
use Rattle.merging_members.specs.Members.{count_in, count_from, count_operations, members_in, members_among, members_named, members_of_fragment, SetOf, own_set, sets_in, sets_among, sets_from, sets_below, operation_sets, fragment_sets, sets_of}
use Rattle.merging_fields.specs.Members.{fields_of}
use Rattle.execution.specs.Loads.{IsOneOf}
use Rattle.gq_check.specs.Plans.{fragment_in}
use Rattle.gq_check.specs.Valid.{CanBeMerged}
use Rattle.plan_laws.proofs.Options.{one-left, one-right}
use Rattle.plan_laws.proofs.Counted.{many, many-from, many-in, many-operations}

-- ---- a list from a place on

abbrev pub past : {A : Type 0} → ℕ → List A → List A
past zero xs = xs
past (suc n) [] = []
past (suc n) (x ∷ xs) = past n xs

past-next : {A : Type 0} (n : ℕ) (xs ys zs : List A) → past n xs ≡ ys ++ zs → past (n + length ys) xs ≡ zs
past-next zero xs [] zs h = h
past-next zero [] (y ∷ ys) zs h = absurd (cc h)
past-next zero (x ∷ xs) (y ∷ ys) zs h = let e : 0 + suc (length ys) ≡ suc (0 + length ys) = omega arith in rw e (past-next zero xs ys zs cc)
past-next (suc n) [] [] zs h = let e : suc n + 0 ≡ suc n = omega arith in rw e h
past-next (suc n) [] (y ∷ ys) zs h = absurd (cc h)
past-next (suc n) (x ∷ xs) ys zs h = let e : suc n + length ys ≡ suc (n + length ys) = omega arith in rw e (past-next n xs ys zs h)

past-get : {A : Type 0} (n : ℕ) (xs : List A) (y : A) (zs : List A) → past n xs ≡ y ∷ zs → slice_get xs n ≡ Some y
past-get zero [] y zs h = absurd (cc h)
past-get zero (x ∷ xs) y zs h = cc
past-get (suc n) [] y zs h = absurd (cc h)
past-get (suc n) (x ∷ xs) y zs h = past-get n xs y zs h

all-of : {A : Type 0} (P : A → Type 0) (xs : List A) (x : A) → All P xs → IsOneOf x xs → P x
all-of P [] x h i = absurd i
all-of P (y ∷ ys) x h (inl same) = subst P (sym same) (All-head P y ys h)
all-of P (y ∷ ys) x h (inr i) = all-of P ys x (All-tail P y ys h) i

module _ (defs : List Definition) (d : Document) where
  abbrev M : List ℕ → List ℕ
  M = members_of_fragment d

  -- these are the document's fields from the number n on, and each of the sets can be merged
  abbrev pub Stands : ℕ → List SelectionPart → Type 0
  Stands n parts = (rest : List FieldPart) × (past n (parts_of defs d).fields ≡ fields_in parts ++ rest)

  abbrev pub AllMerge : List SetOf → Type 0
  AllMerge sets = (s : SetOf) → IsOneOf s sets → CanMerge (fields_of (parts_of defs d)) (is_in s.members)

  abbrev pub IsAt : ℕ → List SelectionPart → List SetOf → Type 0
  IsAt n parts sets = Stands n parts × AllMerge sets

  module _ (n : ℕ) (xs ys : List SelectionPart) (s t : List SetOf) (at : IsAt n (xs ++ ys) (s ++ t)) where
    both : past n (parts_of defs d).fields ≡ fields_in xs ++ (fields_in ys ++ at.0.0)
    both = at.0.1 ∙ (ap (λ (fs : List FieldPart). fs ++ at.0.0) (filter_map-append field_part xs ys) ∙ append_assoc (fields_in xs) (fields_in ys) at.0.0)

    at-left : IsAt n xs s
    at-left = ((fields_in ys ++ at.0.0, both), λ x i. at.1 x (one-left s t x i))

    at-right : (m : ℕ) → many xs ≡ m → IsAt (n + m) ys t
    at-right m e = ((at.0.0, rw e at (past-next n (parts_of defs d).fields (fields_in xs) (fields_in ys ++ at.0.0) both)), λ x i. at.1 x (one-right s t x i))

  -- selections from the number n on, in a set of this parent type
  abbrev pub Placed : Owner → Option (List ℕ) → ℕ → Selections → Type 0
  Placed o parent n ss = IsAt n (selections_among defs o parent ss) (sets_among M n ss)

  abbrev pub PlacedOne : Owner → Option (List ℕ) → ℕ → Selection → Type 0
  PlacedOne o parent n s = IsAt n (selections_from defs o parent s) (sets_from M n s)

  abbrev pub PlacedSet : Owner → Option (List ℕ) → ℕ → SelectionSet → Type 0
  PlacedSet o parent n s = IsAt n (selections_in defs o parent s) (sets_in M n s)

  abbrev pub PlacedBelow : Owner → Option (List ℕ) → ℕ → Below → Type 0
  PlacedBelow o inside n b = IsAt n (selections_below defs o inside b) (sets_below M n b)

  pub placed-first : (o : Owner) (parent : Option (List ℕ)) (n : ℕ) (s : Selection) (ss : Selections) → Placed o parent n (and_selection s ss) → PlacedOne o parent n s
  placed-first o parent n s ss p = at-left n (selections_from defs o parent s) (selections_among defs o parent ss) (sets_from M n s) (sets_among M (n + count_from s) ss) p

  pub placed-rest : (o : Owner) (parent : Option (List ℕ)) (n : ℕ) (s : Selection) (ss : Selections) → Placed o parent n (and_selection s ss) → Placed o parent (n + count_from s) ss
  placed-rest o parent n s ss p = at-right n (selections_from defs o parent s) (selections_among defs o parent ss) (sets_from M n s) (sets_among M (n + count_from s) ss) p (count_from s) (many-from defs o parent s)

  pub placed-among : (o : Owner) (parent : Option (List ℕ)) (n : ℕ) (p : Place) (ss : Selections) → PlacedSet o parent n (set_at p ss) → Placed o parent n ss
  placed-among o parent n p ss h = (h.0, λ x i. h.1 x (one-left (sets_among M n ss) (own_set M n (set_at p ss)) x i))

  -- the set itself can be merged
  pub placed-merge : (o : Owner) (parent : Option (List ℕ)) (n : ℕ) (s : SelectionSet) → PlacedSet o parent n s → CanMerge (fields_of (parts_of defs d)) (is_in (members_in M n s))
  placed-merge o parent n (set_at p ss) h = h.1 (record { place = p; members = members_among M n ss }) (one-right (sets_among M n ss) (own_set M n (set_at p ss)) _ (inl refl))

  -- ---- a field

  abbrev pub field_at : Owner → Option (List ℕ) → Place → Option (List ℕ) → List ℕ → List Argument → List Directive → Below → FieldPart
  field_at o parent p alias name given ds b = record {
    owner = o;
    parent = parent;
    definition = known_field defs parent name;
    inside = inside_field defs (known_field defs parent name);
    place = p;
    alias = alias;
    name = name;
    arguments = given;
    directives = ds;
    below = b;
  }

  pub placed-field : (o : Owner) (parent : Option (List ℕ)) (n : ℕ) (p : Place) (alias : Option (List ℕ)) (name : List ℕ) (given : List Argument) (ds : List Directive) (b : Below) → PlacedOne o parent n (Field p alias name given ds b)
      → (slice_get (parts_of defs d).fields n ≡ Some (field_at o parent p alias name given ds b)) × PlacedBelow o (inside_field defs (known_field defs parent name)) (n + 1) b
  placed-field o parent n p alias name given ds b h = (
    past-get n (parts_of defs d).fields _ _ h.0.1,
    ((h.0.0, past-next n (parts_of defs d).fields (field_at o parent p alias name given ds b ∷ []) _ h.0.1), h.1),
  )

  -- ---- operations and fragments

  pub record OperationAt (o : Operation) : Type 0 where
    pub number : ℕ
    pub start : ℕ
    pub placed : PlacedSet (owner.Operation number) (inside_operation defs) start o.selection_set

  operation-at : (i n : ℕ) (os : List Operation) (o : Operation) → IsOneOf o os → IsAt n (operation_selections defs i os) (operation_sets M n os) → OperationAt o
  operation-at i n [] o among at = absurd among
  operation-at i n (x ∷ os) o among at =
      let own = selections_in defs (owner.Operation i) (inside_operation defs) x.selection_set in
      let sets = sets_in M n x.selection_set in
      elim among [
        | inl same ↦ rw same (record { number = i; start = n; placed = at-left n own (operation_selections defs (i + 1) os) sets (operation_sets M (n + count_in x.selection_set) os) at })
        | inr later ↦ operation-at (i + 1) (n + count_in x.selection_set) os o later
            (at-right n own (operation_selections defs (i + 1) os) sets (operation_sets M (n + count_in x.selection_set) os) at _ (many-in defs (owner.Operation i) (inside_operation defs) x.selection_set))
      ]

  -- the fragment of a name, with what it has by a number of fragments that may be entered inside it
  pub record FragmentAt (base : ℕ) (fs : List Fragment) (name : List ℕ) (f : Fragment) : Type 0 where
    pub number : ℕ
    pub start : ℕ
    pub placed : PlacedSet (owner.Fragment number) (inside_condition defs f.condition) start f.selection_set
    pub members : (spread : List ℕ → List ℕ) → members_named spread base fs name ≡ members_in spread start f.selection_set

  fragment-at : (i n : ℕ) (fs : List Fragment) (name : List ℕ) (f : Fragment) → fragment_in fs name ≡ Some f → IsAt n (fragment_selections defs i fs) (fragment_sets M n fs) → FragmentAt n fs name f
  fragment-at i n [] name f found at = absurd (cc found)
  fragment-at i n (x ∷ fs) name f found at =
      let own = selections_in defs (owner.Fragment i) (inside_condition defs x.condition) x.selection_set in
      let sets = sets_in M n x.selection_set in
      cond_both (bytes_eq name x.name) _ _ (λ (o : Option Fragment). o ≡ Some f → FragmentAt n (x ∷ fs) name f)
      (λ e k. let same : x ≡ f = cc in subst (FragmentAt n (x ∷ fs) name) same (record { number = i; start = n; placed = at-left n own (fragment_selections defs (i + 1) fs) sets (fragment_sets M (n + count_in x.selection_set) fs) at; members = λ spread. rw e refl }))
      (λ e k. let r = fragment-at (i + 1) (n + count_in x.selection_set) fs name f k
      (at-right n own (fragment_selections defs (i + 1) fs) sets (fragment_sets M (n + count_in x.selection_set) fs) at _ (many-in defs (owner.Fragment i) (inside_condition defs x.condition) x.selection_set)) in
      record { number = r.number; start = r.start; placed = r.placed; members = λ spread. rw e (r.members spread) }) found

  module _ (merging : CanBeMerged (parts_of defs d)) where
    abbrev of_operations : List SelectionPart
    of_operations = operation_selections defs 0 d.operations

    abbrev of_fragments : List SelectionPart
    of_fragments = fragment_selections defs 0 d.fragments

    whole : IsAt 0 (of_operations ++ of_fragments) (sets_of d)
    whole = (([], sym (append-nil (fields_in (of_operations ++ of_fragments)))), λ s i. all-of (λ (x : SetOf). CanMerge (fields_of (parts_of defs d)) (is_in x.members)) (sets_of d) s merging i)

    pub operation-placed : (o : Operation) → IsOneOf o d.operations → OperationAt o
    operation-placed o among = operation-at 0 0 d.operations o among (at-left 0 of_operations of_fragments (operation_sets M 0 d.operations) (fragment_sets M (count_operations d.operations) d.fragments) whole)

    pub fragment-placed : (name : List ℕ) (f : Fragment) → fragment_in d.fragments name ≡ Some f → FragmentAt (count_operations d.operations) d.fragments name f
    fragment-placed name f found =
        let start : 0 + count_operations d.operations ≡ count_operations d.operations = omega arith in
        fragment-at 0 (count_operations d.operations) d.fragments name f found (rw start at
        (at-right 0 of_operations of_fragments (operation_sets M 0 d.operations) (fragment_sets M (count_operations d.operations) d.fragments) whole _ (many-operations defs 0 d.operations)))
