-- Each field that execution can meet has a definition in the type of its object: a group holds fields of the document that stand in
-- sets of types that the object is of, and fields that stand together have one name.
use Rattle.std.proofs.Common.{◌≡◌, ◌≢◌, ◌∙◌, sym, ap, subst, refl, ℕ, zero, suc, ◌+◌, Bool, true, false, not, ◌||◌, ◌==◌, ◌⊎◌, List, [], ◌∷◌, ◌++◌, length, Option, Some, None, inl, inr, arith}
use Rattle.std.specs.Prelude.{slice_get, bytes_eq, codes}
use Rattle.std.proofs.lemmas.Bool.{cond_both, or_left, or_right, and_parts, both_ways, eq-eqb, cases_eq}
use Rattle.text_place.specs.declared.place.Place.{Place}
use Rattle.gq_parser.specs.Tree.{Argument, Directive, Condition, Selection, Field, Spread, Inline, Below, nothing_below, below, SelectionSet, set_at, Selections, no_selection, and_selection, Fragment, Document}
use Rattle.schema_syntax.specs.Tree.{Definition, Field as DefinedField}
use Rattle.gq_schema.specs.Types.{field_in, root_in, can_be, is_covariant, core_of}
use Rattle.gq_schema.specs.Fault.{fault_of}
use Rattle.gq_bindings.specs.Types.{is_object_type}
use Rattle.rules_parts.specs.declared.part.Owner.{Owner}
use Rattle.rules_parts.specs.declared.part.Owner.TheVariants as owner
use Rattle.rules_parts.specs.Parts.{FieldPart}
use Rattle.rules_parts.specs.Parents.{composite_in, inside_operation, inside_field, inside_condition}
use Rattle.rules_parts.specs.Listing.{parts_of}
use Rattle.rules_typed.specs.FieldSelections.{is_unknown, unknown_field}
use Rattle.merging_pairs.specs.Merging.{Fields, CanMerge, Merges}
use Rattle.merging_pairs.specs.Numbered.{is_in}
use Rattle.merging_pairs.proofs.MergeLaws.{can-gives}
use Rattle.merging_pairs.proofs.ReachLaws.{in-append}
use Rattle.merging_members.specs.Members.{count_from, members_in, members_among, members_from, members_below, members_entered, members_of_fragment}
use Rattle.merging_arguments.specs.Same.{same_arguments}
use Rattle.merging_fields.specs.Compare.{response_key, have_one_key, may_meet, do_agree}
use Rattle.merging_fields.specs.Members.{members_at, fields_of}
use Rattle.merging_fields.proofs.Twins.{at-is, test-is}
use Rattle.execution.specs.Loads.{IsOneOf}
use Rattle.gq_check.specs.Plans.{PlanOf, fragment_in}
use Rattle.gq_check.specs.Planned.{IsPlan}
use Rattle.gq_check.specs.Valid.{KeepsRules}
use Rattle.gq_check.proofs.Validity.{valid-keeps}
use Rattle.plan_program.specs.Chosen.{is_left_out, applies}
use Rattle.plan_program.specs.Groups.{FieldOf, GroupOf, Collected, Entering, nothing_collected, with_field, chosen_field, has_entered, collect_one, collect_set, collect_all, enter_fragment, entering, collect_from, collect, collect_subfields, selections_in, selections_below}
use Rattle.plan_program.specs.FieldValues.{sets_below}
use Rattle.plan_laws.specs.Met.{MayStand, is_typename, IsAskedBy, CanBeMet, of_root, inside}
use Rattle.plan_laws.proofs.Options.{by_option, got-one, none-kept, same-text, own-text}
use Rattle.plan_laws.proofs.Schemas.{IsFor, Serves, for-composite, object-alone, field-serves, may-object, may-for, may-itself, serves-type, root-object}
use Rattle.plan_laws.proofs.Placed.{Placed, PlacedOne, PlacedSet, PlacedBelow, placed-first, placed-rest, placed-among, placed-merge, field_at, placed-field, operation-placed, fragment-placed}
use Rattle.plan_laws.proofs.Valid.{prepared-among}

module _ (defs : List Definition) (d : Document) where
  abbrev pub D : Fields ℕ
  D = fields_of (parts_of defs d)

  -- a field that was collected for an object type, of the fields of these numbers
  pub record IsMember (ty : List ℕ) (M : ℕ → Type 0) (f : FieldOf) : Type 0 where
    pub number : ℕ
    pub member : M number
    pub part : FieldPart
    pub there : slice_get (parts_of defs d).fields number ≡ Some part
    pub parent : List ℕ
    pub in_parent : part.parent ≡ Some parent
    pub fits : IsFor defs parent ty
    pub key : f.key ≡ response_key part
    pub name : f.name ≡ part.name
    pub same : f.below ≡ part.below
    pub given : f.arguments ≡ part.arguments
    pub definition : part.definition ≡ field_in defs parent part.name
    pub owner_of : Owner
    pub placed : PlacedBelow defs d owner_of (inside_field defs part.definition) (number + 1) part.below

  -- fields of one response key
  pub record IsGroup (ty : List ℕ) (M : ℕ → Type 0) (g : GroupOf) : Type 0 where
    pub first : FieldOf
    pub others : List FieldOf
    pub some : g.fields ≡ first ∷ others
    pub members : (f : FieldOf) → IsOneOf f g.fields → IsMember ty M f
    pub keys : (f : FieldOf) → IsOneOf f g.fields → f.key ≡ g.key

  abbrev pub AreGroups : List ℕ → (ℕ → Type 0) → List GroupOf → Type 0
  AreGroups ty M gs = (g : GroupOf) → IsOneOf g gs → IsGroup ty M g

  one-of-last : (fs : List FieldOf) (f x : FieldOf) → IsOneOf x (fs ++ f ∷ []) → IsOneOf x fs ⊎ (x ≡ f)
  one-of-last [] f x (inl e) = inr e
  one-of-last [] f x (inr i) = absurd i
  one-of-last (y ∷ fs) f x i = grind (arith, one-of-last fs f x)

  module _ (ty : List ℕ) (M : ℕ → Type 0) where
    group-last : (g : GroupOf) (f : FieldOf) → bytes_eq f.key g.key ≡ true → IsGroup ty M g → IsMember ty M f → IsGroup ty M (record { key = g.key; fields = g.fields ++ f ∷ [] })
    group-last g f e is m = record {
      first = is.first;
      others = is.others ++ f ∷ [];
      some = ap (λ (fs : List FieldOf). fs ++ f ∷ []) is.some;
      members = λ x i. elim (one-of-last g.fields f x i) [ inl j ↦ is.members x j | inr s ↦ subst (IsMember ty M) (sym s) m ];
      keys = λ x i. elim (one-of-last g.fields f x i) [ inl j ↦ is.keys x j | inr s ↦ ap (λ (y : FieldOf). y.key) s ∙ same-text f.key g.key e ];
    }

    group-new : (f : FieldOf) → IsMember ty M f → IsGroup ty M (record { key = f.key; fields = f ∷ [] })
    group-new f m = record {
      first = f;
      others = [];
      some = refl;
      members = λ x i. elim i [ inl s ↦ subst (IsMember ty M) (sym s) m | inr j ↦ absurd j ];
      keys = λ x i. elim i [ inl s ↦ ap (λ (y : FieldOf). y.key) s | inr j ↦ absurd j ];
    }

    with-groups : (gs : List GroupOf) (f : FieldOf) → AreGroups ty M gs → IsMember ty M f → AreGroups ty M (with_field gs f)
    with-groups [] f are m = λ g i. elim i [ inl s ↦ subst (IsGroup ty M) (sym s) (group-new f m) | inr j ↦ absurd j ]
    with-groups (g ∷ gs) f are m = cond_both (bytes_eq f.key g.key) _ _ (AreGroups ty M)
        (λ e h i. elim i [ inl s ↦ subst (IsGroup ty M) (sym s) (group-last g f e (are g (inl refl)) m) | inr j ↦ are h (inr j) ])
        (λ _ h i. elim i [ inl s ↦ are h (inl s) | inr j ↦ with-groups gs f (λ k l. are k (inr l)) m h j ])

    -- ---- collecting

    abbrev Within : List ℕ → Type 0
    Within ms = (c : ℕ) → is_in ms c ≡ true → M c

    within-left : (xs ys : List ℕ) → Within (xs ++ ys) → Within xs
    within-left xs ys h c e = h c (in-append xs ys c ∙ or_left (is_in xs c) (is_in ys c) e)

    within-right : (xs ys : List ℕ) → Within (xs ++ ys) → Within ys
    within-right xs ys h c e = h c (in-append xs ys c ∙ or_right (is_in xs c) (is_in ys c) e)

    module _ (plan : PlanOf) (kept : fault_of defs ≡ None) (object : is_object_type defs ty ≡ true) (same_defs : plan.definitions ≡ defs) where
      abbrev Are : Collected → Type 0
      Are c = AreGroups ty M c.groups

      abbrev Collects : (List ℕ → List ℕ) → Entering → Type 0
      Collects spread enter = (so_far : Collected) (name : List ℕ) → Within (spread name) → Are so_far → Are (enter so_far name)

      member-of : (o : Owner) (parent : List ℕ) (n : ℕ) (p : Place) (alias : Option (List ℕ)) (name : List ℕ) (given : List Argument) (ds : List Directive) (b : Below) → IsFor defs parent ty
          → PlacedOne defs d o (Some parent) n (Field p alias name given ds b) → M n → IsMember ty M (chosen_field p alias name given b)
      member-of o parent n p alias name given ds b for h m =
          let f = placed-field defs d o (Some parent) n p alias name given ds b h in
          record {
            number = n;
            member = m;
            part = field_at defs d o (Some parent) p alias name given ds b;
            there = f.0;
            parent = parent;
            in_parent = refl;
            fits = for;
            key = refl;
            name = refl;
            same = refl;
            given = refl;
            definition = refl;
            owner_of = o;
            placed = f.1;
          }

      fragment-parent : (c : Condition) → applies plan (Some c) ty ≡ true → (inside_condition defs c ≡ Some c.name) × IsFor defs c.name ty
      fragment-parent c e =
          let can : can_be defs c.name ty ≡ true = subst (λ (ds : List Definition). can_be ds c.name ty ≡ true) same_defs e in
          (for-composite defs kept c.name ty object (inr can), inr can)

      module _ (spread : List ℕ → List ℕ) (enter : Entering) (enters : Collects spread enter) (o : Owner) where
        mutual
          collects-one : (parent : List ℕ) (n : ℕ) (s : Selection) (so_far : Collected) → IsFor defs parent ty → PlacedOne defs d o (Some parent) n s → Within (members_from spread n s) → Are so_far → Are (collect_one plan ty enter so_far s)
          collects-one parent n (Field p alias name given ds b) so_far for h within are = cond_both (is_left_out plan ds) _ _ Are (λ _. are)
              (λ _. with-groups so_far.groups (chosen_field p alias name given b) are (member-of o parent n p alias name given ds b for h (within n (or_left (n == n) false (eq-eqb n n refl)))))
          collects-one parent n (Spread p name ds) so_far for h within are = cond_both (is_left_out plan ds || has_entered so_far name) _ _ Are (λ _. are) (λ _. enters _ name within are)
          collects-one parent n (Inline p None ds set) so_far for h within are = cond_both (is_left_out plan ds || not (applies plan None ty)) _ _ Are (λ _. are) (λ _. collects-set parent n set so_far for h within are)
          collects-one parent n (Inline p (Some c) ds set) so_far for h within are = cond_both (is_left_out plan ds || not (applies plan (Some c) ty)) _ _ Are (λ _. are) (λ e.
              let f = fragment-parent c (grind arith) in
              collects-set c.name n set so_far f.1 (subst (λ (q : Option (List ℕ)). PlacedSet defs d o q n set) f.0 h) within are)

          collects-set : (parent : List ℕ) (n : ℕ) (s : SelectionSet) (so_far : Collected) → IsFor defs parent ty → PlacedSet defs d o (Some parent) n s → Within (members_in spread n s) → Are so_far → Are (collect_set plan ty enter so_far s)
          collects-set parent n (set_at p ss) so_far for h within are = collects-all parent n ss so_far for (placed-among defs d o (Some parent) n p ss h) within are

          collects-all : (parent : List ℕ) (n : ℕ) (ss : Selections) (so_far : Collected) → IsFor defs parent ty → Placed defs d o (Some parent) n ss → Within (members_among spread n ss) → Are so_far → Are (collect_all plan ty enter so_far ss)
          collects-all parent n no_selection so_far for h within are = are
          collects-all parent n (and_selection s ss) so_far for h within are =
              let own = members_from spread n s in
              let others = members_among spread (n + count_from s) ss in
              collects-all parent (n + count_from s) ss (collect_one plan ty enter so_far s) for (placed-rest defs d o (Some parent) n s ss h) (within-right own others within)
              (collects-one parent n s so_far for (placed-first defs d o (Some parent) n s ss h) (within-left own others within) are)

      module _ (keeps : KeepsRules (parts_of defs d)) (same_fragments : plan.fragments ≡ d.fragments) where
        enters : (left : ℕ) → Collects (members_entered left d) (entering plan ty left)
        enters zero so_far name within are = are
        enters (suc left) so_far name within are = by_option (λ o. Are (enter_fragment plan ty (entering plan ty left) so_far o)) (fragment_in plan.fragments name) (λ _. are) (λ f e.
            cond_both (applies plan (Some f.condition) ty) _ _ Are (λ a.
            let at = fragment-placed defs d keeps.merging name f (rw same_fragments at e) in
            let parent = fragment-parent f.condition a in
            collects-set (members_entered left d) (entering plan ty left) (enters left) (owner.Fragment at.number) f.condition.name at.start f.selection_set so_far parent.1
            (subst (λ (q : Option (List ℕ)). PlacedSet defs d (owner.Fragment at.number) q at.start f.selection_set) parent.0 at.placed) (subst Within (at.members (members_entered left d)) within) are) (λ _. are))

        -- the fragments that are entered are those whose members a set has
        enters-all : Collects (members_of_fragment d) (entering plan ty (length plan.fragments))
        enters-all = subst (λ (fs : List Fragment). Collects (members_of_fragment d) (entering plan ty (length fs))) (sym same_fragments) (enters (length d.fragments))

        pub collects-below : (o : Owner) (parent : List ℕ) (n : ℕ) (b : Below) (so_far : Collected) → IsFor defs parent ty → PlacedBelow defs d o (Some parent) n b
            → Within (members_below (members_of_fragment d) n b) → Are so_far → Are (collect_from plan ty so_far (selections_below b))
        collects-below o parent n nothing_below so_far for h within are = are
        collects-below o parent n (below (set_at p ss)) so_far for h within are =
            collects-all (members_of_fragment d) (entering plan ty (length plan.fragments)) enters-all o parent n ss so_far for (placed-among defs d o (Some parent) n p ss h) within are

  -- ---- fields that stand together merge

  abbrev pub AreMerged : (ℕ → Type 0) → Type 0
  AreMerged M = (a b : ℕ) → M a → M b → a ≢ b → D.one_key a b ≡ true → Merges D a b

  -- the field is a member of the selection set of one of them, of this response key, and each of these sets can be merged
  record IsBelow (ty key : List ℕ) (M : ℕ → Type 0) (c : ℕ) : Type 0 where
    from : FieldOf
    entry : IsMember ty M from
    key_is : from.key ≡ key
    member : D.enters entry.number c ≡ true
    merge : CanMerge D (D.enters entry.number)

  -- two fields of one response key
  module _ (ty : List ℕ) (M : ℕ → Type 0) (x y : FieldOf) (one_key : x.key ≡ y.key) (m : IsMember ty M x) (k : IsMember ty M y) where
    members-key : D.one_key m.number k.number ≡ true
    members-key = test-is have_one_key (parts_of defs d).fields m.number k.number m.part k.part m.there k.there
        ∙ (ap (bytes_eq (response_key m.part)) (sym k.key ∙ sym one_key ∙ m.key) ∙ own-text (response_key m.part))

    module _ (kept : fault_of defs ≡ None) where
      members-meet : D.meet m.number k.number ≡ true
      members-meet =
          let alike : is_object_type defs m.parent ≡ true → is_object_type defs k.parent ≡ true → bytes_eq m.parent k.parent ≡ true =
          λ h i. ap (λ (q : List ℕ). bytes_eq q k.parent) (object-alone defs kept m.parent ty h m.fits ∙ sym (object-alone defs kept k.parent ty i k.fits)) ∙ own-text k.parent in
          let meet : may_meet defs m.part k.part ≡ true = rw (m.in_parent, k.in_parent) (or-nots (bytes_eq m.parent k.parent) (is_object_type defs m.parent) (is_object_type defs k.parent) alike) in
          test-is (may_meet defs) (parts_of defs d).fields m.number k.number m.part k.part m.there k.there ∙ meet
        where
          or-nots : (a b c : Bool) → (b ≡ true → c ≡ true → a ≡ true) → (a || (not b || not c)) ≡ true
          or-nots a b c h = grind arith

      -- they have one name
      members-name : AreMerged M → m.part.name ≡ k.part.name
      members-name merged = elim (cases_eq m.number k.number) [
        | inl same ↦
            let other : Some m.part ≡ Some k.part = sym m.there ∙ (ap (slice_get (parts_of defs d).fields) same ∙ k.there) in
            let it : m.part ≡ k.part = cc in
            ap (λ (p : FieldPart). p.name) it
        | inr differ ↦
            let w = merged m.number k.number m.member k.member differ members-key in
            let agree : do_agree m.part k.part ≡ true = sym (test-is do_agree (parts_of defs d).fields m.number k.number m.part k.part m.there k.there) ∙ w.agree members-meet in
            same-text m.part.name k.part.name (and_parts (bytes_eq m.part.name k.part.name) (same_arguments m.part.arguments k.part.arguments) agree).0
      ]

  below-merged : (kept : fault_of defs ≡ None) (ty key : List ℕ) (M : ℕ → Type 0) → AreMerged M → AreMerged (IsBelow ty key M)
  below-merged kept ty key M merged c e x y apart one = elim (cases_eq x.entry.number y.entry.number) [
    | inl same ↦ can-gives D x.merge c e (record { first = x.member; second = rw same y.member; apart = apart; one_key = one })
    | inr differ ↦
        let key = x.key_is ∙ sym y.key_is in
        let m = merged x.entry.number y.entry.number x.entry.member y.entry.member differ (members-key ty M x.from y.from (x.key_is ∙ sym y.key_is) x.entry y.entry) in
        can-gives D (m.deeper (members-meet ty M x.from y.from (x.key_is ∙ sym y.key_is) x.entry y.entry kept)) c e (record {
          first = or_left (D.enters x.entry.number c) (D.enters y.entry.number c) x.member;
          second = or_right (D.enters x.entry.number e) (D.enters y.entry.number e) y.member;
          apart = apart;
          one_key = one;
        })
  ]

  -- ---- what is met

  module _ (plan : PlanOf) (keeps : KeepsRules (parts_of defs d)) (kept : fault_of defs ≡ None) (same_defs : plan.definitions ≡ defs) (same_fragments : plan.fragments ≡ d.fragments) where
    -- the definition of a field in the type that it stands in
    known-in : (ty : List ℕ) (M : ℕ → Type 0) (f : FieldOf) → is_typename f ≡ false → (m : IsMember ty M f) → (w : DefinedField) × (m.part.definition ≡ Some w)
    known-in ty M f plain m =
        let none = none-kept unknown_field (parts_of defs d).fields m.part keeps.selected_fields (got-one (parts_of defs d).fields m.number m.part m.there) in
        by_option (λ o. m.part.definition ≡ o → (w : DefinedField) × (o ≡ Some w)) m.part.definition (λ e _.
        let named : bytes_eq m.part.name (codes "__typename") ≡ false = rw m.name at plain in
        let unknown : is_unknown m.part ≡ true = rw (m.in_parent, e, named) refl in
        let undefined : unknown_field m.part ≡ Some (record { name = m.part.name; place = m.part.place }) = rw unknown refl in
        absurd (cc (sym undefined ∙ none))) (λ w _ e. (w, refl)) refl

    -- and in the object type
    pub served : (ty : List ℕ) (M : ℕ → Type 0) (f : FieldOf) → is_object_type defs ty ≡ true → is_typename f ≡ false → (m : IsMember ty M f) → (w : DefinedField) × (m.part.definition ≡ Some w) × Serves defs ty f.name w
    served ty M f object plain m =
        let k = known-in ty M f plain m in
        let field : field_in defs m.parent f.name ≡ Some k.0 = ap (field_in defs m.parent) m.name ∙ (sym m.definition ∙ k.1) in
        (k.0, k.1, field-serves defs kept m.parent ty f.name k.0 object m.fits field)

    -- properties of a group that is met
    pub record IsGood (ty : List ℕ) (g : GroupOf) : Type 1 where
      pub numbers : ℕ → Type 0
      pub object : is_object_type defs ty ≡ true
      pub merged : AreMerged numbers
      pub group : IsGroup ty numbers g

    module _ (ty object : List ℕ) (g : GroupOf) (f : FieldOf) (own : DefinedField) (M : ℕ → Type 0) (is_object : is_object_type defs ty ≡ true) (merged : AreMerged M) (group : IsGroup ty M g)
        (asked : IsAskedBy g f) (field : field_in defs ty f.name ≡ Some own) (stands : MayStand defs (core_of own.of_type).text object) where
      abbrev Deeper : ℕ → Type 0
      Deeper = IsBelow ty g.key M

      first : IsOneOf f g.fields
      first = rw asked.first (inl refl)

      -- the fields of the group have the name of the first, so what stands there stands for the type of each
      type-of : (x : FieldOf) (i : IsOneOf x g.fields) (m : IsMember ty M x) → (q : List ℕ) × (inside_field defs m.part.definition ≡ Some q) × IsFor defs q object
      type-of x i m =
          let h = group.members f first in
          let named : m.part.name ≡ h.part.name = members-name ty M x f (group.keys x i ∙ sym (group.keys f first)) m h kept merged in
          let alike : x.name ≡ f.name = m.name ∙ (named ∙ sym h.name) in
          let plain : is_typename x ≡ false = ap (λ (n : List ℕ). bytes_eq n (codes "__typename")) alike ∙ asked.plain in
          let s = served ty M x is_object plain m in
          let found : Some s.2.own ≡ Some own = sym s.2.found ∙ (ap (field_in defs ty) alike ∙ field) in
          let same : s.2.own ≡ own = cc in
          let for : IsFor defs (core_of s.0.of_type).text object = elim s.2.fits_in [
            | inl e ↦ subst (λ (w : DefinedField). IsFor defs (core_of w.of_type).text object) (sym same ∙ e) (may-itself defs kept own.of_type object stands)
            | inr e ↦ may-for defs kept own.of_type s.0.of_type object (subst (λ (w : DefinedField). is_covariant defs w.of_type s.0.of_type ≡ true) same (serves-type defs kept s.0 s.2.own e)) stands
          ] in
          let known = s.1 in
          let composite : composite_in defs (core_of s.0.of_type).text ≡ Some (core_of s.0.of_type).text = for-composite defs kept (core_of s.0.of_type).text object (may-object defs kept (core_of own.of_type).text object stands) for in
          ((core_of s.0.of_type).text, ap (inside_field defs) s.1 ∙ composite, for)

      enters-is : (x : FieldOf) (m : IsMember ty M x) → members_at (parts_of defs d) m.number ≡ members_below (members_of_fragment d) (m.number + 1) m.part.below
      enters-is x m = at-is (λ (p : FieldPart). members_below (members_of_fragment d) (m.number + 1) p.below) [] (parts_of defs d).fields m.number m.part m.there

      own-merge : (o : Owner) (q : Option (List ℕ)) (n : ℕ) (b : Below) (c : ℕ) → PlacedBelow defs d o q n b → is_in (members_below (members_of_fragment d) n b) c ≡ true → CanMerge D (is_in (members_below (members_of_fragment d) n b))
      own-merge o q n nothing_below c p e = absurd (both_ways false refl e)
      own-merge o q n (below s) c p e = placed-merge defs d o q n s p

      deeper-within : (x : FieldOf) (i : IsOneOf x g.fields) (m : IsMember ty M x) → Within object Deeper (members_below (members_of_fragment d) (m.number + 1) m.part.below)
      deeper-within x i m c e =
          let same = enters-is x m in
          let merge = own-merge m.owner_of (inside_field defs m.part.definition) (m.number + 1) m.part.below c m.placed e in
          record { from = x; entry = m; key_is = group.keys x i; member = rw same e; merge = rw same merge }

      collects-fields : (fs : List FieldOf) → ((x : FieldOf) → IsOneOf x fs → IsOneOf x g.fields) → (so_far : Collected) → AreGroups object Deeper so_far.groups → AreGroups object Deeper (collect_subfields plan object so_far (sets_below fs)).groups
      collects-fields [] of so_far are = are
      collects-fields (x ∷ fs) of so_far are =
          let i = of x (inl refl) in
          let m = group.members x i in
          let t = type-of x i m in
          let next = collects-below object Deeper plan kept (may-object defs kept (core_of own.of_type).text object stands) same_defs keeps same_fragments m.owner_of t.0 (m.number + 1) m.part.below so_far t.2
          (subst (λ (q : Option (List ℕ)). PlacedBelow defs d m.owner_of q (m.number + 1) m.part.below) t.1 m.placed) (deeper-within x i m) are in
          collects-fields fs (λ y j. of y (inr j)) (collect_from plan object so_far (selections_below x.below)) (rw m.same next)

      pub deeper-good : (h : GroupOf) → IsOneOf h (collect_subfields plan object nothing_collected (sets_below g.fields)).groups → IsGood object h
      deeper-good h i = record {
        numbers = Deeper;
        object = may-object defs kept (core_of own.of_type).text object stands;
        merged = below-merged kept ty g.key M merged;
        group = collects-fields g.fields (λ y j. j) nothing_collected (λ x j. absurd j) h i;
      }

    module _ (among : IsOneOf plan.operation d.operations) where
      root-good : (g : GroupOf) → IsOneOf g (collect plan (root_in defs) (selections_in plan.operation.selection_set)) → IsGood (root_in defs) g
      root-good g i =
          let at = operation-placed defs d keeps.merging plan.operation among in
          let members : ℕ → Type 0 = λ c. is_in (members_in (members_of_fragment d) at.start plan.operation.selection_set) c ≡ true in
          let merge = placed-merge defs d (owner.Operation at.number) (inside_operation defs) at.start plan.operation.selection_set at.placed in
          record {
            numbers = members;
            object = root-object defs kept;
            merged = λ a b ha hb apart one. can-gives D merge a b (record { first = ha; second = hb; apart = apart; one_key = one });
            group = collects-below (root_in defs) members plan kept (root-object defs kept) same_defs keeps same_fragments
                (owner.Operation at.number) (root_in defs) at.start (below plan.operation.selection_set) nothing_collected (inl refl) at.placed (λ c e. e) (λ x j. absurd j) g i;
          }

-- ---- plans

module _ (plan : PlanOf) (is : IsPlan plan) (kept : fault_of plan.definitions ≡ None) where
  abbrev keeps : KeepsRules (parts_of plan.definitions is.document)
  keeps = valid-keeps (parts_of plan.definitions is.document) is.valid

  abbrev Good : List ℕ → GroupOf → Type 1
  Good = IsGood plan.definitions is.document plan keeps kept refl is.same

  -- a group that is met
  pub met-good : (ty : List ℕ) (g : GroupOf) → CanBeMet plan ty g → Good ty g
  met-good ty g (of_root i) = root-good plan.definitions is.document plan keeps kept refl is.same
      (prepared-among plan.definitions is.document.operations is.name is.given (record { operation = plan.operation; variables = plan.variables }) is.prepares) g i
  met-good object h (inside {ty = ty} {g = g} {f = f} {d = d} met asked field stands i) =
      let good = met-good ty g met in
      deeper-good plan.definitions is.document plan keeps kept refl is.same ty object g f d good.numbers good.object good.merged good.group asked field stands h i

  -- has a definition of its field in the type of its object
  pub met-defined : (ty : List ℕ) (g : GroupOf) (f : FieldOf) → CanBeMet plan ty g → IsAskedBy g f → (is_object_type plan.definitions ty ≡ true) × ((own : DefinedField) × (field_in plan.definitions ty f.name ≡ Some own))
  met-defined ty g f met asked =
      let good = met-good ty g met in
      let m = good.group.members f (rw asked.first (inl refl)) in
      let s = served plan.definitions is.document plan keeps kept refl is.same ty good.numbers f good.object asked.plain m in
      (good.object, (s.2.own, s.2.found))

  -- has a field
  pub met-some : (ty : List ℕ) (g : GroupOf) → CanBeMet plan ty g → (f : FieldOf) × (others : List FieldOf) × (g.fields ≡ f ∷ others)
  met-some ty g met = let group = (met-good ty g met).group in (group.first, group.others, group.some)
