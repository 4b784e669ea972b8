-- Lemmas on what a valid document keeps.
use Rattle.std.proofs.Common.{◌≡◌, ◌∙◌, sym, ap, subst, refl, ℕ, Bool, true, false, List, [], ◌∷◌, ◌≤◌, length, Option, Some, None, if◌then◌else◌, arith}
use Rattle.std.specs.Prelude.{option_map, fold, nat_lt, All}
use Rattle.std.proofs.lemmas.Bool.{ltb-false}
use Rattle.std.proofs.lemmas.List.Elements.{All-nil, All-cons, All-head, All-tail}
use Rattle.gq_schema.specs.Scan.{or_else}
use Rattle.rules_parts.specs.Broken.{BrokenOf, earlier, with_broken, earliest}
use Rattle.gq_parser.specs.Tree.{Document}
use Rattle.schema_syntax.specs.Tree.{Definition}
use Rattle.rules_parts.specs.Listing.{parts_of}
use Rattle.rules_parts.specs.Parts.{PartsOf}
use Rattle.rules_untyped.specs.OperationNameUniqueness.{operation_name_uniqueness}
use Rattle.rules_untyped.specs.LoneAnonymousOperation.{lone_anonymous_operation}
use Rattle.rules_untyped.specs.ArgumentUniqueness.{argument_uniqueness}
use Rattle.rules_untyped.specs.FragmentNameUniqueness.{fragment_name_uniqueness}
use Rattle.rules_untyped.specs.FragmentsMustBeUsed.{fragments_must_be_used}
use Rattle.rules_untyped.specs.FragmentSpreadTargetDefined.{fragment_spread_target_defined}
use Rattle.rules_untyped.specs.DirectivesAreDefined.{directives_are_defined}
use Rattle.rules_untyped.specs.DirectivesAreInValidLocations.{directives_are_in_valid_locations}
use Rattle.rules_untyped.specs.DirectivesAreUniquePerLocation.{directives_are_unique_per_location}
use Rattle.rules_untyped.specs.VariableUniqueness.{variable_uniqueness}
use Rattle.rules_untyped.specs.AllVariableUsesDefined.{all_variable_uses_defined}
use Rattle.rules_untyped.specs.AllVariablesUsed.{all_variables_used}
use Rattle.rules_untyped.specs.NotServed.{not_served}
use Rattle.rules_untyped.specs.TooComplex.{is_too_complex}
use Rattle.rules_typed.specs.FieldSelections.{field_selections}
use Rattle.rules_typed.specs.LeafFieldSelections.{leaf_field_selections}
use Rattle.rules_typed.specs.ArgumentNames.{argument_names}
use Rattle.rules_typed.specs.RequiredArguments.{required_arguments}
use Rattle.rules_typed.specs.FragmentSpreadTypeExistence.{fragment_spread_type_existence}
use Rattle.rules_typed.specs.FragmentsOnCompositeTypes.{fragments_on_composite_types}
use Rattle.rules_typed.specs.FragmentSpreadIsPossible.{fragment_spread_is_possible}
use Rattle.rules_typed.specs.ValuesOfCorrectType.{values_of_correct_type}
use Rattle.rules_typed.specs.VariablesAreInputTypes.{variables_are_input_types}
use Rattle.rules_typed.specs.AllVariableUsagesAreAllowed.{all_variable_usages_are_allowed}
use Rattle.rules_spreads.specs.Rules.{fragment_spreads_must_not_form_cycles, too_deep}
use Rattle.merging_pairs.specs.Merging.{Fields, CanMerge}
use Rattle.merging_pairs.specs.Numbered.{is_in}
use Rattle.merging_members.specs.Members.{SetOf, sets_of}
use Rattle.merging_fields.specs.Members.{fields_of}
use Rattle.merging_fields.specs.FieldSelectionMerging.{AreBroken, none, merges, fails, key_of}
use Rattle.gq_check.specs.declared.fault.Rule.TheVariants as rule
use Rattle.gq_check.proofs.Faults.{first-none, second-none}
use Rattle.gq_check.specs.Valid.{CanBeMerged, KeepsRules}
use Rattle.gq_check.specs.Verdict.{FaultOf, TooComplex, TooDeep, NotServed, breaks, report, served_fault, operations_fault, fields_fault, arguments_fault, fragments_fault, spreads_fault, values_fault, directives_fault, variables_fault, rules_fault, limits_fault, first_fault, IsMergingFault, IsVerdictAfter}

-- ---- what is reported where nothing is broken

fold-some : (b : BrokenOf) (bs : List BrokenOf) → fold with_broken (Some b) bs ≡ None → ⊥
fold-some b [] e = cc e
fold-some b (c ∷ bs) e = fold-some (earlier b c) bs e

pub nothing-broken : (bs : List BrokenOf) → earliest bs ≡ None → bs ≡ []
nothing-broken [] e = refl
nothing-broken (b ∷ bs) e = absurd (fold-some b bs e)

unmapped : {A B : Type 0} (f : A → B) (o : Option A) → option_map f o ≡ None → o ≡ None
unmapped f None e = refl
unmapped f (Some x) e = absurd (cc e)

-- nothing is reported, so nothing is broken
kept : (f : BrokenOf → FaultOf) (bs : List BrokenOf) → option_map f (earliest bs) ≡ None → bs ≡ []
kept f bs e = nothing-broken bs (unmapped f (earliest bs) e)

-- nothing is broken, so nothing is reported
unreported : (f : BrokenOf → FaultOf) (bs : List BrokenOf) → bs ≡ [] → option_map f (earliest bs) ≡ None
unreported f bs e = ap (λ (b : List BrokenOf). option_map f (earliest b)) e

parted : {A : Type 0} (a b : Option A) → or_else a b ≡ None → (a ≡ None) × (b ≡ None)
parted a b e = (first-none a b e, second-none a b e)

together : {A : Type 0} (a b : Option A) → a ≡ None → b ≡ None → or_else a b ≡ None
together (Some x) b e h = absurd (cc e)
together None b e h = h

-- ---- the limit on fields

abbrev complex : Bool → Option FaultOf
complex b = if b then Some TooComplex else None

few : (b : Bool) → complex b ≡ None → b ≡ false
few true e = absurd (cc e)
few false e = refl

-- ---- the selection sets

module _ (D : Fields ℕ) (key : ℕ → List ℕ) where
  abbrev Merges : SetOf → Type 0
  Merges s = CanMerge D (is_in s.members)

  all-merge : (ss : List SetOf) (bs : List BrokenOf) → AreBroken D key ss bs → bs ≡ [] → All Merges ss
  all-merge [] bs none e = All-nil Merges
  all-merge (s ∷ ss) bs (merges m r) e = All-cons Merges s ss m (all-merge ss bs r e)
  all-merge (s ∷ ss) bs (fails n i r) e = absurd (cc e)

  none-broken : (ss : List SetOf) → All Merges ss → AreBroken D key ss []
  none-broken [] h = none
  none-broken (s ∷ ss) h = merges (All-head Merges s ss h) (none-broken ss (All-tail Merges s ss h))

merging-kept : (p : PartsOf) → IsMergingFault p None → CanBeMerged p
merging-kept p h =
    all-merge (fields_of p) (key_of p) (sets_of p.document) h.1.0 h.1.1
    (nothing-broken h.1.0 (sym h.1.2 ∙ unmapped (breaks rule.FieldSelectionMerging) h.0 (sym h.2)))

merging-unreported : (p : PartsOf) → CanBeMerged p → IsMergingFault p None
merging-unreported p h = (None, ([], none-broken (fields_of p) (key_of p) (sets_of p.document) h, refl), refl)

-- ---- all rules

abbrev not_served_fault : BrokenOf → FaultOf
not_served_fault b = NotServed b.name b.place

abbrev too_deep_fault : BrokenOf → FaultOf
too_deep_fault b = TooDeep b.place

-- nothing is reported in all, so nothing is reported before field merging, nor of it
alone : (p : PartsOf) (first : Option FaultOf) → IsVerdictAfter p first None → (first ≡ None) × IsMergingFault p None
alone p (Some f) h = absurd (cc h)
alone p None h = (refl, h)

-- the parts are listed of what they are over
pub listed-own : (p : PartsOf) (defs : List Definition) (d : Document) → p ≡ parts_of defs d → p ≡ parts_of p.definitions p.document
listed-own p defs d e =
    let one : p.definitions ≡ defs = ap (λ (q : PartsOf). q.definitions) e in
    let two : p.document ≡ d = ap (λ (q : PartsOf). q.document) e in
    e ∙ (ap (λ (x : List Definition). parts_of x d) (sym one) ∙ ap (λ (x : Document). parts_of p.definitions x) (sym two))

-- facts of a document whose fields are asked to merge: it has no cycles of spreads, and few fields
pub before-merging : (p : PartsOf) → first_fault p ≡ None → (fragment_spreads_must_not_form_cycles p ≡ []) × (length p.fields ≤ 1024)
before-merging p e =
    let whole = parted (rules_fault p) (limits_fault p) e in
    let served = parted (served_fault p) _ whole.0 in
    let operations = parted (operations_fault p) _ served.1 in
    let fields = parted (fields_fault p) _ operations.1 in
    let arguments = parted (arguments_fault p) _ fields.1 in
    let fragments = parted (fragments_fault p) _ arguments.1 in
    let spreads = parted (spreads_fault p) _ fragments.1 in
    let at_spread_targets = parted (report rule.FragmentSpreadTargetDefined (fragment_spread_target_defined p)) _ spreads.0 in
    let at_cycles = parted (report rule.FragmentSpreadsMustNotFormCycles (fragment_spreads_must_not_form_cycles p)) _ at_spread_targets.1 in
    let limits = parted (option_map too_deep_fault (earliest (too_deep p))) _ whole.1 in
    (kept (breaks rule.FragmentSpreadsMustNotFormCycles) (fragment_spreads_must_not_form_cycles p) at_cycles.0, at-most (length p.fields) (few (is_too_complex p) limits.1))
  where
    at-most : (n : ℕ) → nat_lt 1000 n ≡ false → n ≤ 1024
    at-most n h = let le = ltb-false 1000 n h in omega (arith, le)

pub valid-keeps : (p : PartsOf) → IsVerdictAfter p (first_fault p) None → KeepsRules p
valid-keeps p h =
    let only = alone p (first_fault p) h in
    let whole = parted (rules_fault p) (limits_fault p) only.0 in
    let served = parted (served_fault p) _ whole.0 in
    let operations = parted (operations_fault p) _ served.1 in
    let fields = parted (fields_fault p) _ operations.1 in
    let arguments = parted (arguments_fault p) _ fields.1 in
    let fragments = parted (fragments_fault p) _ arguments.1 in
    let spreads = parted (spreads_fault p) _ fragments.1 in
    let values = parted (values_fault p) _ spreads.1 in
    let directives = parted (directives_fault p) _ values.1 in
    let at_operation_names = parted (report rule.OperationNameUniqueness (operation_name_uniqueness p)) _ operations.0 in
    let at_selected_fields = parted (report rule.FieldSelections (field_selections p)) _ fields.0 in
    let at_argument_names = parted (report rule.ArgumentNames (argument_names p)) _ arguments.0 in
    let at_arguments_once = parted (report rule.ArgumentUniqueness (argument_uniqueness p)) _ at_argument_names.1 in
    let at_fragment_names = parted (report rule.FragmentNameUniqueness (fragment_name_uniqueness p)) _ fragments.0 in
    let at_fragment_types = parted (report rule.FragmentSpreadTypeExistence (fragment_spread_type_existence p)) _ at_fragment_names.1 in
    let at_composite_types = parted (report rule.FragmentsOnCompositeTypes (fragments_on_composite_types p)) _ at_fragment_types.1 in
    let at_spread_targets = parted (report rule.FragmentSpreadTargetDefined (fragment_spread_target_defined p)) _ spreads.0 in
    let at_cycles = parted (report rule.FragmentSpreadsMustNotFormCycles (fragment_spreads_must_not_form_cycles p)) _ at_spread_targets.1 in
    let at_known_directives = parted (report rule.DirectivesAreDefined (directives_are_defined p)) _ directives.0 in
    let at_directive_locations = parted (report rule.DirectivesAreInValidLocations (directives_are_in_valid_locations p)) _ at_known_directives.1 in
    let at_variables_once = parted (report rule.VariableUniqueness (variable_uniqueness p)) _ directives.1 in
    let at_input_types = parted (report rule.VariablesAreInputTypes (variables_are_input_types p)) _ at_variables_once.1 in
    let at_uses_defined = parted (report rule.AllVariableUsesDefined (all_variable_uses_defined p)) _ at_input_types.1 in
    let at_variables_used = parted (report rule.AllVariablesUsed (all_variables_used p)) _ at_uses_defined.1 in
    let limits = parted (option_map too_deep_fault (earliest (too_deep p))) _ whole.1 in
    record {
      served = kept not_served_fault (not_served p) served.0;
      operation_names = kept (breaks rule.OperationNameUniqueness) (operation_name_uniqueness p) at_operation_names.0;
      lone_operation = kept (breaks rule.LoneAnonymousOperation) (lone_anonymous_operation p) at_operation_names.1;
      selected_fields = kept (breaks rule.FieldSelections) (field_selections p) at_selected_fields.0;
      leaves = kept (breaks rule.LeafFieldSelections) (leaf_field_selections p) at_selected_fields.1;
      argument_names = kept (breaks rule.ArgumentNames) (argument_names p) at_argument_names.0;
      arguments_once = kept (breaks rule.ArgumentUniqueness) (argument_uniqueness p) at_arguments_once.0;
      required_arguments = kept (breaks rule.RequiredArguments) (required_arguments p) at_arguments_once.1;
      fragment_names = kept (breaks rule.FragmentNameUniqueness) (fragment_name_uniqueness p) at_fragment_names.0;
      fragment_types = kept (breaks rule.FragmentSpreadTypeExistence) (fragment_spread_type_existence p) at_fragment_types.0;
      composite_types = kept (breaks rule.FragmentsOnCompositeTypes) (fragments_on_composite_types p) at_composite_types.0;
      fragments_used = kept (breaks rule.FragmentsMustBeUsed) (fragments_must_be_used p) at_composite_types.1;
      spread_targets = kept (breaks rule.FragmentSpreadTargetDefined) (fragment_spread_target_defined p) at_spread_targets.0;
      cycles = kept (breaks rule.FragmentSpreadsMustNotFormCycles) (fragment_spreads_must_not_form_cycles p) at_cycles.0;
      possible_spreads = kept (breaks rule.FragmentSpreadIsPossible) (fragment_spread_is_possible p) at_cycles.1;
      values = kept (breaks rule.ValuesOfCorrectType) (values_of_correct_type p) values.0;
      known_directives = kept (breaks rule.DirectivesAreDefined) (directives_are_defined p) at_known_directives.0;
      directive_locations = kept (breaks rule.DirectivesAreInValidLocations) (directives_are_in_valid_locations p) at_directive_locations.0;
      directives_once = kept (breaks rule.DirectivesAreUniquePerLocation) (directives_are_unique_per_location p) at_directive_locations.1;
      variables_once = kept (breaks rule.VariableUniqueness) (variable_uniqueness p) at_variables_once.0;
      input_types = kept (breaks rule.VariablesAreInputTypes) (variables_are_input_types p) at_input_types.0;
      uses_defined = kept (breaks rule.AllVariableUsesDefined) (all_variable_uses_defined p) at_uses_defined.0;
      variables_used = kept (breaks rule.AllVariablesUsed) (all_variables_used p) at_variables_used.0;
      allowed_usages = kept (breaks rule.AllVariableUsagesAreAllowed) (all_variable_usages_are_allowed p) at_variables_used.1;
      levels = kept too_deep_fault (too_deep p) limits.0;
      few_fields = few (is_too_complex p) limits.1;
      merging = merging-kept p only.1;
    }

no-operations : (p : PartsOf) → KeepsRules p → operations_fault p ≡ None
no-operations p k =
    together _ _ (unreported (breaks rule.OperationNameUniqueness) (operation_name_uniqueness p) k.operation_names)
    (unreported (breaks rule.LoneAnonymousOperation) (lone_anonymous_operation p) k.lone_operation)

no-fields : (p : PartsOf) → KeepsRules p → fields_fault p ≡ None
no-fields p k =
    together _ _ (unreported (breaks rule.FieldSelections) (field_selections p) k.selected_fields)
    (unreported (breaks rule.LeafFieldSelections) (leaf_field_selections p) k.leaves)

no-arguments : (p : PartsOf) → KeepsRules p → arguments_fault p ≡ None
no-arguments p k =
    together _ _ (unreported (breaks rule.ArgumentNames) (argument_names p) k.argument_names)
    (together _ _ (unreported (breaks rule.ArgumentUniqueness) (argument_uniqueness p) k.arguments_once)
    (unreported (breaks rule.RequiredArguments) (required_arguments p) k.required_arguments))

no-fragments : (p : PartsOf) → KeepsRules p → fragments_fault p ≡ None
no-fragments p k =
    together _ _ (unreported (breaks rule.FragmentNameUniqueness) (fragment_name_uniqueness p) k.fragment_names)
    (together _ _ (unreported (breaks rule.FragmentSpreadTypeExistence) (fragment_spread_type_existence p) k.fragment_types)
    (together _ _ (unreported (breaks rule.FragmentsOnCompositeTypes) (fragments_on_composite_types p) k.composite_types)
    (unreported (breaks rule.FragmentsMustBeUsed) (fragments_must_be_used p) k.fragments_used)))

no-spreads : (p : PartsOf) → KeepsRules p → spreads_fault p ≡ None
no-spreads p k =
    together _ _ (unreported (breaks rule.FragmentSpreadTargetDefined) (fragment_spread_target_defined p) k.spread_targets)
    (together _ _ (unreported (breaks rule.FragmentSpreadsMustNotFormCycles) (fragment_spreads_must_not_form_cycles p) k.cycles)
    (unreported (breaks rule.FragmentSpreadIsPossible) (fragment_spread_is_possible p) k.possible_spreads))

no-values : (p : PartsOf) → KeepsRules p → values_fault p ≡ None
no-values p k =
    unreported (breaks rule.ValuesOfCorrectType) (values_of_correct_type p) k.values

no-directives : (p : PartsOf) → KeepsRules p → directives_fault p ≡ None
no-directives p k =
    together _ _ (unreported (breaks rule.DirectivesAreDefined) (directives_are_defined p) k.known_directives)
    (together _ _ (unreported (breaks rule.DirectivesAreInValidLocations) (directives_are_in_valid_locations p) k.directive_locations)
    (unreported (breaks rule.DirectivesAreUniquePerLocation) (directives_are_unique_per_location p) k.directives_once))

no-variables : (p : PartsOf) → KeepsRules p → variables_fault p ≡ None
no-variables p k =
    together _ _ (unreported (breaks rule.VariableUniqueness) (variable_uniqueness p) k.variables_once)
    (together _ _ (unreported (breaks rule.VariablesAreInputTypes) (variables_are_input_types p) k.input_types)
    (together _ _ (unreported (breaks rule.AllVariableUsesDefined) (all_variable_uses_defined p) k.uses_defined)
    (together _ _ (unreported (breaks rule.AllVariablesUsed) (all_variables_used p) k.variables_used)
    (unreported (breaks rule.AllVariableUsagesAreAllowed) (all_variable_usages_are_allowed p) k.allowed_usages))))

no-rules : (p : PartsOf) → KeepsRules p → rules_fault p ≡ None
no-rules p k =
    together _ _ (unreported not_served_fault (not_served p) k.served)
    (together _ _ (no-operations p k)
    (together _ _ (no-fields p k)
    (together _ _ (no-arguments p k)
    (together _ _ (no-fragments p k)
    (together _ _ (no-spreads p k)
    (together _ _ (no-values p k)
    (together _ _ (no-directives p k) (no-variables p k))))))))

pub keeps-valid : (p : PartsOf) → KeepsRules p → IsVerdictAfter p (first_fault p) None
keeps-valid p k =
    let limits = together _ _ (unreported too_deep_fault (too_deep p) k.levels) (ap complex k.few_fields) in
    let first = together _ _ (no-rules p k) limits in
    subst (λ (f : Option FaultOf). IsVerdictAfter p f None) (sym first) (merging-unreported p k.merging)
