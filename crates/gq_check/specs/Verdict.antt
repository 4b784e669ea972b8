-- The verdict on a document over a schema (section 5): nothing where it is valid, else the first fault in this order: what isn't
-- served; the rules but Field Selection Merging in the order of their sections' numbers, compared part by part; too many levels;
-- too many fields; Field Selection Merging. Of one rule the earliest place is reported.
use Rattle.std.specs.Prelude.{◌≡◌, ℕ, List, Option, Some, None, option_map, string_bytes, if◌then◌else◌}
use Rattle.text_place.specs.declared.place.Place.{Place}
use Rattle.gq_parser.specs.Tree.{Document}
use Rattle.schema_syntax.specs.Tree.{Definition}
use Rattle.gq_schema.specs.Scan.{or_else}
use Rattle.rules_parts.specs.Broken.{BrokenOf, earliest}
use Rattle.rules_parts.specs.Parts.{PartsOf}
use Rattle.rules_parts.specs.Listing.{parts_of}
use Rattle.rules_untyped.specs.OperationNameUniqueness.{operation_name_uniqueness}
use Rattle.rules_untyped.specs.LoneAnonymousOperation.{lone_anonymous_operation}
use Rattle.rules_untyped.specs.ArgumentUniqueness.{argument_uniqueness}
use Rattle.rules_untyped.specs.FragmentNameUniqueness.{fragment_name_uniqueness}
use Rattle.rules_untyped.specs.FragmentsMustBeUsed.{fragments_must_be_used}
use Rattle.rules_untyped.specs.FragmentSpreadTargetDefined.{fragment_spread_target_defined}
use Rattle.rules_untyped.specs.DirectivesAreDefined.{directives_are_defined}
use Rattle.rules_untyped.specs.DirectivesAreInValidLocations.{directives_are_in_valid_locations}
use Rattle.rules_untyped.specs.DirectivesAreUniquePerLocation.{directives_are_unique_per_location}
use Rattle.rules_untyped.specs.VariableUniqueness.{variable_uniqueness}
use Rattle.rules_untyped.specs.AllVariableUsesDefined.{all_variable_uses_defined}
use Rattle.rules_untyped.specs.AllVariablesUsed.{all_variables_used}
use Rattle.rules_untyped.specs.NotServed.{not_served}
use Rattle.rules_untyped.specs.TooComplex.{is_too_complex}
use Rattle.rules_typed.specs.FieldSelections.{field_selections}
use Rattle.rules_typed.specs.LeafFieldSelections.{leaf_field_selections}
use Rattle.rules_typed.specs.ArgumentNames.{argument_names}
use Rattle.rules_typed.specs.RequiredArguments.{required_arguments}
use Rattle.rules_typed.specs.FragmentSpreadTypeExistence.{fragment_spread_type_existence}
use Rattle.rules_typed.specs.FragmentsOnCompositeTypes.{fragments_on_composite_types}
use Rattle.rules_typed.specs.FragmentSpreadIsPossible.{fragment_spread_is_possible}
use Rattle.rules_typed.specs.ValuesOfCorrectType.{values_of_correct_type}
use Rattle.rules_typed.specs.VariablesAreInputTypes.{variables_are_input_types}
use Rattle.rules_typed.specs.AllVariableUsagesAreAllowed.{all_variable_usages_are_allowed}
use Rattle.rules_spreads.specs.Rules.{fragment_spreads_must_not_form_cycles, too_deep}
use Rattle.merging_fields.specs.FieldSelectionMerging.{IsMerging}
use Rattle.gq_check.specs.declared.fault.Rule.{Rule}
use Rattle.gq_check.specs.declared.fault.Rule.TheVariants as rule
use Rattle.gq_check.specs.declared.fault.CheckFault.{CheckFault}
use Rattle.gq_check.specs.declared.fault.CheckFault.TheVariants as check

-- says why a document is not valid
pub data FaultOf : Type 0 where
  -- says what breaks a rule: its name and its place
  Breaks : Rule → List ℕ → Place → FaultOf
  TooComplex : FaultOf
  TooDeep : Place → FaultOf
  NotServed : List ℕ → Place → FaultOf

abbrev pub breaks : Rule → BrokenOf → FaultOf
breaks r b = Breaks r b.name b.place

-- gives what is reported of a rule, of all that breaks it
abbrev pub report : Rule → List BrokenOf → Option FaultOf
report r broken = option_map (breaks r) (earliest broken)

-- ---- the rules, by what they speak of

abbrev pub served_fault : PartsOf → Option FaultOf
served_fault p = option_map (λ (b : BrokenOf). NotServed b.name b.place) (earliest (not_served p))

-- section 5.2
abbrev pub operations_fault : PartsOf → Option FaultOf
operations_fault p =
    or_else (report rule.OperationNameUniqueness (operation_name_uniqueness p))
    (report rule.LoneAnonymousOperation (lone_anonymous_operation p))

-- section 5.3, but Field Selection Merging (section 5.3.2), which comes last
abbrev pub fields_fault : PartsOf → Option FaultOf
fields_fault p =
    or_else (report rule.FieldSelections (field_selections p))
    (report rule.LeafFieldSelections (leaf_field_selections p))

-- section 5.4
abbrev pub arguments_fault : PartsOf → Option FaultOf
arguments_fault p =
    or_else (report rule.ArgumentNames (argument_names p))
    (or_else (report rule.ArgumentUniqueness (argument_uniqueness p))
    (report rule.RequiredArguments (required_arguments p)))

-- section 5.5.1
abbrev pub fragments_fault : PartsOf → Option FaultOf
fragments_fault p =
    or_else (report rule.FragmentNameUniqueness (fragment_name_uniqueness p))
    (or_else (report rule.FragmentSpreadTypeExistence (fragment_spread_type_existence p))
    (or_else (report rule.FragmentsOnCompositeTypes (fragments_on_composite_types p))
    (report rule.FragmentsMustBeUsed (fragments_must_be_used p))))

-- section 5.5.2
abbrev pub spreads_fault : PartsOf → Option FaultOf
spreads_fault p =
    or_else (report rule.FragmentSpreadTargetDefined (fragment_spread_target_defined p))
    (or_else
    (report rule.FragmentSpreadsMustNotFormCycles (fragment_spreads_must_not_form_cycles p))
    (report rule.FragmentSpreadIsPossible (fragment_spread_is_possible p)))

-- section 5.6
abbrev pub values_fault : PartsOf → Option FaultOf
values_fault p = report rule.ValuesOfCorrectType (values_of_correct_type p)

-- section 5.7
abbrev pub directives_fault : PartsOf → Option FaultOf
directives_fault p =
    or_else (report rule.DirectivesAreDefined (directives_are_defined p))
    (or_else (report rule.DirectivesAreInValidLocations (directives_are_in_valid_locations p))
    (report rule.DirectivesAreUniquePerLocation (directives_are_unique_per_location p)))

-- section 5.8
abbrev pub variables_fault : PartsOf → Option FaultOf
variables_fault p =
    or_else (report rule.VariableUniqueness (variable_uniqueness p))
    (or_else (report rule.VariablesAreInputTypes (variables_are_input_types p))
    (or_else (report rule.AllVariableUsesDefined (all_variable_uses_defined p))
    (or_else (report rule.AllVariablesUsed (all_variables_used p))
    (report rule.AllVariableUsagesAreAllowed (all_variable_usages_are_allowed p)))))

-- ---- all of them but Field Selection Merging

-- gives what isn't served, and the rules
abbrev pub rules_fault : PartsOf → Option FaultOf
rules_fault p =
    or_else (served_fault p)
    (or_else (operations_fault p)
    (or_else (fields_fault p)
    (or_else (arguments_fault p)
    (or_else (fragments_fault p)
    (or_else (spreads_fault p)
    (or_else (values_fault p)
    (or_else (directives_fault p) (variables_fault p))))))))

-- too many levels, too many fields
abbrev pub limits_fault : PartsOf → Option FaultOf
limits_fault p =
    or_else (option_map (λ (b : BrokenOf). TooDeep b.place) (earliest (too_deep p)))
    (if is_too_complex p then Some TooComplex else None)

abbrev pub first_fault : PartsOf → Option FaultOf
first_fault p = or_else (rules_fault p) (limits_fault p)

-- ---- all of them

-- says what is reported of Field Selection Merging
abbrev pub IsMergingFault : PartsOf → Option FaultOf → Type 0
IsMergingFault p v = (broken : Option BrokenOf) × IsMerging p broken
    × (v ≡ option_map (breaks rule.FieldSelectionMerging) broken)

-- the verdict, where this is the first of all other faults
abbrev pub IsVerdictAfter : PartsOf → Option FaultOf → Option FaultOf → Type 0
IsVerdictAfter p (Some f) v = v ≡ Some f
IsVerdictAfter p None v = IsMergingFault p v

-- the verdict on a document, by its parts
abbrev pub IsVerdictOf : PartsOf → Option FaultOf → Type 0
IsVerdictOf p v = IsVerdictAfter p (first_fault p) v

-- the verdict on a document over the definitions of a schema
abbrev pub IsVerdict : List Definition → Document → Option FaultOf → Type 0
IsVerdict defs d v = IsVerdictOf (parts_of defs d) v

-- The document is valid.
abbrev pub IsValid : List Definition → Document → Type 0
IsValid defs d = IsVerdict defs d None

-- ---- what the program tells

-- gives what a fault says; want of memory says nothing
abbrev pub fault_of : CheckFault → Option FaultOf
fault_of (check.Rule r name p) = Some (Breaks r (string_bytes name) p)
fault_of check.TooComplex = Some TooComplex
fault_of (check.TooDeep p) = Some (TooDeep p)
fault_of (check.NotServed name p) = Some (NotServed (string_bytes name) p)
fault_of check.NoMemory = None

-- the fault that is reported where verdicts are these; of memory this says nothing
abbrev pub IsCheckFault : (Option FaultOf → Type 0) → CheckFault → Type 0
IsCheckFault verdict (check.Rule r name p) = verdict (Some (Breaks r (string_bytes name) p))
IsCheckFault verdict check.TooComplex = verdict (Some TooComplex)
IsCheckFault verdict (check.TooDeep p) = verdict (Some (TooDeep p))
IsCheckFault verdict (check.NotServed name p) = verdict (Some (NotServed (string_bytes name) p))
IsCheckFault verdict check.NoMemory = Unit {0}
