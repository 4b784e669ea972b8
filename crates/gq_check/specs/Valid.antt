-- Definitions of what a valid document keeps: all of it is served, nothing of it breaks a rule, and it is
-- within the limits.
use Rattle.std.specs.Prelude.{◌≡◌, false, [], All}
use Rattle.rules_parts.specs.Parts.{PartsOf}
use Rattle.rules_untyped.specs.OperationNameUniqueness.{operation_name_uniqueness}
use Rattle.rules_untyped.specs.LoneAnonymousOperation.{lone_anonymous_operation}
use Rattle.rules_untyped.specs.ArgumentUniqueness.{argument_uniqueness}
use Rattle.rules_untyped.specs.FragmentNameUniqueness.{fragment_name_uniqueness}
use Rattle.rules_untyped.specs.FragmentsMustBeUsed.{fragments_must_be_used}
use Rattle.rules_untyped.specs.FragmentSpreadTargetDefined.{fragment_spread_target_defined}
use Rattle.rules_untyped.specs.DirectivesAreDefined.{directives_are_defined}
use Rattle.rules_untyped.specs.DirectivesAreInValidLocations.{directives_are_in_valid_locations}
use Rattle.rules_untyped.specs.DirectivesAreUniquePerLocation.{directives_are_unique_per_location}
use Rattle.rules_untyped.specs.VariableUniqueness.{variable_uniqueness}
use Rattle.rules_untyped.specs.AllVariableUsesDefined.{all_variable_uses_defined}
use Rattle.rules_untyped.specs.AllVariablesUsed.{all_variables_used}
use Rattle.rules_untyped.specs.NotServed.{not_served}
use Rattle.rules_untyped.specs.TooComplex.{is_too_complex}
use Rattle.rules_typed.specs.FieldSelections.{field_selections}
use Rattle.rules_typed.specs.LeafFieldSelections.{leaf_field_selections}
use Rattle.rules_typed.specs.ArgumentNames.{argument_names}
use Rattle.rules_typed.specs.RequiredArguments.{required_arguments}
use Rattle.rules_typed.specs.FragmentSpreadTypeExistence.{fragment_spread_type_existence}
use Rattle.rules_typed.specs.FragmentsOnCompositeTypes.{fragments_on_composite_types}
use Rattle.rules_typed.specs.FragmentSpreadIsPossible.{fragment_spread_is_possible}
use Rattle.rules_typed.specs.ValuesOfCorrectType.{values_of_correct_type}
use Rattle.rules_typed.specs.VariablesAreInputTypes.{variables_are_input_types}
use Rattle.rules_typed.specs.AllVariableUsagesAreAllowed.{all_variable_usages_are_allowed}
use Rattle.rules_spreads.specs.Rules.{fragment_spreads_must_not_form_cycles, too_deep}
use Rattle.merging_pairs.specs.Merging.{CanMerge}
use Rattle.merging_pairs.specs.Numbered.{is_in}
use Rattle.merging_members.specs.Members.{SetOf, sets_of}
use Rattle.merging_fields.specs.Members.{fields_of}

-- section 5.3.2: each selection set can be merged
abbrev pub CanBeMerged : PartsOf → Type 0
CanBeMerged p = All (λ (s : SetOf). CanMerge (fields_of p) (is_in s.members)) (sets_of p.document)

pub record KeepsRules (p : PartsOf) : Type 0 where
  pub served : not_served p ≡ []
  -- section 5.2
  pub operation_names : operation_name_uniqueness p ≡ []
  pub lone_operation : lone_anonymous_operation p ≡ []
  -- section 5.3
  pub selected_fields : field_selections p ≡ []
  pub leaves : leaf_field_selections p ≡ []
  pub merging : CanBeMerged p
  -- section 5.4
  pub argument_names : argument_names p ≡ []
  pub arguments_once : argument_uniqueness p ≡ []
  pub required_arguments : required_arguments p ≡ []
  -- section 5.5.1
  pub fragment_names : fragment_name_uniqueness p ≡ []
  pub fragment_types : fragment_spread_type_existence p ≡ []
  pub composite_types : fragments_on_composite_types p ≡ []
  pub fragments_used : fragments_must_be_used p ≡ []
  -- section 5.5.2
  pub spread_targets : fragment_spread_target_defined p ≡ []
  pub cycles : fragment_spreads_must_not_form_cycles p ≡ []
  pub possible_spreads : fragment_spread_is_possible p ≡ []
  -- section 5.6
  pub values : values_of_correct_type p ≡ []
  -- section 5.7
  pub known_directives : directives_are_defined p ≡ []
  pub directive_locations : directives_are_in_valid_locations p ≡ []
  pub directives_once : directives_are_unique_per_location p ≡ []
  -- section 5.8
  pub variables_once : variable_uniqueness p ≡ []
  pub input_types : variables_are_input_types p ≡ []
  pub uses_defined : all_variable_uses_defined p ≡ []
  pub variables_used : all_variables_used p ≡ []
  pub allowed_usages : all_variable_usages_are_allowed p ≡ []
  -- the limits
  pub levels : too_deep p ≡ []
  pub few_fields : is_too_complex p ≡ false
