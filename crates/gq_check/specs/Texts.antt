-- The texts of faults, as a client reads them.
use Rattle.std.specs.Prelude.{ℕ, List, ◌++◌, codes, Option, Some, None, string_bytes}
use Rattle.text_place.specs.declared.place.Place.{Place}
use Rattle.gq_check.specs.declared.fault.Rule.{Rule}
use Rattle.gq_check.specs.declared.fault.Rule.TheVariants as rule
use Rattle.gq_check.specs.declared.fault.CheckFault.{CheckFault}
use Rattle.gq_check.specs.declared.fault.CheckFault.TheVariants as check
use Rattle.gq_check.specs.declared.fault.PrepareFault.{PrepareFault}
use Rattle.gq_check.specs.declared.fault.PrepareFault.TheVariants as prepare

-- the number of a rule's section
abbrev pub section_of : Rule → List ℕ
section_of rule.OperationNameUniqueness = codes "5.2.1.1"
section_of rule.LoneAnonymousOperation = codes "5.2.2.1"
section_of rule.FieldSelections = codes "5.3.1"
section_of rule.FieldSelectionMerging = codes "5.3.2"
section_of rule.LeafFieldSelections = codes "5.3.3"
section_of rule.ArgumentNames = codes "5.4.1"
section_of rule.ArgumentUniqueness = codes "5.4.2"
section_of rule.RequiredArguments = codes "5.4.2.1"
section_of rule.FragmentNameUniqueness = codes "5.5.1.1"
section_of rule.FragmentSpreadTypeExistence = codes "5.5.1.2"
section_of rule.FragmentsOnCompositeTypes = codes "5.5.1.3"
section_of rule.FragmentsMustBeUsed = codes "5.5.1.4"
section_of rule.FragmentSpreadTargetDefined = codes "5.5.2.1"
section_of rule.FragmentSpreadsMustNotFormCycles = codes "5.5.2.2"
section_of rule.FragmentSpreadIsPossible = codes "5.5.2.3"
section_of rule.ValuesOfCorrectType = codes "5.6.1"
section_of rule.DirectivesAreDefined = codes "5.7.1"
section_of rule.DirectivesAreInValidLocations = codes "5.7.2"
section_of rule.DirectivesAreUniquePerLocation = codes "5.7.3"
section_of rule.VariableUniqueness = codes "5.8.1"
section_of rule.VariablesAreInputTypes = codes "5.8.2"
section_of rule.AllVariableUsesDefined = codes "5.8.3"
section_of rule.AllVariablesUsed = codes "5.8.4"
section_of rule.AllVariableUsagesAreAllowed = codes "5.8.5"

-- the title of a rule
abbrev pub title_of : Rule → List ℕ
title_of rule.OperationNameUniqueness = codes "Operation Name Uniqueness"
title_of rule.LoneAnonymousOperation = codes "Lone Anonymous Operation"
title_of rule.FieldSelections = codes "Field Selections"
title_of rule.FieldSelectionMerging = codes "Field Selection Merging"
title_of rule.LeafFieldSelections = codes "Leaf Field Selections"
title_of rule.ArgumentNames = codes "Argument Names"
title_of rule.ArgumentUniqueness = codes "Argument Uniqueness"
title_of rule.RequiredArguments = codes "Required Arguments"
title_of rule.FragmentNameUniqueness = codes "Fragment Name Uniqueness"
title_of rule.FragmentSpreadTypeExistence = codes "Fragment Spread Type Existence"
title_of rule.FragmentsOnCompositeTypes = codes "Fragments On Composite Types"
title_of rule.FragmentsMustBeUsed = codes "Fragments Must Be Used"
title_of rule.FragmentSpreadTargetDefined = codes "Fragment Spread Target Defined"
title_of rule.FragmentSpreadsMustNotFormCycles = codes "Fragment Spreads Must Not Form Cycles"
title_of rule.FragmentSpreadIsPossible = codes "Fragment Spread Is Possible"
title_of rule.ValuesOfCorrectType = codes "Values of Correct Type"
title_of rule.DirectivesAreDefined = codes "Directives Are Defined"
title_of rule.DirectivesAreInValidLocations = codes "Directives Are In Valid Locations"
title_of rule.DirectivesAreUniquePerLocation = codes "Directives Are Unique Per Location"
title_of rule.VariableUniqueness = codes "Variable Uniqueness"
title_of rule.VariablesAreInputTypes = codes "Variables Are Input Types"
title_of rule.AllVariableUsesDefined = codes "All Variable Uses Defined"
title_of rule.AllVariablesUsed = codes "All Variables Used"
title_of rule.AllVariableUsagesAreAllowed = codes "All Variable Usages Are Allowed"

-- the message of a fault of validation
abbrev pub check_message : CheckFault → List ℕ
check_message (check.Rule r name p) =
    section_of r ++ codes " " ++ title_of r ++ codes ": " ++ string_bytes name
check_message check.TooComplex = codes "too complex"
check_message (check.TooDeep p) = codes "too many levels"
check_message (check.NotServed name p) = codes "not served: " ++ string_bytes name
check_message check.NoMemory = codes "out of memory"

-- the place of a fault of validation, if it has one
abbrev pub check_place : CheckFault → Option Place
check_place (check.Rule r name p) = Some p
check_place check.TooComplex = None
check_place (check.TooDeep p) = Some p
check_place (check.NotServed name p) = Some p
check_place check.NoMemory = None

-- the message of a fault of preparation
abbrev pub prepare_message : PrepareFault → List ℕ
prepare_message (prepare.NoSuchOperation name) = codes "no operation named " ++ string_bytes name
prepare_message prepare.OperationNeeded = codes "operation name needed"
prepare_message prepare.VariablesNotObject = codes "variables must be an object"
prepare_message (prepare.BadVariable name) = codes "bad value for variable $" ++ name
prepare_message prepare.NoMemory = codes "out of memory"
