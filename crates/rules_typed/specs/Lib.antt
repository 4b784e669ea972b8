-- Definitions, one file for each rule, readable beside section 5 of the GraphQL specification of October 2021. Each rule is
-- the list of all that breaks it.
pub mod DefaultWords
pub mod FieldSelections
pub mod LeafFieldSelections
pub mod ArgumentNames
pub mod RequiredArguments
pub mod TypeConditions
pub mod FragmentSpreadTypeExistence
pub mod FragmentsOnCompositeTypes
pub mod FragmentSpreadIsPossible
pub mod VariablesAreInputTypes
pub mod ValuesOfCorrectType
pub mod CompatibleTypes
pub mod AllVariableUsagesAreAllowed
-- State of the search for forbidden uses.
pub mod Allowances
pub mod UsePlaces
pub mod UseKinds
pub mod ForbiddenMarks
