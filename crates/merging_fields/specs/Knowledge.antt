-- Definitions of what is known of a document before its fields are compared, and once they are.
use Rattle.std.specs.Prelude.{◌≡◌, ◌<◌, ℕ, Bool, true, List, length, filter, Option}
use Rattle.gq_parser.specs.Tree.{Operation, Fragment, Document, document_of}
use Rattle.merging_pairs.specs.declared.field.Field as table
use Rattle.merging_pairs.specs.Merging.{Fields}
use Rattle.merging_pairs.specs.Numbered.{is_in}
use Rattle.merging_members.specs.declared.known.FragmentMembers.{FragmentMembers}
use Rattle.merging_members.specs.declared.visiting.ClashingSet.{ClashingSet}
use Rattle.merging_members.specs.Fragments.{place_in}
use Rattle.merging_members.specs.Knowledge.{AddsClashing}
use Rattle.merging_members.specs.Members.{SetOf, members_of_fragment, operation_sets, fragment_sets, sets_of}
use Rattle.merging_members.specs.Ranked.{IsOrder}
use Rattle.merging_members.specs.SetMembers.{clash, is_clashing, clashing_of}
use Rattle.rules_parts.specs.Broken.{BrokenOf}
use Rattle.rules_parts.specs.Parts.{PartsOf, parts_in}
use Rattle.merging_fields.specs.declared.known.ComparedFields.{ComparedFields}
use Rattle.merging_fields.specs.declared.known.Grounds.{Grounds}
use Rattle.merging_fields.specs.Members.{fields_of}
use Rattle.merging_fields.specs.Numbered.{AreNumbered}
use Rattle.merging_fields.specs.FieldSelectionMerging.{key_of}
use Rattle.merging_fields.specs.Reports.{AreCompared, report_of_set}

-- ---- before

abbrev pub parts_known : Grounds → PartsOf
parts_known g = parts_in g.parts.now

abbrev pub document_in : Grounds → Document
document_in g = document_of g.parts.now.document.now

-- an order of the fragments, each after those that it spreads
abbrev pub IsFragmentOrder : List ℕ → Grounds → Type 0
IsFragmentOrder order g =
    IsOrder order (place_in (document_in g).fragments) (document_in g).fragments

-- the fields of a table are those of the document, in their order
abbrev pub AreNumberedIn : Grounds → List table.Field → Type 0
AreNumberedIn g fields = AreNumbered (parts_known g) g.numbers.now
    (members_of_fragment (document_in g)) g.order.now fields

-- ---- while sets are gathered

-- of the sets of these operations those are added in which two fields clash; the first field has the number 0
abbrev pub AddsOfOperations : FragmentMembers → List Operation
    → List ClashingSet → List ClashingSet → Type 0
AddsOfOperations w operations old new =
    AddsClashing w (λ spread. operation_sets spread 0 operations) old new

-- says the same of fragments; the first field has the number n
abbrev pub AddsOfFragments : FragmentMembers → ℕ → List Fragment
    → List ClashingSet → List ClashingSet → Type 0
AddsOfFragments w n fragments old new =
    AddsClashing w (λ spread. fragment_sets spread n fragments) old new

-- ---- once they are compared

abbrev pub IsCompared : ComparedFields → Type 0
IsCompared c = AreCompared (parts_known c.grounds) c.grounds.numbers.now c.grounds.order.now
    c.fields.now c.rows.now c.fragments.now

-- the fields of the document, as the rule sees them
abbrev pub fields_in : ComparedFields → Fields ℕ
fields_in c = fields_of (parts_known c.grounds)

-- the response key of the field of a number
abbrev pub key_in : ComparedFields → ℕ → List ℕ
key_in c = key_of (parts_known c.grounds)

-- two fields clash, by their numbers in the document
abbrev pub clash_in : ComparedFields → ℕ → ℕ → Bool
clash_in c = clash c.rows.now c.grounds.numbers.now

-- gives what is reported of a set: itself, with the first response key of a pair that clashes
abbrev pub report_in : ComparedFields → SetOf → Option BrokenOf
report_in c s = report_of_set (fields_in c).one_key (clash_in c) (key_in c) s

-- gives what a set of the document says
abbrev pub set_in : ComparedFields → ClashingSet → SetOf
set_in c set = clashing_of (members_of_fragment (document_in c.grounds)) set

-- the sets of the document in which two fields clash
abbrev pub clashing_in : ComparedFields → List SetOf
clashing_in c =
    filter (is_clashing c.rows.now c.grounds.numbers.now) (sets_of (document_in c.grounds))

-- the members of a set are fields of the document
abbrev pub HasFieldsOf : ComparedFields → SetOf → Type 0
HasFieldsOf compared s = (c : ℕ) → is_in s.members c ≡ true
    → c < length (parts_known compared.grounds).fields
