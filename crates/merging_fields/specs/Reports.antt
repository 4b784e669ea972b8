-- Definitions of which sets of a document are reported, where it is known which pairs of fields
-- clash.
use Rattle.std.specs.Prelude.{ℕ, Bool, List, length, Option, Some, None, filter_map, fold, if◌then◌else◌}
use Rattle.std.specs.Option.{option_map}
use Rattle.text_place.specs.Order.{is_before}
use Rattle.rules_parts.specs.Broken.{BrokenOf}
use Rattle.rules_parts.specs.Parts.{PartsOf}
use Rattle.merging_pairs.specs.Clashes.{first_clash}
use Rattle.merging_pairs.specs.Merging.{Merges}
use Rattle.merging_pairs.specs.Numbered as of_table
use Rattle.merging_pairs.specs.Table.{TellsAll}
use Rattle.merging_pairs.specs.declared.field.Field as table
use Rattle.merging_pairs.specs.declared.sets.ReachedFields.{ReachedFields}
use Rattle.merging_members.specs.Fragments.{place_in}
use Rattle.merging_members.specs.Members.{SetOf, members_of_fragment}
use Rattle.merging_members.specs.Ranked.{AreRanked}
use Rattle.merging_members.specs.SetMembers.{Knows}
use Rattle.merging_fields.specs.Numbered.{AreNumbered}

-- the set, where two of its fields clash, with the first response key of one that does
abbrev pub report_of_set : (ℕ → ℕ → Bool) → (ℕ → ℕ → Bool) → (ℕ → List ℕ) → SetOf → Option BrokenOf
report_of_set one_key clash key s =
    option_map (λ f. record { name = key f; place = s.place }) (first_clash one_key clash s.members)

abbrev pub reports_of_sets : (ℕ → ℕ → Bool) → (ℕ → ℕ → Bool)
    → (ℕ → List ℕ) → List SetOf → List BrokenOf
reports_of_sets one_key clash key sets = filter_map (report_of_set one_key clash key) sets

-- the one of two sets that stands first
abbrev pub earlier_set : SetOf → SetOf → SetOf
earlier_set a s = if is_before s.place a.place then s else a

abbrev pub with_set : Option SetOf → SetOf → Option SetOf
with_set None s = Some s
with_set (Some a) s = Some (earlier_set a s)

-- the set with the earliest `{`; of several at one place the first in the list
abbrev pub earliest_set : List SetOf → Option SetOf
earliest_set = fold with_set None

-- says what is known where the fields of a document have been compared under their numbers
pub record AreCompared (p : PartsOf) (numbers order : List ℕ) (fields : List table.Field)
    (rows : List (List ℕ)) (fragments : List ReachedFields) : Type 0 where
  pub numbered : AreNumbered p numbers (members_of_fragment p.document) order fields
  pub decided : TellsAll (Merges (of_table.fields_of fields))
      (of_table.fields_of fields) (length fields) rows
  pub ranked : ∥ AreRanked (place_in p.document.fragments) p.document.fragments ∥₁
  pub known : Knows rows numbers fragments (place_in p.document.fragments)
      (members_of_fragment p.document)
