-- *Field Selection Merging* (section 5.3.2): what breaks it.
use Rattle.std.specs.Prelude.{◌≡◌, ℕ, List, [], ◌∷◌, Option}
use Rattle.rules_parts.specs.Broken.{BrokenOf, earliest}
use Rattle.rules_parts.specs.Parts.{PartsOf}
use Rattle.merging_pairs.specs.Merging.{Fields, CanMerge, IsFirst}
use Rattle.merging_fields.specs.Compare.{response_key}
use Rattle.merging_pairs.specs.Numbered.{is_in}
use Rattle.merging_members.specs.Members.{SetOf, sets_of}
use Rattle.merging_fields.specs.Members.{at, fields_of}

-- Of these sets, those that can't be merged: for each the place of its `{` and the first response key, in order of first meeting,
-- with a failing pair.
pub data AreBroken (D : Fields ℕ) (key : ℕ → List ℕ) : List SetOf → List BrokenOf → Type 0 where
  none : AreBroken D key [] []
  merges : {s : SetOf} {ss : List SetOf} {bs : List BrokenOf}
      → CanMerge D (is_in s.members) → AreBroken D key ss bs → AreBroken D key (s ∷ ss) bs
  fails : {s : SetOf} {ss : List SetOf} {bs : List BrokenOf} {f : ℕ}
      → (CanMerge D (is_in s.members) → ⊥)
      → IsFirst D (is_in s.members) f s.members
      → AreBroken D key ss bs
      → AreBroken D key (s ∷ ss) (record { name = key f; place = s.place } ∷ bs)

-- the response key of the field of a number
abbrev pub key_of : PartsOf → ℕ → List ℕ
key_of p = at response_key [] p.fields

-- says what breaks the rule, in the order of the document's selection sets
abbrev pub FieldMerging : PartsOf → List BrokenOf → Type 0
FieldMerging p bs = AreBroken (fields_of p) (key_of p) (sets_of p.document) bs

-- says what is reported: the broken set with the earliest `{`, if any is broken
abbrev pub IsMerging : PartsOf → Option BrokenOf → Type 0
IsMerging p report = (bs : List BrokenOf) × FieldMerging p bs × (report ≡ earliest bs)
