-- Definitions of which fields of a set clash, and the first of them whose response key has a clash. A set is a list of its fields in order
-- of first meeting.
use Rattle.std.specs.Prelude.{◌≡◌, ◌<◌, ℕ, Bool, true, false, ◌&&◌, List, Option, length}
use Rattle.std.specs.List.{list_any, find}
use Rattle.merging_pairs.specs.declared.field.Field.{Field}
use Rattle.merging_pairs.specs.declared.sets.ReachedFields.{ReachedFields}
use Rattle.merging_pairs.specs.Entered.{IsReached}
use Rattle.merging_pairs.specs.Numbered.{fields_of, is_in}
use Rattle.merging_pairs.specs.Sets.{has}
use Rattle.merging_pairs.specs.Table.{fail}

-- a field with the response key of field f clashes with another of the set
abbrev pub key_clashes : (ℕ → ℕ → Bool) → (ℕ → ℕ → Bool) → List ℕ → ℕ → Bool
key_clashes one_key clash ms f = list_any (λ a. one_key a f && list_any (clash a) ms) ms

-- the first of a set whose response key has a clash
abbrev pub first_clash : (ℕ → ℕ → Bool) → (ℕ → ℕ → Bool) → List ℕ → Option ℕ
first_clash one_key clash ms = find (key_clashes one_key clash ms) ms

-- a marked member with the response key of field f
pub record MarkedKey (one_key : ℕ → ℕ → Bool) (members marks : List ℕ) (n f : ℕ) : Type 0 where
  pub one : ℕ
  pub below : one < n
  pub key : one_key one f ≡ true
  pub member : has members one ≡ true
  pub mark : has marks one ≡ true

-- a test tells whether there is one
pub record TestsKey (one_key : ℕ → ℕ → Bool) (members marks : List ℕ) (n f : ℕ)
    (tested : Bool) : Type 0 where
  pub found : tested ≡ true → MarkedKey one_key members marks n f
  pub none : tested ≡ false → MarkedKey one_key members marks n f → ⊥

-- the fields whose response key has a clash in a set, whatever set of these fields was reached
abbrev pub AreFailingKeys : List Field → ReachedFields → List ℕ → Type 0
AreFailingKeys fields reached keys = (rows : List (List ℕ)) (ms : List ℕ)
    → ((c : ℕ) → is_in ms c ≡ true → c < length fields) → IsReached rows ms reached
    → (f : ℕ) → f < length fields
    → has keys f ≡ key_clashes (fields_of fields).one_key (fail rows) ms f

-- two of a set clash
abbrev pub has_clash : (ℕ → ℕ → Bool) → List ℕ → Bool
has_clash clash ms = list_any (λ a. list_any (clash a) ms) ms
