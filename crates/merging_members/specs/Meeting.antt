-- Definitions of where the first member of a set that passes a test is met.
use Rattle.std.specs.Prelude.{◌≡◌, ℕ, Bool, true, List, Option, Some, None, IsSome, find}
use Rattle.merging_members.specs.declared.meeting.Met.{Met}
use Rattle.merging_members.specs.declared.meeting.Met.TheVariants.{Field, Fragment}
use Rattle.merging_members.specs.declared.meeting.Came.{Came}
use Rattle.merging_members.specs.declared.meeting.Came.TheVariants.{Met as to_met, Past}

-- it is the first in the fragment of a name, which has one
pub record IsIn (place : List ℕ → Option ℕ) (spread : List ℕ → List ℕ) (test : ℕ → Bool)
    (found : Option ℕ) (j : ℕ) : Type 0 where
  pub name : List ℕ
  pub at : place name ≡ Some j
  pub same : found ≡ find test (spread name)
  pub some : IsSome found

-- says what is said of the first that passes
abbrev pub IsMet : (List ℕ → Option ℕ) → (List ℕ → List ℕ)
    → (ℕ → Bool) → Option ℕ → Option Met → Type 0
IsMet place spread test found None = found ≡ None
IsMet place spread test found (Some (Field n)) = found ≡ Some n
IsMet place spread test found (Some (Fragment j)) = IsIn place spread test found j

-- gives what was met, where a walk came so far
abbrev pub met_of : Came → Option Met
met_of (to_met m) = Some m
met_of (Past n) = None

-- a walk past all of some fields came to the number after them
abbrev pub IsPast : ℕ → Came → Type 0
IsPast end (to_met m) = Unit {0}
IsPast end (Past n) = n ≡ end

-- a fragment that is met is that of a name that passes a test
abbrev pub IsSpread : (List ℕ → Option ℕ) → (List ℕ → Bool) → Option Met → Type 0
IsSpread place test (Some (Fragment j)) = (name : List ℕ)
    × (place name ≡ Some j) × (test name ≡ true)
IsSpread place test _ = Unit {0}
