-- *Finite memory*: the pairs of a loader's number and a cache key with an outcome, and what they say of a key.
use Rattle.std.specs.Prelude.{◌≡◌, ◌==◌, ◌&&◌, ℕ, Bool, List, [], ◌∷◌, ◌++◌, Option, Some, None, if◌then◌else◌, is_some}
use Rattle.std.specs.List.{IsDistinct}
use Rattle.std.specs.Option.{option_or}
use Rattle.load_memory.specs.Keys.{KeyOf, same_key}
use Rattle.load_memory.specs.Outcomes.{OutcomeOf, known, batch_fault}
use Rattle.load_memory.specs.declared.key.KeyMode.{KeyMode}

pub record PairOf : Type 0 where
  pub loader : ℕ
  pub key : KeyOf
  pub outcome : OutcomeOf

abbrev pub pair_of : ℕ → KeyOf → OutcomeOf → PairOf
pair_of loader key outcome = record { loader = loader; key = key; outcome = outcome }

-- says what contracts see of a memory: the mode of each loader, and the pairs in no order that means anything
pub record MemoryOf : Type 0 where
  pub modes : List KeyMode
  pub pairs : List PairOf

abbrev pub is_at : ℕ → KeyOf → PairOf → Bool
is_at loader key p = loader == p.loader && same_key key p.key

-- the map that the pairs are
abbrev pub look : List PairOf → ℕ → KeyOf → Option OutcomeOf
look [] loader key = None
look (p ∷ ps) loader key = if is_at loader key p then Some p.outcome else look ps loader key

-- the pairs are one map, in whatever order
abbrev pub IsSameMap : List PairOf → List PairOf → Type 0
IsSameMap ps qs = (loader : ℕ) (key : KeyOf) → look ps loader key ≡ look qs loader key

-- each key has one pair, so there are as many pairs as the map has keys
abbrev pub AreApart : List PairOf → Type 0
AreApart ps = IsDistinct (λ p q. is_at p.loader p.key q) ps

-- the pairs with one more, where its key is absent
abbrev pub primed : List PairOf → PairOf → List PairOf
primed ps p = if is_some (look ps p.loader p.key) then ps else ps ++ p ∷ []

-- the second is the map of the first without the keys that a test names
abbrev pub IsWithout : (ℕ → KeyOf → Bool) → List PairOf → List PairOf → Type 0
IsWithout names old new = (loader : ℕ) (key : KeyOf)
    → look new loader key ≡ (if names loader key then None else look old loader key)

-- the test that names one key of one loader
abbrev pub is_key : ℕ → KeyOf → ℕ → KeyOf → Bool
is_key at cached loader key = (at == loader) && same_key cached key

-- gives what is known, unless the batch failed as a whole
abbrev pub unless_failed : Option OutcomeOf → Option OutcomeOf
unless_failed None = None
unless_failed (Some (known item)) = Some (known item)
unless_failed (Some (batch_fault text)) = None

-- the second is the map of the first without batch faults
abbrev pub IsUnfailed : List PairOf → List PairOf → Type 0
IsUnfailed old new = (loader : ℕ) (key : KeyOf)
    → look new loader key ≡ unless_failed (look old loader key)

-- says the same of one loader's pairs alone
abbrev pub IsUnfailedAt : ℕ → List PairOf → List PairOf → Type 0
IsUnfailedAt at old new = (loader : ℕ) (key : KeyOf) → look new loader key
    ≡ (if at == loader then unless_failed (look old loader key) else look old loader key)

-- the last is the map of the first with those of some more pairs whose keys are absent, of equal keys the first
abbrev pub IsWith : List PairOf → List PairOf → List PairOf → Type 0
IsWith old more new = (loader : ℕ) (key : KeyOf)
    → look new loader key ≡ option_or (look old loader key) (look more loader key)
