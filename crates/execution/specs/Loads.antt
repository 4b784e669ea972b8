-- Loads, and what a memory says of them. A memory is a finite map from a loader's number and a cache key to an outcome;
-- two loads of one loader with equal cache keys are answered by one pair of it.
use Rattle.std.specs.Prelude.{◌≡◌, ◌==◌, ◌&&◌, ◌⊎◌, ℕ, Bool, List, [], ◌∷◌, Option, Some}
pub use Rattle.load_memory.specs.Keys.{mode_at}
use Rattle.load_memory.specs.Keys.{KeyOf, folded, same_key}
use Rattle.load_memory.specs.Outcomes.{OutcomeOf}
use Rattle.load_memory.specs.declared.key.KeyMode.{KeyMode}

-- a key that is asked of the loader of a number
pub record Load : Type 0 where
  pub loader : ℕ
  pub key : KeyOf

-- says what each load is answered, or that it isn't
abbrev pub Reader : Type 0
Reader = Load → Option OutcomeOf

-- by loader and cache key
abbrev pub Memory : Type 0
Memory = ℕ → KeyOf → Option OutcomeOf

abbrev pub cache_key : List KeyMode → Load → KeyOf
cache_key modes load = folded (mode_at modes load.loader) load.key

-- a memory, read one load at a time
abbrev pub read : List KeyMode → Memory → Reader
read modes M load = M load.loader (cache_key modes load)

-- both are of one loader and have equal cache keys
abbrev pub same : List KeyMode → Load → Load → Bool
same modes a b = (a.loader == b.loader) && same_key (cache_key modes a) (cache_key modes b)

abbrev pub IsOneOf : {X : Type 0} → X → List X → Type 0
IsOneOf x [] = ⊥
IsOneOf x (y ∷ ys) = (x ≡ y) ⊎ IsOneOf x ys

-- says what the first answers, the second answers so too
abbrev pub AnswersMore : Reader → Reader → Type 0
AnswersMore R Q = (load : Load) (outcome : OutcomeOf)
    → R load ≡ Some outcome → Q load ≡ Some outcome

-- the second memory has each pair of the first
abbrev pub Extends : Memory → Memory → Type 0
Extends M N = (loader : ℕ) (key : KeyOf) (outcome : OutcomeOf)
    → M loader key ≡ Some outcome → N loader key ≡ Some outcome
