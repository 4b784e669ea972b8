-- Lemmas on what is looked up in a memory: of the loads of its loaders what it says, and of others
-- nothing.
use Rattle.std.proofs.Common.{◌≡◌, ℕ, ◌<◌, ◌≤◌, Bool, true, false, List, [], length, Option, Some, None, refl, sym, ap, ◌∙◌, arith, if◌then◌else◌}
use Rattle.std.specs.Prelude.{nat_lt}
use Rattle.std.proofs.lemmas.Bool.Decides.{nat_tests}
use Rattle.load_memory.specs.Keys.{KeyOf, folded, mode_at}
use Rattle.load_memory.specs.Outcomes.{OutcomeOf}
use Rattle.load_memory.specs.Pairs.{MemoryOf, look}
use Rattle.load_memory.specs.declared.key.KeyMode.{KeyMode}
use Rattle.execution.specs.Loads.{Load, read, cache_key, AnswersMore}
use Rattle.execution.specs.Executes.{GrowsTo}
use Rattle.plan_walk.specs.Reading.{reader, lookup}

below-true : (a b : ℕ) → a < b → nat_lt a b ≡ true
below-true a b h = grind (arith, nat_tests)

-- the memory has the loader
pub lookup-same : (m : MemoryOf) (n : ℕ) → n ≤ length m.modes → (load : Load) → load.loader < n → lookup m load ≡ reader m load
lookup-same m n le load lt = let e : nat_lt load.loader (length m.modes) ≡ true = below-true load.loader (length m.modes) (omega arith) in rw e refl

-- what its pairs say of a key of the loader is what is looked up
pub looked-up : (m : MemoryOf) (loader : ℕ) (key : KeyOf) → loader < length m.modes → look m.pairs loader (folded (mode_at m.modes loader) key) ≡ lookup m (record { loader = loader; key = key })
looked-up m loader key lt = sym (lookup-same m (length m.modes) (omega arith) (record { loader = loader; key = key }) lt)

-- a memory of no pairs says nothing
pub lookup-nothing : (m : MemoryOf) (load : Load) → m.pairs ≡ [] → lookup m load ≡ None
lookup-nothing m load none = go (nat_lt load.loader (length m.modes)) refl
  where
    go : (b : Bool) → nat_lt load.loader (length m.modes) ≡ b → lookup m load ≡ None
    go true e = rw (e, none) refl
    go false e = rw e refl

-- gives what a memory would say if it had these modes
abbrev with_modes : MemoryOf → Load → List KeyMode → Option OutcomeOf
with_modes m load modes = if nat_lt load.loader (length modes) then read modes (look m.pairs) load else None

-- a memory that has grown says all that it said before
pub lookup-more : (m n : MemoryOf) → GrowsTo m n → AnswersMore (lookup m) (lookup n)
lookup-more m n grown load outcome h = ap (with_modes n load) grown.modes ∙ go (nat_lt load.loader (length m.modes)) refl
  where
    go : (b : Bool) → nat_lt load.loader (length m.modes) ≡ b → with_modes n load m.modes ≡ Some outcome
    go true e = let here : reader m load ≡ Some outcome = rw e at h in rw e (grown.pairs load.loader (cache_key m.modes load) outcome here)
    go false e = let none : None ≡ Some outcome = rw e at h in absurd (cc none)
