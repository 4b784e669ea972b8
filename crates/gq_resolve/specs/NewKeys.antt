-- Positions that wait, the keys of which are new among the wants.
use Rattle.std.specs.Prelude.{◌≡◌, ◌⊎◌, ℕ, false, List, [], ◌∷◌, Option, Some, None, slice_get, slice_set}
use Rattle.load_memory.specs.Keys.{key_of}
use Rattle.load_memory.specs.declared.key.KeyMode.TheVariants.{Exact}
use Rattle.load_queue.specs.Wanted.{WantedOf, mode_wanted, keys_wanted, is_key_wanted, with_wanted}
use Rattle.plan_walk.specs.declared.positions.Onward.{Onward}
use Rattle.plan_walk.specs.declared.waiting.BlockedPosition.{BlockedPosition}

-- none of the keys is wanted, once those before it were added
abbrev pub AreNew : List WantedOf → List BlockedPosition → Type 0
AreNew wants [] = Unit {0}
AreNew wants (b ∷ bs) = (is_key_wanted wants b.loader (key_of b.key) ≡ false)
    × AreNew (with_wanted wants b.loader (key_of b.key)) bs

-- nothing is wanted of the loader, which compares its keys exactly
abbrev pub IsUntouched : List WantedOf → ℕ → Type 0
IsUntouched wants loader = (keys_wanted wants loader ≡ []) × (mode_wanted wants loader ≡ Exact)

-- that the positions of a loader go on so stood there, or is put there, where it is untouched
abbrev pub Notes : Onward → ℕ → List WantedOf → List (Option Onward) → List (Option Onward) → Type 0
Notes onward loader wants old new =
    ((slice_get old loader ≡ Some (Some onward)) × (new ≡ old))
    ⊎ ((slice_get old loader ≡ Some None)
    × (new ≡ slice_set old loader (Some onward)) × IsUntouched wants loader)
