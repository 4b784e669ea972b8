-- Definitions of what a walk keeps: which fragments are marked, and the list of those.
use Rattle.std.specs.Prelude.{◌≡◌, ◌⊎◌, ◌+◌, ◌≤◌, ◌<◌, ℕ, Bool, true, false, List, [], ◌∷◌, length, slice_index_or, if◌then◌else◌}
use Rattle.rules_spreads.specs.Reach.{is_among}

abbrev pub IsMarked : List Bool → ℕ → Type 0
IsMarked marks k = slice_index_or marks k false ≡ true

abbrev pub AreClear : List Bool → Type 0
AreClear marks = (k : ℕ) → slice_index_or marks k false ≡ false

-- all that is marked is listed
abbrev pub AreListed : List Bool → List ℕ → Type 0
AreListed marks reached = (k : ℕ) → IsMarked marks k → is_among k reached ≡ true

-- gives how many are not marked
abbrev pub unmarked : List Bool → ℕ
unmarked [] = 0
unmarked (b ∷ bs) = (if b then 0 else 1) + unmarked bs

-- says what a visit of targets does to the marks and to the list
pub record Visits (marks marks' : List Bool) (reached reached' targets : List ℕ) : Type 0 where
  pub len : length marks' ≡ length marks
  pub grows : (k : ℕ) → IsMarked marks k → IsMarked marks' k
  pub all : (k : ℕ) → is_among k targets ≡ true → IsMarked marks' k
  pub only : (k : ℕ) → IsMarked marks' k → IsMarked marks k ⊎ (is_among k targets ≡ true)
  pub kept : (k : ℕ) → is_among k reached ≡ true → is_among k reached' ≡ true
  pub new : (k : ℕ) → IsMarked marks' k → IsMarked marks k ⊎ (is_among k reached' ≡ true)
  pub listed : (k : ℕ) → is_among k reached' ≡ true
      → (is_among k reached ≡ true) ⊎ IsMarked marks' k
  pub longer : length reached ≤ length reached'
  pub front : (i : ℕ) → i < length reached
      → slice_index_or reached' i 0 ≡ slice_index_or reached i 0
  pub count : unmarked marks' + length reached' ≡ unmarked marks + length reached
