-- Orders of fragments, each after those that it spreads.
use Rattle.std.specs.Prelude.{◌≡◌, ◌<◌, ℕ, Bool, true, false, List, length, take, Some, slice_get, slice_index_or}
use Rattle.std.specs.List.{list_all}
use Rattle.rules_parts.specs.declared.part.Owner.TheVariants as owner
use Rattle.merging_pairs.specs.Numbered.{is_in}
use Rattle.rules_spreads.specs.Graphs.{GraphOf, row}
use Rattle.rules_spreads.specs.Reach.{spreads, is_cyclic, are_known}
use Rattle.rules_spreads.specs.SpreadReaches.{IsMarked}

-- no fragment reaches itself
pub record IsFree (g : GraphOf) : Type 0 where
  pub known : are_known g ≡ true
  pub free : (x : ℕ) → x < length g.fragments → is_cyclic g x ≡ false

-- each fragment stands in the order, after those that it spreads
pub record IsGraphOrder (g : GraphOf) (order : List ℕ) : Type 0 where
  pub all : (x : ℕ) → x < length g.fragments → is_in order x ≡ true
  pub below : (k x : ℕ) → slice_get order k ≡ Some x → x < length g.fragments
  pub after : (k x j : ℕ) → slice_get order k ≡ Some x
      → spreads g (owner.Fragment x) j ≡ true → is_in (take k order) j ≡ true

-- ---- how an order is made

abbrev pub are_marked : List Bool → List ℕ → Bool
are_marked marks xs = list_all (λ x. slice_index_or marks x false) xs

-- it stands before this place
pub record Stands (order : List ℕ) (place x : ℕ) : Type 0 where
  pub at : ℕ
  pub before : at < place
  pub there : slice_get order at ≡ Some x

-- a part of an order, with what stands in it marked
pub record IsPart (g : GraphOf) (order : List ℕ) (marks : List Bool) : Type 0 where
  pub len : length marks ≡ length g.fragments
  pub below : (k x : ℕ) → slice_get order k ≡ Some x → x < length g.fragments
  pub after : (k x j : ℕ) → slice_get order k ≡ Some x
      → spreads g (owner.Fragment x) j ≡ true → Stands order k j
  pub marked : (x : ℕ) → IsMarked marks x → Stands order (length order) x

-- a fragment is marked if all that it spreads were marked before
abbrev pub TakesReady : GraphOf → List Bool → List Bool → ℕ → Type 0
TakesReady g old new x = x < length g.fragments
    → are_marked old (row g (owner.Fragment x)) ≡ true → IsMarked new x
