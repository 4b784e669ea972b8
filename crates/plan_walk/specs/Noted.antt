-- Positions that wait, each noted once, and what an iterator over them has left.
use Rattle.std.specs.Prelude.{◌≡◌, ◌≢◌, ◌==◌, ℕ, Bool, false, ◌&&◌, cond, List, [], ◌∷◌, ◌++◌, if◌then◌else◌}
use Rattle.std.specs.List.{list_any}
use Rattle.std.specs.Option.{option_eq, option_to_list}
use Rattle.std.specs.Iterator.Adapters.{once_item, chain_first, chain_second, chain_first_done, chain_second_done}
use Rattle.std.specs.declared.iter.Chain.{Chain}
use Rattle.std.specs.declared.iter.Once.{Once}
use Rattle.load_memory.specs.Keys.{KeyOf, key_of, same_key}
use Rattle.plan_walk.specs.declared.positions.Onward.{Onward}
use Rattle.plan_walk.specs.declared.waiting.BlockedPosition.{BlockedPosition}
use Rattle.plan_walk.specs.declared.waiting.HeldPositions.{HeldPositions}
use Rattle.plan_walk.specs.declared.waiting.HeldPositions.TheVariants.{Nothing, One, Several}

-- the positions that are held
abbrev pub positions_in : HeldPositions → List BlockedPosition
positions_in Nothing = []
positions_in (One position) = position ∷ []
positions_in (Several table) = table.value.positions.keys

-- in a table there is one at least
abbrev pub IsHeld : HeldPositions → Type 0
IsHeld Nothing = Unit {0}
IsHeld (One position) = Unit {0}
IsHeld (Several table) = table.value.positions.keys ≢ []

-- both go on alike
abbrev pub is_onward : Onward → Onward → Bool
is_onward a b = (a.group == b.group)
    && (option_eq (λ (n m : ℕ). n == m) a.later b.later && (a.levels == b.levels))

-- both go on alike after the same load
abbrev pub is_position : BlockedPosition → BlockedPosition → Bool
is_position a b = is_onward a.onward b.onward
    && ((a.loader == b.loader) && same_key (key_of a.key) (key_of b.key))

-- the position goes last, if it isn't there yet
abbrev pub with_position : List BlockedPosition → BlockedPosition → List BlockedPosition
with_position bs b = if list_any (is_position b) bs then bs else bs ++ b ∷ []

-- The second has the positions of the first and this one, which goes on so after the load of such a key: it goes last, if it
-- isn't there yet.
pub record IsNoted (onward : Onward) (loader : ℕ) (key : KeyOf)
    (old new : List BlockedPosition) : Type 0 where
  pub position : BlockedPosition
  pub goes_on : position.onward ≡ onward
  pub loads : (position.loader ≡ loader) × (key_of position.key ≡ key)
  pub noted : new ≡ with_position old position

-- Positions that a chain has left, where `rest` gives those of its first part
abbrev pub chain_rest : {S : Type 0} → (S → List BlockedPosition)
    → Chain S (List BlockedPosition) → List BlockedPosition
chain_rest rest i = cond (chain_first_done i) [] (rest (chain_first i))
    ++ cond (chain_second_done i) [] (chain_second i)

abbrev pub left_of_own : Chain (Once BlockedPosition) (List BlockedPosition) → List BlockedPosition
left_of_own = chain_rest (λ i. option_to_list (once_item i))

-- a chain that is to go over these positions
pub record IsOver {S : Type 0} (left : Chain S (List BlockedPosition) → List BlockedPosition)
    (bs : List BlockedPosition) (i : Chain S (List BlockedPosition)) : Type 0 where
  pub all : left i ≡ bs
  pub first : chain_first_done i ≡ false
  pub second : chain_second_done i ≡ false
