-- Lists of keys: one by itself, or a range of a list that is shared.
use Rattle.std.specs.Prelude.{◌≡◌, ◌≤◌, ⊤, ℕ, List, [], ◌∷◌, length, slice_range}
use Rattle.std.specs.Arc.{arc_value}
use Rattle.load_memory.specs.declared.key.Key.{Key}
use Rattle.load_memory.specs.declared.key.Key.TheVariants.{All, Text, Pair}
use Rattle.load_memory.specs.declared.keys.KeyRange.{KeyRange}
use Rattle.load_memory.specs.declared.keys.HeldKeys.{HeldKeys}
use Rattle.load_memory.specs.declared.keys.HeldKeys.TheVariants as held

abbrev pub keys_held : HeldKeys → List Key
keys_held held.None = []
keys_held (held.One key) = key ∷ []
keys_held (held.Range r) = slice_range (arc_value r.list).items r.from r.to

-- no key, or one that is no pair
abbrev pub AreFew : List Key → Type 0
AreFew [] = ⊤
AreFew (All ∷ []) = ⊤
AreFew (Text t ∷ []) = ⊤
AreFew (Pair p ∷ []) = ⊥
AreFew (key ∷ next ∷ keys) = ⊥

-- No public clause names it. A range lies in its list, and a key by itself is no pair.
abbrev pub AreHeld : HeldKeys → Type 0
AreHeld held.None = ⊤
AreHeld (held.One key) = AreFew (key ∷ [])
AreHeld (held.Range r) = (r.from ≤ r.to) × (r.to ≤ length (arc_value r.list).items)

-- a range has all keys of a list
pub record IsAllOf (keys : List Key) (all : KeyRange) : Type 0 where
  pub list : (arc_value all.list).items ≡ keys
  pub from : all.from ≡ 0
  pub to : all.to ≡ length keys

-- a range of the same list, from one place of it to another
pub record IsPartOf (range : KeyRange) (first last : ℕ) (part : KeyRange) : Type 0 where
  pub list : arc_value part.list ≡ arc_value range.list
  pub from : part.from ≡ first
  pub to : part.to ≡ last
