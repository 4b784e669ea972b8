-- Definitions of what is read back of a text without errors, token by token: what has begun and not ended, and the steps to what is put
-- next. Keys stand in the text, and items are counted.
use Rattle.std.specs.Prelude.{◌≡◌, ◌≤◌, ℕ, suc, Bool, true, false, List, [], ◌∷◌, take, drop, length, if◌then◌else◌}
use Rattle.load_memory.specs.Outcomes.{OutcomeOf}
use Rattle.json.specs.Token.{Token, begin_object, end_object, begin_array, end_array, key, string, number, boolean, null, bad}
use Rattle.execution.specs.Program.{Kind, ListOf, ObjectOf, Part, Key, Item, Program, Is, Read, Under, Programs, End, With}
use Rattle.plan_walk.specs.Puts.{Put, Begins, Ends, Enters, Has, Reads, Waits}
use Rattle.gq_resolve.specs.Texted.{OpenOf, WrittenOf, written, begun, ended_in, entered_at}

-- ---- puts in order

-- an object or a list that has begun, and how many positions of it were entered
pub record ShapeOf : Type 0 where
  pub kind : Kind
  pub count : ℕ

-- Says where the next put stands: in which objects and lists, innermost first, and whether a position was entered last, at which nothing
-- was put yet.
pub record StandsAt : Type 0 where
  pub within : List ShapeOf
  pub entered : Bool

-- an item goes by its number, and a field by its key
abbrev pub IsStep : Kind → ℕ → Part → Type 0
IsStep ListOf n part = part ≡ Item n
IsStep ObjectOf n (Key k) = Unit {0}
IsStep ObjectOf n (Item i) = ⊥

abbrev pub is_past : StandsAt → StandsAt
is_past s = record s { entered = false }

-- the put may stand at the first, and what follows it stands at the second
abbrev pub IsNext : Put → StandsAt → StandsAt → Type 0
IsNext (Begins kind) s t = (s.entered ≡ true)
    × (t ≡ record { within = record { kind = kind; count = 0 } ∷ s.within; entered = false })
IsNext (Ends kind non_null) s t = (s.entered ≡ false) × (t.entered ≡ false)
    × (n : ℕ) × (s.within ≡ record { kind = kind; count = n } ∷ t.within)
IsNext (Enters kind position) s t = (s.entered ≡ false) × (n : ℕ) × (rest : List ShapeOf)
    × (s.within ≡ record { kind = kind; count = n } ∷ rest) × IsStep kind n position.part
    × (t ≡ record { within = record { kind = kind; count = suc n } ∷ rest; entered = true })
IsNext (Has non_null leaf_value) s t = (s.entered ≡ true) × (t ≡ is_past s)
IsNext Reads s t = (s.entered ≡ true) × (t ≡ s)
IsNext (Waits p) s t = (s.entered ≡ true) × (t ≡ is_past s)

abbrev pub AreInOrder : List Put → StandsAt → StandsAt → Type 0
AreInOrder [] s t = t ≡ s
AreInOrder (p ∷ ps) s t = (u : StandsAt) × IsNext p s u × AreInOrder ps u t

-- before the root
abbrev pub at_root : StandsAt
at_root = record { within = []; entered = true }

-- each item of a list goes by its number, and each field of an object by its key
abbrev mutual
  pub IsNumbered : Program → Type 0
  IsNumbered (Is leaf_value) = Unit {0}
  IsNumbered (Read load next) = (outcome : OutcomeOf) → IsNumbered (next outcome)
  IsNumbered (Under kind below) = AreNumbered kind 0 below

  pub AreNumbered : Kind → ℕ → Programs → Type 0
  AreNumbered kind n End = Unit {0}
  AreNumbered kind n (With position p rest) = IsStep kind n position.part
      × IsNumbered p × AreNumbered kind (suc n) rest

-- ---- what a token is read back as

-- how many items were entered, by the steps from a list on
abbrev pub next_item : List Part → ℕ
next_item [] = 0
next_item (Item n ∷ steps) = suc n
next_item (Key k ∷ steps) = 0

-- the next item is entered, where what was begun last, which so many steps lead to, is a list
abbrev pub item_of : Kind → ℕ → WrittenOf → WrittenOf
item_of ListOf depth w = entered_at (Item (next_item (drop depth w.path))) w.place w
item_of ObjectOf depth w = w

abbrev pub item_entered : List OpenOf → WrittenOf → WrittenOf
item_entered [] w = w
item_entered (l ∷ ls) w = item_of l.kind l.depth w

abbrev pub taken : Token → WrittenOf → WrittenOf
taken begin_object w = begun ObjectOf (item_entered w.levels w)
taken end_object w = ended_in w.levels ObjectOf false w
taken begin_array w = begun ListOf (item_entered w.levels w)
taken end_array w = ended_in w.levels ListOf false w
taken (key k) w = written (key k ∷ []) (entered_at (Key k) w.place w)
taken (string s) w = written (string s ∷ []) (item_entered w.levels w)
taken (number s) w = written (number s ∷ []) (item_entered w.levels w)
taken (boolean b) w = written (boolean b ∷ []) (item_entered w.levels w)
taken null w = written (null ∷ []) (item_entered w.levels w)
taken bad w = w

abbrev pub all_taken : List Token → WrittenOf → WrittenOf
all_taken [] w = w
all_taken (t ∷ ts) w = all_taken ts (taken t w)

-- what was read back, with the item that was entered last
abbrev pub reached : StandsAt → WrittenOf → WrittenOf
reached s z = if s.entered then item_entered z.levels z else z

-- how many positions were entered, by the steps from an object or a list on
abbrev pub IsCountOf : Kind → Bool → ℕ → List Part → Type 0
IsCountOf ListOf false n steps = n ≡ next_item steps
IsCountOf ListOf true n steps = n ≡ suc (next_item steps)
IsCountOf ObjectOf entered n steps = Unit {0}

-- these have begun, and these steps lead to what was read back last
abbrev pub HaveBegun : Bool → List ShapeOf → List OpenOf → List Part → Type 0
HaveBegun entered [] [] path = Unit {0}
HaveBegun entered [] (l ∷ ls) path = ⊥
HaveBegun entered (s ∷ ss) [] path = ⊥
HaveBegun entered (s ∷ ss) (l ∷ ls) path = (l.kind ≡ s.kind)
    × IsCountOf s.kind entered s.count (drop l.depth path)
    × (l.depth ≤ length path) × HaveBegun false ss ls (take l.depth path)

-- What was read back is what was put, up to the item that was entered last, and to where errors are.
pub record IsReadBack (s : StandsAt) (w z : WrittenOf) : Type 0 where
  pub is : w ≡ record (reached s z) { place = w.place }
  pub whole : z.muted ≡ false
  pub begun : HaveBegun s.entered s.within z.levels z.path
