-- Definitions of what puts say: their tokens, where there is no error among them, and what they ask.
use Rattle.std.specs.Prelude.{◌≡◌, ◌<◌, ◌==◌, ◌+◌, ℕ, Bool, true, false, not, ◌&&◌, if◌then◌else◌, List, [], ◌∷◌, ◌++◌, decimal}
use Rattle.std.specs.List.{All, list_any, flat_map}
use Rattle.json.specs.Token.{Token, begin_object, end_object, begin_array, end_array, key, null}
use Rattle.json.specs.Tree.{json_tokens}
use Rattle.load_memory.specs.Keys.{key_of, same_key}
use Rattle.execution.specs.Loads.{Load, Reader}
use Rattle.execution.specs.Program.{LeafValue, Value, Null, Fault, Kind, ListOf, ObjectOf, Part, Key, Item, Program, needs}
use Rattle.execution.specs.Front.{missing}
use Rattle.execution.specs.Reads.{counted}
use Rattle.gq_resolve.specs.Answered.{leaf_json}
use Rattle.plan_walk.specs.Puts.{Put, Begins, Ends, Enters, Has, Reads, Waits, View, waiting}
use Rattle.plan_walk.specs.Positions.{onward_of}
use Rattle.plan_walk.specs.declared.waiting.BlockedPosition.{BlockedPosition}

-- ---- text

-- a leaf, or a null of nullable type; the others are errors
abbrev pub leaf_value_plain : Bool → LeafValue → Bool
leaf_value_plain non_null (Value leaf) = true
leaf_value_plain non_null Null = not non_null
leaf_value_plain non_null (Fault text) = false

abbrev pub is_plain : Put → Bool
is_plain (Begins kind) = true
is_plain (Ends kind non_null) = true
is_plain (Enters kind position) = true
is_plain (Has non_null leaf_value) = leaf_value_plain non_null leaf_value
is_plain Reads = true
is_plain (Waits program) = false

abbrev pub opening : Kind → Token
opening ListOf = begin_array
opening ObjectOf = begin_object

abbrev pub closing : Kind → Token
closing ListOf = end_array
closing ObjectOf = end_object

abbrev pub leaf_value_tokens : LeafValue → List Token
leaf_value_tokens (Value leaf) = json_tokens (leaf_json leaf)
leaf_value_tokens Null = null ∷ []
leaf_value_tokens (Fault text) = []

-- a field has its key before it, and an item nothing
abbrev pub part_tokens : Kind → Part → List Token
part_tokens ListOf part = []
part_tokens ObjectOf (Key k) = key k ∷ []
part_tokens ObjectOf (Item n) = key (decimal n) ∷ []

abbrev pub put_tokens : Put → List Token
put_tokens (Begins kind) = opening kind ∷ []
put_tokens (Ends kind non_null) = closing kind ∷ []
put_tokens (Enters kind position) = part_tokens kind position.part
put_tokens (Has non_null leaf_value) = leaf_value_tokens leaf_value
put_tokens Reads = []
put_tokens (Waits program) = []

-- ---- loads

-- gives what a program needs and a reader doesn't answer, depth first
abbrev pub asks : Program → Reader → List Load
asks p R = missing R (needs p R)

abbrev pub put_asks : Reader → Put → List Load
put_asks R (Begins kind) = []
put_asks R (Ends kind non_null) = []
put_asks R (Enters kind position) = []
put_asks R (Has non_null leaf_value) = []
put_asks R Reads = []
put_asks R (Waits program) = asks program R

-- gives how many loads are read
abbrev pub put_reads : Put → ℕ
put_reads (Begins kind) = 0
put_reads (Ends kind non_null) = 0
put_reads (Enters kind position) = 0
put_reads (Has non_null leaf_value) = 0
put_reads Reads = 1
put_reads (Waits program) = 0

-- so many more were counted, where a count stays at its limit
abbrev pub IsCounted : ℕ → ℕ → ℕ → Type 0
IsCounted n old new = counted new ≡ counted (old + n)

-- both are of one loader and have exactly equal keys
abbrev pub is_load : Load → Load → Bool
is_load a b = (a.loader == b.loader) && same_key a.key b.key

-- the load goes last, if it isn't there yet
abbrev pub with_load : List Load → Load → List Load
with_load noted l = if list_any (is_load l) noted then noted else noted ++ l ∷ []

-- the noted loads with these too, one after another
abbrev pub thinned : List Load → List Load → List Load
thinned noted [] = noted
thinned noted (l ∷ ls) = thinned (with_load noted l) ls

-- the program of a position that waits, by what its group does
abbrev pub left_of : View → BlockedPosition → Program
left_of v b = waiting v (onward_of b.onward) b.loader (key_of b.key)

abbrev pub all_asks : View → List BlockedPosition → Reader → List Load
all_asks v bs R = flat_map (λ (b : BlockedPosition). asks (left_of v b) R) bs

-- each group of a position that waits is below `count`
abbrev pub AreWithin : ℕ → List BlockedPosition → Type 0
AreWithin count bs = All (λ (b : BlockedPosition). b.onward.group < count) bs
