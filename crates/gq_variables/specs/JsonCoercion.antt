-- The coercion of JSON values to types (sections 3.5 and 3.9 to 3.12, Input Coercion). An `Int` takes an integer within signed
-- 32 bits, an `ID` a string or an integer within 64 bits (signed or unsigned), which is taken in decimal, a `String` a string,
-- a `Boolean` true or false, an enum a string among its values. A list takes an array item by item, and another value as a
-- list of one. `null` is right where a type may be null. A number that is held as a float is never right, nor is an object.
use Rattle.std.specs.Prelude.{ℕ, ℤ, pos, negsuc, Bool, ◌&&◌, ◌||◌, List, Option, Some, None, codes, bytes_eq, int_lt, int_le, if◌then◌else◌}
use Rattle.std.specs.Fmt.{signed_decimal}
use Rattle.serde_json.specs.Data.{Num, unsigned, negative, float, Data, null, boolean, number, string, array, object, Items, no_items, item}
use Rattle.gq_parser.specs.Tree.{TypeTree, Named, ListOf}
use Rattle.schema_syntax.specs.Tree.{Definition}
use Rattle.gq_schema.specs.Types.{has_value}
use Rattle.gq_schema.specs.Inputs.{Input, Null, Text, Inputs, no_input}
use Rattle.gq_schema.specs.Coercion.{from_boolean, int_input, and_items, list_input, one_item}

-- the least number of signed 32 bits, -(2 ^ 31)
abbrev pub least : ℤ
least = negsuc 2147483647

-- a number within signed 32 bits
abbrev pub within_32 : ℤ → Option ℤ
within_32 z = if int_le least z && int_lt z (pos 2147483648) then Some z else None

-- at the type of this name, what an integer gives
abbrev pub from_integer : List ℕ → ℤ → Option Input
from_integer name z =
    if bytes_eq name (codes "Int") then int_input (within_32 z)
    else if bytes_eq name (codes "ID") then Some (Text (signed_decimal z))
    else None

-- gives what a number gives: the integer that it is held as
abbrev pub from_number : List ℕ → Num → Option Input
from_number name (unsigned n) = from_integer name (pos n)
from_number name (negative z) = from_integer name z
from_number name (float x) = None

-- gives what a string gives
abbrev pub from_string : List Definition → List ℕ → List ℕ → Option Input
from_string defs name s =
    if bytes_eq name (codes "ID") || (bytes_eq name (codes "String") || has_value defs name s)
    then Some (Text s) else None

-- gives what a value gives at the type of this name
abbrev pub named_data : List Definition → List ℕ → Bool → Data → Option Input
named_data defs name non_null null = if non_null then None else Some Null
named_data defs name non_null (boolean b) = from_boolean name b
named_data defs name non_null (number n) = from_number name n
named_data defs name non_null (string s) = from_string defs name s
named_data defs name non_null (array ds) = None
named_data defs name non_null (object ms) = None

-- each item, where each gives a value
abbrev pub all_data : (Data → Option Input) → Items → Option Inputs
all_data each no_items = Some no_input
all_data each (item d ds) = and_items (each d) (all_data each ds)

-- gives what a value gives at a list, where each says what a value gives at its items
abbrev pub list_data : (Data → Option Input) → Bool → Data → Option Input
list_data each non_null null = if non_null then None else Some Null
list_data each non_null (boolean b) = one_item (each (boolean b))
list_data each non_null (number n) = one_item (each (number n))
list_data each non_null (string s) = one_item (each (string s))
list_data each non_null (array ds) = list_input (all_data each ds)
list_data each non_null (object ms) = one_item (each (object ms))

-- gives what a JSON value gives at a type, where it is right
abbrev pub data_input : List Definition → TypeTree → Data → Option Input
data_input defs (Named p n non_null) d = named_data defs n non_null d
data_input defs (ListOf p t non_null) d = list_data (data_input defs t) non_null d
