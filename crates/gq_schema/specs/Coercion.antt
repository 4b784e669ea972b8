-- The coercion of literals to types (section 3.5 and 3.9 to 3.12, Input Coercion). An ID takes the text of an Int as it is
-- written; a list takes another value as a list of one; `null` is right where a type may be null. Floats, objects, and
-- values of an object type, an interface or a union are never right.
use Rattle.std.specs.Prelude.{ℕ, ℤ, ◌^◌, Bool, ◌&&◌, ◌||◌, is_some, List, length, Option, Some, None, codes, bytes_eq, nat_lt, nat_le, if◌then◌else◌}
use Rattle.std.specs.Str.{all_ascii_digits}
use Rattle.std.specs.Str.Parse.{digits_value, signed_digits_value, starts_with_minus, without_leading_sign}
use Rattle.text_place.specs.declared.place.Place.{Place}
use Rattle.gq_parser.specs.Tree.{TypeTree, Named, ListOf, Value, Variable, Float, Enum, Array, Object, Values, no_value, and_value}
use Rattle.gq_parser.specs.Tree as literal
use Rattle.schema_syntax.specs.Tree.{Definition}
use Rattle.gq_schema.specs.Types.{has_value}
use Rattle.gq_schema.specs.Inputs.{Input, Null, Int, Text, Boolean, Items, Inputs, no_input, and_input}

-- one digit or more, and nothing else
abbrev pub is_numeral : List ℕ → Bool
is_numeral ds = nat_lt 0 (length ds) && all_ascii_digits ds

-- the digits of the text of an Int write a number within signed 32 bits
abbrev pub is_in_range : List ℕ → Bool
is_in_range text =
    let n = digits_value 10 (without_leading_sign text) in
    if starts_with_minus text then nat_le n (2 ^ 31) else nat_lt n (2 ^ 31)

-- the number that the text of an Int writes, within signed 32 bits
abbrev pub int_of : List ℕ → Option ℤ
int_of text = if is_numeral (without_leading_sign text) && is_in_range text
    then Some (signed_digits_value 10 text) else None

abbrev pub int_input : Option ℤ → Option Input
int_input (Some z) = Some (Int z)
int_input None = None

-- at the type of this name, what a number's text gives
abbrev pub from_int : List ℕ → List ℕ → Option Input
from_int name text =
    if bytes_eq name (codes "Int") then int_input (int_of text)
    else if bytes_eq name (codes "ID") then Some (Text text)
    else None

-- gives what a string gives
abbrev pub from_text : List ℕ → List ℕ → Option Input
from_text name text =
    if bytes_eq name (codes "ID") || bytes_eq name (codes "String") then Some (Text text) else None

abbrev pub from_boolean : List ℕ → Bool → Option Input
from_boolean name b = if bytes_eq name (codes "Boolean") then Some (Boolean b) else None

-- gives what a name gives at an enum, where it is among the values
abbrev pub from_enum : List Definition → List ℕ → List ℕ → Option Input
from_enum defs name value = if has_value defs name value then Some (Text value) else None

-- gives what a value gives at the type of this name; variables give what is stated first
abbrev pub named_value : Option Input → List Definition → List ℕ → Bool → Value → Option Input
named_value variable defs name non_null (literal.Null p) = if non_null then None else Some Null
named_value variable defs name non_null (Variable p v) = variable
named_value variable defs name non_null (literal.Int p text) = from_int name text
named_value variable defs name non_null (Float p text) = None
named_value variable defs name non_null (literal.Text p text) = from_text name text
named_value variable defs name non_null (literal.Boolean p b) = from_boolean name b
named_value variable defs name non_null (Enum p v) = from_enum defs name v
named_value variable defs name non_null (Array p vs) = None
named_value variable defs name non_null (Object p ms) = None

abbrev pub and_items : Option Input → Option Inputs → Option Inputs
and_items (Some i) (Some is) = Some (and_input i is)
and_items _ _ = None

-- each item, where each gives a value
abbrev pub all_items : (Value → Option Input) → Values → Option Inputs
all_items item no_value = Some no_input
all_items item (and_value v vs) = and_items (item v) (all_items item vs)

abbrev pub list_input : Option Inputs → Option Input
list_input (Some is) = Some (Items is)
list_input None = None

abbrev pub one_item : Option Input → Option Input
one_item (Some i) = Some (Items (and_input i no_input))
one_item None = None

-- gives what a value gives at a list, where item says what a value gives at its items
abbrev pub list_value : Option Input → (Value → Option Input) → Bool → Value → Option Input
list_value variable item non_null (literal.Null p) = if non_null then None else Some Null
list_value variable item non_null (Variable p v) = variable
list_value variable item non_null (Array p vs) = list_input (all_items item vs)
list_value variable item non_null v = one_item (item v)

abbrev pub value_with : Option Input → List Definition → TypeTree → Value → Option Input
value_with variable defs (Named p n non_null) v = named_value variable defs n non_null v
value_with variable defs (ListOf p t non_null) v =
    list_value variable (value_with variable defs t) non_null v

-- gives what a literal without variables gives, where it is right
abbrev pub coerced : List Definition → TypeTree → Value → Option Input
coerced = value_with None

-- The literal is right, whatever its variables are: each is passed over.
abbrev pub accepts : List Definition → TypeTree → Value → Bool
accepts defs t v = is_some (value_with (Some Null) defs t v)

-- the place of a value's first token
abbrev pub place_of : Value → Place
place_of (Variable p v) = p
place_of (literal.Int p text) = p
place_of (Float p text) = p
place_of (literal.Text p text) = p
place_of (literal.Boolean p b) = p
place_of (literal.Null p) = p
place_of (Enum p v) = p
place_of (Array p vs) = p
place_of (Object p ms) = p
