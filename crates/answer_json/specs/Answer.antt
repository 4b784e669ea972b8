-- Response text: the JSON value of an answer, and its bytes.
use Rattle.std.specs.Prelude.{◌≡◌, ◌≤◌, ℕ, List, [], ◌∷◌, ◌++◌, map, Option, Some, None, option_and_then, decimal, codes, string_bytes}
use Rattle.json.specs.Json.{Json, number, string, array, object, Items, no_items, item, Members, no_members, member, value, if_last}
use Rattle.json.specs.Lex.{tokens}
use Rattle.json.specs.Print.{print}
use Rattle.json.specs.Token.{Token}
use Rattle.json.specs.Tree.{depth, json_tokens, items_tokens}
use Rattle.text_place.specs.declared.place.Place.{Place}
use Rattle.answer_json.specs.declared.field_error.FieldError.{FieldError}
use Rattle.answer_json.specs.declared.field_error.PathSegment.{PathSegment}
use Rattle.answer_json.specs.declared.field_error.PathSegment.TheVariants as segment
use Rattle.execution.specs.Program.{Part, Key, Item}
use Rattle.execution.specs.Completion.{ErrorOf}

-- ---- places

abbrev pub place_json : Place → Json
place_json p = object (member (codes "line") (number (decimal p.line))
    (member (codes "column") (number (decimal p.column)) no_members))

-- the list of one place
abbrev pub places_json : Place → Json
places_json p = array (item (place_json p) no_items)

-- ---- field errors

abbrev pub part_of : PathSegment → Part
part_of (segment.Key k) = Key (string_bytes k)
part_of (segment.Item i) = Item i

abbrev pub error_of : FieldError → ErrorOf
error_of e =
    record { message = string_bytes e.message; place = e.place; path = map part_of e.path.items }

abbrev pub errors_of : List FieldError → List ErrorOf
errors_of es = map error_of es

abbrev pub part_json : Part → Json
part_json (Key k) = string k
part_json (Item n) = number (decimal n)

abbrev pub path_json : List Part → Items
path_json [] = no_items
path_json (p ∷ ps) = item (part_json p) (path_json ps)

-- a field error: its message, the place of its field, and the path to it
abbrev pub error_json : ErrorOf → Json
error_json e =
    object (member (codes "message") (string e.message)
    (member (codes "locations") (places_json e.place)
    (member (codes "path") (array (path_json e.path)) no_members)))

abbrev pub errors_json : List ErrorOf → Items
errors_json [] = no_items
errors_json (e ∷ es) = item (error_json e) (errors_json es)

-- the tokens of an answer before those of its data
abbrev pub errors_tokens : List ErrorOf → List Token
errors_tokens [] = []
errors_tokens (e ∷ es) = Token.key (codes "errors") ∷ Token.begin_array
    ∷ items_tokens (errors_json (e ∷ es))

abbrev pub answer_front : List ErrorOf → List Token
answer_front es = Token.begin_object ∷ (errors_tokens es ++ Token.key (codes "data") ∷ [])

-- ---- refusals

-- the member of a place, where there is one
abbrev pub places_member : Option Place → Members
places_member None = no_members
places_member (Some p) = member (codes "locations") (places_json p) no_members

abbrev pub request_error_json : List ℕ → Option Place → Json
request_error_json message place =
    object (member (codes "message") (string message) (places_member place))

-- the refusal of a request: one error, and no data
abbrev pub refusal_json : List ℕ → Option Place → Json
refusal_json message place = object
    (member (codes "errors") (array (item (request_error_json message place) no_items)) no_members)

-- ---- texts

-- The bytes of a value: its tokens with no space between them. In strings `"` and `\` have a backslash before them, U+0008,
-- U+0009, U+000A, U+000C and U+000D are `\b \t \n \f \r`, and any other character below U+0020 is `\u00xx`, in lower case.
abbrev pub json_text : Json → List ℕ
json_text j = print (json_tokens j)

-- the value that a text is, for a reader that goes no deeper than this limit
abbrev pub read_within : ℕ → List ℕ → Option Json
read_within limit text = option_and_then (λ p. if_last p.0 p.1) (value limit (tokens text))

-- A reader finds this value in the text, where its limit is not below the value's depth.
abbrev pub ReadsBack : Json → List ℕ → Type 0
ReadsBack j text = (limit : ℕ) → depth j ≤ limit → read_within limit text ≡ Some j
