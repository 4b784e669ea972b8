-- Definitions of what a response and its errors say, and the text of an answer.
use Rattle.std.specs.Prelude.{ℕ, List, [], ◌∷◌, codes, decimal}
use Rattle.std.specs.Fmt.{signed_decimal}
use Rattle.json.specs.Json.{Json, null, boolean, number, string, array, object, Items, no_items, item, Members, no_members, member}
use Rattle.answer_json.specs.Answer.{errors_json, json_text}
use Rattle.execution.specs.Program.{Leaf, Text, Int, Boolean, ListOf, ObjectOf, Key, Item}
use Rattle.execution.specs.Completion.{ResponseOf, NullResponse, LeafResponse, Holding, ResponsesOf, NoResponses, Responding, ErrorOf, AnsweredOf}

-- ---- *Response text* (section 7.1)

abbrev pub leaf_json : Leaf → Json
leaf_json (Text t) = string t
leaf_json (Int z) = number (signed_decimal z)
leaf_json (Boolean b) = boolean b

abbrev mutual
  pub json_of : ResponseOf → Json
  json_of NullResponse = null
  json_of (LeafResponse leaf) = leaf_json leaf
  json_of (Holding ListOf rs) = array (items_json rs)
  json_of (Holding ObjectOf rs) = object (members_json rs)

  pub items_json : ResponsesOf → Items
  items_json NoResponses = no_items
  items_json (Responding part r rs) = item (json_of r) (items_json rs)

  pub members_json : ResponsesOf → Members
  members_json NoResponses = no_members
  members_json (Responding (Key k) r rs) = member k (json_of r) (members_json rs)
  members_json (Responding (Item n) r rs) = member (decimal n) (json_of r) (members_json rs)

-- errors first, and only where there are some; then data
abbrev pub errors_before : List ErrorOf → Members → Members
errors_before [] others = others
errors_before (e ∷ es) others = member (codes "errors") (array (errors_json (e ∷ es))) others

abbrev pub answered_json : AnsweredOf → Json
answered_json a =
    object (errors_before a.errors (member (codes "data") (json_of a.response) no_members))

abbrev pub answer_text : AnsweredOf → List ℕ
answer_text a = json_text (answered_json a)
