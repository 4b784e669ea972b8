-- Definitions of how the code reads an object's tokens, and what its members say of a request.
use Rattle.std.specs.Prelude.{◌≡◌, ℕ, List, length, codes, Option, Some, option_map, option_and_then}
use Rattle.json.specs.Token.{Token}
use Rattle.json.specs.Json as json
use Rattle.serde_json.specs.Data.{Data, null, boolean, number, string, array, object, Items, Members, no_members}
use Rattle.serde_json.specs.Find.{get_member, as_str}
use Rattle.serde_json.specs.Read.{converted, of_json, of_items, of_members}
use Rattle.serde_json.specs.View.{view, number_view, items_view, members_view}
use Rattle.request_line.specs.Requests.{name_of}
use Rattle.request_line.specs.declared.member.MemberValue.{MemberValue}
use Rattle.request_line.specs.declared.member.MemberValue.TheVariants as value
use Rattle.request_line.specs.declared.plain.RequestMembers.{RequestMembers}

abbrev pub value_seen : MemberValue → Data
value_seen value.Null = null
value_seen (value.Bool b) = boolean b
value_seen (value.Number n) = number (number_view n)
value_seen (value.String s) = string s.now
value_seen (value.Array v) = array (items_view v.items)
value_seen (value.Object m) = object (members_view m.entries)

-- The old tokens begin with a value that nests no deeper than the number, which is this, and the new ones follow it.
abbrev pub ReadsValue : ℕ → List Token → List Token → Data → Type 0
ReadsValue depth old new d = converted of_json (json.value depth old) ≡ Some (d, new)

-- the other items of an array, from these tokens on, each nested no deeper than the number, and what follows them
abbrev pub array_items : ℕ → List Token → Option (Items × List Token)
array_items depth ts = converted of_items (json.items (json.value depth) (length ts) ts)

-- the other members of an object, in the same way
abbrev pub object_members : ℕ → List Token → Option (Members × List Token)
object_members depth ts =
    converted (λ ms. of_members ms no_members) (json.members (json.value depth) (length ts) ts)

-- these members have this query, this operation name and these variables
pub record Says (found : Members) (parts : RequestMembers) : Type 0 where
  pub query : option_map (λ s. s.now) parts.query
      ≡ option_and_then as_str (get_member (codes "query") found)
  pub operation_name : option_map (λ name. option_map (λ s. s.now) name) parts.operation_name
      ≡ name_of (get_member (codes "operationName") found)
  pub variables : option_map view parts.variables ≡ get_member (codes "variables") found

-- the members of a line's object were read up to the new tokens, and this is what they say
abbrev pub ReadsMembers : List Token → List Token → RequestMembers → Type 0
ReadsMembers old new parts = (found : Members) × Says found parts
    × (object_members 126 old ≡ Some (found, new))
