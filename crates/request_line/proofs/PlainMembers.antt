-- Values that are read token by token, and the members of an object that they are.
use Rattle.std.proofs.Common.{◌≡◌, ℕ, ◌<◌, ◌-◌, List, [], ◌∷◌, length, Option, Some, sym, ap, ◌∙◌, arith}
use Rattle.std.specs.Option.{option_map, option_and_then}
use Rattle.std.specs.Prelude.{codes}
use Rattle.json.specs.Token.{Token}
use Rattle.json.specs.Lex.{tokens}
use Rattle.json.specs.Json as json
use Rattle.json.proofs.Grammar.{value-begin_array, value-begin_object}
use Rattle.serde_json.specs.Data.{Data, array, object, Items, Members, put}
use Rattle.serde_json.specs.Find.{as_str}
use Rattle.serde_json.specs.Read.{converted, of_json, read}
use Rattle.serde_json.specs.View.{view}
use Rattle.serde_json.proofs.Views.{get_member-put, get_member-put_other}
use Rattle.request_line.specs.Requests.{name_of}
use Rattle.request_line.proofs.Loops.{converted_some, converted-array, converted-object}
use Rattle.request_line.specs.Plain.{ReadsValue, array_items, object_members, Says}
use Rattle.request_line.specs.declared.plain.RequestMembers.{RequestMembers}

-- ---- values

pub array_value : (depth : ℕ) (ts r : List Token) (ds : Items) → 0 < depth → array_items (depth - 1) ts ≡ Some (ds, r) → ReadsValue depth (Token.begin_array ∷ ts) r (array ds)
array_value depth ts r ds some items =
    ap (converted of_json) (value-begin_array depth ts some) ∙ converted-array (json.items (json.value (depth - 1)) (length ts) ts) ∙ ap (json.parse_map array) items

pub object_value : (depth : ℕ) (ts r : List Token) (ms : Members) → 0 < depth → object_members (depth - 1) ts ≡ Some (ms, r) → ReadsValue depth (Token.begin_object ∷ ts) r (object ms)
object_value depth ts r ms some members =
    ap (converted of_json) (value-begin_object depth ts some) ∙ converted-object (json.members (json.value (depth - 1)) (length ts) ts) ∙ ap (json.parse_map object) members

-- ---- the whole text

abbrev whole : Option (json.Json × List Token) → Option Data
whole o = option_and_then of_json (option_and_then (λ p. json.if_last p.0 p.1) o)

whole_read : (o : Option (json.Json × List Token)) (d : Data) → converted of_json o ≡ Some (d, []) → whole o ≡ Some d
whole_read o d e = let j = converted_some of_json o d [] e in ap whole j.1 ∙ j.2

pub object_read : (text : List ℕ) (ts rest : List Token) (found : Members) → tokens text ≡ Token.begin_object ∷ ts → object_members 126 ts ≡ Some (found, rest) → rest ≡ [] → read text ≡ Some (object found)
object_read text ts rest found opened members over =
    whole_read (json.value 127 (tokens text)) (object found)
    (ap (λ us. converted of_json (json.value 127 us)) opened ∙ object_value 127 ts rest found (omega arith) members ∙ ap (λ r. Some (object found, r)) over)

-- ---- what it says

module _ (found : Members) (old new : RequestMembers) (says : Says found old) (d : Data) where
  pub says_query : option_map (λ s. s.now) new.query ≡ as_str d → new.operation_name ≡ old.operation_name → new.variables ≡ old.variables
      → Says (put (codes "query") d found) new
  says_query here same kept = record {
    query = here ∙ ap (option_and_then as_str) (sym (get_member-put (codes "query") d found));
    operation_name = ap (option_map (λ name. option_map (λ s. s.now) name)) same ∙ says.operation_name
        ∙ ap name_of (sym (get_member-put_other (codes "operationName") (codes "query") d found (λ e. cc e)));
    variables = ap (option_map view) kept ∙ says.variables ∙ sym (get_member-put_other (codes "variables") (codes "query") d found (λ e. cc e));
  }

  pub says_name : option_map (λ name. option_map (λ s. s.now) name) new.operation_name ≡ name_of (Some d) → new.query ≡ old.query → new.variables ≡ old.variables
      → Says (put (codes "operationName") d found) new
  says_name here same kept = record {
    query = ap (option_map (λ s. s.now)) same ∙ says.query ∙ ap (option_and_then as_str) (sym (get_member-put_other (codes "query") (codes "operationName") d found (λ e. cc e)));
    operation_name = here ∙ ap name_of (sym (get_member-put (codes "operationName") d found));
    variables = ap (option_map view) kept ∙ says.variables ∙ sym (get_member-put_other (codes "variables") (codes "operationName") d found (λ e. cc e));
  }

  pub says_variables : option_map view new.variables ≡ Some d → new.query ≡ old.query → new.operation_name ≡ old.operation_name
      → Says (put (codes "variables") d found) new
  says_variables here same kept = record {
    query = ap (option_map (λ s. s.now)) same ∙ says.query ∙ ap (option_and_then as_str) (sym (get_member-put_other (codes "query") (codes "variables") d found (λ e. cc e)));
    operation_name = ap (option_map (λ name. option_map (λ s. s.now) name)) kept ∙ says.operation_name
        ∙ ap name_of (sym (get_member-put_other (codes "operationName") (codes "variables") d found (λ e. cc e)));
    variables = here ∙ sym (get_member-put (codes "variables") d found);
  }

pub says_other : (found : Members) (parts : RequestMembers) (k : List ℕ) (d : Data) → Says found parts → (codes "query" ≡ k → ⊥) → (codes "operationName" ≡ k → ⊥) → (codes "variables" ≡ k → ⊥) → Says (put k d found) parts
says_other found parts k d says query name variables = record {
  query = says.query ∙ ap (option_and_then as_str) (sym (get_member-put_other (codes "query") k d found query));
  operation_name = says.operation_name ∙ ap name_of (sym (get_member-put_other (codes "operationName") k d found name));
  variables = says.variables ∙ sym (get_member-put_other (codes "variables") k d found variables);
}
