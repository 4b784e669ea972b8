-- Definitions of what a request line is.
use Rattle.std.specs.Prelude.{◌≡◌, ◌<◌, ◌≤◌, ℕ, List, [], ◌∷◌, length, codes, Option, Some, None, option_and_then, option_map, IsUtf8}
use Rattle.serde_json.specs.Data.{Data, null, boolean, number, string, array, object, Items, no_items, item}
use Rattle.serde_json.specs.Find.{get, as_str, as_array}
use Rattle.serde_json.specs.Read.{read}

-- a query, the name of its operation, and the variables
pub record RequestOf : Type 0 where
  pub query : List ℕ
  pub operation_name : Option (List ℕ)
  pub variables : Option Data

-- a string, or not given; null counts as not given, and anything else is no name
abbrev pub name_of : Option Data → Option (Option (List ℕ))
name_of None = Some None
name_of (Some null) = Some None
name_of (Some (boolean b)) = None
name_of (Some (number n)) = None
name_of (Some (string s)) = Some (Some s)
name_of (Some (array ds)) = None
name_of (Some (object ms)) = None

abbrev pub with_query : Data → List ℕ → Option RequestOf
with_query d query = option_map (λ name. record {
  query = query;
  operation_name = name;
  variables = get (codes "variables") d;
}) (name_of (get (codes "operationName") d))

-- The members of an object with a string `query`, whose `operationName` is a string or null where it is given. In what is no object `get`
-- finds nothing.
abbrev pub asked : Data → Option RequestOf
asked d = option_and_then (with_query d) (option_and_then as_str (get (codes "query") d))

-- the line is UTF-8 and reads as this value
pub record IsValue (line : List ℕ) (d : Data) : Type 0 where
  pub text : IsUtf8 line
  pub value : read line ≡ Some d

-- the line is UTF-8 and reads as this request
pub record IsRequest (line : List ℕ) (request : RequestOf) : Type 0 where
  pub text : IsUtf8 line
  pub members : option_and_then asked (read line) ≡ Some request

-- ---- several requests in one line

-- an array of more values isn't answered
abbrev pub most_requests : ℕ
most_requests = 16

-- gives what each value of an array asks, in order; nothing where it is no request, as a further array isn't
abbrev pub asked_each : Items → List (Option RequestOf)
asked_each no_items = []
asked_each (item d ds) = asked d ∷ asked_each ds

-- the line is UTF-8 and reads as an array of 1 to 16 values, which ask this
pub record AreRequests (line : List ℕ) (requests : List (Option RequestOf)) : Type 0 where
  pub text : IsUtf8 line
  pub values : option_map asked_each (option_and_then as_array (read line)) ≡ Some requests
  pub some : 0 < length requests
  pub few : length requests ≤ most_requests

-- ---- no request

-- neither one request nor several
pub record IsNoRequest (line : List ℕ) : Type 0 where
  pub not_one : (request : RequestOf) → IsRequest line request → ⊥
  pub not_several : (requests : List (Option RequestOf)) → AreRequests line requests → ⊥
