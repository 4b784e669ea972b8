-- Definitions of texts that determine the operations of requests.
use Rattle.std.specs.Prelude.{◌≡◌, ◌==◌, ℕ, false, List, [], ◌∷◌, ◌++◌, Option, Some, None}
use Rattle.std.specs.List.{list_any}
use Rattle.request_line.specs.Requests.{RequestOf}

-- no line ends in the text
abbrev pub IsLine : List ℕ → Type 0
IsLine text = list_any (λ c. c == 10) text ≡ false

-- the line is the name of the operation, and is empty where none is given
abbrev pub SaysName : List ℕ → Option (List ℕ) → Type 0
SaysName [] name = name ≡ None
SaysName (c ∷ cs) name = name ≡ Some (c ∷ cs)

-- The text is a key of the request: a line that tells some requests from others, one of its operation's name, and its query. All
-- requests that have it ask for one operation: they have one query, and one name of its operation.
pub record IsKey (key : List ℕ) (request : RequestOf) : Type 0 where
  pub flags : List ℕ
  pub name : List ℕ
  pub first : IsLine flags
  pub second : IsLine name
  pub lines : key ≡ flags ++ 10 ∷ (name ++ 10 ∷ request.query)
  pub says_name : SaysName name request.operation_name
