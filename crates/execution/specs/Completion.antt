-- *Completion* (sections 6.4.3, "Value Completion", and 6.4.4, "Handling Field Errors", of the GraphQL specification of
-- October 2021): which positions are null in the response, and which errors stand in it, in which order.
use Rattle.std.specs.Prelude.{◌≡◌, ℕ, zero, suc, Bool, true, false, ◌||◌, List, [], ◌∷◌, ◌++◌, codes}
use Rattle.std.specs.List.{flat_map}
use Rattle.text_place.specs.declared.place.Place.{Place}
use Rattle.execution.specs.Program.{Leaf, Value, Null, Fault, Kind, Part, FieldPosition, Tree, Open, At, Over, Trees, NoMore, And}

-- the own value is null or a fault
abbrev pub HasOwnNull : Tree → Type 0
HasOwnNull (At (Value leaf)) = ⊥
HasOwnNull (At Null) = Unit {0}
HasOwnNull (At (Fault text)) = Unit {0}
HasOwnNull (Over kind below) = ⊥
HasOwnNull Open = ⊥

-- the position of this number among these is of this type and has this tree
abbrev pub IsChild : Trees → ℕ → FieldPosition → Tree → Type 0
IsChild NoMore n position t = ⊥
IsChild (And first t0 rest) zero position t = (first ≡ position) × (t0 ≡ t)
IsChild (And first t0 rest) (suc n) position t = IsChild rest n position t

-- the way leads from p down to q, and each position below p on it, q included, is of non-null type
abbrev pub IsNonNullWay : Tree → List ℕ → Tree → Type 0
IsNonNullWay p [] q = p ≡ q
IsNonNullWay p (n ∷ way) q = (below : Trees) × (kind : Kind) × (position : FieldPosition)
    × (t : Tree) × (p ≡ Over kind below) × IsChild below n position t
    × (position.non_null ≡ true) × IsNonNullWay t way q

-- A position is null in the response exactly where some position at it or below it has an own null, and each position
-- between the two, the lower one included, is of non-null type.
abbrev pub IsNullAt : Tree → Type 0
IsNullAt p = (way : List ℕ) × (q : Tree) × IsNonNullWay p way q × HasOwnNull q

-- gives what contracts see of a response
mutual
  pub data ResponseOf : Type 0 where
    NullResponse : ResponseOf
    LeafResponse : Leaf → ResponseOf
    Holding : Kind → ResponsesOf → ResponseOf

  pub data ResponsesOf : Type 0 where
    NoResponses : ResponsesOf
    Responding : Part → ResponseOf → ResponsesOf → ResponsesOf

-- null exactly where the sentence says so, and else the position's own value, over the responses of those below it
abbrev mutual
  pub IsResponse : Tree → ResponseOf → Type 0
  IsResponse Open r = ⊥
  IsResponse (At own) NullResponse = IsNullAt (At own)
  IsResponse (At own) (LeafResponse leaf) = own ≡ Value leaf
  IsResponse (At own) (Holding kind rs) = ⊥
  IsResponse (Over kind below) NullResponse = IsNullAt (Over kind below)
  IsResponse (Over kind below) (LeafResponse leaf) = ⊥
  IsResponse (Over kind below) (Holding k rs) = (IsNullAt (Over kind below) → ⊥)
      × (k ≡ kind) × AreResponses below rs

  pub AreResponses : Trees → ResponsesOf → Type 0
  AreResponses NoMore NoResponses = Unit {0}
  AreResponses NoMore (Responding part r rs) = ⊥
  AreResponses (And position t rest) NoResponses = ⊥
  AreResponses (And position t rest) (Responding part r rs) = (part ≡ position.part)
      × IsResponse t r × AreResponses rest rs

-- a position with its path, whether its type is non-null, where its errors are, and its tree
pub record PositionOf : Type 0 where
  pub path : List Part
  pub non_null : Bool
  pub place : Place
  pub at : Tree

-- all positions in depth-first order, those under a null included
abbrev mutual
  pub positions : PositionOf → Tree → List PositionOf
  positions top Open = top ∷ []
  positions top (At own) = top ∷ []
  positions top (Over kind below) = top ∷ positions_below top.path below

  pub positions_below : List Part → Trees → List PositionOf
  positions_below path NoMore = []
  positions_below path (And position t rest) =
      positions (record {
        path = path ++ position.part ∷ [];
        non_null = position.non_null;
        place = position.place;
        at = t;
      }) t ++ positions_below path rest

-- `data`: of nullable type. An error of its own, which no plan makes, has the place of a text's first character.
abbrev pub top_position : Tree → PositionOf
top_position t =
    record { path = []; non_null = false; place = record { line = 1; column = 1 }; at = t }

-- says what contracts see of a field error
pub record ErrorOf : Type 0 where
  pub message : List ℕ
  pub place : Place
  pub path : List Part

abbrev pub null_message : List ℕ
null_message = codes "null where the type is non-null"

-- a position adds one error where its own value is a fault, or is null at a non-null type, and no other
abbrev pub own_errors : Bool → Place → List Part → Tree → List ErrorOf
own_errors non_null place path Open = []
own_errors non_null place path (Over kind below) = []
own_errors non_null place path (At (Value leaf)) = []
own_errors true place path (At Null) =
    record { message = null_message; place = place; path = path } ∷ []
own_errors false place path (At Null) = []
own_errors non_null place path (At (Fault text)) =
    record { message = text; place = place; path = path } ∷ []

abbrev pub errors_at : PositionOf → List ErrorOf
errors_at p = own_errors p.non_null p.place p.path p.at

-- some position is open
abbrev mutual
  pub is_open : Tree → Bool
  is_open Open = true
  is_open (At own) = false
  is_open (Over kind below) = any_open below

  pub any_open : Trees → Bool
  any_open NoMore = false
  any_open (And position t rest) = is_open t || any_open rest

-- a response with its errors
pub record AnsweredOf : Type 0 where
  pub response : ResponseOf
  pub errors : List ErrorOf

-- *Completion* of a tree where no position is open
pub record IsCompletion (t : Tree) (answered : AnsweredOf) : Type 0 where
  pub whole : is_open t ≡ false
  pub response : IsResponse t answered.response
  pub errors : answered.errors ≡ flat_map errors_at (positions (top_position t) t)
