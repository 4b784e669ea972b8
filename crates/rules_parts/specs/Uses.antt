-- The uses of variables in values, with their locations (section 5.8.5).
use Rattle.std.specs.Prelude.{◌≡◌, false, List, [], ◌∷◌, ◌++◌, map, Option, Some, None, is_some}
use Rattle.std.specs.Option.{option_and_then, option_map}
use Rattle.std.specs.Global.{Vec}
use Rattle.gq_parser.specs.Tree.{TypeTree, Named, ListOf, Value, Variable, Int, Float, Text, Boolean, Null, Enum, Array, Object, Values, no_value, and_value, Members, no_member, and_member}
use Rattle.schema_syntax.specs.Tree as schema
use Rattle.rules_parts.specs.declared.part.Owner.{Owner}
use Rattle.rules_parts.specs.declared.part.VariableUse as rust-use
use Rattle.rules_parts.specs.Pieces.{Location, VariableUse, ArgumentPart, use_of}

-- the location of an argument's value
abbrev pub argument_location : schema.Argument → Location
argument_location a = record { of_type = a.of_type; has_default = is_some a.default }

-- the location of a list literal's items: no default, and none where the type is no list
abbrev pub item_of : TypeTree → Option Location
item_of (Named p n non_null) = None
item_of (ListOf p t non_null) = Some (record { of_type = t; has_default = false })

abbrev pub item_location : Option Location → Option Location
item_location l = option_and_then (λ (l : Location). item_of l.of_type) l

abbrev mutual
  -- The variables in a value, in the order of the text. No location is known below an object.
  pub uses_in : Owner → Option Location → Value → List VariableUse
  uses_in o at (Variable p n) = record { owner = o; place = p; name = n; location = at } ∷ []
  uses_in o at (Int p n) = []
  uses_in o at (Float p n) = []
  uses_in o at (Text p n) = []
  uses_in o at (Boolean p b) = []
  uses_in o at (Null p) = []
  uses_in o at (Enum p n) = []
  uses_in o at (Array p vs) = uses_among o (item_location at) vs
  uses_in o at (Object p ms) = uses_within o ms

  pub uses_among : Owner → Option Location → Values → List VariableUse
  uses_among o at no_value = []
  uses_among o at (and_value v vs) = uses_in o at v ++ uses_among o at vs

  pub uses_within : Owner → Members → List VariableUse
  uses_within o no_member = []
  uses_within o (and_member p n v ms) = uses_in o None v ++ uses_within o ms

-- those in an argument
abbrev pub argument_uses : ArgumentPart → List VariableUse
argument_uses a = uses_in a.owner (option_map argument_location a.definition) a.value

-- the new list is the old one, with these behind it
abbrev pub AddsUses : Vec rust-use.VariableUse → Vec rust-use.VariableUse
    → List VariableUse → Type 0
AddsUses old new uses = map use_of new.items ≡ map use_of old.items ++ uses
