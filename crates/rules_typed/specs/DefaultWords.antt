-- Words that several rules share.
use Rattle.std.specs.Prelude.{ℕ, Bool, ◌&&◌, is_some, List, Option, Some, None, codes, bytes_eq, if◌then◌else◌}
use Rattle.text_place.specs.declared.place.Place.{Place}
use Rattle.rules_parts.specs.Broken.{BrokenOf}
use Rattle.rules_parts.specs.Parts.{FieldPart}

-- this name at this place, where something is broken
abbrev pub named_if : Bool → List ℕ → Place → Option BrokenOf
named_if broken name place = if broken then Some (record { name = name; place = place }) else None

-- `__typename` of a composite type (section 4.1)
abbrev pub is_type_name : FieldPart → Bool
is_type_name f = is_some f.parent && bytes_eq f.name (codes "__typename")
