-- Definitions of what contracts see of fields.
use Rattle.std.specs.Prelude.{List, [], map, None}
use Rattle.std.specs.Borrow.{Bor}
use Rattle.gq_parser.specs.declared.tree.Field as rust
use Rattle.gq_parser.specs.Tree.{Selection, Field, Spread, Inline, nothing_below, field_of}
use Rattle.plan_program.specs.Groups.{FieldOf, chosen_field}

-- a selection that is a field
abbrev pub field_in : Selection → FieldOf
field_in (Field place alias name given ds b) = chosen_field place alias name given b
field_in (Spread place name ds) = chosen_field place None name [] nothing_below
field_in (Inline place condition ds set) = chosen_field place None [] [] nothing_below

abbrev pub field_seen : rust.Field → FieldOf
field_seen f = field_in (field_of f)

abbrev pub fields_seen : List (Bor rust.Field) → List FieldOf
fields_seen fs = map (λ (f : Bor rust.Field). field_seen f.now) fs
