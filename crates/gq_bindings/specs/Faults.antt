-- Definitions of which fault a bindings text gives.
use Rattle.std.specs.Prelude.{◌≡◌, ⊤}
use Rattle.gq_schema.specs.declared.fault.SchemaFault.{SchemaFault}
use Rattle.gq_schema.specs.declared.fault.SchemaFault.TheVariants as fault
use Rattle.gq_bindings.specs.Reading.{Reading, refused}

-- the line of the fault is the first bad one, or memory was wanting
abbrev pub Refuses : SchemaFault → Reading → Type 0
Refuses (fault.BadBinding line) reading = reading ≡ refused line
Refuses fault.NoMemory reading = ⊤
Refuses _ reading = ⊥
