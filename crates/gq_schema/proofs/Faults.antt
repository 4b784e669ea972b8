-- The order in which faults are reported.
use Rattle.std.proofs.Common.{◌≡◌, ◌∙◌, ap, List, Option, None}
use Rattle.std.specs.Option.{option_map}
use Rattle.text_place.specs.declared.place.Place.{Place}
use Rattle.schema_syntax.specs.Tree.{Definition}
use Rattle.gq_schema.specs.declared.fault.SchemaFault.{SchemaFault}
use Rattle.gq_schema.specs.declared.fault.SchemaFault.TheVariants.{ReservedName, Duplicate}
use Rattle.gq_schema.specs.Scan.{or_else}
use Rattle.gq_schema.specs.Reserved.{first_reserved}
use Rattle.gq_schema.specs.Repeated.{first_repeated}
use Rattle.gq_schema.specs.Fault.{fault_of, fault_of_types}

-- The first fault is that of the types, where no name is reserved and none is defined twice.
pub fault_of-types : (defs : List Definition) (fault : Option SchemaFault) → first_reserved defs ≡ None → first_repeated defs ≡ None → fault_of_types defs ≡ fault → fault_of defs ≡ fault
fault_of-types defs fault unreserved once rest =
    ap (λ (p : Option Place). or_else (option_map ReservedName p) (or_else (option_map Duplicate (first_repeated defs)) (fault_of_types defs))) unreserved
    ∙ (ap (λ (p : Option Place). or_else (option_map Duplicate p) (fault_of_types defs)) once ∙ rest)
