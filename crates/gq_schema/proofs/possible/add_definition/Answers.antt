use Rattle.std.proofs.Common.{string_bytes}
use Rattle.gq_schema.proofs.possible.add_definition.Goals as goal

pub returns-in_ok-add_object-in-Object : goal.returns-in_ok-add_object-in-Object
returns-in_ok-add_object-in-Object c = λ defs q unions.
    rw c.in-Object.is (rw (unions (string_bytes c.in-Object.object.name.text) q) at (c.in_ok-add_object-in-Object.ensures q))
