use Rattle.rules_parts.specs.Parts.{field_part_of}
use Rattle.merging_fields.proofs.attributes.are_alike.Goals as goal

pub returns-in-Some-definition-2 : goal.returns-in-Some-definition-2
returns-in-Some-definition-2 c = rw (c.in-None.is, c.in-Some-definition-2.is) (c.type_name_is_like.ensures (field_part_of c.args.one.now).place)
