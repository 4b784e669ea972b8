-- Definitions of what contracts see of groups and arguments.
use Rattle.std.specs.Prelude.{ℕ, List, map}
use Rattle.std.specs.Borrow.{Bor}
use Rattle.gq_schema.specs.declared.input.Input as rust-input
use Rattle.gq_schema.specs.Inputs.{input_of}
use Rattle.plan_program.specs.declared.group.Group.{Group}
use Rattle.plan_program.specs.declared.arguments.Args.{Args}
use Rattle.plan_program.specs.Groups.{GroupOf}
use Rattle.plan_program.specs.Fields.{fields_seen}
use Rattle.plan_program.specs.Arguments.{ValueOf}

abbrev pub group_of : Group → GroupOf
group_of g = record { key = g.key.now; fields = fields_seen g.fields }

abbrev pub groups_of : List Group → List GroupOf
groups_of gs = map group_of gs

abbrev pub value_of : Bor (List ℕ) × rust-input.Input → ValueOf
value_of p = record { name = p.0.now; value = input_of p.1 }

abbrev pub values_of : Args → List ValueOf
values_of args = map value_of args.pairs
