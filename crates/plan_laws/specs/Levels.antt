-- The program of a plan over any number of levels.
use Rattle.std.specs.Prelude.{ℕ, []}
use Rattle.execution.specs.Program.{Program}
use Rattle.gq_check.specs.Plans.{PlanOf}
use Rattle.plan_program.specs.PlanPrograms.{prepared_program, object_program, root_prepared}

-- the program of a plan whose objects have `levels` levels of fields
abbrev pub program_with : PlanOf → ℕ → Program
program_with plan levels =
    prepared_program plan.definitions (object_program plan levels) (root_prepared plan) []
