use Rattle.std.proofs.Common.{◌≡◌, drop}
use Rattle.std.specs.Prelude.{find}
use Rattle.gq_check.specs.Plans.{operations_in}
use Rattle.gq_check.specs.Prepared.{is_operation}
use Rattle.gq_check.proofs.operation.operation_named.Given as goal

abbrev pub invariant-loop-place : goal.invariant-loop-place
invariant-loop-place l =
    find (is_operation l.name) (operations_in l.operations) ≡ find (is_operation l.name) (operations_in (drop l.place l.operations))
