use Rattle.std.proofs.Common.{◌≡◌, drop}
use Rattle.std.specs.Prelude.{bytes_eq}
use Rattle.indexmap.specs.IndexSet.{insert_all}
use Rattle.plan_program.specs.Finding.{texts_of, keys_in}
use Rattle.plan_program.proofs.finding.fill.Given as goal

abbrev pub invariant-loop-group : goal.invariant-loop-group
invariant-loop-group l = insert_all bytes_eq (texts_of l.table.keys) (keys_in (drop l.group-index l.groups)) ≡ keys_in l.groups
