use Rattle.std.proofs.Common.{◌≡◌, length}
use Rattle.merging_pairs.specs.Numbered.{fields_of}
use Rattle.merging_pairs.specs.Table.{IsBelow, TellsAll, Holds, KnowsInner}
use Rattle.merging_pairs.proofs.table.table.Given as goal

abbrev pub invariant-loop-b : goal.invariant-loop-b
invariant-loop-b l = record {
  len : length l.rows.items ≡ l.b;
  below : IsBelow l.rows.items;
  inner : KnowsInner (fields_of l.fields) l.rows.items l.inner l.b;
  tells : TellsAll (Holds l.fn.rule (fields_of l.fields)) (fields_of l.fields) l.b l.rows.items;
}
