use Rattle.std.proofs.Common.{◌≡◌, ◌++◌, drop, map}
use Rattle.std.specs.Global.{Vec}
use Rattle.gq_schema.specs.declared.entries.TypeEntry.{TypeEntry}
use Rattle.gq_schema.specs.Indexes.{tree_in}
use Rattle.gq_schema.specs.Entries.{own_entries}
use Rattle.gq_schema.proofs.entries.field_entries.Given as goal

abbrev pub invariant-loop-indexed : goal.invariant-loop-indexed
invariant-loop-indexed l = map (λ (v : Vec TypeEntry). v.items) l.all.items ++ map (own_entries (tree_in l.definitions)) (tree_in (drop l.indexed-index l.definitions)) ≡ map (own_entries (tree_in l.definitions)) (tree_in l.definitions)
