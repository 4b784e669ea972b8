use Rattle.std.proofs.Common.{◌≡◌, drop}
use Rattle.std.specs.List.{list_all}
use Rattle.schema_syntax.specs.Tree.{fields_of}
use Rattle.gq_schema.specs.Types.{tree_of}
use Rattle.gq_schema.specs.Implements.{has_field, implements}
use Rattle.gq_schema.proofs.rules.implements.implements.Given as goal

abbrev pub invariant-loop-wanted : goal.invariant-loop-wanted
invariant-loop-wanted l = list_all (has_field (tree_of l.schema) l.ty) (fields_of (drop l.wanted-index l.wanted-items)) ≡ implements (tree_of l.schema) l.ty l.interface
