-- Definitions of what a schema's definitions are, whatever else stands beside them.
use Rattle.std.specs.Prelude.{List, map}
use Rattle.schema_syntax.specs.declared.tree.Definition as rust
use Rattle.schema_syntax.specs.Tree.{Definition}
use Rattle.gq_schema.specs.declared.index.IndexedDefinition as rust-indexed
use Rattle.gq_schema.specs.Types.{tree_of}

abbrev pub definition_in : rust-indexed.IndexedDefinition → rust.Definition
definition_in indexed = indexed.definition

abbrev pub tree_in : List rust-indexed.IndexedDefinition → List Definition
tree_in all = tree_of (map definition_in all)
