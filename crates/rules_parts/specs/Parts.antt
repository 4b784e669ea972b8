-- All parts of a document, as lists.
use Rattle.std.specs.Prelude.{◌++◌, map}
use Rattle.gq_parser.specs.Tree.{document_of}
use Rattle.gq_schema.specs.Types.{tree_of}
use Rattle.rules_parts.specs.declared.parts.Parts as rust-parts
use Rattle.rules_parts.specs.Listing.{field_arguments}
pub use Rattle.rules_parts.specs.Pieces.{SelectionPart, FieldPart, SpreadPart, InlinePart, VariablePart, DirectiveList, ArgumentList, ArgumentPart, Location, VariableUse, PartsOf, selection_part_of, field_part_of, spread_part_of, inline_part_of, variable_part_of, directive_list_of, argument_list_of, argument_part_of, location_of, use_of}

abbrev pub parts_in : rust-parts.Parts → PartsOf
parts_in p = record {
  definitions = tree_of p.schema.now;
  document = document_of p.document.now;
  fields = map field_part_of p.fields.items;
  spreads = map spread_part_of p.spreads.items;
  inlines = map inline_part_of p.inlines.items;
  variables = map variable_part_of p.variables.items;
  directive_lists = map directive_list_of p.directive_lists.items;
  argument_lists = map field_arguments (map field_part_of p.fields.items)
      ++ map argument_list_of p.directive_arguments.items;
  arguments = map argument_part_of p.arguments.items;
  uses = map use_of p.uses.items;
}
