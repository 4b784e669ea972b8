-- Selections that are added to the lists of their kinds.
use Rattle.std.specs.Prelude.{◌≡◌, List, ◌++◌, map, flat_map}
use Rattle.gq_parser.specs.Tree.{Fragment, document_of}
use Rattle.rules_parts.specs.declared.source.Source.{Source}
use Rattle.rules_parts.specs.declared.source.SelectionLists.{SelectionLists}
use Rattle.rules_parts.specs.Pieces.{SelectionPart, field_part_of, spread_part_of, inline_part_of, directive_list_of}
use Rattle.rules_parts.specs.Listing.{fields_in, spreads_in, inlines_in, selection_directives}

-- the fragments of the document that is read
abbrev pub fragments_in : Source → List Fragment
fragments_in source = (document_of source.document.now).fragments

-- each new list is the old one, with what these selections have for it behind it
pub record AddsSelections (fragments : List Fragment) (old new : SelectionLists)
    (parts : List SelectionPart) : Type 0 where
  pub fields : map field_part_of new.fields.items
      ≡ map field_part_of old.fields.items ++ fields_in parts
  pub spreads : map spread_part_of new.spreads.items
      ≡ map spread_part_of old.spreads.items ++ spreads_in fragments parts
  pub inlines : map inline_part_of new.inlines.items
      ≡ map inline_part_of old.inlines.items ++ inlines_in parts
  pub directives : map directive_list_of new.directives.items
      ≡ map directive_list_of old.directives.items ++ flat_map selection_directives parts
