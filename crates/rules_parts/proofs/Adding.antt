-- Selections that are added one after the other.
use Rattle.std.proofs.Common.{◌≡◌, ◌∙◌, sym, ap, subst, List, [], ◌∷◌, ◌++◌, map}
use Rattle.std.specs.List.{cons_option}
use Rattle.std.proofs.lemmas.List.{append-nil, append_assoc}
use Rattle.std.proofs.lemmas.List.Elements.{filter_map-append}
use Rattle.std.proofs.lemmas.Grind.{flat_map-append}
use Rattle.gq_parser.specs.Tree.{Selection, Fragment}
use Rattle.rules_parts.specs.declared.source.SelectionLists.{SelectionLists}
use Rattle.rules_parts.specs.Pieces.{SelectionPart, field_part_of, spread_part_of, inline_part_of, directive_list_of}
use Rattle.rules_parts.specs.Listing.{field_from, field_part, spread_from, spread_part, inline_from, inline_part, directives_from, selection_directives}
use Rattle.rules_parts.specs.Lists.{AddsSelections}

module _ (fs : List Fragment) where
  pub adds-none : (ls : SelectionLists) → AddsSelections fs ls ls []
  adds-none ls = record {
    fields = sym (append-nil (map field_part_of ls.fields.items));
    spreads = sym (append-nil (map spread_part_of ls.spreads.items));
    inlines = sym (append-nil (map inline_part_of ls.inlines.items));
    directives = sym (append-nil (map directive_list_of ls.directives.items));
  }

  -- one selection, by its case
  pub adds-one : (old new : SelectionLists) (part : SelectionPart) (s : Selection) → part.selection ≡ s
      → map field_part_of new.fields.items ≡ map field_part_of old.fields.items ++ cons_option (field_from part s) []
      → map spread_part_of new.spreads.items ≡ map spread_part_of old.spreads.items ++ cons_option (spread_from fs part s) []
      → map inline_part_of new.inlines.items ≡ map inline_part_of old.inlines.items ++ cons_option (inline_from part s) []
      → map directive_list_of new.directives.items ≡ map directive_list_of old.directives.items ++ directives_from part.owner s
      → AddsSelections fs old new (part ∷ [])
  adds-one old new part s is fields spreads inlines directives = record {
    fields = subst (λ (t : Selection). map field_part_of new.fields.items ≡ map field_part_of old.fields.items ++ cons_option (field_from part t) []) (sym is) fields;
    spreads = subst (λ (t : Selection). map spread_part_of new.spreads.items ≡ map spread_part_of old.spreads.items ++ cons_option (spread_from fs part t) []) (sym is) spreads;
    inlines = subst (λ (t : Selection). map inline_part_of new.inlines.items ≡ map inline_part_of old.inlines.items ++ cons_option (inline_from part t) []) (sym is) inlines;
    directives = subst (λ (t : Selection). map directive_list_of new.directives.items ≡ map directive_list_of old.directives.items ++ directives_from part.owner t) (sym is) directives ∙ ap (λ ls. map directive_list_of old.directives.items ++ ls) (sym (append-nil (directives_from part.owner part.selection)));
  }

  joined : {A : Type 0} (old mid new xs ys zs : List A) → mid ≡ old ++ xs → new ≡ mid ++ ys → zs ≡ xs ++ ys → new ≡ old ++ zs
  joined old mid new xs ys zs e f g = rw (f, e, g, append_assoc)

  pub adds-more : (old mid new : SelectionLists) (xs ys : List SelectionPart) → AddsSelections fs old mid xs → AddsSelections fs mid new ys → AddsSelections fs old new (xs ++ ys)
  adds-more old mid new xs ys first rest = record {
    fields = joined _ _ _ _ _ _ first.fields rest.fields (filter_map-append field_part xs ys);
    spreads = joined _ _ _ _ _ _ first.spreads rest.spreads (filter_map-append (spread_part fs) xs ys);
    inlines = joined _ _ _ _ _ _ first.inlines rest.inlines (filter_map-append inline_part xs ys);
    directives = joined _ _ _ _ _ _ first.directives rest.directives (flat_map-append selection_directives xs ys);
  }
