-- The levels of fragments are at least those of what they select, where no fragment reaches itself.
use Rattle.std.proofs.Common.{◌≡◌, ◌∙◌, ap, ℕ, suc, ◌+◌, ◌<◌, false, List, length, Option, Some, arith}
use Rattle.std.specs.Option.{option_map_or}
use Rattle.gq_parser.specs.Tree.{Fragment, Document}
use Rattle.schema_syntax.specs.Tree.{Definition}
use Rattle.rules_parts.specs.Fragments.{is_fragment, fragment_place}
use Rattle.rules_parts.specs.Listing.{parts_of}
use Rattle.rules_spreads.specs.Graphs.{graph_of}
use Rattle.rules_spreads.specs.Reach.{is_cyclic}
use Rattle.rules_spreads.specs.Levels.{levels_in, levels_named, levels_expanded}
use Rattle.merging_fields.proofs.Acyclic.{found-place, levels-same}
use Rattle.plan_laws.proofs.Leveled.{AreLevels}

module _ (defs : List Definition) (d : Document) (free : (k : ℕ) → k < length d.fragments → is_cyclic (graph_of (parts_of defs d)) k ≡ false) where
  pub levels-hold : AreLevels d.fragments (levels_named (levels_expanded (length d.fragments) d.fragments) d.fragments)
  levels-hold name f found =
      let at = found-place (is_fragment name) 0 d.fragments f found in
      let e : 0 + at.0 ≡ at.0 = omega arith in
      let place : fragment_place d.fragments name ≡ Some at.0 = at.1 ∙ ap (λ m. Some m) e in
      let same = levels-same defs d free (suc (length d.fragments)) (omega arith) at.0 in
      let own : levels_expanded (suc (length d.fragments)) d.fragments at.0 ≡ levels_in (levels_named (levels_expanded (length d.fragments) d.fragments) d.fragments) f.selection_set =
      ap (λ (o : Option Fragment). option_map_or (λ (g : Fragment). levels_in (levels_named (levels_expanded (length d.fragments) d.fragments) d.fragments) g.selection_set) o 0) at.2 in
      let there : levels_named (levels_expanded (length d.fragments) d.fragments) d.fragments name ≡ levels_expanded (length d.fragments) d.fragments at.0 = ap (λ (o : Option ℕ). option_map_or (levels_expanded (length d.fragments) d.fragments) o 0) place in
      omega (arith, same, own, there)
