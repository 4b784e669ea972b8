use Rattle.std.proofs.Common.{◌∙◌, ap, map, List}
use Rattle.gq_parser.specs.Tree.{fragment_of}
use Rattle.gq_parser.specs.declared.tree.Fragment as rust-fragment
use Rattle.rules_parts.specs.Fragments.{fragment_place}
use Rattle.rules_parts.proofs.parts.Parts.new.Goals as goal

pub invariant_of-source : goal.invariant_of-source
invariant_of-source c = record {
  numbered = λ q. c.in_ok-fragments.ensures q ∙ ap (λ (fs : List rust-fragment.Fragment). fragment_place (map fragment_of fs) q) c.deref.ensures.value;
}

pub invariant_of-result : goal.invariant_of-result
invariant_of-result c = record {
  numbered = λ q. c.in_ok-fragments.ensures q ∙ ap (λ (fs : List rust-fragment.Fragment). fragment_place (map fragment_of fs) q) c.deref.ensures.value;
  listed = ∣ rw c.in_ok-with_capacity.ensures.items at c.in_ok-add_selections.ensures.fields ∣₁;
}
