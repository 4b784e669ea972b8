use Rattle.std.proofs.Common.{◌≡◌, ◌∙◌, ap, map, arith}
use Rattle.std.proofs.lemmas.Grind.{common_steps}
use Rattle.std.proofs.lemmas.List.{length-map}
use Rattle.gq_parser.specs.Tree.{document_of}
use Rattle.rules_parts.specs.Parts.{use_of}
use Rattle.rules_untyped.specs.AllVariableUsesDefined.{one_lacks}
use Rattle.rules_untyped.proofs.UseLaws.{use_at-map}
use Rattle.std.proofs.lemmas.List.{drop_all}
use Rattle.rules_untyped.proofs.rules.all_variable_uses_defined.all_variable_uses_defined.Goals as goal

pub loop-place-preserved : goal.loop-place-preserved
loop-place-preserved c =
    let g = c.args.graph.now in
    let operations = (document_of c.args.uses.now.parts.now.document.now).operations in
    let uses = c.args.uses.now.parts.now.uses.items in
    let k = c.loop-place.place in
    let item = c.part-item.result in
    let within = rw c.deref-part-items.ensures.value at c.loop-place-test.true in
    let is = rw c.deref-part-items.ensures.value at c.part-item.is in
    let lacking = rw c.deref.ensures.value at (c.in_ok-lacking.ensures (map use_of uses) c.args.uses.now.tabled k (omega (arith, within, length-map uses use_of))) in
    let noted = rw (c.number_at.ensures, c.deref-in-loop-place.ensures.value, c.deref-in-loop-place-2.ensures.value) at c.is_noted.ensures in
    let known : c.is_noted.result ≡ one_lacks g 0 operations (use_of item) = noted ∙ (lacking ∙ ap (one_lacks g 0 operations) (use_at-map uses k item within is)) in
    grind (arith, common_steps, known)

pub returns : goal.returns
returns c =
    rw (← c.requires, ← c.deref-part-items.ensures.value) (rw (drop_all c.loop-place.place c.deref-part-items.result.now (omega arith)) at c.loop-place.invariant)
