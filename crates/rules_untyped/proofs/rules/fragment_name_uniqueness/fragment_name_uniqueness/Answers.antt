use Rattle.std.proofs.Common.{◌∙◌, ap, sym, List}
use Rattle.std.proofs.lemmas.Simd.{map-map}
use Rattle.gq_parser.specs.Tree.{fragment_of}
use Rattle.rules_parts.specs.Broken.{BrokenOf}
use Rattle.rules_untyped.specs.Named.{named_fragment}
use Rattle.rules_untyped.specs.Repeated.{repeated}
use Rattle.rules_untyped.specs.Scans.{with_all}
use Rattle.rules_untyped.proofs.rules.fragment_name_uniqueness.fragment_name_uniqueness.Goals as goal

pub returns : goal.returns
returns c =
    let tells = c.in_ok-add_repeated.ensures ∙ ap (λ (bs : List BrokenOf). with_all c.new-earliest.result (repeated bs)) (sym (map-map named_fragment fragment_of c.deref.result.now)) in
    rw c.deref.ensures.value at (rw c.new-earliest.ensures at tells)
