use Rattle.std.proofs.Common.{◌∙◌, ◌+◌, [], ℕ, List, Option, ap, refl, fold, map, take, drop}
use Rattle.std.specs.List.{list_any}
use Rattle.rules_parts.specs.Broken.{BrokenOf, with_broken}
use Rattle.rules_untyped.specs.Repeated.{has_name}
use Rattle.rules_untyped.specs.Scans.{report, repeated_by, with_all}
use Rattle.rules_untyped.proofs.ScanLaws.{drop-next, left-noted, repeated_by-behind, stood-next, told-if}
use Rattle.rules_untyped.proofs.names.add_repeated_in_pairs.Goals as goal

pub loop-i-init : goal.loop-i-init
loop-i-init g c = ap (with_all c.args.earliest.now) (repeated_by-behind [] (map g.T.HasName.part c.args.parts.now))

pub loop-i-preserved : goal.loop-i-preserved
loop-i-preserved g c =
    let part = g.T.HasName.part in
    let all = c.args.parts.now in
    let i = c.loop-i.i in
    let item = c.index-parts-i.result in
    let n = part item in
    let rest = map part (drop (i + 1) all) in
    let kept = report c.loop-i.earliest in
    let old = λ (q : List ℕ). list_any (has_name q) (map part (take i all)) in
    let new = λ (q : List ℕ). list_any (has_name q) (map part (take (i + 1) all)) in
    ap (λ (k : Option BrokenOf). fold with_broken k (repeated_by new rest)) (c.add_if_repeated.ensures ∙ told-if kept n (old n.name))
    ∙ (left-noted new old kept n rest (old n.name) refl (stood-next part all i item c.loop-i-test.true c.index-parts-i.is)
    ∙ rw (drop-next all i item c.loop-i-test.true c.index-parts-i.is) at c.loop-i.invariant)
