use Rattle.std.proofs.Common.{◌≡◌, ◌∙◌, ◌+◌, ap, ◌∷◌, map, drop}
use Rattle.rules_parts.specs.Broken.{BrokenOf}
use Rattle.rules_untyped.specs.Named.{named}
use Rattle.rules_untyped.specs.Scans.{report, has_text, left}
use Rattle.rules_untyped.proofs.ScanLaws.{drop-next, left-all}
use Rattle.rules_untyped.proofs.names.add_repeated.Goals as goal

pub loop-part-init : goal.loop-part-init
loop-part-init g c =
    left-all (has_text c.new-names.result) (report c.args.earliest.now) (map g.T.HasName.part c.args.parts.now) (λ q. rw c.new-names.ensures.empty)

pub loop-part-preserved : goal.loop-part-preserved
loop-part-preserved g c =
    let all = c.args.parts.now in
    let i = c.loop-part.part-index in
    let item = c.part-item.result in
    let rest = map g.T.HasName.part (drop (i + 1) all) in
    let same : named c.name.result.now c.place.result ≡ g.T.HasName.part item = rw (c.name.ensures, c.place.ensures) in
    c.in_ok-note.ensures rest
    ∙ (ap (λ (b : BrokenOf). left c.loop-part.names c.loop-part.earliest (b ∷ rest)) same
    ∙ rw (drop-next all i item c.loop-part-test.true c.part-item.is) at c.loop-part.invariant)
