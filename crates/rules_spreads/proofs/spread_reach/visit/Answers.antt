use Rattle.std.proofs.Common.{◌≡◌, ◌∙◌, sym, ◌<◌, ◌++◌, [], ◌∷◌, length, get_or, set, take, true, false, arith}
use Rattle.std.proofs.lemmas.List.{take_more, get_or_default}
use Rattle.rules_spreads.specs.SpreadReaches.{Visits}
use Rattle.rules_spreads.proofs.WalkLaws.{below-at, visits-old, visits-new}
use Rattle.rules_spreads.proofs.spread_reach.visit.Goals as goal
use Rattle.rules_spreads.proofs.spread_reach.visit.Goals.{then-not-index+in_ok-push, else-not-index}

pub loop-target-preserved : goal.loop-target-preserved
loop-target-preserved c =
    let targets = c.args.targets.now in
    let i = c.loop-target.target-index in
    let y = get_or targets i 0 in
    let marks = c.loop-target.marks.items in
    let lt : i < length targets = c.loop-target-test.true in
    let below : y < length marks = omega (arith, below-at (length c.args.marks.now.items) targets i c.requires lt, c.loop-target.invariant.len) in
    let value : get_or marks y false ≡ c.index.result.now = get_or_default marks y false c.index.result.now below ∙ sym c.index.ensures in
    elim c.if-not-index.branch [
      | then-not-index+in_ok-push w ↦
          let v : Visits c.args.marks.now.items (set marks y true) c.args.reached.now.items (c.loop-target.reached.items ++ y ∷ []) (take i targets ++ y ∷ []) =
          visits-new c.args.marks.now.items marks c.args.reached.now.items c.loop-target.reached.items (take i targets) y c.loop-target.invariant below (value ∙ w.if-not-index.true) in
          rw (take_more targets i 0 lt, w.marks-is, w.reached-is, w.in_ok-push.ensures.items) v
      | else-not-index w ↦
          rw (take_more targets i 0 lt, w.marks-is, w.reached-is) (visits-old c.args.marks.now.items marks c.args.reached.now.items c.loop-target.reached.items (take i targets) y c.loop-target.invariant (value ∙ w.if-not-index.false))
    ]
