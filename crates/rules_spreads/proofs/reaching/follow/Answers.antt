use Rattle.std.proofs.Common.{◌≡◌, ◌∙◌, sym, ap, ◌<◌, length, get_or}
use Rattle.std.proofs.lemmas.List.{get_or_default, length-set}
use Rattle.rules_spreads.specs.declared.operation_set.OperationSet.{OperationSet}
use Rattle.rules_spreads.specs.declared.edges.Edge.{Edge}
use Rattle.rules_spreads.specs.OperationSpans.{set_at, no_operations, is_within, both}
use Rattle.rules_spreads.proofs.ReacherLaws.{follows_same, follows_more}
use Rattle.rules_spreads.proofs.reaching.follow.Goals as goal
use Rattle.rules_spreads.proofs.reaching.follow.Goals.{then-not-is_within, else-not-is_within}

pub loop-edge-preserved : goal.loop-edge-preserved
loop-edge-preserved c =
    let edges = c.args.edges.now in
    let n = c.loop-edge.edge-index in
    let sets = c.loop-edge.sets.items in
    let e : Edge = get_or edges n (record { from = 0; to = 0 }) in
    let at : n < length edges = c.loop-edge-test.true in
    let is : e ≡ get_or edges n e = get_or_default edges n (record { from = 0; to = 0 }) e at in
    let below = rw (← is, ← c.loop-edge.invariant.len) at (c.requires n e at) in
    let from : c.index-from.result.now ≡ set_at sets e.from = c.index-from.ensures ∙ get_or_default sets e.from c.index-from.result.now no_operations below.0 in
    let to : c.index-to.result.now ≡ set_at sets e.to = c.index-to.ensures ∙ get_or_default sets e.to c.index-to.result.now no_operations below.1 in
    let test : is_within (set_at sets e.from) (set_at sets e.to) ≡ c.is_within.result = sym (c.is_within.ensures ∙ (ap (λ (s : OperationSet). is_within s c.index-to.result.now) from ∙ ap (is_within (set_at sets e.from)) to)) in
    elim c.if-not-is_within.branch [
      | then-not-is_within w ↦
          let made : w.union.result ≡ both (set_at sets e.from) (set_at sets e.to) = w.union.ensures.both ∙ (ap (λ (s : OperationSet). both s c.index-to.result.now) from ∙ ap (both (set_at sets e.from)) to) in
          rw (w.sets-is, w.has_grown-is) (follows_more edges n c.args.sets.now.items sets c.loop-edge.has_grown e w.union.result is at below.1 c.loop-edge.invariant (test ∙ w.if-not-is_within.true) (rw (← to) w.union.ensures.span) made (length-set sets e.to w.union.result))
      | else-not-is_within w ↦
          rw (w.sets-is, w.has_grown-is) (follows_same edges n c.args.sets.now.items sets c.loop-edge.has_grown e is at c.loop-edge.invariant (test ∙ w.if-not-is_within.false))
    ]
