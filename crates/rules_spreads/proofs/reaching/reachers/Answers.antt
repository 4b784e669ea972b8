use Rattle.std.proofs.Common.{◌∙◌}
use Rattle.std.proofs.lemmas.Bool.{true≢false}
use Rattle.rules_spreads.proofs.ReacherLaws.{edges-below, reached, reached-passes, spreaders-pass, found}
use Rattle.rules_spreads.proofs.reaching.reachers.Goals as goal

pub loop-has_grown-init : goal.loop-has_grown-init
loop-has_grown-init c = record {
  len = c.in_ok-sets.ensures.len;
  reached = spreaders-pass c.args.graph.now c.args.edges.now (c.in_ok-sets.ensures.known c.requires.count.0) c.requires.edges c.args.first c.args.count c.in_ok-sets.sets.items c.in_ok-sets.ensures.sets;
  begun = λ j i h. c.in_ok-sets.ensures.sets j i ∙ h;
  followed = λ e. absurd (true≢false e);
}

pub follow-has_grown-requires : goal.follow-has_grown-requires
follow-has_grown-requires c =
    rw c.loop-has_grown.invariant.len (edges-below c.args.graph.now c.args.edges.now (c.in_ok-sets.ensures.known c.requires.count.0) c.requires.edges)

pub loop-has_grown-preserved : goal.loop-has_grown-preserved
loop-has_grown-preserved c =
    let test = reached c.args.graph.now c.args.edges.now (c.in_ok-sets.ensures.known c.requires.count.0) c.requires.edges c.args.first c.args.count in
    record {
      len = c.follow-has_grown.ensures.len ∙ c.loop-has_grown.invariant.len;
      reached = c.follow-has_grown.ensures.passes test (reached-passes c.args.graph.now c.args.edges.now (c.in_ok-sets.ensures.known c.requires.count.0) c.requires.edges c.args.first c.args.count) c.loop-has_grown.invariant.reached;
      begun = λ j i h. c.follow-has_grown.ensures.kept j i (c.loop-has_grown.invariant.begun j i h);
      followed = c.follow-has_grown.ensures.followed;
    }

pub returns-clause-sets : goal.returns-clause-sets
returns-clause-sets c =
    found c.args.graph.now c.args.edges.now (c.in_ok-sets.ensures.known c.requires.count.0) c.requires.edges c.args.first c.args.count c.loop-has_grown.sets.items c.loop-has_grown.invariant.reached c.loop-has_grown.invariant.begun (c.loop-has_grown.invariant.followed c.loop-has_grown-test.false)
