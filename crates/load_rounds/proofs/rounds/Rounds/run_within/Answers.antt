use Rattle.std.proofs.Common.{◌∙◌, inl, refl, arith}
use Rattle.load_rounds.specs.Sessions.{state_of}
use Rattle.load_rounds.specs.SharedRounds.{requests}
use Rattle.load_rounds.specs.Executions.{plans_in}
use Rattle.load_rounds.proofs.Limiting.{within-none, next-within, last-within, asked-in-time}
use Rattle.load_rounds.proofs.rounds.Rounds.run_within.Goals as goal

pub loop-excess-init : goal.loop-excess-init
loop-excess-init g c = record {
  ready = c.requires.ready.0;
  holds = c.requires.holds;
  run = λ begun is. is;
  in_time = λ begun is. inl c.requires.ready.1;
  within = within-none c.args.limits.rounds c.args.self.now.rounds c.requires.ready.1;
  plans = refl;
}

pub excess-requires : goal.excess-requires
excess-requires g c = c.loop-excess.invariant.holds.enough

pub returns-in_err-excess-clause-run : goal.returns-in_err-excess-clause-run
returns-in_err-excess-clause-run g c = c.loop-excess.invariant.run

pub returns-in_err-excess-clause-plans : goal.returns-in_err-excess-clause-plans
returns-in_err-excess-clause-plans g c = c.loop-excess.invariant.plans

pub returns-in-Some-clause-ended : goal.returns-in-Some-clause-ended
returns-in-Some-clause-ended g c = (c.loop-excess.invariant.ready, rw c.in-Some.is at c.in_ok-excess.ensures)

pub returns-in-Some-clause-in_time : goal.returns-in-Some-clause-in_time
returns-in-Some-clause-in_time g c = c.loop-excess.invariant.in_time

pub returns-in-Some-clause-run : goal.returns-in-Some-clause-run
returns-in-Some-clause-run g c = c.loop-excess.invariant.run

pub returns-in-Some-clause-plans : goal.returns-in-Some-clause-plans
returns-in-Some-clause-plans g c = c.loop-excess.invariant.plans

pub turn-requires-clause-ready : goal.turn-requires-clause-ready
turn-requires-clause-ready g c = c.loop-excess.invariant.ready

pub turn-requires-clause-holds : goal.turn-requires-clause-holds
turn-requires-clause-holds g c = c.loop-excess.invariant.holds

pub returns-in_err-turn-clause-run : goal.returns-in_err-turn-clause-run
returns-in_err-turn-clause-run g c = λ begun is. c.turn.ensures.run begun (c.loop-excess.invariant.run begun is)

pub returns-in_err-turn-clause-plans : goal.returns-in_err-turn-clause-plans
returns-in_err-turn-clause-plans g c = c.turn.ensures.kept.plans ∙ c.loop-excess.invariant.plans

pub returns-then-not-branch-clause-ended : goal.returns-then-not-branch-clause-ended
returns-then-not-branch-clause-ended g c =
    let X = g.P.Execute in
    let last = rw c.if-not-branch.true at c.in_ok-turn.ensures.turned in
    let might = rw c.in_default.is at c.in_ok-excess.ensures in
    (last.3, last-within X.program X.text_of c.args.limits (state_of c.loop-excess.session) (state_of c.turn.new.session) c.loop-excess.self c.turn.new.self c.turn.ensures.kept.plans last.1 last.2 might c.loop-excess.invariant.within)

pub returns-then-not-branch-clause-in_time : goal.returns-then-not-branch-clause-in_time
returns-then-not-branch-clause-in_time g c =
    let last = rw c.if-not-branch.true at c.in_ok-turn.ensures.turned in
    λ begun is. rw (last.1, last.2) (c.loop-excess.invariant.in_time begun is)

pub returns-then-not-branch-clause-run : goal.returns-then-not-branch-clause-run
returns-then-not-branch-clause-run g c = λ begun is. c.turn.ensures.run begun (c.loop-excess.invariant.run begun is)

pub returns-then-not-branch-clause-plans : goal.returns-then-not-branch-clause-plans
returns-then-not-branch-clause-plans g c = c.turn.ensures.kept.plans ∙ c.loop-excess.invariant.plans

pub loop-excess-smaller : goal.loop-excess-smaller
loop-excess-smaller g c =
    let more = rw c.if-not-branch.false at c.in_ok-turn.ensures.turned in
    omega (arith, more.2, c.turn.ensures.kept.bounded)

pub loop-excess-preserved : goal.loop-excess-preserved
loop-excess-preserved g c =
    let X = g.P.Execute in
    let run = c.loop-excess.self in
    let old = state_of c.loop-excess.session in
    let new = state_of c.turn.new.session in
    let later = c.turn.new.self in
    let was = c.loop-excess.invariant in
    let more = rw c.if-not-branch.false at c.in_ok-turn.ensures.turned in
    let might = rw c.in_default.is at c.in_ok-excess.ensures in
    record {
      ready = more.3;
      holds = c.turn.ensures.holds;
      run = λ begun is. c.turn.ensures.run begun (was.run begun is);
      in_time = λ begun is. asked-in-time X.program X.text_of g.S.LocalSource.may_tell begun old new c.args.limits (plans_in c.args.self.now.parts) run was.plans was.ready (was.run begun is) might more.1 later.rounds;
      within = next-within c.args.limits (requests X.program X.text_of (plans_in run.parts)) old run.rounds later.rounds might more.0 more.2;
      plans = c.turn.ensures.kept.plans ∙ was.plans;
    }
