use Rattle.std.proofs.Common.{◌∙◌, ap, refl, sym, inl}
use Rattle.load_rounds.specs.Sessions.{state_of}
use Rattle.load_rounds.specs.Executions.{plans_in}
use Rattle.load_rounds.specs.SharedRounds.{requests}
use Rattle.load_rounds.specs.Runs.{RunOf, program_of}
use Rattle.load_rounds.proofs.Limiting.{within-none, next-within, last-within, asked-in-time}
use Rattle.load_rounds.proofs.Runs.{round-asked, round-orders}
use Rattle.batch_workers.proofs.Receipts.{asked-round}
use Rattle.batch_workers.proofs.answer.run.Goals as goal

pub loop-excess-init : goal.loop-excess-init
loop-excess-init g c = record {
  ready = c.requires.ready.0;
  holds = c.requires.holds;
  run = λ begun is. is;
  in_time = λ begun is. inl c.requires.ready.1;
  within = within-none c.args.limits.rounds c.args.rounds.now.rounds c.requires.ready.1;
  plans = refl;
}

pub returns-in_err-orders-clause-run : goal.returns-in_err-orders-clause-run
returns-in_err-orders-clause-run g c = λ begun is. c.in_err-orders.ensures.run begun (c.loop-excess.invariant.run begun is)

-- ---- nothing is missing any more

pub returns-in_default-2-clause-ended : goal.returns-in_default-2-clause-ended
returns-in_default-2-clause-ended g c =
    let X = g.P.Execute in
    let last = rw c.in_default-2.is at c.in_ok-orders.ensures.next in
    let might = rw c.in_default.is at c.in_ok-excess.ensures in
    (last.2, last-within X.program X.text_of c.args.limits (state_of c.loop-excess.session) (state_of c.advance.new.session) c.loop-excess.rounds c.advance.new.self c.advance.ensures.kept.plans last.0.same last.1 might c.loop-excess.invariant.within)

pub returns-in_default-2-clause-in_time : goal.returns-in_default-2-clause-in_time
returns-in_default-2-clause-in_time g c =
    let last = rw c.in_default-2.is at c.in_ok-orders.ensures.next in
    λ begun is. rw (last.0.same, last.1) (c.loop-excess.invariant.in_time begun is)

pub returns-in_default-2-clause-run : goal.returns-in_default-2-clause-run
returns-in_default-2-clause-run g c = λ begun is. c.in_ok-orders.ensures.run begun (c.loop-excess.invariant.run begun is)

-- ---- one round more

pub make_round-requires-clause-out : goal.make_round-requires-clause-out
make_round-requires-clause-out g c = λ κs l.
    let next = rw c.in-Some-2.is at c.in_ok-orders.ensures.next in
    let p = program_of g.P.Execute.program g.P.Execute.text_of c.loop-excess.rounds in
    record { out = next.2; latest = rw c.advance.ensures.kept.plans (round-asked p (state_of c.loop-excess.session) (state_of c.advance.new.session) c.in-Some-2.orders.items next.0) }

pub make_round-requires-clause-orders : goal.make_round-requires-clause-orders
make_round-requires-clause-orders g c = λ κs l.
    let next = rw c.in-Some-2.is at c.in_ok-orders.ensures.next in
    let p = program_of g.P.Execute.program g.P.Execute.text_of c.loop-excess.rounds in
    let orders = round-orders p (state_of c.loop-excess.session) (state_of c.advance.new.session) c.in-Some-2.orders.items next.0 in
    rw c.advance.ensures.kept.plans (record { batches = sym orders; cut = next.0.cut })

pub loop-excess-preserved : goal.loop-excess-preserved
loop-excess-preserved g c =
    let X = g.P.Execute in
    let may = g.S.Source.may_answer in
    let run = c.loop-excess.rounds in
    let old = state_of c.loop-excess.session in
    let new = state_of c.make_round.new.session in
    let later = c.make_round.new.rounds in
    let was = c.loop-excess.invariant in
    let next = rw c.in-Some-2.is at c.in_ok-orders.ensures.next in
    let might = rw c.in_default.is at c.in_ok-excess.ensures in
    let rounds = ap (λ (r : RunOf _ _). r.rounds) c.in_ok-make_round.ensures.made ∙ next.1 in
    let ran = asked-round may (program_of X.program X.text_of run) old (state_of c.advance.new.session) new c.in-Some-2.orders.items next.0 (rw c.advance.ensures.kept.plans at c.in_ok-make_round.ensures.ran) in
    record {
      ready = ap (λ (r : RunOf _ _). r.stage) c.in_ok-make_round.ensures.made;
      holds = c.make_round.ensures.holds;
      run = λ begun is. c.make_round.ensures.run begun (c.in_ok-orders.ensures.run begun (was.run begun is));
      in_time = λ begun is. asked-in-time X.program X.text_of may begun old new c.args.limits (plans_in c.args.rounds.now.parts) run was.plans was.ready (was.run begun is) might ran later.rounds;
      within = next-within c.args.limits (requests X.program X.text_of (plans_in run.parts)) old run.rounds later.rounds might next.0.lacks rounds;
      plans = c.make_round.ensures.plans ∙ c.advance.ensures.kept.plans ∙ was.plans;
    }

pub returns-in_err-make_round-clause-run : goal.returns-in_err-make_round-clause-run
returns-in_err-make_round-clause-run g c = λ begun is. c.make_round.ensures.run begun (c.in_ok-orders.ensures.run begun (c.loop-excess.invariant.run begun is))
