use Rattle.std.proofs.Common.{◌≡◌, ◌∙◌, ap, sym, subst, map, refl, ℕ, List, Option, Some, None}
use Rattle.std.specs.Global.{Vec}
use Rattle.load_memory.specs.Replies.{reply_of}
use Rattle.load_queue.specs.Orders.{OrderOf, CutOf, asks}
use Rattle.execution.specs.Program.{Program}
use Rattle.execution.specs.Completion.{AnsweredOf}
use Rattle.execution.specs.Rounds.{may_at}
use Rattle.load_rounds.specs.Histories.{any_tell}
use Rattle.load_rounds.specs.Sessions.{StateOf, state_of}
use Rattle.load_rounds.specs.ByHand.{AreReceived, orders_in}
use Rattle.load_rounds.specs.SharedRounds.{IsAnsweredAlone, request_of, report_of, joint}
use Rattle.load_rounds.specs.Runs.{RunOf, IsNext, program_of}
use Rattle.load_rounds.specs.declared.rounds.Stage.TheVariants.{Finished}
use Rattle.load_rounds.proofs.Runs.{round-orders, round-asked}
use Rattle.load_rounds.proofs.Stages.{answered-one}
use Rattle.example_totals.proofs.by_hand.answer_by_hand.Goals as goal

-- nothing is missing where no round was made
finished : {S P E : Type 0} (program : P → Program) (text_of : P → AnsweredOf → List ℕ) (run later : RunOf P E) (old new : StateOf S) (orders : Option (Vec CutOf)) → ((o : Vec CutOf) → orders ≡ Some o → ⊥) → IsNext program text_of run later old new orders → later.stage ≡ Finished
finished program text_of run later old new None none next = next.2
finished program text_of run later old new (Some o) none next = absurd (none o refl)

pub take_owned-requires-clause-out : goal.take_owned-requires-clause-out
take_owned-requires-clause-out g c =
    let next = rw c.in-Some.is at c.in_ok-orders.ensures.next in
    let p = program_of g.P.Execute.program g.P.Execute.text_of c.loop-rounds.rounds in
    record { out = next.2; latest = rw c.advance.ensures.kept.plans (round-asked p (state_of c.loop-rounds.session) (state_of c.advance.new.session) c.in-Some.orders.items next.0) }

pub take_owned-requires-clause-round : goal.take_owned-requires-clause-round
take_owned-requires-clause-round g c =
    let s = state_of c.loop-rounds.session in
    let t = state_of c.advance.new.session in
    let next = rw c.in-Some.is at c.in_ok-orders.ensures.next in
    let orders = round-orders (program_of g.P.Execute.program g.P.Execute.text_of c.loop-rounds.rounds) s t c.in-Some.orders.items next.0 in
    let given = subst (λ ls. AreReceived (may_at any_tell ls) (map asks c.in-Some.orders.items) (map reply_of c.in_ok-replies.replies.items)) c.loaders-in-Some.ensures c.in_ok-replies.ensures in
    let received = subst (λ (os : List OrderOf). AreReceived (may_at any_tell c.advance.new.session.loaders) os (map reply_of c.in_ok-replies.replies.items)) (sym orders) given in
    let own = subst (λ ps. AreReceived (may_at any_tell c.advance.new.session.loaders) (orders_in t (joint g.P.Execute.program g.P.Execute.text_of ps)) (map reply_of c.in_ok-replies.replies.items)) (sym c.advance.ensures.kept.plans) received in
    own

pub loop-rounds-preserved : goal.loop-rounds-preserved
loop-rounds-preserved g c =
    let s = state_of c.loop-rounds.session in
    let t = state_of c.advance.new.session in
    let next = rw c.in-Some.is at c.in_ok-orders.ensures.next in
    let orders = round-orders (program_of g.P.Execute.program g.P.Execute.text_of c.loop-rounds.rounds) s t c.in-Some.orders.items next.0 in
    let given = subst (λ ls. AreReceived (may_at any_tell ls) (map asks c.in-Some.orders.items) (map reply_of c.in_ok-replies.replies.items)) c.loaders-in-Some.ensures c.in_ok-replies.ensures in
    let received = subst (λ (os : List OrderOf). AreReceived (may_at any_tell c.advance.new.session.loaders) os (map reply_of c.in_ok-replies.replies.items)) (sym orders) given in
    let own = subst (λ ps. AreReceived (may_at any_tell c.advance.new.session.loaders) (orders_in t (joint g.P.Execute.program g.P.Execute.text_of ps)) (map reply_of c.in_ok-replies.replies.items)) (sym c.advance.ensures.kept.plans) received in
    record {
      ready = ap (λ (r : RunOf _ _). r.stage) c.in_ok-take_owned.ensures.taken.ready;
      plans = c.take_owned.ensures.kept.plans ∙ c.advance.ensures.kept.plans ∙ c.loop-rounds.invariant.plans;
      holds = c.take_owned.ensures.holds;
      is = c.take_owned.ensures.run own (state_of c.args.session.now) (c.advance.ensures.run (state_of c.args.session.now) c.loop-rounds.invariant.is);
    }

pub returns : goal.returns
returns g c =
    let old = state_of c.args.session.now in
    let now = state_of c.advance.new.session in
    let plan = c.args.plan.now in
    let plans = c.advance.ensures.kept.plans ∙ c.loop-rounds.invariant.plans in
    let ended = finished g.P.Execute.program g.P.Execute.text_of c.loop-rounds.rounds c.advance.new.self (state_of c.loop-rounds.session) now c.in_ok-orders.field-0 c.in_default.not-Some c.in_ok-orders.ensures.next in
    let done = answered-one g.P.Execute.program g.P.Execute.text_of g.P.Execute.loaders g.P.Execute.fits any_tell old now plan c.advance.new.self plans ended (c.advance.ensures.run old c.loop-rounds.invariant.is) in
    let same : Some (report_of c.in-Some-into_answer.answer) ≡ Some done.0 = rw c.in-Some-into_answer.is at c.into_answer.ensures ∙ done.1 in
    let is : report_of c.in-Some-into_answer.answer ≡ done.0 = cc same in
    subst (IsAnsweredAlone any_tell old now (request_of (g.P.Execute.program plan) (g.P.Execute.text_of plan))) (sym is) done.2
