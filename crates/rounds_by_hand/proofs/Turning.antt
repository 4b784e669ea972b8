-- A run that is ready goes on.
use Rattle.std.proofs.Common.{◌≡◌, ◌∙◌, ℕ, List, map, length, false, Option, None, Some, ap, sym, subst, refl}
use Rattle.std.specs.Prelude.{All}
use Rattle.std.specs.Global.{Vec}
use Rattle.load_memory.specs.Keys.{KeyOf}
use Rattle.load_memory.specs.Pairs.{MemoryOf}
use Rattle.load_queue.specs.Answers.{AnswerOf}
use Rattle.load_queue.specs.Orders.{CutOf}
use Rattle.execution.specs.Program.{Program}
use Rattle.execution.specs.Completion.{AnsweredOf}
use Rattle.execution.specs.Rounds.{may_at}
use Rattle.load_rounds.specs.Sessions.{SessionOf, StateOf, state_of}
use Rattle.load_rounds.specs.ByHand.{front_in, IsUnasked}
use Rattle.load_rounds.specs.SharedRounds.{report_of, requests, SharedHeadline}
use Rattle.load_rounds.specs.Limits.{AreWithin, MayGoOn}
use Rattle.load_rounds.specs.Executions.{plans_in, reports_in}
use Rattle.load_rounds.specs.Runs.{RunOf, IsNext, Holds as HoldsRun, GoesOnFrom, KeepsPlans, program_of}
use Rattle.load_rounds.specs.declared.answer.Answer.{Answer}
use Rattle.load_rounds.proofs.Limiting.{last-within, finished-within}
use Rattle.load_rounds.proofs.Stages.{stopped-all}
use Rattle.rounds_by_hand.specs.declared.pending.Pending.{Pending}
use Rattle.rounds_by_hand.specs.Pending.{still_out, is_in}
use Rattle.rounds_by_hand.specs.Stored.{KnowsTheSame}
use Rattle.rounds_by_hand.specs.Hands.{HandOf, out, over, with_run, GoesOn, KeepsHand, KeepsLoaders, MayTurn, Turns}
use Rattle.rounds_by_hand.proofs.Far.{keeps-hand, lost-kept, none-replied, out-with, same-kept, unasked-kept}
use Rattle.rounds_by_hand.proofs.Orders.{out-away}
use Rattle.rounds_by_hand.proofs.Within.{round-within}

module _ {S P E : Type 0} (program : P → Program) (text_of : P → AnsweredOf → List ℕ) (run later : RunOf P E) (old now : SessionOf S) where
  -- a new round keeps the loaders, and tells nothing
  next-kept : (next : Option (Vec CutOf)) → IsNext program text_of run later (state_of old) (state_of now) next → KeepsLoaders (state_of old) (state_of now)
  next-kept None is = same-kept (state_of old) (state_of now) is.0.same
  next-kept (Some orders) is = lost-kept (state_of old) (state_of now) (front_in (state_of old) (program_of program text_of run)) is.0.entered

  next-known : (next : Option (Vec CutOf)) → IsNext program text_of run later (state_of old) (state_of now) next → KnowsTheSame old now
  next-known None is = ap (λ (s : StateOf S). s.memory) is.0.same
  next-known (Some orders) is = ap (λ (s : StateOf S). s.memory) is.0.entered

module _ {S P E : Type 0} {program : P → Program} {text_of : P → AnsweredOf → List ℕ} {loaders : P → ℕ} {fits : P → E → MemoryOf → Type 0} {may : S → List KeyOf → AnswerOf → Type 0} {h : HandOf S P E} {run later : RunOf P E} {now : SessionOf S}
    (can : MayTurn program text_of may loaders fits h run) (kept : KeepsPlans h.session now run later) (went : GoesOnFrom program text_of may (state_of h.session) (state_of now) run later) where
  own : plans_in later.parts ≡ h.plans
  own = kept.plans ∙ can.holds.round.0

  might : MayGoOn h.limits (requests program text_of (plans_in run.parts)) (state_of h.session) run.rounds
  might = subst (λ ps. MayGoOn h.limits (requests program text_of ps) (state_of h.session) run.rounds) (sym can.holds.round.0) can.might

  -- it is over
  turned-over : KeepsLoaders (state_of h.session) (state_of now) → KeepsHand program text_of loaders fits (with_run h run) (record h { session = now; far = over })
  turned-over same = keeps-hand program text_of loaders fits (with_run h run) (record h { session = now; far = over }) can.holds.enough same refl refl tt tt

  pub turned-unasked : IsUnasked (program_of program text_of run) (state_of h.session) (state_of now) → KeepsHand program text_of loaders fits (with_run h run) (record h { session = now; far = over })
  turned-unasked lost = turned-over (unasked-kept (program_of program text_of run) (state_of h.session) (state_of now) lost)

  pub turned-next : (next : Option (Vec CutOf)) → IsNext program text_of run later (state_of h.session) (state_of now) next → KeepsHand program text_of loaders fits (with_run h run) (record h { session = now; far = over })
  turned-next next is = turned-over (next-kept program text_of run later h.session now next is)

  pub turned-stops : GoesOn program text_of may (with_run h run) (record h { session = now; far = over })
  turned-stops begun gone = stopped-all program text_of loaders fits may (state_of begun) (state_of now) h.plans later own (went (state_of begun) gone.1)

  -- nothing is missing any more
  pub turned-answers : IsNext program text_of run later (state_of h.session) (state_of now) None → (answers : Vec Answer) → map report_of answers.items ≡ reports_in later.parts → Turns program text_of may (with_run h run) (record h { session = now; far = over }) (Some answers)
  turned-answers last answers are = record {
    far = refl;
    answers = λ begun gone.
        let within = last-within program text_of h.limits (state_of h.session) (state_of now) run later kept.plans last.0.same last.1 might can.holds.within in
        let done = finished-within program text_of may (state_of begun) (state_of now) h.limits h.plans later own last.2 (went (state_of begun) gone.1) within in
        subst (λ ts. (headline : SharedHeadline may (state_of begun) (state_of now) (requests program text_of h.plans) ts) × AreWithin h.limits (requests program text_of h.plans) (state_of now) (length headline.log)) (sym are) done;
    stored = next-known program text_of run later h.session now None last;
  }

  -- a round is out
  module _ (orders : Vec CutOf) (ps : List Pending) (each : ps ≡ map still_out orders.items) where
    away : All (λ one. is_in one ≡ false) ps
    away = rw each (out-away orders.items)

    pub turned-out : GoesOn program text_of may (with_run h run) (record h { session = now; far = out later ps })
    turned-out begun gone = (own, went (state_of begun) gone.1, none-replied (may_at may now.loaders) ps away)

    module _ (next : IsNext program text_of run later (state_of h.session) (state_of now) (Some orders)) where
      pub turned-round : HoldsRun program text_of loaders fits later now → KeepsHand program text_of loaders fits (with_run h run) (record h { session = now; far = out later ps })
      turned-round holds =
          let with = out-with program text_of (state_of h.session) (state_of now) (plans_in run.parts) later orders.items ps kept.plans next.2 next.0 each in
          let within = round-within program text_of h.plans run can.holds.round.0 h.limits (state_of h.session) (state_of now) later orders.items might next.0 next.1 in
          keeps-hand program text_of loaders fits (with_run h run) (record h { session = now; far = out later ps }) can.holds.enough (next-kept program text_of run later h.session now (Some orders) next) refl refl (own, with, holds) within

      pub turned-asks : Turns program text_of may (with_run h run) (record h { session = now; far = out later ps }) None
      turned-asks = record { far = away; answers = tt; stored = next-known program text_of run later h.session now (Some orders) next }
