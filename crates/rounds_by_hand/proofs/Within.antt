-- Rounds that are asked within limits.
use Rattle.std.proofs.Common.{◌≡◌, ◌+◌, ℕ, List, ap, sym, subst, ◌∙◌, inl, inr}
use Rattle.load_memory.specs.Keys.{KeyOf}
use Rattle.load_queue.specs.Answers.{AnswerOf}
use Rattle.load_queue.specs.Orders.{CutOf}
use Rattle.execution.specs.Loads.{Load, read}
use Rattle.execution.specs.Program.{Program}
use Rattle.execution.specs.Completion.{AnsweredOf}
use Rattle.execution.specs.Rounds.{modes_of}
use Rattle.execution.specs.Sessions.{Lost}
use Rattle.load_rounds.specs.Sessions.{StateOf, after_step}
use Rattle.load_rounds.specs.SharedRounds.{RequestOf, requests, together}
use Rattle.load_rounds.specs.ByHand.{front_in, IsRound, RunsAsked}
use Rattle.load_rounds.specs.Executions.{plans_in}
use Rattle.load_rounds.specs.Limits.{work_of_all, work_in, AreAskedInTime, AreWithin, IsLastInTime, IsWithin, MayGoOn}
use Rattle.load_rounds.specs.Runs.{RunOf, IsAway, program_of}
use Rattle.load_rounds.specs.declared.limits.Limits.{Limits}
use Rattle.load_rounds.proofs.Limiting.{next-within}
use Rattle.load_rounds.proofs.Runs.{lost-rules}

-- a round that is out tells nothing yet
module _ {S : Type 0} where
  work-lost : (rs : List RequestOf) (old new : StateOf S) (loads : List Load) → new ≡ after_step old (Lost loads) → work_in new rs ≡ work_in old rs
  work-lost rs old new loads e = ap (λ (s : StateOf S). work_in s rs) e ∙ ap (λ rules. work_of_all rs (read (modes_of rules) old.memory)) (lost-rules old loads)

module _ {S P E : Type 0} (program : P → Program) (text_of : P → AnsweredOf → List ℕ) (plans : List P) (run : RunOf P E) (same : plans_in run.parts ≡ plans) (limits : Limits) where
  -- a round that is made, where the answers might go on
  pub round-within : (old new : StateOf S) (later : RunOf P E) (orders : List CutOf) → MayGoOn limits (requests program text_of (plans_in run.parts)) old run.rounds → IsRound (program_of program text_of run) old new orders → later.rounds ≡ run.rounds + 1
      → AreWithin limits (requests program text_of plans) new later.rounds
  round-within old new later orders might is counted =
      let rs : List RequestOf = requests program text_of (plans_in run.parts) in
      subst (λ ps. AreWithin limits (requests program text_of ps) new later.rounds) same (record {
        work = subst (IsWithin limits.work) (sym (work-lost rs old new (front_in old (together rs)) is.entered)) might.work;
        rounds = next-within limits rs old run.rounds later.rounds might is.lacks counted;
      })

  -- a round that was out, once its replies are stored
  module _ (may : S → List KeyOf → AnswerOf → Type 0) (begun old new : StateOf S) where
    last-of : AreWithin limits (requests program text_of (plans_in run.parts)) old run.rounds → IsAway program text_of may begun old run.parts run.rounds → RunsAsked may (program_of program text_of run) old new → IsLastInTime may begun new limits (requests program text_of (plans_in run.parts))
    last-of within away ran =
        let asked = away.out.asked in
        let between = away.out.between in
        let rs : List RequestOf = requests program text_of (plans_in run.parts) in
        record {
          before = asked.before;
          earlier = between.log;
          made = between.made;
          might = record {
            work = subst (IsWithin limits.work) (work-lost rs asked.before old (front_in asked.before (together rs)) asked.entered) within.work;
            rounds = inl (subst (IsWithin limits.rounds) (away.out.one_more ∙ ap (λ n. n + 1) (sym between.counted)) within.rounds);
          };
          ran = ran asked;
        }

    pub stored-in-time : AreWithin limits (requests program text_of plans) old run.rounds → IsAway program text_of may begun old run.parts run.rounds → RunsAsked may (program_of program text_of run) old new → AreAskedInTime may begun new limits (requests program text_of plans) run.rounds
    stored-in-time within away ran =
        let own = subst (λ ps. AreWithin limits (requests program text_of ps) old run.rounds) (sym same) within in
        inr (subst (λ ps. IsLastInTime may begun new limits (requests program text_of ps)) same (last-of own away ran))
