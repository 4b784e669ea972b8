-- A run that is ready to go on, and the steps that it does.
use Rattle.std.proofs.Common.{◌≡◌, ◌∙◌, ◌≤◌, ℕ, List, length, Ok, refl, ap, sym, subst, inl}
use Rattle.std.specs.Prelude.{All}
use Rattle.load_memory.specs.Keys.{KeyOf}
use Rattle.load_memory.specs.Pairs.{MemoryOf}
use Rattle.load_queue.specs.Answers.{AnswerOf}
use Rattle.execution.specs.Program.{Program}
use Rattle.execution.specs.Completion.{AnsweredOf}
use Rattle.load_rounds.specs.Sessions.{SessionOf, state_of}
use Rattle.load_rounds.specs.SharedRounds.{requests}
use Rattle.load_rounds.specs.Limits.{AreAskedInTime, AreOver, IsWithin}
use Rattle.load_rounds.specs.declared.limits.Excess.{Excess}
use Rattle.load_rounds.specs.Executions.{plans_in}
use Rattle.load_rounds.specs.Runs.{RunOf, IsRun, Begins, Holds as HoldsRun, GoesOnFrom, WorksAhead}
use Rattle.load_rounds.specs.declared.rounds.Stage.TheVariants as stage
use Rattle.load_rounds.proofs.Limiting.{refused, within-none}
use Rattle.load_rounds.proofs.Stages.{stopped-all}
use Rattle.rounds_by_hand.specs.Hands.{FarOf, HandOf, handed, ready, over, with_run, AsksAndStores, GoesOn, Holds, IsOver, KeepsHand, KeepsLoaders, Readies, Refuses}
use Rattle.rounds_by_hand.proofs.Far.{same-kept}

module _ {S P E : Type 0} (program : P → Program) (text_of : P → AnsweredOf → List ℕ) (loaders : P → ℕ) (fits : P → E → MemoryOf → Type 0) where
  -- a hand keeps what it has to where a run is made ready in it
  pub ready-kept : (old : HandOf S P E) (now : SessionOf S) (run : RunOf P E) → plans_in run.parts ≡ old.plans → run.stage ≡ stage.Ready → HoldsRun program text_of loaders fits run now → IsWithin old.limits.rounds run.rounds → KeepsLoaders (state_of old.session) (state_of now)
      → KeepsHand program text_of loaders fits old (with_run (record old { session = now }) run)
  ready-kept old now run plans stage holds within kept = record {
    holds = record { enough = subst (All (λ plan. loaders plan ≤ length now.loaders)) plans holds.enough; round = (plans, stage, holds); within = within };
    plans = refl;
    limits = refl;
    session = kept;
  }

  module _ (may : S → List KeyOf → AnswerOf → Type 0) where
    -- it was just begun
    pub begun-readies : (old : HandOf S P E) (now : SessionOf S) (far : FarOf P E) (run : RunOf P E) → old.far ≡ handed → Begins program text_of loaders fits may old.session now old.plans run → KeepsLoaders (state_of old.session) (state_of now)
        → Readies program text_of may loaders fits old (record old { session = now; far = far }) run
    begun-readies old now far run e b kept = record {
      left = rw e (λ o. absurd (cc o));
      kept = ready-kept old now run b.same b.ready b.holds (within-none old.limits.rounds run.rounds b.rounds) kept;
      went = λ begun h.
          let same : old.session ≡ begun = rw e at h in
          (b.same, subst (λ s. IsRun program text_of may (state_of s) (state_of now) run) same b.is, inl b.rounds);
      same = rw e (λ is. absurd is);
    }

    -- it was ready before
    pub same-readies : (old : HandOf S P E) (far : FarOf P E) (run : RunOf P E) → old.far ≡ ready run → Holds program text_of loaders fits old.session old.plans old.limits old.far → Readies program text_of may loaders fits old (record old { far = far }) run
    same-readies old far run e h = record {
      left = rw e (λ o. absurd (cc o));
      kept = record {
        holds = record { enough = h.enough; round = rw e at h.round; within = rw e at h.within };
        plans = refl;
        limits = refl;
        session = same-kept (state_of old.session) (state_of old.session) refl;
      };
      went = λ begun gone. rw e at gone;
      same = λ is. ap (λ f. record old { far = f }) e;
    }

module _ {S P E : Type 0} {program : P → Program} {text_of : P → AnsweredOf → List ℕ} {loaders : P → ℕ} {fits : P → E → MemoryOf → Type 0} {may : S → List KeyOf → AnswerOf → Type 0} {old mid : HandOf S P E} {run : RunOf P E} (r : Readies program text_of may loaders fits old mid run) where
  -- it is over
  pub ready-stops : GoesOn program text_of may old (record mid { far = over })
  ready-stops begun h = let gone = r.went begun h in stopped-all program text_of loaders fits may (state_of begun) (state_of mid.session) mid.plans run gone.0 gone.1

  -- it did steps
  module _ {Done Fault : Type 0} {did : Done} {later : RunOf P E} (ahead : WorksAhead {Done = Done} {Fault = Fault} (Ok did) run later) (holds : HoldsRun program text_of loaders fits later mid.session) (went : GoesOnFrom program text_of may (state_of mid.session) (state_of mid.session) run later) where
    pub stepped-kept : KeepsHand program text_of loaders fits old (with_run mid later)
    stepped-kept = record {
      holds = record {
        enough = r.kept.holds.enough;
        round = (ahead.plans ∙ r.kept.holds.round.0, ahead.ready, holds);
        within = subst (IsWithin mid.limits.rounds) (sym ahead.rounds) r.kept.holds.within;
      };
      plans = r.kept.plans;
      limits = r.kept.limits;
      session = r.kept.session;
    }

    pub stepped-went : GoesOn program text_of may old (with_run mid later)
    stepped-went begun h =
        let gone = r.went begun h in
        (ahead.plans ∙ gone.0, went (state_of begun) gone.1, subst (AreAskedInTime may (state_of begun) (state_of mid.session) mid.limits (requests program text_of mid.plans)) (sym ahead.rounds) gone.2)

    -- the answers are over a limit
    pub stepped-refuses : (excess : Excess) → AreOver mid.limits (requests program text_of (plans_in later.parts)) (state_of mid.session) later.rounds excess → AsksAndStores may old mid
        → Refuses program text_of may (¬ (IsOver old.far)) (AsksAndStores may old mid) old mid (record { excess = excess; rounds = later.rounds })
    stepped-refuses excess exceeds stored =
        let same = stepped-kept.holds.round.0 in
        record {
          could = r.left;
          knows = stored;
          exceeds = rw (← same) exceeds;
          went = λ begun h.
              let gone = stepped-went begun h in
              refused program text_of may (state_of begun) (state_of mid.session) mid.limits mid.plans later same (record { excess = excess; rounds = later.rounds }) refl ahead.ready gone.1 exceeds gone.2;
        }
