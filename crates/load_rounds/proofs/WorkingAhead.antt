-- Executions that work ahead, one after another: they have the same plans and answers.
use Rattle.std.proofs.Common.{◌≡◌, ◌<◌, ◌≤◌, ◌+◌, ℕ, zero, suc, List, [], ◌∷◌, length, get_or, Option, Some, None, refl, ap, subst, ◌∙◌, sym, arith, true, Result, Ok, Err}
use Rattle.std.specs.Prelude.{slice_set, is_err}
use Rattle.std.specs.declared.alloc.AllocError.{AllocError}
use Rattle.load_memory.specs.Keys.{KeyOf}
use Rattle.load_memory.specs.Pairs.{MemoryOf}
use Rattle.load_memory.specs.Replies.{ReplyOf}
use Rattle.load_queue.specs.Answers.{AnswerOf}
use Rattle.execution.specs.Loads.{Memory}
use Rattle.execution.specs.Program.{Program}
use Rattle.execution.specs.Completion.{AnsweredOf}
use Rattle.execution.specs.Rounds.{RuleOf, without_failed}
use Rattle.execution.specs.Executes.{ComesNearer}
use Rattle.load_rounds.specs.Sessions.{StateOf, rules_of}
use Rattle.load_rounds.specs.SharedRounds.{joint}
use Rattle.load_rounds.specs.Executions.{PartOf, plans_in, told_in, left_in, CountRounds, FitsPart, FitParts}
use Rattle.load_rounds.specs.ByHand.{IsBetween}
use Rattle.load_rounds.specs.Runs.{RunOf, IsReady, IsRun}
use Rattle.load_rounds.specs.declared.rounds.Stage.TheVariants.{Ready}
use Rattle.load_rounds.specs.Steps.{PartAhead, PartsAhead}
use Rattle.load_rounds.proofs.GoingOn.{plans-set}
use Rattle.load_rounds.proofs.Limiting.{plan-there, plans-size}

pub is-none : {A : Type 0} (o : Option A) → ((a : A) → o ≡ Some a → ⊥) → o ≡ None
is-none None other = refl
is-none (Some a) other = absurd (other a refl)

module _ {P E : Type 0} where
  -- of several executions one changes, and their answers stay
  told-set : (n : ℕ) (xs : List (PartOf P E)) (d y : PartOf P E) → n < length xs → d ≡ get_or xs n d → y.report ≡ d.report → told_in (slice_set xs n y) ≡ told_in xs
  told-set n [] d y lt at same = absurd (omega (arith, lt))
  told-set zero (x ∷ xs) d y lt at same = ap (λ t. t ∷ told_in xs) (same ∙ ap (λ (z : PartOf P E). z.report) at)
  told-set (suc n) (x ∷ xs) d y lt at same = ap (λ ts. x.report ∷ ts) (told-set n xs d y (omega (arith, lt)) at same)

  -- what is left of all, where one changes
  left-set : (left : P → E → MemoryOf → ℕ) (m : MemoryOf) (n : ℕ) (xs : List (PartOf P E)) (d y : PartOf P E) → n < length xs → d ≡ get_or xs n d → left_in left (slice_set xs n y) m + left d.plan d.progress m ≡ left_in left xs m + left y.plan y.progress m
  left-set left m n [] d y lt at = absurd (omega (arith, lt))
  left-set left m zero (x ∷ xs) d y lt at = rw at (omega arith)
  left-set left m (suc n) (x ∷ xs) d y lt at = omega (arith, left-set left m n xs d y (omega (arith, lt)) at)

-- what one leaves of what is left of all, where it comes nearer with those of the steps that the ones before left over
nearer-set : (did : Option ℕ) (steps over all before after old new : ℕ) → (before ≤ all) × (over ≤ steps) → after + old ≡ before + new → ComesNearer over old new did → ComesNearer steps all after did
nearer-set None steps over all before after old new was set less = omega (arith, was.0, set, less)
nearer-set (Some rest) steps over all before after old new was set less = (omega (arith, was.0, set, less.0), omega (arith, was.1, less.1))

module _ {P E : Type 0} (program : P → Program) (text_of : P → AnsweredOf → List ℕ) (loaders : P → ℕ) (fits : P → E → MemoryOf → Type 0) where
  pub fits-at : (n : ℕ) (m : MemoryOf) (xs : List (PartOf P E)) (d : PartOf P E) → n < length xs → d ≡ get_or xs n d → FitParts program text_of loaders fits xs m → FitsPart program text_of loaders fits d.plan d.progress d.report m
  fits-at n m [] d lt at fit = absurd (omega (arith, lt))
  fits-at zero m (x ∷ xs) d lt at fit = subst (λ (z : PartOf P E). FitsPart program text_of loaders fits z.plan z.progress z.report m) (sym at) fit.0
  fits-at (suc n) m (x ∷ xs) d lt at fit = fits-at n m xs d (omega (arith, lt)) at fit.1

  fits-set : (n : ℕ) (m : MemoryOf) (xs : List (PartOf P E)) (y : PartOf P E) → FitsPart program text_of loaders fits y.plan y.progress y.report m → FitParts program text_of loaders fits xs m → FitParts program text_of loaders fits (slice_set xs n y) m
  fits-set n m [] y own fit = tt
  fits-set zero m (x ∷ xs) y own fit = (own, fit.1)
  fits-set (suc n) m (x ∷ xs) y own fit = (fit.0, fits-set n m xs y own fit.1)

  module _ (left : P → E → MemoryOf → ℕ) (steps : ℕ) (m : MemoryOf) (xs : List (PartOf P E)) where
    -- the first of them have worked ahead, and so many of the steps are left over
    abbrev pub AreAhead : ℕ → List (PartOf P E) → Type 0
    AreAhead over ys = PartsAhead program text_of loaders fits left {Done = Option ℕ} {Fault = AllocError} (λ rest. rest) steps m (Ok (Some over)) xs ys

    pub ahead-none : FitParts program text_of loaders fits xs m → AreAhead steps xs
    ahead-none fit = record { plans = refl; told = refl; fitting = fit; nearer = (omega arith, omega arith) }

    ahead-size : (over : ℕ) (ys : List (PartOf P E)) → AreAhead over ys → length ys ≡ length xs
    ahead-size over ys was = sym (plans-size ys) ∙ ap length was.plans ∙ plans-size xs

    -- the next of them
    module _ (over n end : ℕ) (ys : List (PartOf P E)) (d : PartOf P E) (test : n < end) (ends : end ≡ length xs) (at : d ≡ get_or ys n d) (was : AreAhead over ys) where
      below : n < length ys
      below = omega (arith, test, ends, ahead-size over ys was)

      pub next-fit : FitsPart program text_of loaders fits d.plan d.progress d.report m
      next-fit = fits-at n m ys d below at was.fitting

      pub next-plan : (n < length (plans_in xs)) × (d.plan ≡ get_or (plans_in xs) n d.plan)
      next-plan = (
        omega (arith, test, ends, plans-size xs),
        subst (λ ps. d.plan ≡ get_or ps n d.plan) was.plans (plan-there ys n d d.plan below at refl),
      )

      -- it works ahead, or fails
      pub next-ahead : {Done Fault : Type 0} (rest : Done → Option ℕ) (y : PartOf P E) (result : Result Done Fault) → PartAhead program text_of loaders fits left rest over m result d y
          → PartsAhead program text_of loaders fits left rest steps m result xs (slice_set ys n y)
      next-ahead rest y (Err fault) own = record {
        plans = plans-set n ys d y below at own.same ∙ was.plans;
        told = told-set n ys d y below at own.report ∙ was.told;
        fitting = tt;
        nearer = tt;
      }
      next-ahead rest y (Ok did) own = record {
        plans = plans-set n ys d y below at own.same ∙ was.plans;
        told = told-set n ys d y below at own.report ∙ was.told;
        fitting = fits-set n m ys y own.fitting was.fitting;
        nearer = nearer-set (rest did) steps over (left_in left xs m) (left_in left ys m) (left_in left (slice_set ys n y) m) (left d.plan d.progress m) (left y.plan y.progress m) was.nearer (left-set left m n ys d y below at) own.nearer;
      }

    module _ {Done Fault : Type 0} (rest : Done → Option ℕ) (ys : List (PartOf P E)) where
      pub ahead-fails : (result : Result Done Fault) (fault : Fault) → is_err result ≡ true → PartsAhead program text_of loaders fits left rest steps m (Err fault) xs ys → PartsAhead program text_of loaders fits left rest steps m result xs ys
      ahead-fails (Ok done) fault err was = absurd (cc err)
      ahead-fails (Err other) fault err was = record { plans = was.plans; told = was.told; fitting = tt; nearer = tt }

      pub ahead-again : (over : ℕ) (did : Done) → rest did ≡ Some over → PartsAhead program text_of loaders fits left {Fault = Fault} rest steps m (Ok did) xs ys → AreAhead over ys
      ahead-again over did is was = record { plans = was.plans; told = was.told; fitting = was.fitting; nearer = subst (ComesNearer steps (left_in left xs m) (left_in left ys m)) is was.nearer }

-- a run whose plans and answers stay is as ready as before
module _ {P E : Type 0} (program : P → Program) (text_of : P → AnsweredOf → List ℕ) where
  counted-alike : (rules : List RuleOf) (M : Memory) (log : List (List ReplyOf)) (xs ys : List (PartOf P E)) → plans_in ys ≡ plans_in xs → told_in ys ≡ told_in xs → CountRounds program rules M log xs → CountRounds program rules M log ys
  counted-alike rules M log xs [] plans told counts = tt
  counted-alike rules M log [] (y ∷ ys) plans told counts = absurd (cc plans)
  counted-alike rules M log (x ∷ xs) (y ∷ ys) plans told counts =
      let plan : y.plan ≡ x.plan = cc plans in
      let report : y.report ≡ x.report = cc told in
      (rw (plan, report) counts.0, counted-alike rules M log xs ys (cc plans) (cc told) counts.1)

  pub still-ready : {S : Type 0} (may : S → List KeyOf → AnswerOf → Type 0) (begun now : StateOf S) (run : RunOf P E) (parts : List (PartOf P E)) (rounds : ℕ) → plans_in parts ≡ plans_in run.parts → told_in parts ≡ told_in run.parts → rounds ≡ run.rounds → run.stage ≡ Ready
      → IsRun program text_of may begun now run → IsReady program text_of may begun now parts rounds
  still-ready may begun now run parts rounds plans told same ready is =
      let was : IsReady program text_of may begun now run.parts run.rounds = rw ready at is in
      let counts = counted-alike (rules_of begun) (without_failed begun.memory) was.between.log run.parts parts plans told was.counts in
      let moved = subst (λ ps. (between : IsBetween may (joint program text_of ps) begun now run.rounds) × CountRounds program (rules_of begun) (without_failed begun.memory) between.log parts) (sym plans) (was.between, counts) in
      rw same (record { between = moved.0; counts = moved.1 })
