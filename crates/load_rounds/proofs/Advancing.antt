-- How far a call is that goes on with the executions of a run, one after another, and what holds once all have gone on.
use Rattle.std.proofs.Common.{◌≡◌, ◌≢◌, ◌<◌, ◌≤◌, ◌+◌, ◌||◌, ℕ, suc, Bool, true, false, List, [], map, take, length, get_or, is_none, refl, ap, subst, ◌∙◌, sym, arith}
use Rattle.std.proofs.lemmas.List.{length-map, take_all}
use Rattle.std.specs.List.{list_any}
use Rattle.std.specs.Prelude.{All, slice_set}
use Rattle.load_memory.specs.Pairs.{MemoryOf, look}
use Rattle.load_queue.specs.Wanted.{WantedOf, nothing_wanted}
use Rattle.execution.specs.Loads.{Load}
use Rattle.execution.specs.Program.{Program}
use Rattle.execution.specs.Completion.{AnsweredOf}
use Rattle.execution.specs.Front.{front, wanting, modes_wanted}
use Rattle.execution.specs.Executes.{CanExecute}
use Rattle.load_rounds.specs.Sessions.{SessionOf, StateOf, state_of, session_modes, memory_of}
use Rattle.load_rounds.specs.Rounds.{AreWanted}
use Rattle.load_rounds.specs.Executions.{PartOf, plans_in, FitsPart, FitParts, GoesOn}
use Rattle.load_rounds.specs.ByHand.{front_in}
use Rattle.load_rounds.specs.Runs.{RunOf, program_of}
use Rattle.load_rounds.proofs.Following.{nothing-modes, rules-size, wants-are}
use Rattle.load_rounds.proofs.GoingOn.{fronts, GoOn, FirstGoOn, none-go-on, all-go-on, go-on-length, first-plans, next-fits, next-enough, one-goes-on, one-front, plans-set, wanting-modes, wanting-all, unreported-more, gone-lacks, gone-lacks-none}
use Rattle.load_rounds.proofs.Lacking.{wanting-append, length-wanting}

module _ {P E : Type 0} (program : P → Program) (text_of : P → AnsweredOf → List ℕ) (loaders : P → ℕ) (fits : P → E → MemoryOf → Type 0) {S : Type 0} (session : SessionOf S) (run : RunOf P E) where
  -- The first `n` have gone on over what the session knows. What is missing for them is wanted, and some of them has no answer yet, or each has.
  pub record IsFar (n : ℕ) (wants : List WantedOf) (missing : Bool) (parts : List (PartOf P E)) : Type 0 where
    pub gone : FirstGoOn program text_of loaders fits n run.rounds (memory_of session) run.parts parts
    pub wanted : wants ≡ wanting (map nothing_wanted (session_modes (state_of session))) (fronts program (memory_of session) (take n (plans_in run.parts)))
    pub unreported : missing ≡ list_any (λ part. is_none part.report) (take n parts)

  pub far-none : (wants : List WantedOf) → wants ≡ map nothing_wanted (session_modes (state_of session)) → IsFar 0 wants false run.parts
  far-none wants none = record { gone = none-go-on program text_of loaders fits run.rounds (memory_of session) run.parts; wanted = none; unreported = refl }

  module _ (n : ℕ) (wants : List WantedOf) (missing : Bool) (parts : List (PartOf P E)) (far : IsFar n wants missing parts) where
    pub far-size : length parts ≡ length run.parts
    far-size = go-on-length program text_of loaders fits n run.rounds (memory_of session) run.parts parts far.gone

    pub far-plans : plans_in parts ≡ plans_in run.parts
    far-plans = first-plans program text_of loaders fits n run.rounds (memory_of session) run.parts parts far.gone

    -- the next of them
    module _ (d : PartOf P E) (lt : n < length parts) (at : d ≡ get_or parts n d) where
      pub next-can : All (λ plan. loaders plan ≤ length session.loaders) (plans_in run.parts) → CanExecute (loaders d.plan) (memory_of session) wants
      next-can enough =
          let s : StateOf S = state_of session in
          let all = subst (λ most. All (λ plan. loaders plan ≤ most) (plans_in run.parts)) (sym (rules-size s)) enough in
          record {
            enough = next-enough program text_of loaders fits n run.rounds (length (session_modes s)) (memory_of session) run.parts parts d lt at far.gone all;
            lined_up = ap modes_wanted far.wanted ∙ wanting-modes (map nothing_wanted (session_modes s)) (fronts program (memory_of session) (take n (plans_in run.parts))) ∙ nothing-modes (session_modes s);
          }

      pub next-fit : FitParts program text_of loaders fits run.parts (memory_of session) → FitsPart program text_of loaders fits d.plan d.progress d.report (memory_of session)
      next-fit fit = next-fits program text_of loaders fits n run.rounds (memory_of session) run.parts parts d lt at far.gone fit

      pub next-plans : (y : PartOf P E) → y.plan ≡ d.plan → plans_in (slice_set parts n y) ≡ plans_in run.parts
      next-plans y same = plans-set n parts d y lt at same ∙ far-plans

      -- it has gone on too
      pub far-more : (y : PartOf P E) (later : List WantedOf) (lacks : Bool) → GoesOn program text_of loaders fits run.rounds (memory_of session) d y → later ≡ wanting wants (front (session_modes (state_of session)) (program d.plan) (look session.pairs)) → lacks ≡ is_none y.report
          → IsFar (n + 1) later (missing || lacks) (slice_set parts n y)
      far-more y later lacks goes wanted unreported =
          let m : MemoryOf = memory_of session in
          let none : List WantedOf = map nothing_wanted (session_modes (state_of session)) in
          let next : n + 1 ≡ suc n = omega arith in
          let own : List Load = front m.modes (program d.plan) (look m.pairs) in
          let before : List Load = fronts program m (take n (plans_in run.parts)) in
          record {
            gone = one-goes-on program text_of loaders fits n (n + 1) run.rounds m run.parts parts d y next lt at far.gone goes;
            wanted = wanted ∙ ap (λ ws. wanting ws own) far.wanted ∙ sym (wanting-append none before own)
                ∙ ap (wanting none) (sym (one-front program text_of loaders fits n (n + 1) run.rounds m run.parts parts d next lt at far.gone));
            unreported = rw unreported (unreported-more (λ part. is_none part.report) n (n + 1) parts y missing next lt far.unreported);
          }

    -- all of them have
    module _ (all : length parts ≤ n) where
      pub far-gone : GoOn program text_of loaders fits run.rounds (memory_of session) run.parts parts
      far-gone = all-go-on program text_of loaders fits n run.rounds (memory_of session) run.parts parts all far.gone

      whole-parts : missing ≡ list_any (λ part. is_none part.report) parts
      whole-parts = far.unreported ∙ ap (list_any (λ part. is_none part.report)) (take_all n parts all)

      whole-plans : take n (plans_in run.parts) ≡ plans_in run.parts
      whole-plans = take_all n (plans_in run.parts) (omega (arith, all, far-size, length-map run.parts (λ part. part.plan)))

      pub far-complete : missing ≡ false → front_in (state_of session) (program_of program text_of run) ≡ []
      far-complete none = gone-lacks-none program text_of loaders fits run.rounds (memory_of session) run.parts parts far-gone (sym whole-parts ∙ none)

      pub far-lacks : missing ≡ true → front_in (state_of session) (program_of program text_of run) ≢ []
      far-lacks some = gone-lacks program text_of loaders fits run.rounds (memory_of session) run.parts parts far-gone (sym whole-parts ∙ some)

      far-wants : wants ≡ wanting (map nothing_wanted (session_modes (state_of session))) (front_in (state_of session) (program_of program text_of run))
      far-wants =
          let modes = session_modes (state_of session) in
          let none : List WantedOf = map nothing_wanted modes in
          far.wanted ∙ ap (λ ps. wanting none (fronts program (memory_of session) ps)) whole-plans ∙ wanting-all program text_of (memory_of session) none (plans_in run.parts) (nothing-modes modes)

      pub far-length : length wants ≡ length session.loaders
      far-length =
          let s : StateOf S = state_of session in
          ap length far-wants ∙ length-wanting (map nothing_wanted (session_modes s)) (front_in s (program_of program text_of run)) ∙ length-map (session_modes s) nothing_wanted ∙ rules-size s

      pub far-wanted : AreWanted wants (front_in (state_of session) (program_of program text_of run))
      far-wanted = wants-are (session_modes (state_of session)) (program_of program text_of run) (look session.pairs) wants far-wants
