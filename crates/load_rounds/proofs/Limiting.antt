-- Work of several plans, what is missing for them, and answers within limits.
use Rattle.std.proofs.Common.{◌≡◌, ◌≢◌, ◌<◌, ◌≤◌, ◌+◌, ℕ, zero, suc, false, List, [], ◌∷◌, take, length, get_or, Option, Some, None, refl, ap, subst, ◌∙◌, sym, inl, inr, arith}
use Rattle.std.proofs.lemmas.List.{take_all}
use Rattle.std.proofs.lemmas.List.Elements.{All-head, All-tail}
use Rattle.std.specs.Prelude.{All}
use Rattle.load_memory.specs.Keys.{KeyOf}
use Rattle.load_memory.specs.declared.key.KeyMode.{KeyMode}
use Rattle.load_queue.specs.Answers.{AnswerOf}
use Rattle.execution.specs.Loads.{Reader, Memory, AnswersMore, read}
use Rattle.execution.specs.Program.{ListOf, Program, tree, trees}
use Rattle.execution.specs.Completion.{AnsweredOf, is_open, any_open}
use Rattle.execution.specs.Front.{front}
use Rattle.execution.specs.Rounds.{IsBelow}
use Rattle.execution.specs.Work.{work, IsLeft}
use Rattle.execution.proofs.Monotone.{front-open, work-grows}
use Rattle.execution.proofs.SharedLaws.{below-front}
use Rattle.load_rounds.specs.declared.limits.Limits.{Limits}
use Rattle.load_rounds.specs.declared.limits.Excess.{Excess}
use Rattle.load_rounds.specs.declared.limits.Excess.TheVariants.{Work, Rounds}
use Rattle.load_rounds.specs.declared.limits.Overrun.{Overrun}
use Rattle.load_rounds.specs.declared.rounds.Stage.TheVariants.{Ready, Finished}
use Rattle.load_rounds.specs.Sessions.{StateOf}
use Rattle.load_rounds.specs.Calls.{RoundRan}
use Rattle.load_rounds.specs.Headline.{MakesRounds}
use Rattle.load_rounds.specs.SharedRounds.{RequestOf, items_from, requests, together, joint, SharedHeadline}
use Rattle.load_rounds.specs.Executions.{PartOf, plans_in, reports_in}
use Rattle.load_rounds.specs.ByHand.{front_in}
use Rattle.load_rounds.specs.Runs.{RunOf, program_of, IsReady, IsFinished, IsRun}
use Rattle.load_rounds.specs.Limits.{no_limits, work_of_all, IsWithin, AreOver, MayGoOn, AreAskedInTime, AreWithin, AreRefused, IsLastInTime}
use Rattle.load_rounds.proofs.GoingOn.{or-left}
use Rattle.load_rounds.proofs.Stepping.{made-recorded}

pub within-none : (limit : Option ℕ) (rounds : ℕ) → rounds ≡ 0 → IsWithin limit rounds
within-none None rounds none = tt
within-none (Some most) rounds none = omega (arith, none)

-- where there are no limits no answers are over one
pub never-over : {S : Type 0} (rs : List RequestOf) (s : StateOf S) (rounds : ℕ) (excess : Excess) → AreOver no_limits rs s rounds excess → ⊥
never-over rs s rounds Work over = over
never-over rs s rounds Rounds over = over.0

-- the work only grows
pub work-of-all-grows : (rs : List RequestOf) (R Q : Reader) → AnswersMore R Q → work_of_all rs R ≤ work_of_all rs Q
work-of-all-grows [] R Q more = omega arith
work-of-all-grows (r ∷ rs) R Q more = omega (arith, work-grows r.program R Q more, work-of-all-grows rs R Q more)

-- one of several, by its place
pub plan-there : {P E : Type 0} (xs : List (PartOf P E)) (at : ℕ) (x : PartOf P E) (plan : P) → at < length xs → x ≡ get_or xs at x → plan ≡ x.plan → plan ≡ get_or (plans_in xs) at plan
plan-there [] at x plan lt there is = absurd (omega (arith, lt))
plan-there (y ∷ xs) zero x plan lt there is = is ∙ ap (λ (z : PartOf _ _). z.plan) there
plan-there (y ∷ xs) (suc at) x plan lt there is = plan-there xs at x plan (omega (arith, lt)) there is

pub plans-size : {P E : Type 0} (xs : List (PartOf P E)) → length (plans_in xs) ≡ length xs
plans-size [] = refl
plans-size (x ∷ xs) = ap suc (plans-size xs)

pub all-there : {P : Type 0} (Q : P → Type 0) (plans : List P) (at : ℕ) (d : P) → at < length plans → d ≡ get_or plans at d → All Q plans → Q d
all-there Q [] at d lt there all = absurd (omega (arith, lt))
all-there Q (p ∷ ps) zero d lt there all = subst Q (sym there) (All-head Q p ps all)
all-there Q (p ∷ ps) (suc at) d lt there all = all-there Q ps at d (omega (arith, lt)) there (All-tail Q p ps all)

module _ {P : Type 0} (program : P → Program) (text_of : P → AnsweredOf → List ℕ) where
  -- the work of the first, and of one more
  module _ (R : Reader) where
    work-next : (n next : ℕ) (plans : List P) (d : P) → next ≡ suc n → n < length plans → d ≡ get_or plans n d
        → work_of_all (requests program text_of (take next plans)) R ≡ work_of_all (requests program text_of (take n plans)) R + work (program d) R
    work-next n next [] d is lt there = absurd (omega (arith, lt))
    work-next zero next (p ∷ ps) d is lt there = rw is (omega (arith, ap (λ q. work (program q) R) there))
    work-next (suc n) next (p ∷ ps) d is lt there = rw is (omega (arith, work-next n (suc n) ps d refl (omega (arith, lt)) there))

    work-part : (n : ℕ) (plans : List P) → work_of_all (requests program text_of (take n plans)) R ≤ work_of_all (requests program text_of plans) R
    work-part zero plans = omega arith
    work-part (suc n) [] = omega arith
    work-part (suc n) (p ∷ ps) = omega (arith, work-part n ps)

    pub left-next : (n next most left rest : ℕ) (plans : List P) (d : P) → next ≡ suc n → n < length plans → d ≡ get_or plans n d → left + work_of_all (requests program text_of (take n plans)) R ≡ most → IsLeft left (work (program d) R) (Some rest)
        → rest + work_of_all (requests program text_of (take next plans)) R ≡ most
    left-next n next most left rest plans d is lt there was step = omega (arith, was, step, work-next n next plans d is lt there)

    pub left-none : (n most left : ℕ) (plans : List P) (d : P) → n < length plans → d ≡ get_or plans n d → left + work_of_all (requests program text_of (take n plans)) R ≡ most → IsLeft left (work (program d) R) None
        → most < work_of_all (requests program text_of plans) R
    left-none n most left plans d lt there was step = omega (arith, was, step, work-next n (suc n) plans d refl lt there, work-part (suc n) plans)

    pub left-all : (n most left : ℕ) (plans : List P) → length plans ≤ n → left + work_of_all (requests program text_of (take n plans)) R ≡ most → left + work_of_all (requests program text_of plans) R ≡ most
    left-all n most left plans all was = subst (λ ps. left + work_of_all (requests program text_of ps) R ≡ most) (take_all n plans all) was

  -- nothing is missing for the first, and for one more
  module _ (modes : List KeyMode) (M : Memory) where
    closed-next : (n next k : ℕ) (plans : List P) (d : P) → next ≡ suc n → n < length plans → d ≡ get_or plans n d → any_open (trees (items_from k (requests program text_of (take n plans))) (read modes M)) ≡ false → is_open (tree (program d) (read modes M)) ≡ false
        → any_open (trees (items_from k (requests program text_of (take next plans))) (read modes M)) ≡ false
    closed-next n next k [] d is lt there was own = absurd (omega (arith, lt))
    closed-next zero next k (p ∷ ps) d is lt there was own =
        let e : is_open (tree (program p) (read modes M)) ≡ false = subst (λ q. is_open (tree (program q) (read modes M)) ≡ false) there own in
        rw (is, e) refl
    closed-next (suc n) next k (p ∷ ps) d is lt there was own =
        let b = or-left (is_open (tree (program p) (read modes M))) (any_open (trees (items_from (suc k) (requests program text_of (take n ps))) (read modes M))) was in
        rw (is, b.0) (closed-next n (suc n) (suc k) ps d refl (omega (arith, lt)) there b.1 own)

    pub complete-next : (n next : ℕ) (plans : List P) (d : P) → next ≡ suc n → n < length plans → d ≡ get_or plans n d → front modes (together (requests program text_of (take n plans))) M ≡ [] → front modes (program d) M ≡ []
        → front modes (together (requests program text_of (take next plans))) M ≡ []
    complete-next n next plans d is lt there was own =
        (front-open modes (together (requests program text_of (take next plans))) M).1
        (closed-next n next 0 plans d is lt there ((front-open modes (together (requests program text_of (take n plans))) M).0 was) ((front-open modes (program d) M).0 own))

    pub complete-all : (n : ℕ) (plans : List P) → length plans ≤ n → front modes (together (requests program text_of (take n plans))) M ≡ [] → front modes (together (requests program text_of plans)) M ≡ []
    complete-all n plans all was = subst (λ ps. front modes (together (requests program text_of ps)) M ≡ []) (take_all n plans all) was

    below-there : (n k : ℕ) (plans : List P) (d : P) → n < length plans → d ≡ get_or plans n d → IsBelow (program d) (items_from k (requests program text_of plans))
    below-there n k [] d lt there = absurd (omega (arith, lt))
    below-there zero k (p ∷ ps) d lt there = inl (ap program there)
    below-there (suc n) k (p ∷ ps) d lt there = inr (below-there n (suc k) ps d (omega (arith, lt)) there)

    pub lacks-one : (n : ℕ) (plans : List P) (d : P) → n < length plans → d ≡ get_or plans n d → front modes (program d) M ≢ [] → front modes (together (requests program text_of plans)) M ≢ []
    lacks-one n plans d lt there lacks = λ none. lacks (below-front modes ListOf (items_from 0 (requests program text_of plans)) (program d) M (below-there n 0 plans d lt there) none)

-- what was done since a run was begun, once it has ended
module _ {P E : Type 0} (program : P → Program) (text_of : P → AnsweredOf → List ℕ) {S : Type 0} (may : S → List KeyOf → AnswerOf → Type 0) (old now : StateOf S) (limits : Limits) (plans : List P) (run : RunOf P E) (same : plans_in run.parts ≡ plans) where
  pub refused : (overrun : Overrun) → overrun.rounds ≡ run.rounds → run.stage ≡ Ready → IsRun program text_of may old now run → AreOver limits (requests program text_of (plans_in run.parts)) now run.rounds overrun.excess → AreAskedInTime may old now limits (requests program text_of plans) run.rounds
      → AreRefused may old now limits (requests program text_of plans) overrun
  refused overrun counted ready is over in_time =
      let was : IsReady program text_of may old now run.parts run.rounds = rw ready at is in
      let h = was.between in
      let made = subst (λ ps. MakesRounds may old now (joint program text_of ps) h.log) same h.made in
      let over_plans = subst (λ ps. AreOver limits (requests program text_of ps) now run.rounds overrun.excess) same over in
      record {
        log = h.log;
        made = made;
        recorded = made-recorded may old now (joint program text_of plans) h.log made;
        counted = counted ∙ sym h.counted;
        over = subst (λ n. AreOver limits (requests program text_of plans) now n overrun.excess) (sym h.counted) over_plans;
        in_time = subst (λ n. AreAskedInTime may old now limits (requests program text_of plans) n) (sym h.counted) in_time;
      }

  pub within-same : AreWithin limits (requests program text_of (plans_in run.parts)) now run.rounds → AreWithin limits (requests program text_of plans) now run.rounds
  within-same h = subst (λ ps. AreWithin limits (requests program text_of ps) now run.rounds) same h

  pub finished-within : run.stage ≡ Finished → IsRun program text_of may old now run → AreWithin limits (requests program text_of (plans_in run.parts)) now run.rounds
      → (h : SharedHeadline may old now (requests program text_of plans) (reports_in run.parts)) × AreWithin limits (requests program text_of plans) now (length h.log)
  finished-within finished is within =
      let done : IsFinished program text_of may old now run.parts run.rounds = rw finished at is in
      let counted = subst (λ n. AreWithin limits (requests program text_of (plans_in run.parts)) now n) (sym done.counted) within in
      subst (λ ps. (h : SharedHeadline may old now (requests program text_of ps) (reports_in run.parts)) × AreWithin limits (requests program text_of ps) now (length h.log)) same (done.headline, counted)

-- one round more was made, or nothing was missing
pub next-within : {S : Type 0} (limits : Limits) (rs : List RequestOf) (s : StateOf S) (rounds next : ℕ) → MayGoOn limits rs s rounds → front_in s (together rs) ≢ [] → next ≡ rounds + 1 → IsWithin limits.rounds next
next-within limits rs s rounds next may lacks is = elim may.rounds [
  | inl within ↦ rw is within
  | inr none ↦ absurd (lacks none)
]

-- a round more of a run whose answers might go on
module _ {P E : Type 0} (program : P → Program) (text_of : P → AnsweredOf → List ℕ) {S : Type 0} (may : S → List KeyOf → AnswerOf → Type 0) (begun old new : StateOf S) (limits : Limits) (plans : List P) (run : RunOf P E) (same : plans_in run.parts ≡ plans) where
  pub asked-in-time : run.stage ≡ Ready → IsRun program text_of may begun old run → MayGoOn limits (requests program text_of (plans_in run.parts)) old run.rounds → RoundRan may old new (front_in old (program_of program text_of run))
      → (rounds : ℕ) → AreAskedInTime may begun new limits (requests program text_of plans) rounds
  asked-in-time ready is might ran rounds =
      let was : IsReady program text_of may begun old run.parts run.rounds = rw ready at is in
      let h = was.between in
      let last : IsLastInTime may begun new limits (requests program text_of (plans_in run.parts)) = record {
        before = old;
        earlier = h.log;
        made = h.made;
        might = subst (λ n. MayGoOn limits (requests program text_of (plans_in run.parts)) old n) (sym h.counted) might;
        ran = ran;
      } in
      inr (subst (λ ps. IsLastInTime may begun new limits (requests program text_of ps)) same last)

-- nothing was missing
pub last-within : {P E : Type 0} (program : P → Program) (text_of : P → AnsweredOf → List ℕ) {S : Type 0} (limits : Limits) (old new : StateOf S) (run later : RunOf P E) → plans_in later.parts ≡ plans_in run.parts → new ≡ old → later.rounds ≡ run.rounds
    → MayGoOn limits (requests program text_of (plans_in run.parts)) old run.rounds → IsWithin limits.rounds run.rounds → AreWithin limits (requests program text_of (plans_in later.parts)) new later.rounds
last-within program text_of limits old new run later plans same rounds might within = rw (plans, same, rounds) (record { work = might.work; rounds = within })
