-- Executions that go on one after another over one memory.
use Rattle.std.proofs.Common.{◌≡◌, ◌≢◌, ◌||◌, ℕ, zero, suc, ◌<◌, ◌≤◌, Bool, true, false, List, [], ◌∷◌, ◌++◌, map, take, length, get_or, Option, Some, None, is_none, is_some, refl, ap, subst, ◌∙◌, sym, arith, inl, inr, append_assoc, append-nil}
use Rattle.std.proofs.lemmas.List.Elements.{All-head, All-tail}
use Rattle.std.specs.List.{list_any}
use Rattle.std.specs.Prelude.{All, slice_set, option_map}
use Rattle.load_memory.specs.Pairs.{MemoryOf, look}
use Rattle.load_memory.specs.declared.key.KeyMode.{KeyMode}
use Rattle.load_queue.specs.Wanted.{WantedOf, with_wanted}
use Rattle.execution.specs.Loads.{Load, Reader, Memory, read}
use Rattle.execution.specs.Program.{ListOf, Program, Under, tree, trees, needs, all_needs}
use Rattle.execution.specs.Completion.{is_open, any_open, AnsweredOf}
use Rattle.execution.specs.Front.{front, missing, firsts, wanting, modes_wanted}
use Rattle.execution.specs.Rounds.{HasLoaders, IsBelow}
use Rattle.execution.proofs.Monotone.{front-open, front-stays, exec-stays, needs-stay}
use Rattle.execution.proofs.Same.{one-either, reads-more}
use Rattle.execution.proofs.SharedLaws.{below-front}
use Rattle.execution.proofs.Wanting.{wanting-firsts, with-modes}
use Rattle.execution.specs.Executes.{GrowsTo, IsTextOf}
use Rattle.execution.specs.Reads.{count_read, counted}
use Rattle.load_rounds.specs.SharedRounds.{RequestOf, ReportOf, request_of, report_of, requests, needs_of_all, front_of_all, items_from, together}
use Rattle.load_rounds.specs.Executions.{PartOf, IsDone, TellsAt, plans_in, reports_in, given_to, FitsPart, FitParts, GoesOn}
use Rattle.load_rounds.specs.declared.answer.Answer.{Answer}
use Rattle.load_rounds.proofs.Lacking.{missing-append, wanting-append}

-- gives what each of several plans needs and the memory lacks, one after another
abbrev pub fronts : {P : Type 0} → (P → Program) → MemoryOf → List P → List Load
fronts program m [] = []
fronts program m (p ∷ ps) = front m.modes (program p) (look m.pairs) ++ fronts program m ps

-- some has no answer yet
abbrev pub some_unreported : {P E : Type 0} → List (PartOf P E) → Bool
some_unreported parts = list_any (λ part. is_none part.report) parts

-- of several executions one changes, and their plans stay
pub plans-set : {P E : Type 0} (n : ℕ) (xs : List (PartOf P E)) (d y : PartOf P E) → n < length xs → d ≡ get_or xs n d → y.plan ≡ d.plan → plans_in (slice_set xs n y) ≡ plans_in xs
plans-set {P} {E} n [] d y lt at same = absurd (omega (arith, lt))
plans-set {P} {E} zero (x ∷ xs) d y lt at same = ap (λ p. p ∷ plans_in xs) (same ∙ ap (λ (z : PartOf P E). z.plan) at)
plans-set {P} {E} (suc n) (x ∷ xs) d y lt at same = ap (λ ps. x.plan ∷ ps) (plans-set n xs d y (omega (arith, lt)) at same)

-- several programs as one
all-needs-of : (n : ℕ) (rs : List RequestOf) (R : Reader) → all_needs (items_from n rs) R ≡ needs_of_all (map (λ r. r.program) rs) R
all-needs-of n [] R = refl
all-needs-of n (r ∷ rs) R = ap (λ ls. needs r.program R ++ ls) (all-needs-of (suc n) rs R)

pub together-front : (modes : List KeyMode) (rs : List RequestOf) (M : Memory) → front modes (together rs) M ≡ front_of_all modes (map (λ r. r.program) rs) M
together-front modes rs M = ap (λ ls. firsts modes (missing (read modes M) ls)) (all-needs-of 0 rs (read modes M))

pub wanting-modes : (ws : List WantedOf) (ls : List Load) → modes_wanted (wanting ws ls) ≡ modes_wanted ws
wanting-modes ws [] = refl
wanting-modes ws (l ∷ ls) = wanting-modes (with_wanted ws l.loader l.key) ls ∙ with-modes ws l.loader l.key

-- to add the fronts one after another is to add the front of all
wanting-fronts : {P : Type 0} (program : P → Program) (text_of : P → AnsweredOf → List ℕ) (n : ℕ) (m : MemoryOf) (ws : List WantedOf) (plans : List P) → modes_wanted ws ≡ m.modes
    → wanting ws (fronts program m plans) ≡ wanting ws (missing (read m.modes (look m.pairs)) (all_needs (items_from n (requests program text_of plans)) (read m.modes (look m.pairs))))
wanting-fronts program text_of n m ws [] same = refl
wanting-fronts program text_of n m ws (p ∷ ps) same =
    let R : Reader = read m.modes (look m.pairs) in
    let own : List Load = missing R (needs (program p) R) in
    let rest : List Load = all_needs (items_from (suc n) (requests program text_of ps)) R in
    wanting-append ws (firsts m.modes own) (fronts program m ps)
    ∙ ap (λ vs. wanting vs (fronts program m ps)) (wanting-firsts m.modes ws own same)
    ∙ wanting-fronts program text_of (suc n) m (wanting ws own) ps (wanting-modes ws own ∙ same)
    ∙ sym (wanting-append ws own (missing R rest))
    ∙ ap (wanting ws) (sym (missing-append R (needs (program p) R) rest))

pub wanting-all : {P : Type 0} (program : P → Program) (text_of : P → AnsweredOf → List ℕ) (m : MemoryOf) (ws : List WantedOf) (plans : List P) → modes_wanted ws ≡ m.modes
    → wanting ws (fronts program m plans) ≡ wanting ws (front m.modes (together (requests program text_of plans)) (look m.pairs))
wanting-all program text_of m ws plans same =
    wanting-fronts program text_of 0 m ws plans same
    ∙ sym (wanting-firsts m.modes ws (missing (read m.modes (look m.pairs)) (all_needs (items_from 0 (requests program text_of plans)) (read m.modes (look m.pairs)))) same)

pub or-left : (a b : Bool) → (a || b) ≡ false → (a ≡ false) × (b ≡ false)
or-left true b h = absurd (cc h)
or-left false b h = (refl, h)

module _ {P E : Type 0} (program : P → Program) (text_of : P → AnsweredOf → List ℕ) (loaders : P → ℕ) (fits : P → E → MemoryOf → Type 0) where
  -- all of them went on over a memory, after `rounds` rounds
  abbrev pub GoOn : ℕ → MemoryOf → List (PartOf P E) → List (PartOf P E) → Type 0
  GoOn rounds m [] [] = Unit {0}
  GoOn rounds m [] (y ∷ ys) = ⊥
  GoOn rounds m (x ∷ xs) [] = ⊥
  GoOn rounds m (x ∷ xs) (y ∷ ys) = GoesOn program text_of loaders fits rounds m x y × GoOn rounds m xs ys

  -- the first `n` have gone on
  abbrev pub FirstGoOn : ℕ → ℕ → MemoryOf → List (PartOf P E) → List (PartOf P E) → Type 0
  FirstGoOn n rounds m [] [] = Unit {0}
  FirstGoOn n rounds m [] (y ∷ ys) = ⊥
  FirstGoOn n rounds m (x ∷ xs) [] = ⊥
  FirstGoOn zero rounds m (x ∷ xs) (y ∷ ys) = (x ≡ y) × FirstGoOn zero rounds m xs ys
  FirstGoOn (suc n) rounds m (x ∷ xs) (y ∷ ys) = GoesOn program text_of loaders fits rounds m x y × FirstGoOn n rounds m xs ys

  pub none-go-on : (rounds : ℕ) (m : MemoryOf) (xs : List (PartOf P E)) → FirstGoOn 0 rounds m xs xs
  none-go-on rounds m [] = tt
  none-go-on rounds m (x ∷ xs) = (refl, none-go-on rounds m xs)

  pub all-go-on : (n rounds : ℕ) (m : MemoryOf) (xs ys : List (PartOf P E)) → length ys ≤ n → FirstGoOn n rounds m xs ys → GoOn rounds m xs ys
  all-go-on n rounds m [] [] le h = tt
  all-go-on zero rounds m (x ∷ xs) (y ∷ ys) le h = absurd (omega (arith, le))
  all-go-on (suc n) rounds m (x ∷ xs) (y ∷ ys) le h = (h.0, all-go-on n rounds m xs ys (omega (arith, le)) h.1)
  all-go-on n rounds m xs ys le h = absurd h

  pub go-on-length : (n rounds : ℕ) (m : MemoryOf) (xs ys : List (PartOf P E)) → FirstGoOn n rounds m xs ys → length ys ≡ length xs
  go-on-length n rounds m [] [] h = refl
  go-on-length zero rounds m (x ∷ xs) (y ∷ ys) h = ap suc (go-on-length zero rounds m xs ys h.1)
  go-on-length (suc n) rounds m (x ∷ xs) (y ∷ ys) h = ap suc (go-on-length n rounds m xs ys h.1)
  go-on-length n rounds m xs ys h = absurd h

  pub first-plans : (n rounds : ℕ) (m : MemoryOf) (xs ys : List (PartOf P E)) → FirstGoOn n rounds m xs ys → plans_in ys ≡ plans_in xs
  first-plans n rounds m [] [] h = refl
  first-plans zero rounds m (x ∷ xs) (y ∷ ys) h = rw (h.0, first-plans zero rounds m xs ys h.1) refl
  first-plans (suc n) rounds m (x ∷ xs) (y ∷ ys) h = rw (h.0.same, first-plans n rounds m xs ys h.1) refl
  first-plans n rounds m xs ys h = absurd h

  -- the next of them is as it was
  pub next-fits : (n rounds : ℕ) (m : MemoryOf) (xs ys : List (PartOf P E)) (d : PartOf P E) → n < length ys → d ≡ get_or ys n d → FirstGoOn n rounds m xs ys → FitParts program text_of loaders fits xs m → FitsPart program text_of loaders fits d.plan d.progress d.report m
  next-fits n rounds m [] [] d lt at h fit = absurd (omega (arith, lt))
  next-fits zero rounds m (x ∷ xs) (y ∷ ys) d lt at h fit = subst (λ (z : PartOf P E). FitsPart program text_of loaders fits z.plan z.progress z.report m) (h.0 ∙ sym at) fit.0
  next-fits (suc n) rounds m (x ∷ xs) (y ∷ ys) d lt at h fit = next-fits n rounds m xs ys d (omega (arith, lt)) at h.1 fit.1
  next-fits n rounds m xs ys d lt at h fit = absurd h

  pub next-enough : (n rounds count : ℕ) (m : MemoryOf) (xs ys : List (PartOf P E)) (d : PartOf P E) → n < length ys → d ≡ get_or ys n d → FirstGoOn n rounds m xs ys → All (λ plan. loaders plan ≤ count) (plans_in xs) → loaders d.plan ≤ count
  next-enough n rounds count m [] [] d lt at h all = absurd (omega (arith, lt))
  next-enough zero rounds count m (x ∷ xs) (y ∷ ys) d lt at h all = subst (λ (z : PartOf P E). loaders z.plan ≤ count) (h.0 ∙ sym at) (All-head (λ plan. loaders plan ≤ count) x.plan (plans_in xs) all)
  next-enough (suc n) rounds count m (x ∷ xs) (y ∷ ys) d lt at h all = next-enough n rounds count m xs ys d (omega (arith, lt)) at h.1 (All-tail (λ plan. loaders plan ≤ count) x.plan (plans_in xs) all)
  next-enough n rounds count m xs ys d lt at h all = absurd h

  -- one more
  pub one-goes-on : (n next rounds : ℕ) (m : MemoryOf) (xs ys : List (PartOf P E)) (d y : PartOf P E) → next ≡ suc n → n < length ys → d ≡ get_or ys n d → FirstGoOn n rounds m xs ys → GoesOn program text_of loaders fits rounds m d y → FirstGoOn next rounds m xs (slice_set ys n y)
  one-goes-on n next rounds m [] [] d y is lt at h goes = absurd (omega (arith, lt))
  one-goes-on zero next rounds m (x ∷ xs) (z ∷ ys) d y is lt at h goes = rw is (subst (λ (w : PartOf P E). GoesOn program text_of loaders fits rounds m w y) (at ∙ sym h.0) goes, h.1)
  one-goes-on (suc n) next rounds m (x ∷ xs) (z ∷ ys) d y is lt at h goes = rw is (h.0, one-goes-on n (suc n) rounds m xs ys d y refl (omega (arith, lt)) at h.1 goes)
  one-goes-on n next rounds m xs ys d y is lt at h goes = absurd h

  -- says what is missing for one more
  pub one-front : (n next rounds : ℕ) (m : MemoryOf) (xs ys : List (PartOf P E)) (d : PartOf P E) → next ≡ suc n → n < length ys → d ≡ get_or ys n d → FirstGoOn n rounds m xs ys
      → fronts program m (take next (plans_in xs)) ≡ fronts program m (take n (plans_in xs)) ++ front m.modes (program d.plan) (look m.pairs)
  one-front n next rounds m [] [] d is lt at h = absurd (omega (arith, lt))
  one-front zero next rounds m (x ∷ xs) (z ∷ ys) d is lt at h =
      let same : x ≡ d = h.0 ∙ sym at in
      rw is (append-nil (front m.modes (program x.plan) (look m.pairs)) ∙ ap (λ (w : PartOf P E). front m.modes (program w.plan) (look m.pairs)) same)
  one-front (suc n) next rounds m (x ∷ xs) (z ∷ ys) d is lt at h =
      let own : List Load = front m.modes (program x.plan) (look m.pairs) in
      rw is (ap (λ ls. own ++ ls) (one-front n (suc n) rounds m xs ys d refl (omega (arith, lt)) at h.1) ∙ sym (append_assoc own (fronts program m (take n (plans_in xs))) (front m.modes (program d.plan) (look m.pairs))))
  one-front n next rounds m xs ys d is lt at h = absurd h

  -- then they fit what is known later
  pub gone-fit : (rounds : ℕ) (m later : MemoryOf) (xs ys : List (PartOf P E)) → GoOn rounds m xs ys → GrowsTo m later → FitParts program text_of loaders fits ys later
  gone-fit rounds m later [] [] h grown = tt
  gone-fit rounds m later (x ∷ xs) (y ∷ ys) h grown = (h.0.fitting later grown, gone-fit rounds m later xs ys h.1 grown)
  gone-fit rounds m later xs ys h grown = absurd h

  pub gone-plans : (rounds : ℕ) (m : MemoryOf) (xs ys : List (PartOf P E)) → GoOn rounds m xs ys → plans_in ys ≡ plans_in xs
  gone-plans rounds m [] [] h = refl
  gone-plans rounds m (x ∷ xs) (y ∷ ys) h = rw (h.0.same, gone-plans rounds m xs ys h.1) refl
  gone-plans rounds m xs ys h = absurd h

  -- each needs loaders below a number
  pub gone-within : (n rounds count : ℕ) (m : MemoryOf) (xs ys : List (PartOf P E)) → GoOn rounds m xs ys → All (λ plan. loaders plan ≤ count) (plans_in xs) → HasLoaders count (Under ListOf (items_from n (requests program text_of (plans_in xs))))
  gone-within n rounds count m [] [] h all R load one = absurd one
  gone-within n rounds count m [] (y ∷ ys) h all R load one = absurd h
  gone-within n rounds count m (x ∷ xs) [] h all R load one = absurd h
  gone-within n rounds count m (x ∷ xs) (y ∷ ys) h all R load one =
      elim (one-either load (needs (program x.plan) R) (all_needs (items_from (suc n) (requests program text_of (plans_in xs))) R) one) [
        | inl own ↦
            let enough = All-head (λ plan. loaders plan ≤ count) x.plan (plans_in xs) all in
            let within : HasLoaders (loaders x.plan) (program x.plan) = subst (λ plan. HasLoaders (loaders plan) (program plan)) h.0.same h.0.within in
            let below = within R load own in
            omega (arith, below, enough)
        | inr other ↦ gone-within (suc n) rounds count m xs ys h.1 (All-tail (λ plan. loaders plan ≤ count) x.plan (plans_in xs) all) R load other
      ]

  -- nothing is missing where each has its answer
  report-none : (rounds : ℕ) (loads : List Load) (old new : Option ReportOf) → TellsAt rounds loads old new → is_none new ≡ false → loads ≡ []
  report-none rounds loads old None h e = absurd (cc e)
  report-none rounds loads old (Some t) h e = h.0

  report-some : (rounds : ℕ) (loads : List Load) (old new : Option ReportOf) → TellsAt rounds loads old new → is_none new ≡ true → loads ≢ []
  report-some rounds loads old None h e = h.0
  report-some rounds loads old (Some t) h e = absurd (cc e)

  gone-closed : (n rounds : ℕ) (m : MemoryOf) (xs ys : List (PartOf P E)) → GoOn rounds m xs ys → some_unreported ys ≡ false → any_open (trees (items_from n (requests program text_of (plans_in xs))) (read m.modes (look m.pairs))) ≡ false
  gone-closed n rounds m [] [] h e = refl
  gone-closed n rounds m (x ∷ xs) (y ∷ ys) h e =
      let parts = or-left (is_none y.report) (some_unreported ys) e in
      let own : is_open (tree (program x.plan) (read m.modes (look m.pairs))) ≡ false = (front-open m.modes (program x.plan) (look m.pairs)).0 (report-none rounds (front m.modes (program x.plan) (look m.pairs)) x.report y.report h.0.report parts.0) in
      rw (own, gone-closed (suc n) rounds m xs ys h.1 parts.1) refl
  gone-closed n rounds m xs ys h e = absurd h

  pub gone-lacks-none : (rounds : ℕ) (m : MemoryOf) (xs ys : List (PartOf P E)) → GoOn rounds m xs ys → some_unreported ys ≡ false → front m.modes (together (requests program text_of (plans_in xs))) (look m.pairs) ≡ []
  gone-lacks-none rounds m xs ys h e = (front-open m.modes (together (requests program text_of (plans_in xs))) (look m.pairs)).1 (gone-closed 0 rounds m xs ys h e)

  -- something is missing for one that has no answer
  pub front-below : (n rounds : ℕ) (m : MemoryOf) (xs ys : List (PartOf P E)) → GoOn rounds m xs ys → some_unreported ys ≡ true
      → (p : Program) × IsBelow p (items_from n (requests program text_of (plans_in xs))) × (front m.modes p (look m.pairs) ≢ [])
  front-below n rounds m [] [] h e = absurd (cc e)
  front-below n rounds m (x ∷ xs) (y ∷ ys) h e = go (is_none y.report) refl e (front-below (suc n) rounds m xs ys h.1)
    where
      go : (b : Bool) → is_none y.report ≡ b → (b || some_unreported ys) ≡ true → (some_unreported ys ≡ true → (p : Program) × IsBelow p (items_from (suc n) (requests program text_of (plans_in xs))) × (front m.modes p (look m.pairs) ≢ []))
          → (p : Program) × IsBelow p (items_from n (requests program text_of (plans_in (x ∷ xs)))) × (front m.modes p (look m.pairs) ≢ [])
      go true is e later = (program x.plan, inl refl, report-some rounds (front m.modes (program x.plan) (look m.pairs)) x.report y.report h.0.report is)
      go false is e later = let rest = later e in (rest.0, inr rest.1, rest.2)
  front-below n rounds m xs ys h e = absurd h

  pub gone-lacks : (rounds : ℕ) (m : MemoryOf) (xs ys : List (PartOf P E)) → GoOn rounds m xs ys → some_unreported ys ≡ true → front m.modes (together (requests program text_of (plans_in xs))) (look m.pairs) ≢ []
  gone-lacks rounds m xs ys h e =
      let one = front-below 0 rounds m xs ys h e in
      λ none. one.2 (below-front m.modes ListOf (items_from 0 (requests program text_of (plans_in xs))) one.0 (look m.pairs) one.1 none)

-- a request that was done stays done
done-later : (loaders : ℕ) (r : RequestOf) (m later : MemoryOf) (report : ReportOf) → IsDone loaders r m report → GrowsTo m later → IsDone loaders r later report
done-later loaders r m later report done grown =
    let more = reads-more m.modes (look m.pairs) (look later.pairs) grown.pairs in
    let closed = (front-open m.modes r.program (look m.pairs)).0 done.complete in
    record {
      complete = rw grown.modes (front-stays m.modes r.program (look m.pairs) (look later.pairs) grown.pairs done.complete);
      answered = record {
        answered = done.answered.answered;
        executed = rw grown.modes (exec-stays r.program (read m.modes (look m.pairs)) (read m.modes (look later.pairs)) more closed ∙ done.answered.executed);
        report = done.answered.report;
      };
      within = done.within;
      loads = done.loads ∙ rw (grown.modes, needs-stay r.program (read m.modes (look m.pairs)) (read m.modes (look later.pairs)) more closed) refl;
    }

pub report-is : (o : Option Answer) (b : Bool) → b ≡ is_some o → b ≡ true → is_some (option_map report_of o) ≡ true
report-is None b e t = sym e ∙ t
report-is (Some a) b e t = refl

pub unreported-is : (o : Option Answer) (b : Bool) → b ≡ is_some o → b ≡ false → option_map report_of o ≡ None
unreported-is None b e f = refl
unreported-is (Some a) b e f = absurd (cc (sym e ∙ f))

module _ {P E : Type 0} (program : P → Program) (text_of : P → AnsweredOf → List ℕ) (loaders : P → ℕ) (fits : P → E → MemoryOf → Type 0) (rounds : ℕ) (m : MemoryOf) (plan : P) where
  -- an answer stays, with a progress that fits any memory
  pub part-kept : (before progress : E) (report : Option ReportOf) → is_some report ≡ true → ((later : MemoryOf) → fits plan progress later) → FitsPart program text_of loaders fits plan before report m
      → GoesOn program text_of loaders fits rounds m (record { plan = plan; progress = before; report = report }) (record { plan = plan; progress = progress; report = report })
  part-kept before progress None there begun fit = absurd (cc there)
  part-kept before progress (Some report) there begun fit = record {
    same = refl;
    report = (fit.0.complete, inl refl);
    fitting = λ later grown. (done-later (loaders plan) (request_of (program plan) (text_of plan)) m later report fit.0 grown, begun later);
    within = fit.0.within;
  }

  pub part-front : (progress : E) (report : Option ReportOf) → is_some report ≡ true → FitsPart program text_of loaders fits plan progress report m → front m.modes (program plan) (look m.pairs) ≡ []
  part-front progress None there fit = absurd (cc there)
  part-front progress (Some report) there fit = fit.0.complete

  -- nothing is missing for it any more
  pub part-ready : (before progress : E) (old : Option ReportOf) (report : ReportOf) → old ≡ None → report.rounds ≡ rounds → front m.modes (program plan) (look m.pairs) ≡ [] → IsTextOf (text_of plan) (program plan) (read m.modes (look m.pairs)) report.text → report.loads ≡ counted (count_read (program plan) (read m.modes (look m.pairs))) → ((later : MemoryOf) → GrowsTo m later → fits plan progress later) → HasLoaders (loaders plan) (program plan)
      → GoesOn program text_of loaders fits rounds m (record { plan = plan; progress = before; report = old }) (record { plan = plan; progress = progress; report = Some report })
  part-ready before progress old report none count complete answered loads fitting within = record {
    same = refl;
    report = (complete, inr (none, count));
    fitting = λ later grown. (done-later (loaders plan) (request_of (program plan) (text_of plan)) m later report (record { complete = complete; answered = answered; within = within; loads = loads }) grown, fitting later grown);
    within = within;
  }

  -- something is missing for it
  pub part-waits : (before progress : E) (old : Option ReportOf) → old ≡ None → front m.modes (program plan) (look m.pairs) ≢ [] → ((later : MemoryOf) → GrowsTo m later → fits plan progress later) → HasLoaders (loaders plan) (program plan)
      → GoesOn program text_of loaders fits rounds m (record { plan = plan; progress = before; report = old }) (record { plan = plan; progress = progress; report = old })
  part-waits before progress old none lacks fitting within = rw none (record { same = refl; report = (lacks, refl); fitting = fitting; within = within })

  pub part-fits : (progress : E) (report : Option ReportOf) → FitsPart program text_of loaders fits plan progress report m → fits plan progress m
  part-fits progress None fit = fit
  part-fits progress (Some report) fit = fit.1

-- one more has begun, of which nothing is done
module _ {P E : Type 0} (program : P → Program) (text_of : P → AnsweredOf → List ℕ) (loaders : P → ℕ) (fits : P → E → MemoryOf → Type 0) where
  pub begun-fits : (m : MemoryOf) (plan : P) (x : PartOf P E) → x.plan ≡ plan → x.report ≡ None → fits plan x.progress m → FitsPart program text_of loaders fits x.plan x.progress x.report m
  begun-fits m plan x same none fit = rw (none, same) fit

  pub fit-more : (m : MemoryOf) (xs : List (PartOf P E)) (x : PartOf P E) → FitParts program text_of loaders fits xs m → FitsPart program text_of loaders fits x.plan x.progress x.report m → FitParts program text_of loaders fits (xs ++ x ∷ []) m
  fit-more m [] x fit own = (own, tt)
  fit-more m (y ∷ xs) x fit own = (fit.0, fit-more m xs x fit.1 own)

pub unreported-begun : {P E : Type 0} (xs : List (PartOf P E)) (x : PartOf P E) → x.report ≡ None → reports_in (xs ++ x ∷ []) ≡ reports_in xs
unreported-begun [] x none = rw none refl
unreported-begun (y ∷ xs) x none = ap (λ ts. given_to y.report ++ ts) (unreported-begun xs x none)

-- the test whether one of the first `next` has no answer, by that of the first `n` and of the next one
pub unreported-more : {X : Type 0} (f : X → Bool) (n next : ℕ) (xs : List X) (y : X) (b : Bool) → next ≡ suc n → n < length xs → b ≡ list_any f (take n xs) → (b || f y) ≡ list_any f (take next (slice_set xs n y))
unreported-more f n next [] y b is lt e = absurd (omega (arith, lt))
unreported-more f zero next (x ∷ xs) y b is lt e = rw (is, e) (or-none (f y))
  where
    or-none : (c : Bool) → c ≡ (c || false)
    or-none true = refl
    or-none false = refl
unreported-more f (suc n) next (x ∷ xs) y b is lt e = rw (is, e) (or-assoc (f x) (list_any f (take n xs)) (f y) ∙ ap (λ c. f x || c) (unreported-more f n (suc n) xs y (list_any f (take n xs)) refl (omega (arith, lt)) refl))
  where
    or-assoc : (a c d : Bool) → ((a || c) || d) ≡ (a || (c || d))
    or-assoc true c d = refl
    or-assoc false c d = refl
