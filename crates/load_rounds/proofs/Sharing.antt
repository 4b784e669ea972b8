-- Lemmas on what shared rounds are to each of the requests: its own rounds, and its answer over the
-- last memory.
use Rattle.std.proofs.Common.{◌≡◌, ◌≢◌, ℕ, zero, suc, ◌+◌, ◌≤◌, Bool, true, false, ◌⊎◌, List, [], ◌∷◌, ◌++◌, length, Option, Some, None, is_none, refl, ap, subst, ◌∙◌, sym, arith, inl, inr, length-append}
use Rattle.std.proofs.Math.Path.{fun_ext}
use Rattle.std.proofs.lemmas.List.{length-map}
use Rattle.load_memory.specs.Keys.{KeyOf}
use Rattle.load_memory.specs.Pairs.{MemoryOf, look}
use Rattle.load_memory.specs.Replies.{ReplyOf}
use Rattle.load_queue.specs.Answers.{AnswerOf}
use Rattle.execution.specs.Loads.{Load, Memory}
use Rattle.execution.specs.Program.{ListOf, Program, Programs}
use Rattle.execution.specs.Completion.{AnsweredOf}
use Rattle.execution.specs.Front.{front}
use Rattle.execution.specs.Rounds.{RuleOf, rule_of, modes_of, may_at, AreRounds, AreLimited, HasLoaders, IsBelow, after_round, one_unless_empty, own_rounds, without_failed}
use Rattle.execution.proofs.FewestLaws.{all-rounds}
use Rattle.execution.proofs.OnceLaws.{asked-once, answered-in}
use Rattle.execution.proofs.SharedLaws.{own-chain, own-sparing}
use Rattle.load_rounds.specs.Sessions.{SessionOf, StateOf, state_of, rules_of, session_modes, memory_of}
use Rattle.load_rounds.specs.Headline.{MakesRounds}
use Rattle.load_rounds.specs.SharedRounds.{ReportOf, requests, items_from, together, greatest, AreShared, SharedHeadline}
use Rattle.load_rounds.specs.Executions.{PartOf, TellsAt, CountsRounds, CountRounds, plans_in, program_in, reports_in, given_to, FitsPart, FitParts}
use Rattle.load_rounds.proofs.Stepping.{made-recorded}
use Rattle.load_rounds.proofs.GoingOn.{some_unreported, GoOn, or-left, gone-lacks}

-- a round more is one of a program's own if something was missing for it
own-one : (others : ℕ → List KeyOf → AnswerOf → Type 0) (rules : List RuleOf) (q p : Program) (M mid : Memory) (log : List (List ReplyOf)) (r : List ReplyOf) → AreRounds others rules q M log mid
    → own_rounds rules p M (log ++ r ∷ []) ≡ own_rounds rules p M log + one_unless_empty (front (modes_of rules) p mid)
own-one others rules q p M mid [] r k =
    let same : M ≡ mid = fun_ext (λ l. fun_ext (λ key. sym (k l key))) in
    omega (arith, ap (λ (N : Memory). one_unless_empty (front (modes_of rules) p N)) same)
own-one others rules q p M mid (first ∷ log) r k = omega (arith, own-one others rules q p (after_round rules M first) mid log r k.2)

one-some : (loads : List Load) → loads ≢ [] → one_unless_empty loads ≡ 1
one-some [] h = absurd (h refl)
one-some (l ∷ ls) h = refl

one-most : (loads : List Load) → one_unless_empty loads ≤ 1
one-most [] = omega arith
one-most (l ∷ ls) = omega arith

own-most : (rules : List RuleOf) (p : Program) (M : Memory) (log : List (List ReplyOf)) → own_rounds rules p M log ≤ length log
own-most rules p M [] = omega arith
own-most rules p M (r ∷ log) = omega (arith, one-most (front (modes_of rules) p M), own-most rules p (after_round rules M r) log)

-- one that went on has counted the rounds so far
tells-counted : (rules : List RuleOf) (M : Memory) (log : List (List ReplyOf)) (p : Program) (rounds : ℕ) (loads : List Load) (old new : Option ReportOf) → rounds ≡ length log → TellsAt rounds loads old new → CountsRounds rules M log p old → CountsRounds rules M log p new
tells-counted rules M log p rounds loads old None is tells counts = subst (λ o. CountsRounds rules M log p o) tells.1 counts
tells-counted rules M log p rounds loads old (Some report) is tells counts = go tells.1
  where
    go : (old ≡ Some report) ⊎ ((old ≡ None) × (report.rounds ≡ rounds)) → CountsRounds rules M log p (Some report)
    go (inl e) = subst (λ o. CountsRounds rules M log p o) e counts
    go (inr e) = let own : CountsRounds rules M log p None = subst (λ o. CountsRounds rules M log p o) e.0 counts in own ∙ sym (e.1 ∙ is)

-- and then the next round
round-counted : (others : ℕ → List KeyOf → AnswerOf → Type 0) (rules : List RuleOf) (q p : Program) (M mid : Memory) (log : List (List ReplyOf)) (r : List ReplyOf) (rounds : ℕ) (old report : Option ReportOf) → AreRounds others rules q M log mid
    → TellsAt rounds (front (modes_of rules) p mid) old report → CountsRounds rules M log p report → CountsRounds rules M (log ++ r ∷ []) p report
round-counted others rules q p M mid log r rounds old None k tells counts =
    omega (arith, own-one others rules q p M mid log r k, one-some (front (modes_of rules) p mid) tells.0, counts, length-append log (r ∷ []))
round-counted others rules q p M mid log r rounds old (Some t) k tells counts =
    omega (arith, own-one others rules q p M mid log r k, ap one_unless_empty tells.0, counts)

given-none : (t : Option ReportOf) (rest : List ReportOf) → given_to t ++ rest ≡ [] → (t ≡ None) × (rest ≡ [])
given-none None rest e = (refl, e)
given-none (Some t) rest e = absurd (cc e)

module _ {P E : Type 0} (program : P → Program) where
  pub begun-counted : (rules : List RuleOf) (M : Memory) (parts : List (PartOf P E)) → reports_in parts ≡ [] → CountRounds program rules M [] parts
  begun-counted rules M [] none = tt
  begun-counted rules M (x ∷ xs) none =
      let own = given-none x.report (reports_in xs) none in
      (subst (λ o. CountsRounds rules M [] (program x.plan) o) (sym own.0) refl, begun-counted rules M xs own.1)

  module _ (text_of : P → AnsweredOf → List ℕ) (loaders : P → ℕ) (fits : P → E → MemoryOf → Type 0) where
    pub all-counted : (rules : List RuleOf) (M : Memory) (log : List (List ReplyOf)) (rounds : ℕ) (m : MemoryOf) (xs ys : List (PartOf P E)) → rounds ≡ length log → GoOn program text_of loaders fits rounds m xs ys → CountRounds program rules M log xs → CountRounds program rules M log ys
    all-counted rules M log rounds m [] [] is h counts = tt
    all-counted rules M log rounds m (x ∷ xs) (y ∷ ys) is h counts =
        let own = tells-counted rules M log (program x.plan) rounds (front m.modes (program x.plan) (look m.pairs)) x.report y.report is h.0.report counts.0 in
        (subst (λ plan. CountsRounds rules M log (program plan) y.report) (sym h.0.same) own, all-counted rules M log rounds m xs ys is h.1 counts.1)
    all-counted rules M log rounds m xs ys is h counts = absurd h

    pub all-round-counted : (others : ℕ → List KeyOf → AnswerOf → Type 0) (rules : List RuleOf) (q : Program) (M mid : Memory) (log : List (List ReplyOf)) (r : List ReplyOf) (rounds : ℕ) (m : MemoryOf) (xs ys : List (PartOf P E))
        → AreRounds others rules q M log mid → m.modes ≡ modes_of rules → look m.pairs ≡ mid → GoOn program text_of loaders fits rounds m xs ys → CountRounds program rules M log ys → CountRounds program rules M (log ++ r ∷ []) ys
    all-round-counted others rules q M mid log r rounds m [] [] k modes same h counts = tt
    all-round-counted others rules q M mid log r rounds m (x ∷ xs) (y ∷ ys) k modes same h counts =
        let loads : front m.modes (program x.plan) (look m.pairs) ≡ front (modes_of rules) (program y.plan) mid =
        ap (λ ms. front ms (program x.plan) (look m.pairs)) modes ∙ ap (λ (N : Memory). front (modes_of rules) (program x.plan) N) same ∙ ap (λ plan. front (modes_of rules) (program plan) mid) (sym h.0.same) in
        let tells : TellsAt rounds (front (modes_of rules) (program y.plan) mid) x.report y.report = subst (λ ls. TellsAt rounds ls x.report y.report) loads h.0.report in
        (round-counted others rules q (program y.plan) M mid log r rounds x.report y.report k tells counts.0, all-round-counted others rules q M mid log r rounds m xs ys k modes same h.1 counts.1)
    all-round-counted others rules q M mid log r rounds m xs ys k modes same h counts = absurd h

    -- the answer with the most rounds
    greatest-most : (rules : List RuleOf) (M : Memory) (log : List (List ReplyOf)) (ys : List (PartOf P E)) → CountRounds program rules M log ys → greatest (reports_in ys) ≤ length log
    greatest-most rules M log [] counts = omega arith
    greatest-most rules M log (y ∷ ys) counts = go y.report counts.0 (greatest-most rules M log ys counts.1)
      where
        go : (t : Option ReportOf) → CountsRounds rules M log (program y.plan) t → greatest (reports_in ys) ≤ length log → greatest (given_to t ++ reports_in ys) ≤ length log
        go None own rest = rest
        go (Some t) own rest = omega (arith, own, own-most rules (program y.plan) M log, rest)

    greatest-has : (rules : List RuleOf) (M : Memory) (log : List (List ReplyOf)) (n : ℕ) (p : Program) (ys : List (PartOf P E)) → some_unreported ys ≡ false → CountRounds program rules M log ys → IsBelow p (items_from n (requests program text_of (plans_in ys)))
        → own_rounds rules p M log ≤ greatest (reports_in ys)
    greatest-has rules M log n p [] all counts below = absurd below
    greatest-has rules M log n p (y ∷ ys) all counts below =
        go y.report (or-left (is_none y.report) (some_unreported ys) all).0 counts.0 below (greatest-has rules M log (suc n) p ys (or-left (is_none y.report) (some_unreported ys) all).1 counts.1)
      where
        go : (t : Option ReportOf) → is_none t ≡ false → CountsRounds rules M log (program y.plan) t → (p ≡ program y.plan) ⊎ IsBelow p (items_from (suc n) (requests program text_of (plans_in ys)))
            → (IsBelow p (items_from (suc n) (requests program text_of (plans_in ys))) → own_rounds rules p M log ≤ greatest (reports_in ys)) → own_rounds rules p M log ≤ greatest (given_to t ++ reports_in ys)
        go None known own b later = absurd (cc known)
        go (Some t) known own (inl e) later = omega (arith, ap (λ q. own_rounds rules q M log) e, own)
        go (Some t) known own (inr rest) later = omega (arith, later rest)

    -- each has its answer where nothing is missing for any of them
    pub all-report : (rounds : ℕ) (m : MemoryOf) (xs ys : List (PartOf P E)) → GoOn program text_of loaders fits rounds m xs ys → front m.modes (together (requests program text_of (plans_in xs))) (look m.pairs) ≡ [] → some_unreported ys ≡ false
    all-report rounds m xs ys h none = go (some_unreported ys) refl
      where
        go : (b : Bool) → some_unreported ys ≡ b → some_unreported ys ≡ false
        go true e = absurd (gone-lacks program text_of loaders fits rounds m xs ys h e none)
        go false e = e

    module _ {S : Type 0} (may : S → List KeyOf → AnswerOf → Type 0) (old : StateOf S) (s : SessionOf S) (ys : List (PartOf P E)) (log : List (List ReplyOf)) (made : MakesRounds may old (state_of s) (program_in program text_of ys) log)
        (counts : CountRounds program (rules_of old) (without_failed old.memory) log ys) (kept : rules_of (state_of s) ≡ rules_of old) (limited : AreLimited (rules_of old)) (within : HasLoaders (length old.loaders) (program_in program text_of ys)) where
      abbrev all : Programs
      all = items_from 0 (requests program text_of (plans_in ys))

      within-rules : HasLoaders (length (rules_of old)) (program_in program text_of ys)
      within-rules R l one = let below = within R l one in omega (arith, below, length-map old.loaders rule_of)

      shared-one : (r : P) (progress : E) (report : ReportOf) → IsBelow (program r) all → CountsRounds (rules_of old) (without_failed old.memory) log (program r) (Some report) → FitsPart program text_of loaders fits r progress (Some report) (memory_of s)
          → AreShared old (state_of s) log (requests program text_of (r ∷ [])) (report ∷ [])
      shared-one r progress report among counted done =
          let rules : List RuleOf = rules_of old in
          let M0 : Memory = without_failed old.memory in
          let same : session_modes (state_of s) ≡ session_modes old = ap modes_of kept in
          let own = own-chain (may_at may old.loaders) rules ListOf all (program r) limited within-rules among M0 log (look s.pairs) made.rounds in (
            record {
              answered = rw same at done.0.answered;
              counted = counted;
              chained = omega (arith, own, counted);
              fewest = λ Ns run. omega (arith, counted, own-sparing (may_at may old.loaders) rules ListOf all (program r) limited within-rules among M0 log (look s.pairs) Ns made.rounds run);
              loads = rw same at done.0.loads;
            },
            tt,
          )

      shared-answers : (n : ℕ) (rest : List (PartOf P E)) → ((p : Program) → IsBelow p (items_from n (requests program text_of (plans_in rest))) → IsBelow p all) → some_unreported rest ≡ false
          → CountRounds program (rules_of old) (without_failed old.memory) log rest → FitParts program text_of loaders fits rest (memory_of s) → AreShared old (state_of s) log (requests program text_of (plans_in rest)) (reports_in rest)
      shared-answers n [] among done counted fit = tt
      shared-answers n (y ∷ rest) among done counted fit =
          go y.report (or-left (is_none y.report) (some_unreported rest) done).0 counted.0 fit.0 (shared-answers (suc n) rest (λ p b. among p (inr b)) (or-left (is_none y.report) (some_unreported rest) done).1 counted.1 fit.1)
        where
          go : (t : Option ReportOf) → is_none t ≡ false → CountsRounds (rules_of old) (without_failed old.memory) log (program y.plan) t → FitsPart program text_of loaders fits y.plan y.progress t (memory_of s) → AreShared old (state_of s) log (requests program text_of (plans_in rest)) (reports_in rest)
              → AreShared old (state_of s) log (requests program text_of (plans_in (y ∷ rest))) (given_to t ++ reports_in rest)
          go None known own fits later = absurd (cc known)
          go (Some t) known own fits later = ((shared-one y.plan y.progress t (among (program y.plan) (inl refl)) own fits).0, later)

      -- nothing is missing any more
      shared-whole : some_unreported ys ≡ false → FitParts program text_of loaders fits ys (memory_of s) → front (session_modes (state_of s)) (program_in program text_of ys) (look s.pairs) ≡ []
          → SharedHeadline may old (state_of s) (requests program text_of (plans_in ys)) (reports_in ys)
      shared-whole done fit none =
          let rules : List RuleOf = rules_of old in
          let M0 : Memory = without_failed old.memory in
          let same : session_modes (state_of s) ≡ session_modes old = ap modes_of kept in
          record {
            log = log;
            made = made;
            complete = rw same at none;
            recorded = made-recorded may old (state_of s) (program_in program text_of ys) log made;
            answers = shared-answers 0 ys (λ p b. b) done counts fit;
            pairs = λ pair there. answered-in (may_at may old.loaders) rules (program_in program text_of ys) M0 log (look s.pairs) pair.loader pair.key pair.outcome made.rounds there;
            once = asked-once (may_at may old.loaders) rules (program_in program text_of ys) limited M0 log (look s.pairs) made.rounds;
            longest = longest (length log) refl;
          }
        where
          most : greatest (reports_in ys) ≤ length log
          most = greatest-most (rules_of old) (without_failed old.memory) log ys counts

          longest : (n : ℕ) → length log ≡ n → length log ≡ greatest (reports_in ys)
          longest zero e = omega (arith, e, most)
          longest (suc n) e =
              let one = all-rounds (may_at may old.loaders) (rules_of old) ListOf all (without_failed old.memory) log (look s.pairs) made.rounds (omega (arith, e)) in
              omega (arith, most, one.2, greatest-has (rules_of old) (without_failed old.memory) log 0 one.0 ys done counts one.1)

      pub shared-all : some_unreported ys ≡ false → FitParts program text_of loaders fits ys (memory_of s) → front (session_modes (state_of s)) (program_in program text_of ys) (look s.pairs) ≡ []
          → (h : SharedHeadline may old (state_of s) (requests program text_of (plans_in ys)) (reports_in ys)) × (length h.log ≡ length log)
      unfolding shared-whole
      shared-all done fit none = (shared-whole done fit none, refl)
