-- Plans are answered together over a session of their world that is new: rounds can be made until nothing is missing for any of them, or
-- until they are too much work. So is a plan alone.
use Rattle.std.proofs.Common.{◌≡◌, ◌⊎◌, ◌≤◌, ◌∙◌, ℕ, zero, suc, List, [], ◌∷◌, All, map, length, inl, inr, sym, ap, subst, refl, arith}
use Rattle.std.proofs.lemmas.List.Elements.{All-nil, All-cons, All-head, All-tail}
use Rattle.load_memory.specs.Replies.{ReplyOf}
use Rattle.csv_source.specs.Tables.{SourceOf}
use Rattle.execution.specs.Loads.{Load, Memory, read}
use Rattle.execution.specs.Program.{ListOf, Program, Under, needs, all_needs}
use Rattle.execution.specs.Completion.{AnsweredOf}
use Rattle.execution.specs.Front.{front}
use Rattle.execution.specs.Reads.{count_read, counted}
use Rattle.execution.specs.Rounds.{RuleOf, modes_of, may_at, HasLoaders, IsBelow, one_unless_empty, own_rounds, after_round, without_failed}
use Rattle.execution.proofs.FewestLaws.{all-rounds}
use Rattle.execution.proofs.OnceLaws.{asked-once, answered-in}
use Rattle.execution.proofs.Same.{one-either}
use Rattle.execution.proofs.SharedLaws.{below-front, own-chain, own-sparing}
use Rattle.gq_check.specs.Planned.{IsPlan}
use Rattle.gq_check.specs.Plans.{PlanOf}
use Rattle.plan_program.specs.PlanPrograms.{plan_program}
use Rattle.execution.specs.Executes.{IsTextOf}
use Rattle.load_rounds.specs.Limits.{work_in, IsWithin, IsOver as IsMore, AreAskedInTime}
use Rattle.load_rounds.specs.Sessions.{StateOf, state_of, rules_of, session_modes}
use Rattle.load_rounds.specs.SharedRounds.{RequestOf, ReportOf, request_of, requests, items_from, together, greatest, AreShared, SharedHeadline}
use Rattle.load_rounds.specs.declared.limits.Excess.TheVariants.{Work}
use Rattle.load_rounds.specs.declared.limits.Overrun.{Overrun}
use Rattle.load_rounds.proofs.Requests.{headline-one}
use Rattle.load_rounds.proofs.Stepping.{made-recorded}
use Rattle.server.specs.Overruns.{AreGiven, answered, overrun, overrun_report, overrun_text}
use Rattle.server.proofs.Values.{given-many}
use Rattle.gq_resolve.specs.Within.{text_within}
use Rattle.world.specs.Worlds.{WorldOf, HasSources}
use Rattle.world_answers.specs.Answers.{may_tell, IsGivenAlone, answered_alone, overrun_alone, IsAnsweredAnew}
use Rattle.world_answers.specs.Arrays.{AnswersTogether}
use Rattle.world_answers.specs.Services.{ServiceOf, limits_in}
use Rattle.world_answers.specs.Sessions.{session_over}
use Rattle.world_answers.proofs.Restarting.{over-new}
use Rattle.world_answers.proofs.Answered.{limited, over-loaders, Done, rounds-end, text_over, text-reported, plan-within}
use Rattle.world_answers.proofs.Together.{answer-direct}

one-most : (loads : List Load) → one_unless_empty loads ≤ 1
one-most [] = omega arith
one-most (l ∷ ls) = omega arith

own-most : (rules : List RuleOf) (p : Program) (M : Memory) (log : List (List ReplyOf)) → own_rounds rules p M log ≤ length log
own-most rules p M [] = omega arith
own-most rules p M (r ∷ log) = omega (arith, one-most (front (modes_of rules) p M), own-most rules p (after_round rules M r) log)

module _ (s : ServiceOf) (has : HasSources s.world) where
  abbrev w : WorldOf
  w = s.world

  abbrev text_of : AnsweredOf → List ℕ
  text_of = text_within s.most

  abbrev asked_of : List PlanOf → List RequestOf
  asked_of plans = requests plan_program (λ plan. text_of) plans

  abbrev old : StateOf SourceOf
  old = state_of (session_over w)

  abbrev first : Memory
  first = without_failed old.memory

  within-all : (n : ℕ) (plans : List PlanOf) → All (λ (p : PlanOf). p.bindings ≡ w.bindings) plans → HasLoaders (length w.bindings.loaders) (Under ListOf (items_from n (asked_of plans)))
  within-all n [] bound R load one = absurd one
  within-all n (p ∷ ps) bound R load one = elim (one-either load (needs (plan_program p) R) (all_needs (items_from (suc n) (asked_of ps)) R) one) [
    | inl own ↦ plan-within w p (All-head (λ (q : PlanOf). q.bindings ≡ w.bindings) p ps bound) R load own
    | inr other ↦ within-all (suc n) ps (All-tail (λ (q : PlanOf). q.bindings ≡ w.bindings) p ps bound) R load other
  ]

  module _ (all : List PlanOf) (bound : All (λ (p : PlanOf). p.bindings ≡ w.bindings) all) where
    abbrev whole : Program
    whole = together (asked_of all)

    within : HasLoaders (length (rules_of old)) whole
    within = over-loaders w has whole (within-all 0 all bound)

    abbrev end : Done w has s.work (asked_of all) within
    end = rounds-end w has s.work (asked_of all) within

    abbrev log : List (List ReplyOf)
    log = end.is.log

    abbrev report_to : PlanOf → ReportOf
    report_to plan = record { text = text_over text_of (plan_program plan) end.last; rounds = own_rounds (rules_of old) (plan_program plan) first log; loads = counted (count_read (plan_program plan) (read (session_modes old) end.last.memory)) }

    abbrev all_reports : List PlanOf → List ReportOf
    all_reports plans = map report_to plans

    same : session_modes end.last ≡ session_modes old
    same = ap modes_of end.is.rules

    -- the answer with the most rounds has all of them
    greatest-most : (plans : List PlanOf) → greatest (all_reports plans) ≤ length log
    greatest-most [] = omega arith
    greatest-most (p ∷ ps) = omega (arith, own-most (rules_of old) (plan_program p) first log, greatest-most ps)

    greatest-has : (n : ℕ) (p : Program) (plans : List PlanOf) → IsBelow p (items_from n (asked_of plans)) → own_rounds (rules_of old) p first log ≤ greatest (all_reports plans)
    greatest-has n p [] below = absurd below
    greatest-has n p (q ∷ qs) (inl e) = let own = ap (λ r. own_rounds (rules_of old) r first log) e in omega (arith, own)
    greatest-has n p (q ∷ qs) (inr rest) = omega (arith, greatest-has (suc n) p qs rest)

    longest : (count : ℕ) → length log ≡ count → length log ≡ greatest (all_reports all)
    longest zero e = omega (arith, e, greatest-most all)
    longest (suc count) e =
        let one = all-rounds (may_at may_tell old.loaders) (rules_of old) ListOf (items_from 0 (asked_of all)) first log end.last.memory end.is.made.rounds (omega (arith, e)) in
        omega (arith, greatest-most all, one.2, greatest-has 0 one.0 all one.1)

    -- ---- nothing is missing any more

    module _ (none : front (session_modes end.last) whole end.last.memory ≡ []) where
      -- each has its answer, in its own rounds
      each-shared : (n : ℕ) (plans : List PlanOf) → ((p : Program) → IsBelow p (items_from n (asked_of plans)) → IsBelow p (items_from 0 (asked_of all))) → AreShared old end.last log (asked_of plans) (all_reports plans)
      each-shared n [] among = tt
      each-shared n (p ∷ ps) among =
          let here : IsBelow (plan_program p) (items_from 0 (asked_of all)) = among (plan_program p) (inl refl) in
          let own : front (session_modes end.last) (plan_program p) end.last.memory ≡ [] = below-front (session_modes end.last) ListOf (items_from 0 (asked_of all)) (plan_program p) end.last.memory here none in (
            record {
              answered = subst (λ ms. IsTextOf text_of (plan_program p) (read ms end.last.memory) (text_over text_of (plan_program p) end.last)) same (text-reported text_of (plan_program p) end.last own);
              counted = refl;
              chained = own-chain (may_at may_tell old.loaders) (rules_of old) ListOf (items_from 0 (asked_of all)) (plan_program p) (limited w has) within here first log end.last.memory end.is.made.rounds;
              fewest = λ Ns run. own-sparing (may_at may_tell old.loaders) (rules_of old) ListOf (items_from 0 (asked_of all)) (plan_program p) (limited w has) within here first log end.last.memory Ns end.is.made.rounds run;
              loads = refl;
            },
            each-shared (suc n) ps (λ q b. among q (inr b)),
          )

      given-answers : IsWithin s.work (work_in end.last (asked_of all)) → AreGiven may_tell (limits_in s) old end.last (asked_of all) (all_reports all)
      given-answers few = answered (record {
        log = log;
        made = end.is.made;
        recorded = made-recorded may_tell old end.last whole log end.is.made;
        complete = ap (λ ms. front ms whole end.last.memory) (sym same) ∙ none;
        answers = each-shared 0 all (λ p b. b);
        pairs = λ pair there. answered-in (may_at may_tell old.loaders) (rules_of old) whole first log end.last.memory pair.loader pair.key pair.outcome end.is.made.rounds there;
        once = asked-once (may_at may_tell old.loaders) (rules_of old) whole (limited w has) first log end.last.memory end.is.made.rounds;
        longest = longest (length log) refl;
      }) (record { work = few; rounds = tt })

    -- ---- they are too much work

    abbrev refusal : Overrun
    refusal = record { excess = Work; rounds = end.rounds }

    given-refusals : IsMore s.work (work_in end.last (asked_of all)) → AreGiven may_tell (limits_in s) old end.last (asked_of all) (map (λ (r : RequestOf). overrun_report refusal) (asked_of all))
    given-refusals more = overrun {o = refusal} (record {
      log = log;
      made = end.is.made;
      recorded = made-recorded may_tell old end.last whole log end.is.made;
      counted = sym end.is.counted;
      over = more;
      in_time = subst (λ (n : ℕ). AreAskedInTime may_tell old end.last (limits_in s) (asked_of all) n) (sym end.is.counted) end.in_time;
    }) refl

    given-together : (reports : List ReportOf) → AreGiven may_tell (limits_in s) old end.last (asked_of all) reports → AnswersTogether s all end.last reports
    given-together reports given = record { begun = session_over w; over = over-new w has.each; given = given }

    of-end : (IsWithin s.work (work_in end.last (asked_of all)) × (front (session_modes end.last) whole end.last.memory ≡ [])) ⊎ IsMore s.work (work_in end.last (asked_of all)) → (reports : List ReportOf) × AnswersTogether s all end.last reports
    of-end (inl done) = (all_reports all, given-together (all_reports all) (given-answers done.1 done.0))
    of-end (inr more) = (map (λ (r : RequestOf). overrun_report refusal) (asked_of all), given-together (map (λ (r : RequestOf). overrun_report refusal) (asked_of all)) (given-refusals more))

    pub plans-answered : (after : StateOf SourceOf) × (reports : List ReportOf) × AnswersTogether s all after reports
    plans-answered = let told = of-end end.ended in (end.last, told.0, told.1)

-- ---- a plan alone

-- one report of one plan
only-report : (reports : List ReportOf) → 1 ≡ length reports → (t : ReportOf) × (reports ≡ t ∷ [])
only-report (t ∷ []) e = (t, refl)
only-report reports e = absurd (omega (arith, e))

module _ (s : ServiceOf) (plan : PlanOf) where
  abbrev asked : RequestOf
  asked = request_of (plan_program plan) (text_within s.most)

  -- what it is given as one of an array of one
  given-alone : (begun after : StateOf SourceOf) (reports : List ReportOf) → AreGiven may_tell (limits_in s) begun after (asked ∷ []) reports → (text : List ℕ) × (rounds : ℕ) × IsGivenAlone s plan begun after text rounds
  given-alone begun after reports (answered h within) =
      let only = only-report reports (given-many may_tell (limits_in s) begun after s.most (plan ∷ []) reports (answered h within)) in
      let t : ReportOf = only.0 in
      let one : SharedHeadline may_tell begun after (asked ∷ []) (t ∷ []) = subst (λ (ts : List ReportOf). SharedHeadline may_tell begun after (asked ∷ []) ts) only.1 h in
      (t.text, t.rounds, answered_alone (headline-one may_tell begun after asked t one) (record { work = within.work; rounds = tt }))
  given-alone begun after reports (overrun {o = o} h _) = (overrun_text o.excess, o.rounds, overrun_alone {o = o} h refl refl)

  pub plan-answered : (has : HasSources s.world) → plan.bindings ≡ s.world.bindings → IsPlan plan → (text : List ℕ) × IsAnsweredAnew s plan text
  plan-answered has bound valid =
      let of-world : PlanOf → Type 0 = λ p. p.bindings ≡ s.world.bindings in
      let shared = plans-answered s has (plan ∷ []) (All-cons of-world plan [] bound (All-nil of-world)) in
      let given = given-alone (state_of shared.2.begun) shared.0 shared.1 shared.2.given in
      (given.0, answer-direct s shared.0 plan given.0 given.1 (record { valid = valid; begun = shared.2.begun; over = shared.2.over; given = given.2 }))
