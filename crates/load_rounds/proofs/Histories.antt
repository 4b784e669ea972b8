-- The steps of calls, one after another.
use Rattle.std.proofs.Common.{◌≡◌, ℕ, Bool, true, false, List, [], ◌∷◌, ◌++◌, map, is_none, inl, inr, ◌⊎◌, sym, ◌∙◌, ap, refl, if◌then◌else◌}
use Rattle.std.specs.Prelude.{nat_lt, not}
use Rattle.std.specs.List.{filter}
use Rattle.load_memory.specs.Keys.{KeyOf}
use Rattle.load_memory.specs.Replies.{ReplyOf}
use Rattle.load_memory.specs.declared.key.KeyMode.{KeyMode}
use Rattle.load_queue.specs.Answers.{AnswerOf}
use Rattle.load_queue.specs.Loaders.{LoaderOf}
use Rattle.execution.specs.Loads.{Load, Memory, read, same}
use Rattle.execution.specs.Program.{Program, needs}
use Rattle.execution.specs.Front.{missing, firsts, front}
use Rattle.execution.specs.Rounds.{RuleOf, modes_of, round_orders, may_at, AreRounds, after_round, without_failed}
use Rattle.execution.specs.Sessions.{Step, Forgot, AskedLoads, Lost, Primed, Cleared, ClearedAll, Restarted, after, AreMissing, IsStep, AreSteps}
use Rattle.execution.proofs.Same.{same-is}
use Rattle.load_rounds.specs.Sessions.{StateOf, rules_of, session_modes, after_step, after_steps, of_first}
use Rattle.load_rounds.specs.Calls.{load_of, asked_for, AsksOnce, RoundLost, IsStopped}
use Rattle.load_rounds.specs.Headline.{asked_steps, MakesRounds, StopsAnswering}
use Rattle.load_rounds.specs.SharedRounds.{together}
use Rattle.load_rounds.specs.Histories.{Call, Loading, StoppedLoading, Priming, Clearing, ClearingAll, Forgetting, Executing, StoppedExecuting, ExecutingTogether, Restarting, AreAsking, IsMadeOf, AreMadeOf, Leads, IsCall, AreCalls}
use Rattle.load_rounds.proofs.Following.{replies-over}
use Rattle.load_rounds.proofs.Stepping.{SameSources, steps-rules, steps-sources, asking-rounds}

-- the memory after steps
abbrev pub memory_after : List RuleOf → Memory → List Step → Memory
memory_after rules M [] = M
memory_after rules M (step ∷ steps) = memory_after rules (after rules M step) steps

pub memory-append : (rules : List RuleOf) (M : Memory) (xs ys : List Step) → memory_after rules M (xs ++ ys) ≡ memory_after rules (memory_after rules M xs) ys
memory-append rules M [] ys = refl
memory-append rules M (x ∷ xs) ys = memory-append rules (after rules M x) xs ys

module _ (may : ℕ → List KeyOf → AnswerOf → Type 0) (rules : List RuleOf) where
  pub are-append : (M : Memory) (xs ys : List Step) → AreSteps may rules M xs → AreSteps may rules (memory_after rules M xs) ys → AreSteps may rules M (xs ++ ys)
  are-append M [] ys h k = k
  are-append M (x ∷ xs) ys h k = (h.0, are-append (after rules M x) xs ys h.1 k)

  pub are-after : (M : Memory) (xs ys : List Step) → AreSteps may rules M (xs ++ ys) → AreSteps may rules (memory_after rules M xs) ys
  are-after M [] ys h = h
  are-after M (x ∷ xs) ys h = are-after (after rules M x) xs ys h.1

  -- the rounds of a log are steps
  rounds-steps : (p : Program) (M : Memory) (log : List (List ReplyOf)) (end : Memory) → AreRounds may rules p M log end → AreSteps may rules M (asked_steps rules p M log)
  rounds-steps p M [] end h = tt
  rounds-steps p M (r ∷ rs) end h = (((needs p (read (modes_of rules) M), refl), h.1), rounds-steps p (after_round rules M r) rs end h.2)

asking-append : (xs ys : List Step) → AreAsking xs → AreAsking ys → AreAsking (xs ++ ys)
asking-append [] ys h k = k
asking-append (AskedLoads loads replies ∷ xs) ys h k = asking-append xs ys h k
asking-append (Lost loads ∷ xs) ys h k = asking-append xs ys h k
asking-append xs ys h k = absurd h

-- loads of the first loaders are missing where all are
module _ {X : Type 0} where
  filter-swap : (f g : X → Bool) (xs : List X) → filter f (filter g xs) ≡ filter g (filter f xs)
  filter-swap f g [] = refl
  filter-swap f g (x ∷ xs) = go (f x) (g x) refl refl (filter-swap f g xs) where
    go : (a b : Bool) → f x ≡ a → g x ≡ b → filter f (filter g xs) ≡ filter g (filter f xs)
        → filter f (if b then x ∷ filter g xs else filter g xs) ≡ filter g (if a then x ∷ filter f xs else filter f xs)
    go true true p q e = rw (p, q) (ap (λ ys. x ∷ ys) e)
    go true false p q e = rw q e
    go false true p q e = rw p e
    go false false p q e = e

  filter-less : (f g : X → Bool) → ((x : X) → f x ≡ true → g x ≡ true) → (xs : List X) → filter f (filter g xs) ≡ filter f xs
  filter-less f g h [] = refl
  filter-less f g h (x ∷ xs) = go (f x) (g x) refl refl (filter-less f g h xs) where
    go : (a b : Bool) → f x ≡ a → g x ≡ b → filter f (filter g xs) ≡ filter f xs → filter f (if b then x ∷ filter g xs else filter g xs) ≡ (if a then x ∷ filter f xs else filter f xs)
    go true true p q e = rw p (ap (λ ys. x ∷ ys) e)
    go true false p q e = absurd (cc (sym (h x p) ∙ q))
    go false true p q e = rw p e
    go false false p q e = e

module _ (modes : List KeyMode) (n : ℕ) where
  low : Load → Bool
  low l = nat_lt l.loader n

  apart-low : (l m : Load) → low l ≡ false → low m ≡ true → not (same modes m l) ≡ true
  unfolding low
  apart-low l m not_l is_m = go (same modes m l) refl where
    go : (b : Bool) → same modes m l ≡ b → not b ≡ true
    go true e = let at = same-is modes m l e in absurd (cc (sym is_m ∙ ap (λ k. nat_lt k n) at.0 ∙ not_l))
    go false e = refl

  firsts-low : (ls : List Load) → firsts modes (filter low ls) ≡ filter low (firsts modes ls)
  firsts-low [] = refl
  firsts-low (l ∷ ls) = go (low l) refl (firsts-low ls) where
    go : (b : Bool) → low l ≡ b → firsts modes (filter low ls) ≡ filter low (firsts modes ls)
        → firsts modes (if b then l ∷ filter low ls else filter low ls) ≡ (if b then l ∷ filter low (filter (λ m. not (same modes m l)) (firsts modes ls)) else filter low (filter (λ m. not (same modes m l)) (firsts modes ls)))
    go true e ih = ap (λ xs. l ∷ filter (λ m. not (same modes m l)) xs) ih ∙ ap (λ xs. l ∷ xs) (filter-swap (λ m. not (same modes m l)) low (firsts modes ls))
    go false e ih = ih ∙ sym (filter-less low (λ m. not (same modes m l)) (λ m is_m. apart-low l m e is_m) (firsts modes ls))

  pub first-missing : (M : Memory) (loads : List Load) → AreMissing modes M loads → AreMissing modes M (of_first n loads)
  unfolding low
  first-missing M loads h = (filter low h.0, ap (filter low) h.1 ∙ sym (firsts-low (missing (read modes M) h.0)) ∙ ap (firsts modes) (filter-swap low (λ l. is_none (read modes M l)) h.0))

module _ {S : Type 0} where
  pub memory-is : (s : StateOf S) (steps : List Step) → (after_steps s steps).memory ≡ memory_after (rules_of s) s.memory steps
  memory-is s [] = refl
  memory-is s (step ∷ steps) =
      memory-is (after_step s step) steps ∙ ap (λ rs. memory_after rs (after_step s step).memory steps) (steps-rules s (step ∷ [])) ∙ ap (λ M. memory_after (rules_of s) M steps) (one s step)
    where
      one : (s : StateOf S) (step : Step) → (after_step s step).memory ≡ after (rules_of s) s.memory step
      one s Forgot = refl
      one s step = refl

  steps-append : (s : StateOf S) (xs ys : List Step) → after_steps s (xs ++ ys) ≡ after_steps (after_steps s xs) ys
  steps-append s [] ys = refl
  steps-append s (x ∷ xs) ys = steps-append (after_step s x) xs ys

  module _ (may : S → List KeyOf → AnswerOf → Type 0) where
    -- says what may be over the loaders as they are may be over them as they were
    over-step : (old cur : List (LoaderOf S)) → SameSources old cur → (rules : List RuleOf) (M : Memory) (step : Step) → IsStep (may_at may cur) rules M step → IsStep (may_at may old) rules M step
    over-step old cur from rules M (AskedLoads loads replies) h = (h.0, replies-over may old cur from (round_orders rules loads) replies h.1)
    over-step old cur from rules M (Lost loads) h = h
    over-step old cur from rules M step h = tt

    over-steps : (old cur : List (LoaderOf S)) → SameSources old cur → (rules : List RuleOf) (M : Memory) (steps : List Step) → AreSteps (may_at may cur) rules M steps → AreSteps (may_at may old) rules M steps
    over-steps old cur from rules M [] h = tt
    over-steps old cur from rules M (step ∷ steps) h = (over-step old cur from rules M step h.0, over-steps old cur from rules (after rules M step) steps h.1)

    pub leads-rules : (old new : StateOf S) (steps : List Step) → Leads may old steps new → rules_of new ≡ rules_of old
    leads-rules old new steps h = ap rules_of h.after ∙ steps-rules old steps

    pub leads-memory : (old new : StateOf S) (steps : List Step) → Leads may old steps new → new.memory ≡ memory_after (rules_of old) old.memory steps
    leads-memory old new steps h = ap (λ (s : StateOf S). s.memory) h.after ∙ memory-is old steps

    -- steps one after another
    pub leads-append : (a b c : StateOf S) (xs ys : List Step) → Leads may a xs b → Leads may b ys c → Leads may a (xs ++ ys) c
    leads-append a b c xs ys h k =
        let rules = leads-rules a b xs h in
        let memory = leads-memory a b xs h in
        let from : SameSources a.loaders b.loaders = rw h.after (steps-sources a xs) in
        let own : AreSteps (may_at may b.loaders) (rules_of a) (memory_after (rules_of a) a.memory xs) ys = rw (rules, memory) at k.may_be in
        record {
          after = k.after ∙ ap (λ s. after_steps s ys) h.after ∙ sym (steps-append a xs ys);
          may_be = are-append (may_at may a.loaders) (rules_of a) a.memory xs ys h.may_be (over-steps a.loaders b.loaders from (rules_of a) (memory_after (rules_of a) a.memory xs) ys own);
        }

    leads-forgot : (old : StateOf S) → Leads may old (Forgot ∷ []) (after_step old Forgot)
    leads-forgot old = record { after = refl; may_be = (tt, tt) }

    asks-leads : (old new : StateOf S) (loads : List Load) → AreMissing (session_modes old) old.memory loads → AsksOnce may old new loads → (steps : List Step) × Leads may old steps new × AreAsking steps
    asks-leads old new [] lacks h = ([], record { after = h; may_be = tt }, tt)
    asks-leads old new (l ∷ ls) lacks h = (AskedLoads (l ∷ ls) h.replies ∷ [], record { after = h.after; may_be = ((lacks, h.answered), tt) }, tt)

    lost-leads : (old new : StateOf S) (loads : List Load) → AreMissing (session_modes old) old.memory loads → RoundLost old new loads → (steps : List Step) × Leads may old steps new × AreAsking steps
    lost-leads old new loads lacks h =
        (Lost (of_first h.loaders loads) ∷ [], record { after = h.after; may_be = (first-missing (session_modes old) h.loaders old.memory loads lacks, tt) }, tt)

    made-leads : (old new : StateOf S) (p : Program) (log : List (List ReplyOf)) → MakesRounds may old new p log → (steps : List Step) × Leads may old (Forgot ∷ steps) new × AreAsking steps
    made-leads old new p log h =
        let rules = rules_of old in
        let M0 = without_failed old.memory in
        (asked_steps rules p M0 log, record { after = h.after; may_be = (tt, rounds-steps (may_at may old.loaders) rules p M0 log new.memory h.rounds) }, asking-rounds rules p M0 log)

    -- after failed batches are forgotten
    after-forgot : (old new : StateOf S) → ((steps : List Step) × Leads may (after_step old Forgot) steps new × AreAsking steps) → (steps : List Step) × Leads may old (Forgot ∷ steps) new × AreAsking steps
    after-forgot old new h = (h.0, leads-append old (after_step old Forgot) new (Forgot ∷ []) h.0 (leads-forgot old) h.1, h.2)

    asked-missing : (old : StateOf S) (loader : ℕ) (keys : List KeyOf) → AreMissing (session_modes old) (without_failed old.memory) (asked_for old loader keys)
    asked-missing old loader keys = (map (load_of loader) keys, refl)

    once-leads : (old new : StateOf S) (loader : ℕ) (keys : List KeyOf) → AsksOnce may (after_step old Forgot) new (asked_for old loader keys) → (steps : List Step) × Leads may old (Forgot ∷ steps) new × AreAsking steps
    once-leads old new loader keys h = after-forgot old new (asks-leads (after_step old Forgot) new (asked_for old loader keys) (asked-missing old loader keys) h)

    stopped-leads : (old new : StateOf S) (loader : ℕ) (keys : List KeyOf) → IsStopped may old new (asked_for old loader keys) → (steps : List Step) × Leads may old (Forgot ∷ steps) new × AreAsking steps
    stopped-leads old new loader keys (inl once) = once-leads old new loader keys once
    stopped-leads old new loader keys (inr lost) = after-forgot old new (lost-leads (after_step old Forgot) new (asked_for old loader keys) (asked-missing old loader keys) lost)

    stops-leads : (old new : StateOf S) (p : Program) → StopsAnswering may old new p → (steps : List Step) × Leads may old (Forgot ∷ steps) new × AreAsking steps
    stops-leads old new p is = go is.end where
      first : (steps : List Step) × Leads may old (Forgot ∷ steps) is.mid × AreAsking steps
      first = made-leads old is.mid p is.log is.made

      go : (new ≡ is.mid) ⊎ RoundLost is.mid new (front (session_modes old) p (is.mid).memory) → (steps : List Step) × Leads may old (Forgot ∷ steps) new × AreAsking steps
      go (inl e) = (first.0, rw e first.1, first.2)
      go (inr lost) =
          let modes : session_modes is.mid ≡ session_modes old = ap modes_of (leads-rules old is.mid (Forgot ∷ first.0) first.1) in
          let lacks : AreMissing (session_modes is.mid) (is.mid).memory (front (session_modes old) p (is.mid).memory) = rw modes (needs p (read (session_modes old) (is.mid).memory), refl) in
          let more = lost-leads is.mid new (front (session_modes old) p (is.mid).memory) lacks lost in
          (first.0 ++ more.0, leads-append old is.mid new (Forgot ∷ first.0) more.0 first.1 more.1, asking-append first.0 more.0 first.2 more.2)

    pub call-leads : (call : Call) (old new : StateOf S) → IsCall may call old new → (steps : List Step) × Leads may old (Forgot ∷ steps) new × IsMadeOf call steps
    call-leads (Loading loader keys outcomes) old new h = once-leads old new loader keys h.round
    call-leads (StoppedLoading loader keys) old new h = stopped-leads old new loader keys h
    call-leads (Priming pair) old new h = (Primed pair ∷ [], record { after = h; may_be = (tt, (tt, tt)) }, refl)
    call-leads (Clearing cell) old new h = (Cleared cell ∷ [], record { after = h; may_be = (tt, (tt, tt)) }, refl)
    call-leads (ClearingAll loader) old new h = (ClearedAll loader ∷ [], record { after = h; may_be = (tt, (tt, tt)) }, refl)
    call-leads Forgetting old new h = ([], record { after = h; may_be = (tt, tt) }, refl)
    call-leads (Executing p text_of text rounds) old new h = made-leads old new p h.log h.made
    call-leads (StoppedExecuting p) old new h = stops-leads old new p h
    call-leads (ExecutingTogether rs reports) old new h = made-leads old new (together rs) h.log h.made
    call-leads Restarting old new h = (Restarted ∷ [], record { after = h; may_be = (tt, (tt, tt)) }, refl)

    pub calls-lead : (calls : List Call) (old new : StateOf S) → AreCalls may calls old new → (steps : List Step) × Leads may old steps new × AreMadeOf calls steps
    calls-lead [] old new h = ([], record { after = h; may_be = tt }, refl)
    calls-lead (call ∷ calls) old new h =
        let first = call-leads call old h.0 h.1 in
        let more = calls-lead calls h.0 new h.2 in
        (Forgot ∷ (first.0 ++ more.0), leads-append old h.0 new (Forgot ∷ first.0) more.0 first.1 more.1, (first.0, more.0, refl, first.2, more.2))
