-- Plans, each with a limit.
use Rattle.std.proofs.Common.{◌≡◌, ℕ, List, [], ◌∷◌, map, All, Option, Result, Ok, Err, refl, sym, ap, subst, ◌∙◌, ◌≤◌, length, inl}
use Rattle.std.specs.Global.{Vec}
use Rattle.std.proofs.lemmas.List.Elements.{All-nil, All-cons, All-head, All-tail, All-weaker}
use Rattle.gq_check.specs.Plans.{PlanOf, plan_of}
use Rattle.plan_program.specs.PlanPrograms.{plan_program}
use Rattle.load_memory.specs.Keys.{KeyOf}
use Rattle.load_queue.specs.Answers.{AnswerOf}
use Rattle.gq_bindings.specs.Tree.{BindingsOf}
use Rattle.load_rounds.specs.Headline.{StopsAnswering}
use Rattle.load_rounds.specs.Limits.{AreAnswersWithin}
use Rattle.load_rounds.specs.Sessions.{SessionOf, StateOf}
use Rattle.load_rounds.specs.SharedRounds.{RequestOf, request_of, requests, together}
use Rattle.load_rounds.specs.declared.answer.Answer.{Answer}
use Rattle.load_rounds.specs.declared.limits.Limits.{Limits}
use Rattle.load_rounds.specs.declared.limits.Overrun.{Overrun}
use Rattle.gq_resolve.specs.Within.{text_within}
use Rattle.gq_resolve.specs.PreparedPlans.{LimitedPlanOf as LimitedPlan}
use Rattle.plan_requests.specs.Servers.{ServerOf}
use Rattle.server.specs.Clients.{HasLoaders}
use Rattle.server.specs.Plans.{AreLimited, HasLoadersFor, plan_and_limit}

pub map-twice : {A B C : Type 0} (g : B → C) (f : A → B) (xs : List A) → map g (map f xs) ≡ map (λ x. g (f x)) xs
map-twice g f [] = refl
map-twice g f (x ∷ xs) = ap (λ l. g (f x) ∷ l) (map-twice g f xs)

module _ (most : Option ℕ) where
  -- says what they ask is what the plans ask, with texts within the limit
  pub limited-asks : (plans : List PlanOf) (limited : List LimitedPlan) → AreLimited most plans limited
      → requests (λ (l : LimitedPlan). plan_program (plan_of l.plan)) (λ (l : LimitedPlan). text_within l.most) limited ≡ requests plan_program (λ plan. text_within most) plans
  limited-asks plans limited are =
      let asked : PlanOf × Option ℕ → RequestOf = λ p. request_of (plan_program p.0) (text_within p.1) in
      sym (map-twice asked plan_and_limit limited) ∙ ap (map asked) are ∙ map-twice asked (λ (plan : PlanOf). (plan, most)) plans

  -- says what holds of each plan
  pub all-limited : (P : PlanOf → Type 0) (plans : List PlanOf) (limited : List LimitedPlan) → AreLimited most plans limited → All P plans → All (λ (l : LimitedPlan). P (plan_of l.plan)) limited
  all-limited P [] [] are h = All-nil (λ (l : LimitedPlan). P (plan_of l.plan))
  all-limited P [] (l ∷ ls) are h = absurd (cc are)
  all-limited P (p ∷ ps) [] are h = absurd (cc are)
  all-limited P (p ∷ ps) (l ∷ ls) are h =
      let first : plan_and_limit l ≡ (p, most) = cc are in
      let same : p ≡ plan_of l.plan = sym (ap (λ (q : PlanOf × Option ℕ). q.0) first) in
      All-cons (λ (k : LimitedPlan). P (plan_of k.plan)) l ls (subst P same (All-head P p ps h)) (all-limited P ps ls (cc are) (All-tail P p ps h))

-- the session has the loaders of each plan
pub enough : {S : Type 0} (session : SessionOf S) (s : ServerOf) (most : Option ℕ) (plans : List PlanOf) (limited : List LimitedPlan) → HasLoaders s session → All (λ (p : PlanOf). p.bindings ≡ s.bindings) plans
    → AreLimited most plans limited → All (HasLoadersFor session) limited
enough session s most plans limited has bound are =
    all-limited most (λ (p : PlanOf). length p.bindings.loaders ≤ length session.loaders) plans limited are
    (All-weaker (λ (p : PlanOf). p.bindings ≡ s.bindings) (λ (p : PlanOf). length p.bindings.loaders ≤ length session.loaders)
    (λ p e. subst (λ (b : BindingsOf). length b.loaders ≤ length session.loaders) (sym e) has) plans bound)

-- what was given, answers or a refusal, is that at which memory may have run out
pub given-stops : {S : Type 0} (may : S → List KeyOf → AnswerOf → Type 0) (old new : StateOf S) (limits : Limits) (rs : List RequestOf) (given : Result (Vec Answer) Overrun) → AreAnswersWithin may old new limits rs given
    → StopsAnswering may old new (together rs)
given-stops may old new limits rs (Ok answers) h = record { log = h.0.log; mid = new; made = h.0.made; end = inl refl; recorded = h.0.recorded }
given-stops may old new limits rs (Err overrun) h = record { log = h.log; mid = new; made = h.made; end = inl refl; recorded = h.recorded }
