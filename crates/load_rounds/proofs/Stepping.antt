-- Lemmas on whatever the steps, the loaders keep their sources, their modes and their limits. Their logs gain entries until
-- the session starts again, and each order is counted.
use Rattle.std.proofs.Common.{true, false, Bool, ◌≡◌, ◌+◌, ℕ, zero, suc, List, [], ◌∷◌, map, length, Some, refl, ap, ◌∙◌, arith, length-append, ◌⊎◌, inl, inr}
use Rattle.std.proofs.lemmas.List.{length-map}
use Rattle.std.specs.Prelude.{slice_get}
use Rattle.load_memory.specs.Keys.{KeyOf}
use Rattle.load_queue.specs.Batches.{batches}
use Rattle.load_queue.specs.Loaders.{LoaderOf, unasked, as_made, IsOnRecord, AreOnRecord}
use Rattle.load_memory.specs.Replies.{ReplyOf}
use Rattle.load_queue.specs.Answers.{AnswerOf}
use Rattle.execution.specs.Loads.{Load, Memory}
use Rattle.execution.specs.Program.{Program}
use Rattle.execution.specs.Front.{keys_for}
use Rattle.execution.specs.Rounds.{RuleOf, after_round, without_failed}
use Rattle.execution.specs.Sessions.{Step, Forgot, AskedLoads, Lost, Restarted}
use Rattle.load_rounds.specs.Sessions.{StateOf, rules_of, entry, logged_from, of_first, after_step, after_steps}
use Rattle.load_rounds.specs.Calls.{RoundRan, RoundLost}
use Rattle.load_rounds.specs.Headline.{asked_steps, MakesRounds}
use Rattle.load_rounds.specs.Histories.{AreAsking}
use Rattle.load_rounds.proofs.Cutting.{rules-logged}
use Rattle.load_rounds.proofs.Numbering.{source-at}
use Rattle.load_rounds.proofs.States.{rules-unasked}

-- both lists have the same sources, whatever the logs are
abbrev pub SameSources : {S : Type 0} → List (LoaderOf S) → List (LoaderOf S) → Type 0
SameSources {S} old cur = (i : ℕ) (x : LoaderOf S) → slice_get cur i ≡ Some x → (y : LoaderOf S) × (slice_get old i ≡ Some y) × (x.source ≡ y.source)

module _ {S : Type 0} where
  step-rules : (s : StateOf S) (step : Step) → rules_of (after_step s step) ≡ rules_of s
  step-rules s (AskedLoads loads replies) = rules-logged true (s.rounds + 1) 0 (λ n. keys_for n loads) s.loaders
  step-rules s (Lost loads) = rules-logged false (s.rounds + 1) 0 (λ n. keys_for n loads) s.loaders
  step-rules s Restarted = rules-unasked s.loaders
  step-rules s step = refl

  pub steps-rules : (s : StateOf S) (steps : List Step) → rules_of (after_steps s steps) ≡ rules_of s
  steps-rules s [] = refl
  steps-rules s (step ∷ steps) = steps-rules (after_step s step) steps ∙ step-rules s step

  logged-made : (stored : Bool) (round n : ℕ) (keys : ℕ → List KeyOf) (ls : List (LoaderOf S)) → map as_made (logged_from n stored round keys ls) ≡ map as_made ls
  logged-made stored round n keys [] = refl
  logged-made stored round n keys (l ∷ ls) = ap (λ xs. as_made l ∷ xs) (logged-made stored round (suc n) keys ls)

  unasked-made : (ls : List (LoaderOf S)) → map as_made (map unasked ls) ≡ map as_made ls
  unasked-made [] = refl
  unasked-made (l ∷ ls) = ap (λ xs. as_made l ∷ xs) (unasked-made ls)

  step-made : (s : StateOf S) (step : Step) → map as_made (after_step s step).loaders ≡ map as_made s.loaders
  step-made s (AskedLoads loads replies) = logged-made true (s.rounds + 1) 0 (λ n. keys_for n loads) s.loaders
  step-made s (Lost loads) = logged-made false (s.rounds + 1) 0 (λ n. keys_for n loads) s.loaders
  step-made s Restarted = unasked-made s.loaders
  step-made s step = refl

  pub steps-made : (s : StateOf S) (steps : List Step) → map as_made (after_steps s steps).loaders ≡ map as_made s.loaders
  steps-made s [] = refl
  steps-made s (step ∷ steps) = steps-made (after_step s step) steps ∙ step-made s step

  unasked-source : (ls : List (LoaderOf S)) (i : ℕ) (x : LoaderOf S) → slice_get (map unasked ls) i ≡ Some x → (y : LoaderOf S) × (slice_get ls i ≡ Some y) × (x.source ≡ y.source)
  unasked-source [] i x at = absurd (cc at)
  unasked-source (l ∷ ls) zero x at = (l, refl, ap (λ (o : LoaderOf S). o.source) (some-is x (unasked l) at))
    where
      some-is : (x y : LoaderOf S) → Some y ≡ Some x → x ≡ y
      some-is x y e = cc e
  unasked-source (l ∷ ls) (suc i) x at = unasked-source ls i x at

  step-sources : (s : StateOf S) (step : Step) → SameSources s.loaders (after_step s step).loaders
  step-sources s (AskedLoads loads replies) i x at = source-at true (s.rounds + 1) (λ n. keys_for n loads) 0 s.loaders i x at
  step-sources s (Lost loads) i x at = source-at false (s.rounds + 1) (λ n. keys_for n loads) 0 s.loaders i x at
  step-sources s Restarted i x at = unasked-source s.loaders i x at
  step-sources s step i x at = (x, at, refl)

  pub steps-sources : (s : StateOf S) (steps : List Step) → SameSources s.loaders (after_steps s steps).loaders
  steps-sources s [] i x at = (x, at, refl)
  steps-sources s (step ∷ steps) i x at =
      let later = steps-sources (after_step s step) steps i x at in
      let first = step-sources s step i later.0 later.1 in
      (first.0, first.1, later.2 ∙ first.2)

-- ---- every order is on record
module _ {S : Type 0} where
  pub record-same : (ls : List (LoaderOf S)) → AreOnRecord ls ls
  record-same [] = tt
  record-same (l ∷ ls) = (record { same = refl; made = 0; orders = omega arith; entries = omega arith }, record-same ls)

  -- a session keeps its loaders
  pub record-many : (xs ys : List (LoaderOf S)) → AreOnRecord xs ys → length ys ≡ length xs
  record-many [] [] h = refl
  record-many (x ∷ xs) (y ∷ ys) h = ap suc (record-many xs ys h.1)
  record-many xs ys h = absurd h

  one-then : (a b c : LoaderOf S) → IsOnRecord a b → IsOnRecord b c → IsOnRecord a c
  one-then a b c h k = record { same = k.same ∙ h.same; made = h.made + k.made; orders = omega (arith, h.orders, k.orders); entries = omega (arith, h.entries, k.entries) }

  pub record-then : (xs ys zs : List (LoaderOf S)) → AreOnRecord xs ys → AreOnRecord ys zs → AreOnRecord xs zs
  record-then [] [] [] h k = tt
  record-then [] (y ∷ ys) zs h k = absurd h
  record-then (x ∷ xs) [] zs h k = absurd h
  record-then (x ∷ xs) (y ∷ ys) (z ∷ zs) h k = (one-then x y z h.0 k.0, record-then xs ys zs h.1 k.1)
  record-then xs ys zs h k = absurd k

  pub record-logged : (stored : Bool) (round n : ℕ) (keys : ℕ → List KeyOf) (ls : List (LoaderOf S)) → AreOnRecord ls (logged_from n stored round keys ls)
  record-logged stored round n keys [] = tt
  record-logged stored round n keys (l ∷ ls) =
      let bs = batches l.limit (keys n) in
      (record { same = refl; made = length bs; orders = refl; entries = omega (arith, length-append l.log (map (entry stored round) bs), length-map bs (entry stored round)) }, record-logged stored round (suc n) keys ls)

  -- rounds alone, stored or lost
  pub record-asking : (s : StateOf S) (steps : List Step) → AreAsking steps → AreOnRecord s.loaders (after_steps s steps).loaders
  record-asking s [] h = record-same s.loaders
  record-asking s (AskedLoads loads replies ∷ steps) h =
      let t = after_step s (AskedLoads loads replies) in
      record-then s.loaders t.loaders (after_steps t steps).loaders (record-logged true (s.rounds + 1) 0 (λ n. keys_for n loads) s.loaders) (record-asking t steps h)
  record-asking s (Lost loads ∷ steps) h =
      let t = after_step s (Lost loads) in
      record-then s.loaders t.loaders (after_steps t steps).loaders (record-logged false (s.rounds + 1) 0 (λ n. keys_for n loads) s.loaders) (record-asking t steps h)
  record-asking s steps h = absurd h

pub asking-rounds : (rules : List RuleOf) (p : Program) (M : Memory) (log : List (List ReplyOf)) → AreAsking (asked_steps rules p M log)
asking-rounds rules p M [] = tt
asking-rounds rules p M (r ∷ rs) = asking-rounds rules p (after_round rules M r) rs

module _ {S : Type 0} (may : S → List KeyOf → AnswerOf → Type 0) where
  pub ran-rules : (old new : StateOf S) (loads : List Load) → RoundRan may old new loads → rules_of new ≡ rules_of old
  ran-rules old new loads h = ap rules_of h.after ∙ rules-logged true (old.rounds + 1) 0 (λ n. keys_for n loads) old.loaders

  pub made-recorded : (old new : StateOf S) (p : Program) (log : List (List ReplyOf)) → MakesRounds may old new p log → AreOnRecord old.loaders new.loaders
  made-recorded old new p log h =
      let M0 = without_failed old.memory in
      rw h.after (record-asking (after_step old Forgot) (asked_steps (rules_of old) p M0 log) (asking-rounds (rules_of old) p M0 log))

module _ {S : Type 0} where
  pub lost-recorded : (old new : StateOf S) (loads : List Load) → RoundLost old new loads → AreOnRecord old.loaders new.loaders
  lost-recorded old new loads h = rw h.after (record-logged false (old.rounds + 1) 0 (λ n. keys_for n (of_first h.loaders loads)) old.loaders)

  -- rounds, and perhaps one more that was lost
  pub end-recorded : (old mid new : StateOf S) (loads : List Load) → AreOnRecord old.loaders mid.loaders → (new ≡ mid) ⊎ RoundLost mid new loads → AreOnRecord old.loaders new.loaders
  end-recorded old mid new loads h (inl e) = rw e h
  end-recorded old mid new loads h (inr lost) = record-then old.loaders mid.loaders new.loaders h (lost-recorded mid new loads lost)
