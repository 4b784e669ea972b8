-- Memories that each fill the front of the one before: they are at most as many as the chain has loads, and no sparing run
-- is shorter.
use Rattle.std.proofs.Common.{◌≡◌, ◌≢◌, ℕ, ◌≤◌, ◌<◌, ◌-◌, ◌+◌, max, Bool, true, false, ◌||◌, List, [], ◌∷◌, IsSome, length, ◌⊎◌, inl, inr, sym, ◌∙◌, ap, refl, Option, Some, None, arith}
use Rattle.load_memory.specs.Keys.{KeyOf}
use Rattle.load_memory.specs.Outcomes.{OutcomeOf}
use Rattle.load_memory.specs.declared.key.KeyMode.{KeyMode}
use Rattle.execution.specs.Loads.{Load, Reader, Memory, cache_key, read, same, IsOneOf, AnswersMore, Extends}
use Rattle.execution.specs.Program.{given, Program, Is, Read, Under, Programs, End, With, tree, trees, needs, all_needs, chain, all_chain}
use Rattle.execution.specs.Completion.{is_open, any_open}
use Rattle.execution.specs.Front.{missing, front}
use Rattle.execution.specs.Rounds.{IsSpared, IsSparing}
use Rattle.execution.proofs.Same.{one-left, one-right, same-read, reads-more, firsts-cover, firsts-one, missing-one, filter-one}
use Rattle.execution.proofs.Monotone.{needs-grow, front-stays, front-open}

-- each load of the front is answered afterwards
abbrev pub Fills : List KeyMode → Program → Memory → Memory → Type 0
Fills modes p M N = (l : Load) → IsOneOf l (front modes p M) → IsSome (read modes N l)

-- each memory extends the one before and fills its front, which isn't empty; the last front is empty
abbrev pub IsFilling : List KeyMode → Program → Memory → List Memory → Memory → Type 0
IsFilling modes p M [] end = end ≡ M
IsFilling modes p M (N ∷ Ns) end = (front modes p M ≢ []) × Extends M N × Fills modes p M N × IsFilling modes p N Ns end

none-some : (r : Option OutcomeOf) → r ≡ None → IsSome r → ⊥
none-some None e h = absurd (cc h)
none-some (Some o) e h = cc e

pub extends-trans : (L M N : Memory) → Extends L M → Extends M N → Extends L N
extends-trans L M N a b = λ loader key o e. b loader key o (a loader key o e)

pub filling-extends : (modes : List KeyMode) (p : Program) (M : Memory) (Ns : List Memory) (end : Memory) → IsFilling modes p M Ns end → Extends M end
filling-extends modes p M [] end log = λ loader key o e. rw log e
filling-extends modes p M (N ∷ Ns) end log = extends-trans M N end log.1 (filling-extends modes p N Ns end log.3)

some-same : (r s : Option OutcomeOf) → r ≡ s → IsSome s → IsSome r
some-same r s e h = rw e h

-- a load that was needed is answered after a round
pub covered : (modes : List KeyMode) (p : Program) (M N : Memory) → Extends M N → Fills modes p M N → (l : Load) → IsOneOf l (needs p (read modes M)) → IsSome (read modes N l)
covered modes p M N ext fills l h = go (read modes M l) refl
  where
    go : (r : Option OutcomeOf) → read modes M l ≡ r → IsSome (read modes N l)
    go None e =
        let m : (m : Load) × IsOneOf m (front modes p M) × (same modes l m ≡ true) = firsts-cover modes l (missing (read modes M) (needs p (read modes M))) (missing-one (read modes M) l (needs p (read modes M)) e h) in
        some-same (read modes N l) (read modes N m.0) (same-read modes N l m.0 m.2) (fills m.0 m.1)
    go (Some o) e = let f : read modes N l ≡ Some o = ext l.loader (cache_key modes l) o e in rw f refl

pub front-needs : (modes : List KeyMode) (p : Program) (M : Memory) (l : Load) → IsOneOf l (front modes p M) → IsOneOf l (needs p (read modes M))
front-needs modes p M l h =
    let among : IsOneOf l (missing (read modes M) (needs p (read modes M))) = firsts-one modes l (missing (read modes M) (needs p (read modes M))) h in
    (filter-one _ l (needs p (read modes M)) among).0

-- the greatest number of loads on one path from its first one that R lacks on, in the tree over Q
mutual
  pub left : Program → Reader → Reader → ℕ
  left (Is own) R Q = 0
  left (Read load next) R Q = given (R load) (chain (Read load next) Q) (λ o. left (next o) R Q)
  left (Under kind below) R Q = all_left below R Q

  pub all_left : Programs → Reader → Reader → ℕ
  all_left End R Q = 0
  all_left (With position p rest) R Q = max (left p R Q) (all_left rest R Q)

left-read : (load : Load) (next : OutcomeOf → Program) (R Q : Reader) → AnswersMore R Q → (r : Option OutcomeOf) → R load ≡ r → ((o : OutcomeOf) → left (next o) R Q ≤ chain (next o) Q) → left (Read load next) R Q ≤ chain (Read load next) Q
unfolding left
left-read load next R Q more None e ih = rw e (omega arith)
left-read load next R Q more (Some o) e ih = let f : Q load ≡ Some o = more load o e in let i : left (next o) R Q ≤ chain (next o) Q = ih o in rw (e, f) (omega arith)

mutual
  unfolding left

  pub left-le : (p : Program) (R Q : Reader) → AnswersMore R Q → left p R Q ≤ chain p Q
  left-le (Is own) R Q more = omega arith
  left-le (Read load next) R Q more = left-read load next R Q more (R load) refl (λ o. left-le (next o) R Q more)
  left-le (Under kind below) R Q more = all-left-le below R Q more

  pub all-left-le : (ps : Programs) (R Q : Reader) → AnswersMore R Q → all_left ps R Q ≤ all_chain ps Q
  all-left-le End R Q more = omega arith
  all-left-le (With position p rest) R Q more = omega (arith, left-le p R Q more, all-left-le rest R Q more)

left-open : (load : Load) (next : OutcomeOf → Program) (R Q : Reader) → (r : Option OutcomeOf) → R load ≡ r → is_open (tree (Read load next) R) ≡ true → ((o : OutcomeOf) → is_open (tree (next o) R) ≡ true → 1 ≤ left (next o) R Q) → 1 ≤ left (Read load next) R Q
unfolding left
left-open load next R Q None e h ih = rw e (omega arith)
left-open load next R Q (Some o) e h ih = rw e (ih o (rw e at h))

or-cases : (a b : Bool) → (a || b) ≡ true → (a ≡ true) ⊎ (b ≡ true)
or-cases true b h = inl refl
or-cases false b h = inr h

mutual
  unfolding left

  pub left-some : (p : Program) (R Q : Reader) → is_open (tree p R) ≡ true → 1 ≤ left p R Q
  left-some (Is own) R Q h = absurd (cc h)
  left-some (Read load next) R Q h = left-open load next R Q (R load) refl h (λ o. left-some (next o) R Q)
  left-some (Under kind below) R Q h = all-left-some below R Q h

  pub all-left-some : (ps : Programs) (R Q : Reader) → any_open (trees ps R) ≡ true → 1 ≤ all_left ps R Q
  all-left-some End R Q h = absurd (cc h)
  all-left-some (With position p rest) R Q h = elim (or-cases (is_open (tree p R)) (any_open (trees rest R)) h) [
    | inl a ↦ let i : 1 ≤ left p R Q = left-some p R Q a in omega arith
    | inr b ↦ let i : 1 ≤ all_left rest R Q = all-left-some rest R Q b in omega arith
  ]

-- after a round one load fewer is left on each path
fewer-read : (load : Load) (next : OutcomeOf → Program) (R R' Q : Reader) → AnswersMore R R' → AnswersMore R' Q → ((l : Load) → IsOneOf l (needs (Read load next) R) → IsSome (R' l)) → (r : Option OutcomeOf) → R load ≡ r → ((o : OutcomeOf) → ((l : Load) → IsOneOf l (needs (next o) R) → IsSome (R' l)) → left (next o) R' Q ≤ left (next o) R Q - 1) → left (Read load next) R' Q ≤ left (Read load next) R Q - 1
unfolding left
fewer-read load next R R' Q e1 e2 cover None e ih = go (R' load) refl (cover load (inl refl))
  where
    go : (s : Option OutcomeOf) → R' load ≡ s → IsSome (R' load) → left (Read load next) R' Q ≤ left (Read load next) R Q - 1
    go None f some = absurd (none-some (R' load) f some)
    go (Some o) f some =
        let g : Q load ≡ Some o = e2 load o f in
        let i : left (next o) R' Q ≤ chain (next o) Q = left-le (next o) R' Q e2 in
        rw (e, f, g) (omega arith)
fewer-read load next R R' Q e1 e2 cover (Some o) e ih =
    let f : R' load ≡ Some o = e1 load o e in
    rw (e, f) (ih o (λ l h. cover l (rw e (inr h))))

mutual
  unfolding left

  pub fewer-left : (p : Program) (R R' Q : Reader) → AnswersMore R R' → AnswersMore R' Q → ((l : Load) → IsOneOf l (needs p R) → IsSome (R' l)) → left p R' Q ≤ left p R Q - 1
  fewer-left (Is own) R R' Q e1 e2 cover = omega arith
  fewer-left (Read load next) R R' Q e1 e2 cover = fewer-read load next R R' Q e1 e2 cover (R load) refl (λ o. fewer-left (next o) R R' Q e1 e2)
  fewer-left (Under kind below) R R' Q e1 e2 cover = all-fewer-left below R R' Q e1 e2 cover

  pub all-fewer-left : (ps : Programs) (R R' Q : Reader) → AnswersMore R R' → AnswersMore R' Q → ((l : Load) → IsOneOf l (all_needs ps R) → IsSome (R' l)) → all_left ps R' Q ≤ all_left ps R Q - 1
  all-fewer-left End R R' Q e1 e2 cover = omega arith
  all-fewer-left (With position p rest) R R' Q e1 e2 cover =
      omega (
        arith,
        fewer-left p R R' Q e1 e2 (λ l h. cover l (one-left l (needs p R) (all_needs rest R) h)),
        all-fewer-left rest R R' Q e1 e2 (λ l h. cover l (one-right l (needs p R) (all_needs rest R) h)),
      )

pub front-opens : (modes : List KeyMode) (p : Program) (M : Memory) → front modes p M ≢ [] → is_open (tree p (read modes M)) ≡ true
front-opens modes p M ne = go (is_open (tree p (read modes M))) refl
  where
    go : (b : Bool) → is_open (tree p (read modes M)) ≡ b → is_open (tree p (read modes M)) ≡ true
    go true e = e
    go false e = absurd (ne ((front-open modes p M).1 e))

-- each round leaves one load fewer, in the tree over a memory that extends the end
filling-left : (modes : List KeyMode) (p : Program) (M : Memory) (Ns : List Memory) (end last : Memory) → IsFilling modes p M Ns end → Extends end last
    → length Ns + left p (read modes end) (read modes last) ≤ left p (read modes M) (read modes last)
filling-left modes p M [] end last log ext =
    let e : left p (read modes end) (read modes last) ≡ left p (read modes M) (read modes last) = ap (λ m. left p (read modes m) (read modes last)) log in
    omega arith
filling-left modes p M (N ∷ Ns) end last log ext =
    let after : Extends N last = extends-trans N end last (filling-extends modes p N Ns end log.3) ext in
    let rest : length Ns + left p (read modes end) (read modes last) ≤ left p (read modes N) (read modes last) = filling-left modes p N Ns end last log.3 ext in
    let less : left p (read modes N) (read modes last) ≤ left p (read modes M) (read modes last) - 1 = fewer-left p (read modes M) (read modes N) (read modes last) (reads-more modes M N log.1) (reads-more modes N last after) (covered modes p M N log.1 log.2) in
    let some : 1 ≤ left p (read modes M) (read modes last) = left-some p (read modes M) (read modes last) (front-opens modes p M log.0) in
    omega arith

pub extends-self : (M : Memory) → Extends M M
extends-self M = λ loader key o e. e

pub filling-chain : (modes : List KeyMode) (p : Program) (M : Memory) (Ns : List Memory) (end last : Memory) → IsFilling modes p M Ns end → Extends end last → length Ns ≤ chain p (read modes last)
filling-chain modes p M Ns end last log ext =
    omega (arith, filling-left modes p M Ns end last log ext, left-le p (read modes M) (read modes last) (reads-more modes M last (extends-trans M end last (filling-extends modes p M Ns end log) ext)))

-- and they are fewer where something is missing still
pub filling-below : (modes : List KeyMode) (p : Program) (M : Memory) (Ns : List Memory) (end : Memory) → IsFilling modes p M Ns end → front modes p end ≢ [] → length Ns < chain p (read modes end)
filling-below modes p M Ns end log ne =
    let some : 1 ≤ left p (read modes end) (read modes end) = left-some p (read modes end) (read modes end) (front-opens modes p end ne) in
    omega (arith, filling-left modes p M Ns end end log (extends-self end), left-le p (read modes M) (read modes end) (reads-more modes M end (filling-extends modes p M Ns end log)))

-- the lawful run has after one round more whatever the sparing run has
sparing-step : (modes : List KeyMode) (p : Program) (N N' M M' end : Memory) → Extends N M → Extends M M' → Fills modes p M M' → Extends M' end
    → ((loader : ℕ) (key : KeyOf) → (N' loader key ≡ N loader key) ⊎ IsSpared modes p end N N' loader key) → Extends N' M'
sparing-step modes p N N' M M' end ext step fills after added = λ loader key o e. one loader key o e (added loader key)
  where
    got : (r s : Option OutcomeOf) (o : OutcomeOf) → IsSome r → ((x : OutcomeOf) → r ≡ Some x → s ≡ Some x) → s ≡ Some o → r ≡ Some o
    got None s o some f g = absurd (none-some None refl some)
    got (Some x) s o some f g = sym (f x refl) ∙ g

    one : (loader : ℕ) (key : KeyOf) (o : OutcomeOf) → N' loader key ≡ Some o → ((N' loader key ≡ N loader key) ⊎ IsSpared modes p end N N' loader key) → M' loader key ≡ Some o
    one loader key o e (inl k) = step loader key o (ext loader key o (sym k ∙ e))
    one loader key o e (inr k) =
        let load : Load = k.0 in
        let here : IsSome (read modes M' load) = covered modes p M M' step fills load (needs-grow p (read modes N) (read modes M) (reads-more modes N M ext) load (front-needs modes p N load k.1)) in
        let at : M' load.loader (cache_key modes load) ≡ M' loader key = ap (λ n. M' n (cache_key modes load)) k.2 ∙ ap (λ c. M' loader c) k.3 in
        got (M' loader key) (end loader key) o (rw at at here) (λ x f. after loader key x f) (sym k.4 ∙ e)

-- no sparing run has fewer steps
pub filling-sparing : (modes : List KeyMode) (p : Program) (M N end last : Memory) (Ms Ns : List Memory) → Extends N M → IsFilling modes p M Ms end → Extends end last → IsSparing modes p last N Ns → length Ms ≤ length Ns
filling-sparing modes p M N end last [] Ns ext log after run = omega arith
filling-sparing modes p M N end last (M' ∷ Ms) [] ext log after run = absurd (log.0 (front-stays modes p N M ext run))
filling-sparing modes p M N end last (M' ∷ Ms) (N' ∷ Ns) ext log after run =
    let onward : Extends M' last = extends-trans M' end last (filling-extends modes p M' Ms end log.3) after in
    let more : Extends N' M' = sparing-step modes p N N' M M' last ext log.1 log.2 onward run.0 in
    let i : length Ms ≤ length Ns = filling-sparing modes p M' N' end last Ms Ns more log.3 after run.1 in
    omega arith
