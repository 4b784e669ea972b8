-- Execution is defined exactly where the front is empty, and stays; what is needed only grows, and so does work.
use Rattle.std.proofs.Common.{◌≡◌, ◌∙◌, suc, Bool, true, false, ◌||◌, ◌↔◌, ◌≤◌, List, [], ◌∷◌, ◌++◌, length, is_none, IsSome, inl, inr, sym, ap, refl, Option, Some, None, arith, if◌then◌else◌}
use Rattle.std.proofs.lemmas.List.{length-append}
use Rattle.load_memory.specs.Outcomes.{OutcomeOf}
use Rattle.load_memory.specs.declared.key.KeyMode.{KeyMode}
use Rattle.execution.specs.Loads.{Load, Reader, Memory, read, IsOneOf, AnswersMore, Extends}
use Rattle.execution.specs.Program.{Part, Program, Is, Read, Under, Programs, End, With, Tree, Open, At, Over, Trees, NoMore, And, tree, trees, needs, all_needs}
use Rattle.execution.specs.Completion.{is_open, any_open, AnsweredOf, PositionOf, positions, positions_below}
use Rattle.execution.specs.Executed.{completed, exec}
use Rattle.execution.specs.Work.{count_positions, count_all_positions, work}
use Rattle.execution.specs.Front.{firsts, missing, front}
use Rattle.execution.proofs.Same.{one-left, one-right, one-either, reads-more}

pub any_missing : Reader → List Load → Bool
any_missing R [] = false
any_missing R (l ∷ ls) = is_none (R l) || any_missing R ls

or-assoc : (a b c : Bool) → ((a || b) || c) ≡ (a || (b || c))
or-assoc true b c = refl
or-assoc false b c = refl

any_missing-append : (R : Reader) (xs ys : List Load) → any_missing R (xs ++ ys) ≡ (any_missing R xs || any_missing R ys)
unfolding any_missing
any_missing-append R [] ys = refl
any_missing-append R (x ∷ xs) ys = rw (any_missing-append R xs ys) (sym (or-assoc (is_none (R x)) (any_missing R xs) (any_missing R ys)))

open-read : (load : Load) (next : OutcomeOf → Program) (R : Reader) (r : Option OutcomeOf) → R load ≡ r → ((o : OutcomeOf) → is_open (tree (next o) R) ≡ any_missing R (needs (next o) R)) → is_open (tree (Read load next) R) ≡ any_missing R (needs (Read load next) R)
unfolding any_missing
open-read load next R None e ih = rw e refl
open-read load next R (Some o) e ih = rw e (ih o)

mutual
  unfolding any_missing

  pub open-missing : (p : Program) (R : Reader) → is_open (tree p R) ≡ any_missing R (needs p R)
  open-missing (Is own) R = refl
  open-missing (Read load next) R = open-read load next R (R load) refl (λ o. open-missing (next o) R)
  open-missing (Under kind below) R = opens-missing below R

  pub opens-missing : (ps : Programs) (R : Reader) → any_open (trees ps R) ≡ any_missing R (all_needs ps R)
  opens-missing End R = refl
  opens-missing (With position p rest) R = rw (open-missing p R, opens-missing rest R) (sym (any_missing-append R (needs p R) (all_needs rest R)))

missing-none : (R : Reader) (ls : List Load) → any_missing R ls ≡ false → missing R ls ≡ []
unfolding any_missing
missing-none R [] h = refl
missing-none R (l ∷ ls) h = go (is_none (R l)) refl h (missing-none R ls)
  where
    go : (b : Bool) → is_none (R l) ≡ b → (b || any_missing R ls) ≡ false → (any_missing R ls ≡ false → missing R ls ≡ []) → missing R (l ∷ ls) ≡ []
    go true e h ih = absurd (cc h)
    go false e h ih = rw e (ih h)

none-missing : (modes : List KeyMode) (R : Reader) (ls : List Load) → firsts modes (missing R ls) ≡ [] → any_missing R ls ≡ false
unfolding any_missing
none-missing modes R [] h = refl
none-missing modes R (l ∷ ls) h = go (is_none (R l)) refl (none-missing modes R ls)
  where
    go : (b : Bool) → is_none (R l) ≡ b → (firsts modes (missing R ls) ≡ [] → any_missing R ls ≡ false) → (b || any_missing R ls) ≡ false
    go true e ih = let f : firsts modes (if true then l ∷ missing R ls else missing R ls) ≡ [] = rw e at h in absurd (cc f)
    go false e ih = ih (rw e at h)

-- nothing is open exactly where the front is empty
pub front-open : (modes : List KeyMode) (p : Program) (M : Memory) → (front modes p M ≡ []) ↔ (is_open (tree p (read modes M)) ≡ false)
front-open modes p M = (
  λ h. rw (open-missing p (read modes M)) (none-missing modes (read modes M) (needs p (read modes M)) h),
  λ h. ap (firsts modes) (missing-none (read modes M) (needs p (read modes M)) (rw (open-missing p (read modes M)) at h)),
)

exec-some : (p : Program) (R : Reader) (b : Bool) → is_open (tree p R) ≡ b → IsSome (exec p R) → is_open (tree p R) ≡ false
exec-some p R true e h = let none : IsSome {T = AnsweredOf} None = rw e at h in absurd (cc none)
exec-some p R false e h = e

pub exec-whole : (p : Program) (R : Reader) → is_open (tree p R) ≡ false → exec p R ≡ Some (completed (tree p R))
exec-whole p R e = rw e refl

-- exec is defined exactly where the front is empty
pub exec-defined : (modes : List KeyMode) (p : Program) (M : Memory) → IsSome (exec p (read modes M)) ↔ (front modes p M ≡ [])
exec-defined modes p M = (
  λ h. (front-open modes p M).1 (exec-some p (read modes M) (is_open (tree p (read modes M))) refl h),
  λ h. rw (exec-whole p (read modes M) ((front-open modes p M).0 h)) refl,
)

or-false : (a b : Bool) → (a || b) ≡ false → (a ≡ false) × (b ≡ false)
or-false true b h = absurd (cc h)
or-false false b h = (refl, h)

stays-read : (load : Load) (next : OutcomeOf → Program) (R Q : Reader) → AnswersMore R Q → (r : Option OutcomeOf) → R load ≡ r → is_open (tree (Read load next) R) ≡ false → ((o : OutcomeOf) → is_open (tree (next o) R) ≡ false → tree (next o) Q ≡ tree (next o) R) → tree (Read load next) Q ≡ tree (Read load next) R
stays-read load next R Q more None e h ih = let f : true ≡ false = rw e at h in absurd (cc f)
stays-read load next R Q more (Some o) e h ih = let f : Q load ≡ Some o = more load o e in rw (e, f) (ih o (rw e at h))

mutual
  -- the tree stays where nothing is open
  pub tree-stays : (p : Program) (R Q : Reader) → AnswersMore R Q → is_open (tree p R) ≡ false → tree p Q ≡ tree p R
  tree-stays (Is own) R Q more h = refl
  tree-stays (Read load next) R Q more h = stays-read load next R Q more (R load) refl h (λ o. tree-stays (next o) R Q more)
  tree-stays (Under kind below) R Q more h = ap (λ ts. Over kind ts) (trees-stay below R Q more h)

  pub trees-stay : (ps : Programs) (R Q : Reader) → AnswersMore R Q → any_open (trees ps R) ≡ false → trees ps Q ≡ trees ps R
  trees-stay End R Q more h = refl
  trees-stay (With position p rest) R Q more h =
      let b : (is_open (tree p R) ≡ false) × (any_open (trees rest R) ≡ false) = or-false (is_open (tree p R)) (any_open (trees rest R)) h in
      rw (tree-stays p R Q more b.0, trees-stay rest R Q more b.1) refl

needs-read : (load : Load) (next : OutcomeOf → Program) (R Q : Reader) → AnswersMore R Q → (r : Option OutcomeOf) → R load ≡ r → is_open (tree (Read load next) R) ≡ false → ((o : OutcomeOf) → is_open (tree (next o) R) ≡ false → needs (next o) Q ≡ needs (next o) R) → needs (Read load next) Q ≡ needs (Read load next) R
needs-read load next R Q more None e h ih = let f : true ≡ false = rw e at h in absurd (cc f)
needs-read load next R Q more (Some o) e h ih = let f : Q load ≡ Some o = more load o e in rw (e, f) (ap (λ ls. load ∷ ls) (ih o (rw e at h)))

mutual
  -- what is needed stays where nothing is open
  pub needs-stay : (p : Program) (R Q : Reader) → AnswersMore R Q → is_open (tree p R) ≡ false → needs p Q ≡ needs p R
  needs-stay (Is own) R Q more h = refl
  needs-stay (Read load next) R Q more h = needs-read load next R Q more (R load) refl h (λ o. needs-stay (next o) R Q more)
  needs-stay (Under kind below) R Q more h = all-needs-stay below R Q more h

  all-needs-stay : (ps : Programs) (R Q : Reader) → AnswersMore R Q → any_open (trees ps R) ≡ false → all_needs ps Q ≡ all_needs ps R
  all-needs-stay End R Q more h = refl
  all-needs-stay (With position p rest) R Q more h =
      let b : (is_open (tree p R) ≡ false) × (any_open (trees rest R) ≡ false) = or-false (is_open (tree p R)) (any_open (trees rest R)) h in
      rw (needs-stay p R Q more b.0, all-needs-stay rest R Q more b.1) refl

-- exec, where it is defined, stays
pub exec-stays : (p : Program) (R Q : Reader) → AnswersMore R Q → is_open (tree p R) ≡ false → exec p Q ≡ exec p R
exec-stays p R Q more h = rw (tree-stays p R Q more h) refl

pub front-stays : (modes : List KeyMode) (p : Program) (M N : Memory) → Extends M N → front modes p M ≡ [] → front modes p N ≡ []
front-stays modes p M N ext h =
    (front-open modes p N).1 (rw (tree-stays p (read modes M) (read modes N) (reads-more modes M N ext) ((front-open modes p M).0 h)) ((front-open modes p M).0 h))

grow-read : (load : Load) (next : OutcomeOf → Program) (R Q : Reader) → AnswersMore R Q → (l : Load) → (r : Option OutcomeOf) → R load ≡ r → IsOneOf l (needs (Read load next) R) → ((o : OutcomeOf) → IsOneOf l (needs (next o) R) → IsOneOf l (needs (next o) Q)) → IsOneOf l (needs (Read load next) Q)
grow-read load next R Q more l r e (inl s) ih = inl s
grow-read load next R Q more l None e (inr d) ih = let f : IsOneOf {X = Load} l [] = rw e at d in absurd f
grow-read load next R Q more l (Some o) e (inr d) ih = let f : Q load ≡ Some o = more load o e in inr (rw f (ih o (rw e at d)))

mutual
  -- says what is needed only grows
  pub needs-grow : (p : Program) (R Q : Reader) → AnswersMore R Q → (l : Load) → IsOneOf l (needs p R) → IsOneOf l (needs p Q)
  needs-grow (Is own) R Q more l h = h
  needs-grow (Read load next) R Q more l h = grow-read load next R Q more l (R load) refl h (λ o. needs-grow (next o) R Q more l)
  needs-grow (Under kind below) R Q more l h = all-needs-grow below R Q more l h

  pub all-needs-grow : (ps : Programs) (R Q : Reader) → AnswersMore R Q → (l : Load) → IsOneOf l (all_needs ps R) → IsOneOf l (all_needs ps Q)
  all-needs-grow End R Q more l h = h
  all-needs-grow (With position p rest) R Q more l h = elim (one-either l (needs p R) (all_needs rest R) h) [
    | inl a ↦ one-left l (needs p Q) (all_needs rest Q) (needs-grow p R Q more l a)
    | inr b ↦ one-right l (needs p Q) (all_needs rest Q) (all-needs-grow rest R Q more l b)
  ]

one-position : (t : Tree) → 1 ≤ count_positions t
one-position Open = omega arith
one-position (At own) = omega arith
one-position (Over kind below) = omega arith

work-some : (p : Program) (R : Reader) → 1 ≤ work p R
work-some p R = one-position (tree p R)

work-read : (load : Load) (next : OutcomeOf → Program) (R Q : Reader) → AnswersMore R Q → (r : Option OutcomeOf) → R load ≡ r → ((o : OutcomeOf) → work (next o) R ≤ work (next o) Q) → work (Read load next) R ≤ work (Read load next) Q
work-read load next R Q more None e ih = rw e (work-some (Read load next) Q)
work-read load next R Q more (Some o) e ih = let f : Q load ≡ Some o = more load o e in rw (e, f) (ih o)

mutual
  pub work-grows : (p : Program) (R Q : Reader) → AnswersMore R Q → work p R ≤ work p Q
  work-grows (Is own) R Q more = omega arith
  work-grows (Read load next) R Q more = work-read load next R Q more (R load) refl (λ o. work-grows (next o) R Q more)
  work-grows (Under kind below) R Q more = omega (arith, all-work-grows below R Q more)

  all-work-grows : (ps : Programs) (R Q : Reader) → AnswersMore R Q → count_all_positions (trees ps R) ≤ count_all_positions (trees ps Q)
  all-work-grows End R Q more = omega arith
  all-work-grows (With position p rest) R Q more = omega (arith, work-grows p R Q more, all-work-grows rest R Q more)

mutual
  -- work counts the positions that *Completion* lists
  pub positions-count : (top : PositionOf) (t : Tree) → length (positions top t) ≡ count_positions t
  positions-count top Open = refl
  positions-count top (At own) = refl
  positions-count top (Over kind below) = ap (λ n. suc n) (all-positions-count top.path below)

  all-positions-count : (path : List Part) (ts : Trees) → length (positions_below path ts) ≡ count_all_positions ts
  all-positions-count path NoMore = refl
  all-positions-count path (And position t rest) =
      let top : PositionOf = record { path = path ++ position.part ∷ []; non_null = position.non_null; place = position.place; at = t } in
      length-append (positions top t) (positions_below path rest) ∙ rw (positions-count top t, all-positions-count path rest) refl
