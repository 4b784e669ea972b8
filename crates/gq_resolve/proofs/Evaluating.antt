-- The front of a program, and what it and positions that wait add to the wants.
use Rattle.std.proofs.Common.{◌≡◌, ◌≢◌, ℕ, zero, suc, ◌≤◌, false, List, [], ◌∷◌, ◌++◌, length, refl, sym, ap, ◌∙◌, arith, append_assoc, Option, Some, None, OnOk, OnErr, Result, Ok, Err}
use Rattle.load_memory.specs.Keys.{KeyOf}
use Rattle.load_memory.specs.Pairs.{MemoryOf, look}
use Rattle.load_queue.specs.Wanted.{WantedOf, with_wanted}
use Rattle.load_memory.specs.Outcomes.{OutcomeOf}
use Rattle.execution.specs.Loads.{Load, Reader}
use Rattle.execution.specs.Program.{Program, Is, Read, Under, Programs, End, With, needs, all_needs, tree}
use Rattle.execution.specs.Completion.{is_open}
use Rattle.execution.specs.Residual.{rest, all_rest, unanswered}
use Rattle.execution.specs.Front.{missing, firsts, wanting, modes_wanted}
use Rattle.execution.proofs.Fitting.{missing-append}
use Rattle.execution.proofs.Monotone.{front-open}
use Rattle.execution.proofs.Wanting.{wanting-firsts}
use Rattle.gq_resolve.specs.Evaluated.{front_over, AddsPart}
use Rattle.plan_walk.specs.Reading.{reader}
use Rattle.gq_resolve.specs.Suspended.{load_of, loads_of}
use Rattle.plan_walk.specs.declared.waiting.BlockedPosition.{BlockedPosition}

-- ---- what is left of a program waits for what is missing

read-rest : (load : Load) (next : OutcomeOf → Program) (R : Reader) (r : Option OutcomeOf) → R load ≡ r → ((o : OutcomeOf) → needs (rest (next o) R) unanswered ≡ missing R (needs (next o) R))
    → needs (rest (Read load next) R) unanswered ≡ missing R (needs (Read load next) R)
read-rest load next R None e ih = rw e refl
read-rest load next R (Some o) e ih = rw e (ih o)

mutual
  pub needs-rest : (p : Program) (R : Reader) → needs (rest p R) unanswered ≡ missing R (needs p R)
  needs-rest (Is leaf_value) R = refl
  needs-rest (Read load next) R = read-rest load next R (R load) refl (λ o. needs-rest (next o) R)
  needs-rest (Under kind below) R = all-needs-rest below R

  all-needs-rest : (ps : Programs) (R : Reader) → all_needs (all_rest ps R) unanswered ≡ missing R (all_needs ps R)
  all-needs-rest End R = refl
  all-needs-rest (With position p ps) R = rw (needs-rest p R, all-needs-rest ps R) (sym (missing-append R (needs p R) (all_needs ps R)))

-- ---- the front

pub front-none : (m : MemoryOf) (p : Program) → missing (reader m) (needs p (reader m)) ≡ [] → front_over m p ≡ []
front-none m p h = ap (firsts m.modes) h

pub front-there : (m : MemoryOf) (p : Program) → missing (reader m) (needs p (reader m)) ≢ [] → front_over m p ≢ []
front-there m p some none = go (missing (reader m) (needs p (reader m))) some none
  where
    go : (ls : List Load) → ls ≢ [] → firsts m.modes ls ≡ [] → ⊥
    go [] ne e = ne refl
    go (l ∷ ls) ne e = cc e

pub closed-tree : (m : MemoryOf) (p : Program) → front_over m p ≡ [] → is_open (tree p (reader m)) ≡ false
closed-tree m p h = (front-open m.modes p (look m.pairs)).0 h

pub wants-front : (m : MemoryOf) (p : Program) (old : List WantedOf) → modes_wanted old ≡ m.modes → wanting old (missing (reader m) (needs p (reader m))) ≡ wanting old (front_over m p)
wants-front m p old e = sym (wanting-firsts m.modes old (missing (reader m) (needs p (reader m))) e)

-- ---- wants

pub with-past : (ws : List WantedOf) (loader : ℕ) (key : KeyOf) → length ws ≤ loader → with_wanted ws loader key ≡ ws
with-past [] loader key h = refl
with-past (w ∷ ws) zero key h = absurd (omega arith)
with-past (w ∷ ws) (suc loader) key h = ap (λ vs. w ∷ vs) (with-past ws loader key (omega arith))

pub wanting-append : (ws : List WantedOf) (xs ys : List Load) → wanting ws (xs ++ ys) ≡ wanting (wanting ws xs) ys
wanting-append ws [] ys = refl
wanting-append ws (x ∷ xs) ys = wanting-append (with_wanted ws x.loader x.key) xs ys

-- one more
wants-one : (old now new : List WantedOf) (ls : List Load) (l : Load) → now ≡ wanting old ls → new ≡ with_wanted now l.loader l.key → new ≡ wanting old (ls ++ l ∷ [])
wants-one old now new ls l h k = k ∙ ap (λ w. with_wanted w l.loader l.key) h ∙ sym (wanting-append old ls (l ∷ []))

pub on_err : {T E P : Type 0} (r : Result T E) → P → OnErr r P
on_err (Ok x) p = tt
on_err (Err e) p = p

pub on_ok : {T E P : Type 0} (r : Result T E) → P → OnOk r P
on_ok (Ok x) p = p
on_ok (Err e) p = tt

-- ---- positions that wait

-- the loads of the first positions were added, and those of these are left
pub record AreAdded (old now : List WantedOf) (all left : List BlockedPosition) : Type 0 where
  pub added : AddsPart old now (loads_of all)
  pub rest : added.left ≡ loads_of left
  pub loaders : length now ≡ length old

pub added-none : (old : List WantedOf) (all left : List BlockedPosition) → left ≡ all → AreAdded old old all left
added-none old all left same = record {
  added = record { part = []; left = loads_of all; split = refl; added = refl };
  rest = ap loads_of (sym same);
  loaders = refl;
}

-- one more
pub added-more : (old now new : List WantedOf) (all left after : List BlockedPosition) (b : BlockedPosition) → left ≡ b ∷ after → new ≡ with_wanted now (load_of b).loader (load_of b).key → length new ≡ length now
    → AreAdded old now all left → AreAdded old new all after
added-more old now new all left after b next is same h =
    let before : AddsPart old now (loads_of all) = h.added in
    let rest : before.left ≡ load_of b ∷ loads_of after = h.rest ∙ ap loads_of next in
    record {
      added = record {
        part = before.part ++ load_of b ∷ [];
        left = loads_of after;
        split = before.split ∙ ap (λ ls. before.part ++ ls) rest ∙ sym (append_assoc before.part (load_of b ∷ []) (loads_of after));
        added = wants-one old now new before.part (load_of b) before.added is;
      };
      rest = refl;
      loaders = same ∙ h.loaders;
    }
