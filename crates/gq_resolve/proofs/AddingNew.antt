-- Keys of positions are new among the wants where the positions of each loader go on alike, and nothing was wanted of it.
use Rattle.std.proofs.Common.{◌≡◌, ◌≢◌, ◌⊎◌, ◌+◌, ◌<◌, ◌≤◌, ℕ, zero, suc, Bool, true, false, ◌==◌, ◌||◌, List, [], ◌∷◌, ◌++◌, Option, Some, None, length, inl, inr, refl, sym, ap, ◌∙◌, subst, if◌then◌else◌, slice_get, slice_set, eq-eqb, eqb-true, append_assoc, true≢false, IsTrue, take, drop, get_or, arith}
use Rattle.std.specs.List.{list_any, AllByRecursion, IsDistinct}
use Rattle.std.specs.Option.{option_eq}
use Rattle.std.proofs.Math.Bool.{or-false}
use Rattle.std.proofs.Math.Seq.{drop-cons}
use Rattle.std.proofs.lemmas.Bool.{eqb-false, or_cases, or_left}
use Rattle.std.proofs.lemmas.List.Folds.{list_any-append}
use Rattle.std.proofs.lemmas.Map.Keys.{IsDistinct-head, IsDistinct-tail}
use Rattle.load_memory.specs.Keys.{KeyOf, all, text, pair, key_of, folded, same_key}
use Rattle.load_memory.specs.declared.key.KeyMode.TheVariants.{Exact}
use Rattle.load_memory.proofs.Looks.{same_key-sym}
use Rattle.load_queue.specs.Wanted.{WantedOf, is_wanted, with_key, mode_wanted, keys_wanted, is_key_wanted, with_wanted}
use Rattle.plan_walk.specs.Noted.{is_onward, is_position}
use Rattle.plan_walk.specs.declared.positions.Onward.{Onward}
use Rattle.plan_walk.specs.declared.waiting.BlockedPosition.{BlockedPosition}
use Rattle.gq_resolve.specs.NewKeys.{AreNew, IsUntouched, Notes}

-- ---- positions that are the same

later-same : (p : Option ℕ) → option_eq (λ (a b : ℕ). a == b) p p ≡ true
later-same None = refl
later-same (Some n) = eq-eqb n n refl

onward-same : (a : Onward) → is_onward a a ≡ true
onward-same a = rw (eq-eqb a.group a.group refl, later-same a.later) (eq-eqb a.levels a.levels refl)

-- positions that are the same are of the same onward, loader and key
is-same : (a b : BlockedPosition) → a.onward ≡ b.onward → a.loader ≡ b.loader → same_key (key_of a.key) (key_of b.key) ≡ true → is_position a b ≡ true
is-same a b onward loader key = rw (onward, loader, onward-same b.onward, eq-eqb b.loader b.loader refl) key

-- ---- what is wanted with a key more

key-mode : (w : WantedOf) (k : KeyOf) → (with_key w k).mode ≡ w.mode
key-mode w k = go (is_wanted w k)
  where
    go : (there : Bool) → (if there then w else record { mode = w.mode; keys = w.keys ++ k ∷ [] }).mode ≡ w.mode
    go true = refl
    go false = refl

mode-with : (ws : List WantedOf) (l p : ℕ) (k : KeyOf) → mode_wanted (with_wanted ws p k) l ≡ mode_wanted ws l
mode-with [] l p k = refl
mode-with (w ∷ ws) zero zero k = key-mode w k
mode-with (w ∷ ws) (suc l) zero k = refl
mode-with (w ∷ ws) zero (suc p) k = refl
mode-with (w ∷ ws) (suc l) (suc p) k = mode-with ws l p k

-- other loaders stay
others-with : (ws : List WantedOf) (l p : ℕ) (k q : KeyOf) → l ≢ p → is_key_wanted (with_wanted ws p k) l q ≡ is_key_wanted ws l q
others-with [] l p k q ne = refl
others-with (w ∷ ws) zero zero k q ne = absurd (ne refl)
others-with (w ∷ ws) (suc l) zero k q ne = refl
others-with (w ∷ ws) zero (suc p) k q ne = refl
others-with (w ∷ ws) (suc l) (suc p) k q ne = others-with ws l p k q (λ e. ne (ap suc e))

exact-key : (k : KeyOf) → folded Exact k ≡ k
exact-key all = refl
exact-key (text t) = refl
exact-key (pair s t) = refl

one-with : (w : WantedOf) (k q : KeyOf) → w.mode ≡ Exact → is_wanted (with_key w k) q ≡ true → (is_wanted w q || same_key q k) ≡ true
one-with w k q exact = go (is_wanted w k)
  where
    test : KeyOf → Bool
    test x = same_key (folded w.mode q) (folded w.mode x)

    is-test : same_key (folded w.mode q) (folded w.mode k) ≡ same_key q k
    is-test = rw (exact, exact-key q, exact-key k) refl

    go : (there : Bool) → is_wanted (if there then w else record { mode = w.mode; keys = w.keys ++ k ∷ [] }) q ≡ true → (is_wanted w q || same_key q k) ≡ true
    go true h = or_left (is_wanted w q) (same_key q k) h
    go false h = sym (list_any-append test w.keys (k ∷ []) ∙ ap (λ (b : Bool). is_wanted w q || b) (or-false (test k) ∙ is-test)) ∙ h

exact-with : (ws : List WantedOf) (p : ℕ) (k q : KeyOf) → mode_wanted ws p ≡ Exact → is_key_wanted (with_wanted ws p k) p q ≡ true → (is_key_wanted ws p q || same_key q k) ≡ true
exact-with [] p k q exact h = absurd (true≢false (sym h))
exact-with (w ∷ ws) zero k q exact h = one-with w k q exact h
exact-with (w ∷ ws) (suc p) k q exact h = exact-with ws p k q exact h

none-wanted : (ws : List WantedOf) (l : ℕ) (q : KeyOf) → keys_wanted ws l ≡ [] → is_key_wanted ws l q ≡ false
none-wanted [] l q none = refl
none-wanted (w ∷ ws) zero q none = ap (list_any (λ k. same_key (folded w.mode q) (folded w.mode k))) none
none-wanted (w ∷ ws) (suc l) q none = none-wanted ws l q none

-- ---- positions of which no two are the same, and of each loader all go on alike

abbrev GoesOn : List (Option Onward) → BlockedPosition → Type 0
GoesOn onwards b = slice_get onwards b.loader ≡ Some (Some b.onward)

-- its key isn't wanted, of a loader that compares keys exactly
abbrev IsReady : List WantedOf → BlockedPosition → Type 0
IsReady ws b = (is_key_wanted ws b.loader (key_of b.key) ≡ false) × (mode_wanted ws b.loader ≡ Exact)

same-onward : (onwards : List (Option Onward)) (b x : BlockedPosition) → GoesOn onwards b → GoesOn onwards x → b.loader ≡ x.loader → b.onward ≡ x.onward
same-onward onwards b x here there same = inner (sym here ∙ ap (slice_get onwards) same ∙ there)
  where
    inner : {a c : Onward} → Some (Some a) ≡ Some (Some c) → a ≡ c
    inner e = cc e

ready-one : (onwards : List (Option Onward)) (ws : List WantedOf) (b x : BlockedPosition) → GoesOn onwards b → is_position b x ≡ false → GoesOn onwards x → IsReady ws x → IsReady (with_wanted ws b.loader (key_of b.key)) x
ready-one onwards ws b x here apart there ready = (by-loader (x.loader == b.loader) refl, mode-with ws x.loader b.loader (key_of b.key) ∙ ready.1)
  where
    wanted-of : ℕ → Bool
    wanted-of l = is_key_wanted (with_wanted ws b.loader (key_of b.key)) l (key_of x.key)

    not-both : x.loader ≡ b.loader → (is_key_wanted ws b.loader (key_of x.key) ≡ true) ⊎ (same_key (key_of x.key) (key_of b.key) ≡ true) → ⊥
    not-both same (inl w) = true≢false (sym w ∙ ap (λ l. is_key_wanted ws l (key_of x.key)) (sym same) ∙ ready.0)
    not-both same (inr k) = true≢false (sym (is-same b x (same-onward onwards b x here there (sym same)) (sym same) (same_key-sym (key_of b.key) (key_of x.key) ∙ k)) ∙ apart)

    alike : x.loader ≡ b.loader → (wanted : Bool) → wanted-of b.loader ≡ wanted → wanted ≡ false
    alike same false e = refl
    alike same true e = absurd (not-both same (or_cases (is_key_wanted ws b.loader (key_of x.key)) (same_key (key_of x.key) (key_of b.key)) (exact-with ws b.loader (key_of b.key) (key_of x.key) (ap (mode_wanted ws) (sym same) ∙ ready.1) e)))

    by-loader : (same : Bool) → (x.loader == b.loader) ≡ same → wanted-of x.loader ≡ false
    by-loader false e = others-with ws x.loader b.loader (key_of b.key) (key_of x.key) (eqb-false x.loader b.loader e) ∙ ready.0
    by-loader true e =
        let same : x.loader ≡ b.loader = eqb-true x.loader b.loader e in
        ap wanted-of same ∙ alike same (wanted-of b.loader) refl

ready-after : (onwards : List (Option Onward)) (ws : List WantedOf) (b : BlockedPosition) (bs : List BlockedPosition) → GoesOn onwards b → AllByRecursion (λ x. is_position b x ≡ false) bs → AllByRecursion (GoesOn onwards) bs → AllByRecursion (IsReady ws) bs
    → AllByRecursion (IsReady (with_wanted ws b.loader (key_of b.key))) bs
ready-after onwards ws b [] here apart there ready = tt
ready-after onwards ws b (x ∷ xs) here apart there ready = (ready-one onwards ws b x here apart.0 there.0 ready.0, ready-after onwards ws b xs here apart.1 there.1 ready.1)

all-new : (onwards : List (Option Onward)) (ws : List WantedOf) (bs : List BlockedPosition) → IsDistinct is_position bs → AllByRecursion (GoesOn onwards) bs → AllByRecursion (IsReady ws) bs → AreNew ws bs
all-new onwards ws [] apart there ready = tt
all-new onwards ws (b ∷ bs) apart there ready =
    (ready.0.0, all-new onwards (with_wanted ws b.loader (key_of b.key)) bs (IsDistinct-tail is_position b bs apart) there.1 (ready-after onwards ws b bs there.0 (IsDistinct-head is_position b bs apart) there.1 ready.1))

-- ---- the positions are gone over

get-set-other : {X : Type 0} (xs : List X) (i l : ℕ) (v : X) → l ≢ i → slice_get (slice_set xs i v) l ≡ slice_get xs l
get-set-other [] i l v ne = refl
get-set-other (x ∷ xs) zero zero v ne = absurd (ne refl)
get-set-other (x ∷ xs) zero (suc l) v ne = refl
get-set-other (x ∷ xs) (suc i) zero v ne = refl
get-set-other (x ∷ xs) (suc i) (suc l) v ne = get-set-other xs i l v (λ e. ne (ap suc e))

get-set-same : {X : Type 0} (xs : List X) (i : ℕ) (v y : X) → slice_get xs i ≡ Some y → slice_get (slice_set xs i v) i ≡ Some v
get-set-same [] i v y h = absurd (cc h)
get-set-same (x ∷ xs) zero v y h = refl
get-set-same (x ∷ xs) (suc i) v y h = get-set-same xs i v y h

-- where a position goes on is noted for its loader, and what was noted stays
noted-here : (o : Onward) (l : ℕ) (ws : List WantedOf) (old new : List (Option Onward)) → Notes o l ws old new → slice_get new l ≡ Some (Some o)
noted-here o l ws old new (inl (there, same)) = ap (λ xs. slice_get xs l) same ∙ there
noted-here o l ws old new (inr (none, put, touched)) = ap (λ xs. slice_get xs l) put ∙ get-set-same old l (Some o) None none

noted-before : (o : Onward) (l : ℕ) (ws : List WantedOf) (old new : List (Option Onward)) → Notes o l ws old new → (p : ℕ) (q : Onward) → slice_get old p ≡ Some (Some q) → slice_get new p ≡ Some (Some q)
noted-before o l ws old new (inl (there, same)) p q at = ap (λ xs. slice_get xs p) same ∙ at
noted-before o l ws old new (inr (none, put, touched)) p q at = ap (λ xs. slice_get xs p) put ∙ get-set-other old l p (Some o) other ∙ at
  where
    apart : {a : Option Onward} → Some (Some q) ≡ Some a → a ≡ None → ⊥
    apart e f = cc (e, f)

    other : p ≢ l
    other e = apart (sym at ∙ ap (slice_get old) e ∙ none) refl

noted-untouched : (o : Onward) (l : ℕ) (ws : List WantedOf) (old new : List (Option Onward)) → Notes o l ws old new → ((p : ℕ) (q : Onward) → slice_get old p ≡ Some (Some q) → IsUntouched ws p)
    → (p : ℕ) (q : Onward) → slice_get new p ≡ Some (Some q) → IsUntouched ws p
noted-untouched o l ws old new (inl (there, same)) before p q at = before p q (ap (λ xs. slice_get xs p) (sym same) ∙ at)
noted-untouched o l ws old new (inr (none, put, touched)) before p q at = go (p == l) refl
  where
    go : (same : Bool) → (p == l) ≡ same → IsUntouched ws p
    go true e = subst (IsUntouched ws) (sym (eqb-true p l e)) touched
    go false e = before p q (sym (get-set-other old l p (Some o) (eqb-false p l e)) ∙ ap (λ xs. slice_get xs p) (sym put) ∙ at)

-- how the positions of each loader go on that were gone over
pub record AreAlike (onwards : List (Option Onward)) (ws : List WantedOf) (every left : List BlockedPosition) : Type 0 where
  pub done : List BlockedPosition
  pub split : every ≡ done ++ left
  pub alike : AllByRecursion (GoesOn onwards) done
  pub untouched : (l : ℕ) (o : Onward) → slice_get onwards l ≡ Some (Some o) → IsUntouched ws l
  pub loaders : length onwards ≡ length ws

pub alike-more : (old new : List (Option Onward)) (ws : List WantedOf) (every left rest : List BlockedPosition) (b : BlockedPosition) → left ≡ b ∷ rest → Notes b.onward b.loader ws old new → length new ≡ length old → AreAlike old ws every left → AreAlike new ws every rest
alike-more old new ws every left rest b next noted same h = record {
  done = h.done ++ b ∷ [];
  split = h.split ∙ ap (λ bs. h.done ++ bs) next ∙ sym (append_assoc h.done (b ∷ []) rest);
  alike = more h.done h.alike;
  untouched = noted-untouched b.onward b.loader ws old new noted h.untouched;
  loaders = same ∙ h.loaders;
}
  where
    more : (bs : List BlockedPosition) → AllByRecursion (GoesOn old) bs → AllByRecursion (GoesOn new) (bs ++ b ∷ [])
    more [] each = (noted-here b.onward b.loader ws old new noted, tt)
    more (x ∷ xs) each = (noted-before b.onward b.loader ws old new noted x.loader x.onward each.0, more xs each.1)

pub alike-new : (onwards : List (Option Onward)) (ws : List WantedOf) (every left : List BlockedPosition) → IsDistinct is_position every → left ≡ [] → AreAlike onwards ws every left → AreNew ws every
alike-new onwards ws every left apart none h = all-new onwards ws every apart there (ready every there)
  where
    end : (bs : List BlockedPosition) → bs ++ [] ≡ bs
    end [] = refl
    end (b ∷ bs) = ap (λ xs. b ∷ xs) (end bs)

    there : AllByRecursion (GoesOn onwards) every
    there = subst (AllByRecursion (GoesOn onwards)) (sym (h.split ∙ ap (λ bs. h.done ++ bs) none ∙ end h.done)) h.alike

    ready : (bs : List BlockedPosition) → AllByRecursion (GoesOn onwards) bs → AllByRecursion (IsReady ws) bs
    ready [] each = tt
    ready (b ∷ bs) each =
        let touched : IsUntouched ws b.loader = h.untouched b.loader b.onward each.0 in
        ((none-wanted ws b.loader (key_of b.key) touched.0, touched.1), ready bs each.1)

-- ---- places in a list

-- the position of a number, and those after it
pub position-there : (bs : List BlockedPosition) (i : ℕ) (b : BlockedPosition) → i < length bs → b ≡ get_or bs i b → drop i bs ≡ b ∷ drop (i + 1) bs
position-there bs i b lt is =
    let next : suc i ≡ i + 1 = omega arith in
    drop-cons bs i b lt ∙ ap (λ (x : BlockedPosition). x ∷ drop (suc i) bs) (sym is) ∙ ap (λ n. b ∷ drop n bs) next

pub none-left : (bs : List BlockedPosition) (i : ℕ) → length bs ≤ i → drop i bs ≡ []
none-left [] zero h = refl
none-left [] (suc i) h = refl
none-left (b ∷ bs) zero h = absurd (omega arith)
none-left (b ∷ bs) (suc i) h = none-left bs i (omega arith)

-- what was lent and written back
pub written-back : (new rest : List (Option Onward)) (count : ℕ) → length new ≡ count → take count (new ++ rest) ≡ new
written-back new rest count same = ap (λ n. take n (new ++ rest)) (sym same) ∙ go new
  where
    go : (xs : List (Option Onward)) → take (length xs) (xs ++ rest) ≡ xs
    go [] = refl
    go (x ∷ xs) = ap (λ ys. x ∷ ys) (go xs)

-- ---- the keys are added

pub rest-new : (are_new : Bool) (ws new : List WantedOf) (left rest : List BlockedPosition) (b : BlockedPosition) → left ≡ b ∷ rest → new ≡ with_wanted ws b.loader (key_of b.key) → (IsTrue are_new → AreNew ws left) → IsTrue are_new → AreNew new rest
rest-new are_new ws new left rest b next is h each = subst (λ w. AreNew w rest) (sym is) (subst (AreNew ws) next (h each)).1
