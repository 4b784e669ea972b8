-- The entries of a round are marked, one after another.
use Rattle.std.proofs.Common.{◌≡◌, ◌<◌, ℕ, zero, suc, true, List, [], ◌∷◌, ◌++◌, map, take, drop, length, get_or, refl, ap, ◌∙◌, sym, arith}
use Rattle.std.specs.Prelude.{◌==◌, ◌≤◌, Bool, false, Option, if◌then◌else◌, slice_set, All}
use Rattle.std.proofs.lemmas.List.{set-get_or, take-map, length-map, length-append, take-append-le}
use Rattle.std.proofs.lemmas.List.Elements.{All-append, All-map}
use Rattle.std.proofs.Math.Seq.{take-append_seam}
use Rattle.std.proofs.lemmas.Bool.{eq-eqb, ne_eqb}
use Rattle.load_memory.specs.Keys.{KeyOf}
use Rattle.load_queue.specs.Loaders.{AskedOf, marked, entered}
use Rattle.load_queue.specs.Logs.{asked_of, IsLoader}
use Rattle.load_queue.specs.declared.loader.LogEntry.{LogEntry}

heads : {X : Type 0} (x y : X) (xs ys : List X) → x ∷ xs ≡ y ∷ ys → x ≡ y
heads x y xs ys e = cc e

tails : {X : Type 0} (x y : X) (xs ys : List X) → x ∷ xs ≡ y ∷ ys → xs ≡ ys
tails x y xs ys e = cc e

-- one entry more is marked
pub mark-one : (round i n : ℕ) (es : List LogEntry) (all : List AskedOf) (e x : LogEntry) → n ≡ suc i → i < length es → e ≡ get_or es i e → asked_of x ≡ marked round (asked_of e)
    → map asked_of es ≡ map (marked round) (take i all) ++ drop i all → map asked_of (slice_set es i x) ≡ map (marked round) (take n all) ++ drop n all
mark-one round i n [] all e x next lt at is h = absurd (omega arith)
mark-one round zero n (e0 ∷ es) [] e x next lt at is h = absurd (cc h)
mark-one round (suc i) n (e0 ∷ es) [] e x next lt at is h = absurd (cc h)
mark-one round zero n (e0 ∷ es) (a ∷ all) e x next lt at is h =
    let first : asked_of x ≡ marked round a = is ∙ ap (λ y. marked round (asked_of y)) at ∙ ap (marked round) (heads (asked_of e0) a (map asked_of es) all h) in
    rw next (ap (λ y. y ∷ map asked_of es) first ∙ ap (λ ys. marked round a ∷ ys) (tails (asked_of e0) a (map asked_of es) all h))
mark-one round (suc i) n (e0 ∷ es) (a ∷ all) e x next lt at is h =
    let first = heads (asked_of e0) (marked round a) (map asked_of es) (map (marked round) (take i all) ++ drop i all) h in
    let rest = tails (asked_of e0) (marked round a) (map asked_of es) (map (marked round) (take i all) ++ drop i all) h in
    rw (next, first) (ap (λ xs. marked round a ∷ xs) (mark-one round i (suc i) es all e x refl (omega arith) at is rest))

-- an entry of another round stays
pub mark-none : (round i n : ℕ) (es : List LogEntry) (all : List AskedOf) (e : LogEntry) → n ≡ suc i → i < length es → e ≡ get_or es i e → (e.round ≡ round → ⊥)
    → map asked_of es ≡ map (marked round) (take i all) ++ drop i all → map asked_of es ≡ map (marked round) (take n all) ++ drop n all
mark-none round i n es all e next lt at other h =
    let same : slice_set es i e ≡ es = ap (λ x. slice_set es i x) at ∙ set-get_or es i e in
    ap (map asked_of) (sym same) ∙ mark-one round i n es all e e next lt at (rw (ne_eqb e.round round other) refl) h

-- an entry of this round is marked
pub mark-this : (round i n : ℕ) (es : List LogEntry) (all : List AskedOf) (e x : LogEntry) → n ≡ suc i → i < length es → e ≡ get_or es i e → e.round ≡ round → asked_of x ≡ record (asked_of e) { stored = true }
    → map asked_of es ≡ map (marked round) (take i all) ++ drop i all → map asked_of (slice_set es i x) ≡ map (marked round) (take n all) ++ drop n all
mark-this round i n es all e x next lt at own is h = mark-one round i n es all e x next lt at (rw (eq-eqb e.round round own) is) h

-- entries of other rounds stay
pub none-marked : (round : ℕ) (xs : List AskedOf) → All (λ (a : AskedOf). a.round ≡ round → ⊥) xs → map (marked round) xs ≡ xs
none-marked round [] h = refl
none-marked round (x ∷ xs) h =
    let first : marked round x ≡ x = rw (ne_eqb x.round round (h 0 x (omega arith))) refl in
    ap (λ y. y ∷ map (marked round) xs) first ∙ ap (λ ys. x ∷ ys) (none-marked round xs (λ k d lt. h (suc k) d (omega (arith, lt))))

-- an element at a place doesn't depend on the default that stands for one past the end
pub same-there : {X : Type 0} (i : ℕ) (xs : List X) (a b : X) → i < length xs → get_or xs i a ≡ get_or xs i b
same-there i [] a b lt = absurd (omega arith)
same-there zero (x ∷ xs) a b lt = refl
same-there (suc i) (x ∷ xs) a b lt = same-there i xs a b (omega arith)

-- marking changes no round
pub rounds-kept : (P : ℕ → Type 0) (round : ℕ) (xs : List AskedOf) → All (λ (a : AskedOf). P a.round) xs → All (λ (a : AskedOf). P a.round) (map (marked round) xs)
rounds-kept P round [] h k d lt = h k d lt
rounds-kept P round (x ∷ xs) h zero d lt = go (x.round == round) where
  go : (b : Bool) → P (if b then record x { stored = true } else x).round
  go true = h 0 x (omega arith)
  go false = h 0 x (omega arith)
rounds-kept P round (x ∷ xs) h (suc k) d lt = rounds-kept P round xs (λ k d lt. h (suc k) d (omega (arith, lt))) k d (omega (arith, lt))

-- earlier rounds aren't this one
pub earlier-other : (latest round : ℕ) (xs : List AskedOf) → latest ≤ round → All (λ (a : AskedOf). a.round < latest) xs → All (λ (a : AskedOf). a.round ≡ round → ⊥) xs
earlier-other latest round xs le h k d lt e = absurd (omega (arith, h k d lt, e, le))

-- a loader's log stays lawful where it is marked
pub is-loader-marked : (limit : Option ℕ) (latest earlier round : ℕ) (log : List AskedOf) → IsLoader limit latest earlier log → IsLoader limit latest earlier (map (marked round) log)
is-loader-marked limit latest earlier round log h = record {
  limited = h.limited;
  upto = rounds-kept (λ r. r ≤ latest) round log h.upto;
  before = rw (take-map (marked round) earlier log) (rounds-kept (λ r. r < latest) round (take earlier log) h.before);
  within = rw (length-map log (marked round)) h.within;
}

all-weaker : (P Q : AskedOf → Type 0) (xs : List AskedOf) → ((a : AskedOf) → P a → Q a) → All P xs → All Q xs
all-weaker P Q xs f h k d lt = f (get_or xs k d) (h k d lt)

-- the entries of a round
all-entered : (round latest : ℕ) (ks : List (List KeyOf)) → round ≤ latest → All (λ (a : AskedOf). a.round ≤ latest) (map (entered round) ks)
all-entered round latest ks le = All-map (λ (a : AskedOf). a.round ≤ latest) (entered round) ks (λ k d lt. le)

-- a batch of a later round is entered
pub is-loader-later : (limit : Option ℕ) (latest earlier round n : ℕ) (log : List AskedOf) (ks : List (List KeyOf)) → latest < round → n ≡ length log → IsLoader limit latest earlier log
    → IsLoader limit round n (log ++ map (entered round) ks)
is-loader-later limit latest earlier round n log ks lt e h = record {
  limited = h.limited;
  upto = All-append (λ (a : AskedOf). a.round ≤ round) log (map (entered round) ks) (all-weaker (λ (a : AskedOf). a.round ≤ latest) (λ (a : AskedOf). a.round ≤ round) log (λ a le. omega (arith, le, lt)) h.upto) (all-entered round round ks (omega arith));
  before = rw (e, take-append_seam log (map (entered round) ks)) (all-weaker (λ (a : AskedOf). a.round ≤ latest) (λ (a : AskedOf). a.round < round) log (λ a le. omega (arith, le, lt)) h.upto);
  within = rw (length-append log (map (entered round) ks)) (omega (arith, e));
}

-- a batch of no later round is entered
pub is-loader-more : (limit : Option ℕ) (latest earlier round : ℕ) (log : List AskedOf) (ks : List (List KeyOf)) → round ≤ latest → IsLoader limit latest earlier log
    → IsLoader limit latest earlier (log ++ map (entered round) ks)
is-loader-more limit latest earlier round log ks le h = record {
  limited = h.limited;
  upto = All-append (λ (a : AskedOf). a.round ≤ latest) log (map (entered round) ks) h.upto (all-entered round latest ks le);
  before = rw (take-append-le earlier log (map (entered round) ks) h.within) h.before;
  within = rw (length-append log (map (entered round) ks)) (omega (arith, h.within));
}
