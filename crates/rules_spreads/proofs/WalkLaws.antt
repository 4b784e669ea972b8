-- The walk over spreads.
use Rattle.std.proofs.Common.{◌≡◌, ◌∙◌, sym, ap, ℕ, zero, suc, ◌+◌, ◌<◌, ◌≤◌, ◌⊎◌, inl, inr, Bool, true, false, List, [], ◌∷◌, ◌++◌, length, get_or, set, refl, arith, subst}
use Rattle.std.specs.Prelude.{◌==◌, nat_lt}
use Rattle.std.proofs.lemmas.List.{get_or-set_same, get_or-set_other, length-set, length-append}
use Rattle.std.proofs.lemmas.List.Folds.{list_any-append}
use Rattle.std.proofs.lemmas.Bool.{and_parts, or_left, or_right, or_cases, cases_eq, both_ways}
use Rattle.rules_parts.specs.declared.part.Owner.{Owner}
use Rattle.rules_parts.specs.declared.part.Owner.TheVariants as owner
use Rattle.rules_spreads.specs.Graphs.{GraphOf, row}
use Rattle.rules_spreads.specs.Reach.{is_among, are_below, are_known, reaches, Reaches, start, along}
use Rattle.rules_spreads.specs.SpreadReaches.{IsMarked, AreClear, AreListed, unmarked, Visits}
use Rattle.rules_spreads.proofs.ReachLaws.{through_sound, reaches_complete}

-- ---- lists of numbers

pub among-left : (k : ℕ) (xs ys : List ℕ) → is_among k xs ≡ true → is_among k (xs ++ ys) ≡ true
among-left k xs ys h = list_any-append (λ x. x == k) xs ys ∙ or_left (is_among k xs) (is_among k ys) h

pub among-last : (k : ℕ) (xs : List ℕ) → is_among k (xs ++ k ∷ []) ≡ true
among-last k xs = list_any-append (λ x. x == k) xs (k ∷ []) ∙ or_right (is_among k xs) _ (grind arith)

pub among-cases : (k y : ℕ) (xs : List ℕ) → is_among k (xs ++ y ∷ []) ≡ true → (is_among k xs ≡ true) ⊎ (k ≡ y)
among-cases k y xs h = go (or_cases (is_among k xs) (is_among k (y ∷ [])) (sym (list_any-append (λ x. x == k) xs (y ∷ [])) ∙ h))
  where
    one : ((y == k) ≡ true) ⊎ (is_among k [] ≡ true) → k ≡ y
    one (inl e) = grind arith
    one (inr e) = absurd (both_ways false refl e)

    go : (is_among k xs ≡ true) ⊎ (is_among k (y ∷ []) ≡ true) → (is_among k xs ≡ true) ⊎ (k ≡ y)
    go (inl e) = inl e
    go (inr e) = inr (one (or_cases (y == k) (is_among k []) e))

pub among-place : (k : ℕ) (xs : List ℕ) → is_among k xs ≡ true → (i : ℕ) × (i < length xs) × (get_or xs i 0 ≡ k)
among-place k [] h = absurd (both_ways false refl h)
among-place k (x ∷ xs) h = go (or_cases (x == k) (is_among k xs) h) (among-place k xs)
  where
    go : ((x == k) ≡ true) ⊎ (is_among k xs ≡ true) → (is_among k xs ≡ true → (i : ℕ) × (i < length xs) × (get_or xs i 0 ≡ k)) → (i : ℕ) × (i < length (x ∷ xs)) × (get_or (x ∷ xs) i 0 ≡ k)
    go (inl e) rest = (0, omega arith, grind arith)
    go (inr e) rest = let r = rest e in (suc (r.0), omega (arith, r.1), r.2)

pub among-at : (xs : List ℕ) (i : ℕ) → i < length xs → is_among (get_or xs i 0) xs ≡ true
among-at [] i h = absurd (omega arith)
among-at (x ∷ xs) zero h = or_left (x == x) (is_among x xs) (grind arith)
among-at (x ∷ xs) (suc i) h = or_right (x == get_or xs i 0) (is_among (get_or xs i 0) xs) (among-at xs i (omega arith))

pub below-at : (n : ℕ) (xs : List ℕ) (i : ℕ) → are_below n xs ≡ true → i < length xs → get_or xs i 0 < n
below-at n [] i b h = absurd (omega arith)
below-at n (x ∷ xs) zero b h = let p = (and_parts (nat_lt x n) (are_below n xs) b).0 in grind arith
below-at n (x ∷ xs) (suc i) b h = below-at n xs i (and_parts (nat_lt x n) (are_below n xs) b).1 (omega arith)

pub below-more : (n m : ℕ) (xs : List ℕ) → n ≤ m → are_below n xs ≡ true → are_below m xs ≡ true
below-more n m [] le h = refl
below-more n m (x ∷ xs) le h =
    let p = and_parts (nat_lt x n) (are_below n xs) h in
    let here : nat_lt x m ≡ true = let lt = p.0 in grind arith in
    rw here (below-more n m xs le p.1)

-- ---- marks

pub unmarked-set : (marks : List Bool) (i : ℕ) → i < length marks → get_or marks i false ≡ false → unmarked (set marks i true) + 1 ≡ unmarked marks
unmarked-set [] i h e = absurd (omega arith)
unmarked-set (b ∷ bs) zero h e = rw e (omega arith)
unmarked-set (b ∷ bs) (suc i) h e = omega (arith, unmarked-set bs i (omega arith) e)

pub unmarked-clear : (marks : List Bool) → AreClear marks → unmarked marks ≡ length marks
unmarked-clear [] h = refl
unmarked-clear (b ∷ bs) h = rw (h 0) (omega (arith, unmarked-clear bs (λ k. h (suc k))))

pub marked-below : (marks : List Bool) (k : ℕ) → IsMarked marks k → k < length marks
marked-below [] k h = absurd (both_ways false refl h)
marked-below (b ∷ bs) zero h = omega arith
marked-below (b ∷ bs) (suc k) h = omega (arith, marked-below bs k h)

-- ---- clearing

pub listed-none : (marks : List Bool) → AreListed marks [] → AreClear marks
listed-none marks h k = go (get_or marks k false) refl
  where
    go : (b : Bool) → get_or marks k false ≡ b → get_or marks k false ≡ false
    go true e = absurd (both_ways false refl (h k e))
    go false e = e

pub listed-clear : (marks : List Bool) (reached : List ℕ) → AreClear marks → AreListed marks reached
listed-clear marks reached h k m = absurd (both_ways _ (h k) m)

-- the last of the list was taken off, and its mark away
pub listed-pop : (marks : List Bool) (reached : List ℕ) (x : ℕ) → AreListed marks (reached ++ x ∷ []) → AreListed (set marks x false) reached
listed-pop marks reached x h k m = go (cases_eq k x)
  where
    other : (k ≡ x → ⊥) → (is_among k reached ≡ true) ⊎ (k ≡ x) → is_among k reached ≡ true
    other n (inl e) = e
    other n (inr e) = absurd (n e)

    gone : (i : ℕ) (bs : List Bool) → IsMarked (set bs i false) i → ⊥
    gone i [] e = both_ways false refl e
    gone zero (b ∷ bs) e = both_ways false refl e
    gone (suc i) (b ∷ bs) e = gone i bs e

    go : (k ≡ x) ⊎ (k ≡ x → ⊥) → is_among k reached ≡ true
    go (inl e) = absurd (gone x marks (let P : ℕ → Type 0 = λ n. IsMarked (set marks x false) n in subst P e m))
    go (inr n) = other n (among-cases k x reached (h k (sym (get_or-set_other marks x k false false n) ∙ m)))

-- there was no such mark
pub listed-pop-beyond : (marks : List Bool) (reached : List ℕ) (x : ℕ) → length marks ≤ x → AreListed marks (reached ++ x ∷ []) → AreListed marks reached
listed-pop-beyond marks reached x le h k m = go (among-cases k x reached (h k m))
  where
    go : (is_among k reached ≡ true) ⊎ (k ≡ x) → is_among k reached ≡ true
    go (inl e) = e
    go (inr e) = absurd (omega (arith, marked-below marks k m))

pub clear-push : (marks : List Bool) → AreClear marks → AreClear (marks ++ false ∷ [])
clear-push [] h zero = refl
clear-push [] h (suc k) = refl
clear-push (b ∷ bs) h zero = h 0
clear-push (b ∷ bs) h (suc k) = clear-push bs (λ i. h (suc i)) k

-- ---- visits

pub visits-none : (marks : List Bool) (reached : List ℕ) → Visits marks marks reached reached []
visits-none marks reached = record {
  len = refl;
  grows = λ k h. h;
  all = λ k h. absurd (both_ways false refl h);
  only = λ k h. inl h;
  kept = λ k h. h;
  new = λ k h. inl h;
  listed = λ k h. inl h;
  longer = omega arith;
  front = λ i h. refl;
  count = refl;
}

-- one that is marked
pub visits-old : (marks marks' : List Bool) (reached reached' ys : List ℕ) (y : ℕ) → Visits marks marks' reached reached' ys → IsMarked marks' y → Visits marks marks' reached reached' (ys ++ y ∷ [])
visits-old marks marks' reached reached' ys y v s = record {
  len = v.len;
  grows = v.grows;
  all = λ k h. each k (among-cases k y ys h);
  only = λ k h. one k (v.only k h);
  kept = v.kept;
  new = v.new;
  listed = v.listed;
  longer = v.longer;
  front = v.front;
  count = v.count;
}
  where
    each : (k : ℕ) → (is_among k ys ≡ true) ⊎ (k ≡ y) → IsMarked marks' k
    each k (inl h) = v.all k h
    each k (inr e) = rw e s

    one : (k : ℕ) → IsMarked marks k ⊎ (is_among k ys ≡ true) → IsMarked marks k ⊎ (is_among k (ys ++ y ∷ []) ≡ true)
    one k (inl h) = inl h
    one k (inr h) = inr (among-left k ys (y ∷ []) h)

front-push : (xs : List ℕ) (y i : ℕ) → i < length xs → get_or (xs ++ y ∷ []) i 0 ≡ get_or xs i 0
front-push [] y i h = absurd (omega arith)
front-push (x ∷ xs) y zero h = refl
front-push (x ∷ xs) y (suc i) h = front-push xs y i (omega arith)

-- one that is not
pub visits-new : (marks marks' : List Bool) (reached reached' ys : List ℕ) (y : ℕ) → Visits marks marks' reached reached' ys → y < length marks' → get_or marks' y false ≡ false
    → Visits marks (set marks' y true) reached (reached' ++ y ∷ []) (ys ++ y ∷ [])
visits-new marks marks' reached reached' ys y v lt e = record {
  len = rw length-set v.len;
  grows = λ k h. keep k (v.grows k h);
  all = λ k h. each k (among-cases k y ys h);
  only = λ k h. one k (before k h);
  kept = λ k h. among-left k reached' (y ∷ []) (v.kept k h);
  new = λ k h. fresh k (before k h);
  listed = λ k h. seen k (among-cases k y reached' h);
  longer = omega (arith, length-append {A = ℕ}, v.longer);
  front = λ i h. front-push reached' y i (omega (arith, v.longer)) ∙ v.front i h;
  count = omega (arith, length-append {A = ℕ}, v.count, unmarked-set marks' y lt e);
}
  where
    here : (k : ℕ) → k ≡ y → IsMarked (set marks' y true) k
    here k s = rw s (get_or-set_same marks' y true false lt)

    keep : (k : ℕ) → IsMarked marks' k → IsMarked (set marks' y true) k
    keep k h = go (cases_eq k y)
      where
        go : (k ≡ y) ⊎ (k ≡ y → ⊥) → IsMarked (set marks' y true) k
        go (inl s) = here k s
        go (inr n) = get_or-set_other marks' y k true false n ∙ h

    before : (k : ℕ) → IsMarked (set marks' y true) k → IsMarked marks' k ⊎ (k ≡ y)
    before k h = go (cases_eq k y)
      where
        go : (k ≡ y) ⊎ (k ≡ y → ⊥) → IsMarked marks' k ⊎ (k ≡ y)
        go (inl s) = inr s
        go (inr n) = inl (sym (get_or-set_other marks' y k true false n) ∙ h)

    each : (k : ℕ) → (is_among k ys ≡ true) ⊎ (k ≡ y) → IsMarked (set marks' y true) k
    each k (inl h) = keep k (v.all k h)
    each k (inr s) = here k s

    left : (k : ℕ) → IsMarked marks k ⊎ (is_among k ys ≡ true) → IsMarked marks k ⊎ (is_among k (ys ++ y ∷ []) ≡ true)
    left k (inl h) = inl h
    left k (inr h) = inr (among-left k ys (y ∷ []) h)

    one : (k : ℕ) → IsMarked marks' k ⊎ (k ≡ y) → IsMarked marks k ⊎ (is_among k (ys ++ y ∷ []) ≡ true)
    one k (inl h) = left k (v.only k h)
    one k (inr s) = inr (rw s (among-last y ys))

    old : (k : ℕ) → IsMarked marks k ⊎ (is_among k reached' ≡ true) → IsMarked marks k ⊎ (is_among k (reached' ++ y ∷ []) ≡ true)
    old k (inl h) = inl h
    old k (inr h) = inr (among-left k reached' (y ∷ []) h)

    fresh : (k : ℕ) → IsMarked marks' k ⊎ (k ≡ y) → IsMarked marks k ⊎ (is_among k (reached' ++ y ∷ []) ≡ true)
    fresh k (inl h) = old k (v.new k h)
    fresh k (inr s) = inr (rw s (among-last y reached'))

    marked : (k : ℕ) → (is_among k reached ≡ true) ⊎ IsMarked marks' k → (is_among k reached ≡ true) ⊎ IsMarked (set marks' y true) k
    marked k (inl h) = inl h
    marked k (inr h) = inr (keep k h)

    seen : (k : ℕ) → (is_among k reached' ≡ true) ⊎ (k ≡ y) → (is_among k reached ≡ true) ⊎ IsMarked (set marks' y true) k
    seen k (inl h) = marked k (v.listed k h)
    seen k (inr s) = inr (here k s)

pub visits-listed : (marks marks' : List Bool) (reached reached' ys : List ℕ) → Visits marks marks' reached reached' ys → AreListed marks reached → AreListed marks' reached'
visits-listed marks marks' reached reached' ys v h k m = go (v.new k m)
  where
    go : IsMarked marks k ⊎ (is_among k reached' ≡ true) → is_among k reached' ≡ true
    go (inl e) = v.kept k (h k e)
    go (inr e) = e

-- ---- the whole walk

-- Says what the walk keeps: what is marked is reached and listed, what is listed is marked, and the first of the list have all
-- that they spread marked.
pub record Follows (g : GraphOf) (o : Owner) (marks : List Bool) (reached : List ℕ) (next : ℕ) : Type 0 where
  pub room : length g.fragments ≤ length marks
  pub sound : (k : ℕ) → IsMarked marks k → Reaches g o k
  pub starts : (k : ℕ) → is_among k (row g o) ≡ true → IsMarked marks k
  pub listed : (k : ℕ) → IsMarked marks k → is_among k reached ≡ true
  pub marked : (k : ℕ) → is_among k reached ≡ true → IsMarked marks k
  pub closed : (i : ℕ) → i < next → (k : ℕ) → is_among k (row g (owner.Fragment (get_or reached i 0))) ≡ true → IsMarked marks k
  pub within : next ≤ length reached
  pub count : unmarked marks + length reached ≡ length marks

pub follow-starts : (g : GraphOf) (o : Owner) (marks marks' : List Bool) (reached' : List ℕ) → length g.fragments ≤ length marks → AreClear marks → Visits marks marks' [] reached' (row g o) → Follows g o marks' reached' 0
follow-starts g o marks marks' reached' room none v = record {
  room = omega (arith, v.len);
  sound = λ k h. reach k (v.only k h);
  starts = v.all;
  listed = λ k h. list k (v.new k h);
  marked = λ k h. mark k (v.listed k h);
  closed = λ i h. absurd (omega arith);
  within = omega arith;
  count = omega (arith, v.count, v.len, unmarked-clear marks none);
}
  where
    reach : (k : ℕ) → IsMarked marks k ⊎ (is_among k (row g o) ≡ true) → Reaches g o k
    reach k (inl h) = absurd (both_ways _ (none k) h)
    reach k (inr h) = start h

    list : (k : ℕ) → IsMarked marks k ⊎ (is_among k reached' ≡ true) → is_among k reached' ≡ true
    list k (inl h) = absurd (both_ways _ (none k) h)
    list k (inr h) = h

    mark : (k : ℕ) → (is_among k [] ≡ true) ⊎ IsMarked marks' k → IsMarked marks' k
    mark k (inl h) = absurd (both_ways false refl h)
    mark k (inr h) = h

pub follow-goes : (g : GraphOf) (o : Owner) (marks marks' : List Bool) (reached reached' : List ℕ) (next x : ℕ) → x ≡ get_or reached next 0 → next < length reached → Follows g o marks reached next
    → Visits marks marks' reached reached' (row g (owner.Fragment x)) → Follows g o marks' reached' (next + 1)
follow-goes g o marks marks' reached reached' next x is lt w v = record {
  room = omega (arith, w.room, v.len);
  sound = λ k h. reach k (v.only k h);
  starts = λ k h. v.grows k (w.starts k h);
  listed = visits-listed marks marks' reached reached' (row g (owner.Fragment x)) v w.listed;
  marked = λ k h. mark k (v.listed k h);
  closed = λ i h k m. close i k (cases_eq i next) h m;
  within = omega (arith, v.longer);
  count = omega (arith, w.count, v.count, v.len);
}
  where
    here : IsMarked marks x
    here = w.marked x (rw is (among-at reached next lt))

    reach : (k : ℕ) → IsMarked marks k ⊎ (is_among k (row g (owner.Fragment x)) ≡ true) → Reaches g o k
    reach k (inl h) = w.sound k h
    reach k (inr h) = along (w.sound x here) h

    mark : (k : ℕ) → (is_among k reached ≡ true) ⊎ IsMarked marks' k → IsMarked marks' k
    mark k (inl h) = v.grows k (w.marked k h)
    mark k (inr h) = h

    close : (i k : ℕ) → (i ≡ next) ⊎ (i ≡ next → ⊥) → i < next + 1 → is_among k (row g (owner.Fragment (get_or reached' i 0))) ≡ true → IsMarked marks' k
    close i k (inl e) h m =
        let same : get_or reached' i 0 ≡ x = ap (λ n. get_or reached' n 0) e ∙ (v.front next lt ∙ sym is) in
        let P : ℕ → Type 0 = λ n. is_among k (row g (owner.Fragment n)) ≡ true in
        v.all k (subst P same m)
    close i k (inr n) h m =
        let before : i < next = omega arith in
        let P : ℕ → Type 0 = λ f. is_among k (row g (owner.Fragment f)) ≡ true in
        v.grows k (w.closed i before k (subst P (v.front i (omega arith)) m))

same_tests : (a b : Bool) → (a ≡ true → b ≡ true) → (b ≡ true → a ≡ true) → a ≡ b
same_tests true b f g = sym (f refl)
same_tests false true f g = g refl
same_tests false false f g = refl

pub follow-ends : (g : GraphOf) (o : Owner) (marks : List Bool) (reached : List ℕ) (next : ℕ) → are_known g ≡ true → length reached ≤ next → Follows g o marks reached next → (j : ℕ) → is_among j reached ≡ reaches g o j
follow-ends g o marks reached next known end w j =
    same_tests (is_among j reached) (reaches g o j)
    (λ h. reaches_complete g o j known (w.sound j (w.marked j h)))
    (λ h. w.listed j (back j (through_sound (length g.fragments) g o j h)))
  where
    next-one : (k m : ℕ) → ((i : ℕ) × (i < length reached) × (get_or reached i 0 ≡ k)) → is_among m (row g (owner.Fragment k)) ≡ true → IsMarked marks m
    next-one k m r h =
        let P : ℕ → Type 0 = λ f. is_among m (row g (owner.Fragment f)) ≡ true in
        w.closed (r.0) (omega (arith, r.1)) m (subst P (sym (r.2)) h)

    back : (m : ℕ) → Reaches g o m → IsMarked marks m
    back m (start h) = w.starts m h
    back m (along {k = k} r h) = next-one k m (among-place k reached (w.listed k (back k r))) h
