-- The point that a walk has come to says how much it has put.
use Rattle.std.proofs.Common.{◌≡◌, ◌<◌, ◌+◌, ◌-◌, ◌⊎◌, inl, inr, ℕ, suc, Bool, true, false, List, [], ◌∷◌, ◌++◌, length, None, Some, refl, sym, ◌∙◌, ap, subst, arith, append-nil, length-append}
use Rattle.std.proofs.lemmas.List.{take_at}
use Rattle.execution.specs.Loads.{Reader}
use Rattle.execution.specs.Program.{Kind, Program, Is, Read, Under, Programs, End, With, given}
use Rattle.plan_walk.specs.Puts.{Put, Begins, Ends, Enters, Has, Reads, Waits, puts, all_puts, entries}
use Rattle.gq_resolve.specs.Points.{PointOf, with_more, without_last, point_after, points_after, origin}
use Rattle.gq_resolve.specs.ReadBack.{ShapeOf, StandsAt, IsNext, AreInOrder, at_root}
use Rattle.gq_resolve.specs.Composing.{in-order-first}

-- ---- paths

-- the step that was added last is left out again
pub last-left : (path : List ℕ) (x : ℕ) → without_last (path ++ x ∷ []) ≡ path
last-left path x = take_at path (x ∷ []) (length (path ++ x ∷ []) - 1) (omega (arith, length-append path (x ∷ [])))

-- positions are counted in the innermost
pub last-more : (n : ℕ) (path : List ℕ) (x : ℕ) → with_more n (path ++ x ∷ []) ≡ path ++ (x + n) ∷ []
last-more n [] x = refl
last-more n (y ∷ []) x = refl
last-more n (y ∷ z ∷ path) x = ap (λ (xs : List ℕ). y ∷ xs) (last-more n (z ∷ path) x)

-- some more, and then others
pub more-more : (m n : ℕ) (path : List ℕ) → with_more n (with_more m path) ≡ with_more (m + n) path
more-more m n [] = refl
more-more m n (x ∷ []) = ap (λ (y : ℕ). y ∷ []) (omega arith)
more-more m n (x ∷ y ∷ []) = ap (λ (ys : List ℕ). x ∷ ys) (more-more m n (y ∷ []))
more-more m n (x ∷ y ∷ z ∷ path) = ap (λ (ys : List ℕ). x ∷ ys) (more-more m n (y ∷ z ∷ path))

-- none more
pub none-more : (path : List ℕ) → with_more 0 path ≡ path
none-more [] = refl
none-more (x ∷ []) = ap (λ (y : ℕ). y ∷ []) (omega arith)
none-more (x ∷ y ∷ path) = ap (λ (ys : List ℕ). x ∷ ys) (none-more (y ∷ path))

-- ---- the point after what is put of a position

-- after some puts, and then others
pub points-append : (xs ys : List Put) (p : PointOf) → points_after (xs ++ ys) p ≡ points_after ys (points_after xs p)
points-append [] ys p = refl
points-append (x ∷ xs) ys p = points-append xs ys (point_after x p)

mutual
  -- a value was put where a position was entered
  pub points-value : (non_null : Bool) (q : Program) (R : Reader) (p : PointOf) → p.entered ≡ true → points_after (puts non_null q R) p ≡ record p { entered = false }
  points-value non_null (Is leaf_value) R p e = refl
  points-value non_null (Read load next) R p e =
      elim (R load) as (λ o. points_after (given o (Waits (Read load next) ∷ []) (λ outcome. puts non_null (next outcome) R)) p ≡ record p { entered = false }) [
        | None ↦ refl
        | Some outcome ↦ points-value non_null (next outcome) R p e
      ]
  points-value non_null (Under kind below) R p e =
      points-append (all_puts kind below R) (Ends kind non_null ∷ []) (point_after (Begins kind) p)
      ∙ ap (point_after (Ends kind non_null)) (points-passed kind below R (point_after (Begins kind) p) refl)
      ∙ ap (λ (path : List ℕ). record { path = without_last path; entered = false }) (last-more (entries below) p.path 0)
      ∙ ap (λ (path : List ℕ). record { path = path; entered = false }) (last-left p.path (0 + entries below))

  -- all positions of an object or a list were passed
  pub points-passed : (kind : Kind) (us : Programs) (R : Reader) (p : PointOf) → p.entered ≡ false
      → points_after (all_puts kind us R) p ≡ record { path = with_more (entries us) p.path; entered = false }
  points-passed kind End R p e = ap (λ (b : Bool). record { path = p.path; entered = b }) e ∙ ap (λ (path : List ℕ). record { path = path; entered = false }) (sym (none-more p.path))
  points-passed kind (With position q rest) R p e =
      let at : PointOf = point_after (Enters kind position) p in
      points-append (puts position.non_null q R) (all_puts kind rest R) at
      ∙ ap (points_after (all_puts kind rest R)) (points-value position.non_null q R at refl)
      ∙ points-passed kind rest R (record at { entered = false }) refl
      ∙ ap (λ (path : List ℕ). record { path = path; entered = false }) (more-more 1 (entries rest) p.path ∙ ap (λ (n : ℕ). with_more n p.path) (omega arith))

-- ---- the point of where the next put stands

-- how many positions were entered, outermost first
abbrev pub counts : List ShapeOf → List ℕ
counts [] = []
counts (s ∷ ss) = counts ss ++ s.count ∷ []

-- the point says where the next put stands
pub record IsPointOf (s : StandsAt) (p : PointOf) : Type 0 where
  pub path : p.path ≡ counts s.within
  pub entered : p.entered ≡ s.entered

-- the point after one put in order
point-next : (x : Put) (s t : StandsAt) (p : PointOf) → IsNext x s t → IsPointOf s p → IsPointOf t (point_after x p)
point-next (Begins kind) s t p (e, f) h = subst (λ (u : StandsAt). IsPointOf u (point_after (Begins kind) p)) (sym f) (record {
  path = ap (λ (path : List ℕ). path ++ 0 ∷ []) h.path;
  entered = refl;
})
point-next (Ends kind non_null) s t p (e, f, n, is) h = record {
  path = ap without_last (h.path ∙ ap counts is) ∙ last-left (counts t.within) n;
  entered = sym f;
}
point-next (Enters kind position) s t p (e, n, rest, is, step, f) h = subst (λ (u : StandsAt). IsPointOf u (point_after (Enters kind position) p)) (sym f) (record {
  path = ap (with_more 1) (h.path ∙ ap counts is) ∙ last-more 1 (counts rest) n ∙ ap (λ (m : ℕ). counts rest ++ m ∷ []) (omega arith);
  entered = refl;
})
point-next (Has non_null leaf_value) s t p (e, f) h = subst (λ (u : StandsAt). IsPointOf u (point_after (Has non_null leaf_value) p)) (sym f) (record { path = h.path; entered = refl })
point-next Reads s t p (e, f) h = subst (λ (u : StandsAt). IsPointOf u p) (sym f) h
point-next (Waits program) s t p (e, f) h = subst (λ (u : StandsAt). IsPointOf u (point_after (Waits program) p)) (sym f) (record { path = h.path; entered = refl })

-- the point after puts in order
pub point-ordered : (ps : List Put) (s t : StandsAt) (p : PointOf) → AreInOrder ps s t → IsPointOf s p → IsPointOf t (points_after ps p)
point-ordered [] s t p order h = subst (λ (u : StandsAt). IsPointOf u p) (sym order) h
point-ordered (x ∷ ps) s t p (u, next, order) h = point-ordered ps u t (point_after x p) order (point-next x s u p next h)

-- ---- one point comes after another

-- Says that one point comes before another, each by its path and by whether it has just entered a position: at the first number that
-- differs it has the smaller one; or its path is the front of the other's, and it has just entered; or the other's is the front of its own,
-- and the other has not. Of one path, it has just entered, and the other has not.
abbrev IsBefore : List ℕ → Bool → List ℕ → Bool → Type 0
IsBefore [] a [] b = (a ≡ true) × (b ≡ false)
IsBefore [] a (y ∷ ys) b = a ≡ true
IsBefore (x ∷ xs) a [] b = b ≡ false
IsBefore (x ∷ xs) a (y ∷ ys) b = (x < y) ⊎ ((x ≡ y) × IsBefore xs a ys b)

-- what comes after the second comes after the first
before-more : (xs ys zs : List ℕ) (a b c : Bool) → IsBefore xs a ys b → IsBefore ys b zs c → IsBefore xs a zs c
before-more [] [] [] a b c p q = (p.0, q.1)
before-more [] [] (z ∷ zs) a b c p q = p.0
before-more [] (y ∷ ys) [] a b c p q = (p, q)
before-more [] (y ∷ ys) (z ∷ zs) a b c p q = p
before-more (x ∷ xs) [] [] a b c p q = q.1
before-more (x ∷ xs) [] (z ∷ zs) a b c p q = absurd (cc (p, q))
before-more (x ∷ xs) (y ∷ ys) [] a b c p q = q
before-more (x ∷ xs) (y ∷ ys) (z ∷ zs) a b c (inl p) (inl q) = inl (omega (arith, p, q))
before-more (x ∷ xs) (y ∷ ys) (z ∷ zs) a b c (inl p) (inr q) = inl (omega (arith, p, q.0))
before-more (x ∷ xs) (y ∷ ys) (z ∷ zs) a b c (inr p) (inl q) = inl (omega (arith, p.0, q))
before-more (x ∷ xs) (y ∷ ys) (z ∷ zs) a b c (inr p) (inr q) = inr (p.0 ∙ q.0, before-more xs ys zs a b c p.1 q.1)

-- none comes before itself
before-other : (xs : List ℕ) (a : Bool) → IsBefore xs a xs a → ⊥
before-other [] a p = cc (p.0, p.1)
before-other (x ∷ xs) a (inl p) = omega (arith, p)
before-other (x ∷ xs) a (inr p) = before-other xs a p.1

-- so it is below a path
before-below : (path xs ys : List ℕ) (a b : Bool) → IsBefore xs a ys b → IsBefore (path ++ xs) a (path ++ ys) b
before-below [] xs ys a b p = p
before-below (x ∷ path) xs ys a b p = inr (refl, before-below path xs ys a b p)

-- the point of the first comes before the point of the second
abbrev ComesBefore : StandsAt → StandsAt → Type 0
ComesBefore s t = IsBefore (counts s.within) s.entered (counts t.within) t.entered

-- what is below a path comes after it
before-in : (path ys : List ℕ) (a b : Bool) → IsBefore [] a ys b → IsBefore path a (path ++ ys) b
before-in path ys a b p = subst (λ (xs : List ℕ). IsBefore xs a (path ++ ys) b) (append-nil path) (before-below path [] ys a b p)

-- what comes after all below a path
before-out : (path xs : List ℕ) (a b : Bool) → IsBefore xs a [] b → IsBefore (path ++ xs) a path b
before-out path xs a b p = subst (λ (ys : List ℕ). IsBefore (path ++ xs) a ys b) (append-nil path) (before-below path xs [] a b p)

-- what is put of a position that was entered comes after it
before-past : (s : StandsAt) → s.entered ≡ true → IsBefore (counts s.within) s.entered (counts s.within) false
before-past s e = subst (λ (ys : List ℕ). IsBefore (counts s.within) s.entered ys false) (append-nil (counts s.within)) (before-in (counts s.within) [] s.entered false (e, refl))

-- but for a load that is read, each put comes further
next-before : (x : Put) (s t : StandsAt) → IsNext x s t → ((t ≡ s) × (s.entered ≡ true)) ⊎ ComesBefore s t
next-before (Begins kind) s t (e, f) = inr (subst (ComesBefore s) (sym f) (before-in (counts s.within) (0 ∷ []) s.entered false e))
next-before (Ends kind non_null) s t (e, f, n, is) =
    inr (subst (λ (xs : List ℕ). IsBefore xs s.entered (counts t.within) t.entered) (sym (ap counts is)) (before-out (counts t.within) (n ∷ []) s.entered t.entered f))
next-before (Enters kind position) s t (e, n, rest, is, step, f) =
    inr (subst (ComesBefore s) (sym f)
    (subst (λ (xs : List ℕ). IsBefore xs s.entered (counts rest ++ suc n ∷ []) true) (sym (ap counts is))
    (before-below (counts rest) (n ∷ []) (suc n ∷ []) s.entered true (inl (omega arith)))))
next-before (Has non_null leaf_value) s t (e, f) = inr (subst (ComesBefore s) (sym f) (before-past s e))
next-before Reads s t (e, f) = inl (f, e)
next-before (Waits program) s t (e, f) = inr (subst (ComesBefore s) (sym f) (before-past s e))

-- puts in order stay or come further
order-before : (ps : List Put) (s t : StandsAt) → AreInOrder ps s t → (t ≡ s) ⊎ ComesBefore s t
order-before [] s t order = inl order
order-before (x ∷ ps) s t (u, next, order) = go (next-before x s u next) (order-before ps u t order)
  where
    go : ((u ≡ s) × (s.entered ≡ true)) ⊎ ComesBefore s u → (t ≡ u) ⊎ ComesBefore u t → (t ≡ s) ⊎ ComesBefore s t
    go (inl same) (inl here) = inl (here ∙ same.0)
    go (inl same) (inr past) = inr (subst (λ (v : StandsAt). ComesBefore v t) same.0 past)
    go (inr past) (inl here) = inr (subst (ComesBefore s) (sym here) past)
    go (inr past) (inr more) = inr (before-more (counts s.within) (counts u.within) (counts t.within) s.entered u.entered t.entered past more)

-- where nothing was just entered, the first put comes further, and so do all
some-before : (x : Put) (ps : List Put) (s t : StandsAt) → s.entered ≡ false → AreInOrder (x ∷ ps) s t → ComesBefore s t
some-before x ps s t e (u, next, order) = go (next-before x s u next) (order-before ps u t order)
  where
    go : ((u ≡ s) × (s.entered ≡ true)) ⊎ ComesBefore s u → (t ≡ u) ⊎ ComesBefore u t → ComesBefore s t
    go (inl same) later = absurd (cc (e, same.1))
    go (inr past) (inl here) = subst (ComesBefore s) (sym here) past
    go (inr past) (inr more) = before-more (counts s.within) (counts u.within) (counts t.within) s.entered u.entered t.entered past more

-- no put leaves the point where nothing was just entered
point-moves : (x : Put) (ps : List Put) (s t : StandsAt) (p : PointOf) → p.entered ≡ false → AreInOrder (x ∷ ps) s t → IsPointOf s p → points_after (x ∷ ps) p ≡ p → ⊥
point-moves x ps s t p e order h same =
    let there : IsPointOf t p = subst (IsPointOf t) same (point-ordered (x ∷ ps) s t p order h) in
    let before : ComesBefore s t = some-before x ps s t (sym h.entered ∙ e) order in
    let last : IsBefore p.path p.entered (counts t.within) t.entered =
    subst (λ (b : Bool). IsBefore p.path b (counts t.within) t.entered) (sym h.entered) (subst (λ (xs : List ℕ). IsBefore xs s.entered (counts t.within) t.entered) (sym h.path) before) in
    before-other p.path p.entered
    (subst (λ (b : Bool). IsBefore p.path p.entered p.path b) (sym there.entered) (subst (λ (xs : List ℕ). IsBefore p.path p.entered xs t.entered) (sym there.path) last))

-- of puts in order from some point on, the point that they come to says how many were put, where nothing was just entered
points-apart : (q r s t : List Put) (a e : StandsAt) (p : PointOf) → AreInOrder (q ++ r) a e → q ++ r ≡ s ++ t → IsPointOf a p
    → points_after q p ≡ points_after s p → (points_after q p).entered ≡ false → q ≡ s
points-apart [] r [] t a e p order is h same past = refl
points-apart [] r (y ∷ s) t a e p order is h same past =
    let first = in-order-first (y ∷ s) t a e (subst (λ (ps : List Put). AreInOrder ps a e) is order) in
    absurd (point-moves y s a first.0 p past first.1 h (sym same))
points-apart (x ∷ q) r [] t a e p order is h same past =
    let first = in-order-first (x ∷ q) r a e order in
    absurd (point-moves x q a first.0 p (ap (λ (o : PointOf). o.entered) (sym same) ∙ past) first.1 h same)
points-apart (x ∷ q) r (y ∷ s) t a e p (u, next, order) is h same past =
    let heads : x ≡ y = cc is in
    let tails : q ++ r ≡ s ++ t = cc is in
    let later : points_after (x ∷ q) p ≡ points_after s (point_after x p) = same ∙ ap (λ (z : Put). points_after s (point_after z p)) (sym heads) in
    let rest : q ≡ s = points-apart q r s t u e (point_after x p) order tails (point-next x a u p next h) later past in
    cc (heads, rest)

-- of puts in order from the root on, the point says how many were put, where nothing was just entered
pub one-point : (ps q r s t : List Put) (e : StandsAt) → AreInOrder ps at_root e → ps ≡ q ++ r → ps ≡ s ++ t
    → points_after q origin ≡ points_after s origin → (points_after q origin).entered ≡ false → q ≡ s
one-point ps q r s t e order front other same past =
    points-apart q r s t at_root e origin (subst (λ (xs : List Put). AreInOrder xs at_root e) front order) (sym front ∙ other) (record { path = refl; entered = refl }) same past
