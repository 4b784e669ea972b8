-- When two loads are one for a memory, and what is among loads.
use Rattle.std.proofs.Common.{◌≡◌, ◌==◌, ◌&&◌, ◌⊎◌, Bool, true, false, not, List, [], ◌∷◌, ◌++◌, None, inl, inr, refl, sym, ◌∙◌, ap, eqb-true, eq-eqb, is_none, filter}
use Rattle.load_memory.specs.Keys.{same_key}
use Rattle.load_memory.specs.declared.key.KeyMode.{KeyMode}
use Rattle.load_memory.proofs.Looks.{same_key-is, same_key-refl}
use Rattle.execution.specs.Loads.{Load, Reader, Memory, cache_key, read, same, IsOneOf, Extends, AnswersMore}
use Rattle.execution.specs.Front.{missing, firsts}

both : (a b : Bool) → (a && b) ≡ true → (a ≡ true) × (b ≡ true)
both true b h = (refl, h)
both false b h = absurd (cc h)

pub same-is : (modes : List KeyMode) (a b : Load) → same modes a b ≡ true → (a.loader ≡ b.loader) × (cache_key modes a ≡ cache_key modes b)
same-is modes a b h =
    let parts = both (a.loader == b.loader) (same_key (cache_key modes a) (cache_key modes b)) h in
    (eqb-true a.loader b.loader parts.0, same_key-is (cache_key modes a) (cache_key modes b) parts.1)

pub is-same : (modes : List KeyMode) (a b : Load) → a.loader ≡ b.loader → cache_key modes a ≡ cache_key modes b → same modes a b ≡ true
is-same modes a b e f =
    let one : (a.loader == b.loader) ≡ true = eq-eqb a.loader b.loader e in
    let two : same_key (cache_key modes a) (cache_key modes b) ≡ true = ap (λ k. same_key (cache_key modes a) k) (sym f) ∙ same_key-refl (cache_key modes a) in
    rw (one, two) refl

pub same-self : (modes : List KeyMode) (a : Load) → same modes a a ≡ true
same-self modes a = is-same modes a a refl refl

pub same-trans : (modes : List KeyMode) (a b c : Load) → same modes a b ≡ true → same modes b c ≡ true → same modes a c ≡ true
same-trans modes a b c g h =
    let e = same-is modes a b g in
    let f = same-is modes b c h in
    is-same modes a c (e.0 ∙ f.0) (e.1 ∙ f.1)

-- a memory answers both alike
pub same-read : (modes : List KeyMode) (M : Memory) (a b : Load) → same modes a b ≡ true → read modes M a ≡ read modes M b
same-read modes M a b h =
    let e = same-is modes a b h in
    ap (λ loader. M loader (cache_key modes a)) e.0 ∙ ap (λ key. M b.loader key) e.1

pub reads-more : (modes : List KeyMode) (M N : Memory) → Extends M N → AnswersMore (read modes M) (read modes N)
reads-more modes M N ext = λ load outcome e. ext load.loader (cache_key modes load) outcome e

module _ {X : Type 0} where
  pub one-left : (x : X) (xs ys : List X) → IsOneOf x xs → IsOneOf x (xs ++ ys)
  one-left x [] ys h = absurd h
  one-left x (y ∷ xs) ys (inl e) = inl e
  one-left x (y ∷ xs) ys (inr h) = inr (one-left x xs ys h)

  pub one-right : (x : X) (xs ys : List X) → IsOneOf x ys → IsOneOf x (xs ++ ys)
  one-right x [] ys h = h
  one-right x (y ∷ xs) ys h = inr (one-right x xs ys h)

  pub one-either : (x : X) (xs ys : List X) → IsOneOf x (xs ++ ys) → IsOneOf x xs ⊎ IsOneOf x ys
  one-either x [] ys h = inr h
  one-either x (y ∷ xs) ys (inl e) = inl (inl e)
  one-either x (y ∷ xs) ys (inr h) = elim (one-either x xs ys h) [ inl a ↦ inl (inr a) | inr b ↦ inr b ]

  pub one-filter : (test : X → Bool) (x : X) (xs : List X) → test x ≡ true → IsOneOf x xs → IsOneOf x (filter test xs)
  one-filter test x [] e h = h
  one-filter test x (y ∷ ys) e h = go (test y) refl h (one-filter test x ys e)
    where
      go : (b : Bool) → test y ≡ b → (x ≡ y) ⊎ IsOneOf x ys → (IsOneOf x ys → IsOneOf x (filter test ys)) → IsOneOf x (filter test (y ∷ ys))
      go true f (inl s) ih = rw f (inl s)
      go true f (inr d) ih = rw f (inr (ih d))
      go false f (inl s) ih = absurd (cc (sym e ∙ ap test s ∙ f))
      go false f (inr d) ih = rw f (ih d)

  pub filter-one : (test : X → Bool) (x : X) (xs : List X) → IsOneOf x (filter test xs) → IsOneOf x xs × (test x ≡ true)
  filter-one test x [] h = absurd h
  filter-one test x (y ∷ ys) h = go (test y) refl h (filter-one test x ys)
    where
      go : (b : Bool) → test y ≡ b → IsOneOf x (filter test (y ∷ ys)) → (IsOneOf x (filter test ys) → IsOneOf x ys × (test x ≡ true)) → IsOneOf x (y ∷ ys) × (test x ≡ true)
      go true f h ih = keep (rw f at h) ih
        where
          keep : (x ≡ y) ⊎ IsOneOf x (filter test ys) → (IsOneOf x (filter test ys) → IsOneOf x ys × (test x ≡ true)) → IsOneOf x (y ∷ ys) × (test x ≡ true)
          keep (inl s) ih = (inl s, ap test s ∙ f)
          keep (inr d) ih = let r = ih d in (inr r.0, r.1)
      go false f h ih = let r = ih (rw f at h) in (inr r.0, r.1)

-- each load has one like it among the firsts
pub firsts-cover : (modes : List KeyMode) (l : Load) (ls : List Load) → IsOneOf l ls → (m : Load) × IsOneOf m (firsts modes ls) × (same modes l m ≡ true)
firsts-cover modes l [] h = absurd h
firsts-cover modes l (x ∷ xs) (inl e) = (x, inl refl, ap (λ k. same modes l k) (sym e) ∙ same-self modes l)
firsts-cover modes l (x ∷ xs) (inr h) = go (firsts-cover modes l xs h)
  where
    split : (m : Load) → IsOneOf m (firsts modes xs) → same modes l m ≡ true → (b : Bool) → same modes m x ≡ b → (m : Load) × IsOneOf m (firsts modes (x ∷ xs)) × (same modes l m ≡ true)
    split m i s true e = (x, inl refl, same-trans modes l m x s e)
    split m i s false e = (m, inr (one-filter (λ k. not (same modes k x)) m (firsts modes xs) (ap not e) i), s)

    go : (m : Load) × IsOneOf m (firsts modes xs) × (same modes l m ≡ true) → (m : Load) × IsOneOf m (firsts modes (x ∷ xs)) × (same modes l m ≡ true)
    go r = split r.0 r.1 r.2 (same modes r.0 x) refl

pub firsts-one : (modes : List KeyMode) (l : Load) (ls : List Load) → IsOneOf l (firsts modes ls) → IsOneOf l ls
firsts-one modes l [] h = h
firsts-one modes l (x ∷ xs) (inl e) = inl e
firsts-one modes l (x ∷ xs) (inr h) = inr (firsts-one modes l xs (filter-one (λ m. not (same modes m x)) l (firsts modes xs) h).0)

pub missing-one : (R : Reader) (l : Load) (ls : List Load) → R l ≡ None → IsOneOf l ls → IsOneOf l (missing R ls)
missing-one R l ls e h = one-filter (λ m. is_none (R m)) l ls (ap is_none e) h
