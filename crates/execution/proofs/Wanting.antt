-- Wants to which loads are added hold of equal cache keys the first, so to none the front is added as it is.
use Rattle.std.proofs.Common.{◌≡◌, ◌≢◌, ◌==◌, ◌||◌, ℕ, zero, suc, ◌<◌, Bool, true, false, not, List, [], ◌∷◌, ◌++◌, map, length, filter, inl, inr, sym, ◌∙◌, ap, refl, subst, arith, if◌then◌else◌, eqb-true, eq-eqb}
use Rattle.std.specs.List.{list_any}
use Rattle.load_memory.specs.Keys.{KeyOf, folded, same_key}
use Rattle.load_memory.specs.declared.key.KeyMode.{KeyMode}
use Rattle.load_memory.proofs.Looks.{same_key-is, same_key-refl}
use Rattle.load_queue.specs.Wanted.{WantedOf, nothing_wanted, is_wanted, with_key, with_wanted, keys_wanted}
use Rattle.execution.specs.Loads.{Load, mode_at, cache_key, same, IsOneOf}
use Rattle.execution.specs.Front.{firsts, wanting, modes_wanted, keys_for}
use Rattle.execution.specs.Sessions.{cell_of, AreApart}
use Rattle.execution.proofs.Same.{same-is}
use Rattle.execution.proofs.ReplyLaws.{map-one, firsts-apart}
use Rattle.std.proofs.lemmas.List.{length-map}

-- a key with its cache key is wanted, or there is no such loader
abbrev Holds : List WantedOf → ℕ → KeyOf → Type 0
Holds [] loader key = Unit {0}
Holds (w ∷ ws) zero key = is_wanted w key ≡ true
Holds (w ∷ ws) (suc loader) key = Holds ws loader key

holds-same : (ws : List WantedOf) (loader : ℕ) (key : KeyOf) → Holds ws loader key → with_wanted ws loader key ≡ ws
holds-same [] loader key h = refl
holds-same (w ∷ ws) zero key h = rw h refl
holds-same (w ∷ ws) (suc loader) key h = ap (λ vs. w ∷ vs) (holds-same ws loader key h)

any-append : (test : KeyOf → Bool) (xs : List KeyOf) (x : KeyOf) → list_any test (xs ++ x ∷ []) ≡ (list_any test xs || test x)
any-append test [] x = go (test x)
  where
    go : (b : Bool) → (b || false) ≡ (false || b)
    go true = refl
    go false = refl
any-append test (y ∷ xs) x = go (test y) (any-append test xs x)
  where
    go : (b : Bool) → list_any test (xs ++ x ∷ []) ≡ (list_any test xs || test x) → (b || list_any test (xs ++ x ∷ [])) ≡ ((b || list_any test xs) || test x)
    go true e = refl
    go false e = e

or-right : (a : Bool) → (a || true) ≡ true
or-right true = refl
or-right false = refl

key-holds : (w : WantedOf) (j k : KeyOf) → folded w.mode k ≡ folded w.mode j → is_wanted (with_key w j) k ≡ true
key-holds w j k e = go (is_wanted w j) refl
  where
    alike : is_wanted w k ≡ is_wanted w j
    alike = ap (λ f. list_any (λ x. same_key f (folded w.mode x)) w.keys) e

    go : (b : Bool) → is_wanted w j ≡ b → is_wanted (if b then w else record { mode = w.mode; keys = w.keys ++ j ∷ [] }) k ≡ true
    go true f = alike ∙ f
    go false f =
        let last : same_key (folded w.mode k) (folded w.mode j) ≡ true = ap (λ x. same_key x (folded w.mode j)) e ∙ same_key-refl (folded w.mode j) in
        any-append (λ x. same_key (folded w.mode k) (folded w.mode x)) w.keys j ∙ ap (λ b. is_wanted w k || b) last ∙ or-right (is_wanted w k)

key-stays : (w : WantedOf) (j k : KeyOf) → is_wanted w k ≡ true → is_wanted (with_key w j) k ≡ true
key-stays w j k h = go (is_wanted w j)
  where
    go : (b : Bool) → is_wanted (if b then w else record { mode = w.mode; keys = w.keys ++ j ∷ [] }) k ≡ true
    go true = h
    go false = any-append (λ x. same_key (folded w.mode k) (folded w.mode x)) w.keys j ∙ ap (λ b. b || same_key (folded w.mode k) (folded w.mode j)) h

with-holds : (ws : List WantedOf) (loader : ℕ) (j k : KeyOf) → folded (mode_at (modes_wanted ws) loader) k ≡ folded (mode_at (modes_wanted ws) loader) j → Holds (with_wanted ws loader j) loader k
with-holds [] loader j k e = tt
with-holds (w ∷ ws) zero j k e = key-holds w j k e
with-holds (w ∷ ws) (suc loader) j k e = with-holds ws loader j k e

with-stays : (ws : List WantedOf) (other loader : ℕ) (j k : KeyOf) → Holds ws loader k → Holds (with_wanted ws other j) loader k
with-stays [] other loader j k h = h
with-stays (w ∷ ws) zero zero j k h = key-stays w j k h
with-stays (w ∷ ws) zero (suc loader) j k h = h
with-stays (w ∷ ws) (suc other) zero j k h = h
with-stays (w ∷ ws) (suc other) (suc loader) j k h = with-stays ws other loader j k h

key-mode : (w : WantedOf) (j : KeyOf) → (with_key w j).mode ≡ w.mode
key-mode w j = go (is_wanted w j)
  where
    go : (b : Bool) → (if b then w else record { mode = w.mode; keys = w.keys ++ j ∷ [] }).mode ≡ w.mode
    go true = refl
    go false = refl

pub with-modes : (ws : List WantedOf) (loader : ℕ) (j : KeyOf) → modes_wanted (with_wanted ws loader j) ≡ modes_wanted ws
with-modes [] loader j = refl
with-modes (w ∷ ws) zero j = ap (λ m. m ∷ modes_wanted ws) (key-mode w j)
with-modes (w ∷ ws) (suc loader) j = ap (λ ms. w.mode ∷ ms) (with-modes ws loader j)

module _ (modes : List KeyMode) where
  -- says what is like a load that is wanted adds nothing
  filter-wanting : (l : Load) (ws : List WantedOf) (ls : List Load) → ((m : Load) → same modes m l ≡ true → Holds ws m.loader m.key) → wanting ws (filter (λ m. not (same modes m l)) ls) ≡ wanting ws ls
  filter-wanting l ws [] h = refl
  filter-wanting l ws (m ∷ ls) h = go (same modes m l) refl (filter-wanting l ws ls h) (filter-wanting l (with_wanted ws m.loader m.key) ls (λ k e. with-stays ws m.loader k.loader m.key k.key (h k e)))
    where
      go : (b : Bool) → same modes m l ≡ b → wanting ws (filter (λ k. not (same modes k l)) ls) ≡ wanting ws ls → wanting (with_wanted ws m.loader m.key) (filter (λ k. not (same modes k l)) ls) ≡ wanting (with_wanted ws m.loader m.key) ls
          → wanting ws (filter (λ k. not (same modes k l)) (m ∷ ls)) ≡ wanting (with_wanted ws m.loader m.key) ls
      go true e out on = rw e (out ∙ ap (λ vs. wanting vs ls) (sym (holds-same ws m.loader m.key (h m e))))
      go false e out on = rw e on

  -- to add the firsts is to add all
  pub wanting-firsts : (ws : List WantedOf) (ls : List Load) → modes_wanted ws ≡ modes → wanting ws (firsts modes ls) ≡ wanting ws ls
  wanting-firsts ws [] e = refl
  wanting-firsts ws (l ∷ ls) e =
      let vs : List WantedOf = with_wanted ws l.loader l.key in
      filter-wanting l vs (firsts modes ls) (λ m s. like m s) ∙ wanting-firsts vs ls (with-modes ws l.loader l.key ∙ e)
    where
      like : (m : Load) → same modes m l ≡ true → Holds (with_wanted ws l.loader l.key) m.loader m.key
      like m s =
          let at = same-is modes m l s in
          let folds : folded (mode_at (modes_wanted ws) l.loader) m.key ≡ folded (mode_at (modes_wanted ws) l.loader) l.key =
          ap (λ ms. folded (mode_at ms l.loader) m.key) e ∙ ap (λ n. folded (mode_at modes n) m.key) (sym at.0) ∙ at.1 ∙ ap (λ ms. folded (mode_at ms l.loader) l.key) (sym e) in
          rw at.0 (with-holds ws l.loader l.key m.key folds)

-- no key with its cache key is wanted
abbrev IsFree : List WantedOf → ℕ → KeyOf → Type 0
IsFree [] loader key = Unit {0}
IsFree (w ∷ ws) zero key = is_wanted w key ≡ false
IsFree (w ∷ ws) (suc loader) key = IsFree ws loader key

keys-same : (ws : List WantedOf) (n : ℕ) (key : KeyOf) → IsFree ws n key → n < length ws → keys_wanted (with_wanted ws n key) n ≡ keys_wanted ws n ++ key ∷ []
keys-same [] n key free lt = absurd (omega arith)
keys-same (w ∷ ws) zero key free lt = rw free refl
keys-same (w ∷ ws) (suc n) key free lt = keys-same ws n key free (omega arith)

keys-other : (ws : List WantedOf) (loader n : ℕ) (key : KeyOf) → loader ≢ n → keys_wanted (with_wanted ws loader key) n ≡ keys_wanted ws n
keys-other [] loader n key ne = refl
keys-other (w ∷ ws) zero zero key ne = absurd (ne refl)
keys-other (w ∷ ws) zero (suc n) key ne = refl
keys-other (w ∷ ws) (suc loader) zero key ne = refl
keys-other (w ∷ ws) (suc loader) (suc n) key ne = keys-other ws loader n key (λ e. ne (ap (λ k. suc k) e))

not-true : (b : Bool) → (b ≡ true → ⊥) → b ≡ false
not-true true h = absurd (h refl)
not-true false h = refl

key-free : (w : WantedOf) (j k : KeyOf) → is_wanted w k ≡ false → (folded w.mode k ≡ folded w.mode j → ⊥) → is_wanted (with_key w j) k ≡ false
key-free w j k free apart = go (is_wanted w j)
  where
    go : (b : Bool) → is_wanted (if b then w else record { mode = w.mode; keys = w.keys ++ j ∷ [] }) k ≡ false
    go true = free
    go false =
        let other : same_key (folded w.mode k) (folded w.mode j) ≡ false = not-true (same_key (folded w.mode k) (folded w.mode j)) (λ e. apart (same_key-is (folded w.mode k) (folded w.mode j) e)) in
        any-append (λ x. same_key (folded w.mode k) (folded w.mode x)) w.keys j ∙ ap (λ b. b || same_key (folded w.mode k) (folded w.mode j)) free ∙ other

free-stays : (ws : List WantedOf) (other loader : ℕ) (j k : KeyOf) → IsFree ws loader k → (loader ≡ other → folded (mode_at (modes_wanted ws) loader) k ≡ folded (mode_at (modes_wanted ws) loader) j → ⊥) → IsFree (with_wanted ws other j) loader k
free-stays [] other loader j k free apart = free
free-stays (w ∷ ws) zero zero j k free apart = key-free w j k free (apart refl)
free-stays (w ∷ ws) zero (suc loader) j k free apart = free
free-stays (w ∷ ws) (suc other) zero j k free apart = free
free-stays (w ∷ ws) (suc other) (suc loader) j k free apart = free-stays ws other loader j k free (λ e. apart (ap (λ n. suc n) e))

with-length : (ws : List WantedOf) (loader : ℕ) (j : KeyOf) → length (with_wanted ws loader j) ≡ length ws
with-length [] loader j = refl
with-length (w ∷ ws) zero j = refl
with-length (w ∷ ws) (suc loader) j = ap (λ n. suc n) (with-length ws loader j)

append-none : {X : Type 0} (xs : List X) → xs ≡ xs ++ []
append-none [] = refl
append-none (x ∷ xs) = ap (λ ys. x ∷ ys) (append-none xs)

append-assoc : {X : Type 0} (xs ys zs : List X) → (xs ++ ys) ++ zs ≡ xs ++ (ys ++ zs)
append-assoc [] ys zs = refl
append-assoc (x ∷ xs) ys zs = ap (λ ws. x ∷ ws) (append-assoc xs ys zs)

module _ (modes : List KeyMode) where
  -- loads that are apart and free are all added
  wanting-apart : (ws : List WantedOf) (ls : List Load) (n : ℕ) → modes_wanted ws ≡ modes → n < length ws → AreApart (map (cell_of modes) ls) → ((m : Load) → IsOneOf m ls → IsFree ws m.loader m.key)
      → keys_wanted (wanting ws ls) n ≡ keys_wanted ws n ++ keys_for n ls
  wanting-apart ws [] n e lt apart free = append-none (keys_wanted ws n)
  wanting-apart ws (l ∷ ls) n e lt apart free =
      wanting-apart vs ls n (with-modes ws l.loader l.key ∙ e) (rw (with-length ws l.loader l.key) lt) apart.1 later ∙ go (l.loader == n) refl
    where
      vs : List WantedOf
      vs = with_wanted ws l.loader l.key

      later : (m : Load) → IsOneOf m ls → IsFree (with_wanted ws l.loader l.key) m.loader m.key
      later m i = free-stays ws l.loader m.loader l.key m.key (free m (inr i)) (λ at f.
          let key : cache_key modes m ≡ cache_key modes l =
          ap (λ ms. folded (mode_at ms m.loader) m.key) (sym e) ∙ f ∙ ap (λ ms. folded (mode_at ms m.loader) l.key) e ∙ ap (λ k. folded (mode_at modes k) l.key) at in
          let cell : cell_of modes m ≡ cell_of modes l = ap (λ k. (k, cache_key modes m)) at ∙ ap (λ k. (l.loader, k)) key in
          apart.0 (rw (← cell) (map-one (cell_of modes) m ls i)))

      go : (b : Bool) → (l.loader == n) ≡ b → keys_wanted (with_wanted ws l.loader l.key) n ++ keys_for n ls ≡ keys_wanted ws n ++ (if b then l.key ∷ keys_for n ls else keys_for n ls)
      go true f =
          let at : l.loader ≡ n = eqb-true l.loader n f in
          let here : keys_wanted (with_wanted ws n l.key) n ≡ keys_wanted ws n ++ l.key ∷ [] = keys-same ws n l.key (subst (λ k. IsFree ws k l.key) at (free l (inl refl))) lt in
          ap (λ k. keys_wanted (with_wanted ws k l.key) n ++ keys_for n ls) at ∙ ap (λ ks. ks ++ keys_for n ls) here ∙ append-assoc (keys_wanted ws n) (l.key ∷ []) (keys_for n ls)
      go false f =
          let ne : l.loader ≢ n = λ at. cc (sym (eq-eqb l.loader n at) ∙ f) in
          ap (λ ks. ks ++ keys_for n ls) (keys-other ws l.loader n l.key ne)

nothing-free : (modes : List KeyMode) (loader : ℕ) (key : KeyOf) → IsFree (map nothing_wanted modes) loader key
nothing-free [] loader key = tt
nothing-free (m ∷ ms) zero key = refl
nothing-free (m ∷ ms) (suc loader) key = nothing-free ms loader key

nothing-keys : (modes : List KeyMode) (n : ℕ) → keys_wanted (map nothing_wanted modes) n ≡ []
nothing-keys [] n = refl
nothing-keys (m ∷ ms) zero = refl
nothing-keys (m ∷ ms) (suc n) = nothing-keys ms n

nothing-modes : (modes : List KeyMode) → modes_wanted (map nothing_wanted modes) ≡ modes
nothing-modes [] = refl
nothing-modes (m ∷ ms) = ap (λ ns. m ∷ ns) (nothing-modes ms)

-- to wants of nothing the firsts are added as they are
pub wanting-front : (modes : List KeyMode) (ls : List Load) (n : ℕ) → n < length modes → keys_wanted (wanting (map nothing_wanted modes) ls) n ≡ keys_for n (firsts modes ls)
wanting-front modes ls n lt =
    let none : List WantedOf = map nothing_wanted modes in
    ap (λ ws. keys_wanted ws n) (sym (wanting-firsts modes none ls (nothing-modes modes)))
    ∙ wanting-apart modes none (firsts modes ls) n (nothing-modes modes) (rw (length-map modes nothing_wanted) lt) (firsts-apart modes ls) (λ m i. nothing-free modes m.loader m.key)
    ∙ ap (λ ks. ks ++ keys_for n (firsts modes ls)) (nothing-keys modes n)
