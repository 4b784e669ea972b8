-- Lemmas on what a memory's parts say of a key, and what a change of one part does.
use Rattle.std.proofs.Common.{◌≡◌, ℕ, zero, suc, ◌+◌, ◌<◌, ◌≤◌, Bool, true, false, List, [], ◌∷◌, ◌++◌, map, length, get_or, Option, Some, None, refl, ap, ◌∙◌, sym, arith, length-append}
use Rattle.std.proofs.lemmas.List.{length-map, length-set}
use Rattle.std.proofs.lemmas.Bool.{eqb-true, eqb-false, eq-eqb, ne_eqb, and_left}
use Rattle.std.specs.Prelude.{◌==◌, ◌&&◌, cond, is_some, option_map, if◌then◌else◌, slice_set}
use Rattle.std.specs.Option.{SomeIff}
use Rattle.std.specs.List.{IsDistinct, AllByRecursion}
use Rattle.std.specs.Map.{lookup, keys_of, KeepsOthers}
use Rattle.load_memory.specs.Keys.{KeyOf, key_of, cache_of, same_key}
use Rattle.load_memory.specs.Outcomes.{OutcomeOf, outcome_of}
use Rattle.load_memory.specs.Pairs.{PairOf, is_at, look, primed, IsSameMap, AreApart}
use Rattle.load_memory.specs.LoaderMemories.{PartOf, EntriesOf, pair_at, pairs_from, look_in, HasOwnKeys, HaveOwnKeys, AreUnfailed, AreParts}
use Rattle.load_memory.specs.declared.key.KeyMode.{KeyMode}
use Rattle.load_memory.specs.declared.key.CacheKey.{CacheKey}
use Rattle.load_memory.specs.declared.key.Key.{Key}
use Rattle.load_memory.specs.declared.key.Key.TheVariants as key
use Rattle.load_memory.specs.declared.outcome.Outcome.{Outcome}
use Rattle.load_memory.specs.contracts.key.CacheKeyPartialEq.TheImpl as cache_eq
use Rattle.load_memory.specs.contracts.key.KeyPartialEq.TheImpl as key_eq
use Rattle.load_memory.proofs.Looks.{same_key-is, first-none, look-append, primed-absent}

-- `==` of two keys and of two cache keys
pub key-eq : (k x : Key) → (key_eq.eq-value).it k x ≡ same_key (key_of k) (key_of x)
key-eq key.All key.All = refl
key-eq key.All (key.Text t) = refl
key-eq key.All (key.Pair p) = refl
key-eq (key.Text s) key.All = refl
key-eq (key.Text s) (key.Text t) = refl
key-eq (key.Text s) (key.Pair p) = refl
key-eq (key.Pair p) key.All = refl
key-eq (key.Pair p) (key.Text t) = refl
key-eq (key.Pair p) (key.Pair q) = refl

pub cache-eq : (k x : CacheKey) → (cache_eq.eq-value).it k x ≡ same_key (cache_of k) (cache_of x)
cache-eq k x = key-eq k.form x.form

-- a test that holds where the key's words are the same finds what those words find
pub lookup-same : (test : CacheKey → Bool) (q : KeyOf) → ((x : CacheKey) → test x ≡ same_key q (cache_of x)) → (es : EntriesOf) → lookup test es ≡ lookup (λ x. same_key q (cache_of x)) es
lookup-same test q is [] = refl
lookup-same test q is (e ∷ es) = rw (is e.0, lookup-same test q is es) refl

pub lookup-cache : (k : CacheKey) (es : EntriesOf) → option_map outcome_of (lookup ((cache_eq.eq-value).it k) es) ≡ look_in es (cache_of k)
lookup-cache k es = ap (option_map outcome_of) (lookup-same ((cache_eq.eq-value).it k) (cache_of k) (cache-eq k) es)

-- the outcome of an entry is that of its key
pub look_in-at : (known : CacheKey) (key : KeyOf) (es : EntriesOf) (o : Outcome) → lookup ((cache_eq.eq-value).it known) es ≡ Some o → cache_of known ≡ key → look_in es key ≡ Some (outcome_of o)
look_in-at known key es o at same = ap (look_in es) (sym same) ∙ sym (lookup-cache known es) ∙ ap (option_map outcome_of) at

mapped-none : (o : Option Outcome) → option_map outcome_of o ≡ None → o ≡ None
mapped-none None e = refl
mapped-none (Some x) e = absurd (cc e)

pub lookup-absent : (k : CacheKey) (es : EntriesOf) → look_in es (cache_of k) ≡ None → lookup ((cache_eq.eq-value).it k) es ≡ None
lookup-absent k es e = mapped-none (lookup ((cache_eq.eq-value).it k) es) (lookup-cache k es ∙ e)

-- the entries of a part in which a key was put, or from which it was taken
pub look_in-put : (k : CacheKey) (w : Option Outcome) (old new : EntriesOf) → lookup ((cache_eq.eq-value).it k) new ≡ w → KeepsOthers (cache_eq.eq-value).it ((cache_eq.eq-value).it k) old new
    → (q : KeyOf) → look_in new q ≡ (if same_key q (cache_of k) then option_map outcome_of w else look_in old q)
unfolding KeepsOthers
look_in-put k w old new here others q = go (same_key q (cache_of k)) refl where
  go : (b : Bool) → same_key q (cache_of k) ≡ b → look_in new q ≡ (if b then option_map outcome_of w else look_in old q)
  go true e = ap (look_in new) (same_key-is q (cache_of k) e) ∙ sym (lookup-cache k new) ∙ ap (option_map outcome_of) here
  go false e =
      let test : CacheKey → Bool = λ x. same_key q (cache_of x) in
      let one : (x y : CacheKey) → test x ≡ true → test y ≡ (cache_eq.eq-value).it x y = λ x y h. ap (λ w. same_key w (cache_of y)) (same_key-is q (cache_of x) h) ∙ sym (cache-eq x y) in
      let apart : (x : CacheKey) → (cache_eq.eq-value).it k x ≡ true → test x ≡ false = λ x h. ap (same_key q) (sym (same_key-is (cache_of k) (cache_of x) (sym (cache-eq k x) ∙ h))) ∙ e in
      ap (option_map outcome_of) (others test one apart)

-- one part
module _ (n : ℕ) (q : KeyOf) where
  own_step : (b c : Bool) (o : OutcomeOf) (x : Option OutcomeOf) (y : Option Outcome) (v : Outcome) → b ≡ true → o ≡ outcome_of v → x ≡ option_map outcome_of y → (if b && c then Some o else x) ≡ option_map outcome_of (cond c (Some v) y)
  own_step b true o x y v e is h = rw (e, is) refl
  own_step b false o x y v e is h = rw e h

  pub look-own : (es : EntriesOf) → look (map (pair_at n) es) n q ≡ look_in es q
  look-own [] = refl
  look-own (e ∷ es) = own_step (n == n) (same_key q (cache_of e.0)) (outcome_of e.1) (look (map (pair_at n) es) n q) (lookup (λ x. same_key q (cache_of x)) es) e.1 (eq-eqb n n refl) refl (look-own es)

  other_step : (b c : Bool) (o : OutcomeOf) (x : Option OutcomeOf) → b ≡ false → x ≡ None → (if b && c then Some o else x) ≡ None
  other_step b c o x e h = rw e h

  pub look-other : (es : EntriesOf) (l : ℕ) → (l == n) ≡ false → look (map (pair_at n) es) l q ≡ None
  look-other [] l e = refl
  look-other (p ∷ es) l e = other_step (l == n) (same_key q (cache_of p.0)) (outcome_of p.1) (look (map (pair_at n) es) l q) e (look-other es l e)

-- gives what the part of a loader says
abbrev pub at_part : List PartOf → ℕ → KeyOf → Option OutcomeOf
at_part [] i q = None
at_part (p ∷ ps) zero q = look_in p.entries q
at_part (p ∷ ps) (suc i) q = at_part ps i q

pub look-before : (n : ℕ) (ps : List PartOf) (l : ℕ) (q : KeyOf) → l < n → look (pairs_from n ps) l q ≡ None
look-before n [] l q lt = refl
look-before n (p ∷ ps) l q lt =
    look-append (map (pair_at n) p.entries) (pairs_from (suc n) ps) l q ∙ rw (look-other n q p.entries l (ne_eqb l n (λ e. omega (arith, e, lt))), look-before (suc n) ps l q (omega arith)) refl

pub look-at : (n : ℕ) (ps : List PartOf) (i : ℕ) (q : KeyOf) → look (pairs_from n ps) (n + i) q ≡ at_part ps i q
look-at n [] i q = refl
look-at n (p ∷ ps) zero q =
    let here : n + zero ≡ n = omega arith in
    rw here (look-append (map (pair_at n) p.entries) (pairs_from (suc n) ps) n q ∙ rw (look-own n q p.entries, look-before (suc n) ps n q (omega arith)) (first-none (look_in p.entries q)))
look-at n (p ∷ ps) (suc i) q =
    let past : n + suc i ≡ suc n + i = omega arith in
    look-append (map (pair_at n) p.entries) (pairs_from (suc n) ps) (n + suc i) q
    ∙ rw (look-other n q p.entries (n + suc i) (ne_eqb (n + suc i) n (λ e. omega (arith, e))), past) (look-at (suc n) ps i q)

pub look-part : (ps : List PartOf) (i : ℕ) (q : KeyOf) → look (pairs_from 0 ps) i q ≡ at_part ps i q
look-part ps i q = let from_none : 0 + i ≡ i = omega arith in rw from_none at (look-at 0 ps i q)

pub at_part-read : (ps : List PartOf) (i : ℕ) (d : PartOf) (q : KeyOf) → i < length ps → at_part ps i q ≡ look_in (get_or ps i d).entries q
at_part-read [] i d q lt = absurd (omega arith)
at_part-read (p ∷ ps) zero d q lt = refl
at_part-read (p ∷ ps) (suc i) d q lt = at_part-read ps i d q (omega arith)

-- one part is changed
pub at_part-same : (ps : List PartOf) (i : ℕ) (x : PartOf) (q : KeyOf) → i < length ps → at_part (slice_set ps i x) i q ≡ look_in x.entries q
at_part-same [] i x q lt = absurd (omega arith)
at_part-same (p ∷ ps) zero x q lt = refl
at_part-same (p ∷ ps) (suc i) x q lt = at_part-same ps i x q (omega arith)

pub at_part-other : (ps : List PartOf) (i j : ℕ) (x : PartOf) (q : KeyOf) → (j ≡ i → ⊥) → at_part (slice_set ps i x) j q ≡ at_part ps j q
at_part-other [] i j x q ne = refl
at_part-other (p ∷ ps) zero zero x q ne = absurd (ne refl)
at_part-other (p ∷ ps) zero (suc j) x q ne = refl
at_part-other (p ∷ ps) (suc i) zero x q ne = refl
at_part-other (p ∷ ps) (suc i) (suc j) x q ne = at_part-other ps i j x q (λ e. ne (ap suc e))

-- a part whose entries stay
pub pairs-kept : (n : ℕ) (ps : List PartOf) (i : ℕ) (x d : PartOf) → x.entries ≡ (get_or ps i d).entries → i < length ps → pairs_from n (slice_set ps i x) ≡ pairs_from n ps
pairs-kept n [] i x d e lt = refl
pairs-kept n (p ∷ ps) zero x d e lt = rw e refl
pairs-kept n (p ∷ ps) (suc i) x d e lt = ap (λ ws. map (pair_at n) p.entries ++ ws) (pairs-kept (suc n) ps i x d e (omega arith))

pub HaveOwnKeys-set : (ps : List PartOf) (i : ℕ) (x : PartOf) → HaveOwnKeys ps → HasOwnKeys x → HaveOwnKeys (slice_set ps i x)
HaveOwnKeys-set [] i x own new = tt
HaveOwnKeys-set (p ∷ ps) zero x own new = (new, own.1)
HaveOwnKeys-set (p ∷ ps) (suc i) x own new = (own.0, HaveOwnKeys-set ps i x own.1 new)

pub HaveOwnKeys-at : (ps : List PartOf) (i : ℕ) (d : PartOf) → HaveOwnKeys ps → i < length ps → HasOwnKeys (get_or ps i d)
HaveOwnKeys-at [] i d own lt = absurd (omega arith)
HaveOwnKeys-at (p ∷ ps) zero d own lt = own.0
HaveOwnKeys-at (p ∷ ps) (suc i) d own lt = HaveOwnKeys-at ps i d own.1 (omega arith)

-- the pairs where one part has other entries
pub pairs-counted : (n : ℕ) (ps : List PartOf) (i : ℕ) (x d : PartOf) → i < length ps → length (pairs_from n (slice_set ps i x)) + length (get_or ps i d).entries ≡ length (pairs_from n ps) + length x.entries
pairs-counted n [] i x d lt = absurd (omega arith)
pairs-counted n (p ∷ ps) zero x d lt =
    omega (arith, length-append (map (pair_at n) x.entries) (pairs_from (suc n) ps), length-append (map (pair_at n) p.entries) (pairs_from (suc n) ps), length-map x.entries (pair_at n), length-map p.entries (pair_at n))
pairs-counted n (p ∷ ps) (suc i) x d lt =
    omega (arith, length-append (map (pair_at n) p.entries) (pairs_from (suc n) (slice_set ps i x)), length-append (map (pair_at n) p.entries) (pairs_from (suc n) ps), pairs-counted (suc n) ps i x d (omega arith))

-- one part has no more pairs than there are
pub part-within : (n : ℕ) (ps : List PartOf) (i : ℕ) (d : PartOf) → i < length ps → length (get_or ps i d).entries ≤ length (pairs_from n ps)
part-within n [] i d lt = absurd (omega arith)
part-within n (p ∷ ps) zero d lt = omega (arith, length-append (map (pair_at n) p.entries) (pairs_from (suc n) ps), length-map p.entries (pair_at n))
part-within n (p ∷ ps) (suc i) d lt = omega (arith, length-append (map (pair_at n) p.entries) (pairs_from (suc n) ps), part-within (suc n) ps i d (omega arith))

-- a pair is put where nothing is
pub pairs-put : (ps : List PartOf) (i : ℕ) (x d : PartOf) (key : KeyOf) (o : OutcomeOf) → i < length ps → d ≡ get_or ps i d → is_some (look (pairs_from 0 ps) i key) ≡ false
    → ((q : KeyOf) → look_in x.entries q ≡ (if same_key q key then Some o else look_in d.entries q))
    → IsSameMap (pairs_from 0 (slice_set ps i x)) (primed (pairs_from 0 ps) (record { loader = i; key = key; outcome = o }))
pairs-put ps i x d key o lt at absent put l q = look-part (slice_set ps i x) l q ∙ go (l == i) refl ∙ sym (primed-absent (pairs_from 0 ps) p absent l q) where
  p : PairOf
  p = record { loader = i; key = key; outcome = o }

  go : (b : Bool) → (l == i) ≡ b → at_part (slice_set ps i x) l q ≡ (if b && same_key q key then Some o else look (pairs_from 0 ps) l q)
  go true e = rw (eqb-true l i e) (at_part-same ps i x q lt ∙ put q ∙ rw (look-part ps i q, at_part-read ps i d q lt, ← at) refl)
  go false e = at_part-other ps i l x q (eqb-false l i e) ∙ sym (look-part ps l q)

append_empty : (xs ys : List PairOf) → xs ++ ys ≡ [] → (xs ≡ []) × (ys ≡ [])
append_empty [] ys e = (refl, e)
append_empty (x ∷ xs) ys e = absurd (cc e)

-- a new part is empty
pub pairs-empty_more : (n : ℕ) (ps : List PartOf) (p : PartOf) → pairs_from n ps ≡ [] → p.entries ≡ [] → pairs_from n (ps ++ p ∷ []) ≡ []
pairs-empty_more n [] p e h = rw h refl
pairs-empty_more n (x ∷ ps) p e h = let parts = append_empty (map (pair_at n) x.entries) (pairs_from (suc n) ps) e in rw (parts.0, pairs-empty_more (suc n) ps p parts.1 h) refl

pub HaveOwnKeys-more : (ps : List PartOf) (p : PartOf) → HaveOwnKeys ps → HasOwnKeys p → HaveOwnKeys (ps ++ p ∷ [])
HaveOwnKeys-more [] p own new = (new, tt)
HaveOwnKeys-more (x ∷ ps) p own new = (own.0, HaveOwnKeys-more ps p own.1 new)

-- the first n parts are empty
abbrev pub AreEmptyBelow : ℕ → List PartOf → Type 0
AreEmptyBelow zero ps = Unit {0}
AreEmptyBelow (suc n) [] = Unit {0}
AreEmptyBelow (suc n) (p ∷ ps) = (p.entries ≡ []) × HasOwnKeys p × AreEmptyBelow n ps

pub empty-one_more : (ps : List PartOf) (i n : ℕ) (x : PartOf) → n ≡ suc i → i < length ps → x.entries ≡ [] → HasOwnKeys x → AreEmptyBelow i ps → AreEmptyBelow n (slice_set ps i x)
empty-one_more [] i n x next lt none own below = absurd (omega arith)
empty-one_more (p ∷ ps) zero n x next lt none own below = rw next (none, own, tt)
empty-one_more (p ∷ ps) (suc i) n x next lt none own below = rw next (below.0, below.1, empty-one_more ps i (suc i) x refl (omega arith) none own below.2)

pub empty-pairs : (m : ℕ) (ps : List PartOf) (n : ℕ) → length ps ≤ n → AreEmptyBelow n ps → pairs_from m ps ≡ []
empty-pairs m [] n le below = refl
empty-pairs m (p ∷ ps) zero le below = absurd (omega arith)
empty-pairs m (p ∷ ps) (suc n) le below = rw (below.0, empty-pairs (suc m) ps n (omega arith) below.2) refl

pub empty-own_keys : (ps : List PartOf) (n : ℕ) → length ps ≤ n → AreEmptyBelow n ps → HaveOwnKeys ps
empty-own_keys [] n le below = tt
empty-own_keys (p ∷ ps) zero le below = absurd (omega arith)
empty-own_keys (p ∷ ps) (suc n) le below = (below.1, empty-own_keys ps n (omega arith) below.2)

-- the parts after one has kept its entries, and after one has gained an entry
module _ (modes : List KeyMode) (parts : List PartOf) (count : ℕ) (failed : Bool) (i : ℕ) (x d : PartOf) where
  pub AreParts-kept : AreParts modes parts count failed → i < length parts → x.entries ≡ (get_or parts i d).entries → AreParts modes (slice_set parts i x) count failed
  AreParts-kept are lt e = record {
    lined_up = length-set parts i x ∙ are.lined_up;
    own_keys = HaveOwnKeys-set parts i x are.own_keys (rw e (HaveOwnKeys-at parts i d are.own_keys lt));
    counted = are.counted ∙ ap length (sym (pairs-kept 0 parts i x d e lt));
    unfailed = rw (pairs-kept 0 parts i x d e lt) are.unfailed;
  }

  -- one part has other entries
  pub AreParts-changed : (many : ℕ) (marked : Bool) → AreParts modes parts count failed → i < length parts → HasOwnKeys x → many + length (get_or parts i d).entries ≡ count + length x.entries
      → (marked ≡ false → AreUnfailed (pairs_from 0 (slice_set parts i x))) → AreParts modes (slice_set parts i x) many marked
  AreParts-changed many marked are lt own e unfailed = record {
    lined_up = length-set parts i x ∙ are.lined_up;
    own_keys = HaveOwnKeys-set parts i x are.own_keys own;
    counted = omega (arith, are.counted, e, pairs-counted 0 parts i x d lt);
    unfailed = unfailed;
  }

found : (o : Option Outcome) (b : Bool) → is_some o ≡ b → is_some (option_map outcome_of o) ≡ b
found None b e = e
found (Some x) b e = e

-- a part's `contains_key` tells whether the memory has the key
pub look-found : (ps : List PartOf) (i : ℕ) (d : PartOf) (k : CacheKey) (b : Bool) → i < length ps → d ≡ get_or ps i d → b ≡ is_some (lookup ((cache_eq.eq-value).it k) d.entries) → is_some (look (pairs_from 0 ps) i (cache_of k)) ≡ b
look-found ps i d k b lt at e =
    rw (look-part ps i (cache_of k), at_part-read ps i d (cache_of k) lt, ← at, ← lookup-cache k d.entries) (found (lookup ((cache_eq.eq-value).it k) d.entries) b (sym e))

pub SomeIff-at : (o : Option ℕ) (P : Type 0) (v x : ℕ) → o ≡ Some x → SomeIff o P v → x ≡ v
SomeIff-at None P v x e s = absurd (cc e)
SomeIff-at (Some y) P v x e s = let same : y ≡ x = cc e in sym same ∙ s.1

-- no key stands twice among the pairs
all-append : (P : PairOf → Type 0) (xs ys : List PairOf) → AllByRecursion P xs → AllByRecursion P ys → AllByRecursion P (xs ++ ys)
all-append P [] ys h k = k
all-append P (x ∷ xs) ys h k = (h.0, all-append P xs ys h.1 k)

own-apart : (n : ℕ) (k : CacheKey) (es : EntriesOf) → AllByRecursion (λ x. (cache_eq.eq-value).it k x ≡ false) (keys_of es) → AllByRecursion (λ p. is_at n (cache_of k) p ≡ false) (map (pair_at n) es)
own-apart n k [] h = tt
own-apart n k (e ∷ es) h = (rw (eq-eqb n n refl) (sym (cache-eq k e.0) ∙ h.0), own-apart n k es h.1)

far-apart : (n m : ℕ) (key : KeyOf) (es : EntriesOf) → n < m → AllByRecursion (λ p. is_at n key p ≡ false) (map (pair_at m) es)
far-apart n m key [] lt = tt
far-apart n m key (e ∷ es) lt = (and_left (n == m) (same_key key (cache_of e.0)) (ne_eqb n m (λ h. omega (arith, h, lt))), far-apart n m key es lt)

later-apart : (n m : ℕ) (key : KeyOf) (ps : List PartOf) → n < m → AllByRecursion (λ p. is_at n key p ≡ false) (pairs_from m ps)
later-apart n m key [] lt = tt
later-apart n m key (p ∷ ps) lt = all-append (λ q. is_at n key q ≡ false) (map (pair_at m) p.entries) (pairs_from (suc m) ps) (far-apart n m key p.entries lt) (later-apart n (suc m) key ps (omega arith))

join-apart : (n : ℕ) (es : EntriesOf) (ys : List PairOf) → IsDistinct (cache_eq.eq-value).it (keys_of es) → ((key : KeyOf) → AllByRecursion (λ p. is_at n key p ≡ false) ys) → AreApart ys → AreApart (map (pair_at n) es ++ ys)
unfolding IsDistinct
join-apart n [] ys d far rest = rest
join-apart n (e ∷ es) ys d far rest =
    (all-append (λ q. is_at n (cache_of e.0) q ≡ false) (map (pair_at n) es) ys (own-apart n e.0 es d.0) (far (cache_of e.0)), join-apart n es ys d.1 far rest)

pub pairs-apart : (n : ℕ) (ps : List PartOf) → HaveOwnKeys ps → AreApart (pairs_from n ps)
unfolding IsDistinct
pairs-apart n [] own = tt
pairs-apart n (p ∷ ps) own = join-apart n p.entries (pairs_from (suc n) ps) own.0 (λ key. later-apart n (suc n) key ps (omega arith)) (pairs-apart (suc n) ps own.1)
