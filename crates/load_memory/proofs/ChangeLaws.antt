-- Lemmas on what a memory says of a key after one of its parts is changed, and which of its pairs are of batches
-- that failed.
use Rattle.std.proofs.Common.{◌≡◌, ℕ, zero, suc, ◌<◌, Bool, true, false, List, [], ◌∷◌, length, get_or, Option, Some, None, refl, ap, ◌∙◌, sym, arith}
use Rattle.std.proofs.lemmas.Bool.{eqb-true, eqb-false}
use Rattle.std.specs.Prelude.{◌==◌, ◌&&◌, not, is_some, option_map, if◌then◌else◌, slice_set, filter}
use Rattle.std.specs.Option.{option_or}
use Rattle.std.specs.List.{IsDistinct, AllByRecursion}
use Rattle.std.specs.Map.{keys_of, lookup, KeepsOthers}
use Rattle.load_memory.specs.Keys.{KeyOf, cache_of, same_key}
use Rattle.load_memory.specs.Outcomes.{ItemOf, OutcomeOf, known, batch_fault, outcome_of, is_failed}
use Rattle.load_memory.specs.Pairs.{PairOf, is_at, look, primed, IsSameMap, IsWithout, unless_failed, IsUnfailed, IsWith}
use Rattle.load_memory.specs.LoaderMemories.{PartOf, EntriesOf, pairs_from, look_in, AreUnfailed}
use Rattle.load_memory.specs.declared.key.CacheKey.{CacheKey}
use Rattle.load_memory.specs.declared.outcome.Outcome.{Outcome}
use Rattle.load_memory.specs.declared.outcome.Outcome.TheVariants as outcome
use Rattle.load_memory.specs.contracts.key.CacheKeyPartialEq.TheImpl as cache_eq
use Rattle.load_memory.proofs.Looks.{same_key-is, nothing, primed-absent}
use Rattle.load_memory.proofs.LoaderMemoryLaws.{cache-eq, look_in-put, lookup-cache, at_part, look-part, at_part-read, at_part-same, at_part-other}

-- a look-up in the memory finds what the loader's part says
pub look-one : (ps : List PartOf) (i : ℕ) (d : PartOf) (q : KeyOf) → i < length ps → d ≡ get_or ps i d → look (pairs_from 0 ps) i q ≡ look_in d.entries q
look-one ps i d q lt at = look-part ps i q ∙ at_part-read ps i d q lt ∙ ap (λ (p : PartOf). look_in p.entries q) (sym at)

-- one part is changed, at each of its keys
pub look-changed : (ps : List PartOf) (i : ℕ) (x d : PartOf) (f : KeyOf → Option OutcomeOf → Option OutcomeOf) → i < length ps → d ≡ get_or ps i d
    → ((q : KeyOf) → look_in x.entries q ≡ f q (look_in d.entries q))
    → (l : ℕ) (q : KeyOf) → look (pairs_from 0 (slice_set ps i x)) l q ≡ (if i == l then f q (look (pairs_from 0 ps) l q) else look (pairs_from 0 ps) l q)
look-changed ps i x d f lt at put l q = look-part (slice_set ps i x) l q ∙ go (i == l) refl where
  here : look_in d.entries q ≡ look (pairs_from 0 ps) i q
  here = ap (λ (p : PartOf). look_in p.entries q) at ∙ sym (at_part-read ps i d q lt) ∙ sym (look-part ps i q)

  go : (b : Bool) → (i == l) ≡ b → at_part (slice_set ps i x) l q ≡ (if b then f q (look (pairs_from 0 ps) l q) else look (pairs_from 0 ps) l q)
  go true e = rw (← eqb-true i l e) (at_part-same ps i x q lt ∙ put q ∙ ap (f q) here)
  go false e = at_part-other ps i l x q (λ h. eqb-false i l e (sym h)) ∙ sym (look-part ps l q)

-- one key is taken out
pub look-taken : (ps : List PartOf) (i : ℕ) (x d : PartOf) (key : KeyOf) → i < length ps → d ≡ get_or ps i d
    → ((q : KeyOf) → look_in x.entries q ≡ (if same_key key q then None else look_in d.entries q))
    → IsWithout (λ l q. (i == l) && same_key key q) (pairs_from 0 ps) (pairs_from 0 (slice_set ps i x))
look-taken ps i x d key lt at taken l q = look-changed ps i x d (λ r o. if same_key key r then None else o) lt at taken l q ∙ go (i == l) (same_key key q) where
  go : (a b : Bool) → (if a then (if b then None else look (pairs_from 0 ps) l q) else look (pairs_from 0 ps) l q) ≡ (if a && b then None else look (pairs_from 0 ps) l q)
  go true b = refl
  go false b = refl

-- no loader past the parts has a pair
pub look-past : (ps : List PartOf) (l : ℕ) (q : KeyOf) → (l < length ps → ⊥) → look (pairs_from 0 ps) l q ≡ None
look-past ps l q past = look-part ps l q ∙ go ps l past where
  go : (ps : List PartOf) (l : ℕ) → (l < length ps → ⊥) → at_part ps l q ≡ None
  go [] l past = refl
  go (p ∷ ps) zero past = absurd (past (omega arith))
  go (p ∷ ps) (suc l) past = go ps l (λ lt. past (omega arith))

unfailed-or : (x y : Option OutcomeOf) → unless_failed x ≡ x → unless_failed y ≡ y → unless_failed (option_or x y) ≡ option_or x y
unfailed-or None y e h = h
unfailed-or (Some o) y e h = e

unfailed-twice : (x : Option OutcomeOf) → unless_failed (unless_failed x) ≡ unless_failed x
unfailed-twice None = refl
unfailed-twice (Some (known item)) = refl
unfailed-twice (Some (batch_fault text)) = refl

pub AreUnfailed-same : (ps qs : List PairOf) → AreUnfailed ps → IsSameMap qs ps → AreUnfailed qs
AreUnfailed-same ps qs none same l q = ap unless_failed (same l q) ∙ none l q ∙ sym (same l q)

pub AreUnfailed-without : (names : ℕ → KeyOf → Bool) (ps qs : List PairOf) → AreUnfailed ps → IsWithout names ps qs → AreUnfailed qs
AreUnfailed-without names ps qs none out l q = ap unless_failed (out l q) ∙ go (names l q) ∙ sym (out l q) where
  go : (b : Bool) → unless_failed (if b then None else look ps l q) ≡ (if b then None else look ps l q)
  go true = refl
  go false = none l q

pub AreUnfailed-one : (ps : List PartOf) (i : ℕ) (x : PartOf) → AreUnfailed (pairs_from 0 ps)
    → ((l : ℕ) (q : KeyOf) → look (pairs_from 0 (slice_set ps i x)) l q ≡ (if i == l then unless_failed (look (pairs_from 0 ps) l q) else look (pairs_from 0 ps) l q)) → AreUnfailed (pairs_from 0 (slice_set ps i x))
AreUnfailed-one ps i x none h l q = ap unless_failed (h l q) ∙ go (i == l) ∙ sym (h l q) where
  go : (b : Bool) → unless_failed (if b then unless_failed (look (pairs_from 0 ps) l q) else look (pairs_from 0 ps) l q) ≡ (if b then unless_failed (look (pairs_from 0 ps) l q) else look (pairs_from 0 ps) l q)
  go true = unfailed-twice (look (pairs_from 0 ps) l q)
  go false = none l q

pub AreUnfailed-after : (ps qs : List PairOf) → IsUnfailed ps qs → AreUnfailed qs
AreUnfailed-after ps qs h l q = ap unless_failed (h l q) ∙ unfailed-twice (look ps l q) ∙ sym (h l q)

pub AreUnfailed-with : (ps more qs : List PairOf) → AreUnfailed ps → AreUnfailed more → IsWith ps more qs → AreUnfailed qs
AreUnfailed-with ps more qs none few h l q = ap unless_failed (h l q) ∙ unfailed-or (look ps l q) (look more l q) (none l q) (few l q) ∙ sym (h l q)

-- an item is put where nothing is
pub AreUnfailed-put : (ps : List PairOf) (p : PairOf) (item : ItemOf) (qs : List PairOf) → AreUnfailed ps → is_some (look ps p.loader p.key) ≡ false → p.outcome ≡ known item → IsSameMap qs (primed ps p) → AreUnfailed qs
AreUnfailed-put ps p item qs none absent is same l q =
    let here = same l q ∙ primed-absent ps p absent l q in
    ap unless_failed here ∙ go (is_at l q p) ∙ sym here
  where
    go : (b : Bool) → unless_failed (if b then Some p.outcome else look ps l q) ≡ (if b then Some p.outcome else look ps l q)
    go true = rw is refl
    go false = none l q

pub item-known : (o : Outcome) → is_failed o ≡ false → unless_failed (Some (outcome_of o)) ≡ Some (outcome_of o)
item-known (outcome.Rows r) e = refl
item-known (outcome.KeyFault t) e = refl
item-known (outcome.BatchFault t) e = absurd (cc e)

item-failed : (o : Outcome) → is_failed o ≡ true → unless_failed (Some (outcome_of o)) ≡ None
item-failed (outcome.Rows r) e = absurd (cc e)
item-failed (outcome.KeyFault t) e = absurd (cc e)
item-failed (outcome.BatchFault t) e = refl

-- a key that differs from those of the entries isn't found among them
not-among : (k : CacheKey) (es : EntriesOf) → AllByRecursion (λ x. (cache_eq.eq-value).it k x ≡ false) (keys_of es) → look_in es (cache_of k) ≡ None
not-among k [] h = refl
not-among k (e ∷ es) h = rw (sym (cache-eq k e.0) ∙ h.0) (not-among k es h.1)

-- entries whose batch failed are taken out
pub look_in-items : (es : EntriesOf) → IsDistinct (cache_eq.eq-value).it (keys_of es) → (q : KeyOf) → look_in (filter (λ e. not (is_failed e.1)) es) q ≡ unless_failed (look_in es q)
unfolding IsDistinct
look_in-items [] d q = refl
look_in-items (e ∷ es) d q = go (look_in-items es d.1 q) (is_failed e.1) refl (same_key q (cache_of e.0)) refl where
  go : look_in (filter (λ e. not (is_failed e.1)) es) q ≡ unless_failed (look_in es q) → (b : Bool) → is_failed e.1 ≡ b → (c : Bool) → same_key q (cache_of e.0) ≡ c → look_in (filter (λ e. not (is_failed e.1)) (e ∷ es)) q ≡ unless_failed (look_in (e ∷ es) q)
  go rest false item true at = rw (item, at) (sym (item-known e.1 item))
  go rest false item false at = rw (item, at) rest
  go rest true item true at =
      let none : look_in es q ≡ None = rw (same_key-is q (cache_of e.0) at) (not-among e.0 es d.0) in
      rw (item, at) (rest ∙ ap unless_failed none ∙ sym (item-failed e.1 item))
  go rest true item false at = rw (item, at) rest

-- a part's test of a key tells whether the part has the key
pub look_in-found : (es : EntriesOf) (k : CacheKey) (b : Bool) → b ≡ is_some (lookup ((cache_eq.eq-value).it k) es) → is_some (look_in es (cache_of k)) ≡ b
look_in-found es k b e = ap is_some (sym (lookup-cache k es)) ∙ go (lookup ((cache_eq.eq-value).it k) es) ∙ sym e where
  go : (o : Option Outcome) → is_some (option_map outcome_of o) ≡ is_some o
  go None = refl
  go (Some x) = refl

-- a pair that isn't put, since its key is there
pub look_in-there : (es : EntriesOf) (k : KeyOf) (o : OutcomeOf) → is_some (look_in es k) ≡ true → (q : KeyOf) → look_in es q ≡ option_or (look_in es q) (if same_key q k then Some o else None)
look_in-there es k o e q = go (same_key q k) refl (look_in es q) refl where
  go : (b : Bool) → same_key q k ≡ b → (x : Option OutcomeOf) → look_in es q ≡ x → x ≡ option_or x (if b then Some o else None)
  go true at (Some x) h = refl
  go true at None h = absurd (cc (ap is_some (sym h ∙ ap (look_in es) (same_key-is q k at)) ∙ e))
  go false at (Some x) h = refl
  go false at None h = refl

-- entries that stay, since the key is there
pub look_in-there_still : (old new : EntriesOf) (k : KeyOf) (o : OutcomeOf) → new ≡ old → is_some (look_in old k) ≡ true → (q : KeyOf) → look_in new q ≡ option_or (look_in old q) (if same_key q k then Some o else None)
look_in-there_still old new k o same there q = ap (λ es. look_in es q) same ∙ look_in-there old k o there q

-- a pair that is put, since its key is absent
pub look_in-new : (old new : EntriesOf) (k : KeyOf) (o : OutcomeOf) → is_some (look_in old k) ≡ false → ((q : KeyOf) → look_in new q ≡ (if same_key q k then Some o else look_in old q))
    → (q : KeyOf) → look_in new q ≡ option_or (look_in old q) (if same_key q k then Some o else None)
look_in-new old new k o e put q = put q ∙ go (same_key q k) refl where
  or-none : (x : Option OutcomeOf) → x ≡ option_or x None
  or-none None = refl
  or-none (Some x) = refl

  go : (b : Bool) → same_key q k ≡ b → (if b then Some o else look_in old q) ≡ option_or (look_in old q) (if b then Some o else None)
  go true at = rw (ap (look_in old) (same_key-is q k at) ∙ nothing (look_in old k) e) refl
  go false at = or-none (look_in old q)

-- an entry that is written where none was
pub look_in-written : (old new written : EntriesOf) (k : CacheKey) (o : Outcome) → look_in old (cache_of k) ≡ None → lookup ((cache_eq.eq-value).it k) written ≡ Some o → KeepsOthers (cache_eq.eq-value).it ((cache_eq.eq-value).it k) old written → new ≡ written
    → (q : KeyOf) → look_in new q ≡ option_or (look_in old q) (if same_key q (cache_of k) then Some (outcome_of o) else None)
look_in-written old new written k o absent here others same =
    rw same (look_in-new old written (cache_of k) (outcome_of o) (ap is_some absent) (look_in-put k (Some o) old written here others))
