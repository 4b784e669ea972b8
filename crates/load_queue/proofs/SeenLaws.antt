-- The set of the cache keys of the first keys.
use Rattle.std.proofs.Common.{◌≡◌, ◌<◌, ◌+◌, Bool, true, false, ◌||◌, List, [], ◌∷◌, ◌++◌, map, length, take, get_or, if◌then◌else◌, refl, ap, ◌∙◌, sym, arith}
use Rattle.std.specs.List.{list_any}
use Rattle.std.proofs.Math.Bool.{or-false}
use Rattle.std.proofs.lemmas.List.{take-append-le, take_all, map_more, map-append, length-append, get_or_push}
use Rattle.std.proofs.lemmas.List.Folds.{list_any-append}
use Rattle.indexmap.specs.IndexSet.{insert_key}
use Rattle.load_memory.specs.Keys.{KeyOf, cache_of, folded, same_key}
use Rattle.load_memory.specs.declared.key.CacheKey.{CacheKey}
use Rattle.load_memory.specs.declared.key.KeyMode.{KeyMode}
use Rattle.load_memory.specs.contracts.key.CacheKeyPartialEq.TheImpl as cache_eq
use Rattle.load_memory.proofs.Looks.{same_key-is}
use Rattle.load_memory.proofs.LoaderMemoryLaws.{cache-eq}
use Rattle.load_queue.specs.Wanted.{HaveSeen, is_wanted}
use Rattle.load_queue.specs.declared.wants.SeenKeys.{SeenKeys}

abbrev pub equal : CacheKey → CacheKey → Bool
equal = (cache_eq.eq-value).it

any-map : {A B : Type 0} (f : A → Bool) (g : B → Bool) (h : A → B) → ((x : A) → f x ≡ g (h x)) → (xs : List A) → list_any f xs ≡ list_any g (map h xs)
any-map f g h same [] = refl
any-map f g h same (x ∷ xs) = rw (same x, any-map f g h same xs) refl

-- the set's own test is that of its keys
finds : (cached : CacheKey) (seen : List CacheKey) → list_any (equal cached) seen ≡ list_any (same_key (cache_of cached)) (map cache_of seen)
finds cached seen = any-map (equal cached) (same_key (cache_of cached)) cache_of (cache-eq cached) seen

-- the set has a cache key where a key with an equal cache key is in the list
pub seen-wanted : (mode : KeyMode) (seen : SeenKeys) (keys : List KeyOf) (cached : CacheKey) (key : KeyOf) → HaveSeen mode seen keys → seen.count ≡ length keys → cache_of cached ≡ folded mode key
    → list_any (equal cached) seen.cache_keys.keys ≡ is_wanted (record { mode = mode; keys = keys }) key
seen-wanted mode seen keys cached key saw all is =
    let test : KeyOf → Bool = same_key (folded mode key) in
    finds cached seen.cache_keys.keys
    ∙ ap (λ k. list_any (same_key k) (map cache_of seen.cache_keys.keys)) is
    ∙ saw.same (folded mode key)
    ∙ ap (λ ks. list_any test (map (folded mode) ks)) (take_all seen.count keys (omega (arith, all)))
    ∙ sym (any-map (λ (k : KeyOf). test (folded mode k)) test (folded mode) (λ x. refl) keys)

-- a key that is there adds nothing
absorbs : (q k : KeyOf) (ks : List KeyOf) → list_any (same_key k) ks ≡ true → list_any (same_key q) ks ≡ (list_any (same_key q) ks || same_key q k)
absorbs q k ks there = go (same_key q k) refl
  where
    go : (same : Bool) → same_key q k ≡ same → list_any (same_key q) ks ≡ (list_any (same_key q) ks || same)
    go false e = sym (or-false (list_any (same_key q) ks))
    go true e = rw (ap (λ p. list_any (same_key p) ks) (same_key-is q k e) ∙ there) refl

inserts : (q : KeyOf) (cached : CacheKey) (seen : List CacheKey) → list_any (same_key q) (map cache_of (insert_key equal seen cached)) ≡ (list_any (same_key q) (map cache_of seen) || same_key q (cache_of cached))
inserts q cached seen = go (list_any (equal cached) seen) refl
  where
    go : (there : Bool) → list_any (equal cached) seen ≡ there → list_any (same_key q) (map cache_of (if there then seen else seen ++ cached ∷ [])) ≡ (list_any (same_key q) (map cache_of seen) || same_key q (cache_of cached))
    go true e = absorbs q (cache_of cached) (map cache_of seen) (sym (finds cached seen) ∙ e)
    go false e = one seen
      where
        one : (xs : List CacheKey) → list_any (same_key q) (map cache_of (xs ++ cached ∷ [])) ≡ (list_any (same_key q) (map cache_of xs) || same_key q (cache_of cached))
        one xs = ap (list_any (same_key q)) (map-append cache_of xs (cached ∷ [])) ∙ list_any-append (same_key q) (map cache_of xs) (cache_of cached ∷ []) ∙ ap (λ (b : Bool). list_any (same_key q) (map cache_of xs) || b) (or-false (same_key q (cache_of cached)))

-- one key more is seen
pub saw-one : (mode : KeyMode) (old new : SeenKeys) (keys : List KeyOf) (cached : CacheKey) (key : KeyOf) → HaveSeen mode old keys → old.count < length keys → key ≡ get_or keys old.count key → cache_of cached ≡ folded mode key
    → new.cache_keys.keys ≡ insert_key equal old.cache_keys.keys cached → new.count ≡ old.count + 1 → HaveSeen mode new keys
saw-one mode old new keys cached key saw lt at is inserted counted = record {
  within = omega (arith, lt, counted);
  same = λ q. ap (λ ks. list_any (same_key q) (map cache_of ks)) inserted ∙ inserts q cached old.cache_keys.keys
      ∙ rw (saw.same q, is) (sym (more q));
}
  where
    more : (q : KeyOf) → list_any (same_key q) (map (folded mode) (take new.count keys)) ≡ (list_any (same_key q) (map (folded mode) (take old.count keys)) || same_key q (folded mode key))
    more q = ap (λ n. list_any (same_key q) (map (folded mode) (take n keys))) counted
        ∙ ap (list_any (same_key q)) (map_more (folded mode) keys old.count key lt)
        ∙ list_any-append (same_key q) (map (folded mode) (take old.count keys)) (folded mode (get_or keys old.count key) ∷ [])
        ∙ ap (λ (b : Bool). list_any (same_key q) (map (folded mode) (take old.count keys)) || b) (or-false (same_key q (folded mode (get_or keys old.count key))) ∙ ap (λ k. same_key q (folded mode k)) (sym at))

-- the keys that were seen stay the first ones
pub seen-before : (mode : KeyMode) (seen : SeenKeys) (keys more : List KeyOf) → HaveSeen mode seen keys → HaveSeen mode seen (keys ++ more)
seen-before mode seen keys more saw = record {
  within = omega (arith, saw.within, length-append keys more);
  same = λ q. saw.same q ∙ ap (λ ks. list_any (same_key q) (map (folded mode) ks)) (sym (take-append-le seen.count keys more saw.within));
}

-- nothing more is seen
pub seen-kept : (mode : KeyMode) (old new : SeenKeys) (keys : List KeyOf) → HaveSeen mode old keys → new.cache_keys.keys ≡ old.cache_keys.keys → new.count ≡ old.count → HaveSeen mode new keys
seen-kept mode old new keys saw same counted = record {
  within = rw counted saw.within;
  same = λ q. rw (same, counted) (saw.same q);
}

-- a cache key that is there isn't inserted
pub inserts-none : (cached : CacheKey) (seen : List CacheKey) → list_any (equal cached) seen ≡ true → insert_key equal seen cached ≡ seen
inserts-none cached seen there = rw there refl

-- a key that goes last is seen
pub saw-last : (mode : KeyMode) (old new : SeenKeys) (keys : List KeyOf) (cached : CacheKey) (key : KeyOf) → HaveSeen mode old keys → old.count ≡ length keys → cache_of cached ≡ folded mode key
    → new.cache_keys.keys ≡ insert_key equal old.cache_keys.keys cached → new.count ≡ length keys + 1 → HaveSeen mode new (keys ++ key ∷ [])
saw-last mode old new keys cached key saw all is inserted counted =
    saw-one mode old new (keys ++ key ∷ []) cached key (seen-before mode old keys (key ∷ []) saw) (omega (arith, all, length-append keys (key ∷ []))) (sym (get_or_push keys key key old.count (sym all))) is inserted (counted ∙ ap (λ n. n + 1) (sym all))

-- where no key was seen, none of an empty list was, however keys are compared
pub seen-none : (was mode : KeyMode) (seen : SeenKeys) (keys : List KeyOf) → HaveSeen was seen keys → seen.count ≡ 0 → HaveSeen mode seen []
seen-none was mode seen keys saw none = record {
  within = omega (arith, none);
  same = λ key. rw none (rw none at saw.same key);
}
