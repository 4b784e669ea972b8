-- Lemmas on which sets have a clash.
use Rattle.std.proofs.Common.{◌≡◌, ◌∙◌, sym, ap, refl, ℕ, ◌+◌, Bool, true, false, ◌||◌, List, [], ◌∷◌, ◌++◌, map, append_assoc}
use Rattle.std.specs.Prelude.{filter}
use Rattle.std.specs.List.{list_any}
use Rattle.std.proofs.lemmas.List.Elements.{filter-append}
use Rattle.gq_parser.specs.Tree.{SelectionSet, set_at, Selection, Selections, and_selection}
use Rattle.merging_pairs.specs.Clashes.{has_clash}
use Rattle.merging_pairs.specs.Table.{fail}
use Rattle.merging_members.specs.Members.{SetOf, count_from, members_in, own_set, sets_in, sets_among, sets_from}
use Rattle.merging_members.specs.SetMembers.{to, renumbered, clash, place_of}

any-map : (f : ℕ → ℕ) (test : ℕ → Bool) (ms : List ℕ) → list_any test (map f ms) ≡ list_any (λ a. test (f a)) ms
any-map f test [] = refl
any-map f test (m ∷ ms) = ap (λ (b : Bool). test (f m) || b) (any-map f test ms)

any-same : (f g : ℕ → Bool) (ms : List ℕ) → ((a : ℕ) → f a ≡ g a) → list_any f ms ≡ list_any g ms
any-same f g [] same = refl
any-same f g (m ∷ ms) same = rw (same m, any-same f g ms same) refl

pub clashing-same : (rows : List (List ℕ)) (numbers ms : List ℕ) → has_clash (fail rows) (renumbered numbers ms) ≡ has_clash (clash rows numbers) ms
clashing-same rows numbers ms =
    any-map (to numbers) (λ a. list_any (fail rows a) (map (to numbers) ms)) ms
    ∙ any-same (λ a. list_any (fail rows (to numbers a)) (map (to numbers) ms)) (λ a. list_any (clash rows numbers a) ms) ms (λ a. any-map (to numbers) (fail rows (to numbers a)) ms)

-- a set as it is reported
abbrev pub set_with_members : (List ℕ → List ℕ) → ℕ → SelectionSet → SetOf
set_with_members spread n s = record { place = place_of s; members = members_in spread n s }

own-is : (spread : List ℕ → List ℕ) (n : ℕ) (s : SelectionSet) → own_set spread n s ≡ set_with_members spread n s ∷ []
own-is spread n (set_at p ss) = refl

one-kept : (test : SetOf → Bool) (s : SetOf) → test s ≡ true → filter test (s ∷ []) ≡ s ∷ []
one-kept test s e = rw e refl

one-dropped : (test : SetOf → Bool) (s : SetOf) → test s ≡ false → filter test (s ∷ []) ≡ []
one-dropped test s e = rw e refl

pub own-kept : (test : SetOf → Bool) (spread : List ℕ → List ℕ) (n : ℕ) (s : SelectionSet) → test (set_with_members spread n s) ≡ true → filter test (own_set spread n s) ≡ set_with_members spread n s ∷ []
own-kept test spread n s e = rw (own-is spread n s) (one-kept test (set_with_members spread n s) e)

pub own-dropped : (test : SetOf → Bool) (spread : List ℕ → List ℕ) (n : ℕ) (s : SelectionSet) → test (set_with_members spread n s) ≡ false → filter test (own_set spread n s) ≡ []
own-dropped test spread n s e = rw (own-is spread n s) (one-dropped test (set_with_members spread n s) e)

-- the sets inside a set, and then the set itself
pub with-own : (test : SetOf → Bool) (spread : List ℕ → List ℕ) (n : ℕ) (s : SelectionSet) (ss : Selections) (old mid new : List SetOf)
    → s ≡ set_at (place_of s) ss → mid ≡ old ++ filter test (sets_among spread n ss) → new ≡ mid ++ filter test (own_set spread n s) → new ≡ old ++ filter test (sets_in spread n s)
with-own test spread n (set_at p ts) ss old mid new is before here =
    let same : ss ≡ ts = sym (ap among is) in
    here ∙ (ap (λ (xs : List SetOf). xs ++ filter test (own_set spread n (set_at p ts))) before
    ∙ (append_assoc old (filter test (sets_among spread n ss)) (filter test (own_set spread n (set_at p ts)))
    ∙ ap (λ (xs : List SetOf). old ++ xs) (rw same (sym (filter-append test (sets_among spread n ts) (own_set spread n (set_at p ts)))))))
  where
    among : SelectionSet → Selections
    among (set_at q us) = us

-- the sets found so far, where those inside one more selection are added
pub found-more : (test : SetOf → Bool) (spread : List ℕ → List ℕ) (n m : ℕ) (s : Selection) (rest : Selections) (old new all : List SetOf)
    → m ≡ n + count_from s → new ≡ old ++ filter test (sets_from spread n s) → old ++ filter test (sets_among spread n (and_selection s rest)) ≡ all → new ++ filter test (sets_among spread m rest) ≡ all
found-more test spread n m s rest old new all next more before =
    let xs = sets_from spread n s in
    let ys = sets_among spread (n + count_from s) rest in
    rw (next, more) (append_assoc old (filter test xs) (filter test ys) ∙ (ap (λ (zs : List SetOf). old ++ zs) (sym (filter-append test xs ys)) ∙ before))
