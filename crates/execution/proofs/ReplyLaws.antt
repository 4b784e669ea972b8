-- No two pairs of a round's replies are of one loader and cache key, so their order is immaterial.
use Rattle.std.proofs.Common.{◌≡◌, ◌==◌, ℕ, zero, suc, ◌≤◌, ◌<◌, Bool, true, false, not, ◌⊎◌, List, [], ◌∷◌, ◌++◌, map, length, get_or, filter, IsSome, inl, inr, sym, ◌∙◌, ap, refl, Option, Some, None, arith, if◌then◌else◌, eqb-true, Contains, IsPermutation}
use Rattle.std.proofs.lemmas.List.Sorted.{IsPermutation-sym, Contains-permutation}
use Rattle.load_memory.specs.Keys.{KeyOf, folded}
use Rattle.load_memory.specs.Outcomes.{OutcomeOf}
use Rattle.load_memory.specs.Pairs.{PairOf, is_at, look}
use Rattle.load_memory.specs.Replies.{ReplyOf}
use Rattle.load_memory.specs.declared.key.KeyMode.{KeyMode}
use Rattle.load_queue.specs.Answers.{AnswerOf}
use Rattle.load_queue.specs.Batches.{batches, joined}
use Rattle.load_queue.specs.Orders.{OrderOf, order_of}
use Rattle.load_queue.proofs.PieceLaws.{are-batches}
use Rattle.execution.specs.Loads.{Load, Memory, mode_at, read, same, IsOneOf}
use Rattle.execution.specs.Program.{Program, needs}
use Rattle.execution.specs.Front.{keys_for, firsts, missing, front}
use Rattle.execution.specs.Sessions.{Cell, cell_of, key_cell, AreApart, order_cells}
use Rattle.execution.specs.Rounds.{RuleOf, modes_of, orders_from, round_orders, AreReplies, reply_pairs, pairs_of, after_round, AreLimited}
use Rattle.execution.proofs.Same.{is-same, one-left, one-right, one-either, filter-one}
use Rattle.execution.proofs.RoundLaws.{pair-at, reply-length}
use Rattle.execution.proofs.OneLog.{at-pair}

abbrev pub pair_cell : PairOf → Cell
pair_cell p = (p.loader, p.key)

pub one-map : {X Y : Type 0} (f : X → Y) (y : Y) (xs : List X) → IsOneOf y (map f xs) → (x : X) × IsOneOf x xs × (y ≡ f x)
one-map f y [] h = absurd h
one-map f y (x ∷ xs) (inl e) = (x, inl refl, e)
one-map f y (x ∷ xs) (inr h) = let r = one-map f y xs h in (r.0, inr r.1, r.2)

pub map-one : {X Y : Type 0} (f : X → Y) (x : X) (xs : List X) → IsOneOf x xs → IsOneOf (f x) (map f xs)
map-one f x [] h = absurd h
map-one f x (y ∷ xs) (inl e) = inl (ap f e)
map-one f x (y ∷ xs) (inr h) = inr (map-one f x xs h)

filter-apart : (f : Load → Cell) (test : Load → Bool) (xs : List Load) → AreApart (map f xs) → AreApart (map f (filter test xs))
filter-apart f test [] h = tt
filter-apart f test (x ∷ xs) h = go (test x) refl (filter-apart f test xs h.1)
  where
    go : (b : Bool) → test x ≡ b → AreApart (map f (filter test xs)) → AreApart (map f (filter test (x ∷ xs)))
    go true e ih =
        let alone : IsOneOf (f x) (map f (filter test xs)) → ⊥ = λ i. let r = one-map f (f x) (filter test xs) i in h.0 (rw r.2 (map-one f r.0 xs (filter-one test r.0 xs r.1).0)) in
        rw e (alone, ih)
    go false e ih = rw e ih

pub firsts-apart : (modes : List KeyMode) (ls : List Load) → AreApart (map (cell_of modes) (firsts modes ls))
firsts-apart modes [] = tt
firsts-apart modes (l ∷ ls) = (alone, filter-apart (cell_of modes) (λ m. not (same modes m l)) (firsts modes ls) (firsts-apart modes ls))
  where
    alone : IsOneOf (cell_of modes l) (map (cell_of modes) (filter (λ m. not (same modes m l)) (firsts modes ls))) → ⊥
    alone i =
        let r : (m : Load) × IsOneOf m (filter (λ m. not (same modes m l)) (firsts modes ls)) × (cell_of modes l ≡ cell_of modes m) = one-map (cell_of modes) (cell_of modes l) (filter (λ m. not (same modes m l)) (firsts modes ls)) i in
        let other : not (same modes r.0 l) ≡ true = (filter-one (λ m. not (same modes m l)) r.0 (firsts modes ls) r.1).1 in
        let one : same modes r.0 l ≡ true = is-same modes r.0 l (sym (ap (λ (c : Cell). c.0) r.2)) (sym (ap (λ (c : Cell). c.1) r.2)) in
        cc (sym (ap not one) ∙ other)

-- the cells of a loader's keys are cells of the loads
keys-cells : (modes : List KeyMode) (n : ℕ) (c : Cell) (ls : List Load) → IsOneOf c (map (key_cell modes n) (keys_for n ls)) → IsOneOf c (map (cell_of modes) ls)
keys-cells modes n c [] h = h
keys-cells modes n c (l ∷ ls) h = go (l.loader == n) refl h (keys-cells modes n c ls)
  where
    go : (b : Bool) → (l.loader == n) ≡ b → IsOneOf c (map (key_cell modes n) (if b then l.key ∷ keys_for n ls else keys_for n ls)) → (IsOneOf c (map (key_cell modes n) (keys_for n ls)) → IsOneOf c (map (cell_of modes) ls))
        → IsOneOf c (map (cell_of modes) (l ∷ ls))
    go true e (inl s) ih = inl (s ∙ ap (λ m. key_cell modes m l.key) (sym (eqb-true l.loader n e)))
    go true e (inr d) ih = inr (ih d)
    go false e d ih = inr (ih d)

keys-apart : (modes : List KeyMode) (n : ℕ) (ls : List Load) → AreApart (map (cell_of modes) ls) → AreApart (map (key_cell modes n) (keys_for n ls))
keys-apart modes n [] h = tt
keys-apart modes n (l ∷ ls) h = go (l.loader == n) refl (keys-apart modes n ls h.1)
  where
    go : (b : Bool) → (l.loader == n) ≡ b → AreApart (map (key_cell modes n) (keys_for n ls)) → AreApart (map (key_cell modes n) (if b then l.key ∷ keys_for n ls else keys_for n ls))
    go true e ih =
        let at : key_cell modes n l.key ≡ cell_of modes l = ap (λ m. key_cell modes m l.key) (sym (eqb-true l.loader n e)) in
        ((λ i. h.0 (rw (← at) (keys-cells modes n (key_cell modes n l.key) ls i))), ih)
    go false e ih = ih

append-assoc : {X : Type 0} (xs ys zs : List X) → (xs ++ ys) ++ zs ≡ xs ++ (ys ++ zs)
append-assoc [] ys zs = refl
append-assoc (x ∷ xs) ys zs = ap (λ ws. x ∷ ws) (append-assoc xs ys zs)

map-append : {X Y : Type 0} (f : X → Y) (xs ys : List X) → map f (xs ++ ys) ≡ map f xs ++ map f ys
map-append f [] ys = refl
map-append f (x ∷ xs) ys = ap (λ zs. f x ∷ zs) (map-append f xs ys)

pieces-cells : (modes : List KeyMode) (n : ℕ) (ps : List (List KeyOf)) (os : List OrderOf) → order_cells modes (map (order_of n) ps ++ os) ≡ map (key_cell modes n) (joined ps) ++ order_cells modes os
pieces-cells modes n [] os = refl
pieces-cells modes n (p ∷ ps) os =
    ap (λ cs. map (key_cell modes n) p ++ cs) (pieces-cells modes n ps os)
    ∙ sym (append-assoc (map (key_cell modes n) p) (map (key_cell modes n) (joined ps)) (order_cells modes os))
    ∙ ap (λ cs. cs ++ order_cells modes os) (sym (map-append (key_cell modes n) p (joined ps)))

-- the batches ask each key once
batches-cells : (modes : List KeyMode) (n : ℕ) (rule : RuleOf) (rules : List RuleOf) (ls : List Load) → AreLimited (rule ∷ rules)
    → order_cells modes (orders_from n (rule ∷ rules) ls) ≡ map (key_cell modes n) (keys_for n ls) ++ order_cells modes (orders_from (suc n) rules ls)
batches-cells modes n rule rules ls positive =
    pieces-cells modes n (batches rule.limit (keys_for n ls)) (orders_from (suc n) rules ls)
    ∙ ap (λ keys. map (key_cell modes n) keys ++ order_cells modes (orders_from (suc n) rules ls)) (are-batches rule.limit (keys_for n ls) positive.0).in_order

pub append-apart : (xs ys : List Cell) → AreApart xs → AreApart ys → ((c : Cell) → IsOneOf c xs → IsOneOf c ys → ⊥) → AreApart (xs ++ ys)
append-apart [] ys h k d = k
append-apart (x ∷ xs) ys h k d = ((λ i. elim (one-either x xs ys i) [ inl a ↦ h.0 a | inr b ↦ d x (inl refl) b ]), append-apart xs ys h.1 k (λ c i j. d c (inr i) j))

key-loader : (modes : List KeyMode) (n : ℕ) (c : Cell) (keys : List KeyOf) → IsOneOf c (map (key_cell modes n) keys) → c.0 ≡ n
key-loader modes n c keys h = ap (λ (d : Cell). d.0) (one-map (key_cell modes n) c keys h).2

orders-above : (modes : List KeyMode) (n : ℕ) (rules : List RuleOf) (ls : List Load) (c : Cell) → AreLimited rules → IsOneOf c (order_cells modes (orders_from n rules ls)) → n ≤ c.0
orders-above modes n [] ls c positive h = absurd h
orders-above modes n (rule ∷ rules) ls c positive h =
    elim (one-either c (map (key_cell modes n) (keys_for n ls)) (order_cells modes (orders_from (suc n) rules ls)) (rw (batches-cells modes n rule rules ls positive) at h)) [
      | inl a ↦ let at : c.0 ≡ n = key-loader modes n c (keys_for n ls) a in omega arith
      | inr b ↦ let more : suc n ≤ c.0 = orders-above modes (suc n) rules ls c positive.1 b in omega arith
    ]

-- each key of the orders is one of the loads
pub orders-loads : (modes : List KeyMode) (n : ℕ) (rules : List RuleOf) (ls : List Load) (c : Cell) → AreLimited rules → IsOneOf c (order_cells modes (orders_from n rules ls)) → IsOneOf c (map (cell_of modes) ls)
orders-loads modes n [] ls c positive h = absurd h
orders-loads modes n (rule ∷ rules) ls c positive h =
    elim (one-either c (map (key_cell modes n) (keys_for n ls)) (order_cells modes (orders_from (suc n) rules ls)) (rw (batches-cells modes n rule rules ls positive) at h)) [
      | inl a ↦ keys-cells modes n c ls a
      | inr b ↦ orders-loads modes (suc n) rules ls c positive.1 b
    ]

pub orders-apart : (modes : List KeyMode) (n : ℕ) (rules : List RuleOf) (ls : List Load) → AreLimited rules → AreApart (map (cell_of modes) ls) → AreApart (order_cells modes (orders_from n rules ls))
orders-apart modes n [] ls positive h = tt
orders-apart modes n (rule ∷ rules) ls positive h =
    rw (batches-cells modes n rule rules ls positive)
    (append-apart (map (key_cell modes n) (keys_for n ls)) (order_cells modes (orders_from (suc n) rules ls)) (keys-apart modes n ls h) (orders-apart modes (suc n) rules ls positive.1 h)
    (λ c i j. let at : c.0 ≡ n = key-loader modes n c (keys_for n ls) i in let more : suc n ≤ c.0 = orders-above modes (suc n) rules ls c positive.1 j in absurd (omega arith)))

reply-cells : (mode : KeyMode) (n : ℕ) (keys : List KeyOf) (outcomes : List OutcomeOf) → length outcomes ≡ length keys → map pair_cell (reply_pairs mode n keys outcomes) ≡ map (λ key. (n, folded mode key)) keys
reply-cells mode n [] outcomes e = refl
reply-cells mode n (k ∷ ks) [] e = absurd (omega (arith, e))
reply-cells mode n (k ∷ ks) (o ∷ os) e = ap (λ cs. (n, folded mode k) ∷ cs) (reply-cells mode n ks os (omega (arith, e)))

-- the replies' pairs have the cells of the orders
pub replies-cells : (may : ℕ → List KeyOf → AnswerOf → Type 0) (modes : List KeyMode) (os : List OrderOf) (rs : List ReplyOf) → AreReplies may os rs → map pair_cell (pairs_of modes rs) ≡ order_cells modes os
replies-cells may modes [] [] h = refl
replies-cells may modes [] (r ∷ rs) h = absurd h
replies-cells may modes (o ∷ os) [] h = absurd h
replies-cells may modes (o ∷ os) (r ∷ rs) h =
    map-append pair_cell (reply_pairs (mode_at modes r.loader) r.loader r.keys r.outcomes) (pairs_of modes rs)
    ∙ ap (λ cs. cs ++ map pair_cell (pairs_of modes rs)) (reply-cells (mode_at modes r.loader) r.loader r.keys r.outcomes (reply-length may o r h.0))
    ∙ ap (λ cs. map (key_cell modes r.loader) r.keys ++ cs) (replies-cells may modes os rs h.1)
    ∙ ap (λ n. map (key_cell modes n) r.keys ++ order_cells modes os) h.0.loader
    ∙ ap (λ ks. map (key_cell modes o.loader) ks ++ order_cells modes os) h.0.keys

abbrev pub make : ℕ → KeyOf → OutcomeOf → PairOf
make loader key outcome = record { loader = loader; key = key; outcome = outcome }

pub look-member : (loader : ℕ) (key : KeyOf) (o : OutcomeOf) (ps : List PairOf) → look ps loader key ≡ Some o → IsOneOf (make loader key o) ps
look-member loader key o [] h = absurd (cc h)
look-member loader key o (p ∷ ps) h = go (is_at loader key p) refl h (look-member loader key o ps)
  where
    go : (b : Bool) → is_at loader key p ≡ b → (if b then Some p.outcome else look ps loader key) ≡ Some o → (look ps loader key ≡ Some o → IsOneOf (make loader key o) ps) → IsOneOf (make loader key o) (p ∷ ps)
    go true e h ih =
        let at = at-pair loader key p e in
        let is : o ≡ p.outcome = cc h in
        inl (ap (λ n. make n key o) at.0 ∙ ap (λ k. make p.loader k o) at.1 ∙ ap (λ x. make p.loader p.key x) is)
    go false e h ih = inr (ih h)

pub member-some : (loader : ℕ) (key : KeyOf) (o : OutcomeOf) (ps : List PairOf) → IsOneOf (make loader key o) ps → IsSome (look ps loader key)
member-some loader key o [] h = absurd h
member-some loader key o (p ∷ ps) h = go (is_at loader key p) refl h (member-some loader key o ps)
  where
    go : (b : Bool) → is_at loader key p ≡ b → (make loader key o ≡ p) ⊎ IsOneOf (make loader key o) ps → (IsOneOf (make loader key o) ps → IsSome (look ps loader key)) → IsSome (if b then Some p.outcome else look ps loader key)
    go true e h ih = refl
    go false e (inl s) ih = absurd (cc (sym (pair-at loader key p (ap (λ (q : PairOf). q.loader) s) (ap (λ (q : PairOf). q.key) s)) ∙ e))
    go false e (inr d) ih = ih d

member-look : (loader : ℕ) (key : KeyOf) (o : OutcomeOf) (ps : List PairOf) → AreApart (map pair_cell ps) → IsOneOf (make loader key o) ps → look ps loader key ≡ Some o
member-look loader key o [] apart h = absurd h
member-look loader key o (p ∷ ps) apart h = go (is_at loader key p) refl h (member-look loader key o ps apart.1)
  where
    go : (b : Bool) → is_at loader key p ≡ b → (make loader key o ≡ p) ⊎ IsOneOf (make loader key o) ps → (IsOneOf (make loader key o) ps → look ps loader key ≡ Some o) → (if b then Some p.outcome else look ps loader key) ≡ Some o
    go true e (inl s) ih = ap (λ (q : PairOf). Some q.outcome) (sym s)
    go true e (inr d) ih =
        let at = at-pair loader key p e in
        let cell : (loader, key) ≡ pair_cell p = ap (λ n. (n, key)) at.0 ∙ ap (λ k. (p.loader, k)) at.1 in
        absurd (apart.0 (rw (← cell) (map-one pair_cell (make loader key o) ps d)))
    go false e (inl s) ih = absurd (cc (sym (pair-at loader key p (ap (λ (q : PairOf). q.loader) s) (ap (λ (q : PairOf). q.key) s)) ∙ e))
    go false e (inr d) ih = ih d

none-some : (r : Option OutcomeOf) → r ≡ None → IsSome r → ⊥
none-some None e h = absurd (cc h)
none-some (Some o) e h = cc e

-- lists with the same pairs are one map, if no two of them have a cell
look-same : (loader : ℕ) (key : KeyOf) (ps qs : List PairOf) → AreApart (map pair_cell ps) → ((p : PairOf) → IsOneOf p ps → IsOneOf p qs) → ((p : PairOf) → IsOneOf p qs → IsOneOf p ps) → look qs loader key ≡ look ps loader key
look-same loader key ps qs apart there back = go (look qs loader key) refl (look ps loader key) refl
  where
    go : (r : Option OutcomeOf) → look qs loader key ≡ r → (s : Option OutcomeOf) → look ps loader key ≡ s → look qs loader key ≡ look ps loader key
    go None e None f = e ∙ sym f
    go None e (Some o) f = absurd (none-some (look qs loader key) e (member-some loader key o qs (there (make loader key o) (look-member loader key o ps f))))
    go (Some o) e s f = e ∙ sym (member-look loader key o ps apart (back (make loader key o) (look-member loader key o qs e)))

contains-one : {X : Type 0} (x : X) (xs : List X) → IsOneOf x xs → Contains xs x
contains-one x [] h = absurd h
contains-one x (y ∷ ys) (inl e) = (0, omega arith, sym e)
contains-one x (y ∷ ys) (inr h) = let r = contains-one x ys h in (suc r.0, omega (arith, r.1), r.2)

one-contains : {X : Type 0} (x : X) (xs : List X) (k : ℕ) → k < length xs → get_or xs k x ≡ x → IsOneOf x xs
one-contains x [] k lt e = absurd (omega arith)
one-contains x (y ∷ ys) zero lt e = inl (sym e)
one-contains x (y ∷ ys) (suc k) lt e = inr (one-contains x ys k (omega arith) e)

pub one-permutation : {X : Type 0} (xs ys : List X) (x : X) → IsPermutation xs ys → IsOneOf x xs → IsOneOf x ys
one-permutation xs ys x h i = let r = Contains-permutation xs ys x h (contains-one x xs i) in one-contains x ys r.0 r.1 r.2

abbrev pub own_pairs : List KeyMode → ReplyOf → List PairOf
own_pairs modes r = reply_pairs (mode_at modes r.loader) r.loader r.keys r.outcomes

pub pairs-from : (modes : List KeyMode) (p : PairOf) (rs : List ReplyOf) → IsOneOf p (pairs_of modes rs) → (r : ReplyOf) × IsOneOf r rs × IsOneOf p (own_pairs modes r)
pairs-from modes p [] h = absurd h
pairs-from modes p (r ∷ rs) h = elim (one-either p (own_pairs modes r) (pairs_of modes rs) h) [
  | inl a ↦ (r, inl refl, a)
  | inr b ↦ let s = pairs-from modes p rs b in (s.0, inr s.1, s.2)
]

from-pairs : (modes : List KeyMode) (p : PairOf) (r : ReplyOf) (rs : List ReplyOf) → IsOneOf r rs → IsOneOf p (own_pairs modes r) → IsOneOf p (pairs_of modes rs)
from-pairs modes p r [] h i = absurd h
from-pairs modes p r (s ∷ rs) (inl e) i = one-left p (own_pairs modes s) (pairs_of modes rs) (rw (← e) i)
from-pairs modes p r (s ∷ rs) (inr h) i = one-right p (own_pairs modes s) (pairs_of modes rs) (from-pairs modes p r rs h i)

pairs-permutation : (modes : List KeyMode) (rs ss : List ReplyOf) (p : PairOf) → IsPermutation rs ss → IsOneOf p (pairs_of modes rs) → IsOneOf p (pairs_of modes ss)
pairs-permutation modes rs ss p h i =
    let r = pairs-from modes p rs i in
    from-pairs modes p r.0 ss (one-permutation rs ss r.0 h r.1) r.2

pub reply-order : (may : ℕ → List KeyOf → AnswerOf → Type 0) (rules : List RuleOf) (p : Program) (M : Memory) (round other : List ReplyOf) → AreLimited rules → AreReplies may (round_orders rules (front (modes_of rules) p M)) round → IsPermutation round other
    → (loader : ℕ) (key : KeyOf) → after_round rules M other loader key ≡ after_round rules M round loader key
reply-order may rules p M round other positive h moved loader key =
    let modes : List KeyMode = modes_of rules in
    let ls : List Load = front modes p M in
    let cells : AreApart (order_cells modes (round_orders rules ls)) = orders-apart modes 0 rules ls positive (firsts-apart modes (missing (read modes M) (needs p (read modes M)))) in
    let apart : AreApart (map pair_cell (pairs_of modes round)) = rw (replies-cells may modes (round_orders rules ls) round h) cells in
    let alike : look (pairs_of modes other) loader key ≡ look (pairs_of modes round) loader key =
    look-same loader key (pairs_of modes round) (pairs_of modes other) apart (λ q i. pairs-permutation modes round other q moved i) (λ q i. pairs-permutation modes other round q (IsPermutation-sym round other moved) i) in
    rw alike refl
