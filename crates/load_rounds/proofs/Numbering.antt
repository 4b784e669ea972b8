-- The numbers of rounds in the logs, and the orders of loads.
use Rattle.std.proofs.Common.{◌≡◌, ◌≢◌, ℕ, zero, suc, ◌<◌, ◌≤◌, ◌+◌, Bool, true, false, List, [], ◌∷◌, ◌++◌, map, length, refl, ap, ◌∙◌, sym, arith}
use Rattle.std.proofs.lemmas.List.{map-append}
use Rattle.std.proofs.lemmas.List.Elements.{All-nil, All-cons, All-head, All-tail, All-append}
use Rattle.std.proofs.lemmas.Bool.{ne_eqb, eq-eqb, eqb-true}
use Rattle.std.specs.Prelude.{All, slice_get, Some, nat_lt, ◌==◌, if◌then◌else◌}
use Rattle.load_memory.specs.Keys.{KeyOf}
use Rattle.load_memory.specs.Replies.{ReplyOf}
use Rattle.load_queue.specs.Answers.{AnswerOf}
use Rattle.load_queue.specs.Batches.{batches}
use Rattle.load_queue.specs.Loaders.{LoaderOf, AskedOf, marked, stored_in}
use Rattle.load_queue.specs.Orders.{OrderOf, order_of}
use Rattle.execution.specs.Loads.{Load}
use Rattle.execution.specs.Front.{keys_for}
use Rattle.execution.specs.Rounds.{RuleOf, rule_of, orders_from, may_at, AreReplies}
use Rattle.load_rounds.specs.Sessions.{entry, logged, logged_from, made, of_first, AreNumbered}
use Rattle.load_rounds.specs.Rounds.{orders_by, first_keys, Enters}
use Rattle.load_rounds.proofs.KeyByKey.{some-same}

later : (n m : ℕ) → n ≤ m → (log : List AskedOf) → All (λ (a : AskedOf). a.round ≤ n) log → All (λ (a : AskedOf). a.round ≤ m) log
later n m le [] h = All-nil (λ (a : AskedOf). a.round ≤ m)
later n m le (a ∷ log) h =
    let first : a.round ≤ n = All-head (λ (a : AskedOf). a.round ≤ n) a log h in
    All-cons (λ (a : AskedOf). a.round ≤ m) a log (omega (arith, first, le)) (later n m le log (All-tail (λ (a : AskedOf). a.round ≤ n) a log h))

own-entries : (stored : Bool) (round m : ℕ) → round ≤ m → (bs : List (List KeyOf)) → All (λ (a : AskedOf). a.round ≤ m) (map (entry stored round) bs)
own-entries stored round m le [] = All-nil (λ (a : AskedOf). a.round ≤ m)
own-entries stored round m le (b ∷ bs) = All-cons (λ (a : AskedOf). a.round ≤ m) (entry stored round b) (map (entry stored round) bs) le (own-entries stored round m le bs)

right-some : {X : Type 0} (xs ys : List X) → ys ≢ [] → xs ++ ys ≢ []
right-some [] ys ne = ne
right-some (x ∷ xs) ys ne = λ e. absurd (cc e)

entries-numbered : (stored : Bool) (round m n : ℕ) (bs : List (List KeyOf)) (others : List OrderOf) → (map (order_of n) bs ++ others ≢ [] → round ≤ m) → All (λ (a : AskedOf). a.round ≤ m) (map (entry stored round) bs)
entries-numbered stored round m n [] others le = All-nil (λ (a : AskedOf). a.round ≤ m)
entries-numbered stored round m n (b ∷ bs) others le = own-entries stored round m (le (λ e. absurd (cc e))) (b ∷ bs)

pub made-one : (os : List OrderOf) → os ≢ [] → made os ≡ 1
made-one [] ne = absurd (ne refl)
made-one (o ∷ os) ne = refl

old-kept : (round before : ℕ) (log : List AskedOf) → before < round → All (λ (a : AskedOf). a.round ≤ before) log → map (marked round) log ≡ log
old-kept round before [] lt h = refl
old-kept round before (a ∷ log) lt h =
    let first : a.round ≤ before = All-head (λ (a : AskedOf). a.round ≤ before) a log h in
    rw (ne_eqb a.round round (λ e. omega (arith, first, e, lt))) (ap (λ es. a ∷ es) (old-kept round before log lt (All-tail (λ (a : AskedOf). a.round ≤ before) a log h)))

new-marked : (round : ℕ) (bs : List (List KeyOf)) → map (marked round) (map (entry false round) bs) ≡ map (entry true round) bs
new-marked round [] = refl
new-marked round (b ∷ bs) = rw (eq-eqb round round refl) (ap (λ es. entry true round b ∷ es) (new-marked round bs))

module _ {S : Type 0} where
  pub logged-numbered : (stored : Bool) (round before after n : ℕ) (keys : ℕ → List KeyOf) (ls : List (LoaderOf S)) → before ≤ after → (orders_by n (map rule_of ls) keys ≢ [] → round ≤ after) → AreNumbered before ls → AreNumbered after (logged_from n stored round keys ls)
  logged-numbered stored round before after n keys [] le one h = All-nil (λ (l : LoaderOf S). All (λ (a : AskedOf). a.round ≤ after) l.log)
  logged-numbered stored round before after n keys (l ∷ ls) le one h =
      let old = later before after le l.log (All-head (λ (l : LoaderOf S). All (λ (a : AskedOf). a.round ≤ before) l.log) l ls h) in
      let new = entries-numbered stored round after n (batches l.limit (keys n)) (orders_by (suc n) (map rule_of ls) keys) one in
      All-cons (λ (l : LoaderOf S). All (λ (a : AskedOf). a.round ≤ after) l.log) (logged stored round (keys n) l) (logged_from (suc n) stored round keys ls)
      (All-append (λ (a : AskedOf). a.round ≤ after) l.log (map (entry stored round) (batches l.limit (keys n))) old new)
      (logged-numbered stored round before after (suc n) keys ls le (λ ne. one (right-some (map (order_of n) (batches l.limit (keys n))) (orders_by (suc n) (map rule_of ls) keys) ne)) (All-tail (λ (l : LoaderOf S). All (λ (a : AskedOf). a.round ≤ before) l.log) l ls h))

  -- entries bear the number of a round that was made
  pub enters-numbered : (round before after : ℕ) (keys : ℕ → List KeyOf) (old new : List (LoaderOf S)) → round ≡ before + 1 → Enters round keys old new before after → AreNumbered before old → AreNumbered after new
  enters-numbered round before after keys old new next h was =
      let counted = h.rounds in
      rw h.loaders (logged-numbered false round before after 0 keys old (omega (arith, counted)) (λ ne. omega (arith, counted, next, made-one (orders_by 0 (map rule_of old) keys) ne)) was)

  -- the entries of the round are stored, and no others
  pub marked-round : (round before n : ℕ) (keys : ℕ → List KeyOf) (ls : List (LoaderOf S)) → before < round → AreNumbered before ls → map (λ l. stored_in l round) (logged_from n false round keys ls) ≡ logged_from n true round keys ls
  marked-round round before n keys [] lt h = refl
  marked-round round before n keys (l ∷ ls) lt h =
      let own = All-head (λ (l : LoaderOf S). All (λ (a : AskedOf). a.round ≤ before) l.log) l ls h in
      let rest = All-tail (λ (l : LoaderOf S). All (λ (a : AskedOf). a.round ≤ before) l.log) l ls h in
      let new = map (entry false round) (batches l.limit (keys n)) in
      let log : map (marked round) (l.log ++ new) ≡ l.log ++ map (entry true round) (batches l.limit (keys n)) =
      map-append (marked round) l.log new ∙ ap (λ es. es ++ map (marked round) new) (old-kept round before l.log lt own) ∙ ap (λ es. l.log ++ es) (new-marked round (batches l.limit (keys n))) in
      ap (λ es. record l { log = es; orders = l.orders + length (batches l.limit (keys n)) } ∷ map (λ l. stored_in l round) (logged_from (suc n) false round keys ls)) log ∙ ap (λ xs. logged true round (keys n) l ∷ xs) (marked-round round before (suc n) keys ls lt rest)

-- the orders of loads
pub orders-loads : (n : ℕ) (rules : List RuleOf) (loads : List Load) → orders_by n rules (λ m. keys_for m loads) ≡ orders_from n rules loads
orders-loads n [] loads = refl
orders-loads n (r ∷ rs) loads = ap (λ os. map (order_of n) (batches r.limit (keys_for n loads)) ++ os) (orders-loads (suc n) rs loads)

-- the keys of the first loaders
pub keys-first : (n m : ℕ) (loads : List Load) → keys_for m (of_first n loads) ≡ first_keys n (λ l. keys_for l loads) m
keys-first n m [] = go (nat_lt m n) where
  go : (b : Bool) → keys_for m [] ≡ (if b then keys_for m [] else [])
  go true = refl
  go false = refl
keys-first n m (l ∷ ls) = kept (nat_lt l.loader n) refl (l.loader == m) refl (nat_lt m n) refl (keys-first n m ls) where
  kept : (a : Bool) → nat_lt l.loader n ≡ a → (b : Bool) → (l.loader == m) ≡ b → (c : Bool) → nat_lt m n ≡ c → keys_for m (of_first n ls) ≡ first_keys n (λ i. keys_for i ls) m
      → keys_for m (if a then l ∷ of_first n ls else of_first n ls) ≡ (if c then (if b then l.key ∷ keys_for m ls else keys_for m ls) else [])
  kept true e true f true h rest = rw f (ap (λ ks. l.key ∷ ks) (rw h at rest))
  kept true e true f false h rest = absurd (cc (sym e ∙ ap (λ i. nat_lt i n) (eqb-true l.loader m f) ∙ h))
  kept false e true f true h rest = absurd (cc (sym e ∙ ap (λ i. nat_lt i n) (eqb-true l.loader m f) ∙ h))
  kept true e false f true h rest = rw f (rw h at rest)
  kept true e false f false h rest = rw f (rw h at rest)
  kept a e b f c h rest = rw h at rest

-- each order is of one of the loaders
own-orders : (n most : ℕ) (bs : List (List KeyOf)) → n < most → All (λ (o : OrderOf). o.loader < most) (map (order_of n) bs)
own-orders n most [] lt = All-nil (λ (o : OrderOf). o.loader < most)
own-orders n most (b ∷ bs) lt = All-cons (λ (o : OrderOf). o.loader < most) (order_of n b) (map (order_of n) bs) lt (own-orders n most bs lt)

pub orders-below : (n most : ℕ) (rules : List RuleOf) (keys : ℕ → List KeyOf) → n + length rules ≤ most → All (λ (o : OrderOf). o.loader < most) (orders_by n rules keys)
orders-below n most [] keys le = All-nil (λ (o : OrderOf). o.loader < most)
orders-below n most (r ∷ rs) keys le =
    All-append (λ (o : OrderOf). o.loader < most) (map (order_of n) (batches r.limit (keys n))) (orders_by (suc n) rs keys) (own-orders n most (batches r.limit (keys n)) (omega (arith, le))) (orders-below (suc n) most rs keys (omega (arith, le)))

-- and so is each reply
pub replies-below : (may : ℕ → List KeyOf → AnswerOf → Type 0) (most : ℕ) (os : List OrderOf) (rs : List ReplyOf) → AreReplies may os rs → All (λ (o : OrderOf). o.loader < most) os → All (λ (r : ReplyOf). r.loader < most) rs
replies-below may most [] [] h below = All-nil (λ (r : ReplyOf). r.loader < most)
replies-below may most (o ∷ os) (r ∷ rs) h below =
    let first : o.loader < most = All-head (λ (o : OrderOf). o.loader < most) o os below in
    let is = h.0.loader in
    All-cons (λ (r : ReplyOf). r.loader < most) r rs (omega (arith, first, is)) (replies-below may most os rs h.1 (All-tail (λ (o : OrderOf). o.loader < most) o os below))
replies-below may most os rs h below = absurd h

-- the sources of loaders stay as their logs grow
module _ {S : Type 0} (stored : Bool) (round : ℕ) (keys : ℕ → List KeyOf) where
  pub source-at : (n : ℕ) (ls : List (LoaderOf S)) (i : ℕ) (x : LoaderOf S) → slice_get (logged_from n stored round keys ls) i ≡ Some x → (y : LoaderOf S) × (slice_get ls i ≡ Some y) × (x.source ≡ y.source)
  source-at n [] i x e = absurd (cc e)
  source-at n (l ∷ ls) zero x e = (l, refl, ap (λ (y : LoaderOf S). y.source) (sym (some-same (logged stored round (keys n) l) x e)))
  source-at n (l ∷ ls) (suc i) x e = source-at (suc n) ls i x e

  pub replies-before : (may : S → List KeyOf → AnswerOf → Type 0) (ls : List (LoaderOf S)) (os : List OrderOf) (rs : List ReplyOf) → AreReplies (may_at may (logged_from 0 stored round keys ls)) os rs → AreReplies (may_at may ls) os rs
  replies-before may ls [] [] h = tt
  replies-before may ls (o ∷ os) (r ∷ rs) h =
      let is = h.0 in
      let at = source-at 0 ls o.loader is.may_be.0 is.may_be.1 in
      let can : may at.0.source o.keys is.answer = rw (← at.2) is.may_be.2 in
      (record { loader = is.loader; keys = is.keys; answer = is.answer; may_be = (at.0, at.1, can); outcomes = is.outcomes }, replies-before may ls os rs h.1)
  replies-before may ls os rs h = absurd h
