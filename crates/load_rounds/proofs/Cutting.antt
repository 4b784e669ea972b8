-- Loader by loader, the batches of what is wanted are entered.
use Rattle.std.proofs.Common.{◌≡◌, ◌≢◌, ℕ, zero, suc, ◌<◌, ◌≤◌, ◌+◌, Bool, true, false, List, [], ◌∷◌, ◌++◌, map, length, get_or, refl, ap, ◌∙◌, sym, arith, append_assoc, ltb-false, ◌⊎◌, inl, inr}
use Rattle.std.proofs.lemmas.List.Elements.{All-map}
use Rattle.std.proofs.lemmas.Option.{slice_get-map, slice_get_read}
use Rattle.std.proofs.lemmas.List.{append-nil, length-map, get_or-map, set-get_or}
use Rattle.std.proofs.lemmas.Bool.{lt-ltb, ltb-true}
use Rattle.std.specs.Prelude.{slice_set, slice_get, nat_lt, Some, option_map}
use Rattle.load_memory.specs.Keys.{KeyOf}
use Rattle.load_queue.specs.Batches.{batches}
use Rattle.load_queue.specs.Loaders.{LoaderOf, asked_in}
use Rattle.load_queue.specs.Orders.{OrderOf, CutOf, order_of, cut_of, orders_of, asks, identities, IsCutBy, AreCutBy}
use Rattle.execution.specs.Rounds.{RuleOf, rule_of}
use Rattle.load_rounds.specs.Sessions.{logged, logged_from, made}
use Rattle.load_rounds.specs.Rounds.{orders_by, first_keys, Enters}

not-below : (a b : ℕ) → b ≤ a → nat_lt a b ≡ false
not-below a b le = go (nat_lt a b) refl where
  go : (t : Bool) → nat_lt a b ≡ t → nat_lt a b ≡ false
  go true e = absurd (omega (arith, le, ltb-true a b e))
  go false e = e

pub first-none : (keys : ℕ → List KeyOf) (k m : ℕ) → k ≤ m → first_keys k keys m ≡ []
first-none keys k m le = rw (not-below m k le) refl

pub first-some : (keys : ℕ → List KeyOf) (k m : ℕ) → m < k → first_keys k keys m ≡ keys m
first-some keys k m lt = rw (lt-ltb m k lt) refl

pub made-more : (os more : List OrderOf) → more ≢ [] → made (os ++ more) ≡ 1
made-more [] [] ne = absurd (ne refl)
made-more os more ne = refl

-- an order asks the same, whichever loader cut it
pub asks-cut : (identity n : ℕ) (bs : List (List KeyOf)) → map asks (map (cut_of identity n) bs) ≡ map (order_of n) bs
asks-cut identity n [] = refl
asks-cut identity n (b ∷ bs) = ap (λ os. order_of n b ∷ os) (asks-cut identity n bs)

none-asked : (os : List CutOf) → map asks os ≡ [] → os ≡ []
none-asked [] e = refl
none-asked (o ∷ os) e = absurd (cc e)

module _ {S : Type 0} where
  pub logged-none : (stored : Bool) (round : ℕ) (l : LoaderOf S) → logged stored round [] l ≡ l
  logged-none stored round l = let none : l.orders + 0 ≡ l.orders = omega arith in rw (append-nil l.log, none) refl

  pub logged-same : (stored : Bool) (round n : ℕ) (keys others : ℕ → List KeyOf) (ls : List (LoaderOf S)) → ((m : ℕ) → n ≤ m → m < n + length ls → keys m ≡ others m)
      → logged_from n stored round keys ls ≡ logged_from n stored round others ls
  logged-same stored round n keys others [] same = refl
  logged-same stored round n keys others (l ∷ ls) same =
      let here : keys n ≡ others n = same n (omega arith) (omega arith) in
      let rest = logged-same stored round (suc n) keys others ls (λ m le lt. same m (omega (arith, le)) (omega (arith, lt))) in
      rw (here, rest) refl

  pub logged-past : (stored : Bool) (round n k : ℕ) (keys : ℕ → List KeyOf) (ls : List (LoaderOf S)) → k ≤ n → logged_from n stored round (first_keys k keys) ls ≡ ls
  logged-past stored round n k keys [] le = refl
  logged-past stored round n k keys (l ∷ ls) le =
      let here : logged stored round (first_keys k keys n) l ≡ l = ap (λ ks. logged stored round ks l) (first-none keys k n le) ∙ logged-none stored round l in
      let rest = logged-past stored round (suc n) k keys ls (omega (arith, le)) in
      ap (λ x. x ∷ logged_from (suc n) stored round (first_keys k keys) ls) here ∙ ap (λ xs. l ∷ xs) rest

  pub rules-logged : (stored : Bool) (round n : ℕ) (keys : ℕ → List KeyOf) (ls : List (LoaderOf S)) → map rule_of (logged_from n stored round keys ls) ≡ map rule_of ls
  rules-logged stored round n keys [] = refl
  rules-logged stored round n keys (l ∷ ls) = ap (λ rs. rule_of l ∷ rs) (rules-logged stored round (suc n) keys ls)

  -- they are the same loaders
  pub identities-logged : (stored : Bool) (round n : ℕ) (keys : ℕ → List KeyOf) (ls : List (LoaderOf S)) → identities (logged_from n stored round keys ls) ≡ identities ls
  identities-logged stored round n keys [] = refl
  identities-logged stored round n keys (l ∷ ls) = ap (λ is. l.identity ∷ is) (identities-logged stored round (suc n) keys ls)

  pub length-logged : (stored : Bool) (round n : ℕ) (keys : ℕ → List KeyOf) (ls : List (LoaderOf S)) → length (logged_from n stored round keys ls) ≡ length ls
  length-logged stored round n keys [] = refl
  length-logged stored round n keys (l ∷ ls) = ap suc (length-logged stored round (suc n) keys ls)

  -- one loader more was asked
  pub logged-step : (round n i k j : ℕ) (keys : ℕ → List KeyOf) (ls : List (LoaderOf S)) (d x : LoaderOf S) → k ≡ n + i → j ≡ suc k → i < length ls → d ≡ get_or (logged_from n false round (first_keys k keys) ls) i d → x ≡ logged false round (keys k) d
      → slice_set (logged_from n false round (first_keys k keys) ls) i x ≡ logged_from n false round (first_keys j keys) ls
  logged-step round n i k j keys [] d x e next lt at is = absurd (omega arith)
  logged-step round n zero k j keys (l ∷ ls) d x e next lt at is =
      let own : k ≡ n = omega (arith, e) in
      let was : d ≡ l = at ∙ ap (λ ks. logged false round ks l) (first-none keys k n (omega (arith, own))) ∙ logged-none false round l in
      let now : first_keys j keys n ≡ keys k = first-some keys j n (omega (arith, own, next)) ∙ ap keys (sym own) in
      let head : x ≡ logged false round (first_keys j keys n) l = is ∙ ap (logged false round (keys k)) was ∙ ap (λ ks. logged false round ks l) (sym now) in
      let tail = logged-past false round (suc n) k keys ls (omega (arith, own)) ∙ sym (logged-past false round (suc n) j keys ls (omega (arith, own, next))) in
      ap (λ y. y ∷ logged_from (suc n) false round (first_keys k keys) ls) head ∙ ap (λ ys. logged false round (first_keys j keys n) l ∷ ys) tail
  logged-step round n (suc i) k j keys (l ∷ ls) d x e next lt at is =
      let same : first_keys k keys n ≡ first_keys j keys n = first-some keys k n (omega (arith, e)) ∙ sym (first-some keys j n (omega (arith, e, next))) in
      let rest = logged-step round (suc n) i k j keys ls d x (omega (arith, e)) next (omega arith) at is in
      ap (λ ks. logged false round ks l ∷ slice_set (logged_from (suc n) false round (first_keys k keys) ls) i x) same ∙ ap (λ ys. logged false round (first_keys j keys n) l ∷ ys) rest

pub orders-same : (n : ℕ) (keys others : ℕ → List KeyOf) (rules : List RuleOf) → ((m : ℕ) → n ≤ m → m < n + length rules → keys m ≡ others m) → orders_by n rules keys ≡ orders_by n rules others
orders-same n keys others [] same = refl
orders-same n keys others (r ∷ rs) same =
    let here : keys n ≡ others n = same n (omega arith) (omega arith) in
    let rest = orders-same (suc n) keys others rs (λ m le lt. same m (omega (arith, le)) (omega (arith, lt))) in
    rw (here, rest) refl

pub orders-past : (n k : ℕ) (keys : ℕ → List KeyOf) (rules : List RuleOf) → k ≤ n → orders_by n rules (first_keys k keys) ≡ []
orders-past n k keys [] le = refl
orders-past n k keys (r ∷ rs) le = rw (first-none keys k n le) (orders-past (suc n) k keys rs (omega (arith, le)))

pub orders-step : (n i k j : ℕ) (keys : ℕ → List KeyOf) (rules : List RuleOf) (rule : RuleOf) → k ≡ n + i → j ≡ suc k → i < length rules → rule ≡ get_or rules i rule
    → orders_by n rules (first_keys j keys) ≡ orders_by n rules (first_keys k keys) ++ map (order_of k) (batches rule.limit (keys k))
orders-step n i k j keys [] rule e next lt at = absurd (omega arith)
orders-step n zero k j keys (r ∷ rs) rule e next lt at =
    let own : k ≡ n = omega (arith, e) in
    let now : first_keys j keys n ≡ keys n = first-some keys j n (omega (arith, own, next)) in
    rw (first-none keys k n (omega (arith, own)), now, orders-past (suc n) k keys rs (omega (arith, own)), orders-past (suc n) j keys rs (omega (arith, own, next)), append-nil, own, at) refl
orders-step n (suc i) k j keys (r ∷ rs) rule e next lt at =
    let same : first_keys k keys n ≡ first_keys j keys n = first-some keys k n (omega (arith, e)) ∙ sym (first-some keys j n (omega (arith, e, next))) in
    let rest = orders-step (suc n) i k j keys rs rule (omega (arith, e)) next (omega arith) at in
    rw (← same, rest) (sym (append_assoc (map (order_of n) (batches r.limit (first_keys k keys n))) (orders_by (suc n) rs (first_keys k keys)) (map (order_of k) (batches rule.limit (keys k)))))

-- the rule of a loader that was perhaps asked
module _ {S : Type 0} (round i : ℕ) (keys : ℕ → List KeyOf) (old cur : List (LoaderOf S)) (d : LoaderOf S) (is : cur ≡ logged_from 0 false round keys old) (lt : i < length cur) (at : d ≡ get_or cur i d) where
  pub rule-at : rule_of d ≡ get_or (map rule_of old) i (rule_of d)
  rule-at = ap rule_of at ∙ sym (get_or-map rule_of cur i d (rule_of d) lt) ∙ ap (λ rs. get_or rs i (rule_of d)) (ap (map rule_of) is ∙ rules-logged false round 0 keys old)

  -- what it cuts under its number is its own
  pub cut-here : (bs : List (List KeyOf)) → AreCutBy old (map (cut_of d.identity i) bs)
  cut-here bs =
      let same : identities old ≡ identities cur = sym (ap identities is ∙ identities-logged false round 0 keys old) in
      let there : slice_get (identities old) i ≡ Some d.identity =
      ap (λ ids. slice_get ids i) same ∙ slice_get-map (λ (l : LoaderOf S). l.identity) cur i ∙ ap (option_map (λ (l : LoaderOf S). l.identity)) (slice_get_read cur (length cur) i d refl lt at) in
      All-map (IsCutBy old) (cut_of d.identity i) bs (λ k e below. there)

  pub within : i < length old
  within = omega (arith, lt, ap length is, length-logged false round 0 keys old)

-- the batches of one loader more were entered
module _ {S : Type 0} (round i : ℕ) (keys : ℕ → List KeyOf) (old cur : List (LoaderOf S)) (before rounds : ℕ) (was : Enters round (first_keys i keys) old cur before rounds) (d x : LoaderOf S) (lt : i < length cur) (at : d ≡ get_or cur i d) (is : x ≡ logged false round (keys i) d) where
  entered-loaders : slice_set cur i x ≡ logged_from 0 false round (first_keys (i + 1) keys) old
  entered-loaders =
      let below : i < length old = within round i (first_keys i keys) old cur d was.loaders lt at in
      let here : d ≡ get_or (logged_from 0 false round (first_keys i keys) old) i d = at ∙ ap (λ ls. get_or ls i d) was.loaders in
      ap (λ ls. slice_set ls i x) was.loaders ∙ logged-step round 0 i i (i + 1) keys old d x (omega arith) (omega arith) below here is

  pub more-orders : orders_by 0 (map rule_of old) (first_keys (i + 1) keys) ≡ orders_by 0 (map rule_of old) (first_keys i keys) ++ map (order_of i) (batches d.limit (keys i))
  more-orders =
      let below : i < length (map rule_of old) = omega (arith, within round i (first_keys i keys) old cur d was.loaders lt at, length-map old rule_of) in
      orders-step 0 i i (i + 1) keys (map rule_of old) (rule_of d) (omega arith) (omega arith) below (rule-at round i (first_keys i keys) old cur d was.loaders lt at)

  pub enters-more : map (order_of i) (batches d.limit (keys i)) ≢ [] → (after : ℕ) → after ≡ before + 1 → Enters round (first_keys (i + 1) keys) old (slice_set cur i x) before after
  enters-more some after e =
      let one : made (orders_by 0 (map rule_of old) (first_keys (i + 1) keys)) ≡ 1 = ap made more-orders ∙ made-more (orders_by 0 (map rule_of old) (first_keys i keys)) (map (order_of i) (batches d.limit (keys i))) some in
      record { loaders = entered-loaders; rounds = omega (arith, e, one) }

  pub enters-none : map (order_of i) (batches d.limit (keys i)) ≡ [] → Enters round (first_keys (i + 1) keys) old (slice_set cur i x) before rounds
  enters-none none =
      let same : made (orders_by 0 (map rule_of old) (first_keys (i + 1) keys)) ≡ made (orders_by 0 (map rule_of old) (first_keys i keys)) = ap made (more-orders ∙ ap (λ os. orders_by 0 (map rule_of old) (first_keys i keys) ++ os) none ∙ append-nil (orders_by 0 (map rule_of old) (first_keys i keys))) in
      record { loaders = entered-loaders; rounds = omega (arith, was.rounds, same) }

-- shows the same, by what the loader's cut gave
pub enters-cut : {S : Type 0} (round i : ℕ) (keys : ℕ → List KeyOf) (old cur : List (LoaderOf S)) (before rounds after : ℕ) → Enters round (first_keys i keys) old cur before rounds → (d x : LoaderOf S) → i < length cur → d ≡ get_or cur i d
    → (ks : List KeyOf) → ks ≡ keys i → x ≡ asked_in d round ks → (more : List CutOf) → more ≡ orders_of d.identity i d.limit ks → ((more ≢ []) × (after ≡ round)) ⊎ ((more ≡ []) × (after ≡ rounds)) → round ≡ before + 1
    → Enters round (first_keys (i + 1) keys) old (slice_set cur i x) before after
enters-cut round i keys old cur before rounds after was d x lt at ks same is more orders (inl some) next =
    let entered : x ≡ logged false round (keys i) d = rw same at is in
    let own : map asks more ≡ map (order_of i) (batches d.limit (keys i)) = ap (map asks) (rw same at orders) ∙ asks-cut d.identity i (batches d.limit (keys i)) in
    enters-more round i keys old cur before rounds was d x lt at entered (λ e. some.0 (none-asked more (own ∙ e))) after (some.1 ∙ next)
enters-cut round i keys old cur before rounds after was d x lt at ks same is more orders (inr none) next =
    let entered : x ≡ logged false round (keys i) d = rw same at is in
    let own : map asks more ≡ map (order_of i) (batches d.limit (keys i)) = ap (map asks) (rw same at orders) ∙ asks-cut d.identity i (batches d.limit (keys i)) in
    rw none.1 (enters-none round i keys old cur before rounds was d x lt at entered (sym own ∙ ap (map asks) none.0))

-- a loader that stays
pub enters-kept : {S : Type 0} (round i : ℕ) (keys : ℕ → List KeyOf) (old cur : List (LoaderOf S)) (before rounds : ℕ) (d x : LoaderOf S) → Enters round keys old cur before rounds → d ≡ get_or cur i d → x ≡ d → Enters round keys old (slice_set cur i x) before rounds
enters-kept round i keys old cur before rounds d x was at is = record { loaders = ap (λ y. slice_set cur i y) (is ∙ at) ∙ set-get_or cur i d ∙ was.loaders; rounds = was.rounds }

-- a loader of which nothing is wanted
first-skipped : (keys : ℕ → List KeyOf) (i m : ℕ) → keys i ≡ [] → first_keys (i + 1) keys m ≡ first_keys i keys m
first-skipped keys i m none = go (nat_lt m i) refl (nat_lt i m) refl where
  go : (a : Bool) → nat_lt m i ≡ a → (b : Bool) → nat_lt i m ≡ b → first_keys (i + 1) keys m ≡ first_keys i keys m
  go true e b f = first-some keys (i + 1) m (omega (arith, ltb-true m i e)) ∙ sym (first-some keys i m (ltb-true m i e))
  go false e true f = first-none keys (i + 1) m (omega (arith, ltb-true i m f)) ∙ sym (first-none keys i m (omega (arith, ltb-true i m f)))
  go false e false f =
      let same : m ≡ i = omega (arith, ltb-false m i e, ltb-false i m f) in
      first-some keys (i + 1) m (omega (arith, same)) ∙ ap keys same ∙ none ∙ sym (first-none keys i m (omega (arith, same)))

pub orders-skipped : (i : ℕ) (keys : ℕ → List KeyOf) (rules : List RuleOf) → keys i ≡ [] → orders_by 0 rules (first_keys (i + 1) keys) ≡ orders_by 0 rules (first_keys i keys)
orders-skipped i keys rules none = orders-same 0 (first_keys (i + 1) keys) (first_keys i keys) rules (λ m le lt. first-skipped keys i m none)

pub enters-skipped : {S : Type 0} (round i : ℕ) (keys : ℕ → List KeyOf) (old cur : List (LoaderOf S)) (before rounds : ℕ) → keys i ≡ [] → Enters round (first_keys i keys) old cur before rounds → Enters round (first_keys (i + 1) keys) old cur before rounds
enters-skipped round i keys old cur before rounds none was = record {
  loaders = was.loaders ∙ sym (logged-same false round 0 (first_keys (i + 1) keys) (first_keys i keys) old (λ m le lt. first-skipped keys i m none));
  rounds = was.rounds ∙ ap (λ os. before + made os) (sym (orders-skipped i keys (map rule_of old) none));
}

-- all loaders were asked
pub enters-all : {S : Type 0} (round n : ℕ) (keys : ℕ → List KeyOf) (old cur : List (LoaderOf S)) (before rounds : ℕ) → length old ≤ n → Enters round (first_keys n keys) old cur before rounds → Enters round keys old cur before rounds
enters-all round n keys old cur before rounds all was =
    let same = λ (m : ℕ) (le : 0 ≤ m) (lt : m < 0 + length old). first-some keys n m (omega (arith, lt, all)) in
    let same-rules = λ (m : ℕ) (le : 0 ≤ m) (lt : m < 0 + length (map rule_of old)). first-some keys n m (omega (arith, lt, all, length-map old rule_of)) in
    record {
      loaders = was.loaders ∙ logged-same false round 0 (first_keys n keys) keys old same;
      rounds = was.rounds ∙ ap (λ os. before + made os) (orders-same 0 (first_keys n keys) keys (map rule_of old) same-rules);
    }
