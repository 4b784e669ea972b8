-- Positions that are noted, and iterators over them.
use Rattle.std.proofs.Common.{◌≡◌, Bool, true, false, ◌&&◌, ◌==◌, cond, ℕ, zero, suc, List, [], ◌∷◌, ◌++◌, Option, Some, None, refl, sym, ap, ◌∙◌, if◌then◌else◌, ◌||◌, IfSome, eq-eqb}
use Rattle.std.specs.Prelude.{MatchOption, option_copied}
use Rattle.std.specs.Bool.{MatchBool}
use Rattle.std.specs.Borrow.{Bor}
use Rattle.std.specs.List.{list_any, slice_get, AllByRecursion, IsDistinct}
use Rattle.std.specs.Option.{option_eq, option_to_list}
use Rattle.std.specs.Map.Iter.{TakesFirst}
use Rattle.std.specs.Iterator.{YieldsFirstBy}
use Rattle.std.specs.Iterator.Adapters.{once_item, once_steps, chain_first, chain_second, chain_first_done, chain_second_done, chain_steps}
use Rattle.std.specs.declared.iter.Chain.{Chain}
use Rattle.std.specs.declared.iter.Once.{Once}
use Rattle.std.proofs.lemmas.Bool.{or_left, or_right}
use Rattle.std.proofs.lemmas.Map.Keys.{IsDistinct-cons, IsDistinct-head, IsDistinct-tail}
use Rattle.indexmap.specs.IndexSet.{insert_key}
use Rattle.load_memory.specs.Keys.{key_of}
use Rattle.load_memory.proofs.LoaderMemoryLaws.{key-eq}
use Rattle.load_memory.proofs.Looks.{same_key-refl}
use Rattle.plan_walk.specs.Noted.{is_onward, is_position, with_position, chain_rest, left_of_own}
use Rattle.plan_walk.specs.declared.waiting.BlockedPosition.{BlockedPosition}
use Rattle.plan_walk.specs.contracts.waiting.BlockedPositionPartialEq.TheImpl as blocked_eq

-- ---- what is noted

abbrev equal : BlockedPosition → BlockedPosition → Bool
equal b x = (blocked_eq.eq-value).it b x

pub position-eq : (b x : BlockedPosition) → equal b x ≡ is_position b x
position-eq b x = ap (λ (same : Bool). is_onward b.onward x.onward && ((b.loader == x.loader) && same)) (key-eq b.key x.key)

any-eq : (b : BlockedPosition) (bs : List BlockedPosition) → list_any (equal b) bs ≡ list_any (is_position b) bs
any-eq b [] = refl
any-eq b (x ∷ xs) = ap (λ (e : Bool). e || list_any (equal b) xs) (position-eq b x) ∙ ap (λ (e : Bool). is_position b x || e) (any-eq b xs)

pub inserted : (b : BlockedPosition) (bs : List BlockedPosition) → insert_key equal bs b ≡ with_position bs b
inserted b bs = ap (λ (there : Bool). if there then bs else bs ++ b ∷ []) (any-eq b bs)

-- ---- positions of which no two are the same

pub none-apart : IsDistinct is_position []
unfolding IsDistinct
none-apart = tt

pub one-apart : (b : BlockedPosition) → IsDistinct is_position (b ∷ [])
one-apart b = IsDistinct-cons is_position b [] tt none-apart

others-apart : (b : BlockedPosition) (bs : List BlockedPosition) → AllByRecursion (λ x. equal b x ≡ false) bs → AllByRecursion (λ x. is_position b x ≡ false) bs
others-apart b [] h = tt
others-apart b (x ∷ xs) h = (sym (position-eq b x) ∙ h.0, others-apart b xs h.1)

pub all-apart : (bs : List BlockedPosition) → IsDistinct equal bs → IsDistinct is_position bs
all-apart [] h = none-apart
all-apart (b ∷ bs) h = IsDistinct-cons is_position b bs (others-apart b bs (IsDistinct-head equal b bs h)) (all-apart bs (IsDistinct-tail equal b bs h))

-- ---- a position that stands there

later-self : (p : Option ℕ) → option_eq (λ (n m : ℕ). n == m) p p ≡ true
later-self None = refl
later-self (Some n) = eq-eqb n n refl

pub position-self : (b : BlockedPosition) → is_position b b ≡ true
position-self b =
    let onward : is_onward b.onward b.onward ≡ true = rw (eq-eqb b.onward.group b.onward.group refl, later-self b.onward.later) (eq-eqb b.onward.levels b.onward.levels refl) in
    rw (onward, eq-eqb b.loader b.loader refl) (same_key-refl (key_of b.key))

stands-among : (b : BlockedPosition) (bs : List BlockedPosition) (i : ℕ) → slice_get bs i ≡ Some b → list_any (is_position b) bs ≡ true
stands-among b [] i e = absurd (cc e)
stands-among b (x ∷ xs) zero e = or_left (is_position b x) (list_any (is_position b) xs) (ap (is_position b) (some-is e) ∙ position-self b)
  where
    some-is : Some x ≡ Some b → x ≡ b
    some-is h = cc h
stands-among b (x ∷ xs) (suc i) e = or_right (is_position b x) (list_any (is_position b) xs) (stands-among b xs i e)

there-already : (b : BlockedPosition) (bs : List BlockedPosition) → list_any (is_position b) bs ≡ true → with_position bs b ≡ bs
there-already b bs e = rw e refl

pub stands-at : (bs : List BlockedPosition) (i : ℕ) (found : Option (Bor BlockedPosition)) → option_copied found ≡ slice_get bs i → IfSome found (λ there. with_position bs there.now ≡ bs)
stands-at bs i None e = tt
stands-at bs i (Some there) e = there-already there.now bs (stands-among there.now bs i (sym e))

-- ---- what is gone over

module _ {A : Type 0} (shows : A → BlockedPosition) where
  -- an item comes from the second part
  second-next : (done : Bool) (s t : List BlockedPosition) (r : Option A) → MatchBool done (r ≡ None) (TakesFirst shows s r t)
      → MatchOption r ((cond done [] s ≡ []) × (cond done [] t ≡ [])) (λ x. cond done [] s ≡ shows x ∷ cond done [] t)
  second-next true s t r none = rw none (refl, refl)
  second-next false s t r h = h

  -- an item comes from the first part while it has one
  part-next : (more ends more-ends : Bool) (a b s t : List BlockedPosition) (o r : Option A) → more-ends ≡ ends → MatchOption o ((a ≡ []) × (b ≡ [])) (λ x. a ≡ shows x ∷ b)
      → MatchOption o (MatchBool ends (r ≡ None) (TakesFirst shows s r t) × (more ≡ true)) (λ x. (r ≡ Some x) × (t ≡ s) × (more ≡ false))
      → MatchOption r ((a ++ cond ends [] s ≡ []) × (cond more [] b ++ cond more-ends [] t ≡ [])) (λ x. a ++ cond ends [] s ≡ shows x ∷ (cond more [] b ++ cond more-ends [] t))
  part-next more ends more-ends a b s t None r same none h = rw (same, none.0, h.1) (second-next ends s t r h.0)
  part-next more ends more-ends a b s t (Some x) r same some h = rw (same, h.0, h.1, h.2, some) refl

  pub chain-next : {S : Type 0} (steps : S → Option A → S → Type 0) (rest : S → List BlockedPosition) → ((s : S) (o : Option A) (t : S) → steps s o t → YieldsFirstBy shows rest s o t)
      → (i : Chain S (List BlockedPosition)) (r : Option A) (j : Chain S (List BlockedPosition)) → chain_steps steps (TakesFirst shows) i r j → YieldsFirstBy shows (chain_rest rest) i r j
  chain-next {S} steps rest one i r j h = go (chain_first_done i) h.1
    where
      s : List BlockedPosition
      s = chain_second i

      t : List BlockedPosition
      t = chain_second j

      ends : Bool
      ends = chain_second_done i

      go : (done : Bool)
          → MatchBool done (MatchBool ends (r ≡ None) (TakesFirst shows s r t) × (chain_first_done j ≡ true))
          ((o : Option A) × steps (chain_first i) o (chain_first j) × MatchOption o (MatchBool ends (r ≡ None) (TakesFirst shows s r t) × (chain_first_done j ≡ true)) (λ x. (r ≡ Some x) × (t ≡ s) × (chain_first_done j ≡ false)))
          → MatchOption r ((cond done [] (rest (chain_first i)) ++ cond ends [] s ≡ []) × (chain_rest rest j ≡ [])) (λ x. cond done [] (rest (chain_first i)) ++ cond ends [] s ≡ shows x ∷ chain_rest rest j)
      go true k = rw (h.0, k.1) (second-next ends s t r k.0)
      go false k = part-next (chain_first_done j) ends (chain_second_done j) (rest (chain_first i)) (rest (chain_first j)) s t k.0 r h.0 (one (chain_first i) k.0 (chain_first j) k.1) k.2

own-one : (p q o : Option BlockedPosition) → o ≡ p → q ≡ None → MatchOption o ((option_to_list p ≡ []) × (option_to_list q ≡ [])) (λ x. option_to_list p ≡ x ∷ option_to_list q)
own-one p q None e none = rw (← e, none) (refl, refl)
own-one p q (Some x) e none = rw (← e, none) refl

-- the next item of what is left
pub own-next : (i : Chain (Once BlockedPosition) (List BlockedPosition)) (x : BlockedPosition) (j : Chain (Once BlockedPosition) (List BlockedPosition)) → chain_steps once_steps (TakesFirst (λ b. b)) i (Some x) j → left_of_own i ≡ x ∷ left_of_own j
own-next i x j h = chain-next (λ b. b) once_steps (λ s. option_to_list (once_item s)) (λ s o t k. own-one (once_item s) (once_item t) o k.0 k.1) i (Some x) j h

pub own-none : (i j : Chain (Once BlockedPosition) (List BlockedPosition)) → chain_steps once_steps (TakesFirst (λ b. b)) i None j → left_of_own i ≡ []
own-none i j h = (chain-next (λ b. b) once_steps (λ s. option_to_list (once_item s)) (λ s o t k. own-one (once_item s) (once_item t) o k.0 k.1) i None j h).0
