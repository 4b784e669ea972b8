-- Uses that stand for others of their kind, and which operations allow them.
use Rattle.std.proofs.Common.{◌≡◌, ◌∙◌, ◌+◌, ◌<◌, ap, sym, refl, zero, suc, ℕ, Bool, true, false, not, ◌||◌, cond, eqb, List, [], ◌∷◌, ◌++◌, Option, Some, None, unwrap_or, length, map, slice_get, slice_index, bytes_eq, get_or, arith, ⊎_elim}
use Rattle.std.specs.Prelude.{◌&&◌}
use Rattle.std.specs.List.{list_any, find}
use Rattle.std.specs.Option.{option_map_or}
use Rattle.std.specs.Global.{Vec}
use Rattle.std.specs.Borrow.{Bor}
use Rattle.std.specs.HashMap.{HashMap}
use Rattle.std.proofs.lemmas.List.{get_or_push, length_push}
use Rattle.std.proofs.Math.ListN.{get_or-append}
use borrow.Author.Count.{below_more}
use Rattle.std.proofs.lemmas.Bool.{false≢true, and_parts, both_ways, eqb-true, eq-eqb, and_from, or_cases, or_left, or_right}
use Rattle.std.proofs.lemmas.Slice.Eq.{bytes_eq-Decides}
use Rattle.gq_parser.specs.Tree.{VariableDefinition, TypeTree, Named, ListOf}
use Rattle.rules_parts.specs.declared.part.Owner.{Owner}
use Rattle.rules_parts.specs.declared.part.VariableUse as rust-use
use Rattle.rules_spreads.specs.Reach.{is_among}
use Rattle.rules_spreads.specs.declared.owner_lists.OwnerLists.{OwnerLists}
use Rattle.rules_spreads.specs.Graphs.{row}
use Rattle.rules_spreads.specs.OwnerLists.{owner_rows, is_same_owner}
use Rattle.rules_typed.specs.UsePlaces.{ArePlaces}
use Rattle.rules_parts.specs.Parts.{Location, VariableUse, use_of}
use Rattle.rules_typed.specs.CompatibleTypes.{are_compatible, nullable}
use Rattle.gq_schema.specs.Types.{is_non_null}
use Rattle.rules_spreads.proofs.ReacherLaws.{same_tests}
use Rattle.rules_typed.specs.AllVariableUsagesAreAllowed.{is_variable, is_forbidden_at, forbids_at, forbids}
use Rattle.rules_typed.specs.UseKinds.{same_location, is_forbidden_use, listed, is_listed, use_at, StandsFor}

-- ---- types that are compatible with each other

bytes_by : (p q : List ℕ) → bytes_eq p q ≡ true → (n : List ℕ) → bytes_eq n p ≡ bytes_eq n q
bytes_by p q e n = ap (bytes_eq n) ((bytes_eq-Decides p q).0 e)

strict_by : (s t : Bool) → (s || not t) ≡ true → (t || not s) ≡ true → s ≡ t
strict_by true true h k = refl
strict_by true false h k = absurd (false≢true k)
strict_by false true h k = absurd (false≢true h)
strict_by false false h k = refl

pub same_fits : (a b : TypeTree) → are_compatible a b ≡ true → are_compatible b a ≡ true → (v : TypeTree) → are_compatible v a ≡ are_compatible v b
same_fits (Named p n s) (Named q m t) there back (Named r k u) =
    let h = and_parts (s || not t) (bytes_eq n m) there in
    let g = and_parts (t || not s) (bytes_eq m n) back in
    ap (λ b. (u || not b) && bytes_eq k n) (strict_by s t h.0 g.0) ∙ ap (λ b. (u || not t) && b) (bytes_by n m h.1 k)
same_fits (Named p n s) (Named q m t) there back (ListOf r v u) = refl
same_fits (Named p n s) (ListOf q b t) there back v = absurd (false≢true there)
same_fits (ListOf p a s) (Named q m t) there back v = absurd (false≢true there)
same_fits (ListOf p a s) (ListOf q b t) there back (Named r k u) = refl
same_fits (ListOf p a s) (ListOf q b t) there back (ListOf r v u) =
    let h = and_parts (s || not t) (are_compatible a b) there in
    let g = and_parts (t || not s) (are_compatible b a) back in
    ap (λ c. (u || not c) && are_compatible v a) (strict_by s t h.0 g.0) ∙ ap (λ c. (u || not t) && c) (same_fits a b h.1 g.1 v)

same_strict : (a b : TypeTree) → are_compatible a b ≡ true → are_compatible b a ≡ true → is_non_null a ≡ is_non_null b
same_strict (Named p n s) (Named q m t) there back = strict_by s t (and_parts (s || not t) (bytes_eq n m) there).0 (and_parts (t || not s) (bytes_eq m n) back).0
same_strict (Named p n s) (ListOf q b t) there back = absurd (false≢true there)
same_strict (ListOf p a s) (Named q m t) there back = absurd (false≢true there)
same_strict (ListOf p a s) (ListOf q b t) there back = strict_by s t (and_parts (s || not t) (are_compatible a b) there).0 (and_parts (t || not s) (are_compatible b a) back).0

same_nullable : (a b : TypeTree) → are_compatible a b ≡ true → are_compatible b a ≡ true → (v : TypeTree) → are_compatible v (nullable a) ≡ are_compatible v (nullable b)
same_nullable (Named p n s) (Named q m t) there back (Named r k u) = ap (λ c. (u || true) && c) (bytes_by n m (and_parts (s || not t) (bytes_eq n m) there).1 k)
same_nullable (Named p n s) (Named q m t) there back (ListOf r v u) = refl
same_nullable (Named p n s) (ListOf q b t) there back v = absurd (false≢true there)
same_nullable (ListOf p a s) (Named q m t) there back v = absurd (false≢true there)
same_nullable (ListOf p a s) (ListOf q b t) there back (Named r k u) = refl
same_nullable (ListOf p a s) (ListOf q b t) there back (ListOf r v u) =
    ap (λ c. (u || true) && c) (same_fits a b (and_parts (s || not t) (are_compatible a b) there).1 (and_parts (t || not s) (are_compatible b a) back).1 v)

same_default : (b c : Bool) → cond b c (not c) ≡ true → b ≡ c
same_default true c h = sym h
same_default false true h = absurd (false≢true h)
same_default false false h = refl

same_forbidden_at : (l m : Location) → same_location (Some l) (Some m) ≡ true → (v : VariableDefinition) → is_forbidden_at l v ≡ is_forbidden_at m v
same_forbidden_at l m h v =
    let p = and_parts (cond l.has_default m.has_default (not m.has_default)) (are_compatible l.of_type m.of_type && are_compatible m.of_type l.of_type) h in
    let q = and_parts (are_compatible l.of_type m.of_type) (are_compatible m.of_type l.of_type) p.1 in
    ap (λ b. not b) (rw (same_default l.has_default m.has_default p.0, same_strict l.of_type m.of_type q.0 q.1, same_nullable l.of_type m.of_type q.0 q.1 v.of_type, same_fits l.of_type m.of_type q.0 q.1 v.of_type) refl)

same_forbids_at : (l m : Location) → same_location (Some l) (Some m) ≡ true → (vs : List VariableDefinition) (name : List ℕ) → forbids_at vs name l ≡ forbids_at vs name m
same_forbids_at l m h vs name = by (find (is_variable name) vs) where
  by : (o : Option VariableDefinition) → option_map_or (is_forbidden_at l) o false ≡ option_map_or (is_forbidden_at m) o false
  by None = refl
  by (Some v) = same_forbidden_at l m h v

-- uses of one kind are forbidden together
pub same_forbids : (vs : List VariableDefinition) (t u : VariableUse) → t.name ≡ u.name → same_location t.location u.location ≡ true → forbids vs t ≡ forbids vs u
same_forbids vs t u name location = rw name (by t.location u.location location) where
  by : (l m : Option Location) → same_location l m ≡ true → option_map_or (forbids_at vs u.name) l false ≡ option_map_or (forbids_at vs u.name) m false
  by None None h = refl
  by None (Some m) h = absurd (false≢true h)
  by (Some l) None h = absurd (false≢true h)
  by (Some l) (Some m) h = same_forbids_at l m h vs u.name

-- ---- variables from the last to the first

pub forbids-none : (u : VariableUse) → forbids [] u ≡ false
forbids-none u = at u.location where
  at : (l : Option Location) → option_map_or (forbids_at [] u.name) l false ≡ false
  at None = refl
  at (Some l) = refl

-- one variable more
pub forbids-next : (v : VariableDefinition) (vs : List VariableDefinition) (u : VariableUse) → forbids (v ∷ vs) u ≡ cond (bytes_eq u.name v.name) (is_forbidden_use v u) (forbids vs u)
forbids-next v vs u = at u.location (bytes_eq u.name v.name) refl where
  at : (l : Option Location) (b : Bool) → bytes_eq u.name v.name ≡ b → option_map_or (forbids_at (v ∷ vs) u.name) l false ≡ cond b (option_map_or (λ (m : Location). is_forbidden_at m v) l false) (option_map_or (forbids_at vs u.name) l false)
  at None true e = refl
  at None false e = refl
  at (Some l) true e = rw e refl
  at (Some l) false e = rw e refl

-- ---- how the kinds are found

-- says what is noted before the use k
pub record KindsUpTo {S : Type 0} (m : HashMap (Bor (List ℕ)) (Vec ℕ) S) (uses : List VariableUse) (stand_ins : List ℕ) (k : ℕ) : Type 0 where
  pub placed : length stand_ins ≡ k
  pub sound : (q : List ℕ) (r : ℕ) → is_listed m q r ≡ true → (r < k) × (bytes_eq q (use_at uses r).name ≡ true)
  pub there : (j : ℕ) → j < k → is_listed m (use_at uses j).name (slice_index stand_ins j) ≡ true
  pub alike : (j : ℕ) → j < k → same_location (use_at uses (slice_index stand_ins j)).location (use_at uses j).location ≡ true

pub kinds_none : {S : Type 0} (m : HashMap (Bor (List ℕ)) (Vec ℕ) S) (uses : List VariableUse) (stand_ins : List ℕ) → stand_ins ≡ [] → ((q : List ℕ) (r : ℕ) → is_listed m q r ≡ false) → KindsUpTo m uses stand_ins 0
kinds_none m uses stand_ins none empty = record {
  placed = ap length none;
  sound = λ q r h. absurd (both_ways (is_listed m q r) (empty q r) h);
  there = λ j lt. absurd (omega arith);
  alike = λ j lt. absurd (omega arith);
}

module _ {S : Type 0} (old new : HashMap (Bor (List ℕ)) (Vec ℕ) S) (uses : List VariableUse) (stand_ins : List ℕ) (k r : ℕ) (before : KindsUpTo old uses stand_ins k) where
  pub kinds_more : ((q : List ℕ) (s : ℕ) → is_listed new q s ≡ true → (s < k + 1) × (bytes_eq q (use_at uses s).name ≡ true)) → ((q : List ℕ) (s : ℕ) → is_listed old q s ≡ true → is_listed new q s ≡ true)
      → is_listed new (use_at uses k).name r ≡ true → same_location (use_at uses r).location (use_at uses k).location ≡ true → KindsUpTo new uses (stand_ins ++ r ∷ []) (k + 1)
  kinds_more sound kept listed_now same = record {
    placed = length_push stand_ins r ∙ ap (λ (n : ℕ). n + 1) before.placed;
    sound = sound;
    there = below_more (λ j. is_listed new (use_at uses j).name (slice_index (stand_ins ++ r ∷ []) j) ≡ true) k
        (λ j h. rw (get_or-append stand_ins (r ∷ []) 0 j (let p = before.placed in omega (arith, h, p))) (kept (use_at uses j).name (slice_index stand_ins j) (before.there j h)))
        (rw (get_or_push stand_ins r 0 k before.placed) listed_now);
    alike = below_more (λ j. same_location (use_at uses (slice_index (stand_ins ++ r ∷ []) j)).location (use_at uses j).location ≡ true) k
        (λ j h. rw (get_or-append stand_ins (r ∷ []) 0 j (let p = before.placed in omega (arith, h, p))) (before.alike j h))
        (rw (get_or_push stand_ins r 0 k before.placed) same);
  }

-- a use that stands for one that comes next
pub kinds_hit : {S : Type 0} (m : HashMap (Bor (List ℕ)) (Vec ℕ) S) (uses : List VariableUse) (stand_ins : List ℕ) (k r : ℕ) → KindsUpTo m uses stand_ins k → is_listed m (use_at uses k).name r ≡ true → same_location (use_at uses r).location (use_at uses k).location ≡ true
    → KindsUpTo m uses (stand_ins ++ r ∷ []) (k + 1)
kinds_hit m uses stand_ins k r before listed_now same = kinds_more m m uses stand_ins k r before (λ q s h. let b = before.sound q s h in let lt = b.0 in (omega (arith, lt), b.1)) (λ q s h. h) listed_now same

same_self : (l : Option Location) → same_location l l ≡ true
same_self None = refl
same_self (Some l) = and_from _ _ (by l.has_default) (and_from _ _ (compatible_self l.of_type) (compatible_self l.of_type)) where
  by : (b : Bool) → cond b b (not b) ≡ true
  by true = refl
  by false = refl

  either : (b : Bool) → (b || not b) ≡ true
  either true = refl
  either false = refl

  compatible_self : (t : TypeTree) → are_compatible t t ≡ true
  compatible_self (Named p n s) = and_from (s || not s) (bytes_eq n n) (either s) ((bytes_eq-Decides n n).1 refl)
  compatible_self (ListOf p t s) = and_from (s || not s) (are_compatible t t) (either s) (compatible_self t)

-- the uses that a name has listed after one was noted
pub listed_more : {S : Type 0} (old new : HashMap (Bor (List ℕ)) (Vec ℕ) S) (name : List ℕ) (k : ℕ) → ((q : List ℕ) → listed new q ≡ cond (bytes_eq q name) (listed old q ++ k ∷ []) (listed old q))
    → (q : List ℕ) (s : ℕ) → is_listed new q s ≡ ((bytes_eq q name && eqb s k) || is_listed old q s)
listed_more old new name k noted q s = ap (list_any (eqb s)) (noted q) ∙ by (bytes_eq q name) where
  push : (xs : List ℕ) → list_any (eqb s) (xs ++ k ∷ []) ≡ (eqb s k || list_any (eqb s) xs)
  push [] = refl
  push (x ∷ xs) = ap (λ c. eqb s x || c) (push xs) ∙ swap (eqb s x) (eqb s k) (list_any (eqb s) xs) where
    swap : (p q r : Bool) → (p || (q || r)) ≡ (q || (p || r))
    swap true true r = refl
    swap true false r = refl
    swap false q r = refl

  by : (c : Bool) → list_any (eqb s) (cond c (listed old q ++ k ∷ []) (listed old q)) ≡ ((c && eqb s k) || list_any (eqb s) (listed old q))
  by true = push (listed old q)
  by false = refl

-- the first of a kind stands for itself
pub kinds_miss : {S : Type 0} (old new : HashMap (Bor (List ℕ)) (Vec ℕ) S) (uses : List VariableUse) (stand_ins : List ℕ) (k : ℕ) (name : List ℕ) → name ≡ (use_at uses k).name → KindsUpTo old uses stand_ins k
    → ((q : List ℕ) (s : ℕ) → is_listed new q s ≡ ((bytes_eq q name && eqb s k) || is_listed old q s)) → KindsUpTo new uses (stand_ins ++ k ∷ []) (k + 1)
kinds_miss old new uses stand_ins k name named before noted = kinds_more old new uses stand_ins k k before
    (λ q s h. ⊎_elim
    (λ here. let p = and_parts (bytes_eq q name) (eqb s k) here in let same = eqb-true s k p.1 in (omega (arith, same), ap (λ (n : List ℕ). bytes_eq q n) (ap (λ (j : ℕ). (use_at uses j).name) same ∙ sym named) ∙ p.0))
    (λ there. let b = before.sound q s there in let lt = b.0 in (omega (arith, lt), b.1))
    (or_cases (bytes_eq q name && eqb s k) (is_listed old q s) (sym (noted q s) ∙ h)))
    (λ q s h. noted q s ∙ or_right (bytes_eq q name && eqb s k) (is_listed old q s) h)
    (noted (use_at uses k).name k ∙ or_left (bytes_eq (use_at uses k).name name && eqb k k) (is_listed old (use_at uses k).name k) (and_from (bytes_eq (use_at uses k).name name) (eqb k k) ((bytes_eq-Decides (use_at uses k).name name).1 (sym named)) (eq-eqb k k refl)))
    (same_self (use_at uses k).location)

-- when each was looked at
pub kinds_all : {S : Type 0} (m : HashMap (Bor (List ℕ)) (Vec ℕ) S) (uses : List VariableUse) (stand_ins : List ℕ) → KindsUpTo m uses stand_ins (length uses) → (k : ℕ) → k < length uses → StandsFor m uses (slice_index stand_ins k) k
kinds_all m uses stand_ins all k within =
    let r = slice_index stand_ins k in
    let here = all.sound (use_at uses k).name r (all.there k within) in
    let name = (bytes_eq-Decides (use_at uses k).name (use_at uses r).name).0 here.1 in
    record {
      within = here.0;
      listed = λ q. same_tests (is_listed m q r) (bytes_eq q (use_at uses r).name) (λ h. (all.sound q r h).1)
          (λ h. ap (λ (n : List ℕ). is_listed m n r) ((bytes_eq-Decides q (use_at uses r).name).0 h ∙ sym name) ∙ all.there k within);
      name = sym name;
      location = all.alike k within;
    }

-- the use at a place of the document's list
pub use_at-seen : (uses : List rust-use.VariableUse) (k : ℕ) (item : rust-use.VariableUse) → k < length uses → item ≡ get_or uses k item → use_at (map use_of uses) k ≡ use_of item
use_at-seen [] k item within is = absurd (omega arith)
use_at-seen (u ∷ us) zero item within is = ap use_of (sym is)
use_at-seen (u ∷ us) (suc k) item within is = use_at-seen us k item (omega arith) is

use_at-get : (uses : List rust-use.VariableUse) (k : ℕ) (d : rust-use.VariableUse) → k < length uses → use_at (map use_of uses) k ≡ use_of (get_or uses k d)
use_at-get [] k d within = absurd (omega arith)
use_at-get (u ∷ us) zero d within = refl
use_at-get (u ∷ us) (suc k) d within = use_at-get us k d (omega arith)

-- the rows of a use, by its view
pub rows-seen : (p : OwnerLists) (uses : List rust-use.VariableUse) → ArePlaces p uses → (k : ℕ) → k < length uses → (o : Owner) → is_among k (row (owner_rows p) o) ≡ is_same_owner o (use_at (map use_of uses) k).owner
rows-seen p [] are k within o = absurd (omega arith)
rows-seen p (u ∷ us) are k within o = are o k u within ∙ ap (λ (v : VariableUse). is_same_owner o v.owner) (sym (use_at-get (u ∷ us) k u within))

-- ---- operations, by their views

pub slice_get-seen : {A B : Type 0} (view : A → B) (xs : List A) (i : ℕ) (x : A) → i < length xs → x ≡ get_or xs i x → slice_get (map view xs) i ≡ Some (view x)
slice_get-seen view [] i x lt is = absurd (omega arith)
slice_get-seen view (y ∷ ys) zero x lt is = ap (λ z. Some (view z)) (sym is)
slice_get-seen view (y ∷ ys) (suc i) x lt is = slice_get-seen view ys i x (omega arith) is

pub same_some : {A : Type 0} (x y : A) → Some x ≡ Some y → x ≡ y
same_some x y h = ap (λ o. unwrap_or o x) h
