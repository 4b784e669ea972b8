-- Lists of names in which each stands once.
use Rattle.std.proofs.Common.{◌≡◌, ◌∙◌, sym, ap, ℕ, Bool, true, false, ◌||◌, ◌&&◌, if◌then◌else◌, List, [], ◌∷◌, ◌++◌, bytes_eq, cond, fold, refl, Option, Some, None}
use Rattle.std.specs.Option.{option_and_then}
use Rattle.gq_schema.specs.declared.kind.TypeKind.{TypeKind}
use Rattle.gq_schema.specs.Kinds.{is_leaf}
use Rattle.std.specs.List.{list_any, filter}
use Rattle.std.proofs.lemmas.Cmp.{nat_list_eq_equiv}
use Rattle.schema_syntax.specs.Tree.{Definition, Schema, Object, Interface, Union, Enum}
use Rattle.gq_schema.specs.Types.{with_name, with_type, is_possible, defines, possible_names, can_be, kind_in, possible_in}
use Rattle.gq_schema.specs.Possible.{with_name_if, with_possible}

any-last : (n : List ℕ) (xs : List (List ℕ)) → list_any (bytes_eq n) (xs ++ n ∷ []) ≡ true
any-last n [] = ap (λ b. b || false) (nat_list_eq_equiv.refl n)
any-last n (x ∷ xs) = or-true (bytes_eq n x) _ (any-last n xs) where
  or-true : (b c : Bool) → c ≡ true → (b || c) ≡ true
  or-true true c h = refl
  or-true false c h = h

pub with_name-present : (xs : List (List ℕ)) (n : List ℕ) → list_any (bytes_eq n) xs ≡ true → with_name xs n ≡ xs
with_name-present xs n h = rw h refl

pub with_name-twice : (xs : List (List ℕ)) (n : List ℕ) → with_name (with_name xs n) n ≡ with_name xs n
with_name-twice xs n = cases (list_any (bytes_eq n) xs) refl where
  cases : (b : Bool) → list_any (bytes_eq n) xs ≡ b → with_name (with_name xs n) n ≡ with_name xs n
  cases true h = ap (λ ys. with_name ys n) (with_name-present xs n h)
  cases false h = let e : with_name xs n ≡ xs ++ n ∷ [] = rw h refl in rw e (with_name-present (xs ++ n ∷ []) n (any-last n xs))

pub with_name_if-both : (b c : Bool) (xs : List (List ℕ)) (n : List ℕ) → with_name_if c (with_name_if b xs n) n ≡ with_name_if (b || c) xs n
with_name_if-both true true xs n = with_name-twice xs n
with_name_if-both true false xs n = refl
with_name_if-both false c xs n = refl

-- one more name of a list was added
pub with_name_if-step : (b rest all : Bool) (new old start : List (List ℕ)) (n : List ℕ) → new ≡ with_name_if b old n → with_name_if (b || rest) old n ≡ with_name_if all start n → with_name_if rest new n ≡ with_name_if all start n
with_name_if-step b rest all new old start n added before = rw added (with_name_if-both b rest old n ∙ before)

any-push : (q n : List ℕ) (xs : List (List ℕ)) → list_any (bytes_eq q) (xs ++ n ∷ []) ≡ (bytes_eq q n || list_any (bytes_eq q) xs)
any-push q n [] = refl
any-push q n (x ∷ xs) = ap (λ b. bytes_eq q x || b) (any-push q n xs) ∙ swap (bytes_eq q x) (bytes_eq q n) (list_any (bytes_eq q) xs) where
  swap : (a b c : Bool) → (a || (b || c)) ≡ (b || (a || c))
  swap true true c = refl
  swap true false c = refl
  swap false true c = refl
  swap false false c = refl

-- one more union was noted
pub has_union-push : (b : Bool) (q n : List ℕ) (new old : List (List ℕ)) → new ≡ (if b then old ++ n ∷ [] else old) → list_any (bytes_eq q) new ≡ ((bytes_eq q n && b) || list_any (bytes_eq q) old)
has_union-push true q n new old e = rw e (any-push q n old ∙ ap (λ c. c || list_any (bytes_eq q) old) (sym (and-true (bytes_eq q n)))) where
  and-true : (b : Bool) → (b && true) ≡ b
  and-true true = refl
  and-true false = refl
has_union-push false q n new old e = rw e (ap (λ c. c || list_any (bytes_eq q) old) (sym (and-false (bytes_eq q n)))) where
  and-false : (b : Bool) → (b && false) ≡ false
  and-false true = refl
  and-false false = refl

-- one more member of a union was noted
pub has_union-step : (u m rest all new old start : Bool) → new ≡ ((u && m) || old) → ((u && (m || rest)) || old) ≡ ((u && all) || start) → ((u && rest) || new) ≡ ((u && all) || start)
has_union-step true true true all new old start e h = h
has_union-step true true false all new old start e h = e ∙ h
has_union-step true false true all new old start e h = h
has_union-step true false false all new old start e h = e ∙ h
has_union-step false m rest all new old start e h = e ∙ h

-- the three steps that an object type is noted in
pub with_name_if-three : (a b c : Bool) (one two three old : List (List ℕ)) (n : List ℕ) → one ≡ with_name_if a old n → two ≡ with_name_if b one n → three ≡ with_name_if c two n → three ≡ with_name_if (a || (b || c)) old n
with_name_if-three a b c one two three old n e f g =
    g ∙ (ap (λ xs. with_name_if c xs n) f ∙ (with_name_if-both b c one n ∙ (ap (λ xs. with_name_if (b || c) xs n) e ∙ with_name_if-both a (b || c) old n)))

-- the names of the possible types, after one more definition
pub fold-with_possible : (b : Bool) (names : List (List ℕ)) (d : Definition) (others : List Definition) → fold with_type names (cond b (d ∷ others) others) ≡ fold with_type (if b then with_type names d else names) others
fold-with_possible true names d others = refl
fold-with_possible false names d others = refl

pub possible_names-step : (defs : List Definition) (q : List ℕ) (d : Definition) (others : List Definition) (new old all : List (List ℕ)) → new ≡ with_possible defs q old d → fold with_type old (filter (is_possible defs q) (d ∷ others)) ≡ all → fold with_type new (filter (is_possible defs q) others) ≡ all
possible_names-step defs q d others new old all e h = rw e (sym (fold-with_possible (is_possible defs q d) old d (filter (is_possible defs q) others)) ∙ h)

-- ---- which names a list of possible types has

or-present : (a b : Bool) → (b ≡ true → a ≡ true) → a ≡ (a || b)
or-present true b h = refl
or-present false true h = h refl
or-present false false h = refl

or-last : (a b : Bool) → (b || a) ≡ (a || b)
or-last true true = refl
or-last true false = refl
or-last false true = refl
or-last false false = refl

or-assoc : (a b c : Bool) → ((a || b) || c) ≡ (a || (b || c))
or-assoc true b c = refl
or-assoc false b c = refl

any-same : (n m : List ℕ) (xs : List (List ℕ)) → bytes_eq n m ≡ true → list_any (bytes_eq n) xs ≡ list_any (bytes_eq m) xs
any-same n m [] e = refl
any-same n m (x ∷ xs) e = ap (λ b. b || list_any (bytes_eq n) xs) (nat_list_eq_equiv.congr n m x e) ∙ ap (λ b. bytes_eq m x || b) (any-same n m xs e)

any-with_name : (n m : List ℕ) (xs : List (List ℕ)) → list_any (bytes_eq n) (with_name xs m) ≡ (list_any (bytes_eq n) xs || bytes_eq n m)
any-with_name n m xs = cases (list_any (bytes_eq m) xs) refl where
  cases : (b : Bool) → list_any (bytes_eq m) xs ≡ b → list_any (bytes_eq n) (with_name xs m) ≡ (list_any (bytes_eq n) xs || bytes_eq n m)
  cases true h = ap (list_any (bytes_eq n)) (with_name-present xs m h) ∙ or-present (list_any (bytes_eq n) xs) (bytes_eq n m) (λ e. any-same n m xs e ∙ h)
  cases false h = let grown : with_name xs m ≡ xs ++ m ∷ [] = rw h refl in ap (list_any (bytes_eq n)) grown ∙ (any-push n m xs ∙ or-last (list_any (bytes_eq n) xs) (bytes_eq n m))

any-with_type : (n : List ℕ) (d : Definition) (xs : List (List ℕ)) → list_any (bytes_eq n) (with_type xs d) ≡ (list_any (bytes_eq n) xs || defines n d)
any-with_type n (Schema p m) xs = or-false (list_any (bytes_eq n) xs) where
  or-false : (b : Bool) → b ≡ (b || false)
  or-false true = refl
  or-false false = refl
any-with_type n (Object m is fs) xs = any-with_name n m.text xs
any-with_type n (Interface m fs) xs = any-with_name n m.text xs
any-with_type n (Union m ms) xs = any-with_name n m.text xs
any-with_type n (Enum m vs) xs = any-with_name n m.text xs

any-fold : (p : Definition → Bool) (n : List ℕ) (xs : List (List ℕ)) (ds : List Definition) → list_any (bytes_eq n) (fold with_type xs (filter p ds)) ≡ (list_any (bytes_eq n) xs || list_any (λ d. defines n d && p d) ds)
any-fold p n xs [] = or-none (list_any (bytes_eq n) xs) where
  or-none : (b : Bool) → b ≡ (b || false)
  or-none true = refl
  or-none false = refl
any-fold p n xs (d ∷ ds) = step (p d) (any-fold p n (with_type xs d) ds) (any-fold p n xs ds) where
  step : (b : Bool) → list_any (bytes_eq n) (fold with_type (with_type xs d) (filter p ds)) ≡ (list_any (bytes_eq n) (with_type xs d) || list_any (λ e. defines n e && p e) ds)
      → list_any (bytes_eq n) (fold with_type xs (filter p ds)) ≡ (list_any (bytes_eq n) xs || list_any (λ e. defines n e && p e) ds)
      → list_any (bytes_eq n) (fold with_type xs (cond b (d ∷ filter p ds) (filter p ds))) ≡ (list_any (bytes_eq n) xs || ((defines n d && b) || list_any (λ e. defines n e && p e) ds))
  step true taken left = taken ∙ (ap (λ b. b || list_any (λ e. defines n e && p e) ds) (any-with_type n d xs) ∙ (or-assoc (list_any (bytes_eq n) xs) (defines n d) (list_any (λ e. defines n e && p e) ds) ∙ ap (λ b. list_any (bytes_eq n) xs || (b || list_any (λ e. defines n e && p e) ds)) (and-yes (defines n d)))) where
    and-yes : (b : Bool) → b ≡ (b && true)
    and-yes true = refl
    and-yes false = refl
  step false taken left = left ∙ ap (λ b. list_any (bytes_eq n) xs || (b || list_any (λ e. defines n e && p e) ds)) (and-no (defines n d)) where
    and-no : (b : Bool) → false ≡ (b && false)
    and-no true = refl
    and-no false = refl

pub any-possible_names : (defs : List Definition) (q n : List ℕ) → list_any (bytes_eq n) (possible_names defs q) ≡ can_be defs q n
any-possible_names defs q n = any-fold (is_possible defs q) n [] defs

pub possible_in-composite : (defs : List Definition) (q : List ℕ) (k : TypeKind) → Some k ≡ kind_in defs q → false ≡ is_leaf k → Some (possible_names defs q) ≡ possible_in defs q
possible_in-composite defs q k kind composite =
    (let here : Some (possible_names defs q) ≡ (if is_leaf k then None else Some (possible_names defs q)) = rw (← composite) refl in here) ∙ ap (λ (o : Option TypeKind). option_and_then (λ k'. if is_leaf k' then None else Some (possible_names defs q)) o) kind
