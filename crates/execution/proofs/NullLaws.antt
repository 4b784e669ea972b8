-- The answer from below is one that *Completion* allows, and the only one.
use Rattle.std.proofs.Common.{◌≡◌, ℕ, Bool, true, false, ◌||◌, ◌&&◌, List, [], ◌∷◌, ◌++◌, ◌↔◌, ◌⊎◌, if◌then◌else◌, inl, inr, zero, suc, ap, refl, sym, ◌∙◌, append_assoc, Some, None}
use Rattle.std.specs.List.{flat_map}
use Rattle.text_place.specs.declared.place.Place.{Place}
use Rattle.execution.specs.Loads.{Reader}
use Rattle.execution.specs.Program.{Leaf, LeafValue, Value, Null, Fault, Kind, Part, FieldPosition, Program, Tree, Open, At, Over, Trees, NoMore, And, tree}
use Rattle.execution.specs.Completion.{HasOwnNull, IsChild, IsNonNullWay, IsNullAt, IsResponse, AreResponses, ResponseOf, NullResponse, LeafResponse, Holding, ResponsesOf, NoResponses, Responding, is_open, any_open, PositionOf, positions, positions_below, top_position, ErrorOf, own_errors, errors_at, AnsweredOf, IsCompletion}
use Rattle.execution.specs.Executed.{nulls, pulls_down, response, responses, errors, all_errors, completed, exec}
use Rattle.execution.proofs.Monotone.{exec-whole}

-- one of these of non-null type is null
abbrev PullsDown : Trees → Type 0
PullsDown below = (n : ℕ) × (position : FieldPosition) × (t : Tree) × IsChild below n position t × (position.non_null ≡ true) × IsNullAt t

not-true : (b : Bool) → (b ≡ true → ⊥) → b ≡ false
not-true true h = absurd (h refl)
not-true false h = refl

either : (a b : Bool) → (a || b) ≡ true → (a ≡ true) ⊎ (b ≡ true)
either true b h = inl refl
either false b h = inr h

both : (a b : Bool) → (a && b) ≡ true → (a ≡ true) × (b ≡ true)
both true b h = (refl, h)
both false b h = absurd (cc h)

neither : (a b : Bool) → (a || b) ≡ false → (a ≡ false) × (b ≡ false)
neither true b h = absurd (cc h)
neither false b h = (refl, h)

mutual
  nulls-is : (t : Tree) → nulls t ≡ true → IsNullAt t
  nulls-is Open h = absurd (cc h)
  nulls-is (At (Value leaf)) h = absurd (cc h)
  nulls-is (At Null) h = ([], (At Null), refl, tt)
  nulls-is (At (Fault text)) h = ([], (At (Fault text)), refl, tt)
  nulls-is (Over kind below) h =
      let p : PullsDown below = pulls-is below h in
      (p.0 ∷ p.5.0, p.5.1, (below, kind, p.1, p.2, refl, p.3, p.4, p.5.2), p.5.3)

  pulls-is : (ts : Trees) → pulls_down ts ≡ true → PullsDown ts
  pulls-is NoMore h = absurd (cc h)
  pulls-is (And position t rest) h = elim (either (position.non_null && nulls t) (pulls_down rest) h) [
    | inl e ↦ let b : (position.non_null ≡ true) × (nulls t ≡ true) = both position.non_null (nulls t) e in (0, position, t, (refl, refl), b.0, nulls-is t b.1)
    | inr e ↦ let p : PullsDown rest = pulls-is rest e in (suc p.0, p.1, p.2, p.3, p.4, p.5)
  ]

pulls-from : (ts : Trees) (n : ℕ) (position : FieldPosition) (t : Tree) → IsChild ts n position t → position.non_null ≡ true → nulls t ≡ true → pulls_down ts ≡ true
pulls-from NoMore n position t here non h = absurd here
pulls-from (And first t0 rest) zero position t here non h =
    rw (ap nulls here.1, ap (λ (s : FieldPosition). s.non_null) here.0, non, h) refl
pulls-from (And first t0 rest) (suc n) position t here non h = rw (pulls-from rest n position t here non h) (or-true (first.non_null && nulls t0))
  where
    or-true : (a : Bool) → (a || true) ≡ true
    or-true true = refl
    or-true false = refl

own-null : (q : Tree) → HasOwnNull q → nulls q ≡ true
own-null Open h = absurd h
own-null (At (Value leaf)) h = absurd h
own-null (At Null) h = refl
own-null (At (Fault text)) h = refl
own-null (Over kind below) h = absurd h

way-nulls : (way : List ℕ) (t q : Tree) → IsNonNullWay t way q → HasOwnNull q → nulls t ≡ true
way-nulls [] t q w h = rw (ap nulls w) (own-null q h)
way-nulls (n ∷ way) t q w h = rw (ap nulls w.4) (pulls-from w.0 n w.2 w.3 w.5 w.6 (way-nulls way w.3 q w.7 h))

-- the sentence on paths is decided from below
pub nulls-path : (t : Tree) → (nulls t ≡ true) ↔ IsNullAt t
nulls-path t = (nulls-is t, λ h. way-nulls h.0 t h.1 h.2 h.3)

over : (kind : Kind) (below : Trees) (b : Bool) → pulls_down below ≡ b → AreResponses below (responses below) → IsResponse (Over kind below) (if b then NullResponse else Holding kind (responses below))
over kind below true e h = nulls-is (Over kind below) e
over kind below false e h = ((λ n. let t : pulls_down below ≡ true = way-nulls n.0 (Over kind below) n.1 n.2 n.3 in absurd (cc (sym t ∙ e))), refl, h)

mutual
  -- the response from below is one that the sentence allows
  pub response-is : (t : Tree) → is_open t ≡ false → IsResponse t (response t)
  response-is Open h = absurd (cc h)
  response-is (At (Value leaf)) h = refl
  response-is (At Null) h = nulls-is (At Null) refl
  response-is (At (Fault text)) h = nulls-is (At (Fault text)) refl
  response-is (Over kind below) h = over kind below (pulls_down below) refl (responses-are below h)

  pub responses-are : (ts : Trees) → any_open ts ≡ false → AreResponses ts (responses ts)
  responses-are NoMore h = tt
  responses-are (And position t rest) h =
      let b : (is_open t ≡ false) × (any_open rest ≡ false) = neither (is_open t) (any_open rest) h in
      (refl, response-is t b.0, responses-are rest b.1)

leaf-null : (t : Tree) (leaf : Leaf) → t ≡ At (Value leaf) → IsNullAt t → ⊥
leaf-null t leaf e n = let h : nulls t ≡ true = way-nulls n.0 t n.1 n.2 n.3 in let f : nulls t ≡ false = ap nulls e in cc (sym h ∙ f)

own-leaf : (own : LeafValue) (leaf : Leaf) → own ≡ Value leaf → LeafResponse leaf ≡ response (At own)
own-leaf own leaf e = rw e refl

mutual
  -- and there is no other
  pub response-only : (t : Tree) (r : ResponseOf) → IsResponse t r → r ≡ response t
  response-only Open r h = absurd h
  response-only (At (Value leaf)) NullResponse h = absurd (leaf-null (At (Value leaf)) leaf refl h)
  response-only (At Null) NullResponse h = refl
  response-only (At (Fault text)) NullResponse h = refl
  response-only (At own) (LeafResponse leaf) h = own-leaf own leaf h
  response-only (At own) (Holding kind rs) h = absurd h
  response-only (Over kind below) NullResponse h = let e : pulls_down below ≡ true = way-nulls h.0 (Over kind below) h.1 h.2 h.3 in rw e refl
  response-only (Over kind below) (LeafResponse leaf) h = absurd h
  response-only (Over kind below) (Holding k rs) h =
      let e : pulls_down below ≡ false = not-true (pulls_down below) (λ p. h.0 (nulls-is (Over kind below) p)) in
      rw (e, h.1, responses-only below rs h.2) refl

  pub responses-only : (ts : Trees) (rs : ResponsesOf) → AreResponses ts rs → rs ≡ responses ts
  responses-only NoMore NoResponses h = refl
  responses-only NoMore (Responding part r rs) h = absurd h
  responses-only (And position t rest) NoResponses h = absurd h
  responses-only (And position t rest) (Responding part r rs) h = rw (h.0, response-only t r h.1, responses-only rest rs h.2) refl

append-none : {X : Type 0} (xs : List X) → xs ++ [] ≡ xs
append-none [] = refl
append-none (x ∷ xs) = ap (λ ys. x ∷ ys) (append-none xs)

flat_map-append : {X Y : Type 0} (f : X → List Y) (xs ys : List X) → flat_map f (xs ++ ys) ≡ flat_map f xs ++ flat_map f ys
flat_map-append f [] ys = refl
flat_map-append f (x ∷ xs) ys = ap (λ zs. f x ++ zs) (flat_map-append f xs ys) ∙ sym (append_assoc (f x) (flat_map f xs) (flat_map f ys))

abbrev position_with : Bool → Place → List Part → Tree → PositionOf
position_with non_null place path t = record { path = path; non_null = non_null; place = place; at = t }

mutual
  -- the errors from below are those of all positions, in depth-first order
  pub errors-are : (non_null : Bool) (place : Place) (path : List Part) (t : Tree) → errors non_null place path t ≡ flat_map errors_at (positions (position_with non_null place path t) t)
  errors-are non_null place path Open = refl
  errors-are non_null place path (At own) = sym (append-none (own_errors non_null place path (At own)))
  errors-are non_null place path (Over kind below) = all-errors-are path below

  pub all-errors-are : (path : List Part) (ts : Trees) → all_errors path ts ≡ flat_map errors_at (positions_below path ts)
  all-errors-are path NoMore = refl
  all-errors-are path (And position t rest) =
      let here : PositionOf = position_with position.non_null position.place (path ++ position.part ∷ []) t in
      ap (λ es. es ++ all_errors path rest) (errors-are position.non_null position.place (path ++ position.part ∷ []) t)
      ∙ ap (λ es. flat_map errors_at (positions here t) ++ es) (all-errors-are path rest)
      ∙ sym (flat_map-append errors_at (positions here t) (positions_below path rest))

pub completed-is : (t : Tree) → is_open t ≡ false → IsCompletion t (completed t)
completed-is t h = record { whole = h; response = response-is t h; errors = errors-are false (top_position t).place [] t }

answered-ext : (a b : AnsweredOf) → a.response ≡ b.response → a.errors ≡ b.errors → a ≡ b
answered-ext a b e f =
    let make : ResponseOf → List ErrorOf → AnsweredOf = λ r es. record { response = r; errors = es } in
    ap (λ r. make r a.errors) e ∙ ap (λ es. make b.response es) f

pub completed-only : (t : Tree) (a : AnsweredOf) → IsCompletion t a → a ≡ completed t
completed-only t a h = answered-ext a (completed t) (response-only t a.response h.response) (h.errors ∙ sym (errors-are false (top_position t).place [] t))

some-is : {X : Type 0} (x y : X) → Some x ≡ Some y → x ≡ y
some-is x y e = cc e

exec-is : (p : Program) (R : Reader) (a : AnsweredOf) (b : Bool) → is_open (tree p R) ≡ b → exec p R ≡ Some a → IsCompletion (tree p R) a
exec-is p R a true e h = let none : None ≡ Some a = rw e at h in absurd (cc none)
exec-is p R a false e h =
    let is : completed (tree p R) ≡ a = some-is (completed (tree p R)) a (sym (exec-whole p R e) ∙ h) in
    rw (← is) (completed-is (tree p R) e)

-- exec is the one answer that completion allows
pub exec-completion : (p : Program) (R : Reader) (a : AnsweredOf) → (exec p R ≡ Some a) ↔ IsCompletion (tree p R) a
exec-completion p R a = (
  λ h. exec-is p R a (is_open (tree p R)) refl h,
  λ h. exec-whole p R h.whole ∙ ap (λ x. Some x) (sym (completed-only (tree p R) a h)),
)
