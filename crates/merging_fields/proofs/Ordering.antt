-- Orders of fragments, as they are made.
use Rattle.std.proofs.Common.{◌≡◌, ◌∙◌, sym, ap, subst, refl, ℕ, zero, suc, ◌+◌, ◌<◌, ◌≤◌, ◌==◌, Bool, true, false, ◌||◌, ◌⊎◌, inl, inr, List, [], ◌∷◌, ◌++◌, length, take, set, replicate, Option, Some, None, arith}
use Rattle.std.specs.Prelude.{slice_get, slice_index_or}
use Rattle.std.specs.Option.{option_map_or}
use Rattle.std.proofs.lemmas.Bool.{and_parts, and_from, or_left, or_right, cases_eq, both_ways, eq-eqb}
use Rattle.std.proofs.lemmas.List.{get_or-set_other, length-set, length-append}
use Rattle.gq_parser.specs.Tree.{Document}
use Rattle.schema_syntax.specs.Tree.{Definition}
use Rattle.merging_pairs.specs.Numbered.{is_in}
use Rattle.merging_members.specs.Fragments as members
use Rattle.merging_members.specs.Ranked as ranked
use Rattle.merging_members.specs.Ranked.{IsOrder}
use Rattle.merging_members.proofs.Places.{in-either}
use Rattle.merging_members.proofs.Tallies.{tally-out}
use Rattle.rules_parts.specs.declared.part.Owner.TheVariants as owner
use Rattle.rules_parts.specs.Parents.{inside_condition}
use Rattle.rules_parts.specs.Listing.{parts_of}
use Rattle.rules_spreads.specs.Graphs.{GraphOf, row, graph_of}
use Rattle.rules_spreads.specs.Reach.{is_among, spreads, reaches, is_cyclic}
use Rattle.rules_spreads.specs.Rules.{fragment_spreads_must_not_form_cycles}
use Rattle.rules_spreads.specs.SpreadReaches.{IsMarked}
use Rattle.rules_spreads.proofs.ReachLaws.{spreads-below}
use Rattle.merging_fields.specs.Orders.{are_marked, IsFree, IsGraphOrder, Stands, IsPart}
use Rattle.merging_fields.proofs.Acyclic.{Known, map-in, each-in, true-in, there, one-place, reached, reaches-less, graph-length, known, spreads-there, free-of}
use Rattle.merging_fields.proofs.Naming.{get-left}

-- ---- marks

pub more-marked : (old new : List Bool) → ((x : ℕ) → IsMarked old x → IsMarked new x) → (xs : List ℕ) → are_marked old xs ≡ true → are_marked new xs ≡ true
more-marked old new more [] e = refl
more-marked old new more (x ∷ xs) e =
    let p = and_parts (slice_index_or old x false) (are_marked old xs) e in
    and_from (slice_index_or new x false) (are_marked new xs) (more x p.0) (more-marked old new more xs p.1)

marked-at : (marks : List Bool) (xs : List ℕ) (j : ℕ) → are_marked marks xs ≡ true → is_among j xs ≡ true → IsMarked marks j
marked-at marks [] j e m = absurd (both_ways false refl m)
marked-at marks (x ∷ xs) j e m =
    let p = and_parts (slice_index_or marks x false) (are_marked marks xs) e in
    go (x == j) refl p.0 (marked-at marks xs j p.1) m
  where
    go : (b : Bool) → (x == j) ≡ b → IsMarked marks x → (is_among j xs ≡ true → IsMarked marks j) → (b || is_among j xs) ≡ true → IsMarked marks j
    go true same here rest h = let e : x ≡ j = grind arith in subst (IsMarked marks) e here
    go false same here rest h = rest h

each-marked : (marks : List Bool) (xs : List ℕ) → ((j : ℕ) → is_among j xs ≡ true → IsMarked marks j) → are_marked marks xs ≡ true
each-marked marks [] h = refl
each-marked marks (x ∷ xs) h =
    and_from (slice_index_or marks x false) (are_marked marks xs) (h x (or_left (x == x) (is_among x xs) (eq-eqb x x refl)))
    (each-marked marks xs (λ j m. h j (or_right (x == j) (is_among j xs) m)))

none-marked : (n x : ℕ) → IsMarked (replicate n false) x → ⊥
none-marked zero x h = both_ways false refl h
none-marked (suc n) zero h = both_ways false refl h
none-marked (suc n) (suc x) h = none-marked n x h

pub set-marked : (marks : List Bool) (x y : ℕ) → IsMarked marks y → IsMarked (set marks x true) y
set-marked [] x y h = h
set-marked (b ∷ bs) zero zero h = refl
set-marked (b ∷ bs) zero (suc y) h = h
set-marked (b ∷ bs) (suc x) zero h = h
set-marked (b ∷ bs) (suc x) (suc y) h = set-marked bs x y h

pub own-marked : (marks : List Bool) (x : ℕ) → x < length marks → IsMarked (set marks x true) x
own-marked [] x lt = absurd (omega (arith, lt))
own-marked (b ∷ bs) zero lt = refl
own-marked (b ∷ bs) (suc x) lt = own-marked bs x (omega (arith, lt))

-- ---- places

last-of : (xs : List ℕ) (x : ℕ) → slice_get (xs ++ x ∷ []) (length xs) ≡ Some x
last-of [] x = refl
last-of (y ∷ xs) x = last-of xs x

taken-in : (xs : List ℕ) (k m x : ℕ) → m < k → slice_get xs m ≡ Some x → is_in (take k xs) x ≡ true
taken-in [] k m x lt e = cc
taken-in (y ∷ xs) zero m x lt e = absurd (omega (arith, lt))
taken-in (y ∷ xs) (suc k) zero x lt e = let same : y ≡ x = cc in or_left (x == y) (is_in (take k xs) x) (eq-eqb x y (sym same))
taken-in (y ∷ xs) (suc k) (suc m) x lt e = or_right (x == y) (is_in (take k xs) x) (taken-in xs k m x (omega (arith, lt)) e)

got-in : (xs : List ℕ) (m x : ℕ) → slice_get xs m ≡ Some x → is_in xs x ≡ true
got-in [] m x e = cc
got-in (y ∷ xs) zero x e = let same : y ≡ x = cc in or_left (x == y) (is_in xs x) (eq-eqb x y (sym same))
got-in (y ∷ xs) (suc m) x e = or_right (x == y) (is_in xs x) (got-in xs m x e)

-- ---- parts of orders

pub part-none : (g : GraphOf) (marks : List Bool) → marks ≡ replicate (length g.fragments) false → length marks ≡ length g.fragments → IsPart g [] marks
part-none g marks is len = record {
  len = len;
  below = λ k x e. cc;
  after = λ k x j e s. cc;
  marked = λ x h. absurd (none-marked (length g.fragments) x (subst (λ (m : List Bool). IsMarked m x) is h));
}

stands-more : (order : List ℕ) (y place limit x : ℕ) → place ≤ limit → Stands order place x → Stands (order ++ y ∷ []) limit x
stands-more order y place limit x le s = let lt = s.before in record { at = s.at; before = omega (arith, lt, le); there = get-left order (y ∷ []) s.at x s.there }

pub part-more : (g : GraphOf) (order new : List ℕ) (marks after : List Bool) (y : ℕ) → IsPart g order marks → y < length g.fragments → are_marked marks (row g (owner.Fragment y)) ≡ true
    → new ≡ order ++ y ∷ [] → after ≡ set marks y true → IsPart g new after
part-more g order new marks after y p lt ready is was = rw (is, was) record {
  len = length-set marks y true ∙ p.len;
  below = λ k x e. elim (in-either order (y ∷ []) k x e) [ inl h ↦ p.below k x h | inr r ↦ subst (λ (z : ℕ). z < length g.fragments) (alone r.0 x r.2) lt ];
  after = λ k x j e s. elim (in-either order (y ∷ []) k x e) [
    | inl h ↦ stands-more order y k k j (omega arith) (p.after k x j h s)
    | inr r ↦ let at = r.1 in let same = alone r.0 x r.2 in
        stands-more order y (length order) k j (omega (arith, at)) (p.marked j (marked-at marks (row g (owner.Fragment y)) j ready (subst (λ (z : ℕ). spreads g (owner.Fragment z) j ≡ true) (sym same) s)))
  ];
  marked = λ x h. go x (cases_eq x y) h;
}
  where
    alone : (i x : ℕ) → slice_get (y ∷ []) i ≡ Some x → y ≡ x
    alone zero x e = cc
    alone (suc i) x e = cc

    longer : length order < length (order ++ y ∷ [])
    longer = let both = length-append order (y ∷ []) in omega (arith, both)

    go : (x : ℕ) → (x ≡ y) ⊎ (x ≡ y → ⊥) → IsMarked (set marks y true) x → Stands (order ++ y ∷ []) (length (order ++ y ∷ [])) x
    go x (inl same) h = record { at = length order; before = longer; there = last-of order y ∙ ap Some (sym same) }
    go x (inr ne) h = let lt = longer in stands-more order y (length order) (length (order ++ y ∷ [])) x (omega (arith, lt)) (p.marked x (sym (get_or-set_other marks y x true false ne) ∙ h))

pub part-all : (g : GraphOf) (order : List ℕ) (marks : List Bool) → IsPart g order marks → ((x : ℕ) → x < length g.fragments → IsMarked marks x) → IsGraphOrder g order
part-all g order marks p all = record {
  all = λ x lt. let s = p.marked x (all x lt) in got-in order s.at x s.there;
  below = p.below;
  after = λ k x j e s. let b = p.after k x j e s in taken-in order k b.at j b.before b.there;
}

-- ---- levels

-- fragments that reach fewer fragments are taken first
pub levels-more : (g : GraphOf) (old new : List Bool) (k : ℕ) → IsFree g → ((x : ℕ) → x < length g.fragments → reached g x < k → IsMarked old x)
    → ((x : ℕ) → x < length g.fragments → are_marked old (row g (owner.Fragment x)) ≡ true → IsMarked new x)
    → (x : ℕ) → x < length g.fragments → reached g x < k + 1 → IsMarked new x
levels-more g old new k free levels more x lt few = more x lt (each-marked old (row g (owner.Fragment x)) (λ j s.
    let inside = spreads-below g (owner.Fragment x) j free.known s in
    let less = reaches-less g x j free.known inside (free.free j inside) s in
    levels j inside (omega (arith, less, few))))

pub levels-all : (g : GraphOf) (marks : List Bool) (k : ℕ) → IsFree g → length g.fragments ≤ k → ((x : ℕ) → x < length g.fragments → reached g x < k → IsMarked marks x) → (x : ℕ) → x < length g.fragments → IsMarked marks x
levels-all g marks k free le levels x lt =
    let out = tally-out (length g.fragments) x (λ j. reaches g (owner.Fragment x) j) lt (free.free x lt) in
    levels x lt (omega (arith, out, le))

-- ---- by names

module _ (defs : List Definition) (d : Document) where
  pub is-free : fragment_spreads_must_not_form_cycles (parts_of defs d) ≡ [] → IsFree (graph_of (parts_of defs d))
  is-free none = record {
    known = known defs d (free-of defs d none);
    free = λ x lt. free-of defs d none x (let len = graph-length defs d (free-of defs d none) in omega (arith, lt, len));
  }

  pub order-of : fragment_spreads_must_not_form_cycles (parts_of defs d) ≡ [] → (order : List ℕ) → IsGraphOrder (graph_of (parts_of defs d)) order → IsOrder order (members.place_in d.fragments) d.fragments
  order-of none order is = record {
    all = λ i lt. is.all i (omega (arith, lt, len));
    below = λ k i e. let lt = is.below k i e in omega (arith, lt, len);
    after = λ k i f at here.
        true-in (ranked.is_among (take k order) (members.place_in d.fragments)) f.selection_set
        (map-in (Known d.fragments i (λ j. spreads (graph_of (parts_of defs d)) (owner.Fragment i) j ≡ true)) (λ name. ranked.is_among (take k order) (members.place_in d.fragments) name ≡ true)
        (λ name h. by-name k i at name h) f.selection_set
        (each-in d.fragments i (λ j. spreads (graph_of (parts_of defs d)) (owner.Fragment i) j ≡ true) defs (inside_condition defs f.condition) f.selection_set (λ j h. spreads-there defs d free i j f (there d.fragments i f here) here h)));
  }
    where
      free : (k : ℕ) → k < length d.fragments → is_cyclic (graph_of (parts_of defs d)) k ≡ false
      free = free-of defs d none

      len : length (graph_of (parts_of defs d)).fragments ≡ length d.fragments
      len = graph-length defs d free

      by-name : (k i : ℕ) → slice_get order k ≡ Some i → (name : List ℕ) → Known d.fragments i (λ j. spreads (graph_of (parts_of defs d)) (owner.Fragment i) j ≡ true) name → ranked.is_among (take k order) (members.place_in d.fragments) name ≡ true
      by-name k i at name h = pick (members.place_in d.fragments name) refl
        where
          pick : (o : Option ℕ) → members.place_in d.fragments name ≡ o → option_map_or (is_in (take k order)) o true ≡ true
          pick None e = refl
          pick (Some j) e = is.after k i j at (h j (sym (one-place 0 name d.fragments) ∙ e))
