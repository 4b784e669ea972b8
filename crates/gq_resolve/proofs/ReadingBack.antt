-- What is read back of the text of some puts is what these wrote.
use Rattle.std.proofs.Common.{◌≡◌, ◌≤◌, ℕ, suc, Bool, true, false, List, [], ◌∷◌, ◌++◌, take, drop, length, sym, ◌∙◌, ap, subst, refl, arith, length-append, if◌then◌else◌, None, Some}
use Rattle.std.proofs.lemmas.Bool.{and_parts}
use Rattle.std.proofs.lemmas.List.{take_at, drop_at, take_all, length-take-le}
use Rattle.std.proofs.Math.ListN.{drop_of_length-le}
use Rattle.std.specs.Fmt.{signed_decimal}
use Rattle.std.specs.List.{list_all, flat_map}
use Rattle.text_place.specs.declared.place.Place.{Place}
use Rattle.json.specs.Token.{Token, string, number, boolean, null, key}
use Rattle.execution.specs.Loads.{Reader}
use Rattle.execution.specs.Program.{LeafValue, Value, Null, Fault, Text, Int, Boolean, Kind, ListOf, ObjectOf, Part, Key, Item, FieldPosition, Program, Is, Read, Under, Programs, End, With, given}
use Rattle.plan_walk.specs.Puts.{Put, Begins, Ends, Enters, Has, Reads, Waits, puts, all_puts}
use Rattle.gq_resolve.specs.Written.{is_plain, opening, closing, part_tokens, put_tokens}
use Rattle.gq_resolve.specs.Texted.{OpenOf, WrittenOf, written, begun, ended_in, depth_in, entered_at, put_one, put_all, nothing_written}
use Rattle.gq_resolve.specs.ReadBack.{ShapeOf, StandsAt, IsStep, IsNext, AreInOrder, at_root, is_past, IsNumbered, AreNumbered, next_item, item_of, item_entered, taken, all_taken, reached, IsCountOf, HaveBegun, IsReadBack}

-- ---- items

-- only the path is another
pub item-same : (kind : Kind) (depth : ℕ) (w : WrittenOf) → item_of kind depth w ≡ record w { path = (item_of kind depth w).path }
item-same ListOf depth w = refl
item-same ObjectOf depth w = refl

entered-same : (ls : List OpenOf) (w : WrittenOf) → item_entered ls w ≡ record w { path = (item_entered ls w).path }
entered-same [] w = refl
entered-same (l ∷ ls) w = item-same l.kind l.depth w

-- an item counts once it was entered
item-begun : (kind : Kind) (n depth : ℕ) (w : WrittenOf) (ss : List ShapeOf) (ls : List OpenOf) → depth_in w.levels ≡ depth → IsCountOf kind true n (drop depth w.path) → depth ≤ length w.path → HaveBegun false ss ls (take depth w.path)
    → IsCountOf kind false n (drop depth (item_of kind depth w).path) × (depth ≤ length (item_of kind depth w).path) × HaveBegun false ss ls (take depth (item_of kind depth w).path)
item-begun ListOf n depth w ss ls at count le rest =
    let front : List Part = take depth w.path in
    let step : Part = Item (next_item (drop depth w.path)) in
    let path : List Part = take (depth_in w.levels) w.path ++ step ∷ [] in
    let is : path ≡ front ++ step ∷ [] = ap (λ (d : ℕ). take d w.path ++ step ∷ []) at in
    let long : length front ≡ depth = length-take-le depth w.path le in
    let past : drop depth path ≡ step ∷ [] = ap (drop depth) is ∙ drop_at front (step ∷ []) depth long in (
      count ∙ ap next_item (sym past),
      omega (arith, ap length is, length-append front (step ∷ []), long),
      subst (HaveBegun false ss ls) (sym (ap (take depth) is ∙ take_at front (step ∷ []) depth long)) rest,
    )
item-begun ObjectOf n depth w ss ls at count le rest = (tt, le, rest)

entered-begun : (ss : List ShapeOf) (w : WrittenOf) → HaveBegun true ss w.levels w.path → HaveBegun false ss w.levels (item_entered w.levels w).path
entered-begun ss w h = go ss w.levels refl h
  where
    go : (ss : List ShapeOf) (ls : List OpenOf) → w.levels ≡ ls → HaveBegun true ss ls w.path → HaveBegun false ss ls (item_entered ls w).path
    go [] [] e h = tt
    go [] (l ∷ ls) e h = absurd h
    go (s ∷ ss) [] e h = absurd h
    go (s ∷ ss) (l ∷ ls) e (same, count, le, rest) =
        let one = item-begun l.kind s.count l.depth w ss ls (ap depth_in e) (subst (λ (k : Kind). IsCountOf k true s.count (drop l.depth w.path)) (sym same) count) le rest in
        (same, subst (λ (k : Kind). IsCountOf k false s.count (drop l.depth (item_entered (l ∷ ls) w).path)) same one.0, one.1, one.2)

-- at a position that was entered, what was read back is entered too
pub at-entered : (s : StandsAt) (w z : WrittenOf) → s.entered ≡ true → IsReadBack s w z → w ≡ record (item_entered z.levels z) { place = w.place }
at-entered s w z e h = h.is ∙ ap (λ (b : Bool). record (if b then item_entered z.levels z else z) { place = w.place }) e

pub at-past : (s : StandsAt) (w z : WrittenOf) → s.entered ≡ false → IsReadBack s w z → w ≡ record z { place = w.place }
at-past s w z e h = h.is ∙ ap (λ (b : Bool). record (if b then item_entered z.levels z else z) { place = w.place }) e

read-as : (t : StandsAt) (new z : WrittenOf) (q : Place) → t.entered ≡ false → new ≡ record z { place = q } → new ≡ record (reached t z) { place = new.place }
read-as t new z q f is =
    is ∙ ap (λ (p : Place). record z { place = p }) (sym (ap (λ (x : WrittenOf). x.place) is)) ∙ ap (λ (b : Bool). record (if b then item_entered z.levels z else z) { place = new.place }) (sym f)

-- ---- one put

written-none : (w : WrittenOf) → written [] w ≡ w
written-none w = elim w.muted as (λ (b : Bool). record w { muted = b; text = if b then w.text else w.text } ≡ record w { muted = b }) [
  | true ↦ refl
  | false ↦ refl
]

taken-opening : (kind : Kind) (z : WrittenOf) → all_taken (opening kind ∷ []) z ≡ begun kind (item_entered z.levels z)
taken-opening ListOf z = refl
taken-opening ObjectOf z = refl

taken-closing : (kind : Kind) (z : WrittenOf) → all_taken (closing kind ∷ []) z ≡ ended_in z.levels kind false z
taken-closing ListOf z = refl
taken-closing ObjectOf z = refl

-- nothing was begun since, and no step was left
begun-read : (kind : Kind) (ss : List ShapeOf) (w : WrittenOf) → HaveBegun false ss w.levels w.path → HaveBegun false (record { kind = kind; count = 0 } ∷ ss) (begun kind w).levels w.path
begun-read kind ss w h = (refl, none kind, omega arith, subst (HaveBegun false ss w.levels) (sym (take_all (length w.path) w.path (omega arith))) h)
  where
    none : (kind : Kind) → IsCountOf kind false 0 (drop (length w.path) w.path)
    none ListOf = ap next_item (sym (drop_of_length-le w.path (omega arith)))
    none ObjectOf = tt

read-begins : (kind : Kind) (s t : StandsAt) (w z : WrittenOf) → IsNext (Begins kind) s t → IsReadBack s w z → IsReadBack t (begun kind w) (all_taken (opening kind ∷ []) z)
read-begins kind s t w z (e, f) h =
    let y : WrittenOf = item_entered z.levels z in
    let same : y ≡ record z { path = y.path } = entered-same z.levels z in
    let new : WrittenOf = begun kind y in
    let within : List ShapeOf = record { kind = kind; count = 0 } ∷ s.within in
    let there : HaveBegun false s.within y.levels y.path =
    subst (λ (ls : List OpenOf). HaveBegun false s.within ls y.path) (sym (ap (λ (x : WrittenOf). x.levels) same)) (entered-begun s.within z (subst (λ (b : Bool). HaveBegun b s.within z.levels z.path) e h.begun)) in
    rw (taken-opening kind z, f) (record {
      is = ap (begun kind) (at-entered s w z e h);
      whole = ap (λ (x : WrittenOf). x.muted) same ∙ h.whole;
      begun = begun-read kind s.within y there;
    })

ended-as : (kind : Kind) (non_null : Bool) (z : WrittenOf) (q : Place) (l : OpenOf) (ls : List OpenOf) → z.levels ≡ l ∷ ls → z.muted ≡ false
    → ended_in z.levels kind non_null (record z { place = q }) ≡ record (ended_in z.levels kind false z) { place = q }
ended-as kind non_null z q l ls e m = rw (e, m) refl

read-ends : (kind : Kind) (non_null : Bool) (s t : StandsAt) (w z : WrittenOf) → IsNext (Ends kind non_null) s t → IsReadBack s w z → IsReadBack t (put_one (Ends kind non_null) w) (all_taken (closing kind ∷ []) z)
read-ends kind non_null s t w z (e, f, n, is) h =
    rw (taken-closing kind z) (go z.levels refl (subst (λ (ss : List ShapeOf). HaveBegun false ss z.levels z.path) is (subst (λ (b : Bool). HaveBegun b s.within z.levels z.path) e h.begun)))
  where
    go : (ls : List OpenOf) → z.levels ≡ ls → HaveBegun false (record { kind = kind; count = n } ∷ t.within) ls z.path → IsReadBack t (put_one (Ends kind non_null) w) (ended_in z.levels kind false z)
    go [] same none = absurd none
    go (l ∷ ls) same (kinds, count, le, rest) = record {
      is = read-as t (put_one (Ends kind non_null) w) (ended_in z.levels kind false z) w.place f (ap (put_one (Ends kind non_null)) (at-past s w z e h) ∙ ended-as kind non_null z w.place l ls same h.whole);
      whole = rw (same, h.whole) refl;
      begun = rw (same, h.whole, f) rest;
    }

-- a field's key is in the text
read-field : (position : FieldPosition) (k : List ℕ) (s t : StandsAt) (w z : WrittenOf) → position.part ≡ Key k → IsNext (Enters ObjectOf position) s t → IsReadBack s w z → IsReadBack t (put_one (Enters ObjectOf position) w) (taken (key k) z)
read-field position k s t w z part (e, n, rest, is, step, f) h = go z.levels refl (subst (λ (ss : List ShapeOf). HaveBegun false ss z.levels z.path) is (subst (λ (b : Bool). HaveBegun b s.within z.levels z.path) e h.begun))
  where
    new : WrittenOf
    new = taken (key k) z

    put : put_one (Enters ObjectOf position) w ≡ record new { place = position.place }
    put = ap (put_one (Enters ObjectOf position)) (at-past s w z e h) ∙ ap (λ (p : Part). written (part_tokens ObjectOf p) (entered_at p position.place (record z { place = w.place }))) part

    go : (ls : List OpenOf) → z.levels ≡ ls → HaveBegun false (record { kind = ObjectOf; count = n } ∷ rest) ls z.path → IsReadBack t (put_one (Enters ObjectOf position) w) new
    go [] same none = absurd none
    go (l ∷ ls) same (kinds, count, le, outer) =
        let front : List Part = take l.depth z.path in
        let long : length front ≡ l.depth = length-take-le l.depth z.path le in
        let stays : item_entered new.levels new ≡ new = ap (λ (xs : List OpenOf). item_entered xs new) same ∙ ap (λ (kind : Kind). item_of kind l.depth new) kinds in
        record {
          is = put ∙ ap (λ (x : WrittenOf). record x { place = position.place }) (sym stays)
              ∙ ap (λ (p : Place). record (item_entered new.levels new) { place = p }) (sym (ap (λ (x : WrittenOf). x.place) put))
              ∙ ap (λ (u : StandsAt). record (reached u new) { place = (put_one (Enters ObjectOf position) w).place }) (sym f);
          whole = h.whole;
          begun = rw (f, same) (kinds, tt, omega (arith, length-append front (Key k ∷ []), long), subst (HaveBegun false rest ls) (sym (take_at front (Key k ∷ []) l.depth long)) outer);
        }

-- an item leaves no token
read-item : (position : FieldPosition) (s t : StandsAt) (w z : WrittenOf) → IsNext (Enters ListOf position) s t → IsReadBack s w z → IsReadBack t (put_one (Enters ListOf position) w) z
read-item position s t w z (e, n, rest, is, step, f) h = go z.levels refl (subst (λ (ss : List ShapeOf). HaveBegun false ss z.levels z.path) is (subst (λ (b : Bool). HaveBegun b s.within z.levels z.path) e h.begun))
  where
    go : (ls : List OpenOf) → z.levels ≡ ls → HaveBegun false (record { kind = ListOf; count = n } ∷ rest) ls z.path → IsReadBack t (put_one (Enters ListOf position) w) z
    go [] same none = absurd none
    go (l ∷ ls) same (kinds, count, le, outer) =
        let item : Part = Item (next_item (drop l.depth z.path)) in
        let entered : item_entered z.levels z ≡ entered_at item z.place z = ap (λ (xs : List OpenOf). item_entered xs z) same ∙ ap (λ (kind : Kind). item_of kind l.depth z) kinds in
        let put : put_one (Enters ListOf position) w ≡ record (item_entered z.levels z) { place = position.place } =
        ap (put_one (Enters ListOf position)) (at-past s w z e h) ∙ ap (λ (p : Part). written [] (entered_at p position.place (record z { place = w.place }))) (step ∙ ap Item count)
        ∙ written-none (entered_at item position.place z) ∙ ap (λ (x : WrittenOf). record x { place = position.place }) (sym entered) in
        record {
          is = put ∙ ap (λ (p : Place). record (item_entered z.levels z) { place = p }) (sym (ap (λ (x : WrittenOf). x.place) put))
              ∙ ap (λ (u : StandsAt). record (reached u z) { place = (put_one (Enters ListOf position) w).place }) (sym f);
          whole = h.whole;
          begun = rw (f, same) (kinds, ap suc count, le, outer);
        }

-- a value
read-value : (x : Token) (put : WrittenOf → WrittenOf) (s t : StandsAt) (w z : WrittenOf) → s.entered ≡ true → t ≡ is_past s → ((y : WrittenOf) → y.muted ≡ false → put y ≡ written (x ∷ []) y)
    → taken x z ≡ written (x ∷ []) (item_entered z.levels z) → IsReadBack s w z → IsReadBack t (put w) (taken x z)
read-value x put s t w z e f does takes h =
    let y : WrittenOf = item_entered z.levels z in
    let same : y ≡ record z { path = y.path } = entered-same z.levels z in
    let muted : y.muted ≡ false = ap (λ (u : WrittenOf). u.muted) same ∙ h.whole in
    let there : HaveBegun false s.within y.levels y.path =
    subst (λ (ls : List OpenOf). HaveBegun false s.within ls y.path) (sym (ap (λ (u : WrittenOf). u.levels) same)) (entered-begun s.within z (subst (λ (b : Bool). HaveBegun b s.within z.levels z.path) e h.begun)) in
    rw takes (record {
      is = read-as t (put w) (written (x ∷ []) y) w.place (ap (λ (u : StandsAt). u.entered) f) (ap put (at-entered s w z e h) ∙ does (record y { place = w.place }) muted);
      whole = muted;
      begun = subst (λ (u : StandsAt). HaveBegun u.entered u.within y.levels y.path) (sym f) there;
    })

-- ---- all puts

-- a plain value is written as its token
read-has : (non_null : Bool) (leaf_value : LeafValue) (s t : StandsAt) (w z : WrittenOf) → is_plain (Has non_null leaf_value) ≡ true → IsNext (Has non_null leaf_value) s t → IsReadBack s w z
    → IsReadBack t (put_one (Has non_null leaf_value) w) (all_taken (put_tokens (Has non_null leaf_value)) z)
read-has non_null (Value (Text text)) s t w z plain (e, f) h = read-value (string text) (put_one (Has non_null (Value (Text text)))) s t w z e f (λ y m. rw m refl) refl h
read-has non_null (Value (Int i)) s t w z plain (e, f) h = read-value (number (signed_decimal i)) (put_one (Has non_null (Value (Int i)))) s t w z e f (λ y m. rw m refl) refl h
read-has non_null (Value (Boolean b)) s t w z plain (e, f) h = read-value (boolean b) (put_one (Has non_null (Value (Boolean b)))) s t w z e f (λ y m. rw m refl) refl h
read-has true Null s t w z plain next h = absurd (cc plain)
read-has false Null s t w z plain (e, f) h = read-value null (put_one (Has false Null)) s t w z e f (λ y m. rw m refl) refl h
read-has non_null (Fault text) s t w z plain next h = absurd (cc plain)

read-one : (p : Put) (s t : StandsAt) (w z : WrittenOf) → is_plain p ≡ true → IsNext p s t → IsReadBack s w z → IsReadBack t (put_one p w) (all_taken (put_tokens p) z)
read-one (Begins kind) s t w z plain next h = read-begins kind s t w z next h
read-one (Ends kind non_null) s t w z plain next h = read-ends kind non_null s t w z next h
read-one (Enters ListOf position) s t w z plain next h = read-item position s t w z next h
read-one (Enters ObjectOf position) s t w z plain next h = go position.part refl
  where
    go : (part : Part) → position.part ≡ part → IsReadBack t (put_one (Enters ObjectOf position) w) (all_taken (part_tokens ObjectOf position.part) z)
    go (Key k) is = subst (λ (p : Part). IsReadBack t (put_one (Enters ObjectOf position) w) (all_taken (part_tokens ObjectOf p) z)) (sym is) (read-field position k s t w z is next h)
    go (Item n) is = absurd (subst (λ (p : Part). IsStep ObjectOf next.1 p) is next.4)
read-one (Has non_null leaf_value) s t w z plain next h = read-has non_null leaf_value s t w z plain next h
read-one Reads s t w z plain (e, f) h = subst (λ (u : StandsAt). IsReadBack u w z) (sym f) h
read-one (Waits p) s t w z plain next h = absurd (cc plain)

all_taken-append : (ts us : List Token) (z : WrittenOf) → all_taken (ts ++ us) z ≡ all_taken us (all_taken ts z)
all_taken-append [] us z = refl
all_taken-append (t ∷ ts) us z = all_taken-append ts us (taken t z)

read-all : (ps : List Put) (s t : StandsAt) (w z : WrittenOf) → list_all is_plain ps ≡ true → AreInOrder ps s t → IsReadBack s w z → IsReadBack t (put_all ps w) (all_taken (flat_map put_tokens ps) z)
read-all [] s t w z plain order h = subst (λ (u : StandsAt). IsReadBack u w z) (sym order) h
read-all (p ∷ ps) s t w z plain (u, next, order) h =
    let each = and_parts (is_plain p) (list_all is_plain ps) plain in
    rw (all_taken-append (put_tokens p) (flat_map put_tokens ps) z) (read-all ps u t (put_one p w) (all_taken (put_tokens p) z) each.1 order (read-one p s u w z each.0 next h))

-- from the root on
pub read-back : (ps : List Put) (t : StandsAt) (most : ℕ) → list_all is_plain ps ≡ true → AreInOrder ps at_root t → IsReadBack t (put_all ps (nothing_written most)) (all_taken (flat_map put_tokens ps) (nothing_written most))
read-back ps t most plain order = read-all ps at_root t (nothing_written most) (nothing_written most) plain order (record { is = refl; whole = refl; begun = tt })

-- ---- puts in order

in-order-append : (ps qs : List Put) (s t u : StandsAt) → AreInOrder ps s t → AreInOrder qs t u → AreInOrder (ps ++ qs) s u
in-order-append [] qs s t u p q = subst (λ (x : StandsAt). AreInOrder qs x u) p q
in-order-append (x ∷ ps) qs s t u (v, next, p) q = (v, next, in-order-append ps qs v t u p q)

mutual
  -- a program whose positions are numbered is put in order
  pub puts-order : (non_null : Bool) (p : Program) (R : Reader) (ss : List ShapeOf) → IsNumbered p → AreInOrder (puts non_null p R) (record { within = ss; entered = true }) (record { within = ss; entered = false })
  puts-order non_null (Is leaf_value) R ss numbered = (_, (refl, refl), refl)
  puts-order non_null (Read load next) R ss numbered = (
    _,
    (refl, refl),
    elim (R load) as (λ o. AreInOrder (given o (Waits (Read load next) ∷ []) (λ outcome. puts non_null (next outcome) R)) (record { within = ss; entered = true }) (record { within = ss; entered = false })) [
      | None ↦ (_, (refl, refl), refl)
      | Some outcome ↦ puts-order non_null (next outcome) R ss (numbered outcome)
    ],
  )
  puts-order non_null (Under kind below) R ss numbered =
      let rest = all-puts-order kind 0 below R ss numbered in
      (_, (refl, refl), in-order-append (all_puts kind below R) (Ends kind non_null ∷ []) _ _ _ rest.1 (_, (refl, refl, rest.0, refl), refl))

  all-puts-order : (kind : Kind) (n : ℕ) (ps : Programs) (R : Reader) (ss : List ShapeOf) → AreNumbered kind n ps
      → (m : ℕ) × AreInOrder (all_puts kind ps R) (record { within = record { kind = kind; count = n } ∷ ss; entered = false }) (record { within = record { kind = kind; count = m } ∷ ss; entered = false })
  all-puts-order kind n End R ss numbered = (n, refl)
  all-puts-order kind n (With position p rest) R ss (step, first, others) =
      let later = all-puts-order kind (suc n) rest R ss others in
      (later.0, (_, (refl, n, ss, refl, step, refl), in-order-append (puts position.non_null p R) (all_puts kind rest R) _ _ _ (puts-order position.non_null p R (record { kind = kind; count = suc n } ∷ ss) first) later.1))
