-- A field that is put into its group.
use Rattle.std.proofs.Common.{◌≡◌, ℕ, zero, suc, ◌<◌, ◌+◌, Bool, true, false, List, [], ◌∷◌, ◌++◌, map, length, get_or, set, drop, refl, sym, ap, ◌∙◌, arith, bytes_eq, if◌then◌else◌}
use Rattle.std.specs.Prelude.{◌||◌}
use Rattle.std.specs.List.{list_any, position, position_or_len}
use Rattle.std.specs.Prelude.{Some, None}
use Rattle.load_memory.proofs.RowLaws.{none-fails}
use Rattle.indexmap.specs.IndexSet.{insert_all, insert_key}
use Rattle.std.specs.Borrow.{Bor}
use Rattle.std.proofs.lemmas.List.{length-map, map-append, map-set, drop_more}
use Rattle.std.proofs.lemmas.List.Quantifiers.{position-Some}
use Rattle.std.proofs.Math.ListN.{get_or-map}
use Rattle.plan_program.specs.declared.group.Group.{Group}
use Rattle.plan_program.specs.Seen.{group_of, groups_of}
use Rattle.plan_program.specs.Finding.{texts_of, keys_in}
use Rattle.plan_program.specs.Groups.{FieldOf, GroupOf, with_field}

abbrev pub keys_of : List GroupOf → List (List ℕ)
keys_of gs = map (λ (g : GroupOf). g.key) gs

abbrev pub new_group : FieldOf → GroupOf
new_group f = record { key = f.key; fields = f ∷ [] }

or-false : (a b : Bool) → (a || b) ≡ false → (a ≡ false) × (b ≡ false)
or-false true b h = absurd (cc h)
or-false false b h = (refl, h)

-- no group has the field's key
pub with_field-new : (gs : List GroupOf) (f : FieldOf) → list_any (bytes_eq f.key) (keys_of gs) ≡ false → with_field gs f ≡ gs ++ new_group f ∷ []
with_field-new [] f h = refl
with_field-new (g ∷ gs) f h =
    let p = or-false (bytes_eq f.key g.key) (list_any (bytes_eq f.key) (keys_of gs)) h in
    rw p.0 (ap (λ hs. g ∷ hs) (with_field-new gs f p.1))

abbrev pub with_one : GroupOf → FieldOf → GroupOf
with_one g f = record { key = g.key; fields = g.fields ++ f ∷ [] }

-- the first group of the field's key
pub with_field-at : (gs : List GroupOf) (f : FieldOf) (i : ℕ) (d : GroupOf) → i < length gs → bytes_eq f.key (get_or gs i d).key ≡ true
    → ((k : ℕ) → k < i → bytes_eq f.key (get_or gs k d).key ≡ false) → with_field gs f ≡ set gs i (with_one (get_or gs i d) f)
with_field-at [] f i d lt here before = absurd (omega arith)
with_field-at (g ∷ gs) f zero d lt here before = rw here refl
with_field-at (g ∷ gs) f (suc i) d lt here before =
    let other : bytes_eq f.key g.key ≡ false = before 0 (omega arith) in
    rw other (ap (λ hs. g ∷ hs) (with_field-at gs f i d (omega arith) here (λ k l. before (suc k) (omega arith))))

pub any_texts : (q : List ℕ) (ks : List (Bor (List ℕ))) → list_any (λ (k : Bor (List ℕ)). bytes_eq q k.now) ks ≡ list_any (bytes_eq q) (texts_of ks)
any_texts q [] = refl
any_texts q (k ∷ ks) = ap (λ b. bytes_eq q k.now || b) (any_texts q ks)

-- a test of a set of names is one of the names' texts
pub set_has : (q : List ℕ) (ks : List (Bor (List ℕ))) (b : Bool) → b ≡ list_any (λ (k : Bor (List ℕ)). bytes_eq q k.now) ks → b ≡ list_any (bytes_eq q) (texts_of ks)
set_has q ks b h = h ∙ any_texts q ks

prefix_texts : (q : List ℕ) (ks : List (Bor (List ℕ))) → position_or_len (λ (k : Bor (List ℕ)). bytes_eq q k.now) ks ≡ position_or_len (bytes_eq q) (texts_of ks)
prefix_texts q [] = refl
prefix_texts q (k ∷ ks) = rw (prefix_texts q ks) refl

pub position_texts : (q : List ℕ) (ks : List (Bor (List ℕ))) → position (λ (k : Bor (List ℕ)). bytes_eq q k.now) ks ≡ position (bytes_eq q) (texts_of ks)
position_texts q ks = rw (prefix_texts q ks, sym (length-map ks (λ (k : Bor (List ℕ)). k.now))) refl

keys_seen : (gs : List Group) → keys_of (groups_of gs) ≡ keys_in gs
keys_seen [] = refl
keys_seen (g ∷ gs) = ap (λ ks. g.key.now ∷ ks) (keys_seen gs)

-- a field goes to the group at its key's place
pub put_at : (gs : List Group) (f : FieldOf) (q : List ℕ) (i : ℕ) (g g' : Group) → q ≡ f.key → Some i ≡ position (bytes_eq q) (keys_in gs)
    → g ≡ get_or gs i g → group_of g' ≡ with_one (group_of g) f → groups_of (set gs i g') ≡ with_field (groups_of gs) f
put_at gs f q i g g' key_is at is put =
    let place : position (bytes_eq f.key) (keys_of (groups_of gs)) ≡ Some i =
    ap (position (bytes_eq f.key)) (keys_seen gs) ∙ ap (λ r. position (bytes_eq r) (keys_in gs)) (sym key_is) ∙ sym at in
    let d : GroupOf = group_of g in
    let p = position-Some (bytes_eq f.key) (keys_of (groups_of gs)) i d.key place in
    let key : (k : ℕ) → get_or (keys_of (groups_of gs)) k d.key ≡ (get_or (groups_of gs) k d).key = λ k. get_or-map (λ (h : GroupOf). h.key) (groups_of gs) k d in
    let lt : i < length (groups_of gs) = omega (arith, p.0, length-map (groups_of gs) (λ (h : GroupOf). h.key)) in
    let here : get_or (groups_of gs) i d ≡ d = get_or-map group_of gs i g ∙ ap group_of (sym is) in
    let found = with_field-at (groups_of gs) f i d lt (ap (bytes_eq f.key) (sym (key i)) ∙ p.1) (λ k l. ap (bytes_eq f.key) (sym (key k)) ∙ p.2 k l) in
    map-set group_of gs i g' ∙ ap (set (groups_of gs) i) (put ∙ ap (λ h. with_one h f) (sym here)) ∙ sym found

-- a list with no place for a test has nothing that passes it
none-passes : {X : Type 0} (p : X → Bool) (xs : List X) (d : X) → ((k : ℕ) → k < length xs → p (get_or xs k d) ≡ false) → list_any p xs ≡ false
none-passes p [] d h = refl
none-passes p (x ∷ xs) d h = rw (h 0 (omega arith)) (none-passes p xs d (λ k lt. h (suc k) (omega (arith, lt))))

pub absent : (q : List ℕ) (ks : List (List ℕ)) → position (bytes_eq q) ks ≡ None → list_any (bytes_eq q) ks ≡ false
absent q ks none = none-passes (bytes_eq q) ks [] (none-fails (bytes_eq q) ks [] none)

-- a group of another key goes last
pub put_last : (gs : List Group) (f : FieldOf) (q : List ℕ) (g : Group) → q ≡ f.key → None ≡ position (bytes_eq q) (keys_in gs)
    → group_of g ≡ new_group f → groups_of (gs ++ g ∷ []) ≡ with_field (groups_of gs) f
put_last gs f q g key_is none new =
    let nowhere : list_any (bytes_eq f.key) (keys_of (groups_of gs)) ≡ false =
    ap (list_any (bytes_eq f.key)) (keys_seen gs) ∙ ap (λ r. list_any (bytes_eq r) (keys_in gs)) (sym key_is) ∙ absent q (keys_in gs) (sym none) in
    map-append group_of gs (g ∷ []) ∙ ap (λ h. groups_of gs ++ h ∷ []) new ∙ sym (with_field-new (groups_of gs) f nowhere)

-- a key that is absent goes last
insert-absent : (ks : List (List ℕ)) (q : List ℕ) → list_any (bytes_eq q) ks ≡ false → insert_key bytes_eq ks q ≡ ks ++ q ∷ []
insert-absent ks q h = rw h refl

insert-later : (done ks : List (List ℕ)) (q : List ℕ) → insert_all bytes_eq done (ks ++ q ∷ []) ≡ insert_key bytes_eq (insert_all bytes_eq done ks) q
insert-later done [] q = refl
insert-later done (k ∷ ks) q = insert-later (insert_key bytes_eq done k) ks q

pub apart-more : (ks : List (List ℕ)) (q : List ℕ) → insert_all bytes_eq [] ks ≡ ks → position (bytes_eq q) ks ≡ None → insert_all bytes_eq [] (ks ++ q ∷ []) ≡ ks ++ q ∷ []
apart-more ks q apart none = insert-later [] ks q ∙ ap (λ done. insert_key bytes_eq done q) apart ∙ insert-absent ks q (absent q ks none)

-- the texts of a table after a key is inserted
pub table-insert : (ks : List (Bor (List ℕ))) (q : Bor (List ℕ)) → texts_of (insert_key (λ (a b : Bor (List ℕ)). bytes_eq a.now b.now) ks q) ≡ insert_key bytes_eq (texts_of ks) q.now
table-insert ks q = pick (list_any (λ (k : Bor (List ℕ)). bytes_eq q.now k.now) ks) (any_texts q.now ks) where
  pick : (b : Bool) → b ≡ list_any (bytes_eq q.now) (texts_of ks) → texts_of (if b then ks else ks ++ q ∷ []) ≡ insert_key bytes_eq (texts_of ks) q.now
  pick true h = rw (sym h) refl
  pick false h = rw (sym h) (map-append (λ (t : Bor (List ℕ)). t.now) ks (q ∷ []))

-- the key of the group at a place
pub key-at : (gs : List Group) (i : ℕ) (g : Group) → i < length gs → g ≡ get_or gs i g → get_or (keys_in gs) i [] ≡ g.key.now
key-at [] i g lt is = absurd (omega arith)
key-at (h ∷ gs) zero g lt is = ap (λ (x : Group). x.key.now) (sym is)
key-at (h ∷ gs) (suc i) g lt is = key-at gs i g (omega arith) is

pub keys-from : (gs : List Group) (i : ℕ) (g : Group) → i < length gs → g ≡ get_or gs i g → keys_in (drop i gs) ≡ g.key.now ∷ keys_in (drop (i + 1) gs)
keys-from gs i g lt is = ap keys_in (drop_more gs i g lt) ∙ ap (λ (x : Group). x.key.now ∷ keys_in (drop (i + 1) gs)) (sym is)

-- a key that is absent goes last in a table of the keys
pub tabled-more : (ks : List (Bor (List ℕ))) (q : Bor (List ℕ)) (keys : List (List ℕ)) → texts_of ks ≡ keys → position (bytes_eq q.now) keys ≡ None
    → texts_of (insert_key (λ (a b : Bor (List ℕ)). bytes_eq a.now b.now) ks q) ≡ keys ++ q.now ∷ []
tabled-more ks q keys same none = table-insert ks q ∙ ap (λ ts. insert_key bytes_eq ts q.now) same ∙ insert-absent keys q.now (absent q.now keys none)
