-- Numbers of rows, one key after another.
use Rattle.std.proofs.Common.{◌≡◌, ◌≢◌, ◌≤◌, ◌<◌, ◌+◌, ℕ, get_or, List, [], ◌∷◌, ◌++◌, take, drop, map, length, length-drop, refl, sym, ap, ◌∙◌, arith}
use Rattle.std.proofs.lemmas.List.{drop_more, drop_all, drop-drop, get_or-drop, map_more, append_assoc, append-nil}
use Rattle.std.proofs.lemmas.Bool.{ne_eqb}
use Rattle.load_memory.specs.Outcomes.{ItemOf}
use Rattle.flat_rows.specs.Replies.{fault_mark, rows_in, faults_in, total_rows, total_faults, item_said, items_of}

module _ (counts : List ℕ) (i : ℕ) where
  abbrev count : ℕ
  count = get_or counts i 0

  module _ (lt : i < length counts) where
    pub rows-fault : count ≡ fault_mark → total_rows (drop i counts) ≡ total_rows (drop (i + 1) counts)
    unfolding total_rows
    rows-fault e =
        let more : total_rows (drop i counts) ≡ 0 + total_rows (drop (i + 1) counts) = rw (drop_more counts i 0 lt, e) refl in
        omega (arith, more)

    pub faults-fault : count ≡ fault_mark → total_faults (drop i counts) ≡ 1 + total_faults (drop (i + 1) counts)
    unfolding total_faults
    faults-fault e = rw (drop_more counts i 0 lt, e) refl

    pub rows-rows : count ≢ fault_mark → total_rows (drop i counts) ≡ count + total_rows (drop (i + 1) counts)
    unfolding total_rows
    rows-rows e = rw (drop_more counts i 0 lt, ne_eqb count fault_mark e) refl

    pub faults-rows : count ≢ fault_mark → total_faults (drop i counts) ≡ total_faults (drop (i + 1) counts)
    unfolding total_faults
    faults-rows e =
        let more : total_faults (drop i counts) ≡ 0 + total_faults (drop (i + 1) counts) = rw (drop_more counts i 0 lt, ne_eqb count fault_mark e) refl in
        omega (arith, more)

  module _ (past : length counts ≤ i) where
    pub rows-none : total_rows (drop i counts) ≡ 0
    unfolding total_rows
    rows-none = rw (drop_all i counts past) refl

    pub faults-none : total_faults (drop i counts) ≡ 0
    unfolding total_faults
    faults-none = rw (drop_all i counts past) refl

-- the next of the rows from a place on
pub map-next : {X Y : Type 0} (f : X → Y) (at i : ℕ) (xs : List X) (d : X) → at + i < length xs → map f (take i (drop at xs)) ++ f (get_or xs (at + i) d) ∷ [] ≡ map f (take (i + 1) (drop at xs))
map-next f at i xs d lt =
    let size = length-drop at xs in
    let here : get_or (drop at xs) i d ≡ get_or xs (at + i) d = get_or-drop at xs i d in
    sym (map_more f (drop at xs) i d (omega (arith, size, lt)) ∙ ap (λ x. map f (take i (drop at xs)) ++ f x ∷ []) here)

-- ---- the items of the keys, one after another
module _ (counts : List ℕ) (i : ℕ) (lt : i < length counts) where
  pub rows-more : total_rows (drop i counts) ≡ rows_in (get_or counts i 0) + total_rows (drop (i + 1) counts)
  unfolding total_rows
  rows-more = rw (drop_more counts i 0 lt) refl

  pub faults-more : total_faults (drop i counts) ≡ faults_in (get_or counts i 0) + total_faults (drop (i + 1) counts)
  unfolding total_faults
  faults-more = rw (drop_more counts i 0 lt) refl

  module _ (names : List (List ℕ)) (all : List (List (List ℕ))) (texts : List (List ℕ)) (at fault : ℕ) where
    pub said-more : (done : List ItemOf) (x : ItemOf) (rows faults : ℕ) → x ≡ item_said names (drop at all) (drop fault texts) (get_or counts i 0)
        → rows ≡ rows_in (get_or counts i 0) → faults ≡ faults_in (get_or counts i 0)
        → (done ++ x ∷ []) ++ items_of names (drop (at + rows) all) (drop (fault + faults) texts) (drop (i + 1) counts) ≡ done ++ items_of names (drop at all) (drop fault texts) (drop i counts)
    unfolding items_of
    said-more done x rows faults same r f =
        let n = get_or counts i 0 in
        let next : x ∷ items_of names (drop (at + rows) all) (drop (fault + faults) texts) (drop (i + 1) counts) ≡ items_of names (drop at all) (drop fault texts) (drop i counts)
        = rw (drop_more counts i 0 lt, same, r, f, drop-drop (rows_in n) at all, drop-drop (faults_in n) fault texts) refl in
        append_assoc done (x ∷ []) (items_of names (drop (at + rows) all) (drop (fault + faults) texts) (drop (i + 1) counts)) ∙ ap (λ l. done ++ l) next

pub said-all : (counts : List ℕ) (i : ℕ) → length counts ≤ i → (names : List (List ℕ)) (all : List (List (List ℕ))) (faults : List (List ℕ)) (done : List ItemOf)
    → done ++ items_of names all faults (drop i counts) ≡ done
unfolding items_of
said-all counts i past names all faults done = rw (drop_all i counts past) (append-nil done)
