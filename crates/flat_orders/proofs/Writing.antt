-- Buffers that were written say the orders that were given.
use Rattle.std.proofs.Common.{◌≡◌, ◌<◌, ◌≤◌, ◌+◌, ◌-◌, ℕ, zero, suc, List, [], ◌∷◌, ◌++◌, get_or, take, drop, map, length, refl, sym, ap, ◌∙◌, subst, arith, length-drop}
use Rattle.std.proofs.lemmas.List.{length-take-le, take_more, map_push, map-append, append_assoc, flat_map_more}
use Rattle.std.proofs.lemmas.List.Concat.{flat_map-append}
use Rattle.std.proofs.lemmas.List.Sums.{sum_by-cons}
use Rattle.std.proofs.lemmas.Option.{slice_get-map, slice_get_past}
use Rattle.std.specs.List.{flat_map}
use Rattle.std.specs.Prelude.{Some, None, slice_range, slice_get, option_map}
use Rattle.load_memory.specs.Cells.{IsCut, cut}
use Rattle.load_memory.proofs.CellLaws.{start-within}
use Rattle.load_memory.specs.Keys.{KeyOf, all, text, pair}
use Rattle.flat_orders.specs.Written.{key_said, keys_said, lists_of, lists_said, texts_in, shape_of, keys_in, AreWritten, size_of}

take-length : {X : Type 0} (xs ys : List X) → take (length xs) (xs ++ ys) ≡ xs
take-length [] ys = refl
take-length (x ∷ xs) ys = ap (λ l. x ∷ l) (take-length xs ys)

drop-length : {X : Type 0} (xs ys : List X) → drop (length xs) (xs ++ ys) ≡ ys
drop-length [] ys = refl
drop-length (x ∷ xs) ys = drop-length xs ys

key-back : (key : KeyOf) → key_said (texts_in key) ≡ key
key-back all = refl
key-back (text t) = refl
key-back (pair s t) = refl

pub keys-back : (keys : List KeyOf) → keys_said (map shape_of keys) (flat_map texts_in keys) ≡ keys
unfolding keys_said
keys-back [] = refl
keys-back (k ∷ ks) = rw (take-length (texts_in k) (flat_map texts_in ks), drop-length (texts_in k) (flat_map texts_in ks), key-back k, keys-back ks) refl

pub lists-back : (lists : List (List KeyOf)) → lists_of (map length lists) (keys_in lists) ≡ lists
unfolding lists_of
lists-back [] = refl
lists-back (l ∷ ls) = rw (take-length l (keys_in ls), drop-length l (keys_in ls), lists-back ls) refl

-- buffers that are lists, written, say these lists
pub said-back : (lists : List (List KeyOf)) (counts shapes : List ℕ) (texts : List (List ℕ)) → AreWritten lists counts shapes texts → lists_said counts shapes texts ≡ lists
said-back lists counts shapes texts w = rw (w.counts_are, w.shapes_are, w.texts_are, keys-back (keys_in lists), lists-back lists) refl

-- the bytes of texts in one buffer
pub size-cut : (bytes : List ℕ) (start : ℕ) (ends : List ℕ) → IsCut bytes start ends → size_of (cut bytes start ends) + start ≡ length bytes
unfolding IsCut cut
size-cut bytes start [] h = omega (arith, h)
size-cut bytes start (end ∷ ends) h =
    let low = h.0 in
    let within = start-within bytes end ends h.2 in
    let rest = size-cut bytes end ends h.2 in
    let room : end - start ≤ length (drop start bytes) = omega (arith, length-drop start bytes, within) in
    let here : length (slice_range bytes start end) ≡ end - start = length-take-le (end - start) (drop start bytes) room in
    let more = sum_by-cons length (slice_range bytes start end) (cut bytes end ends) in
    omega (arith, here, rest, low, more)

-- ---- one more
next : {X : Type 0} (xs : List X) (i : ℕ) (x : X) → i < length xs → x ≡ get_or xs i x → take (i + 1) xs ≡ take i xs ++ x ∷ []
next xs i x lt is = take_more xs i x lt ∙ ap (λ y. take i xs ++ y ∷ []) (sym is)

module _ {X : Type 0} (key : X → KeyOf) (xs : List X) (i : ℕ) (x : X) (lt : i < length xs) (is : x ≡ get_or xs i x) where
  pub shapes-more : (old done : List ℕ) → done ≡ old ++ map shape_of (map key (take i xs)) → done ++ shape_of (key x) ∷ [] ≡ old ++ map shape_of (map key (take (i + 1) xs))
  shapes-more old done e =
      rw (next xs i x lt is, map_push key (take i xs) x, map_push shape_of (map key (take i xs)) (key x), e) (append_assoc old (map shape_of (map key (take i xs))) (shape_of (key x) ∷ []))

  pub texts-more : (old done : List (List ℕ)) → done ≡ old ++ flat_map texts_in (map key (take i xs)) → done ++ texts_in (key x) ≡ old ++ flat_map texts_in (map key (take (i + 1) xs))
  texts-more old done e =
      rw (next xs i x lt is, map_push key (take i xs) x, e) (flat_map_more texts_in old (map key (take i xs)) (key x))

-- one list more is written
pub written-more : (lists : List (List KeyOf)) (counts shapes : List ℕ) (texts : List (List ℕ)) → AreWritten lists counts shapes texts → (keys : List KeyOf)
    → AreWritten (lists ++ keys ∷ []) (counts ++ length keys ∷ []) (shapes ++ map shape_of keys) (texts ++ flat_map texts_in keys)
written-more lists counts shapes texts w keys =
    let all : keys_in lists ++ keys ≡ keys_in (lists ++ keys ∷ []) = flat_map_more (λ ks. ks) [] lists keys in
    record {
      counts_are = rw (w.counts_are) (sym (map_push length lists keys));
      shapes_are = rw (w.shapes_are, ← all) (sym (map-append shape_of (keys_in lists) keys));
      texts_are = rw (w.texts_are, ← all) (sym (flat_map-append texts_in (keys_in lists) keys));
    }

-- the orders that were written are those that the buffers say
pub written-said : (lists : List (List KeyOf)) (counts shapes : List ℕ) (texts : List (List ℕ)) → AreWritten lists counts shapes texts
    → AreWritten (lists_said counts shapes texts) counts shapes texts
written-said lists counts shapes texts w = subst (λ l. AreWritten l counts shapes texts) (sym (said-back lists counts shapes texts w)) w

at : (xs : List ℕ) (i x : ℕ) → i < length xs → x ≡ get_or xs i x → slice_get xs i ≡ Some x
at [] i x lt is = absurd (omega (arith, lt))
at (y ∷ ys) zero x lt is = ap Some (sym is)
at (y ∷ ys) (suc i) x lt is = at ys i x (omega (arith, lt)) is

-- the list of a number, by the numbers of keys
module _ (counts : List ℕ) (lists : List (List KeyOf)) (i : ℕ) (e : counts ≡ map length lists) where
  by-number : slice_get counts i ≡ option_map (λ keys. length keys) (slice_get lists i)
  by-number = rw e (slice_get-map length lists i)

  pub count-within : (n : ℕ) → i < length counts → n ≡ get_or counts i n → Some n ≡ option_map (λ keys. length keys) (slice_get lists i)
  count-within n lt is = sym (at counts i n lt is) ∙ by-number

  pub count-past : length counts ≤ i → None ≡ option_map (λ keys. length keys) (slice_get lists i)
  count-past past = sym (slice_get_past counts i past) ∙ by-number
