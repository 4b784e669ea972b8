-- Keys that are read one after another.
use Rattle.std.proofs.Common.{◌≡◌, ◌∙◌, ◌<◌, ◌≤◌, ◌+◌, ◌++◌, ℕ, List, [], ◌∷◌, get_or, take, drop, length, sym, ap}
use Rattle.std.proofs.lemmas.List.{append_assoc, append-nil, drop_more, drop_all, drop-drop}
use Rattle.load_memory.specs.Keys.{KeyOf}
use Rattle.flat_orders.specs.Written.{key_said, keys_said}

-- says what is said of the shapes and texts that are left is, after the keys that were read, what
-- all say
abbrev pub SoFar : List ℕ → List (List ℕ) → ℕ → ℕ → List KeyOf → Type 0
SoFar shapes texts i at read = read ++ keys_said (drop i shapes) (drop at texts) ≡ keys_said shapes texts

module _ (shapes : List ℕ) (texts : List (List ℕ)) where
  pub so-next : (i at : ℕ) → i < length shapes → (read : List KeyOf) (key : KeyOf) → SoFar shapes texts i at read → key ≡ key_said (take (get_or shapes i 0) (drop at texts))
      → SoFar shapes texts (i + 1) (at + get_or shapes i 0) (read ++ key ∷ [])
  unfolding keys_said
  so-next i at lt read key so said =
      let n = get_or shapes i 0 in let left : List ℕ = drop (i + 1) shapes in let cons : drop i shapes ≡ n ∷ left = drop_more shapes i 0 lt in
      append_assoc read (key ∷ []) (keys_said left (drop (at + n) texts)) ∙ ap (λ k. read ++ (k ∷ keys_said left (drop (at + n) texts))) said
      ∙ ap (λ ts. read ++ (key_said (take n (drop at texts)) ∷ keys_said left ts)) (sym (drop-drop n at texts)) ∙ ap (λ ss. read ++ keys_said ss (drop at texts)) (sym cons) ∙ so

  pub so-all : (i at : ℕ) → length shapes ≤ i → (read : List KeyOf) → SoFar shapes texts i at read → read ≡ keys_said shapes texts
  unfolding keys_said
  so-all i at past read so = sym (ap (λ ss. read ++ keys_said ss (drop at texts)) (drop_all i shapes past) ∙ append-nil read) ∙ so
