-- What is found, for the layers above.
use Rattle.std.proofs.Common.{◌≡◌, ◌∙◌, sym, subst, ℕ, true, List, Contains, Option, IfSome, is_some, bytes_eq, inl, inr}
use Rattle.std.proofs.lemmas.Map.Made.{is_some-lookup, is_member-Decides}
use Rattle.std.proofs.lemmas.Slice.Eq.{bytes_eq-Decides}
use Rattle.text_cache.specs.TextCaches.{TextCacheOf, find, texts_of, FindsNoOther}

module _ {V : Type 0} where
  -- a text that is found is kept
  pub found-text : (cache : TextCacheOf V) (text : List ℕ) → is_some (find cache text) ≡ true → Contains (texts_of cache) text
  found-text cache text h = (is_member-Decides bytes_eq-Decides (texts_of cache) text).0 (sym (is_some-lookup (bytes_eq text) cache.entries) ∙ h)

  -- a text that is kept is found
  pub text-found : (cache : TextCacheOf V) (text : List ℕ) → Contains (texts_of cache) text → is_some (find cache text) ≡ true
  text-found cache text h = is_some-lookup (bytes_eq text) cache.entries ∙ (is_member-Decides bytes_eq-Decides (texts_of cache) text).1 h

  -- what holds of each value under its text, and of one value more, holds of each once that one is inserted
  pub each-inserted : (P : List ℕ → V → Type 0) (old new : TextCacheOf V) (text : List ℕ) (value : V) → FindsNoOther old new text value → P text value → ((any : List ℕ) → IfSome (find old any) (P any))
      → (any : List ℕ) → IfSome (find new any) (P any)
  each-inserted P old new text value only is each any =
      let Q : Option V → Type 0 = λ found. IfSome found (P any) in
      elim (only any) [
        | inl same ↦ subst Q (sym same) (each any)
        | inr more ↦ elim more [
          | inl none ↦ subst Q (sym none) tt
          | inr one ↦ subst Q (sym one.1) (subst (λ (t : List ℕ). P t value) (sym one.0) is)
        ]
      ]
