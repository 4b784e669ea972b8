-- The fields of a record, one after the other.
use Rattle.std.proofs.Common.{◌≡◌, ◌<◌, ◌≤◌, ◌+◌, ℕ, List, [], ◌∷◌, ◌++◌, take, length, get_or, Some, None, sym, ◌∙◌, arith, inl, inr, ◌⊎◌}
use Rattle.std.proofs.lemmas.List.{take_all, take_more}
use Rattle.csv.proofs.RecordFacts.{field-get, field-none, field-there}
use Rattle.csv.specs.Records.{field_at}

module _ (fields : List (List ℕ)) (i : ℕ) where
  where_is : (i < length fields) ⊎ (length fields ≤ i)
  where_is = grind arith

  -- the next one is there
  pub field-within : (x : List ℕ) → Some x ≡ field_at fields i → i < length fields
  field-within x at = elim where_is [
    | inl lt ↦ lt
    | inr past ↦ absurd (cc (at ∙ field-none fields i past))
  ]

  pub field-here : (x : List ℕ) → Some x ≡ field_at fields i → x ≡ get_or fields i []
  field-here x at = sym (field-get fields i x (sym at))

  pub take-field : (x : List ℕ) → Some x ≡ field_at fields i → take (i + 1) fields ≡ take i fields ++ x ∷ []
  take-field x at = rw (field-here x at) (take_more fields i [] (field-within x at))

  -- there is none left
  pub fields-past : None ≡ field_at fields i → length fields ≤ i
  fields-past none = elim where_is [
    | inl lt ↦ absurd (field-there fields i lt (sym none))
    | inr past ↦ past
  ]

  pub take-fields : None ≡ field_at fields i → take i fields ≡ fields
  take-fields none = take_all i fields (fields-past none)
