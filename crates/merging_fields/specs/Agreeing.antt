-- Documents whose fields agree wherever they have one response key.
use Rattle.std.specs.Prelude.{◌≡◌, ◌<◌, ℕ, true, List, length, Option, Some, slice_get}
use Rattle.rules_parts.specs.Parts.{FieldPart, PartsOf}
use Rattle.merging_fields.specs.Compare.{response_key, have_one_key, do_agree, are_alike}

-- two fields have equal names and arguments, and alike types, if they have one response key
abbrev pub AgreeUnderOneKey : PartsOf → ℕ → ℕ → Type 0
AgreeUnderOneKey p a b = (f g : FieldPart) → slice_get p.fields a ≡ Some f
    → slice_get p.fields b ≡ Some g → have_one_key f g ≡ true
    → (do_agree f g ≡ true) × (are_alike p.definitions f g ≡ true)

abbrev pub AgreeByKey : PartsOf → Type 0
AgreeByKey p = (a b : ℕ) → AgreeUnderOneKey p a b

-- two fields do whatever their keys
abbrev pub FieldsAgree : PartsOf → ℕ → ℕ → Type 0
FieldsAgree p a b = (f g : FieldPart) → slice_get p.fields a ≡ Some f
    → slice_get p.fields b ≡ Some g → (do_agree f g ≡ true) × (are_alike p.definitions f g ≡ true)

-- `first` gives the first of these fields of a response key, with which all others agree
pub record AreSeen (p : PartsOf) (first : List ℕ → Option ℕ) (n : ℕ) : Type 0 where
  pub there : (q : List ℕ) (m : ℕ) → first q ≡ Some m → m < length p.fields
  pub agree : (a : ℕ) (f : FieldPart) → a < n → slice_get p.fields a ≡ Some f
      → (m : ℕ) × (first (response_key f) ≡ Some m) × FieldsAgree p m a
