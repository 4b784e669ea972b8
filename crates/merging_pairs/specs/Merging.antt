-- *Field selection merging* (section 5.3.2): the standard's two recursions.
use Rattle.std.specs.Prelude.{◌≡◌, ◌≢◌, Bool, true, ◌||◌, List, ◌∷◌}

-- Questions of the rule about the fields of a document, where F stands for a field.
pub record Fields (F : Type 0) : Type 0 where
  -- the response keys are equal
  pub one_key : F → F → Bool
  -- the return types have the same lists and `!`, and are the same where either is a leaf
  pub alike : F → F → Bool
  -- both parent types are equal, or either isn't an object type
  pub meet : F → F → Bool
  -- field names and arguments are equal
  pub agree : F → F → Bool
  -- the second is a member of the selection set of the first
  pub enters : F → F → Bool

-- two different members of a set with one response key; a set is a test that says what is in it
pub record IsPair {F : Type 0} (D : Fields F) (ms : F → Bool) (a b : F) : Type 0 where
  pub first : ms a ≡ true
  pub second : ms b ≡ true
  pub apart : a ≢ b
  pub one_key : D.one_key a b ≡ true

-- the joined selection sets of two fields
abbrev pub joined : {F : Type 0} → Fields F → F → F → F → Bool
joined D a b c = D.enters a c || D.enters b c

-- SameResponseShape
pub data SameShape {F : Type 0} (D : Fields F) : F → F → Type 0 where
  same : {a b : F} → D.alike a b ≡ true
      → ((c d : F) → IsPair D (joined D a b) c d → SameShape D c d) → SameShape D a b

-- FieldsInSetCanMerge
pub data CanMerge {F : Type 0} (D : Fields F) : (F → Bool) → Type 0 where
  merges : {ms : F → Bool}
      → ((a b : F) → IsPair D ms a b → SameShape D a b)
      → ((a b : F) → IsPair D ms a b → D.meet a b ≡ true → D.agree a b ≡ true)
      → ((a b : F) → IsPair D ms a b → D.meet a b ≡ true → CanMerge D (joined D a b))
      → CanMerge D ms

-- says what a pair owes in a set that can be merged
pub record Merges {F : Type 0} (D : Fields F) (a b : F) : Type 0 where
  pub shape : SameShape D a b
  pub agree : D.meet a b ≡ true → D.agree a b ≡ true
  pub deeper : D.meet a b ≡ true → CanMerge D (joined D a b)

-- a pair of members of this field's response key fails
pub record Breaks {F : Type 0} (D : Fields F) (ms : F → Bool) (f : F) : Type 0 where
  pub one : F
  pub other : F
  pub pair : IsPair D ms one other
  pub key : D.one_key one f ≡ true
  pub breaks : Merges D one other → ⊥

-- each pair of members of this field's response key merges
abbrev pub KeyMerges : {F : Type 0} → Fields F → (F → Bool) → F → Type 0
KeyMerges {F} D ms f = (a b : F) → IsPair D ms a b → D.one_key a f ≡ true → Merges D a b

-- the first field in a list whose response key has a failing pair
pub data IsFirst {F : Type 0} (D : Fields F) (ms : F → Bool) (f : F) : List F → Type 0 where
  breaks : {fs : List F} → Breaks D ms f → IsFirst D ms f (f ∷ fs)
  later : {g : F} {fs : List F} → KeyMerges D ms g → IsFirst D ms f fs → IsFirst D ms f (g ∷ fs)
