-- A table of pairs of numbered fields: row b has each a below b that fails with it.
use Rattle.std.specs.Prelude.{◌≡◌, ◌≢◌, ◌⊎◌, ℕ, ◌<◌, Bool, true, false, ◌||◌, ◌&&◌, not, List, [], length, slice_index_or}
use Rattle.merging_pairs.specs.declared.recursion.MergeRecursion.{MergeRecursion}
use Rattle.merging_pairs.specs.declared.recursion.MergeRecursion.TheVariants.{Shape, Merge}
use Rattle.merging_pairs.specs.Sets.{has, Common}
use Rattle.merging_pairs.specs.Merging.{Fields, SameShape, Merges}

abbrev pub row : List (List ℕ) → ℕ → List ℕ
row rows b = slice_index_or rows b []

abbrev pub entry : List (List ℕ) → ℕ → ℕ → Bool
entry rows b a = has (row rows b) a

-- two fields fail
abbrev pub fail : List (List ℕ) → ℕ → ℕ → Bool
fail rows c d = entry rows c d || entry rows d c

-- row b has none but those before b
abbrev pub IsBelow : List (List ℕ) → Type 0
IsBelow rows = (b a : ℕ) → entry rows b a ≡ true → a < b

-- a test tells whether the pair fails
pub record Tells {F : Type 0} (P : F → F → Type 0) (D : Fields F) (a b : F)
    (fails : Bool) : Type 0 where
  pub apart : fails ≡ true → a ≢ b
  pub one_key : fails ≡ true → D.one_key a b ≡ true
  pub breaks : fails ≡ true → P a b → ⊥
  pub keeps : fails ≡ false → a ≢ b → D.one_key a b ≡ true → P a b

-- the table tells of each pair of the first fields whether it fails
abbrev pub TellsAll : (ℕ → ℕ → Type 0) → Fields ℕ → ℕ → List (List ℕ) → Type 0
TellsAll P D n rows = (c d : ℕ) → c < n → d < n → Tells P D c d (fail rows c d)

-- says what a rule says of a pair
abbrev pub Holds : MergeRecursion → Fields ℕ → ℕ → ℕ → Type 0
Holds Shape D = SameShape D
Holds Merge D = Merges D

-- says what the table of a rule rests on
abbrev pub IsReady : MergeRecursion → Fields ℕ → ℕ → List (List ℕ) → Type 0
IsReady Shape D n shapes = Unit {0}
IsReady Merge D n shapes = (length shapes ≡ n) × TellsAll (SameShape D) D n shapes

-- the recursion that asks the table of shapes has a row of it for each field
abbrev pub HasShapes : MergeRecursion → ℕ → List (List ℕ) → Type 0
HasShapes rule n shapes = rule ≡ Merge → length shapes ≡ n

-- a pair of one key fails by itself
abbrev pub fails_itself : MergeRecursion → Fields ℕ → List (List ℕ) → ℕ → ℕ → Bool
fails_itself Shape D shapes a b = not (D.alike a b)
fails_itself Merge D shapes a b = fail shapes a b || (D.meet a b && not (D.agree a b))

-- a pair of one key asks its members
abbrev pub asks_members : MergeRecursion → Fields ℕ → ℕ → ℕ → Bool
asks_members Shape D a b = true
asks_members Merge D a b = D.meet a b

-- one field of the first set fails with one of the second
pub record Found (rows : List (List ℕ)) (ms ns : ℕ → Bool) : Type 0 where
  pub one : ℕ
  pub other : ℕ
  pub first : ms one ≡ true
  pub second : ns other ≡ true
  pub fails : fail rows one other ≡ true

-- a test tells whether there is such a pair
pub record Tests (rows : List (List ℕ)) (ms ns : ℕ → Bool) (met : Bool) : Type 0 where
  pub found : met ≡ true → Found rows ms ns
  pub none : met ≡ false → Found rows ms ns → ⊥

-- the field fails with one of a set
pub record FailsWith (rows : List (List ℕ)) (c : ℕ) (ms : ℕ → Bool) : Type 0 where
  pub other : ℕ
  pub member : ms other ≡ true
  pub fails : fail rows c other ≡ true

-- the marks are the fields that fail with one of a set
pub record AreMarks (rows : List (List ℕ)) (ms : ℕ → Bool) (marks : List ℕ) : Type 0 where
  pub only : (c : ℕ) → has marks c ≡ true → FailsWith rows c ms
  pub all : (c d : ℕ) → ms d ≡ true → fail rows c d ≡ true → has marks c ≡ true

-- a test tells whether two fields have a failing pair among the members of their joined selection sets,
-- by the fields that fail with a member of the second, and by those that have such a pair alone
pub record TestsJoined (marks inner members : List ℕ) (a b : ℕ) (fails : Bool) : Type 0 where
  pub found : fails ≡ true → (has inner a ≡ true) ⊎ ((has inner b ≡ true) ⊎ Common marks members)
  pub none : fails ≡ false
      → (has inner a ≡ false) × (has inner b ≡ false) × (Common marks members → ⊥)

-- tells whether a pair fails, where `joined` tells whether its members do
abbrev pub fails_with : MergeRecursion → Fields ℕ → List (List ℕ) → Bool → ℕ → ℕ → Bool
fails_with rule D shapes joined a b =
    fails_itself rule D shapes a b || (asks_members rule D a b && joined)

-- says what a test of a later field b says of an earlier one
pub record TestsPair (rule : MergeRecursion) (D : Fields ℕ) (shapes : List (List ℕ))
    (marks inner members : List ℕ) (a b : ℕ) (fails : Bool) : Type 0 where
  pub other_key : D.one_key a b ≡ false → fails ≡ false
  pub one_key : D.one_key a b ≡ true → (joined : Bool)
      × TestsJoined marks inner members a b joined × (fails ≡ fails_with rule D shapes joined a b)

-- of the first fields, those that have a failing pair among their own members
pub record KnowsInner (D : Fields ℕ) (rows : List (List ℕ)) (inner : List ℕ) (n : ℕ) : Type 0 where
  pub below : (a : ℕ) → has inner a ≡ true → a < n
  pub only : (a : ℕ) → has inner a ≡ true → Found rows (D.enters a) (D.enters a)
  pub all : (a : ℕ) → a < n → Found rows (D.enters a) (D.enters a) → has inner a ≡ true
