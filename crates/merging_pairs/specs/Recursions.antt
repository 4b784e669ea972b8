-- Definitions of what a test says of two fields in one of the rule's recursions.
use Rattle.std.specs.Prelude.{ℕ, Bool, List}
use Rattle.merging_pairs.specs.declared.recursion.Recursion.{Recursion}
use Rattle.merging_pairs.specs.Numbered.{fields_of, members_at}
use Rattle.merging_pairs.specs.Table.{TestsPair}

-- says what a test of a later field b says of the field a
abbrev pub TestsFields : Recursion → List ℕ → List ℕ → ℕ → ℕ → Bool → Type 0
TestsFields r marks inner a b fails = TestsPair r.rule
    (fields_of r.fields.now) r.shapes.now marks inner (members_at r.fields.now a) a b fails
