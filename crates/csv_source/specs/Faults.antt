-- Definitions of which faults a call may answer.
use Rattle.std.specs.Prelude.{◌≡◌, ℕ, List, Contains}
use Rattle.csv_source.specs.declared.fault.TableFault.{TableFault}
use Rattle.csv_source.specs.declared.fault.TableFault.TheVariants as fault

-- the one fault of a refused growth
abbrev pub IsWant : TableFault → Type 0
IsWant e = e ≡ fault.NoMemory

-- no column of that name, or want of memory with one
abbrev pub ColumnFault : List (List ℕ) → List ℕ → TableFault → Type 0
ColumnFault names column fault.NoSuchColumn = ¬ (Contains names column)
ColumnFault names column fault.NoMemory = Contains names column
ColumnFault names column fault.NoHeader = ⊥
ColumnFault names column fault.DuplicateColumn = ⊥
ColumnFault names column fault.NotText = ⊥
ColumnFault names column fault.BadRecord = ⊥
ColumnFault names column fault.TooManyRows = ⊥
ColumnFault names column fault.ReadFault = ⊥

-- one of two columns isn't there, or out of memory with both
abbrev pub PairFault : List (List ℕ) → List ℕ → List ℕ → TableFault → Type 0
PairFault names column second fault.NoSuchColumn = ¬ (Contains names column × Contains names second)
PairFault names column second fault.NoMemory = Contains names column × Contains names second
PairFault names column second fault.NoHeader = ⊥
PairFault names column second fault.DuplicateColumn = ⊥
PairFault names column second fault.NotText = ⊥
PairFault names column second fault.BadRecord = ⊥
PairFault names column second fault.TooManyRows = ⊥
PairFault names column second fault.ReadFault = ⊥
