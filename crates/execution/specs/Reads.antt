-- Definitions of how many loads an execution reads.
use Rattle.std.specs.Prelude.{◌+◌, ◌-◌, ◌^◌, min, ℕ, List, [], ◌∷◌, length}
use Rattle.execution.specs.Loads.{Reader}
use Rattle.execution.specs.Program.{Program, needs}

-- gives how many loads a program reads, each as often as it is read: the number of calls that
-- execution makes that asks for one key at a time and remembers nothing
abbrev pub count_read : Program → Reader → ℕ
count_read p R = length (needs p R)

-- gives the same of several programs, one after another
abbrev pub all_read : List Program → Reader → ℕ
all_read [] R = 0
all_read (p ∷ ps) R = count_read p R + all_read ps R

-- a count, which stays at 2 ^ 64 - 1
abbrev pub counted : ℕ → ℕ
counted n = min n (2 ^ 64 - 1)
