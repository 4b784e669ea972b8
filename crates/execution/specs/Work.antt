-- *Work* of an execution: how many positions its tree has. Each is completed, or waits for a load that isn't answered, and
-- has nothing below it then. What stands under a null counts too: it was completed before the null reached up.
use Rattle.std.specs.Prelude.{◌≡◌, ◌<◌, ◌+◌, ℕ, suc, Option, Some, None}
use Rattle.execution.specs.Loads.{Reader}
use Rattle.execution.specs.Program.{Program, Tree, Open, At, Over, Trees, NoMore, And, tree}

abbrev mutual
  pub count_positions : Tree → ℕ
  count_positions Open = 1
  count_positions (At own) = 1
  count_positions (Over kind below) = suc (count_all_positions below)

  pub count_all_positions : Trees → ℕ
  count_all_positions NoMore = 0
  count_all_positions (And position t rest) = count_positions t + count_all_positions rest

-- work(plan, M): the leaves, nulls, faults, objects and lists of the execution tree, and the positions that wait
abbrev pub work : Program → Reader → ℕ
work p R = count_positions (tree p R)

-- so much work leaves this of a limit; where it is more, nothing
abbrev pub IsLeft : ℕ → ℕ → Option ℕ → Type 0
IsLeft most work None = most < work
IsLeft most work (Some left) = left + work ≡ most
