use Rattle.std.proofs.Common.{◌≡◌, ◌+◌, ◌-◌, ℕ, slice_index_or, vec_len}
use Rattle.rules_spreads.proofs.owner_lists.put.Given as goal

abbrev pub invariant-loop-rest : goal.invariant-loop-rest
invariant-loop-rest g l = (n : ℕ) → slice_index_or l.items.items n l.rest ≡ slice_index_or l.initial.items.items n l.rest

abbrev pub decreases-loop-rest : goal.decreases-loop-rest
decreases-loop-rest g l = l.at + 1 - vec_len l.items
