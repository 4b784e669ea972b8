use Rattle.std.proofs.Common.{◌≡◌, drop}
use Rattle.std.specs.List.{list_all}
use Rattle.rounds_by_hand.specs.Pending.{is_in}
use Rattle.rounds_by_hand.proofs.pending.are_in.Given as goal

abbrev pub invariant-loop-one : goal.invariant-loop-one
invariant-loop-one l = list_all is_in (drop l.one-index l.pending) ≡ list_all is_in l.pending
