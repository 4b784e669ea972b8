use Rattle.std.proofs.Common.{◌≡◌, take}
use Rattle.load_rounds.proofs.restart.fresh_memory.Given as goal

abbrev pub invariant-loop-mode : goal.invariant-loop-mode
invariant-loop-mode l = l.modes.items ≡ take l.mode-index l.mode-items
