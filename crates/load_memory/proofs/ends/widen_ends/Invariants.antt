use Rattle.std.proofs.Common.{◌≡◌, take}
use Rattle.load_memory.proofs.ends.widen_ends.Given as goal

abbrev pub invariant-loop-known : goal.invariant-loop-known
invariant-loop-known l = l.wide.items ≡ take l.known-index l.fn.narrow
