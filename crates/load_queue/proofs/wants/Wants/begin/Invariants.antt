use Rattle.std.proofs.Common.{◌≡◌, ◌<◌, ◌≤◌, ℕ, length, get_or}
use Rattle.load_memory.specs.declared.key.KeyMode.TheVariants.{Exact}
use Rattle.load_queue.specs.Wanted.{WantedOf, nothing_wanted}
use Rattle.load_queue.proofs.wants.Wants.begin.Given as goal

abbrev pub invariant-loop-loader : goal.invariant-loop-loader
invariant-loop-loader l = record {
  all : length l.self-inside.lists.items ≡ l.loader-end;
  within : length l.self-inside.lists.items ≤ length l.memory.modes;
  begun : (k : ℕ) (other : WantedOf) → k < l.loader → get_or l.self-inside.lists.items k other ≡ nothing_wanted (get_or l.memory.modes k Exact);
}
