use Rattle.std.proofs.Common.{◌≡◌, ℕ, ◌≤◌, map, length}
use Rattle.load_queue.specs.Orders.{asks, AreCutBy}
use Rattle.load_queue.specs.Wanted.{keys_wanted}
use Rattle.execution.specs.Rounds.{rule_of}
use Rattle.load_rounds.specs.Rounds.{orders_by, first_keys, Enters}
use Rattle.load_rounds.proofs.round.cut_all.Given as goal

abbrev pub invariant-loop-loader : goal.invariant-loop-loader
invariant-loop-loader g l = record {
  orders : map asks l.orders.items ≡ orders_by 0 (map rule_of l.fn.loaders.items) (first_keys l.loader (keys_wanted l.fn.wants));
  cut : AreCutBy l.fn.loaders.items l.orders.items;
  entered : Enters l.round (first_keys l.loader (keys_wanted l.fn.wants)) l.fn.loaders.items l.loaders.items l.fn.rounds l.rounds;
  lined : length l.wants ≡ length l.fn.wants;
  rest : (m : ℕ) → l.loader ≤ m → keys_wanted l.wants m ≡ keys_wanted l.fn.wants m;
}
