use Rattle.std.proofs.Common.{◌≡◌, ◌≤◌, length, map, take, All}
use Rattle.std.specs.Prelude.{sum}
use Rattle.load_memory.specs.Keys.{key_of}
use Rattle.host_clients.proofs.ReadKeys.{SoFar}
use Rattle.host_clients.proofs.asked_keys.FlatKeys.read.Given as goal

abbrev pub invariant-loop-count : goal.invariant-loop-count
invariant-loop-count l = record {
  read : SoFar l.self.shapes.now l.texts l.count-index l.at (map key_of l.read.items);
  within : l.at ≤ length l.texts;
  fit : All (λ n. n ≡ l.width) (take l.count-index l.self.shapes.now);
  so_many : l.at ≡ sum (take l.count-index l.self.shapes.now);
}
