use Rattle.std.proofs.Common.{◌≡◌, ℕ}
use Rattle.std.specs.Prelude.{nat_lt, if◌then◌else◌}
use Rattle.load_memory.specs.Keys.{KeyOf}
use Rattle.load_memory.specs.Pairs.{look, unless_failed}
use Rattle.load_memory.proofs.memory.Memory.drop_failed.Given as goal

abbrev pub invariant-loop-loader : goal.invariant-loop-loader
invariant-loop-loader l = record {
  modes : l.self.modes ≡ l.fn.self.modes;
  pairs : (loader : ℕ) (key : KeyOf) → look l.self.pairs loader key ≡ (if nat_lt loader l.loader then unless_failed (look l.fn.self.pairs loader key) else look l.fn.self.pairs loader key);
}
