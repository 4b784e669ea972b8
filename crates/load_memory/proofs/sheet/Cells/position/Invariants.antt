use Rattle.std.proofs.Common.{◌≡◌, ◌<◌, ℕ, get_or, [], false}
use Rattle.std.specs.Prelude.{bytes_eq}
use Rattle.load_memory.specs.Cells.{start_at}
use Rattle.load_memory.proofs.sheet.Cells.position.Given as goal

abbrev pub invariant-loop-i : goal.invariant-loop-i
invariant-loop-i l = (l.start ≡ start_at 0 l.self-inside.ends l.i) × ((k : ℕ) → k < l.i → bytes_eq (get_or l.self k []) l.text ≡ false)
