use Rattle.std.proofs.Common.{◌≡◌, map, take, drop}
use Rattle.load_memory.specs.Rows.{paired}
use Rattle.flat_rows.proofs.reply.rows_at.Given as goal

abbrev pub invariant-loop-i : goal.invariant-loop-i
invariant-loop-i l = l.rows.items ≡ map (paired l.sheet.value.names) (take l.i (drop l.at l.sheet.value.rows))
