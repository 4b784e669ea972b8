-- Definitions of what contracts see of a key over a row.
use Rattle.std.specs.Prelude.{ℕ, List, option_map}
use Rattle.load_memory.specs.Keys.{borrowed_of}
use Rattle.load_memory.specs.Rows.{RowOf}
use Rattle.execution.specs.Program.{Program, Is, Null, Fault}
use Rattle.plan_program.specs.Texts.{no_column_message}
use Rattle.plan_program.specs.PlanPrograms.{PartOver, known_part, lacking, read_key}
use Rattle.plan_walk.specs.declared.keys.KeyOver.{KeyOver}
use Rattle.plan_walk.specs.declared.keys.KeyOver.TheVariants as key
use Rattle.plan_walk.specs.declared.keys.KeyPartOver as rust-part
use Rattle.plan_walk.specs.declared.keys.KeyPartOver.TheVariants as part

abbrev pub part_seen : rust-part.KeyPartOver → PartOver
part_seen (part.Known text) = known_part (option_map (λ t. t.now) text)
part_seen (part.Lacking column) = lacking column.now

-- the load by a key over a row; no key is null, and a column that the row lacks is a fault
abbrev pub read_over : ℕ → KeyOver → (List RowOf → Program) → Program
read_over loader (key.Known k) next = read_key loader (borrowed_of k) next
read_over loader key.Null next = Is Null
read_over loader (key.Lacking column) next = Is (Fault (no_column_message column.now))
