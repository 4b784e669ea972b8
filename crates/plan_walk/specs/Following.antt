-- Definitions of what is put of a position that the later loaders of a `via` come to.
use Rattle.std.specs.Prelude.{◌≡◌, ℕ, Bool, List, [], ◌∷◌, ◌++◌}
use Rattle.load_memory.specs.Keys.{borrowed_of}
use Rattle.schema_syntax.specs.Tree.{Definition}
use Rattle.load_memory.specs.Rows.{RowOf}
use Rattle.load_memory.specs.Outcomes.{OutcomeOf}
use Rattle.execution.specs.Loads.{Reader}
use Rattle.execution.specs.Program.{Program}
use Rattle.gq_bindings.specs.Tree.{StepOf}
use Rattle.plan_program.specs.FieldValues.{ChildrenOf, of_column}
use Rattle.plan_program.specs.Prepared.{leaf_value_seen}
use Rattle.plan_program.specs.PlanPrograms.{Objects, with_rows, read_key, read_from, first_of, joined_object}
use Rattle.plan_walk.specs.Steps.{last_steps}
use Rattle.plan_walk.specs.Puts.{Put, Has, Reads, Waits, reads, puts}
use Rattle.plan_walk.specs.declared.following.ViaRow.{ViaRow}
use Rattle.plan_walk.specs.declared.following.ViaRow.TheVariants as stepped
use Rattle.plan_walk.specs.declared.following.FollowedVia.{FollowedVia}
use Rattle.plan_walk.specs.declared.following.ViaRows.{ViaRows}
use Rattle.plan_walk.specs.declared.following.ViaRows.TheVariants as followed

-- gives what one loader reads, where it came to, and what comes after its first row
abbrev pub stepped_puts : Bool → Reader → ℕ → (RowOf → Program) → ViaRow → List Put
stepped_puts non_null R loader next (stepped.Row row) = Reads ∷ puts non_null (next row.now) R
stepped_puts non_null R loader next (stepped.LeafValue leaf_value) =
    Reads ∷ Has non_null (leaf_value_seen leaf_value) ∷ []
stepped_puts non_null R loader next (stepped.NoKey leaf_value) =
    Has non_null (leaf_value_seen leaf_value) ∷ []
stepped_puts non_null R loader next (stepped.Missing key) =
    Reads ∷ Waits (read_key loader (borrowed_of key) (first_of next)) ∷ []

-- Gives where these steps came to, and what comes after some of them. Past a load that is missing come those that are
-- left.
abbrev pub come_to : Bool → Reader
    → (List StepOf → RowOf → Program) → List StepOf → ViaRows → List Put
come_to non_null R joined steps (followed.Row row) = puts non_null (joined [] row.now) R
come_to non_null R joined steps (followed.LeafValue leaf_value) =
    Has non_null (leaf_value_seen leaf_value) ∷ []
come_to non_null R joined steps (followed.Missing left loader key) =
    Waits (read_key loader (borrowed_of key) (first_of (joined (last_steps left steps)))) ∷ []

-- says the same, with what they read
abbrev pub followed_puts : Bool → Reader
    → (List StepOf → RowOf → Program) → List StepOf → FollowedVia → List Put
followed_puts non_null R joined steps f = reads f.loads ++ come_to non_null R joined steps f.to

-- says what one loader comes to from a row, whatever follows it
abbrev pub StepsTo : Reader → StepOf → RowOf → ViaRow → Type 0
StepsTo R step row there = (non_null : Bool) (next : RowOf → Program)
    → puts non_null (read_from step.loader (of_column step.column) row (first_of next)) R
    ≡ stepped_puts non_null R step.loader next there

-- says the same of a load that has this outcome
abbrev pub ComesTo : Reader → ℕ → OutcomeOf → ViaRow → Type 0
ComesTo R loader outcome there = (non_null : Bool) (next : RowOf → Program)
    → Reads ∷ puts non_null (with_rows (first_of next) outcome) R
    ≡ stepped_puts non_null R loader next there

-- says what the last `left` of these steps come to from a row, whatever the object is
abbrev pub FollowsTo : Reader → List StepOf → ℕ → RowOf → FollowedVia → Type 0
FollowsTo R steps left row there =
    (non_null : Bool) (defs : List Definition) (objects : Objects) (below : ChildrenOf)
    → puts non_null (joined_object defs objects below (last_steps left steps) row) R
    ≡ followed_puts non_null R (joined_object defs objects below) steps there
