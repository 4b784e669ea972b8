-- One later loader after another.
use Rattle.std.proofs.Common.{◌≡◌, ◌∙◌, ◌<◌, ◌-◌, ◌+◌, ℕ, zero, suc, Bool, List, ◌∷◌, ◌++◌, map, length, drop, get_or, refl, sym, ap, arith}
use Rattle.std.proofs.Math.Seq.{drop-cons}
use Rattle.std.proofs.lemmas.List.{length-map, get_or-map}
use Rattle.schema_syntax.specs.Tree.{Definition}
use Rattle.gq_bindings.specs.declared.binding.ViaLoader.{ViaLoader}
use Rattle.gq_bindings.specs.Tree.{StepOf}
use Rattle.gq_bindings.specs.Seen.{step_of}
use Rattle.load_memory.specs.Rows.{RowOf}
use Rattle.execution.specs.Loads.{Reader}
use Rattle.execution.specs.Program.{Program}
use Rattle.plan_program.specs.FieldValues.{ChildrenOf, of_column}
use Rattle.plan_program.specs.PlanPrograms.{Objects, read_from, first_of, joined_object}
use Rattle.plan_walk.specs.Following.{stepped_puts}
use Rattle.plan_walk.specs.Puts.{Put, Reads, reads, puts}
use Rattle.plan_walk.specs.Steps.{last_steps}
use Rattle.plan_walk.specs.declared.following.ViaRow.{ViaRow}

-- from a row these steps read so many loads, and come to what others come to from another row
abbrev pub Reaches : Reader → List StepOf → RowOf → ℕ → List StepOf → RowOf → Type 0
Reaches R steps from loads others row =
    (non_null : Bool) (defs : List Definition) (objects : Objects) (below : ChildrenOf) → puts non_null (joined_object defs objects below steps from) R ≡ reads loads ++ puts non_null (joined_object defs objects below others row) R

-- one load more
pub reads-more : (n : ℕ) (ps : List Put) → reads n ++ Reads ∷ ps ≡ reads (suc n) ++ ps
reads-more zero ps = refl
reads-more (suc n) ps = ap (λ qs. Reads ∷ qs) (reads-more n ps)

-- the step of a number, and those after it
step-there : (steps : List ViaLoader) (i : ℕ) (s : ViaLoader) → i < length steps → s ≡ get_or steps i s → drop i (map step_of steps) ≡ step_of s ∷ drop (i + 1) (map step_of steps)
step-there steps i s lt is =
    let within : i < length (map step_of steps) = omega (arith, length-map steps step_of) in
    let next : suc i ≡ i + 1 = omega arith in
    drop-cons (map step_of steps) i (step_of s) within
    ∙ ap (λ (x : StepOf). x ∷ drop (suc i) (map step_of steps)) (get_or-map step_of steps i s (step_of s) lt ∙ ap step_of (sym is))
    ∙ ap (λ n. step_of s ∷ drop n (map step_of steps)) next

-- a step to the row that one loader more came to
pub reach-step : (R : Reader) (start : List StepOf) (from : RowOf) (loads : ℕ) (steps : List ViaLoader) (i : ℕ) (s : ViaLoader) (row : RowOf) (there : ViaRow) → Reaches R start from loads (drop i (map step_of steps)) row → i < length steps → s ≡ get_or steps i s
    → ((non_null : Bool) (next : RowOf → Program) → puts non_null (read_from s.loader (of_column (step_of s).column) row (first_of next)) R ≡ stepped_puts non_null R s.loader next there)
    → (non_null : Bool) (defs : List Definition) (objects : Objects) (below : ChildrenOf)
    → puts non_null (joined_object defs objects below start from) R ≡ reads loads ++ stepped_puts non_null R s.loader (joined_object defs objects below (drop (i + 1) (map step_of steps))) there
reach-step R start from loads steps i s row there reached lt is step = λ non_null defs objects below.
    reached non_null defs objects below
    ∙ ap (λ (ss : List StepOf). reads loads ++ puts non_null (joined_object defs objects below ss row) R) (step-there steps i s lt is)
    ∙ ap (λ ps. reads loads ++ ps) (step non_null (joined_object defs objects below (drop (i + 1) (map step_of steps))))

-- those that are left after the step of a number
pub left-after : (steps : List ViaLoader) (i n : ℕ) → i < length steps → n ≡ length steps - i - 1 → drop (i + 1) (map step_of steps) ≡ last_steps n (map step_of steps)
left-after steps i n lt e = let same : i + 1 ≡ length (map step_of steps) - n = omega (arith, length-map steps step_of, e, lt) in ap (λ k. drop k (map step_of steps)) same
