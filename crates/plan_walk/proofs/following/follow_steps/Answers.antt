use Rattle.std.proofs.Common.{◌≡◌, ◌<◌, ◌+◌, ◌-◌, ◌∙◌, ℕ, suc, List, [], ◌∷◌, ◌++◌, map, length, drop, ap, refl, arith}
use Rattle.gq_bindings.specs.declared.binding.ViaLoader.{ViaLoader}
use Rattle.gq_bindings.specs.Tree.{StepOf}
use Rattle.gq_bindings.specs.Seen.{step_of}
use Rattle.load_memory.specs.Keys.{borrowed_of}
use Rattle.execution.specs.Loads.{Reader}
use Rattle.plan_program.specs.Prepared.{leaf_value_seen}
use Rattle.plan_program.specs.PlanPrograms.{read_key, first_of, joined_object}
use Rattle.plan_walk.specs.Following.{stepped_puts}
use Rattle.plan_walk.specs.Puts.{Has, Waits, reads, puts}
use Rattle.plan_walk.specs.Reading.{lookup}
use Rattle.plan_walk.specs.Steps.{last_steps}
use Rattle.plan_walk.specs.declared.following.ViaRow.{ViaRow}
use Rattle.plan_walk.proofs.Stepping.{reach-step, reads-more, left-after}
use Rattle.plan_walk.proofs.following.follow_steps.Goals as goal

pub returns-in-NoKey : goal.returns-in-NoKey
returns-in-NoKey c = λ non_null defs objects below.
    let R : Reader = lookup c.args.memory.now in
    let steps : List ViaLoader = c.args.steps.now in
    let i : ℕ = c.loop-number.number in
    let loads : ℕ = i - (length steps - c.args.left) in
    let s : ViaLoader = c.index-steps-number.result in
    let lt : i < length steps = omega (arith, c.loop-number-test.true) in
    reach-step R (last_steps c.args.left (map step_of steps)) c.args.from.now loads steps i s c.loop-number.row.now c.in_ok-next.field-0 c.loop-number.invariant lt c.index-steps-number.is c.in_ok-next.ensures non_null defs objects below
    ∙ ap (λ (there : ViaRow). reads loads ++ stepped_puts non_null R s.loader (joined_object defs objects below (drop (i + 1) (map step_of steps))) there) c.in-NoKey.is
    ∙ ap (λ (n : ℕ). reads n ++ Has non_null (leaf_value_seen c.in-NoKey.leaf_value) ∷ []) (omega (arith, c.saturating_sub-first.ensures))

pub returns-in-LeafValue : goal.returns-in-LeafValue
returns-in-LeafValue c = λ non_null defs objects below.
    let R : Reader = lookup c.args.memory.now in
    let steps : List ViaLoader = c.args.steps.now in
    let i : ℕ = c.loop-number.number in
    let loads : ℕ = i - (length steps - c.args.left) in
    let s : ViaLoader = c.index-steps-number.result in
    let lt : i < length steps = omega (arith, c.loop-number-test.true) in
    let count : suc loads ≡ i - c.saturating_sub-first.result + 1 = omega (arith, c.saturating_sub-first.ensures) in
    reach-step R (last_steps c.args.left (map step_of steps)) c.args.from.now loads steps i s c.loop-number.row.now c.in_ok-next.field-0 c.loop-number.invariant lt c.index-steps-number.is c.in_ok-next.ensures non_null defs objects below
    ∙ ap (λ (there : ViaRow). reads loads ++ stepped_puts non_null R s.loader (joined_object defs objects below (drop (i + 1) (map step_of steps))) there) c.in-LeafValue.is
    ∙ reads-more loads (Has non_null (leaf_value_seen c.in-LeafValue.leaf_value) ∷ [])
    ∙ ap (λ (n : ℕ). reads n ++ Has non_null (leaf_value_seen c.in-LeafValue.leaf_value) ∷ []) count

pub returns-in-Missing : goal.returns-in-Missing
returns-in-Missing c = λ non_null defs objects below.
    let R : Reader = lookup c.args.memory.now in
    let steps : List ViaLoader = c.args.steps.now in
    let i : ℕ = c.loop-number.number in
    let loads : ℕ = i - (length steps - c.args.left) in
    let s : ViaLoader = c.index-steps-number.result in
    let lt : i < length steps = omega (arith, c.loop-number-test.true) in
    let count : suc loads ≡ i - c.saturating_sub-first.result + 1 = omega (arith, c.saturating_sub-first.ensures) in
    reach-step R (last_steps c.args.left (map step_of steps)) c.args.from.now loads steps i s c.loop-number.row.now c.in_ok-next.field-0 c.loop-number.invariant lt c.index-steps-number.is c.in_ok-next.ensures non_null defs objects below
    ∙ ap (λ (there : ViaRow). reads loads ++ stepped_puts non_null R s.loader (joined_object defs objects below (drop (i + 1) (map step_of steps))) there) c.in-Missing.is
    ∙ reads-more loads (Waits (read_key s.loader (borrowed_of c.in-Missing.key) (first_of (joined_object defs objects below (drop (i + 1) (map step_of steps))))) ∷ [])
    ∙ ap (λ (ss : List StepOf). reads (suc loads) ++ Waits (read_key s.loader (borrowed_of c.in-Missing.key) (first_of (joined_object defs objects below ss))) ∷ []) (left-after steps i (length steps - i - 1) lt refl)
    ∙ ap (λ (n : ℕ). reads n ++ Waits (read_key s.loader (borrowed_of c.in-Missing.key) (first_of (joined_object defs objects below (last_steps (length steps - i - 1) (map step_of steps))))) ∷ []) count

pub loop-number-preserved : goal.loop-number-preserved
loop-number-preserved c = λ non_null defs objects below.
    let R : Reader = lookup c.args.memory.now in
    let steps : List ViaLoader = c.args.steps.now in
    let i : ℕ = c.loop-number.number in
    let loads : ℕ = i - (length steps - c.args.left) in
    let s : ViaLoader = c.index-steps-number.result in
    let lt : i < length steps = omega (arith, c.loop-number-test.true) in
    let count : suc loads ≡ i + 1 - (length steps - c.args.left) = omega (arith, c.saturating_sub-first.ensures, c.loop-number.near-number) in
    reach-step R (last_steps c.args.left (map step_of steps)) c.args.from.now loads steps i s c.loop-number.row.now c.in_ok-next.field-0 c.loop-number.invariant lt c.index-steps-number.is c.in_ok-next.ensures non_null defs objects below
    ∙ ap (λ (there : ViaRow). reads loads ++ stepped_puts non_null R s.loader (joined_object defs objects below (drop (i + 1) (map step_of steps))) there) c.in-Row.is
    ∙ reads-more loads (puts non_null (joined_object defs objects below (drop (i + 1) (map step_of steps)) c.in-Row.next.now) R)
    ∙ ap (λ (n : ℕ). reads n ++ puts non_null (joined_object defs objects below (drop (i + 1) (map step_of steps)) c.in-Row.next.now) R) count
