use Rattle.std.proofs.Common.{◌≡◌, ◌≢◌, ◌<◌, ◌≤◌, ◌+◌, [], map, length, get_or, refl, ap, subst, ◌∙◌, sym, inr, arith}
use Rattle.load_memory.specs.Pairs.{MemoryOf, look}
use Rattle.load_queue.specs.Wanted.{nothing_wanted}
use Rattle.execution.specs.Front.{front, modes_wanted}
use Rattle.load_rounds.specs.Sessions.{state_of, session_modes, memory_of}
use Rattle.load_rounds.specs.Executions.{plans_in}
use Rattle.load_rounds.specs.Runs.{RunOf}
use Rattle.load_rounds.proofs.Following.{nothing-modes, rules-size}
use Rattle.load_rounds.proofs.Growing.{memory-is}
use Rattle.load_rounds.proofs.Limiting.{all-there, plans-size, complete-next, complete-all, lacks-one}
use Rattle.load_rounds.proofs.rounds.Rounds.are_rounds_over.Goals as goal

pub loop-at-init : goal.loop-at-init
loop-at-init g c = record {
  complete = refl;
  wants = c.in_ok-wants.ensures ∙ ap (map nothing_wanted) c.memory-memory.ensures.modes;
  ends = rw (← c.self.view_is) c.len-at-end.ensures;
}

pub execute-requires-clause-can : goal.execute-requires-clause-can
execute-requires-clause-can g c =
    let X = g.P.Execute in
    let session = c.args.session.now in
    let run = c.args.self.now in
    let at = c.loop-at.at in
    let was = c.loop-at.invariant in
    let m : MemoryOf = c.memory-memory.result.now in
    let modes : m.modes ≡ session_modes (state_of session) = c.memory-memory.ensures.modes in
    let d = c.plan-plan.result.now in
    let lt : at < length (plans_in run.parts) = omega (arith, c.loop-at-test.true, was.ends, plans-size run.parts) in
    let there = subst (λ (r : RunOf _ _). d ≡ get_or (plans_in r.parts) at d) c.self.view_is c.plan-plan.ensures in
    let own : X.loaders d ≤ length session.loaders = all-there (λ plan. X.loaders plan ≤ length session.loaders) (plans_in run.parts) at d lt there c.requires in
    let size : length m.modes ≡ length session.loaders = ap length modes ∙ rules-size (state_of session) in
    record {
      enough = omega (arith, own, size);
      lined_up = ap modes_wanted was.wants ∙ nothing-modes (session_modes (state_of session)) ∙ sym modes;
    }

pub returns-in-Pending : goal.returns-in-Pending
returns-in-Pending g c =
    let X = g.P.Execute in
    let session = c.args.session.now in
    let run = c.args.self.now in
    let at = c.loop-at.at in
    let was = c.loop-at.invariant in
    let m : MemoryOf = c.memory-memory.result.now in
    let is : m ≡ memory_of session = memory-is session m c.memory-memory.ensures.pairs c.memory-memory.ensures.modes in
    let d = c.plan-plan.result.now in
    let lt : at < length (plans_in run.parts) = omega (arith, c.loop-at-test.true, was.ends, plans-size run.parts) in
    let there = subst (λ (r : RunOf _ _). d ≡ get_or (plans_in r.parts) at d) c.self.view_is c.plan-plan.ensures in
    let executed = rw c.in-Pending.is at c.in_ok-execute.ensures.executed in
    let own = subst (λ (n : MemoryOf). front n.modes (X.program d) (look n.pairs) ≢ []) is executed.0 in
    let over : c.in-Some.most < run.rounds + 1 = omega (arith, c.if-rounds-most.false, c.rounds.ensures) in
    (rw c.in-Some.is over, lacks-one X.program X.text_of (session_modes (state_of session)) (look session.pairs) at (plans_in run.parts) d lt there own)

pub loop-at-preserved : goal.loop-at-preserved
loop-at-preserved g c =
    let X = g.P.Execute in
    let session = c.args.session.now in
    let run = c.args.self.now in
    let at = c.loop-at.at in
    let was = c.loop-at.invariant in
    let m : MemoryOf = c.memory-memory.result.now in
    let is : m ≡ memory_of session = memory-is session m c.memory-memory.ensures.pairs c.memory-memory.ensures.modes in
    let d = c.plan-plan.result.now in
    let lt : at < length (plans_in run.parts) = omega (arith, c.loop-at-test.true, was.ends, plans-size run.parts) in
    let there = subst (λ (r : RunOf _ _). d ≡ get_or (plans_in r.parts) at d) c.self.view_is c.plan-plan.ensures in
    let executed = rw c.in-Ready.is at c.in_ok-execute.ensures.executed in
    let own = subst (λ (n : MemoryOf). front n.modes (X.program d) (look n.pairs) ≡ []) is executed.0 in
    record {
      complete = complete-next X.program X.text_of (session_modes (state_of session)) (look session.pairs) at (at + 1) (plans_in run.parts) d (omega arith) lt there was.complete own;
      wants = executed.3 ∙ was.wants;
      ends = was.ends;
    }

pub returns : goal.returns
returns g c =
    let X = g.P.Execute in
    let session = c.args.session.now in
    let run = c.args.self.now in
    let was = c.loop-at.invariant in
    let all : length (plans_in run.parts) ≤ c.loop-at.at = omega (arith, c.loop-at-test.false, was.ends, plans-size run.parts) in
    inr (complete-all X.program X.text_of (session_modes (state_of session)) (look session.pairs) c.loop-at.at (plans_in run.parts) all was.complete)
