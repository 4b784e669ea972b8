use Rattle.std.proofs.Common.{◌≡◌, ◌<◌, ◌≤◌, ◌+◌, Some, None, length, get_or, subst, arith}
use Rattle.load_memory.specs.Pairs.{MemoryOf, look}
use Rattle.execution.specs.Loads.{Reader, read}
use Rattle.execution.specs.Work.{work, IsLeft}
use Rattle.load_rounds.specs.Sessions.{state_of, session_modes, memory_of}
use Rattle.load_rounds.specs.SharedRounds.{requests}
use Rattle.load_rounds.specs.Executions.{plans_in}
use Rattle.load_rounds.specs.Limits.{work_of_all}
use Rattle.load_rounds.specs.Runs.{RunOf}
use Rattle.load_rounds.proofs.Growing.{memory-is}
use Rattle.load_rounds.proofs.Limiting.{plans-size, left-next, left-none, left-all}
use Rattle.load_rounds.proofs.rounds.Rounds.is_work_over.Goals as goal

pub loop-at-init : goal.loop-at-init
loop-at-init g c = record { done = omega arith; ends = rw (← c.self.view_is) c.len-at-end.ensures }

pub returns-in-None : goal.returns-in-None
returns-in-None g c =
    let X = g.P.Execute in
    let session = c.args.session.now in
    let run = c.args.self.now in
    let at = c.loop-at.at in
    let was = c.loop-at.invariant in
    let m : MemoryOf = c.memory-memory.result.now in
    let is : m ≡ memory_of session = memory-is session m c.memory-memory.ensures.pairs c.memory-memory.ensures.modes in
    let R : Reader = read (session_modes (state_of session)) (look session.pairs) in
    let d = c.plan.result.now in
    let lt : at < length (plans_in run.parts) = omega (arith, c.loop-at-test.true, was.ends, plans-size run.parts) in
    let there = subst (λ (r : RunOf _ _). d ≡ get_or (plans_in r.parts) at d) c.self.view_is c.plan.ensures in
    let told = rw c.in-None.is at c.in_ok-rest.ensures in
    let step = subst (λ (n : MemoryOf). IsLeft c.loop-at.left (work (X.program d) (read n.modes (look n.pairs))) None) is told in
    rw c.in-Some.is (left-none X.program X.text_of R at c.in-Some.most c.loop-at.left (plans_in run.parts) d lt there was.done step)

pub loop-at-preserved : goal.loop-at-preserved
loop-at-preserved g c =
    let X = g.P.Execute in
    let session = c.args.session.now in
    let run = c.args.self.now in
    let at = c.loop-at.at in
    let was = c.loop-at.invariant in
    let m : MemoryOf = c.memory-memory.result.now in
    let is : m ≡ memory_of session = memory-is session m c.memory-memory.ensures.pairs c.memory-memory.ensures.modes in
    let R : Reader = read (session_modes (state_of session)) (look session.pairs) in
    let d = c.plan.result.now in
    let lt : at < length (plans_in run.parts) = omega (arith, c.loop-at-test.true, was.ends, plans-size run.parts) in
    let there = subst (λ (r : RunOf _ _). d ≡ get_or (plans_in r.parts) at d) c.self.view_is c.plan.ensures in
    let told = rw c.in-Some-2.is at c.in_ok-rest.ensures in
    let step = subst (λ (n : MemoryOf). IsLeft c.loop-at.left (work (X.program d) (read n.modes (look n.pairs))) (Some c.in-Some-2.rest)) is told in
    record { done = left-next X.program X.text_of R at (at + 1) c.in-Some.most c.loop-at.left c.in-Some-2.rest (plans_in run.parts) d (omega arith) lt there was.done step; ends = was.ends }

pub returns : goal.returns
returns g c =
    let X = g.P.Execute in
    let session = c.args.session.now in
    let run = c.args.self.now in
    let was = c.loop-at.invariant in
    let R : Reader = read (session_modes (state_of session)) (look session.pairs) in
    let all : length (plans_in run.parts) ≤ c.loop-at.at = omega (arith, c.loop-at-test.false, was.ends, plans-size run.parts) in
    let whole : c.loop-at.left + work_of_all (requests X.program X.text_of (plans_in run.parts)) R ≡ c.in-Some.most = left-all X.program X.text_of R c.loop-at.at c.in-Some.most c.loop-at.left (plans_in run.parts) all was.done in
    rw c.in-Some.is (omega (arith, whole))
