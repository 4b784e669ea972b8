use Rattle.std.proofs.Common.{◌≡◌, ◌<◌, ◌≤◌, ◌+◌, ℕ, length, refl, ap, subst, ◌∙◌, sym, arith, inl, inr}
use Rattle.std.specs.Prelude.{slice_set}
use Rattle.load_memory.specs.Pairs.{MemoryOf, look}
use Rattle.load_memory.proofs.LoaderMemoryLaws.{SomeIff-at}
use Rattle.execution.specs.Loads.{read}
use Rattle.execution.specs.Front.{front, wanting}
use Rattle.execution.specs.Executes.{CanExecute}
use Rattle.load_rounds.specs.declared.rounds.Stage.TheVariants.{Out, Finished, Failed}
use Rattle.load_rounds.specs.Sessions.{SessionOf, state_of, memory_of}
use Rattle.load_rounds.specs.SharedRounds.{requests, AreTexts}
use Rattle.load_rounds.specs.Executions.{FitsPart, GoesOn, plans_in, reports_in}
use Rattle.load_rounds.specs.ByHand.{front_in, IsRound, IsUnasked}
use Rattle.load_rounds.specs.Runs.{RunOf, program_of}
use Rattle.load_rounds.proofs.Advancing.{far-none, far-size, far-plans, next-can, next-fit, next-plans, far-more, far-gone, far-complete, far-lacks, far-length, far-wanted}
use Rattle.load_rounds.proofs.GoingOn.{gone-fit, gone-within}
use Rattle.load_rounds.proofs.Growing.{memory-is, same-grows, lost-grows}
use Rattle.load_rounds.proofs.Sharing.{all-report}
use Rattle.load_rounds.proofs.Stages.{all-texts, fails, round-is, finishes, goes-out, fails-holds, finished-holds, out-holds, lost-size, unasked-size}
use Rattle.load_rounds.proofs.States.{on-err}
use Rattle.load_rounds.proofs.rounds.Rounds.advance.Goals as goal

pub returns-in_err-wants-clause-run : goal.returns-in_err-wants-clause-run
returns-in_err-wants-clause-run g c =
    let X = g.P.Execute in
    let run = c.args.self.now in
    let later : RunOf _ _ = record { parts = c.self.inside.executions; rounds = c.self.inside.rounds; stage = Failed } in
    let plans = ap (λ (r : RunOf _ _). plans_in r.parts) c.self.view_is in
    fails X.program X.text_of X.loaders X.fits g.S.LocalSource.may_tell (state_of c.args.session.now) (state_of c.begin_wants.new.self) run later c.requires.ready refl plans (inl (ap state_of c.begin_wants.ensures.same))

pub loop-at-init : goal.loop-at-init
loop-at-init g c =
    let X = g.P.Execute in
    let inside : RunOf _ _ = record { parts = c.self.inside.executions; rounds = c.self.inside.rounds; stage = c.self.inside.stage } in
    record {
      far = rw (← c.self.view_is) (far-none X.program X.text_of X.loaders X.fits c.args.session.now inside c.in_ok-wants.wants c.in_ok-wants.ensures.none);
      ends = rw (← c.self.view_is) c.len-at-end.ensures;
      rounds = rw (← c.self.view_is) refl;
      stage = refl;
      bounded = c.self.invariant;
    }

pub execution_mut-execution-requires : goal.execution_mut-execution-requires
execution_mut-execution-requires g c =
    let X = g.P.Execute in
    let at = c.loop-at.at in
    let parts = c.loop-at.self-inside.executions in
    let was = c.loop-at.invariant in
    omega (arith, c.loop-at-test.true, was.ends, far-size X.program X.text_of X.loaders X.fits c.args.session.now c.args.self.now at c.loop-at.wants c.loop-at.is_missing parts was.far)

pub go_on-requires-clause-can : goal.go_on-requires-clause-can
go_on-requires-clause-can g c =
    let X = g.P.Execute in
    let session = c.args.session.now in
    let run = c.args.self.now in
    let m : MemoryOf = c.memory-memory.result.now in
    let is : m ≡ memory_of session = memory-is session m (rw c.begin_wants.ensures.same at c.memory-memory.ensures.pairs) (rw c.begin_wants.ensures.same at c.memory-memory.ensures.modes) in
    let at = c.loop-at.at in
    let parts = c.loop-at.self-inside.executions in
    let was = c.loop-at.invariant in
    let lt : at < length parts = omega (arith, c.loop-at-test.true, was.ends, far-size X.program X.text_of X.loaders X.fits session run at c.loop-at.wants c.loop-at.is_missing parts was.far) in
    let d = c.execution_mut-execution.result.now in
    let value = c.execution_mut-execution.ensures.value in
    subst (λ (n : MemoryOf). CanExecute (X.loaders d.plan) n c.loop-at.wants) (sym is) (next-can X.program X.text_of X.loaders X.fits session run at c.loop-at.wants c.loop-at.is_missing parts was.far d lt value c.requires.holds.enough)

pub go_on-requires-clause-fits : goal.go_on-requires-clause-fits
go_on-requires-clause-fits g c =
    let X = g.P.Execute in
    let session = c.args.session.now in
    let run = c.args.self.now in
    let m : MemoryOf = c.memory-memory.result.now in
    let is : m ≡ memory_of session = memory-is session m (rw c.begin_wants.ensures.same at c.memory-memory.ensures.pairs) (rw c.begin_wants.ensures.same at c.memory-memory.ensures.modes) in
    let at = c.loop-at.at in
    let parts = c.loop-at.self-inside.executions in
    let was = c.loop-at.invariant in
    let lt : at < length parts = omega (arith, c.loop-at-test.true, was.ends, far-size X.program X.text_of X.loaders X.fits session run at c.loop-at.wants c.loop-at.is_missing parts was.far) in
    let d = c.execution_mut-execution.result.now in
    let value = c.execution_mut-execution.ensures.value in
    let fit = rw c.requires.ready at c.requires.holds.fitting in
    subst (λ (n : MemoryOf). FitsPart X.program X.text_of X.loaders X.fits d.plan d.progress d.report n) (sym is) (next-fit X.program X.text_of X.loaders X.fits session run at c.loop-at.wants c.loop-at.is_missing parts was.far d lt value fit)

pub returns-in_err-is_next_missing-clause-failed : goal.returns-in_err-is_next_missing-clause-failed
returns-in_err-is_next_missing-clause-failed g c =
    let was = c.loop-at.invariant in
    on-err c.from_residual-in_err-is_next_missing.result (record { failed = was.stage; rounds = was.rounds; lost = (inl (ap state_of c.begin_wants.ensures.same)) })

pub returns-in_err-is_next_missing-clause-holds : goal.returns-in_err-is_next_missing-clause-holds
returns-in_err-is_next_missing-clause-holds g c =
    let X = g.P.Execute in
    let session = c.args.session.now in
    let run = c.args.self.now in
    let at = c.loop-at.at in
    let parts = c.loop-at.self-inside.executions in
    let was = c.loop-at.invariant in
    let lt : at < length parts = omega (arith, c.loop-at-test.true, was.ends, far-size X.program X.text_of X.loaders X.fits session run at c.loop-at.wants c.loop-at.is_missing parts was.far) in
    let d = c.execution_mut-execution.result.now in
    let value = c.execution_mut-execution.ensures.value in
    let plans = next-plans X.program X.text_of X.loaders X.fits session run at c.loop-at.wants c.loop-at.is_missing parts was.far d lt value c.go_on.new.self c.go_on.ensures.kept in
    let later : RunOf _ _ = record { parts = slice_set parts at c.go_on.new.self; rounds = c.loop-at.self-inside.rounds; stage = c.loop-at.self-inside.stage } in
    fails-holds X.program X.text_of X.loaders X.fits session c.begin_wants.new.self run later was.stage plans (ap (λ (s : SessionOf _). length s.loaders) c.begin_wants.ensures.same) c.requires.holds.enough

pub returns-in_err-is_next_missing-clause-run : goal.returns-in_err-is_next_missing-clause-run
returns-in_err-is_next_missing-clause-run g c =
    let X = g.P.Execute in
    let session = c.args.session.now in
    let run = c.args.self.now in
    let at = c.loop-at.at in
    let parts = c.loop-at.self-inside.executions in
    let was = c.loop-at.invariant in
    let lt : at < length parts = omega (arith, c.loop-at-test.true, was.ends, far-size X.program X.text_of X.loaders X.fits session run at c.loop-at.wants c.loop-at.is_missing parts was.far) in
    let d = c.execution_mut-execution.result.now in
    let value = c.execution_mut-execution.ensures.value in
    let plans = next-plans X.program X.text_of X.loaders X.fits session run at c.loop-at.wants c.loop-at.is_missing parts was.far d lt value c.go_on.new.self c.go_on.ensures.kept in
    let later : RunOf _ _ = record { parts = slice_set parts at c.go_on.new.self; rounds = c.loop-at.self-inside.rounds; stage = c.loop-at.self-inside.stage } in
    fails X.program X.text_of X.loaders X.fits g.S.LocalSource.may_tell (state_of session) (state_of c.begin_wants.new.self) run later c.requires.ready was.stage plans (inl (ap state_of c.begin_wants.ensures.same))

pub returns-in_err-is_next_missing-clause-kept : goal.returns-in_err-is_next_missing-clause-kept
returns-in_err-is_next_missing-clause-kept g c =
    let X = g.P.Execute in
    let session = c.args.session.now in
    let run = c.args.self.now in
    let at = c.loop-at.at in
    let parts = c.loop-at.self-inside.executions in
    let was = c.loop-at.invariant in
    let lt : at < length parts = omega (arith, c.loop-at-test.true, was.ends, far-size X.program X.text_of X.loaders X.fits session run at c.loop-at.wants c.loop-at.is_missing parts was.far) in
    let d = c.execution_mut-execution.result.now in
    let value = c.execution_mut-execution.ensures.value in
    let plans = next-plans X.program X.text_of X.loaders X.fits session run at c.loop-at.wants c.loop-at.is_missing parts was.far d lt value c.go_on.new.self c.go_on.ensures.kept in
    record { plans = plans; loaders = (ap (λ (s : SessionOf _). length s.loaders) c.begin_wants.ensures.same); bounded = was.bounded }

pub loop-at-preserved : goal.loop-at-preserved
loop-at-preserved g c =
    let X = g.P.Execute in
    let session = c.args.session.now in
    let run = c.args.self.now in
    let m : MemoryOf = c.memory-memory.result.now in
    let is : m ≡ memory_of session = memory-is session m (rw c.begin_wants.ensures.same at c.memory-memory.ensures.pairs) (rw c.begin_wants.ensures.same at c.memory-memory.ensures.modes) in
    let at = c.loop-at.at in
    let parts = c.loop-at.self-inside.executions in
    let was = c.loop-at.invariant in
    let lt : at < length parts = omega (arith, c.loop-at-test.true, was.ends, far-size X.program X.text_of X.loaders X.fits session run at c.loop-at.wants c.loop-at.is_missing parts was.far) in
    let d = c.execution_mut-execution.result.now in
    let value = c.execution_mut-execution.ensures.value in
    let y = c.go_on.new.self in
    let went = subst (λ (n : MemoryOf). GoesOn X.program X.text_of X.loaders X.fits c.loop-at.self-inside.rounds n d y) is c.in_ok-is_next_missing.ensures.went in
    let goes = subst (λ (n : ℕ). GoesOn X.program X.text_of X.loaders X.fits n (memory_of session) d y) was.rounds went in
    let wanted = subst (λ (n : MemoryOf). c.go_on.new.wants ≡ wanting c.loop-at.wants (front n.modes (X.program d.plan) (look n.pairs))) is c.in_ok-is_next_missing.ensures.wanted in
    record {
      far = far-more X.program X.text_of X.loaders X.fits session run at c.loop-at.wants c.loop-at.is_missing parts was.far d lt value y c.go_on.new.wants c.in_ok-is_next_missing.is_next_missing goes wanted c.in_ok-is_next_missing.ensures.missing;
      ends = was.ends;
      rounds = was.rounds;
      stage = was.stage;
      bounded = was.bounded;
    }

pub invariant_of-self-then-not-is_missing : goal.invariant_of-self-then-not-is_missing
invariant_of-self-then-not-is_missing g c =
    c.loop-at.invariant.bounded

pub returns-then-not-is_missing-clause-next : goal.returns-then-not-is_missing-clause-next
returns-then-not-is_missing-clause-next g c =
    let X = g.P.Execute in
    let session = c.args.session.now in
    let run = c.args.self.now in
    let at = c.loop-at.at in
    let parts = c.loop-at.self-inside.executions in
    let was = c.loop-at.invariant in
    let all : length parts ≤ at = omega (arith, c.loop-at-test.false, was.ends, far-size X.program X.text_of X.loaders X.fits session run at c.loop-at.wants c.loop-at.is_missing parts was.far) in
    let gone = far-gone X.program X.text_of X.loaders X.fits session run at c.loop-at.wants c.loop-at.is_missing parts was.far all in
    let none = far-complete X.program X.text_of X.loaders X.fits session run at c.loop-at.wants c.loop-at.is_missing parts was.far all c.if-not-is_missing.true in
    let same = c.keep_wants.ensures ∙ c.begin_wants.ensures.same in
    let m = memory_of session in
    let told = all-report X.program X.text_of X.loaders X.fits run.rounds m run.parts parts gone none in
    let fit = gone-fit X.program X.text_of X.loaders X.fits run.rounds m m run.parts parts gone (same-grows session session refl) in
    let texts = subst (λ ps. AreTexts (requests X.program X.text_of ps) (read m.modes (look m.pairs)) (reports_in parts)) (far-plans X.program X.text_of X.loaders X.fits session run at c.loop-at.wants c.loop-at.is_missing parts was.far) (all-texts X.program X.text_of X.loaders X.fits m parts told fit) in
    (record { complete = none; answered = texts; same = ap state_of same }, was.rounds, refl)

pub returns-then-not-is_missing-clause-may : goal.returns-then-not-is_missing-clause-may
returns-then-not-is_missing-clause-may g c =
    let X = g.P.Execute in
    let session = c.args.session.now in
    let run = c.args.self.now in
    let at = c.loop-at.at in
    let parts = c.loop-at.self-inside.executions in
    let was = c.loop-at.invariant in
    let all : length parts ≤ at = omega (arith, c.loop-at-test.false, was.ends, far-size X.program X.text_of X.loaders X.fits session run at c.loop-at.wants c.loop-at.is_missing parts was.far) in
    let gone = far-gone X.program X.text_of X.loaders X.fits session run at c.loop-at.wants c.loop-at.is_missing parts was.far all in
    record { within = gone-within X.program X.text_of X.loaders X.fits 0 run.rounds (length session.loaders) (memory_of session) run.parts parts gone c.requires.holds.enough; limited = c.begin_wants.ensures.limited }

pub returns-then-not-is_missing-clause-holds : goal.returns-then-not-is_missing-clause-holds
returns-then-not-is_missing-clause-holds g c =
    let X = g.P.Execute in
    let session = c.args.session.now in
    let run = c.args.self.now in
    let at = c.loop-at.at in
    let parts = c.loop-at.self-inside.executions in
    let was = c.loop-at.invariant in
    let same = c.keep_wants.ensures ∙ c.begin_wants.ensures.same in
    let later : RunOf _ _ = record { parts = parts; rounds = c.loop-at.self-inside.rounds; stage = Finished } in
    finished-holds X.program X.text_of X.loaders X.fits session c.keep_wants.new.self run later refl (far-plans X.program X.text_of X.loaders X.fits session run at c.loop-at.wants c.loop-at.is_missing parts was.far) (ap (λ (s : SessionOf _). length s.loaders) same) c.requires.holds.enough

pub returns-then-not-is_missing-clause-run : goal.returns-then-not-is_missing-clause-run
returns-then-not-is_missing-clause-run g c =
    let X = g.P.Execute in
    let session = c.args.session.now in
    let run = c.args.self.now in
    let at = c.loop-at.at in
    let parts = c.loop-at.self-inside.executions in
    let was = c.loop-at.invariant in
    let all : length parts ≤ at = omega (arith, c.loop-at-test.false, was.ends, far-size X.program X.text_of X.loaders X.fits session run at c.loop-at.wants c.loop-at.is_missing parts was.far) in
    let gone = far-gone X.program X.text_of X.loaders X.fits session run at c.loop-at.wants c.loop-at.is_missing parts was.far all in
    let none = far-complete X.program X.text_of X.loaders X.fits session run at c.loop-at.wants c.loop-at.is_missing parts was.far all c.if-not-is_missing.true in
    let same = c.keep_wants.ensures ∙ c.begin_wants.ensures.same in
    let later : RunOf _ _ = record { parts = parts; rounds = c.loop-at.self-inside.rounds; stage = Finished } in
    finishes X.program X.text_of X.loaders X.fits g.S.LocalSource.may_tell session (state_of c.keep_wants.new.self) run later (ap state_of same) c.requires.ready refl gone c.requires.holds.enough c.begin_wants.ensures.limited none was.rounds

pub returns-then-not-is_missing-clause-kept : goal.returns-then-not-is_missing-clause-kept
returns-then-not-is_missing-clause-kept g c =
    let X = g.P.Execute in
    let session = c.args.session.now in
    let run = c.args.self.now in
    let at = c.loop-at.at in
    let parts = c.loop-at.self-inside.executions in
    let was = c.loop-at.invariant in
    let same = c.keep_wants.ensures ∙ c.begin_wants.ensures.same in
    record { plans = (far-plans X.program X.text_of X.loaders X.fits session run at c.loop-at.wants c.loop-at.is_missing parts was.far); loaders = ap (λ (s : SessionOf _). length s.loaders) same; bounded = was.bounded }

pub returns-in_err-rounds-clause-failed : goal.returns-in_err-rounds-clause-failed
returns-in_err-rounds-clause-failed g c =
    let was = c.loop-at.invariant in
    on-err c.from_residual-in_err-rounds.result (record { failed = was.stage; rounds = was.rounds; lost = (inl (ap state_of c.begin_wants.ensures.same)) })

pub returns-in_err-rounds-clause-holds : goal.returns-in_err-rounds-clause-holds
returns-in_err-rounds-clause-holds g c =
    let X = g.P.Execute in
    let session = c.args.session.now in
    let run = c.args.self.now in
    let at = c.loop-at.at in
    let parts = c.loop-at.self-inside.executions in
    let was = c.loop-at.invariant in
    let later : RunOf _ _ = record { parts = parts; rounds = c.loop-at.self-inside.rounds; stage = c.loop-at.self-inside.stage } in
    fails-holds X.program X.text_of X.loaders X.fits session c.begin_wants.new.self run later was.stage (far-plans X.program X.text_of X.loaders X.fits session run at c.loop-at.wants c.loop-at.is_missing parts was.far) (ap (λ (s : SessionOf _). length s.loaders) c.begin_wants.ensures.same) c.requires.holds.enough

pub returns-in_err-rounds-clause-run : goal.returns-in_err-rounds-clause-run
returns-in_err-rounds-clause-run g c =
    let X = g.P.Execute in
    let session = c.args.session.now in
    let run = c.args.self.now in
    let at = c.loop-at.at in
    let parts = c.loop-at.self-inside.executions in
    let was = c.loop-at.invariant in
    let later : RunOf _ _ = record { parts = parts; rounds = c.loop-at.self-inside.rounds; stage = c.loop-at.self-inside.stage } in
    fails X.program X.text_of X.loaders X.fits g.S.LocalSource.may_tell (state_of session) (state_of c.begin_wants.new.self) run later c.requires.ready was.stage (far-plans X.program X.text_of X.loaders X.fits session run at c.loop-at.wants c.loop-at.is_missing parts was.far) (inl (ap state_of c.begin_wants.ensures.same))

pub returns-in_err-rounds-clause-kept : goal.returns-in_err-rounds-clause-kept
returns-in_err-rounds-clause-kept g c =
    let X = g.P.Execute in
    let session = c.args.session.now in
    let run = c.args.self.now in
    let at = c.loop-at.at in
    let parts = c.loop-at.self-inside.executions in
    let was = c.loop-at.invariant in
    record { plans = (far-plans X.program X.text_of X.loaders X.fits session run at c.loop-at.wants c.loop-at.is_missing parts was.far); loaders = (ap (λ (s : SessionOf _). length s.loaders) c.begin_wants.ensures.same); bounded = was.bounded }

pub cut-requires : goal.cut-requires
cut-requires g c =
    let X = g.P.Execute in
    let session = c.args.session.now in
    let run = c.args.self.now in
    let at = c.loop-at.at in
    let parts = c.loop-at.self-inside.executions in
    let was = c.loop-at.invariant in
    let all : length parts ≤ at = omega (arith, c.loop-at-test.false, was.ends, far-size X.program X.text_of X.loaders X.fits session run at c.loop-at.wants c.loop-at.is_missing parts was.far) in
    far-length X.program X.text_of X.loaders X.fits session run at c.loop-at.wants c.loop-at.is_missing parts was.far all ∙ sym (ap (λ (s : SessionOf _). length s.loaders) c.begin_wants.ensures.same)

pub returns-in_err-orders-clause-failed : goal.returns-in_err-orders-clause-failed
returns-in_err-orders-clause-failed g c =
    let X = g.P.Execute in
    let session = c.args.session.now in
    let run = c.args.self.now in
    let at = c.loop-at.at in
    let parts = c.loop-at.self-inside.executions in
    let was = c.loop-at.invariant in
    let all : length parts ≤ at = omega (arith, c.loop-at-test.false, was.ends, far-size X.program X.text_of X.loaders X.fits session run at c.loop-at.wants c.loop-at.is_missing parts was.far) in
    let s = state_of session in
    let p = program_of X.program X.text_of run in
    let wanted = far-wanted X.program X.text_of X.loaders X.fits session run at c.loop-at.wants c.loop-at.is_missing parts was.far all in
    let lost : IsUnasked p s (state_of c.cut.new.self) = let ways = rw c.begin_wants.ensures.same at c.in_err-orders.ensures.lost in inr (ways (front_in s p) wanted) in
    on-err c.from_residual-in_err-orders.result (record { failed = was.stage; rounds = was.rounds; lost = lost })

pub returns-in_err-orders-clause-holds : goal.returns-in_err-orders-clause-holds
returns-in_err-orders-clause-holds g c =
    let X = g.P.Execute in
    let session = c.args.session.now in
    let run = c.args.self.now in
    let at = c.loop-at.at in
    let parts = c.loop-at.self-inside.executions in
    let was = c.loop-at.invariant in
    let all : length parts ≤ at = omega (arith, c.loop-at-test.false, was.ends, far-size X.program X.text_of X.loaders X.fits session run at c.loop-at.wants c.loop-at.is_missing parts was.far) in
    let s = state_of session in
    let p = program_of X.program X.text_of run in
    let wanted = far-wanted X.program X.text_of X.loaders X.fits session run at c.loop-at.wants c.loop-at.is_missing parts was.far all in
    let lost : IsUnasked p s (state_of c.cut.new.self) = let ways = rw c.begin_wants.ensures.same at c.in_err-orders.ensures.lost in inr (ways (front_in s p) wanted) in
    let later : RunOf _ _ = record { parts = parts; rounds = c.loop-at.self-inside.rounds; stage = c.loop-at.self-inside.stage } in
    fails-holds X.program X.text_of X.loaders X.fits session c.cut.new.self run later was.stage (far-plans X.program X.text_of X.loaders X.fits session run at c.loop-at.wants c.loop-at.is_missing parts was.far) (unasked-size p s (state_of c.cut.new.self) lost) c.requires.holds.enough

pub returns-in_err-orders-clause-run : goal.returns-in_err-orders-clause-run
returns-in_err-orders-clause-run g c =
    let X = g.P.Execute in
    let session = c.args.session.now in
    let run = c.args.self.now in
    let at = c.loop-at.at in
    let parts = c.loop-at.self-inside.executions in
    let was = c.loop-at.invariant in
    let all : length parts ≤ at = omega (arith, c.loop-at-test.false, was.ends, far-size X.program X.text_of X.loaders X.fits session run at c.loop-at.wants c.loop-at.is_missing parts was.far) in
    let s = state_of session in
    let p = program_of X.program X.text_of run in
    let wanted = far-wanted X.program X.text_of X.loaders X.fits session run at c.loop-at.wants c.loop-at.is_missing parts was.far all in
    let lost : IsUnasked p s (state_of c.cut.new.self) = let ways = rw c.begin_wants.ensures.same at c.in_err-orders.ensures.lost in inr (ways (front_in s p) wanted) in
    let later : RunOf _ _ = record { parts = parts; rounds = c.loop-at.self-inside.rounds; stage = c.loop-at.self-inside.stage } in
    fails X.program X.text_of X.loaders X.fits g.S.LocalSource.may_tell (state_of session) (state_of c.cut.new.self) run later c.requires.ready was.stage (far-plans X.program X.text_of X.loaders X.fits session run at c.loop-at.wants c.loop-at.is_missing parts was.far) lost

pub returns-in_err-orders-clause-kept : goal.returns-in_err-orders-clause-kept
returns-in_err-orders-clause-kept g c =
    let X = g.P.Execute in
    let session = c.args.session.now in
    let run = c.args.self.now in
    let at = c.loop-at.at in
    let parts = c.loop-at.self-inside.executions in
    let was = c.loop-at.invariant in
    let all : length parts ≤ at = omega (arith, c.loop-at-test.false, was.ends, far-size X.program X.text_of X.loaders X.fits session run at c.loop-at.wants c.loop-at.is_missing parts was.far) in
    let s = state_of session in
    let p = program_of X.program X.text_of run in
    let wanted = far-wanted X.program X.text_of X.loaders X.fits session run at c.loop-at.wants c.loop-at.is_missing parts was.far all in
    let lost : IsUnasked p s (state_of c.cut.new.self) = let ways = rw c.begin_wants.ensures.same at c.in_err-orders.ensures.lost in inr (ways (front_in s p) wanted) in
    record { plans = (far-plans X.program X.text_of X.loaders X.fits session run at c.loop-at.wants c.loop-at.is_missing parts was.far); loaders = (unasked-size p s (state_of c.cut.new.self) lost); bounded = was.bounded }

pub returns-clause-next : goal.returns-clause-next
returns-clause-next g c =
    let X = g.P.Execute in
    let session = c.args.session.now in
    let run = c.args.self.now in
    let at = c.loop-at.at in
    let parts = c.loop-at.self-inside.executions in
    let was = c.loop-at.invariant in
    let all : length parts ≤ at = omega (arith, c.loop-at-test.false, was.ends, far-size X.program X.text_of X.loaders X.fits session run at c.loop-at.wants c.loop-at.is_missing parts was.far) in
    let s = state_of session in
    let p = program_of X.program X.text_of run in
    let wanted = far-wanted X.program X.text_of X.loaders X.fits session run at c.loop-at.wants c.loop-at.is_missing parts was.far all in
    let enters = rw c.begin_wants.ensures.same at c.in_ok-orders.ensures.entered in
    let entered = enters (front_in s p) wanted in
    let later : RunOf _ _ = record { parts = parts; rounds = c.in_ok-rounds.rounds; stage = Out } in
    let next : c.in_ok-rounds.rounds ≡ run.rounds + 1 = SomeIff-at c.checked_add.result _ _ _ c.in_ok-rounds.ensures.ok_part c.checked_add.ensures ∙ ap (λ n. n + 1) was.rounds in
    let gone = far-gone X.program X.text_of X.loaders X.fits session run at c.loop-at.wants c.loop-at.is_missing parts was.far all in
    let lacks = far-lacks X.program X.text_of X.loaders X.fits session run at c.loop-at.wants c.loop-at.is_missing parts was.far all c.if-not-is_missing.false in
    let batches = rw c.begin_wants.ensures.same at c.in_ok-orders.ensures.orders in
    let numbered = rw c.begin_wants.ensures.same at c.in_ok-orders.ensures.numbered in
    let round : IsRound p s (state_of c.cut.new.self) c.in_ok-orders.orders.items = round-is X.program X.text_of X.loaders X.fits g.S.LocalSource.may_tell session (state_of c.cut.new.self) run later c.in_ok-orders.orders.items gone c.requires.holds.enough lacks (batches (front_in s p) wanted) c.in_ok-orders.ensures.cut entered numbered in
    (round, next, refl)

pub returns-clause-may : goal.returns-clause-may
returns-clause-may g c =
    let X = g.P.Execute in
    let session = c.args.session.now in
    let run = c.args.self.now in
    let at = c.loop-at.at in
    let parts = c.loop-at.self-inside.executions in
    let was = c.loop-at.invariant in
    let all : length parts ≤ at = omega (arith, c.loop-at-test.false, was.ends, far-size X.program X.text_of X.loaders X.fits session run at c.loop-at.wants c.loop-at.is_missing parts was.far) in
    let gone = far-gone X.program X.text_of X.loaders X.fits session run at c.loop-at.wants c.loop-at.is_missing parts was.far all in
    record { within = gone-within X.program X.text_of X.loaders X.fits 0 run.rounds (length session.loaders) (memory_of session) run.parts parts gone c.requires.holds.enough; limited = c.begin_wants.ensures.limited }

pub returns-clause-holds : goal.returns-clause-holds
returns-clause-holds g c =
    let X = g.P.Execute in
    let session = c.args.session.now in
    let run = c.args.self.now in
    let at = c.loop-at.at in
    let parts = c.loop-at.self-inside.executions in
    let was = c.loop-at.invariant in
    let all : length parts ≤ at = omega (arith, c.loop-at-test.false, was.ends, far-size X.program X.text_of X.loaders X.fits session run at c.loop-at.wants c.loop-at.is_missing parts was.far) in
    let s = state_of session in
    let p = program_of X.program X.text_of run in
    let wanted = far-wanted X.program X.text_of X.loaders X.fits session run at c.loop-at.wants c.loop-at.is_missing parts was.far all in
    let enters = rw c.begin_wants.ensures.same at c.in_ok-orders.ensures.entered in
    let entered = enters (front_in s p) wanted in
    let later : RunOf _ _ = record { parts = parts; rounds = c.in_ok-rounds.rounds; stage = Out } in
    let gone = far-gone X.program X.text_of X.loaders X.fits session run at c.loop-at.wants c.loop-at.is_missing parts was.far all in
    out-holds X.program X.text_of X.loaders X.fits session c.cut.new.self run later refl (far-plans X.program X.text_of X.loaders X.fits session run at c.loop-at.wants c.loop-at.is_missing parts was.far) (lost-size s (state_of c.cut.new.self) (front_in s p) entered) c.requires.holds.enough gone (lost-grows session c.cut.new.self (front_in s p) entered)

pub returns-clause-run : goal.returns-clause-run
returns-clause-run g c =
    let X = g.P.Execute in
    let session = c.args.session.now in
    let run = c.args.self.now in
    let at = c.loop-at.at in
    let parts = c.loop-at.self-inside.executions in
    let was = c.loop-at.invariant in
    let all : length parts ≤ at = omega (arith, c.loop-at-test.false, was.ends, far-size X.program X.text_of X.loaders X.fits session run at c.loop-at.wants c.loop-at.is_missing parts was.far) in
    let s = state_of session in
    let p = program_of X.program X.text_of run in
    let wanted = far-wanted X.program X.text_of X.loaders X.fits session run at c.loop-at.wants c.loop-at.is_missing parts was.far all in
    let enters = rw c.begin_wants.ensures.same at c.in_ok-orders.ensures.entered in
    let entered = enters (front_in s p) wanted in
    let later : RunOf _ _ = record { parts = parts; rounds = c.in_ok-rounds.rounds; stage = Out } in
    let next : c.in_ok-rounds.rounds ≡ run.rounds + 1 = SomeIff-at c.checked_add.result _ _ _ c.in_ok-rounds.ensures.ok_part c.checked_add.ensures ∙ ap (λ n. n + 1) was.rounds in
    let gone = far-gone X.program X.text_of X.loaders X.fits session run at c.loop-at.wants c.loop-at.is_missing parts was.far all in
    let lacks = far-lacks X.program X.text_of X.loaders X.fits session run at c.loop-at.wants c.loop-at.is_missing parts was.far all c.if-not-is_missing.false in
    let batches = rw c.begin_wants.ensures.same at c.in_ok-orders.ensures.orders in
    let numbered = rw c.begin_wants.ensures.same at c.in_ok-orders.ensures.numbered in
    let round : IsRound p s (state_of c.cut.new.self) c.in_ok-orders.orders.items = round-is X.program X.text_of X.loaders X.fits g.S.LocalSource.may_tell session (state_of c.cut.new.self) run later c.in_ok-orders.orders.items gone c.requires.holds.enough lacks (batches (front_in s p) wanted) c.in_ok-orders.ensures.cut entered numbered in
    goes-out X.program X.text_of X.loaders X.fits g.S.LocalSource.may_tell session (state_of c.cut.new.self) run later c.in_ok-orders.orders.items c.requires.ready refl gone next round

pub returns-clause-kept : goal.returns-clause-kept
returns-clause-kept g c =
    let X = g.P.Execute in
    let session = c.args.session.now in
    let run = c.args.self.now in
    let at = c.loop-at.at in
    let parts = c.loop-at.self-inside.executions in
    let was = c.loop-at.invariant in
    let all : length parts ≤ at = omega (arith, c.loop-at-test.false, was.ends, far-size X.program X.text_of X.loaders X.fits session run at c.loop-at.wants c.loop-at.is_missing parts was.far) in
    let s = state_of session in
    let p = program_of X.program X.text_of run in
    let wanted = far-wanted X.program X.text_of X.loaders X.fits session run at c.loop-at.wants c.loop-at.is_missing parts was.far all in
    let enters = rw c.begin_wants.ensures.same at c.in_ok-orders.ensures.entered in
    let entered = enters (front_in s p) wanted in
    record { plans = (far-plans X.program X.text_of X.loaders X.fits session run at c.loop-at.wants c.loop-at.is_missing parts was.far); loaders = lost-size s (state_of c.cut.new.self) (front_in s p) entered; bounded = search }
