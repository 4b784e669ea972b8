use Rattle.gq_resolve.proofs.KeyByKey.{calls-read, makes-calls, calls-counted, as-many, plan-makes-calls}
use Rattle.gq_resolve.proofs.law.loads_are_calls.Goals as goal

pub returns-clause-each : goal.returns-clause-each
returns-clause-each c = λ p R calls t is given. calls-read p R calls t is given

pub returns-clause-some : goal.returns-clause-some
returns-clause-some c = λ p R whole. makes-calls p R whole

pub returns-clause-only : goal.returns-clause-only
returns-clause-only c = λ p R count made. calls-counted p R count made

pub returns-clause-more : goal.returns-clause-more
returns-clause-more c = λ p R Q more whole. as-many p R Q more whole

pub returns-clause-plans : goal.returns-clause-plans
returns-clause-plans c = λ plan m none. plan-makes-calls plan m none
