use Rattle.execution.specs.Front.{modes_wanted}
use Rattle.std.proofs.Common.{refl}
use Rattle.execution.proofs.Wanting.{wanting-firsts, wanting-front}
use Rattle.execution.proofs.law.wants_are_the_front.Goals as goal

pub returns-clause-first : goal.returns-clause-first
returns-clause-first c = λ wants loads. wanting-firsts (modes_wanted wants) wants loads refl

pub returns-clause-front : goal.returns-clause-front
returns-clause-front c = λ modes loads loader below. wanting-front modes loads loader below
