use Rattle.load_rounds.proofs.Reading.{reading-front, read-once, reading-stops}
use Rattle.load_rounds.proofs.law.keys_are_a_program.Goals as goal

pub returns-clause-front : goal.returns-clause-front
returns-clause-front g c = λ modes loader keys M. reading-front modes loader keys M

pub returns-clause-loaded : goal.returns-clause-loaded
returns-clause-loaded g c = λ old new l ks os h known. record { round = read-once g.S.LocalSource.may_tell old l ks new h; known = known }

pub returns-clause-stopped : goal.returns-clause-stopped
returns-clause-stopped g c = λ old new l ks can h. reading-stops g.S.LocalSource.may_tell old l ks can new h
