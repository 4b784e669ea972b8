use Rattle.load_rounds.proofs.GoingOn.{together-front}
use Rattle.load_rounds.proofs.Requests.{headline-one, headline-alone, shared-chain}
use Rattle.load_rounds.proofs.law.requests_share_rounds.Goals as goal

pub returns-clause-front : goal.returns-clause-front
returns-clause-front g c = λ modes rs M. together-front modes rs M

pub returns-clause-chain : goal.returns-clause-chain
returns-clause-chain g c = λ old new rs report h. shared-chain g.S.LocalSource.may_tell old new rs report h

pub returns-clause-one : goal.returns-clause-one
returns-clause-one g c = λ old new r report h. (headline-one g.S.LocalSource.may_tell old new r report h, h.answers.0.loads)

pub returns-clause-alone : goal.returns-clause-alone
returns-clause-alone g c = λ old new r report h. headline-alone g.S.LocalSource.may_tell old new r report h
