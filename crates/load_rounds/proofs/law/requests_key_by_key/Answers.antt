use Rattle.load_rounds.proofs.SharedKeyByKey.{answered-alike, report-directly}
use Rattle.load_rounds.proofs.law.requests_key_by_key.Goals as goal

pub returns-clause-one : goal.returns-clause-one
returns-clause-one g c = λ item report. answered-alike g.S.LocalSource.may_tell item report

pub returns-clause-direct : goal.returns-clause-direct
returns-clause-direct g c = λ item mode_of report respects. report-directly g.S.LocalSource.may_tell item report mode_of respects
