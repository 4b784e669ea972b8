use Rattle.load_rounds.proofs.KeyByKey.{lawful-report, one-state, one-text, one-count, text-direct}
use Rattle.load_rounds.proofs.law.answers_key_by_key.Goals as goal

pub returns-clause-lawful : goal.returns-clause-lawful
returns-clause-lawful g c = λ item report old new p text_of text rounds h. lawful-report g.S.LocalSource.may_tell item report old new p text_of text rounds h

pub returns-clause-one : goal.returns-clause-one
returns-clause-one g c = λ item report old new other p text_of text more rounds count h k. (
  one-state g.S.LocalSource.may_tell item report old new other p text_of text more rounds count h k,
  one-text g.S.LocalSource.may_tell item report old new other p text_of text more rounds count h k,
  one-count g.S.LocalSource.may_tell item report old new other p text_of text more rounds count h k,
)

pub returns-clause-direct : goal.returns-clause-direct
returns-clause-direct g c = λ item mode_of report respects old new p text_of text rounds alike first h.
    text-direct g.S.LocalSource.may_tell item report mode_of respects old new p text_of text rounds alike first h
