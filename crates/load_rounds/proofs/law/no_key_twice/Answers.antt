use Rattle.load_rounds.proofs.Twice.{together, again}
use Rattle.load_rounds.proofs.law.no_key_twice.Goals as goal

pub returns-clause-again : goal.returns-clause-again
returns-clause-again g c = λ t limited h.
    again g.S.LocalSource.may_tell t.old t.mid t.late t.new t.first t.last t.between t.cell limited h.one h.between h.two h.entered h.entered_again

pub returns-clause-together : goal.returns-clause-together
returns-clause-together g c = λ call old new loader limited h. together g.S.LocalSource.may_tell call old new loader limited h
