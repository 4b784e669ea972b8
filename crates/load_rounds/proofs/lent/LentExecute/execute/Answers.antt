use Rattle.load_rounds.proofs.lent.LentExecute.execute.Goals as goal

pub returns-clause-within : goal.returns-clause-within
returns-clause-within g c = rw (← c.self.view_is) c.execute.ensures.within
