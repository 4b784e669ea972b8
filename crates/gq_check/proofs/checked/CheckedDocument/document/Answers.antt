use Rattle.gq_check.proofs.checked.CheckedDocument.document.Goals as goal

pub returns-clause-valid : goal.returns-clause-valid
returns-clause-valid c = rw (← c.self.view_is) c.self.invariant
