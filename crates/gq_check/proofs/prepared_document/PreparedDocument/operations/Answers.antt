use Rattle.gq_check.proofs.prepared_document.PreparedDocument.operations.Goals as goal

pub returns-clause-valid : goal.returns-clause-valid
returns-clause-valid c = rw (← c.self.view_is) c.self.invariant
