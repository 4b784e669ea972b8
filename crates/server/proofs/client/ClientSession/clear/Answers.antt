use Rattle.server.proofs.client.ClientSession.clear.Goals as goal

pub returns-clause-report : goal.returns-clause-report
returns-clause-report g c = rw (← c.self.view_is) c.clear.ensures.report
