use Rattle.server.proofs.planned.ResponseForm.response.Goals as goal

pub returns-then-self : goal.returns-then-self
returns-then-self c = rw c.if-self.true (rw (c.as_slice.ensures, c.deref.ensures.value) at c.array_answer.ensures)
