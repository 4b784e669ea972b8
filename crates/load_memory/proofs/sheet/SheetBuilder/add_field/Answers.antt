use Rattle.load_memory.proofs.PieceLaws.{HasSheet-field, draft_of-field}
use Rattle.load_memory.proofs.sheet.SheetBuilder.add_field.Goals as goal

pub invariant_of-self-2 : goal.invariant_of-self-2
invariant_of-self-2 c = rw c.in_ok-push.ensures.ok (HasSheet-field _ _ _ _ c.self.invariant)

pub returns-clause-ok : goal.returns-clause-ok
returns-clause-ok c = rw (c.in_ok-push.ensures.ok, ← c.self.view_is) (draft_of-field _ _ _ _ c.self.invariant)
