use Rattle.std.specs.List.{IsDistinct}
use Rattle.plan_walk.specs.Noted.{is_position}
use Rattle.plan_walk.proofs.Noting.{none-apart, one-apart, all-apart}
use Rattle.plan_walk.proofs.waiting.Waiting.as_slice.Goals as goal

pub returns-in-Nothing-clause-apart : goal.returns-in-Nothing-clause-apart
returns-in-Nothing-clause-apart c = rw (← c.self.view_is, c.in-Nothing.is) none-apart

pub returns-in-One-clause-apart : goal.returns-in-One-clause-apart
returns-in-One-clause-apart c = rw (← c.self.view_is, c.in-One.is) (one-apart c.in-One.position)

pub returns-in-Several-clause-apart : goal.returns-in-Several-clause-apart
returns-in-Several-clause-apart c =
    let apart : IsDistinct is_position c.deref.result.now.positions.keys = all-apart _ c.as_slice.ensures.unique in
    rw (← c.self.view_is, c.in-Several.is) (rw c.deref.ensures at apart)
