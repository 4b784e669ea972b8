use Rattle.gq_resolve.proofs.Advancing.{copied-rooted}
use Rattle.gq_resolve.proofs.advance.RootObject.copy.Goals as goal

pub returns : goal.returns
returns c = λ plan is. copied-rooted plan _ _ c.in_ok-try_clone.ensures c.in_ok-clone.ensures.cases (c.in_ok-copy_of.ensures plan) is
