use Rattle.load_memory.proofs.LoaderMemoryLaws.{pairs-apart}
use Rattle.load_memory.proofs.memory.Memory.len.Goals as goal

pub returns-clause-apart : goal.returns-clause-apart
returns-clause-apart c = rw (← c.self.view_is) (pairs-apart 0 c.self.inside.parts.items c.self.invariant.own_keys)
