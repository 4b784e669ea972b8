use Rattle.std.proofs.Common.{None, ◌∙◌, sym, ap}
use Rattle.std.specs.Prelude.{is_some}
use Rattle.load_memory.specs.Keys.{cache_of}
use Rattle.load_memory.proofs.Looks.{same_key-sym}
use Rattle.load_memory.proofs.ChangeLaws.{look_in-found}
use Rattle.load_memory.proofs.LoaderMemoryLaws.{look_in-put}
use Rattle.load_memory.proofs.loader_memory.take_out.Goals as goal

pub returns-clause-pairs : goal.returns-clause-pairs
returns-clause-pairs c = λ q.
    let u = c.swap_remove.ensures.updates in
    rw (same_key-sym (cache_of c.args.key.now) q) (look_in-put c.args.key.now None c.args.part.now.entries c.swap_remove.new.self.entries u.1 u.3 q)

pub returns-clause-found : goal.returns-clause-found
returns-clause-found c = sym (look_in-found c.args.part.now.entries c.args.key.now c.is_some.result (c.is_some.ensures ∙ ap is_some c.swap_remove.ensures.value))
