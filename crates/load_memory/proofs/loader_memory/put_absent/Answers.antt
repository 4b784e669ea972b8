use Rattle.std.proofs.Common.{Some}
use Rattle.load_memory.proofs.LoaderMemoryLaws.{look_in-put, lookup-absent}
use Rattle.load_memory.proofs.loader_memory.put_absent.Goals as goal

pub returns-clause-put : goal.returns-clause-put
returns-clause-put c =
    let e = c.in_ok-insert.ensures in
    let u = e.updates in
    let none = rw (lookup-absent c.args.key c.args.part.now.entries c.requires) at e.old in
    record {
      pairs = look_in-put c.args.key (Some c.args.outcome) c.args.part.now.entries c.insert.new.self.entries u.1 u.3;
      count = rw none at e.len;
    }
