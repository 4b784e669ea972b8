use Rattle.std.proofs.Common.{ap, map}
use Rattle.std.proofs.lemmas.Result.{err_from_is_err_and}
use Rattle.world.specs.Faults.{lifted}
use Rattle.world.specs.Sources.{table_of}
use Rattle.world.specs.Worlds.{server_of}
use Rattle.world.proofs.Worlds.{made-world, is-server, made-only, from-server, fault-world}
use Rattle.world.proofs.world.World.new.Goals as goal

pub returns-in_err-server-clause-fault : goal.returns-in_err-server-clause-fault
returns-in_err-server-clause-fault c =
    let p = err_from_is_err_and c.from_residual-in_err-server.result c.from_residual-in_err-server.ensures.1 in
    rw (p.1, p.2) (from-server c.args.schema.now c.args.bindings.now (map table_of c.args.tables.items) c.args.max c.in_ok-limit.ensures.ok.1 _ c.in_err-server.ensures.fault)

pub returns-in_err-server-clause-only : goal.returns-in_err-server-clause-only
returns-in_err-server-clause-only c = λ w is.
    let p = err_from_is_err_and c.from_residual-in_err-server.result c.from_residual-in_err-server.ensures.1 in
    let wanting = c.in_err-server.ensures.only (server_of w) (is-server c.args.schema.now c.args.bindings.now (map table_of c.args.tables.items) c.args.max w is) in
    rw (p.1, p.2) (ap lifted wanting)

pub returns-clause-made : goal.returns-clause-made
returns-clause-made c =
    made-world c.args.schema.now c.args.bindings.now (map table_of c.args.tables.items) c.args.max c.in_ok-server.server c.in_ok-limit.ensures.ok.1 c.in_ok-server.ensures.made c.over.result
    (rw c.in_ok-limit.ensures.ok.0 at c.over.ensures.ok)

pub returns-clause-only : goal.returns-clause-only
returns-clause-only c = λ w is.
    let tables = map table_of c.args.tables.items in
    let same = c.in_ok-server.ensures.only (server_of w) (is-server c.args.schema.now c.args.bindings.now tables c.args.max w is) in
    made-only c.args.schema.now c.args.bindings.now tables c.args.max c.in_ok-server.server w is same c.over.result (rw c.in_ok-limit.ensures.ok.0 at c.over.ensures.ok) c.over.ensures.err

pub returns-clause-fault : goal.returns-clause-fault
returns-clause-fault c =
    fault-world c.args.schema.now c.args.bindings.now (map table_of c.args.tables.items) c.args.max c.in_ok-server.server c.in_ok-limit.ensures.ok.1 c.in_ok-server.ensures.made c.over.result c.over.ensures.err
