use Rattle.load_memory.specs.Keys.{borrowed_of, folded}
use Rattle.load_memory.proofs.LoaderMemoryLaws.{look_in-at}
use Rattle.load_memory.proofs.loader_memory.at_place.Goals as goal

pub returns-then-is_of : goal.returns-then-is_of
returns-then-is_of c = look_in-at c.in-Some.known.now (folded c.args.mode (borrowed_of c.args.key)) c.args.part.now.entries c.in-Some.outcome.now c.in-Some.ensures.value (c.is_of.ensures c.if-is_of.true)
