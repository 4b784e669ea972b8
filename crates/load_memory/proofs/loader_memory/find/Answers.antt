use Rattle.std.proofs.Common.{ap, ◌∙◌}
use Rattle.std.specs.Prelude.{option_map}
use Rattle.load_memory.specs.Outcomes.{outcome_of}
use Rattle.load_memory.proofs.LoaderMemoryLaws.{lookup-cache}
use Rattle.load_memory.proofs.loader_memory.find.Goals as goal

pub returns-in-Some : goal.returns-in-Some
returns-in-Some c = ap (option_map outcome_of) c.in-Some.ensures.value ∙ lookup-cache c.args.key.now c.args.part.now.entries
