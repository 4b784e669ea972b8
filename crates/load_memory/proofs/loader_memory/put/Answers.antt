use Rattle.std.proofs.Common.{rules, true, ap, ◌∙◌, sym}
use Rattle.std.specs.Prelude.{option_map}
use Rattle.load_memory.specs.Keys.{cache_of}
use Rattle.load_memory.specs.Outcomes.{outcome_of}
use Rattle.load_memory.proofs.LoaderMemoryLaws.{lookup-cache}
use Rattle.load_memory.proofs.ChangeLaws.{look_in-found, look_in-there_still, look_in-written}
use Rattle.load_memory.proofs.loader_memory.put.Goals as goal

pub returns-in-Occupied-clause-put : goal.returns-in-Occupied-clause-put
returns-in-Occupied-clause-put c =
    let found = rw c.in-Occupied.is at c.in-Ok.ensures.found in
    let there = look_in-found c.args.part.now.entries c.args.key true (sym found.0) in
    record {
      pairs = look_in-there_still c.args.part.now.entries _ (cache_of c.args.key) (outcome_of c.args.outcome) (search rules) there;
      count = search rules;
    }

pub returns-in-Vacant-clause-put : goal.returns-in-Vacant-clause-put
returns-in-Vacant-clause-put c =
    let found = rw c.in-Vacant.is at c.in-Ok.ensures.found in
    let absent = sym (lookup-cache c.args.key c.args.part.now.entries) ∙ ap (option_map outcome_of) found in
    let written = c.in-Ok.ensures.update.0 c.args.outcome in
    record {
      pairs = look_in-written c.args.part.now.entries _ _ c.args.key c.args.outcome absent written.1 written.3 (search rules);
      count = search rules;
    }
