-- A request whose query is a document is refused or answered.
use Rattle.std.proofs.Common.{◌≡◌, refl, ℕ, List, Option, Some, None, Result, Ok, Err}
use Rattle.serde_json.specs.Data.{Data}
use Rattle.gq_parser.specs.Tree.{Document}
use Rattle.gq_schema.specs.Types.{tree_of}
use Rattle.gq_check.specs.Plans.{PlanOf}
use Rattle.gq_check.specs.Planned.{IsPlan}
use Rattle.gq_check.specs.Prepared.{PreparedOf, FaultOf as Unprepared, prepared}
use Rattle.gq_check.specs.Verdict.{FaultOf, IsVerdict, IsValid}
use Rattle.world.specs.Worlds.{WorldOf, HasSources}
use Rattle.world_answers.specs.Services.{ServiceOf}
use Rattle.world_answers.specs.Requests.{IsRefusedOrAnswered, invalid, unprepared, answered}
use Rattle.world_answers.proofs.Shared.{plan-answered}
use Rattle.world_answers.proofs.Verdicts.{verdict-there}

module _ (s : ServiceOf) (has : HasSources s.world) (d : Document) (name : Option (List ℕ)) (given : Data) where
  abbrev w : WorldOf
  w = s.world

  abbrev plan_of : PreparedOf → PlanOf
  plan_of p = record { definitions = tree_of w.definitions; bindings = w.bindings; operation = p.operation; fragments = d.fragments; variables = p.variables }

  planned : IsValid (tree_of w.definitions) d → (p : PreparedOf) → prepared (tree_of w.definitions) d.operations name given ≡ Ok p → IsRefusedOrAnswered s d name given
  planned valid p e =
      let is : IsPlan (plan_of p) = record { document = d; valid = valid; same = refl; name = name; given = given; prepares = e } in
      let a = plan-answered s (plan_of p) has refl is in
      answered {plan = plan_of p} {text = a.0} valid (record { definitions = refl; bindings = refl; fragments = refl; prepares = e }) a.1

  of-prepared : IsValid (tree_of w.definitions) d → (r : Result PreparedOf Unprepared) → prepared (tree_of w.definitions) d.operations name given ≡ r → IsRefusedOrAnswered s d name given
  of-prepared valid (Ok p) e = planned valid p e
  of-prepared valid (Err f) e = unprepared f valid e

  of-verdict : (v : Option FaultOf) → IsVerdict (tree_of w.definitions) d v → IsRefusedOrAnswered s d name given
  of-verdict (Some f) is = invalid f is
  of-verdict None is = of-prepared is (prepared (tree_of w.definitions) d.operations name given) refl

  pub outcome-there : IsRefusedOrAnswered s d name given
  outcome-there = let v = verdict-there (tree_of w.definitions) d in of-verdict v.0 v.1
