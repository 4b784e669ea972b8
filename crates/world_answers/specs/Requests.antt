-- Definitions of what a request comes to whose query is a document.
use Rattle.std.specs.Prelude.{◌≡◌, ℕ, List, Option, Some, Ok, Err}
use Rattle.serde_json.specs.Data.{Data}
use Rattle.gq_parser.specs.Tree.{Document}
use Rattle.gq_schema.specs.Types.{tree_of}
use Rattle.gq_check.specs.Plans.{PlanOf}
use Rattle.gq_check.specs.Prepared.{FaultOf as Unprepared, prepared}
use Rattle.gq_check.specs.Verdict.{FaultOf, IsVerdict, IsValid}
use Rattle.world.specs.Worlds.{WorldOf}
use Rattle.world_answers.specs.Answers.{IsAnsweredAnew}
use Rattle.world_answers.specs.Services.{ServiceOf}

-- the plan is that of the operation that is asked for, with these values given for its variables
pub record IsPlanFor (w : WorldOf) (d : Document) (name : Option (List ℕ)) (given : Data)
    (plan : PlanOf) : Type 0 where
  pub definitions : plan.definitions ≡ tree_of w.definitions
  pub bindings : plan.bindings ≡ w.bindings
  pub fragments : plan.fragments ≡ d.fragments
  pub prepares : prepared (tree_of w.definitions) d.operations name given
      ≡ Ok (record { operation = plan.operation; variables = plan.variables })

-- The document isn't valid, for a fault; or it is, and its operation can't be prepared, for a fault; or the operation's plan is
-- answered, in a session of the world that was new.
pub data IsRefusedOrAnswered (s : ServiceOf) (d : Document) (name : Option (List ℕ))
    (given : Data) : Type 0 where
  invalid : (f : FaultOf) → IsVerdict (tree_of s.world.definitions) d (Some f)
      → IsRefusedOrAnswered s d name given
  unprepared : (f : Unprepared) → IsValid (tree_of s.world.definitions) d
      → prepared (tree_of s.world.definitions) d.operations name given ≡ Err f
      → IsRefusedOrAnswered s d name given
  answered : {plan : PlanOf} {text : List ℕ} → IsValid (tree_of s.world.definitions) d
      → IsPlanFor s.world d name given plan
      → IsAnsweredAnew s plan text → IsRefusedOrAnswered s d name given
