-- Servers that were made, and the plans of their requests.
use Rattle.std.specs.Prelude.{◌≡◌, ℕ, List, Option}
use Rattle.serde_json.specs.Data.{Data}
use Rattle.gq_schema.specs.Types.{tree_of}
use Rattle.gq_check.specs.Plans.{PlanOf}
use Rattle.plan_requests.specs.Requests.{IsPlanOf}
use Rattle.plan_requests.specs.Servers.{ServerOf, IsServer}

-- some texts are this server
pub record IsMade (s : ServerOf) : Type 0 where
  pub text : List ℕ
  pub bindings : List ℕ
  pub is : IsServer text bindings s

-- the plan of some request over a server
pub record IsPlanOver (s : ServerOf) (plan : PlanOf) : Type 0 where
  pub definitions : plan.definitions ≡ tree_of s.definitions
  pub bindings : plan.bindings ≡ s.bindings
  pub query : List ℕ
  pub operation_name : Option (List ℕ)
  pub given : Data
  pub planned : IsPlanOf (tree_of s.definitions) query operation_name given plan
