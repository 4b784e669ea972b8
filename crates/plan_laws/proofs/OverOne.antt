-- A server has its definitions and its bindings from one schema text, so its plans are over one schema.
use Rattle.std.proofs.Common.{◌∙◌, sym, ap, subst, List}
use Rattle.schema_syntax.specs.Tree.{Definition}
use Rattle.gq_schema.specs.Fault.{fault_of}
use Rattle.gq_bindings.specs.Tree.{BindingsOf}
use Rattle.gq_bindings.specs.Reading.{bindings_of, accepted}
use Rattle.gq_check.specs.Plans.{PlanOf}
use Rattle.gq_check.specs.Prepared.{prepared}
use Rattle.gq_check.specs.Verdict.{IsValid}
use Rattle.plan_requests.specs.Servers.{ServerOf}
use Rattle.plan_laws.specs.Met.{IsOverOne}
use Rattle.plan_laws.specs.OfServers.{IsMade, IsPlanOver}

pub server-one : (s : ServerOf) (plan : PlanOf) → IsMade s → IsPlanOver s plan → IsOverOne plan
server-one s plan made of = record {
  schema = record {
    valid = record {
      document = of.planned.document;
      valid = subst (λ (defs : List Definition). IsValid defs of.planned.document) (sym of.definitions) of.planned.valid;
      same = of.planned.fragments;
      name = of.operation_name;
      given = of.given;
      prepares = ap (λ (defs : List Definition). prepared defs of.planned.document.operations of.operation_name of.given) of.definitions ∙ of.planned.prepared;
    };
    keeps = ap fault_of of.definitions ∙ made.is.says.keeps;
  };
  read = record {
    text = made.bindings;
    accepts = ap (λ (defs : List Definition). bindings_of defs made.bindings) of.definitions ∙ (made.is.accepts ∙ ap (λ (b : BindingsOf). accepted b) (sym of.bindings));
  };
}
