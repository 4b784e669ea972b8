-- Plans of kept documents, and of operations that were planned before.
use Rattle.std.proofs.Common.{◌≡◌, ◌∙◌, ap, subst, sym, map, ℕ, List, Option, Ok}
use Rattle.serde_json.specs.Data.{Data}
use Rattle.gq_parser.specs.declared.tree.Fragment.{Fragment}
use Rattle.gq_parser.specs.Tree.{operation_of}
use Rattle.schema_syntax.specs.declared.tree.Definition.{Definition}
use Rattle.schema_syntax.specs.Tree as schema
use Rattle.gq_schema.specs.Types.{tree_of}
use Rattle.gq_check.specs.declared.fault.PrepareFault.{PrepareFault}
use Rattle.gq_check.specs.Plans.{IsSameBut, KeptParts, PlanParts, kept_document, fragments_of, plan_of}
use Rattle.gq_check.specs.Planned.{prepared_in}
use Rattle.gq_check.specs.Prepared.{prepared, prepared_operation, IsPrepareFault}
use Rattle.gq_check.proofs.Planning.{again-prepares}
use Rattle.request_line.specs.Requests.{RequestOf}
use Rattle.plan_requests.specs.DocumentCaches.{IsKept}
use Rattle.plan_requests.specs.Planning.{HasOperation, IsPlanned, values_of}
use Rattle.plan_requests.specs.Requests.{IsPlanOf, IsUnprepared}
use Rattle.plan_requests.specs.Servers.{ServerOf}

pub kept-plan : (defs : List Definition) (query : List ℕ) (k : KeptParts) (name : Option (List ℕ)) (given : Data) (p : PlanParts) → IsKept defs query k → p.fragments ≡ k.fragments
    → prepared (tree_of k.definitions) (map operation_of k.operations) name given ≡ Ok (record { operation = (plan_of p).operation; variables = (plan_of p).variables }) → IsPlanOf (tree_of defs) query name given (plan_of p)
kept-plan defs query k name given p is same e = record {
  document = kept_document k;
  says = is.says;
  valid = is.valid;
  fragments = ap (λ (fs : List Fragment). fragments_of fs) same;
  prepared = subst (λ (ds : List Definition). prepared (tree_of ds) (map operation_of k.operations) name given ≡ Ok (record { operation = (plan_of p).operation; variables = (plan_of p).variables })) is.definitions e;
}

pub kept-fault : (defs : List Definition) (query : List ℕ) (k : KeptParts) (name : Option (List ℕ)) (given : Data) (fault : PrepareFault) → IsKept defs query k → IsPrepareFault (prepared (tree_of k.definitions) (map operation_of k.operations) name given) fault
    → IsUnprepared (tree_of defs) query name given fault
kept-fault defs query k name given fault is e = record {
  document = kept_document k;
  says = is.says;
  valid = is.valid;
  fault = subst (λ (ds : List Definition). IsPrepareFault (prepared (tree_of ds) (map operation_of k.operations) name given) fault) is.definitions e;
}

-- ---- operations that were planned before

-- The document of a plan prepares, for a request that asks for the same operation, what the plan's operation gives with its values.
prepares-as : (s : ServerOf) (r : RequestOf) (p : PlanParts) (h : HasOperation s r (plan_of p)) (given : Data) → prepared (tree_of s.definitions) h.planned.planned.document.operations r.operation_name given ≡ prepared_operation (tree_of p.definitions) given (Ok (operation_of p.operation))
prepares-as s r p h given =
    let is = h.planned.planned in
    ap (λ n. prepared (tree_of s.definitions) is.document.operations n given) (sym h.name)
    ∙ again-prepares (tree_of s.definitions) is.document.operations h.first.operation_name (values_of h.first.variables) given (prepared_in p) is.prepared
    ∙ ap (λ (ds : List schema.Definition). prepared_operation ds given (Ok (operation_of p.operation))) (sym h.planned.definitions)

pub plan-again : (s : ServerOf) (r : RequestOf) (p new : PlanParts) → HasOperation s r (plan_of p) → (given : Data) → given ≡ values_of r.variables → IsSameBut p new → prepared_operation (tree_of p.definitions) given (Ok (operation_of p.operation)) ≡ Ok (prepared_in new) → IsPlanned s r (plan_of new)
plan-again s r p new h given v same e =
    let is = h.planned.planned in
    record {
      definitions = ap tree_of same.definitions ∙ h.planned.definitions;
      bindings = same.bindings ∙ h.planned.bindings;
      planned = record {
        document = is.document;
        says = rw (← h.query) is.says;
        valid = is.valid;
        fragments = ap (λ (fs : List Fragment). fragments_of fs) same.fragments ∙ is.fragments;
        prepared = rw (← v) (prepares-as s r p h given ∙ e);
      };
    }

pub fault-again : (s : ServerOf) (r : RequestOf) (p : PlanParts) (fault : PrepareFault) → HasOperation s r (plan_of p) → (given : Data) → IsPrepareFault (prepared_operation (tree_of p.definitions) given (Ok (operation_of p.operation))) fault → IsUnprepared (tree_of s.definitions) r.query r.operation_name given fault
fault-again s r p fault h given e =
    let is = h.planned.planned in
    record {
      document = is.document;
      says = rw (← h.query) is.says;
      valid = is.valid;
      fault = rw (prepares-as s r p h given) e;
    }
