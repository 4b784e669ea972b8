use Rattle.std.proofs.Common.{◌≡◌, ap, subst, map, List, Ok}
use Rattle.std.specs.Option.{option_map}
use Rattle.serde_json.specs.View.{view}
use Rattle.gq_parser.specs.declared.tree.Fragment.{Fragment}
use Rattle.gq_parser.specs.Tree.{operation_of, document_of}
use Rattle.schema_syntax.specs.declared.tree.Definition.{Definition}
use Rattle.gq_schema.specs.Types.{tree_of}
use Rattle.gq_check.specs.Plans.{fragments_of, plan_of}
use Rattle.gq_check.specs.Prepared.{prepared, IsPrepareFault}
use Rattle.plan_requests.proofs.server.Server.plan.Goals as goal

pub returns-in-Ok-prepare-clause-ok : goal.returns-in-Ok-prepare-clause-ok
returns-in-Ok-prepare-clause-ok c =
    let checked = c.in-Ok.checked.document in
    let plan = plan_of c.in-Ok-prepare.plan in
    let name = option_map (λ name. name.now) c.args.operation_name in
    let given = view c.args.variables.now in
    record {
      document = document_of checked;
      says = c.in-Ok.ensures.says;
      valid = c.in-Ok.ensures.valid;
      fragments = ap (λ (fs : List Fragment). fragments_of fs) c.in-Ok-prepare.ensures.fragments;
      prepared = subst (λ (ds : List Definition). prepared (tree_of ds) (map operation_of checked.operations.items) name given ≡ Ok (record { operation = plan.operation; variables = plan.variables })) c.in-Ok.ensures.definitions c.in-Ok-prepare.ensures.ok;
    }

pub returns-in-Err-prepare-clause-err : goal.returns-in-Err-prepare-clause-err
returns-in-Err-prepare-clause-err c =
    let checked = c.in-Ok.checked.document in
    let name = option_map (λ name. name.now) c.args.operation_name in
    let given = view c.args.variables.now in
    record {
      document = document_of checked;
      says = c.in-Ok.ensures.says;
      valid = c.in-Ok.ensures.valid;
      fault = subst (λ (ds : List Definition). IsPrepareFault (prepared (tree_of ds) (map operation_of checked.operations.items) name given) c.in-Err-prepare.fault) c.in-Ok.ensures.definitions c.in-Err-prepare.ensures.err;
    }

pub returns-in-Err-clause-err : goal.returns-in-Err-clause-err
returns-in-Err-clause-err c = c.in-Err.ensures.err (option_map (λ name. name.now) c.args.operation_name) (view c.args.variables.now)
