use Rattle.std.proofs.Common.{subst, Option, Some, None}
use Rattle.std.specs.Prelude.{option_map}
use Rattle.gq_parser.specs.Tree.{document_of}
use Rattle.gq_schema.specs.Types.{tree_of}
use Rattle.rules_parts.specs.Parts.{PartsOf, parts_in}
use Rattle.gq_check.specs.declared.report.Report.{Report}
use Rattle.gq_check.specs.Report.{report_of}
use Rattle.gq_check.specs.Verdict.{IsVerdict, IsVerdictOf}
use Rattle.gq_check.proofs.Faults.{tells}
use Rattle.gq_check.proofs.Validity.{listed-own}
use Rattle.gq_check.proofs.validation.validate.Goals as goal

pub verdict-requires : goal.verdict-requires
verdict-requires c = record {
  listed = listed-own (parts_in c.in_ok-parts.parts) (tree_of c.args.schema.now) (document_of c.args.document.now) c.in_ok-parts.ensures;
  graph = c.in_ok-graph.ensures;
}

pub returns-in-Some-clause-err : goal.returns-in-Some-clause-err
returns-in-Some-clause-err c =
    let seen = subst (λ (o : Option Report). IsVerdictOf (parts_in c.in_ok-parts.parts) (option_map report_of o)) c.in-Some.is c.in_ok-report.ensures in
    let whole = subst (λ (p : PartsOf). IsVerdictOf p (Some (report_of c.in-Some.report))) c.in_ok-parts.ensures seen in
    tells (IsVerdict (tree_of c.args.schema.now) (document_of c.args.document.now)) _ _ c.in_ok-to_fault-in-Some.ensures whole

pub returns-clause-ok : goal.returns-clause-ok
returns-clause-ok c =
    let seen = subst (λ (o : Option Report). IsVerdictOf (parts_in c.in_ok-parts.parts) (option_map report_of o)) c.in-None.is c.in_ok-report.ensures in
    subst (λ (p : PartsOf). IsVerdictOf p None) c.in_ok-parts.ensures seen
