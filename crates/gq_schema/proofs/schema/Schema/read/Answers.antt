use Rattle.gq_schema.proofs.ReadingLaws.{found, only, unread}
use Rattle.gq_schema.proofs.schema.Schema.read.Goals as goal

pub returns-clause-found : goal.returns-clause-found
returns-clause-found c =
    found c.args.text.now c.in_ok-document.document.definitions.items c.check.result c.in_ok-document.ensures.found c.check.ensures.definitions c.check.ensures.sound

pub returns-clause-only : goal.returns-clause-only
returns-clause-only c = λ defs schema.
    only c.args.text.now c.in_ok-document.document.definitions.items c.check.result defs (c.in_ok-document.ensures.only defs schema.says) schema.keeps c.check.ensures.definitions c.check.ensures.fault

pub returns-in_err-document-clause-only : goal.returns-in_err-document-clause-only
returns-in_err-document-clause-only c = λ defs schema. unread defs c.from_residual.result c.in_err-document.field-0.0 c.from_residual.ensures.1 (c.in_err-document.ensures.only defs schema.says)
