use Rattle.std.proofs.Common.{◌∙◌, refl, sym, ap, subst}
use Rattle.std.proofs.lemmas.Result.{err_from_is_err_and}
use Rattle.gq_parser.specs.Word.{tokens_of}
use Rattle.gq_parser.specs.Tree.{document_of}
use Rattle.gq_parser.specs.Grammar.{IsDocument}
use Rattle.gq_parser.specs.Fault.{IsShallow, most_brackets}
use Rattle.gq_parser.proofs.Unique.{document_one}
use Rattle.gq_parser.proofs.Whole.{is_fault, finds_err, text_fault, not_long}
use Rattle.gq_parser.proofs.reading.parse.Goals as goal

pub returns-in_err-tokens-clause-only : goal.returns-in_err-tokens-clause-only
returns-in_err-tokens-clause-only c =
    let p = err_from_is_err_and c.from_residual.result c.from_residual.ensures.1 in
    λ d h. rw (p.1, p.2, c.in_err-tokens.ensures.accepts h.tokens h.short h.reads) refl

pub returns-in-Ok-clause-only : goal.returns-in-Ok-clause-only
returns-in-Ok-clause-only c = λ d h.
    let same = c.new.ensures ∙ ap (tokens_of c.args.text.now) (c.deref.ensures.value ∙ c.in_ok-tokens.ensures.accepts h.tokens h.short h.reads) in
    document_one (subst (IsDocument (document_of c.in-Ok.document)) same c.in-Ok.ensures.found.0) h.is

pub returns-clause-only : goal.returns-clause-only
returns-clause-only c = λ d h.
    let same = c.new.ensures ∙ ap (tokens_of c.args.text.now) (c.deref.ensures.value ∙ c.in_ok-tokens.ensures.accepts h.tokens h.short h.reads) in
    let none = finds_err _ c.in-Err.fault d c.in-Err.ensures.fails (subst (IsDocument d) (sym same) h.is) (subst (IsShallow most_brackets) (sym same) h.shallow) in
    rw (c.parse_fault_of.ensures, none) refl

pub returns-clause-fault : goal.returns-clause-fault
returns-clause-fault c =
    let same = c.new.ensures ∙ ap (tokens_of c.args.text.now) c.deref.ensures.value in
    rw c.parse_fault_of.ensures (text_fault _ c.in_ok-tokens.tokens.items c.in-Err.fault (not_long _ _ (λ h. let e = c.in_ok-tokens.ensures.too_long.1 h in cc)) c.in_ok-tokens.ensures.tokens (is_fault _ _ (rw same at c.in-Err.ensures.fails)))
