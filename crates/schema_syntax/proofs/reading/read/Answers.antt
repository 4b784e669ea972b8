use Rattle.std.proofs.Common.{◌≡◌, ◌≤◌, List, ℕ, length, Option, None, Result, Ok, Err, IfErr, refl, sym, subst, ◌∙◌, arith}
use Rattle.text_place.specs.declared.place.Place.{Place}
use Rattle.gq_lexer.specs.declared.token.Token as lexer
use Rattle.gq_lexer.specs.declared.fault.LexFault.{LexFault}
use Rattle.gq_lexer.specs.Tokens.{AreTokens}
use Rattle.gq_lexer.specs.Faults.{AreTokensBefore, place_of_fault}
use Rattle.gq_parser.specs.Word.{tokens_of}
use Rattle.gq_parser.specs.Fault.{IsShallow, most_brackets, most_bytes}
use Rattle.schema_syntax.specs.declared.fault.SyntaxFault.{SyntaxFault}
use Rattle.schema_syntax.specs.declared.tree.SchemaDocument.{SchemaDocument}
use Rattle.schema_syntax.specs.Grammar.{IsDocument}
use Rattle.schema_syntax.specs.Text.{IsSyntaxFault, IsTextFault, too_long, of_tokens, before_lexical, memory}
use Rattle.schema_syntax.proofs.reading.read.Goals as goal

token_fault : (text : List ℕ) (tokens slice : List lexer.Token) (r : Result SchemaDocument SyntaxFault) → length text ≤ most_bytes → AreTokens text tokens → slice ≡ tokens → IfErr r (IsSyntaxFault text (tokens_of text slice) None) → IfErr r (IsTextFault text)
token_fault text tokens slice (Ok d) short reads same h = tt
token_fault text tokens slice (Err f) short reads same h = of_tokens tokens short reads (subst (λ ts. IsSyntaxFault text (tokens_of text ts) None f) same h)

lexical_fault : (text : List ℕ) (tokens slice : List lexer.Token) (f : LexFault) (place : Option Place) (r : Result SchemaDocument SyntaxFault) → length text ≤ most_bytes → AreTokensBefore text tokens f → slice ≡ tokens → place ≡ place_of_fault f
    → IfErr r (IsSyntaxFault text (tokens_of text slice) place) → IfErr r (IsTextFault text)
lexical_fault text tokens slice f place (Ok d) short before same e h = tt
lexical_fault text tokens slice f place (Err g) short before same e h =
    before_lexical tokens f short before (subst (λ p. IsSyntaxFault text (tokens_of text tokens) p g) e (subst (λ ts. IsSyntaxFault text (tokens_of text ts) place g) same h))

pub returns-then-text-gt-MAX_BYTES-clause-fault : goal.returns-then-text-gt-MAX_BYTES-clause-fault
returns-then-text-gt-MAX_BYTES-clause-fault c = too_long (omega arith)

pub returns-in_default-clause-fault : goal.returns-in_default-clause-fault
returns-in_default-clause-fault c = memory

pub returns-in-None-clause-only : goal.returns-in-None-clause-only
returns-in-None-clause-only c = λ ds s.
    let accepted = c.in-Ok.ensures.accepts s.tokens s.reads in
    let same : c.as_slice.result.now ≡ s.tokens = c.as_slice.ensures.value ∙ accepted.1 in
    c.read_tokens.ensures.only ds (subst (λ ts. IsDocument ds (tokens_of c.args.text.now ts)) (sym same) s.is) (subst (λ ts. IsShallow most_brackets (tokens_of c.args.text.now ts)) (sym same) s.shallow) refl

pub returns-in-None-clause-fault : goal.returns-in-None-clause-fault
returns-in-None-clause-fault c =
    let reads = rw c.in-None.is at c.in-Ok.ensures.lexed in
    token_fault c.args.text.now c.in-Ok.field-0.tokens.items c.as_slice.result.now c.read_tokens.result (omega arith) reads c.as_slice.ensures.value c.read_tokens.ensures.fault

pub returns-clause-only : goal.returns-clause-only
returns-clause-only c = λ ds s.
    let accepted = c.in-Ok.ensures.accepts s.tokens s.reads in
    let none = accepted.0 in
    let some = c.in-Some.is in
    absurd (cc)

pub returns-clause-fault : goal.returns-clause-fault
returns-clause-fault c =
    let before = rw c.in-Some.is at c.in-Ok.ensures.lexed in
    lexical_fault c.args.text.now c.in-Ok.field-0.tokens.items c.as_slice-in-Some.result.now c.in-Some.fault c.place.result c.read_tokens-in-Some.result (omega arith) before c.as_slice-in-Some.ensures.value c.place.ensures c.read_tokens-in-Some.ensures.fault
