use Rattle.std.proofs.Common.{arith, ap, sym, ◌∙◌}
use Rattle.std.proofs.lemmas.Str.Pattern.{strip_suffix_char}
use Rattle.bindings_syntax.proofs.Cutting.{line_found, last_line, unreturned_from}
use Rattle.fault_sentences.proofs.cut.first_line.Goals as goal

pub returns-in-Some-clause-line : goal.returns-in-Some-clause-line
returns-in-Some-clause-line c =
    line_found c.args.text.now _ _ _ c.in-Some.ensures.parts
    (ap (λ l. l.now) c.unwrap_or.ensures ∙ unreturned_from c.in-Some.line c.strip_suffix.result (strip_suffix_char 13 _ _ c.strip_suffix.ensures.cases (omega arith)))

pub returns-else-is_empty-clause-line : goal.returns-else-is_empty-clause-line
returns-else-is_empty-clause-line c =
    last_line c.args.text.now c.in-None.ensures.parts (sym c.is_empty.ensures ∙ c.if-is_empty.false)
