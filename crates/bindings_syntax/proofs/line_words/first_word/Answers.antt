use Rattle.std.proofs.Common.{rules, sym, ◌∙◌}
use Rattle.bindings_syntax.proofs.Cutting.{word_found, word_passed, last_word}
use Rattle.bindings_syntax.proofs.line_words.first_word.Goals as goal

pub returns-then-not-is_empty : goal.returns-then-not-is_empty
returns-then-not-is_empty c =
    c.loop-word.invariant.same
    ∙ word_found c.loop-word.rest.now _ _ c.in-Some.ensures.parts (sym c.is_empty.ensures ∙ c.if-not-is_empty.true)

pub loop-word-preserved : goal.loop-word-preserved
loop-word-preserved c = record {
  utf8 = search rules;
  same = c.loop-word.invariant.same
      ∙ word_passed c.loop-word.rest.now _ _ c.in-Some.ensures.parts (sym c.is_empty.ensures ∙ c.if-not-is_empty.false);
}

pub returns-else-is_empty : goal.returns-else-is_empty
returns-else-is_empty c =
    c.loop-word.invariant.same
    ∙ last_word c.loop-word.rest.now c.in_default.ensures.parts (sym c.is_empty-2.ensures ∙ c.if-is_empty.false)
