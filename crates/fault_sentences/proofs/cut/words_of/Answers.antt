use Rattle.std.proofs.Common.{◌≡◌, ◌∙◌, List, [], ◌∷◌, ◌++◌, map, append_assoc, append-nil, sym, ap, rules, Bor}
use Rattle.std.proofs.lemmas.List.{map-append}
use Rattle.bindings_syntax.specs.Cuts.{Text}
use Rattle.bindings_syntax.specs.Words.{words_of}
use Rattle.bindings_syntax.proofs.Cutting.{word_found, word_passed, last_word, no_word}
use Rattle.fault_sentences.proofs.cut.words_of.Goals as goal
use Rattle.fault_sentences.proofs.cut.words_of.Goals.{then-not-is_empty-2+in_ok-push-2, else-not-is_empty-2}

-- one more word was found
pushed : (words new : List (Bor Text)) (word : Bor Text) (rest after line : Text) → map (λ w. w.now) words ++ words_of rest ≡ words_of line
    → words_of rest ≡ word.now ∷ words_of after → new ≡ words ++ word ∷ [] → map (λ w. w.now) new ++ words_of after ≡ words_of line
pushed words new word rest after line same found is =
    ap (λ (l : List (Bor Text)). map (λ w. w.now) l ++ words_of after) is
    ∙ ap (λ (l : List Text). l ++ words_of after) (map-append (λ (w : Bor Text). w.now) words (word ∷ []))
    ∙ append_assoc (map (λ (w : Bor Text). w.now) words) (word.now ∷ []) (words_of after)
    ∙ ap (λ (l : List Text). map (λ (w : Bor Text). w.now) words ++ l) (sym found)
    ∙ same

-- no word is left
ended : (words : List (Bor Text)) (rest line : Text) → map (λ w. w.now) words ++ words_of rest ≡ words_of line → words_of rest ≡ [] → map (λ w. w.now) words ≡ words_of line
ended words rest line same none =
    sym (append-nil (map (λ (w : Bor Text). w.now) words)) ∙ ap (λ (l : List Text). map (λ (w : Bor Text). w.now) words ++ l) (sym none) ∙ same

pub loop-word-preserved-in_ok-push : goal.loop-word-preserved-in_ok-push
loop-word-preserved-in_ok-push c = record {
  utf8 = search rules;
  same = pushed _ _ c.in-Some.word c.loop-word.rest.now c.in-Some.after.now c.args.line.now c.loop-word.invariant.same
      (word_found c.loop-word.rest.now _ _ c.in-Some.ensures.parts (sym c.is_empty.ensures ∙ c.if-not-is_empty.true))
      c.in_ok-push.ensures.items;
}

pub loop-word-preserved : goal.loop-word-preserved
loop-word-preserved c = record {
  utf8 = search rules;
  same = ap (λ (l : List Text). map (λ (w : Bor Text). w.now) c.loop-word.words.items ++ l)
      (sym (word_passed c.loop-word.rest.now _ _ c.in-Some.ensures.parts (sym c.is_empty.ensures ∙ c.if-not-is_empty.false)))
      ∙ c.loop-word.invariant.same;
}

pub returns : goal.returns
returns c = elim c.if-not-is_empty-2.branch [
  | then-not-is_empty-2+in_ok-push-2 w ↦
      let all = pushed _ _ c.loop-word.rest c.loop-word.rest.now [] c.args.line.now c.loop-word.invariant.same
      (last_word c.loop-word.rest.now c.in_default.ensures.parts (sym c.is_empty-2.ensures ∙ w.if-not-is_empty-2.true))
      w.in_ok-push-2.ensures.items in
      rw w.words-is (sym (append-nil _) ∙ all)
  | else-not-is_empty-2 w ↦
      rw w.words-is (ended _ c.loop-word.rest.now c.args.line.now c.loop-word.invariant.same
      (no_word c.loop-word.rest.now c.in_default.ensures.parts (sym c.is_empty-2.ensures ∙ w.if-not-is_empty-2.false)))
]
