use Rattle.std.proofs.Common.{◌≡◌, ◌++◌, length, map}
use denote.Text.{Utf8}
use denote.Shadow.{shadow}
use Rattle.bindings_syntax.specs.Words.{words_of}
use Rattle.fault_sentences.proofs.cut.words_of.Given as goal

abbrev pub invariant-loop-word : goal.invariant-loop-word
invariant-loop-word l = record {
  utf8 : shadow (Utf8 l.rest);
  same : map (λ w. w.now) l.words.items ++ words_of l.rest ≡ words_of l.line;
}

abbrev pub decreases-loop-word : goal.decreases-loop-word
decreases-loop-word l = length l.rest
