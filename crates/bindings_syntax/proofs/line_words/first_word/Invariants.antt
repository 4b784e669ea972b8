use Rattle.std.proofs.Common.{◌≡◌, length}
use denote.Shadow.{shadow}
use denote.Text.{Utf8}
use Rattle.bindings_syntax.specs.Words.{words_of}
use Rattle.bindings_syntax.proofs.line_words.first_word.Given as goal

abbrev pub invariant-loop-word : goal.invariant-loop-word
invariant-loop-word l = record { utf8 : shadow (Utf8 l.rest); same : words_of l.line ≡ words_of l.rest }

abbrev pub decreases-loop-word : goal.decreases-loop-word
decreases-loop-word l = length l.rest
