use Rattle.std.proofs.Common.{◌≡◌, List, length}
use Rattle.json.specs.Lex.{tokens}
use Rattle.json.specs.Token.{Token}
use Rattle.gq_resolve.specs.AnswerTexts.{data_tokens}
use Rattle.gq_resolve.specs.ReadBack.{all_taken}
use Rattle.gq_resolve.specs.Texted.{nothing_written, written_of}
use Rattle.gq_resolve.proofs.completed_text.CompletedText.read_back.Given as goal

abbrev pub invariant-loop-token : goal.invariant-loop-token
invariant-loop-token l = (us : List Token) → tokens l.text ≡ data_tokens us → all_taken l.reader (written_of l.back) ≡ all_taken us (nothing_written l.most)

abbrev pub decreases-loop-token : goal.decreases-loop-token
decreases-loop-token l = length l.reader
