-- *Limited text*: an answer whose text is longer than a limit is refused.
use Rattle.std.specs.Prelude.{◌≡◌, ◌<◌, ℕ, Option, false, List, length, nat_lt, if◌then◌else◌, Some, None, String, string_bytes, codes}
use Rattle.std.specs.declared.alloc.Global.{Global}
use Rattle.answer_json.specs.Answer.{json_text, refusal_json}
use Rattle.execution.specs.Completion.{is_open}
use Rattle.execution.specs.Executed.{completed}
use Rattle.execution.specs.Loads.{Reader}
use Rattle.execution.specs.Program.{Program, tree}
use Rattle.gq_resolve.specs.Answered.{answer_text}

-- the refusal of an answer that is too long
abbrev pub too_long_text : List ℕ
too_long_text = json_text (refusal_json (codes "answer too long") None)

-- a text of more than `most` bytes is refused
abbrev pub limited_text : ℕ → List ℕ → List ℕ
limited_text most text = if nat_lt most (length text) then too_long_text else text

-- the text of a program's answer, of which nothing is missing, or none where it is longer
abbrev pub AnswersWithin : ℕ → Program → Reader → Option (String Global) → Type 0
AnswersWithin most p R (Some text) = is_open (tree p R) ≡ false
    → string_bytes text ≡ answer_text (completed (tree p R))
AnswersWithin most p R None = is_open (tree p R) ≡ false
    → most < length (answer_text (completed (tree p R)))
