-- The lines of a bindings text, and which of them count.
use Rattle.std.specs.Prelude.{ℕ, ◌+◌, List, [], ◌∷◌, Bool, true, false, ◌&&◌, ◌==◌, if◌then◌else◌}
use Rattle.bindings_syntax.specs.Cuts.{Text}

abbrev pub line_feed : ℕ
line_feed = 10

abbrev pub carriage_return : ℕ
carriage_return = 13

abbrev pub number_sign : ℕ
number_sign = 35

-- a byte more at the front of the first line
abbrev pub on_first : ℕ → List Text → List Text
on_first b [] = (b ∷ []) ∷ []
on_first b (line ∷ lines) = (b ∷ line) ∷ lines

abbrev pub begins_with_line_feed : Text → Bool
begins_with_line_feed [] = false
begins_with_line_feed (b ∷ bs) = b == line_feed

-- Each line ends at a line feed or at the end of the text, and a last line feed begins no further line. A carriage
-- return right before a line feed belongs to the line's end.
abbrev pub statement_lines : Text → List Text
statement_lines [] = []
statement_lines (b ∷ bs) =
    if b == line_feed then [] ∷ statement_lines bs
    else (if begins_with_line_feed bs && (b == carriage_return) then statement_lines bs
    else on_first b (statement_lines bs))

-- an empty line, and one whose first character is `#`
abbrev pub is_skipped : Text → Bool
is_skipped [] = true
is_skipped (b ∷ bs) = b == number_sign

-- a line with its number
pub record NumberedLine : Type 0 where
  pub number : ℕ
  pub text : Text

-- the lines that count, where the first has this number: skipped lines are counted
abbrev pub kept_from : ℕ → List Text → List NumberedLine
kept_from n [] = []
kept_from n (line ∷ lines) = if is_skipped line then kept_from (n + 1) lines
    else record { number = n; text = line } ∷ kept_from (n + 1) lines

-- the lines of a text that count, numbered from 1
abbrev pub kept_lines : Text → List NumberedLine
kept_lines text = kept_from 1 (statement_lines text)
