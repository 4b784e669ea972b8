-- Definitions of how the end of a line is found.
use Rattle.std.specs.Prelude.{ℕ, ◌&&◌, ◌==◌, List, [], ◌∷◌, nat_eq, if◌then◌else◌}
use Rattle.std.specs.List.{starts_with}
use Rattle.gq_lexer.specs.Characters.{line_feed, carriage_return}

-- gives how many bytes end a line, where the text ends or one of them comes first
abbrev pub line_end_len : List ℕ → ℕ
line_end_len [] = 0
line_end_len (b ∷ bs) =
    if b == carriage_return && starts_with nat_eq bs (line_feed ∷ []) then 2 else 1
