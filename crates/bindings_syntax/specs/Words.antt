-- The words of a line.
use Rattle.std.specs.Prelude.{ℕ, List, [], ◌∷◌, Bool, false, not, ◌==◌, if◌then◌else◌}
use Rattle.bindings_syntax.specs.Cuts.{Text}
use Rattle.bindings_syntax.specs.Lines.{on_first}

abbrev pub space : ℕ
space = 32

-- another byte than a space is next
abbrev pub goes_on : Text → Bool
goes_on [] = false
goes_on (b ∷ bs) = not (b == space)

-- the longest runs of other bytes than spaces, in order
abbrev pub words_of : Text → List Text
words_of [] = []
words_of (b ∷ bs) =
    if b == space then words_of bs
    else (if goes_on bs then on_first b (words_of bs) else (b ∷ []) ∷ words_of bs)
