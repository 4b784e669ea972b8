-- The lines of an input.
use Rattle.std.specs.Prelude.{◌≡◌, ◌≢◌, ℕ, ◌≤◌, ◌<◌, ◌==◌, List, [], ◌∷◌, ◌++◌, length, if◌then◌else◌}
use Rattle.std.specs.List.{All, flat_map}

abbrev pub line_feed : ℕ
line_feed = 10

-- the most bytes of a line
abbrev pub limit : ℕ
limit = 4194304

abbrev pub HasNoLineFeed : List ℕ → Type 0
HasNoLineFeed text = All (λ b. b ≢ line_feed) text

-- a line that may be answered, without its line feed
pub record IsLine (line : List ℕ) : Type 0 where
  pub one : HasNoLineFeed line
  pub short : length line ≤ limit

-- a line and its line feed
abbrev pub ended : List ℕ → List ℕ
ended line = line ++ line_feed ∷ []

-- a byte more at the front of the first line
abbrev pub on_first : ℕ → List (List ℕ) → List (List ℕ)
on_first b [] = (b ∷ []) ∷ []
on_first b (line ∷ lines) = (b ∷ line) ∷ lines

-- Each line ends at a line feed or at the end of the input. A last line feed begins no further line.
abbrev pub input_lines : List ℕ → List (List ℕ)
input_lines [] = []
input_lines (b ∷ bs) = if b == line_feed then [] ∷ input_lines bs else on_first b (input_lines bs)

-- the last line, where the input doesn't end with a line feed
abbrev pub last_of : List ℕ → List (List ℕ)
last_of [] = []
last_of (b ∷ bs) = (b ∷ bs) ∷ []

-- a line of more bytes than the limit stands at the front, whatever comes after
pub record IsLong (text line rest : List ℕ) : Type 0 where
  pub front : text ≡ line ++ rest
  pub one : HasNoLineFeed line
  pub long : limit < length line

-- these whole lines stand at the front of the text, before the rest
pub record Splits (text : List ℕ) (lines : List (List ℕ)) (rest : List ℕ) : Type 0 where
  pub whole : text ≡ flat_map ended lines ++ rest
  pub each : All IsLine lines
