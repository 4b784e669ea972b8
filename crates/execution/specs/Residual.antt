-- A suspended program is what is left of a program of which a part is done.
use Rattle.std.specs.Prelude.{◌≡◌, None}
use Rattle.execution.specs.Loads.{Reader}
use Rattle.execution.specs.Program.{given, Program, Is, Read, Under, Programs, End, With}

-- gives what is left once each load that is answered is read
abbrev mutual
  pub rest : Program → Reader → Program
  rest (Is own) R = Is own
  rest (Read load next) R = given (R load) (Read load next) (λ outcome. rest (next outcome) R)
  rest (Under kind below) R = Under kind (all_rest below R)

  pub all_rest : Programs → Reader → Programs
  all_rest End R = End
  all_rest (With position program more) R = With position (rest program R) (all_rest more R)

-- the first is of the second, and has done only what the reader answers
abbrev pub Fits : Program → Program → Reader → Type 0
Fits suspended program R = rest suspended R ≡ rest program R

-- that answers nothing: over it a suspended program has what it holds as done, and is open where it waits
abbrev pub unanswered : Reader
unanswered load = None
