-- Definitions of how lines are answered by what has a state.
use Rattle.std.specs.Prelude.{◌≡◌, ◌⊎◌, ◌≤◌, ℕ, List, [], ◌∷◌, ◌++◌, length, Result, Ok, Err, String, string_bytes}
use Rattle.std.specs.Fn.{CalledAt}
use denote.Param.Members.{Mut}
use denote.Ref.{Bor}
use Rattle.std.specs.declared.alloc.Global.{Global}
use Rattle.server_lines.specs.declared.fault.LineFault.{LineFault}
use Rattle.server_lines.specs.declared.fault.LineFault.TheVariants.{NoMemory, TraceFault}
use Rattle.server_lines.specs.Lines.{limit, HasNoLineFeed, Splits, ended, input_lines}

-- From a state a line is given a text, and leaves a state; or a fault keeps it from its answer, and leaves a state.
pub record AnsweringOf (F : Type 0) : Type 1 where
  pub gives : F → List ℕ → List ℕ → F → Type 0
  pub stops : LineFault → F → List ℕ → F → Type 0

-- nothing but memory keeps a line from its answer
abbrev pub at_memory : {F : Type 0} → (F → List ℕ → F → Type 0)
    → LineFault → F → List ℕ → F → Type 0
at_memory runs_out NoMemory f line g = runs_out f line g
at_memory runs_out TraceFault f line g = ⊥

-- a call of f with this line may give this text, and leave g
pub record Gives {F : Type 0}
    (m : Mut F (Bor (List ℕ) × Unit {0}) (Result (String Global) LineFault)) (f : F)
    (line text : List ℕ) (g : F) : Type 0 where
  pub given : String Global
  pub called : CalledAt m f line (Ok given) g
  pub bytes : string_bytes given ≡ text

-- a call of f with this line may end with this fault, and leave g
abbrev pub Stops : {F : Type 0} → Mut F (Bor (List ℕ) × Unit {0}) (Result (String Global) LineFault)
    → LineFault → F → List ℕ → F → Type 0
Stops m fault f line g = CalledAt m f line (Err fault) g

-- lines are answered by calls, one for each, and f is what is called
abbrev pub by_calls : {F : Type 0}
    → Mut F (Bor (List ℕ) × Unit {0}) (Result (String Global) LineFault) → AnsweringOf F
by_calls m = record { gives = Gives m; stops = Stops m }

-- the bytes are an answer of each line in order, each with a line feed, and the states go from f to g
abbrev pub AreAnswers : {F : Type 0} → AnsweringOf F → F → List (List ℕ) → List ℕ → F → Type 0
AreAnswers A f [] out g = (out ≡ []) × (g ≡ f)
AreAnswers {F} A f (line ∷ lines) out g =
    (text : List ℕ) × (more : List ℕ) × (mid : F) × A.gives f line text mid
    × AreAnswers A mid lines more g × (out ≡ ended text ++ more)

-- Program output: what is written for an input
abbrev pub IsOutput : {F : Type 0} → AnsweringOf F → F → List ℕ → List ℕ → F → Type 0
IsOutput A f input out g = AreAnswers A f (input_lines input) out g

-- an answer of this line, and then its line feed
abbrev pub WithAnswer : {F : Type 0} → AnsweringOf F → F → List ℕ → F → (List ℕ → Type 0) → Type 0
WithAnswer A f line g P = (text : List ℕ) × A.gives f line text g × P (ended text)

-- answers of these lines
abbrev pub WithAnswers : {F : Type 0} → AnsweringOf F
    → F → List (List ℕ) → F → (List ℕ → Type 0) → Type 0
WithAnswers A f lines g P = (out : List ℕ) × AreAnswers A f lines out g × P out

-- whole lines at the front of a text, an answer of each, and the state that they leave
pub record FrontOf {F : Type 0} (A : AnsweringOf F) (f : F) (text : List ℕ) : Type 0 where
  pub lines : List (List ℕ)
  pub rest : List ℕ
  pub output : List ℕ
  pub state : F
  pub splits : Splits text lines rest
  pub answers : AreAnswers A f lines output state

-- the line is the next one, and may be answered; it has no line feed only where the input ends
pub record IsNext (rest line : List ℕ) (AtEnd : Type 0) : Type 0 where
  pub first : (more : List (List ℕ)) × (input_lines rest ≡ line ∷ more)
  pub whole : HasNoLineFeed rest → AtEnd
  pub short : length line ≤ limit

-- a fault keeps the next line from its answer, and left g
abbrev pub StopsNext : {F : Type 0} → AnsweringOf F → LineFault → F → List ℕ → Type 0 → F → Type 0
StopsNext A fault f rest AtEnd g = (line : List ℕ) × IsNext rest line AtEnd × A.stops fault f line g

-- a fault keeps the next line from its answer, and left g; where memory ran out, the state may still be f
abbrev pub IsStopped : {F : Type 0} → AnsweringOf F → LineFault → F → List ℕ → Type 0 → F → Type 0
IsStopped A NoMemory f rest AtEnd g = (g ≡ f) ⊎ StopsNext A NoMemory f rest AtEnd g
IsStopped A TraceFault f rest AtEnd g = StopsNext A TraceFault f rest AtEnd g

-- the state is still f, or a fault keeps the next line from its answer, and left g
abbrev pub MayStop : {F : Type 0} → AnsweringOf F → F → List ℕ → Type 0 → F → Type 0
MayStop A f rest AtEnd g = (g ≡ f) ⊎ ((fault : LineFault) × StopsNext A fault f rest AtEnd g)
