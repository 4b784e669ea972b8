-- *No key twice*: what the calls of a session do to its memory, one step after another, and which keys they ask.
use Rattle.std.specs.Prelude.{◌≡◌, ◌==◌, ◌&&◌, ◌⊎◌, ℕ, Bool, false, true, List, [], ◌∷◌, ◌++◌, map, length, None, if◌then◌else◌, replicate}
use Rattle.std.specs.List.{list_any}
use Rattle.load_memory.specs.Keys.{KeyOf, folded, same_key}
use Rattle.load_memory.specs.Outcomes.{batch_fault}
use Rattle.load_memory.specs.Pairs.{PairOf}
use Rattle.load_memory.specs.Replies.{ReplyOf}
use Rattle.load_memory.specs.declared.key.KeyMode.{KeyMode}
use Rattle.load_queue.specs.Answers.{AnswerOf}
use Rattle.load_queue.specs.Orders.{OrderOf}
use Rattle.execution.specs.Loads.{Load, Memory, mode_at, read, IsOneOf}
use Rattle.execution.specs.Program.{Program}
use Rattle.execution.specs.Front.{missing, firsts, front}
use Rattle.execution.specs.Rounds.{RuleOf, modes_of, round_orders, AreReplies, reply_pairs, stored, after_round, without_failed}

-- a loader's number and a cache key
abbrev pub Cell : Type 0
Cell = ℕ × KeyOf

abbrev pub key_cell : List KeyMode → ℕ → KeyOf → Cell
key_cell modes loader key = (loader, folded (mode_at modes loader) key)

abbrev pub cell_of : List KeyMode → Load → Cell
cell_of modes load = key_cell modes load.loader load.key

-- no two of these are equal
abbrev pub AreApart : List Cell → Type 0
AreApart [] = Unit {0}
AreApart (c ∷ cs) = (IsOneOf c cs → ⊥) × AreApart cs

-- gives what orders ask
abbrev pub order_cells : List KeyMode → List OrderOf → List Cell
order_cells modes [] = []
order_cells modes (o ∷ os) = map (key_cell modes o.loader) o.keys ++ order_cells modes os

-- A step of a session. A round asks loads that the memory lacks, of equal cache keys the first, and its replies are stored.
-- A lost round stores nothing. A session that starts again knows nothing.
pub data Step : Type 0 where
  Forgot : Step
  AskedLoads : List Load → List ReplyOf → Step
  Lost : List Load → Step
  Primed : PairOf → Step
  Cleared : Cell → Step
  ClearedAll : ℕ → Step
  Restarted : Step

abbrev pub without : (Cell → Bool) → Memory → Memory
without out M loader key = if out (loader, key) then None else M loader key

abbrev pub is_cell : Cell → Cell → Bool
is_cell c d = (c.0 == d.0) && same_key c.1 d.1

-- the memory after a step
abbrev pub after : List RuleOf → Memory → Step → Memory
after rules M Forgot = without_failed M
after rules M (AskedLoads loads replies) = after_round rules M replies
after rules M (Lost loads) = M
after rules M (Primed pair) = stored M (pair ∷ [])
after rules M (Cleared cell) = without (is_cell cell) M
after rules M (ClearedAll loader) = without (λ c. loader == c.0) M
after rules M Restarted = without (λ c. true) M

-- a round's loads are some that the memory lacks, of equal cache keys the first
abbrev pub AreMissing : List KeyMode → Memory → List Load → Type 0
AreMissing modes M loads = (needed : List Load)
    × (loads ≡ firsts modes (missing (read modes M) needed))

abbrev pub IsStep : (ℕ → List KeyOf → AnswerOf → Type 0) → List RuleOf → Memory → Step → Type 0
IsStep may rules M Forgot = Unit {0}
IsStep may rules M (AskedLoads loads replies) = AreMissing (modes_of rules) M loads
    × AreReplies may (round_orders rules loads) replies
IsStep may rules M (Lost loads) = AreMissing (modes_of rules) M loads
IsStep may rules M (Primed pair) = Unit {0}
IsStep may rules M (Cleared cell) = Unit {0}
IsStep may rules M (ClearedAll loader) = Unit {0}
IsStep may rules M Restarted = Unit {0}

abbrev pub AreSteps : (ℕ → List KeyOf → AnswerOf → Type 0)
    → List RuleOf → Memory → List Step → Type 0
AreSteps may rules M [] = Unit {0}
AreSteps may rules M (step ∷ steps) = IsStep may rules M step
    × AreSteps may rules (after rules M step) steps

abbrev pub clears : Cell → Step → Bool
clears cell Forgot = false
clears cell (AskedLoads loads replies) = false
clears cell (Lost loads) = false
clears cell (Primed pair) = false
clears cell (Cleared c) = is_cell c cell
clears cell (ClearedAll loader) = loader == cell.0
clears cell Restarted = true

-- the batch failed as a whole
abbrev pub HasFailed : ReplyOf → Type 0
HasFailed reply = (text : List ℕ)
    × (reply.outcomes ≡ replicate (length reply.keys) (batch_fault text))

-- the cell was asked in a batch that failed as a whole
abbrev pub FailedAt : List KeyMode → Cell → List ReplyOf → Type 0
FailedAt modes cell replies = (reply : ReplyOf) × IsOneOf reply replies
    × IsOneOf cell (map (key_cell modes reply.loader) reply.keys) × HasFailed reply

-- between two rounds that ask one cell it was cleared, or the earlier batch failed as a whole
abbrev pub IsAskedAgainRightly : List KeyMode → Cell → List ReplyOf → List Step → Type 0
IsAskedAgainRightly modes cell replies between = (list_any (clears cell) between ≡ true)
    ⊎ FailedAt modes cell replies

-- gives what the rounds from a memory ask, one after another
abbrev pub asked_cells : List RuleOf → Program → Memory → List (List ReplyOf) → List Cell
asked_cells rules p M [] = []
asked_cells rules p M (round ∷ rounds) =
    order_cells (modes_of rules) (round_orders rules (front (modes_of rules) p M))
    ++ asked_cells rules p (after_round rules M round) rounds

-- the pair is in a reply of one of the rounds
abbrev pub IsAnsweredIn : List KeyMode → PairOf → List (List ReplyOf) → Type 0
IsAnsweredIn modes pair rounds =
    (round : List ReplyOf) × IsOneOf round rounds × (reply : ReplyOf) × IsOneOf reply round
    × IsOneOf pair (reply_pairs (mode_at modes reply.loader) reply.loader reply.keys reply.outcomes)
