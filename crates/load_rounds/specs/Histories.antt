-- Calls of a session, one after another: the steps that they make, and what the logs gain by them.
use Rattle.std.specs.Prelude.{◌≡◌, ◌==◌, ◌⊎◌, ℕ, Bool, true, false, List, [], ◌∷◌, ◌++◌, map, length, drop, Option, Some, None, slice_get}
use Rattle.std.specs.List.{filter}
use Rattle.load_memory.specs.Keys.{KeyOf}
use Rattle.load_memory.specs.Outcomes.{OutcomeOf, batch_fault}
use Rattle.load_memory.specs.Pairs.{PairOf}
use Rattle.load_memory.specs.Replies.{ReplyOf}
use Rattle.load_memory.specs.declared.key.KeyMode.{KeyMode}
use Rattle.load_queue.specs.Answers.{AnswerOf}
use Rattle.load_queue.specs.Loaders.{LoaderOf, AskedOf}
use Rattle.execution.specs.Loads.{IsOneOf}
use Rattle.execution.specs.Program.{Program}
use Rattle.execution.specs.Completion.{AnsweredOf}
use Rattle.execution.specs.Sessions.{Step, Forgot, AskedLoads, Lost, Primed, Cleared, ClearedAll, Restarted, Cell, key_cell, is_cell, IsAnsweredIn}
use Rattle.execution.specs.Logs.{HasPair}
use Rattle.load_rounds.specs.Sessions.{SessionOf, StateOf, state_of, session_modes, after_steps, MayBe}
use Rattle.load_rounds.specs.Calls.{asked_for, IsLoaded, IsStopped}
use Rattle.load_rounds.specs.Headline.{Headline, StopsAnswering}
use Rattle.load_rounds.specs.SharedRounds.{RequestOf, ReportOf, SharedHeadline}

-- A call that a session didn't refuse for its loader's number.
pub data Call : Type 0 where
  -- `load` or `load_many` of a loader's keys, with the outcomes that it gave
  Loading : ℕ → List KeyOf → List OutcomeOf → Call
  -- a `load` or `load_many` at which memory ran out
  StoppedLoading : ℕ → List KeyOf → Call
  -- `prime` of a pair, `clear` of a cell, `clear_all` of a loader
  Priming : PairOf → Call
  Clearing : Cell → Call
  ClearingAll : ℕ → Call
  -- a `prime` or a `clear` at which memory was wanted
  Forgetting : Call
  -- `answer` or an answering future of a program, with its text and its rounds
  Executing : Program → (AnsweredOf → List ℕ) → List ℕ → ℕ → Call
  -- an `answer` or an answering future at which memory ran out, or a run that was dropped, at whatever stage
  StoppedExecuting : Program → Call
  -- `answer_all` of several requests, with its report of each; where memory was wanted, and in a run by hand, they are one program
  ExecutingTogether : List RequestOf → List ReportOf → Call
  -- `restart`
  Restarting : Call

-- the call clears this cell
abbrev pub clears_at : Cell → Call → Bool
clears_at cell (Loading loader keys outcomes) = false
clears_at cell (StoppedLoading loader keys) = false
clears_at cell (Priming pair) = false
clears_at cell (Clearing c) = is_cell c cell
clears_at cell (ClearingAll loader) = loader == cell.0
clears_at cell Forgetting = false
clears_at cell (Executing p text_of text rounds) = false
clears_at cell (StoppedExecuting p) = false
clears_at cell (ExecutingTogether rs reports) = false
clears_at cell Restarting = true

-- rounds alone, stored or lost
abbrev pub AreAsking : List Step → Type 0
AreAsking [] = Unit {0}
AreAsking (AskedLoads loads replies ∷ steps) = AreAsking steps
AreAsking (Lost loads ∷ steps) = AreAsking steps
AreAsking (Forgot ∷ steps) = ⊥
AreAsking (Primed pair ∷ steps) = ⊥
AreAsking (Cleared cell ∷ steps) = ⊥
AreAsking (ClearedAll loader ∷ steps) = ⊥
AreAsking (Restarted ∷ steps) = ⊥

-- the steps of a call once failed batches are forgotten
abbrev pub IsMadeOf : Call → List Step → Type 0
IsMadeOf (Loading loader keys outcomes) steps = AreAsking steps
IsMadeOf (StoppedLoading loader keys) steps = AreAsking steps
IsMadeOf (Priming pair) steps = steps ≡ Primed pair ∷ []
IsMadeOf (Clearing cell) steps = steps ≡ Cleared cell ∷ []
IsMadeOf (ClearingAll loader) steps = steps ≡ ClearedAll loader ∷ []
IsMadeOf Forgetting steps = steps ≡ []
IsMadeOf (Executing p text_of text rounds) steps = AreAsking steps
IsMadeOf (StoppedExecuting p) steps = AreAsking steps
IsMadeOf (ExecutingTogether rs reports) steps = AreAsking steps
IsMadeOf Restarting steps = steps ≡ Restarted ∷ []

-- the steps of calls, one after another
abbrev pub AreMadeOf : List Call → List Step → Type 0
AreMadeOf [] steps = steps ≡ []
AreMadeOf (call ∷ calls) steps = (own : List Step) × (more : List Step)
    × (steps ≡ Forgot ∷ (own ++ more)) × IsMadeOf call own × AreMadeOf calls more

-- the replies of each round that was stored
abbrev pub replies_of : List Step → List (List ReplyOf)
replies_of [] = []
replies_of (AskedLoads loads replies ∷ steps) = replies ∷ replies_of steps
replies_of (Lost loads ∷ steps) = replies_of steps
replies_of (Forgot ∷ steps) = replies_of steps
replies_of (Primed pair ∷ steps) = replies_of steps
replies_of (Cleared cell ∷ steps) = replies_of steps
replies_of (ClearedAll loader ∷ steps) = replies_of steps
replies_of (Restarted ∷ steps) = replies_of steps

-- the cells of what entries of a loader's log asked
abbrev pub entered_cells : List KeyMode → ℕ → List AskedOf → List Cell
entered_cells modes loader [] = []
entered_cells modes loader (e ∷ es) =
    map (key_cell modes loader) e.keys ++ entered_cells modes loader es

module _ {S : Type 0} where
  abbrev pub log_in : Option (LoaderOf S) → List AskedOf
  log_in None = []
  log_in (Some l) = l.log

  abbrev pub log_of : StateOf S → ℕ → List AskedOf
  log_of s loader = log_in (slice_get s.loaders loader)

  -- gives what the log of a loader gained from a state to another, and that of it which is stored
  abbrev pub gained : ℕ → StateOf S → StateOf S → List AskedOf
  gained loader old new = drop (length (log_of old loader)) (log_of new loader)

  abbrev pub stored_gained : ℕ → StateOf S → StateOf S → List AskedOf
  stored_gained loader old new = filter (λ e. e.stored) (gained loader old new)

  -- gives what was asked of a loader in rounds that were stored
  abbrev pub gained_cells : ℕ → StateOf S → StateOf S → List Cell
  gained_cells loader old new =
      entered_cells (session_modes old) loader (stored_gained loader old new)

  -- the cell was asked in a round that was stored
  abbrev pub IsEntered : Cell → StateOf S → StateOf S → Type 0
  IsEntered cell old new = IsOneOf cell (gained_cells cell.0 old new)

  -- the cell's outcome is the fault of its whole batch
  abbrev pub IsFailedAt : Cell → StateOf S → Type 0
  IsFailedAt cell s = (text : List ℕ) × (s.memory cell.0 cell.1 ≡ Some (batch_fault text))

  -- says where it makes no difference what sources may answer
  abbrev pub any_tell : S → List KeyOf → AnswerOf → Type 0
  any_tell source keys answer = Unit {0}

  module _ (may : S → List KeyOf → AnswerOf → Type 0) where
    -- steps that may be, from a state to another: each round asked loads that the memory lacked, of equal cache keys the first
    pub record Leads (old : StateOf S) (steps : List Step) (new : StateOf S) : Type 0 where
      pub after : new ≡ after_steps old steps
      pub may_be : MayBe may old steps

    -- says what the contract of the call says of the states before and after it
    abbrev pub IsCall : Call → StateOf S → StateOf S → Type 0
    IsCall (Loading loader keys outcomes) old new = IsLoaded may old new loader keys outcomes
    IsCall (StoppedLoading loader keys) old new = IsStopped may old new (asked_for old loader keys)
    IsCall (Priming pair) old new = new ≡ after_steps old (Forgot ∷ Primed pair ∷ [])
    IsCall (Clearing cell) old new = new ≡ after_steps old (Forgot ∷ Cleared cell ∷ [])
    IsCall (ClearingAll loader) old new = new ≡ after_steps old (Forgot ∷ ClearedAll loader ∷ [])
    IsCall Forgetting old new = new ≡ after_steps old (Forgot ∷ [])
    IsCall (Executing p text_of text rounds) old new = Headline may old new p text_of text rounds
    IsCall (StoppedExecuting p) old new = StopsAnswering may old new p
    IsCall (ExecutingTogether rs reports) old new = SharedHeadline may old new rs reports
    IsCall Restarting old new = new ≡ after_steps old (Forgot ∷ Restarted ∷ [])

    abbrev pub IsCallOf : Call → SessionOf S → SessionOf S → Type 0
    IsCallOf call old new = IsCall call (state_of old) (state_of new)

    -- calls one after another
    abbrev pub AreCalls : List Call → StateOf S → StateOf S → Type 0
    AreCalls [] old new = new ≡ old
    AreCalls (call ∷ calls) old new = (mid : StateOf S)
        × IsCall call old mid × AreCalls calls mid new

-- two calls of a session, the calls between them, the states before and after each, and a cell
pub record TwiceOf (S : Type 0) : Type 0 where
  pub first : Call
  pub between : List Call
  pub last : Call
  pub cell : Cell
  pub old : StateOf S
  pub mid : StateOf S
  pub late : StateOf S
  pub new : StateOf S

module _ {S : Type 0} (may : S → List KeyOf → AnswerOf → Type 0) where
  -- both calls asked the cell, each in a round that was stored
  pub record AskTwice (t : TwiceOf S) : Type 0 where
    pub one : IsCall may t.first t.old t.mid
    pub between : AreCalls may t.between t.mid t.late
    pub two : IsCall may t.last t.late t.new
    pub entered : IsEntered t.cell t.old t.mid
    pub entered_again : IsEntered t.cell t.late t.new

  -- a pair's origin after calls: it was there, was primed by one of them, or is in a reply of one of their rounds
  abbrev pub IsFrom : List Call → StateOf S → StateOf S → PairOf → Type 0
  IsFrom calls old new pair = HasPair old.memory pair ⊎ IsOneOf (Priming pair) calls
      ⊎ ((steps : List Step) × Leads may old steps new × AreMadeOf calls steps
      × IsAnsweredIn (session_modes old) pair (replies_of steps))
