-- Definitions of what the calls of a session do.
use Rattle.std.specs.Prelude.{◌≡◌, ◌⊎◌, ℕ, List, [], ◌∷◌, map, Some}
use Rattle.load_memory.specs.Keys.{KeyOf}
use Rattle.load_memory.specs.Outcomes.{OutcomeOf, ItemOf, known}
use Rattle.load_memory.specs.Pairs.{MemoryOf, PairOf, pair_of, look}
use Rattle.load_memory.specs.Replies.{ReplyOf}
use Rattle.load_queue.specs.Answers.{AnswerOf}
use Rattle.execution.specs.Loads.{Load, Reader, read}
use Rattle.execution.specs.Front.{front_of_keys}
use Rattle.execution.specs.Rounds.{round_orders, may_at, AreReplies, without_failed}
use Rattle.execution.specs.Sessions.{Forgot, AskedLoads, Lost, Cell, key_cell}
use Rattle.load_rounds.specs.Sessions.{StateOf, rules_of, session_modes, after_step, of_first}

abbrev pub load_of : ℕ → KeyOf → Load
load_of loader key = record { loader = loader; key = key }

-- gives what a memory says of loads
abbrev pub reader_of : MemoryOf → Reader
reader_of m = read m.modes (look m.pairs)

module _ {S : Type 0} where
  -- a key as the memory has it
  abbrev pub cell_at : StateOf S → ℕ → KeyOf → Cell
  cell_at s loader key = key_cell (session_modes s) loader key

  -- the pair of a key and an item
  abbrev pub pair_at : StateOf S → ℕ → KeyOf → ItemOf → PairOf
  pair_at s loader key item = pair_of loader (cell_at s loader key).1 (known item)

  -- those keys of a loader that aren't known
  abbrev pub front_at : StateOf S → ℕ → List KeyOf → List Load
  front_at s loader keys = front_of_keys (session_modes s) loader keys s.memory

  -- gives what a call asks for keys of a loader: those that aren't known once failed batches are forgotten
  abbrev pub asked_for : StateOf S → ℕ → List KeyOf → List Load
  asked_for s loader keys = front_of_keys (session_modes s) loader keys (without_failed s.memory)

  -- says what is known of keys of a loader, place by place
  abbrev pub AreKnown : StateOf S → ℕ → List KeyOf → List OutcomeOf → Type 0
  AreKnown s loader keys outcomes =
      map (λ key. read (session_modes s) s.memory (load_of loader key)) keys ≡ map Some outcomes

  module _ (may : S → List KeyOf → AnswerOf → Type 0) where
    -- a round was run: it asked these loads, and each batch was answered as its source may
    pub record RoundRan (old new : StateOf S) (loads : List Load) : Type 0 where
      pub replies : List ReplyOf
      pub answered : AreReplies (may_at may old.loaders) (round_orders (rules_of old) loads) replies
      pub after : new ≡ after_step old (AskedLoads loads replies)

    -- the loads were asked in one round, where there are some
    abbrev pub AsksOnce : StateOf S → StateOf S → List Load → Type 0
    AsksOnce old new [] = new ≡ old
    AsksOnce old new (l ∷ ls) = RoundRan old new (l ∷ ls)

  -- a round was lost: the batches of the first loaders were entered, perhaps of none
  pub record RoundLost (old new : StateOf S) (loads : List Load) : Type 0 where
    pub loaders : ℕ
    pub after : new ≡ after_step old (Lost (of_first loaders loads))

  module _ (may : S → List KeyOf → AnswerOf → Type 0) where
    -- failed batches were forgotten, what was missing was asked, and these are the outcomes of the keys
    pub record IsLoaded (old new : StateOf S) (loader : ℕ) (keys : List KeyOf)
        (outcomes : List OutcomeOf) : Type 0 where
      pub round : AsksOnce may (after_step old Forgot) new (asked_for old loader keys)
      pub known : AreKnown new loader keys outcomes

    -- after want of memory failed batches are forgotten, and the round was lost, or it is there and its outcomes weren't
    -- copied
    abbrev pub IsStopped : StateOf S → StateOf S → List Load → Type 0
    IsStopped old new loads = AsksOnce may (after_step old Forgot) new loads
        ⊎ RoundLost (after_step old Forgot) new loads
