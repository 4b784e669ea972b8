-- Definitions of what contracts see of a session, and what the steps of its calls do to it.
-- A state is what is known of each key, since the order of pairs means nothing.
use Rattle.std.specs.Prelude.{◌≡◌, ◌≤◌, ℕ, suc, Bool, true, false, List, [], ◌∷◌, ◌++◌, ◌+◌, map, length, All, nat_lt}
use Rattle.std.specs.List.{filter}
use Rattle.load_memory.specs.Keys.{KeyOf}
use Rattle.load_memory.specs.Pairs.{MemoryOf, PairOf, look}
use Rattle.load_memory.specs.declared.key.KeyMode.{KeyMode}
use Rattle.load_queue.specs.Answers.{AnswerOf}
use Rattle.load_queue.specs.Batches.{batches}
use Rattle.load_queue.specs.Loaders.{LoaderOf, AskedOf, unasked}
use Rattle.load_queue.specs.Orders.{OrderOf}
use Rattle.execution.specs.Loads.{Load, Memory}
use Rattle.execution.specs.Front.{keys_for}
use Rattle.execution.specs.Rounds.{RuleOf, rule_of, modes_of, round_orders, may_at, AreLimited}
use Rattle.execution.specs.Sessions.{Step, Forgot, AskedLoads, Lost, Primed, Cleared, ClearedAll, Restarted, AreSteps, after}

-- the loaders with their logs, the pairs that are known in no order that means anything, and how many rounds were made
pub record SessionOf (S : Type 0) : Type 0 where
  pub loaders : List (LoaderOf S)
  pub pairs : List PairOf
  pub rounds : ℕ

-- says the same, with what is known of each key
pub record StateOf (S : Type 0) : Type 0 where
  pub loaders : List (LoaderOf S)
  pub memory : Memory
  pub rounds : ℕ

abbrev pub state_of : {S : Type 0} → SessionOf S → StateOf S
state_of s = record { loaders = s.loaders; memory = look s.pairs; rounds = s.rounds }

-- a new session over the same loaders: their logs are empty, nothing is known, and no round was made; the counts of orders go on
abbrev pub restarted : {S : Type 0} → SessionOf S → SessionOf S
restarted s = record { loaders = map unasked s.loaders; pairs = []; rounds = 0 }

-- the entry of a batch
abbrev pub entry : Bool → ℕ → List KeyOf → AskedOf
entry stored round keys = record { round = round; keys = keys; stored = stored }

-- a round is made as soon as there is an order of it
abbrev pub made : List OrderOf → ℕ
made [] = 0
made (o ∷ os) = 1

-- those of the loaders below a number: what is entered first, in order of the loaders
abbrev pub of_first : ℕ → List Load → List Load
of_first n loads = filter (λ l. nat_lt l.loader n) loads

module _ {S : Type 0} where
  abbrev pub rules_of : StateOf S → List RuleOf
  rules_of s = map rule_of s.loaders

  abbrev pub session_modes : StateOf S → List KeyMode
  session_modes s = modes_of (rules_of s)

  -- the loader once it was asked these keys in this round: its log has gained an entry for each batch, and each order is counted
  abbrev pub logged : Bool → ℕ → List KeyOf → LoaderOf S → LoaderOf S
  logged stored round keys l = record l {
    log = l.log ++ map (entry stored round) (batches l.limit keys);
    orders = l.orders + length (batches l.limit keys);
  }

  -- gives the same of loaders numbered from n on, each with its own keys
  abbrev pub logged_from : ℕ → Bool → ℕ → (ℕ → List KeyOf) → List (LoaderOf S) → List (LoaderOf S)
  logged_from n stored round keys [] = []
  logged_from n stored round keys (l ∷ ls) =
      logged stored round (keys n) l ∷ logged_from (suc n) stored round keys ls

  -- the state once the batches of these loads were entered in the logs, under the number of the next round
  abbrev pub asked : Bool → List Load → Memory → StateOf S → StateOf S
  asked stored loads memory s = record {
    loaders = logged_from 0 stored (s.rounds + 1) (λ n. keys_for n loads) s.loaders;
    memory = memory;
    rounds = s.rounds + made (round_orders (rules_of s) loads);
  }

  -- the state after a step: the logs gain the batches of a round, which are stored unless the round was lost; a session that
  -- starts again has empty logs
  abbrev pub after_step : StateOf S → Step → StateOf S
  after_step s (AskedLoads loads replies) =
      asked true loads (after (rules_of s) s.memory (AskedLoads loads replies)) s
  after_step s (Lost loads) = asked false loads (after (rules_of s) s.memory (Lost loads)) s
  after_step s Forgot = record s { memory = after (rules_of s) s.memory Forgot }
  after_step s (Primed pair) = record s { memory = after (rules_of s) s.memory (Primed pair) }
  after_step s (Cleared cell) = record s { memory = after (rules_of s) s.memory (Cleared cell) }
  after_step s (ClearedAll loader) =
      record s { memory = after (rules_of s) s.memory (ClearedAll loader) }
  after_step s Restarted = record {
    loaders = map unasked s.loaders;
    memory = after (rules_of s) s.memory Restarted;
    rounds = 0;
  }

  abbrev pub after_steps : StateOf S → List Step → StateOf S
  after_steps s [] = s
  after_steps s (step ∷ steps) = after_steps (after_step s step) steps

  -- gives what the session hands to an execution
  abbrev pub memory_of : SessionOf S → MemoryOf
  memory_of s = record { modes = session_modes (state_of s); pairs = s.pairs }

  -- each step may be, over sources that may answer so
  abbrev pub MayBe : (S → List KeyOf → AnswerOf → Type 0) → StateOf S → List Step → Type 0
  MayBe may s steps = AreSteps (may_at may s.loaders) (rules_of s) s.memory steps

  -- no entry of a log has a later round
  abbrev pub AreNumbered : ℕ → List (LoaderOf S) → Type 0
  AreNumbered rounds loaders = All (λ l. All (λ (a : AskedOf). a.round ≤ rounds) l.log) loaders

  -- The memory compares keys as the loaders do, no limit is 0, and the entries bear the numbers of rounds that were made.
  pub record IsSession (loaders : List (LoaderOf S)) (memory : MemoryOf) (rounds : ℕ) : Type 0 where
    pub modes : memory.modes ≡ modes_of (map rule_of loaders)
    pub limited : AreLimited (map rule_of loaders)
    pub numbered : AreNumbered rounds loaders
