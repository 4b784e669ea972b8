-- A round in the making: the batches of what is wanted of each loader.
use Rattle.std.specs.Prelude.{◌≡◌, ◌<◌, ℕ, suc, false, List, [], ◌∷◌, ◌++◌, ◌+◌, map, length, nat_lt, if◌then◌else◌}
use Rattle.load_memory.specs.Keys.{KeyOf}
use Rattle.load_memory.specs.Pairs.{MemoryOf, IsWith}
use Rattle.load_memory.specs.Replies.{ReplyOf, pairs_of}
use Rattle.load_queue.specs.Answers.{AnswerOf}
use Rattle.load_queue.specs.Batches.{batches}
use Rattle.load_queue.specs.Loaders.{LoaderOf}
use Rattle.load_queue.specs.Orders.{OrderOf, order_of}
use Rattle.load_queue.specs.Wanted.{WantedOf, keys_wanted}
use Rattle.execution.specs.Loads.{Load}
use Rattle.execution.specs.Front.{keys_for}
use Rattle.execution.specs.Rounds.{RuleOf, rule_of, AreReplies}
use Rattle.load_rounds.specs.Sessions.{logged_from, made}

-- for each loader from n on in order of number, the orders of its keys
abbrev pub orders_by : ℕ → List RuleOf → (ℕ → List KeyOf) → List OrderOf
orders_by n [] keys = []
orders_by n (rule ∷ rules) keys =
    map (order_of n) (batches rule.limit (keys n)) ++ orders_by (suc n) rules keys

-- the keys of the loaders below a number
abbrev pub first_keys : ℕ → (ℕ → List KeyOf) → ℕ → List KeyOf
first_keys n keys loader = if nat_lt loader n then keys loader else []

-- the batches of these keys were entered in the logs, and the round is counted if there is one
pub record Enters {S : Type 0} (round : ℕ) (keys : ℕ → List KeyOf) (old new : List (LoaderOf S))
    (before after : ℕ) : Type 0 where
  pub loaders : new ≡ logged_from 0 false round keys old
  pub rounds : after ≡ before + made (orders_by 0 (map rule_of old) keys)

-- the keys that are wanted of each loader are those that the loads ask of it
abbrev pub AreWanted : List WantedOf → List Load → Type 0
AreWanted wants loads = (loader : ℕ) → loader < length wants
    → keys_wanted wants loader ≡ keys_for loader loads

-- the memory has gained the pairs of replies to these orders, each of which is as may come of its order
pub record KeepsReplies (may : ℕ → List KeyOf → AnswerOf → Type 0) (orders : List OrderOf)
    (old new : MemoryOf) : Type 0 where
  pub replies : List ReplyOf
  pub answered : AreReplies may orders replies
  pub pairs : IsWith old.pairs (pairs_of old.modes replies) new.pairs
