-- *Batches*, *Lawful log* and sparing runs: how a memory grows, round by round, until nothing is missing.
use Rattle.std.specs.Prelude.{◌≡◌, ◌≢◌, ◌<◌, ◌⊎◌, ℕ, suc, List, [], ◌∷◌, ◌++◌, ◌+◌, map, length, Option, Some, slice_get}
use Rattle.std.specs.Option.{option_or}
use Rattle.load_memory.specs.Keys.{KeyOf, folded}
use Rattle.load_memory.specs.Outcomes.{ItemOf, OutcomeOf, known}
pub use Rattle.load_memory.specs.Pairs.{unless_failed}
pub use Rattle.load_memory.specs.Replies.{reply_pairs, pairs_of}
use Rattle.load_memory.specs.Pairs.{PairOf, look, primed}
use Rattle.load_memory.specs.Replies.{ReplyOf}
use Rattle.load_memory.specs.declared.key.KeyMode.{KeyMode}
use Rattle.load_queue.specs.Answers.{AnswerOf, given, outcomes_of}
use Rattle.load_queue.specs.Batches.{batches}
use Rattle.load_queue.specs.Loaders.{LoaderOf}
use Rattle.load_queue.specs.Orders.{OrderOf, order_of}
use Rattle.execution.specs.Loads.{Load, Reader, Memory, mode_at, cache_key, IsOneOf}
use Rattle.execution.specs.Program.{Program, Programs, End, With, needs}
use Rattle.execution.specs.Front.{front, keys_for}

-- says how a loader compares its keys, and how many of them it asks at most at once
pub record RuleOf : Type 0 where
  pub mode : KeyMode
  pub limit : Option ℕ

abbrev pub rule_of : {S : Type 0} → LoaderOf S → RuleOf
rule_of loader = record { mode = loader.mode; limit = loader.limit }

abbrev pub modes_of : List RuleOf → List KeyMode
modes_of rules = map (λ rule. rule.mode) rules

-- gives which answers the source of a loader's number may give to a list of keys
abbrev pub MayAnswer : Type 1
MayAnswer = ℕ → List KeyOf → AnswerOf → Type 0

abbrev pub may_at : {S : Type 0} → (S → List KeyOf → AnswerOf → Type 0)
    → List (LoaderOf S) → MayAnswer
may_at {S} may loaders loader keys answer = (asked : LoaderOf S)
    × (slice_get loaders loader ≡ Some asked) × may asked.source keys answer

-- whatever it is
abbrev pub any_answer : MayAnswer
any_answer loader keys answer = Unit {0}

-- that of sources that answer key by key: the list of the items of the keys
abbrev pub key_by_key : (ℕ → KeyOf → ItemOf) → ℕ → List KeyOf → AnswerOf → Type 0
key_by_key item loader keys answer = answer ≡ given (map (item loader) keys)

-- *Batches*, for loaders numbered from n on
abbrev pub orders_from : ℕ → List RuleOf → List Load → List OrderOf
orders_from n [] ls = []
orders_from n (rule ∷ rules) ls =
    map (order_of n) (batches rule.limit (keys_for n ls)) ++ orders_from (suc n) rules ls

-- *Batches*: for each loader in order of number its keys, cut in order into pieces of the limit's length
abbrev pub round_orders : List RuleOf → List Load → List OrderOf
round_orders rules ls = orders_from 0 rules ls

-- A reply has the order's loader and keys, and the outcomes of an answer that the source may give: item i for key i, or,
-- where the batch failed as a whole or the list has another length, the batch fault for each key.
pub record IsReply (may : ℕ → List KeyOf → AnswerOf → Type 0) (order : OrderOf)
    (reply : ReplyOf) : Type 0 where
  pub loader : reply.loader ≡ order.loader
  pub keys : reply.keys ≡ order.keys
  pub answer : AnswerOf
  pub may_be : may order.loader order.keys answer
  pub outcomes : reply.outcomes ≡ outcomes_of (length order.keys) answer

-- one reply to each order
abbrev pub AreReplies : (ℕ → List KeyOf → AnswerOf → Type 0) → List OrderOf → List ReplyOf → Type 0
AreReplies may [] [] = Unit {0}
AreReplies may [] (reply ∷ replies) = ⊥
AreReplies may (order ∷ orders) [] = ⊥
AreReplies may (order ∷ orders) (reply ∷ replies) = IsReply may order reply
    × AreReplies may orders replies

-- the memory with those pairs that are absent, of equal keys the first
abbrev pub stored : Memory → List PairOf → Memory
stored M pairs loader key = option_or (M loader key) (look pairs loader key)

-- a round's replies, and the memory after it
abbrev pub after_round : List RuleOf → Memory → List ReplyOf → Memory
after_round rules M replies = stored M (pairs_of (modes_of rules) replies)

-- Rounds from a memory to another: each asks exactly the batches of the front, which isn't empty, each batch has an answer
-- that its source may give, and the next memory is the one before with the round's pairs.
abbrev pub AreRounds : (ℕ → List KeyOf → AnswerOf → Type 0) → List RuleOf
    → Program → Memory → List (List ReplyOf) → Memory → Type 0
AreRounds may rules p M [] end = (loader : ℕ) (key : KeyOf) → end loader key ≡ M loader key
AreRounds may rules p M (round ∷ rounds) end =
    (front (modes_of rules) p M ≢ [])
    × AreReplies may (round_orders rules (front (modes_of rules) p M)) round
    × AreRounds may rules p (after_round rules M round) rounds end

-- *Lawful log*: rounds, until the front is empty
abbrev pub IsLawful : (ℕ → List KeyOf → AnswerOf → Type 0) → List RuleOf
    → Program → Memory → List (List ReplyOf) → Memory → Type 0
IsLawful may rules p M rounds end = AreRounds may rules p M rounds end
    × (front (modes_of rules) p end ≡ [])

-- the memory without batch faults, at which a call's log begins
abbrev pub without_failed : Memory → Memory
without_failed M loader key = unless_failed (M loader key)

-- a pair that a step towards the end may have added: it was missing in the front, and has its outcome at the end
abbrev pub IsSpared : List KeyMode → Program → Memory → Memory → Memory → ℕ → KeyOf → Type 0
IsSpared modes p end N N' loader key =
    (load : Load) × IsOneOf load (front modes p N) × (load.loader ≡ loader)
    × (cache_key modes load ≡ key) × (N' loader key ≡ end loader key)

-- a sparing run from a memory towards the end: each step adds any keys of the front, and the last front is empty
abbrev pub IsSparing : List KeyMode → Program → Memory → Memory → List Memory → Type 0
IsSparing modes p end N [] = front modes p N ≡ []
IsSparing modes p end N (N' ∷ Ns) =
    ((loader : ℕ) (key : KeyOf)
    → (N' loader key ≡ N loader key) ⊎ IsSpared modes p end N N' loader key)
    × IsSparing modes p end N' Ns

-- no limit is 0, which no loader has
abbrev pub AreLimited : List RuleOf → Type 0
AreLimited [] = Unit {0}
AreLimited (rule ∷ rules) = ((n : ℕ) → rule.limit ≡ Some n → 0 < n) × AreLimited rules

-- each load that the program may read is of a loader whose number is below `count`
abbrev pub HasLoaders : ℕ → Program → Type 0
HasLoaders count p = (R : Reader) (load : Load) → IsOneOf load (needs p R) → load.loader < count

-- *Direct execution*: each load is answered at once, by the item of its key
abbrev pub direct : (ℕ → KeyOf → ItemOf) → Reader
direct item load = Some (known (item load.loader load.key))

-- keys that are one for their loader have one item
abbrev pub RespectsCacheKeys : List KeyMode → (ℕ → KeyOf → ItemOf) → Type 0
RespectsCacheKeys modes item = (loader : ℕ) (j k : KeyOf) → folded (mode_at modes loader) j
    ≡ folded (mode_at modes loader) k → item loader j ≡ item loader k

-- the memory has no pair but those that asking key by key gives
abbrev pub HoldsItems : List KeyMode → (ℕ → KeyOf → ItemOf) → Memory → Type 0
HoldsItems modes item M = (loader : ℕ) (key : KeyOf) (outcome : OutcomeOf)
    → M loader (folded (mode_at modes loader) key) ≡ Some outcome
    → outcome ≡ known (item loader key)

-- a list of pairs with those of another whose keys are absent, one after another
abbrev pub all_primed : List PairOf → List PairOf → List PairOf
all_primed pairs [] = pairs
all_primed pairs (p ∷ ps) = all_primed (primed pairs p) ps

-- *Shared rounds*: the program is one of those below a position
abbrev pub IsBelow : Program → Programs → Type 0
IsBelow p End = ⊥
IsBelow p (With position q rest) = (p ≡ q) ⊎ IsBelow p rest

abbrev pub one_unless_empty : List Load → ℕ
one_unless_empty [] = 0
one_unless_empty (l ∷ ls) = 1

-- among the rounds from a memory, those in which the program's own front isn't empty
abbrev pub own_rounds : List RuleOf → Program → Memory → List (List ReplyOf) → ℕ
own_rounds rules p M [] = 0
own_rounds rules p M (round ∷ rounds) = one_unless_empty (front (modes_of rules) p M)
    + own_rounds rules p (after_round rules M round) rounds
