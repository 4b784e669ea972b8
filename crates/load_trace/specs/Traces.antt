-- The trace of a line: the batches that its session asked, round by round, and the text that tells them.
use Rattle.std.specs.Prelude.{ℕ, zero, suc, max, List, [], ◌∷◌, ◌++◌, Option, Some, None, map, ◌==◌, codes, decimal, if◌then◌else◌}
use Rattle.std.specs.List.{flat_map}
use Rattle.json.specs.Json.{Json, null, number, string, array, object, no_items, item, Members, no_members, member}
use Rattle.json.specs.Print.{print}
use Rattle.json.specs.Token.{Token}
use Rattle.json.specs.Tree.{json_tokens}
use Rattle.json.specs.Value.{items_of}
use Rattle.load_memory.specs.Keys.{KeyOf, all, text, pair}
use Rattle.load_queue.specs.Loaders.{LoaderOf, AskedOf}
use Rattle.load_rounds.specs.Sessions.{SessionOf}

-- a batch: the name of its loader, and its keys in the order in which they were asked
pub record BatchOf : Type 0 where
  pub loader : List ℕ
  pub keys : List KeyOf

abbrev pub batch_of : List ℕ → List KeyOf → BatchOf
batch_of loader keys = record { loader = loader; keys = keys }

-- says what the trace of a line has: the batches of each round, in order; and how many calls execution key by key would have made, where
-- that was counted
pub record TraceOf : Type 0 where
  pub rounds : List (List BatchOf)
  pub key_by_key : Option ℕ

-- ---- the trace of a session

-- the batches of a round that stand in a loader's log, in its order
abbrev pub batches_in : ℕ → List ℕ → List AskedOf → List BatchOf
batches_in round loader [] = []
batches_in round loader (entry ∷ log) = if entry.round == round
    then batch_of loader entry.keys ∷ batches_in round loader log else batches_in round loader log

-- the latest round of a loader's log, 0 where it is empty
abbrev pub last_in : List AskedOf → ℕ
last_in [] = 0
last_in (entry ∷ log) = max entry.round (last_in log)

module _ {S : Type 0} where
  -- the batches of a round, loader by loader in order of number
  abbrev pub round_batches : ℕ → List (LoaderOf S) → List BatchOf
  round_batches round [] = []
  round_batches round (l ∷ ls) = batches_in round l.name l.log ++ round_batches round ls

  -- the rounds from 1 to this one
  abbrev pub rounds_upto : ℕ → List (LoaderOf S) → List (List BatchOf)
  rounds_upto zero loaders = []
  rounds_upto (suc round) loaders =
      rounds_upto round loaders ++ round_batches (suc round) loaders ∷ []

  -- the latest round of the logs, 0 where nothing was asked
  abbrev pub last_round : List (LoaderOf S) → ℕ
  last_round [] = 0
  last_round (l ∷ ls) = max (last_in l.log) (last_round ls)

  -- the batches of the logs, from round 1 to the latest
  abbrev pub rounds_of : List (LoaderOf S) → List (List BatchOf)
  rounds_of loaders = rounds_upto (last_round loaders) loaders

  abbrev pub trace_of_logs : List (LoaderOf S) → Option ℕ → TraceOf
  trace_of_logs loaders key_by_key = record { rounds = rounds_of loaders; key_by_key = key_by_key }

  -- Of a session that started again before a line, this is what the line's answer asked, and nothing of a line before.
  abbrev pub trace_of : SessionOf S → Option ℕ → TraceOf
  trace_of session key_by_key = trace_of_logs session.loaders key_by_key

-- ---- its text

-- a text is a string, a pair an array of two, and all rows are null
abbrev pub key_json : KeyOf → Json
key_json all = null
key_json (text t) = string t
key_json (pair s t) = array (item (string s) (item (string t) no_items))

abbrev pub batch_json : BatchOf → Json
batch_json batch = object (member (codes "loader") (string batch.loader)
    (member (codes "keys") (array (items_of (map key_json batch.keys))) no_members))

abbrev pub round_json : List BatchOf → Json
round_json batches = array (items_of (map batch_json batches))

abbrev pub rounds_json : List (List BatchOf) → Json
rounds_json rounds = array (items_of (map round_json rounds))

-- the member of the count, where there is one
abbrev pub count_member : Option ℕ → Members
count_member None = no_members
count_member (Some count) = member (codes "keyByKey") (number (decimal count)) no_members

abbrev pub trace_json : TraceOf → Json
trace_json trace =
    object (member (codes "rounds") (rounds_json trace.rounds) (count_member trace.key_by_key))

-- the tokens with no space between them, escaped as the strings of answers are
abbrev pub trace_text : TraceOf → List ℕ
trace_text trace = print (json_tokens (trace_json trace))

-- the tokens of batches, one after another
abbrev pub batches_tokens : List BatchOf → List Token
batches_tokens batches = flat_map (λ batch. json_tokens (batch_json batch)) batches
