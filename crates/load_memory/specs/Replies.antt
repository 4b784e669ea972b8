-- Definitions of what contracts see of a reply, and the pairs that it holds.
use Rattle.std.specs.Prelude.{ℕ, List, [], ◌∷◌, ◌++◌, map}
use Rattle.load_memory.specs.Keys.{KeyOf, key_of, folded, mode_at}
use Rattle.load_memory.specs.Outcomes.{OutcomeOf, outcome_of}
use Rattle.load_memory.specs.Pairs.{PairOf}
use Rattle.load_memory.specs.declared.key.KeyMode.{KeyMode}
use Rattle.load_memory.specs.declared.reply.Reply.{Reply}

pub record ReplyOf : Type 0 where
  pub loader : ℕ
  pub keys : List KeyOf
  pub outcomes : List OutcomeOf

abbrev pub reply_of : Reply → ReplyOf
reply_of r = record {
  loader = r.loader;
  keys = map key_of r.keys;
  outcomes = map outcome_of r.outcomes.items;
}

-- the pairs of a reply, place by place
abbrev pub reply_pairs : KeyMode → ℕ → List KeyOf → List OutcomeOf → List PairOf
reply_pairs mode loader [] outcomes = []
reply_pairs mode loader (key ∷ keys) [] = []
reply_pairs mode loader (key ∷ keys) (outcome ∷ outcomes) =
    record { loader = loader; key = folded mode key; outcome = outcome }
    ∷ reply_pairs mode loader keys outcomes

-- the pairs of replies, one after another
abbrev pub pairs_of : List KeyMode → List ReplyOf → List PairOf
pairs_of modes [] = []
pairs_of modes (r ∷ rs) =
    reply_pairs (mode_at modes r.loader) r.loader r.keys r.outcomes ++ pairs_of modes rs
