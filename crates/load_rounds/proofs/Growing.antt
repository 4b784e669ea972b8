-- Lemmas on what a session knows grows by each round, and stays when a round is asked.
use Rattle.std.proofs.Common.{◌≡◌, List, refl, ap, ◌∙◌}
use Rattle.load_memory.specs.Pairs.{MemoryOf, look}
use Rattle.load_memory.specs.Replies.{ReplyOf}
use Rattle.execution.specs.Loads.{Load, Memory, Extends}
use Rattle.execution.specs.Rounds.{RuleOf, modes_of, after_round}
use Rattle.execution.specs.Sessions.{Lost}
use Rattle.execution.specs.Executes.{GrowsTo}
use Rattle.load_rounds.specs.Sessions.{SessionOf, StateOf, state_of, rules_of, session_modes, memory_of, after_step}
use Rattle.load_rounds.specs.ByHand.{received}
use Rattle.load_rounds.proofs.Runs.{marked-rules, lost-rules}

pub grows-trans : (l m n : MemoryOf) → GrowsTo l m → GrowsTo m n → GrowsTo l n
grows-trans l m n a b = record { modes = b.modes ∙ a.modes; pairs = λ loader key outcome there. b.pairs loader key outcome (a.pairs loader key outcome there) }

round-extends : (rules : List RuleOf) (M : Memory) (replies : List ReplyOf) → Extends M (after_round rules M replies)
round-extends rules M replies = λ loader key outcome there. rw there refl

module _ {S : Type 0} where
  -- says what an execution is handed
  pub memory-is : (s : SessionOf S) (m : MemoryOf) → m.pairs ≡ s.pairs → m.modes ≡ session_modes (state_of s) → m ≡ memory_of s
  memory-is s m pairs modes = λ i. record { modes = modes i; pairs = pairs i }

  -- says what is known before is known after it
  grows : (old new : SessionOf S) (M : Memory) → rules_of (state_of new) ≡ rules_of (state_of old) → look new.pairs ≡ M → Extends (look old.pairs) M → GrowsTo (memory_of old) (memory_of new)
  grows old new M rules same more = record { modes = ap modes_of rules; pairs = λ loader key outcome there. rw same (more loader key outcome there) }

  pub same-grows : (old new : SessionOf S) → state_of new ≡ state_of old → GrowsTo (memory_of old) (memory_of new)
  same-grows old new same = grows old new (look old.pairs) (ap rules_of same) (ap (λ (s : StateOf S). s.memory) same) (λ loader key outcome there. there)

  pub lost-grows : (old new : SessionOf S) (loads : List Load) → state_of new ≡ after_step (state_of old) (Lost loads) → GrowsTo (memory_of old) (memory_of new)
  lost-grows old new loads is =
      grows old new (look old.pairs) (ap rules_of is ∙ lost-rules (state_of old) loads) (ap (λ (s : StateOf S). s.memory) is) (λ loader key outcome there. there)

  pub received-grows : (old new : SessionOf S) (replies : List ReplyOf) → state_of new ≡ received (state_of old) replies → GrowsTo (memory_of old) (memory_of new)
  received-grows old new replies is =
      grows old new (after_round (rules_of (state_of old)) (look old.pairs) replies) (ap rules_of is ∙ marked-rules old.rounds old.loaders) (ap (λ (s : StateOf S). s.memory) is) (round-extends (rules_of (state_of old)) (look old.pairs) replies)
