-- Replies that are stored: those that were given, and those of the sources.
use Rattle.std.proofs.Common.{◌≡◌, ◌∙◌, ℕ, List, [], ◌∷◌, ◌++◌, map, refl, ap, append_assoc, true}
use Rattle.std.proofs.lemmas.List.{append-nil, map-append}
use Rattle.std.specs.List.{list_all}
use Rattle.load_memory.specs.Keys.{KeyOf}
use Rattle.load_memory.specs.Pairs.{look}
use Rattle.load_memory.specs.Replies.{ReplyOf, reply_of}
use Rattle.load_memory.specs.declared.reply.Reply.{Reply}
use Rattle.load_queue.specs.Answers.{AnswerOf}
use Rattle.execution.specs.Program.{Program}
use Rattle.execution.specs.Completion.{AnsweredOf}
use Rattle.execution.specs.Rounds.{after_round, may_at}
use Rattle.load_rounds.specs.Sessions.{SessionOf, state_of, rules_of}
use Rattle.rounds_by_hand.specs.declared.pending.Pending.{Pending}
use Rattle.rounds_by_hand.specs.declared.pending.Pending.TheVariants.{Out, In}
use Rattle.rounds_by_hand.specs.Pending.{is_in, replies_in, IsReplyFor, AreRepliesFor}
use Rattle.rounds_by_hand.specs.Stored.{Stores, StoresRound}
use Rattle.rounds_by_hand.specs.Hands.{FarOf, HandOf, handed, ready, out, over, can_advance, pending_in, AsksAndOverruns, IsOver, Overruns, StoresFrom, StoresAskedFrom}
use Rattle.rounds_by_hand.specs.declared.fault.HandFault.{HandFault}
use Rattle.rounds_by_hand.specs.declared.fault.HandFault.TheVariants as fault

module _ (may : ℕ → List KeyOf → AnswerOf → Type 0) where
  -- these are replies for the first of the orders: with replies for the others they are for all
  abbrev pub GivenSoFar : List Pending → List Pending → List Reply → Type 0
  GivenSoFar all rest replies = (more : List ReplyOf) → AreRepliesFor may rest more → AreRepliesFor may all (map reply_of replies ++ more)

  pub given-one : (all items rest : List Pending) (one : Pending) (was now : List Reply) (reply : Reply) → items ≡ one ∷ rest → now ≡ was ++ reply ∷ [] → IsReplyFor may one (reply_of reply) → GivenSoFar all items was → GivenSoFar all rest now
  given-one all items rest one was now reply is put fits so =
      let own : GivenSoFar all (one ∷ rest) was = rw is at so in
      λ more fit. rw (put, map-append reply_of was (reply ∷ []), append_assoc (map reply_of was) (reply_of reply ∷ []) more) (own (reply_of reply ∷ more) (fits, fit))

  pub given-all : (all rest : List Pending) (replies : List Reply) → rest ≡ [] → GivenSoFar all rest replies → AreRepliesFor may all (map reply_of replies)
  given-all all rest replies none so = rw (← append-nil (map reply_of replies)) (so [] (rw none tt))

  -- where each order had a reply, they are what was given
  pub given-in : (ps : List Pending) (rs : List ReplyOf) → list_all is_in ps ≡ true → AreRepliesFor may ps rs → rs ≡ replies_in ps
  given-in [] [] e fit = refl
  given-in [] (r ∷ rs) e fit = absurd fit
  given-in (p ∷ ps) [] e fit = absurd fit
  given-in (Out order ∷ ps) (r ∷ rs) e fit = absurd (cc e)
  given-in (In reply ∷ ps) (r ∷ rs) e fit = ap (λ x. x ∷ rs) fit.0 ∙ ap (λ xs. reply_of reply ∷ xs) (given-in ps rs e fit.1)

-- where each order had a reply, no source was asked
pub round-given : {S : Type 0} (may : S → List KeyOf → AnswerOf → Type 0) (old new : SessionOf S) (ps : List Pending) → list_all is_in ps ≡ true → StoresRound may old new ps → Stores old new (replies_in ps)
round-given may old new ps e h = h.stored ∙ ap (λ rs. after_round (rules_of (state_of old)) (look old.pairs) rs) (given-in (may_at may old.loaders) ps h.replies e h.replied)

module _ {S P E : Type 0} (may : S → List KeyOf → AnswerOf → Type 0) where
  -- says the same by how far they are
  pub stores-given : (far : FarOf P E) (old new : SessionOf S) → list_all is_in (pending_in far) ≡ true → StoresAskedFrom may far old new → StoresFrom far old new
  stores-given handed old new e h = h
  stores-given (ready run) old new e h = h
  stores-given (out run ps) old new e h = round-given may old new ps e h
  stores-given over old new e h = h

-- it was under way, and each order had a reply
could-go : {P E : Type 0} (far : FarOf P E) → ¬ (IsOver far) → list_all is_in (pending_in far) ≡ true → can_advance far ≡ true
could-go handed left each = refl
could-go (ready run) left each = refl
could-go (out run ps) left each = each
could-go over left each = absurd (left refl)

-- answers that are refused, where no source was asked
pub overruns-given : {S P E : Type 0} (program : P → Program) (text_of : P → AnsweredOf → List ℕ) (may : S → List KeyOf → AnswerOf → Type 0) (old new : HandOf S P E) → list_all is_in (pending_in old.far) ≡ true → (why : HandFault) → AsksAndOverruns program text_of may old new why → Overruns program text_of may old new why
overruns-given program text_of may old new each (fault.Over overrun) h = record {
  could = could-go old.far h.could each;
  knows = stores-given may old.far old.session new.session each h.knows;
  exceeds = h.exceeds;
  went = h.went;
}
overruns-given program text_of may old new each fault.NoMemory h = h
