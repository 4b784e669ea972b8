-- Lemmas on what is known after rounds over sources that answer key by key: what asking key by key
-- gives.
use Rattle.std.proofs.Common.{◌≡◌, ◌⊎◌, ℕ, Bool, true, false, List, [], ◌∷◌, ◌++◌, map, length, inl, inr, sym, ◌∙◌, ap, refl, Option, Some, None, if◌then◌else◌, eq-eqb}
use Rattle.std.specs.Option.{option_or}
use Rattle.std.proofs.lemmas.List.{length-map}
use Rattle.load_memory.specs.Keys.{KeyOf, folded}
use Rattle.load_memory.specs.Outcomes.{ItemOf, OutcomeOf, known}
use Rattle.load_memory.specs.Pairs.{PairOf, is_at, look}
use Rattle.load_memory.specs.Replies.{ReplyOf}
use Rattle.load_memory.specs.declared.key.KeyMode.{KeyMode}
use Rattle.load_queue.specs.Answers.{AnswerOf, given, outcomes_of}
use Rattle.load_queue.specs.Orders.{OrderOf}
use Rattle.execution.specs.Loads.{Memory, mode_at}
use Rattle.execution.specs.Program.{Program}
use Rattle.execution.specs.Front.{front}
use Rattle.execution.specs.Rounds.{RuleOf, modes_of, key_by_key, round_orders, IsReply, AreReplies, reply_pairs, pairs_of, after_round, AreRounds, RespectsCacheKeys, HoldsItems}
use Rattle.execution.proofs.OneLog.{at-pair}

module _ (item : ℕ → KeyOf → ItemOf) where
  -- the outcomes of keys
  abbrev known_items : ℕ → List KeyOf → List OutcomeOf
  known_items loader keys = map known (map (item loader) keys)

  outcomes-known : (loader : ℕ) (keys : List KeyOf) (a : AnswerOf) → a ≡ given (map (item loader) keys) → outcomes_of (length keys) a ≡ known_items loader keys
  outcomes-known loader keys a e =
      ap (outcomes_of (length keys)) e ∙ (rw (eq-eqb (length (map (item loader) keys)) (length keys) (length-map keys (item loader))) refl)

  reply-known : (o : OrderOf) (r : ReplyOf) → IsReply (key_by_key item) o r → r.outcomes ≡ known_items o.loader o.keys
  reply-known o r h = h.outcomes ∙ outcomes-known o.loader o.keys h.answer h.may_be

  -- a reply's pairs say what asking key by key gives
  pairs-known : (mode : KeyMode) (n : ℕ) (keys : List KeyOf) (loader : ℕ) (key : KeyOf) (o : OutcomeOf) → look (reply_pairs mode n keys (known_items n keys)) loader key ≡ Some o
      → (n ≡ loader) × (k : KeyOf) × (folded mode k ≡ key) × (o ≡ known (item n k))
  pairs-known mode n [] loader key o h = absurd (cc h)
  pairs-known mode n (k ∷ ks) loader key o h = go (is_at loader key (record { loader = n; key = folded mode k; outcome = known (item n k) })) refl h (pairs-known mode n ks loader key o)
    where
      go : (b : Bool) → is_at loader key (record { loader = n; key = folded mode k; outcome = known (item n k) }) ≡ b → (if b then Some (known (item n k)) else look (reply_pairs mode n ks (known_items n ks)) loader key) ≡ Some o
          → (look (reply_pairs mode n ks (known_items n ks)) loader key ≡ Some o → (n ≡ loader) × (k : KeyOf) × (folded mode k ≡ key) × (o ≡ known (item n k)))
          → (n ≡ loader) × (k : KeyOf) × (folded mode k ≡ key) × (o ≡ known (item n k))
      go true e h ih =
          let at = at-pair loader key (record { loader = n; key = folded mode k; outcome = known (item n k) }) e in
          (sym at.0, k, sym at.1, cc h)
      go false e h ih = ih h

  either-look : (loader : ℕ) (key : KeyOf) (o : OutcomeOf) (ps qs : List PairOf) → look (ps ++ qs) loader key ≡ Some o → (look ps loader key ≡ Some o) ⊎ (look qs loader key ≡ Some o)
  either-look loader key o [] qs h = inr h
  either-look loader key o (p ∷ ps) qs h = go (is_at loader key p) h (either-look loader key o ps qs)
    where
      go : (b : Bool) → (if b then Some p.outcome else look (ps ++ qs) loader key) ≡ Some o → (look (ps ++ qs) loader key ≡ Some o → (look ps loader key ≡ Some o) ⊎ (look qs loader key ≡ Some o))
          → ((if b then Some p.outcome else look ps loader key) ≡ Some o) ⊎ (look qs loader key ≡ Some o)
      go true h ih = inl h
      go false h ih = ih h

  replies-known : (modes : List KeyMode) (os : List OrderOf) (rs : List ReplyOf) (loader : ℕ) (key : KeyOf) (o : OutcomeOf) → AreReplies (key_by_key item) os rs → look (pairs_of modes rs) loader key ≡ Some o
      → (k : KeyOf) × (folded (mode_at modes loader) k ≡ key) × (o ≡ known (item loader k))
  replies-known modes [] [] loader key o h e = absurd (cc e)
  replies-known modes (w ∷ ws) (r ∷ rs) loader key o h e = elim (either-look loader key o (reply_pairs (mode_at modes r.loader) r.loader r.keys r.outcomes) (pairs_of modes rs) e) [
    | inl a ↦
        let is : r.outcomes ≡ known_items r.loader r.keys = rw (h.0.loader, h.0.keys) (reply-known w r h.0) in
        let f : look (reply_pairs (mode_at modes r.loader) r.loader r.keys (known_items r.loader r.keys)) loader key ≡ Some o = ap (λ os. look (reply_pairs (mode_at modes r.loader) r.loader r.keys os) loader key) (sym is) ∙ a in
        let t = pairs-known (mode_at modes r.loader) r.loader r.keys loader key o f in
        (t.1, ap (λ n. folded (mode_at modes n) t.1) (sym t.0) ∙ t.2, t.3 ∙ ap (λ n. known (item n t.1)) t.0)
    | inr b ↦ replies-known modes ws rs loader key o h.1 b
  ]
  replies-known modes os rs loader key o h e = absurd h

  module _ (rules : List RuleOf) (p : Program) (alike : RespectsCacheKeys (modes_of rules) item) where
    round-held : (M : Memory) (os : List OrderOf) (round : List ReplyOf) → HoldsItems (modes_of rules) item M → AreReplies (key_by_key item) os round → HoldsItems (modes_of rules) item (after_round rules M round)
    round-held M os round held h = λ loader key o e. go loader key o (M loader (folded (mode_at (modes_of rules) loader) key)) refl e
      where
        go : (loader : ℕ) (key : KeyOf) (o : OutcomeOf) (r : Option OutcomeOf) → M loader (folded (mode_at (modes_of rules) loader) key) ≡ r
            → option_or r (look (pairs_of (modes_of rules) round) loader (folded (mode_at (modes_of rules) loader) key)) ≡ Some o → o ≡ known (item loader key)
        go loader key o None f e =
            let t = replies-known (modes_of rules) os round loader (folded (mode_at (modes_of rules) loader) key) o h e in
            t.2 ∙ ap known (alike loader t.0 key t.1)
        go loader key o (Some x) f e = held loader key o (f ∙ e)

    pub rounds-held : (M : Memory) (rs : List (List ReplyOf)) (end : Memory) → HoldsItems (modes_of rules) item M → AreRounds (key_by_key item) rules p M rs end → HoldsItems (modes_of rules) item end
    rounds-held M [] end held h = λ loader key o e. held loader key o (sym (h loader (folded (mode_at (modes_of rules) loader) key)) ∙ e)
    rounds-held M (r ∷ rs) end held h = rounds-held (after_round rules M r) rs end (round-held M (round_orders rules (front (modes_of rules) p M)) r held h.1) h.2
