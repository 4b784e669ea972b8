-- Rounds that follow one another, until nothing is missing.
use Rattle.std.proofs.Common.{true, ◌≡◌, ◌≢◌, ◌<◌, ◌+◌, ℕ, List, [], ◌∷◌, ◌++◌, map, length, refl, ap, ◌∙◌, sym, arith, length-append}
use Rattle.std.proofs.Math.Path.{fun_ext}
use Rattle.std.specs.Prelude.{slice_get}
use Rattle.std.proofs.lemmas.List.{length-map}
use Rattle.load_memory.specs.Keys.{KeyOf}
use Rattle.load_memory.specs.Replies.{ReplyOf}
use Rattle.load_memory.specs.declared.key.KeyMode.{KeyMode}
use Rattle.load_queue.specs.Answers.{AnswerOf}
use Rattle.load_queue.specs.Loaders.{LoaderOf}
use Rattle.load_queue.specs.Orders.{OrderOf}
use Rattle.load_queue.specs.Wanted.{WantedOf, nothing_wanted, keys_wanted}
use Rattle.execution.specs.Loads.{Load, Memory, read}
use Rattle.execution.specs.Program.{Program, needs}
use Rattle.execution.specs.Front.{front, missing, wanting, modes_wanted, keys_for}
use Rattle.execution.specs.Rounds.{RuleOf, rule_of, modes_of, round_orders, may_at, AreReplies, AreRounds, after_round, without_failed}
use Rattle.execution.specs.Sessions.{Forgot, AskedLoads}
use Rattle.execution.proofs.RoundLaws.{rounds-more}
use Rattle.execution.proofs.Wanting.{wanting-front, wanting-firsts}
use Rattle.load_rounds.specs.Sessions.{StateOf, rules_of, session_modes, after_step, after_steps}
use Rattle.load_rounds.specs.Rounds.{AreWanted}
use Rattle.load_rounds.specs.Calls.{RoundRan}
use Rattle.load_rounds.specs.Headline.{asked_steps, MakesRounds}
use Rattle.load_rounds.proofs.Numbering.{source-at}
pub use Rattle.load_rounds.proofs.Stepping.{SameSources}
use Rattle.load_rounds.proofs.Stepping.{ran-rules}
use Rattle.load_rounds.proofs.Lacking.{length-wanting}

pub nothing-modes : (modes : List KeyMode) → modes_wanted (map nothing_wanted modes) ≡ modes
nothing-modes [] = refl
nothing-modes (m ∷ ms) = ap (λ ns. m ∷ ns) (nothing-modes ms)

pub rules-size : {S : Type 0} (s : StateOf S) → length (session_modes s) ≡ length s.loaders
rules-size s = length-map (rules_of s) (λ (r : RuleOf). r.mode) ∙ length-map s.loaders rule_of

-- wants of the front alone
pub wants-are : (modes : List KeyMode) (p : Program) (M : Memory) (wants : List WantedOf) → wants ≡ wanting (map nothing_wanted modes) (front modes p M) → AreWanted wants (front modes p M)
wants-are modes p M wants is m lt =
    let ls : List Load = missing (read modes M) (needs p (read modes M)) in
    let below : m < length modes = omega (arith, lt, ap length is, length-wanting (map nothing_wanted modes) (front modes p M), length-map modes nothing_wanted) in
    ap (λ ws. keys_wanted ws m) (is ∙ wanting-firsts modes (map nothing_wanted modes) ls (nothing-modes modes)) ∙ wanting-front modes ls m below

module _ {S : Type 0} (may : S → List KeyOf → AnswerOf → Type 0) where
  pub replies-over : (old cur : List (LoaderOf S)) → SameSources old cur → (os : List OrderOf) (rs : List ReplyOf) → AreReplies (may_at may cur) os rs → AreReplies (may_at may old) os rs
  replies-over old cur same [] [] h = tt
  replies-over old cur same (o ∷ os) (r ∷ rs) h =
      let is = h.0 in
      let at = same o.loader is.may_be.0 is.may_be.1 in
      let can : may at.0.source o.keys is.answer = rw (← at.2) is.may_be.2 in
      (record { loader = is.loader; keys = is.keys; answer = is.answer; may_be = (at.0, at.1, can); outcomes = is.outcomes }, replies-over old cur same os rs h.1)
  replies-over old cur same os rs h = absurd h

  -- a state after `rounds` rounds
  pub record InRounds (old cur : StateOf S) (p : Program) (rounds : ℕ) : Type 0 where
    pub log : List (List ReplyOf)
    pub made : MakesRounds may old cur p log
    pub counted : length log ≡ rounds
    pub rules : rules_of cur ≡ rules_of old
    pub sources : SameSources old.loaders cur.loaders

  pub in-none : (old cur : StateOf S) (p : Program) → cur ≡ after_step old Forgot → InRounds old cur p 0
  in-none old cur p is = record {
    log = [];
    made = record { rounds = λ l k. ap (λ (s : StateOf S). s.memory l k) is; after = is };
    counted = refl;
    rules = ap rules_of is;
    sources = λ i x at. (x, ap (λ (s : StateOf S). slice_get s.loaders i) (sym is) ∙ at, refl);
  }

  steps-more : (others : ℕ → List KeyOf → AnswerOf → Type 0) (rules : List RuleOf) (p : Program) (M mid : Memory) (log : List (List ReplyOf)) (r : List ReplyOf) (s : StateOf S) → AreRounds others rules p M log mid
      → after_steps s (asked_steps rules p M (log ++ r ∷ [])) ≡ after_step (after_steps s (asked_steps rules p M log)) (AskedLoads (front (modes_of rules) p mid) r)
  steps-more others rules p M mid [] r s k = let same : M ≡ mid = fun_ext (λ l. fun_ext (λ q. sym (k l q))) in ap (λ (N : Memory). after_step s (AskedLoads (front (modes_of rules) p N) r)) same
  steps-more others rules p M mid (first ∷ log) r s k = steps-more others rules p (after_round rules M first) mid log r (after_step s (AskedLoads (front (modes_of rules) p M) first)) k.2

  -- one round more
  pub in-more : (old cur new : StateOf S) (p : Program) (rounds next : ℕ) → InRounds old cur p rounds → next ≡ rounds + 1 → front (session_modes cur) p cur.memory ≢ [] → RoundRan may cur new (front (session_modes cur) p cur.memory) → InRounds old new p next
  in-more old cur new p rounds next is e some ran =
      let rules : List RuleOf = rules_of old in
      let M0 : Memory = without_failed old.memory in
      let loads : List Load = front (session_modes cur) p cur.memory in
      let r : List ReplyOf = ran.replies in
      let same : session_modes cur ≡ session_modes old = ap modes_of is.rules in
      let asked : AreReplies (may_at may old.loaders) (round_orders (rules_of cur) loads) r = replies-over old.loaders cur.loaders is.sources (round_orders (rules_of cur) loads) r ran.answered in
      let report : AreReplies (may_at may old.loaders) (round_orders rules (front (modes_of rules) p cur.memory)) r = rw is.rules at asked in
      let lacks : front (modes_of rules) p cur.memory ≢ [] = λ e. some (ap (λ ms. front ms p cur.memory) same ∙ e) in
      let memory : new.memory ≡ after_round rules cur.memory r = ap (λ (s : StateOf S). s.memory) ran.after ∙ ap (λ rs. after_round rs cur.memory r) is.rules in
      let grown : AreRounds (may_at may old.loaders) rules p M0 (is.log ++ r ∷ []) (after_round rules cur.memory r) = rounds-more (may_at may old.loaders) rules p M0 cur.memory is.log r is.made.rounds lacks report in
      let front-same : loads ≡ front (modes_of rules) p cur.memory = ap (λ ms. front ms p cur.memory) same in
      let after : new ≡ after_steps (after_step old Forgot) (asked_steps rules p M0 (is.log ++ r ∷ [])) =
      ran.after ∙ ap (λ (s : StateOf S). after_step s (AskedLoads loads r)) is.made.after ∙ ap (λ ls. after_step (after_steps (after_step old Forgot) (asked_steps rules p M0 is.log)) (AskedLoads ls r)) front-same
      ∙ sym (steps-more (may_at may old.loaders) rules p M0 cur.memory is.log r (after_step old Forgot) is.made.rounds) in
      record {
        log = is.log ++ r ∷ [];
        made = record { rounds = rw memory grown; after = after };
        counted = omega (arith, length-append is.log (r ∷ []), is.counted, e);
        rules = ran-rules may cur new loads ran ∙ is.rules;
        sources = λ i x at.
            let there = source-at true (cur.rounds + 1) (λ n. keys_for n loads) 0 cur.loaders i x (ap (λ (s : StateOf S). slice_get s.loaders i) (sym ran.after) ∙ at) in
            let first = is.sources i there.0 there.1 in
            (first.0, first.1, there.2 ∙ first.2);
      }

  pub in-more-log : (old cur new : StateOf S) (p : Program) (rounds next : ℕ) (is : InRounds old cur p rounds) (e : next ≡ rounds + 1) (some : front (session_modes cur) p cur.memory ≢ []) (ran : RoundRan may cur new (front (session_modes cur) p cur.memory))
      → InRounds.log (in-more old cur new p rounds next is e some ran) ≡ is.log ++ ran.replies ∷ []
  unfolding in-more
  in-more-log old cur new p rounds next is e some ran = refl

  pub in-loaders : (old cur : StateOf S) (p : Program) (rounds : ℕ) → InRounds old cur p rounds → length cur.loaders ≡ length old.loaders
  in-loaders old cur p rounds is = sym (length-map cur.loaders rule_of) ∙ ap length is.rules ∙ length-map old.loaders rule_of
