-- Plans are answered in a session of their world that is new: rounds can be made until nothing is missing, or until the work is over the
-- limit.
use Rattle.std.proofs.Common.{◌≡◌, ◌⊎◌, ◌≤◌, ◌<◌, ◌+◌, ℕ, zero, suc, List, [], ◌∷◌, All, map, length, inl, inr, sym, ap, subst, refl, Option, Some, None, arith}
use Rattle.std.proofs.lemmas.Bool.{cases_lt}
use Rattle.std.proofs.lemmas.List.{length-map}
use Rattle.std.proofs.lemmas.List.Elements.{All-head, All-tail}
use Rattle.std.proofs.lemmas.Option.{none-some, same_Some}
use Rattle.load_memory.specs.Replies.{ReplyOf}
use Rattle.load_queue.specs.Answers.{given, outcomes_of}
use Rattle.load_queue.specs.Loaders.{LoaderOf}
use Rattle.load_queue.specs.Orders.{OrderOf}
use Rattle.csv_source.specs.Tables.{SourceOf, item_of_key}
use Rattle.gq_bindings.specs.Tree as bindings
use Rattle.execution.specs.Loads.{Load, read}
use Rattle.execution.specs.Program.{Program, tree, chain}
use Rattle.execution.specs.Front.{front, keys_for}
use Rattle.execution.specs.Completion.{AnsweredOf}
use Rattle.execution.specs.Executed.{completed}
use Rattle.execution.specs.Rounds.{modes_of, rule_of, may_at, round_orders, orders_from, IsReply, AreReplies, without_failed, direct, AreLimited, HasLoaders}
use Rattle.execution.specs.Sessions.{Forgot, AskedLoads}
use Rattle.execution.proofs.Monotone.{exec-whole, front-open}
use Rattle.execution.proofs.RoundLaws.{rounds-chain}
use Rattle.gq_check.specs.Plans.{PlanOf}
use Rattle.plan_program.specs.PlanPrograms.{plan_program}
use Rattle.load_rounds.specs.Sessions.{StateOf, state_of, rules_of, session_modes, after_step}
use Rattle.load_rounds.specs.Calls.{RoundRan}
use Rattle.execution.specs.Executes.{IsTextOf}
use Rattle.load_rounds.specs.Limits.{work_in, IsWithin, IsOver as IsMore, AreAskedInTime}
use Rattle.load_rounds.specs.SharedRounds.{RequestOf, together}
use Rattle.load_rounds.specs.declared.limits.Limits.{Limits}
use Rattle.gq_resolve.proofs.PlanLoads.{plan-loads}
use Rattle.load_rounds.proofs.Following.{InRounds, in-none, in-more}
use Rattle.load_rounds.proofs.Numbering.{orders-below, orders-loads}
use Rattle.merging_fields.proofs.Twins.{there}
use Rattle.world.specs.Worlds.{WorldOf, IsLimit, HasSources}
use Rattle.world_answers.specs.Answers.{item_at, may_tell}
use Rattle.world_answers.specs.Services.{within}
use Rattle.world_answers.specs.Sessions.{loaders_over, session_over, IsOver}
use Rattle.world_answers.proofs.Known.{told-directly}
use Rattle.world_answers.proofs.Loading.{length-over}
use Rattle.world_answers.proofs.Restarting.{over-new}
use Rattle.world_answers.proofs.Logs.{chain-more, none-or}

-- an amount is more than a limit, or it isn't
more-or : (limit : Option ℕ) (amount : ℕ) → IsWithin limit amount ⊎ IsMore limit amount
more-or None amount = inl tt
more-or (Some most) amount = elim (cases_lt most amount) [
  | inl more ↦ inr more
  | inr within ↦ inl within
]

-- ---- the loaders of a world

fits-limit : (limit : Option ℕ) → IsLimit limit → (n : ℕ) → limit ≡ Some n → 0 < n
fits-limit None fits n e = absurd (none-some n e)
fits-limit (Some m) fits n e = let same : m ≡ n = same_Some m n e in let least = fits.0 in omega (arith, same, least)

module _ (limit : Option ℕ) where
  limited-over : ((n : ℕ) → limit ≡ Some n → 0 < n) → (lines : List bindings.LoaderOf) (sources : List SourceOf) → AreLimited (map rule_of (loaders_over limit lines sources))
  limited-over fits (line ∷ lines) (source ∷ sources) = (fits, limited-over fits lines sources)
  limited-over fits lines sources = tt

-- ---- what its sources answer

reply-there : (loaders : List (LoaderOf SourceOf)) (o : OrderOf) → o.loader < length loaders → (r : ReplyOf) × IsReply (may_at may_tell loaders) o r
reply-there loaders o lt =
    let l = there loaders o.loader lt in (
      record { loader = o.loader; keys = o.keys; outcomes = outcomes_of (length o.keys) (given (map (item_of_key l.0.source) o.keys)) },
      record { loader = refl; keys = refl; answer = given (map (item_of_key l.0.source) o.keys); may_be = (l.0, l.1, refl); outcomes = refl },
    )

replies-there : (loaders : List (LoaderOf SourceOf)) (os : List OrderOf) → All (λ (o : OrderOf). o.loader < length loaders) os → (rs : List ReplyOf) × AreReplies (may_at may_tell loaders) os rs
replies-there loaders [] h = ([], tt)
replies-there loaders (o ∷ os) h =
    let r = reply-there loaders o (All-head (λ (x : OrderOf). x.loader < length loaders) o os h) in
    let rest = replies-there loaders os (All-tail (λ (x : OrderOf). x.loader < length loaders) o os h) in
    (r.0 ∷ rest.0, (r.1, rest.1))

orders-within : (cur : StateOf SourceOf) (loads : List Load) → All (λ (o : OrderOf). o.loader < length cur.loaders) (round_orders (rules_of cur) loads)
orders-within cur loads =
    let size = length-map cur.loaders rule_of in
    let own : All (λ (o : OrderOf). o.loader < length cur.loaders) (orders_from 0 (rules_of cur) loads) =
    rw (← orders-loads 0 (rules_of cur) loads) (orders-below 0 (length cur.loaders) (rules_of cur) (λ n. keys_for n loads) (omega (arith, size))) in
    own

round-there : (cur : StateOf SourceOf) (loads : List Load) → (new : StateOf SourceOf) × RoundRan may_tell cur new loads
round-there cur loads =
    let r = replies-there cur.loaders (round_orders (rules_of cur) loads) (orders-within cur loads) in
    (after_step cur (AskedLoads loads r.0), record { replies = r.0; answered = r.1; after = refl })

-- ---- rounds come to an end

module _ (w : WorldOf) (has : HasSources w) where
  abbrev ls : List (LoaderOf SourceOf)
  ls = loaders_over w.limit w.bindings.loaders w.sources

  abbrev old : StateOf SourceOf
  old = state_of (session_over w)

  over : IsOver w (session_over w)
  over = over-new w has.each

  pub limited : AreLimited (rules_of old)
  limited = limited-over w.limit (fits-limit w.limit has.fits) w.bindings.loaders w.sources

  -- says what needs the loaders of the bindings has them
  pub over-loaders : (p : Program) → HasLoaders (length w.bindings.loaders) p → HasLoaders (length (rules_of old)) p
  over-loaders p within = λ R l one.
      let below = within R l one in
      let size = length-map ls rule_of in
      let own : length ls ≡ length w.bindings.loaders = length-over w.limit w.bindings.loaders w.sources has.each in
      omega (arith, below, size, own)

  module _ (limit : Option ℕ) (rs : List RequestOf) (own : HasLoaders (length (rules_of old)) (together rs)) where
    abbrev p : Program
    p = together rs

    abbrev limits : Limits
    limits = record { work = limit; rounds = None; steps = None }

    few : (cur : StateOf SourceOf) (n : ℕ) → InRounds may_tell old cur p n → n ≤ chain p (direct (item_at w.sources))
    few cur n is =
        let made : length is.log ≤ chain p (read (session_modes cur) cur.memory) =
        subst (λ ms. length is.log ≤ chain p (read ms cur.memory)) (ap modes_of (sym is.rules))
        (rounds-chain (may_at may_tell ls) (rules_of old) p (without_failed old.memory) is.log cur.memory limited own is.made.rounds) in
        let more = chain-more p (read (session_modes cur) cur.memory) (direct (item_at w.sources)) (told-directly (within None None w) (session_over w) over cur p is.log is.made) in
        let c = is.counted in
        omega (arith, made, more, c)

    -- nothing is missing any more, and the work is within the limit; or it isn't
    abbrev pub HasEnded : StateOf SourceOf → Type 0
    HasEnded last = (IsWithin limit (work_in last rs) × (front (session_modes last) p last.memory ≡ [])) ⊎ IsMore limit (work_in last rs)

    pub record Done : Type 0 where
      pub last : StateOf SourceOf
      pub rounds : ℕ
      pub is : InRounds may_tell old last p rounds
      pub in_time : AreAskedInTime may_tell old last limits rs rounds
      pub ended : HasEnded last

    done : (left : ℕ) (cur : StateOf SourceOf) (n : ℕ) → InRounds may_tell old cur p n → AreAskedInTime may_tell old cur limits rs n → chain p (direct (item_at w.sources)) < n + left → Done
    done zero cur n is in_time lt = let most = few cur n is in absurd (omega (arith, lt, most))
    done (suc left) cur n is in_time lt = elim (more-or limit (work_in cur rs)) [
      | inr more ↦ record { last = cur; rounds = n; is = is; in_time = in_time; ended = inr more }
      | inl within ↦ elim (none-or (front (session_modes cur) p cur.memory)) [
        | inl e ↦ record { last = cur; rounds = n; is = is; in_time = in_time; ended = inl (within, e) }
        | inr some ↦
            let r = round-there cur (front (session_modes cur) p cur.memory) in
            done left r.0 (n + 1) (in-more may_tell old cur r.0 p n (n + 1) is refl some r.1)
            (inr (record { before = cur; earlier = is.log; made = is.made; might = record { work = within; rounds = inl tt }; ran = r.1 })) (omega (arith, lt))
      ]
    ]

    pub rounds-end : Done
    rounds-end = done (suc (chain p (direct (item_at w.sources)))) (after_step old Forgot) 0 (in-none may_tell old (after_step old Forgot) p refl) (inl refl) (omega arith)

-- ---- a plan

-- the text of an execution over what is known
abbrev pub text_over : (AnsweredOf → List ℕ) → Program → StateOf SourceOf → List ℕ
text_over text_of p last = text_of (completed (tree p (read (session_modes last) last.memory)))

pub text-reported : (text_of : AnsweredOf → List ℕ) (p : Program) (last : StateOf SourceOf) → front (session_modes last) p last.memory ≡ [] → IsTextOf text_of p (read (session_modes last) last.memory) (text_over text_of p last)
text-reported text_of p last none = record {
  answered = completed (tree p (read (session_modes last) last.memory));
  executed = exec-whole p (read (session_modes last) last.memory) ((front-open (session_modes last) p last.memory).0 none);
  report = refl;
}

-- a plan over the bindings of a world needs no other loaders
pub plan-within : (w : WorldOf) (plan : PlanOf) → plan.bindings ≡ w.bindings → HasLoaders (length w.bindings.loaders) (plan_program plan)
plan-within w plan bound = subst (λ (b : bindings.BindingsOf). HasLoaders (length b.loaders) (plan_program plan)) bound (plan-loads plan)
