-- Lemmas on how far an execution comes: what waits is what the plan still asks.
use Rattle.std.specs.Arc.{arc_value}
use Rattle.std.proofs.Common.{◌≡◌, ◌≢◌, ℕ, ◌<◌, false, List, [], ◌∷◌, ◌++◌, Vec, Global, length, refl, sym, ap, subst, ◌∙◌, arith, append_assoc, append-nil, length-append}
use Rattle.std.specs.List.{flat_map}
use Rattle.std.proofs.lemmas.Grind.{flat_map-append}
use Rattle.std.proofs.lemmas.List.{flat_map_more}
use Rattle.std.proofs.Math.Seq.{get_or-append_seam}
use Rattle.load_memory.specs.Keys.{KeyOf, key_of}
use Rattle.load_memory.specs.Pairs.{MemoryOf}
use Rattle.execution.specs.Loads.{Load, Reader, AnswersMore}
use Rattle.execution.specs.Program.{ObjectOf, Program, Under, Programs}
use Rattle.execution.specs.Reads.{counted}
use Rattle.execution.specs.Residual.{unanswered}
use Rattle.execution.proofs.Fitting.{more-self}
use Rattle.gq_check.specs.Plans.{PlanOf}
use Rattle.plan_program.specs.PlanPrograms.{read_key, root_prepared, plan_program, asked_program, object_program, fields_of, most_levels}
use Rattle.plan_walk.specs.Groups.{AreKnown, members_seen, Makes, AreMade, AreRight, Grows, view_of}
use Rattle.plan_walk.specs.Puts.{Put, View, puts}
use Rattle.plan_walk.specs.Positions.{onward_of}
use Rattle.plan_walk.specs.Reading.{lookup}
use Rattle.gq_resolve.specs.Suspended.{IsRooted, MayGoOn, load_of, loads_of, GoesOver, Searched, Advanced}
use Rattle.plan_walk.specs.Walks.{Goes}
use Rattle.gq_resolve.specs.Composing.{puts-more, within-rises, asks-narrow}
use Rattle.gq_resolve.specs.Written.{asks, put_asks, thinned, left_of, all_asks, AreWithin}
use Rattle.gq_resolve.specs.Outputs.{IsWithin, Puts}
use Rattle.plan_walk.specs.declared.loading_fields.LoadingField.{LoadingField}
use Rattle.plan_walk.specs.declared.loading_fields.Member.{Member}
use Rattle.plan_walk.specs.declared.waiting.BlockedPosition.{BlockedPosition}
use Rattle.gq_resolve.specs.declared.output.Output.{Output}
use Rattle.gq_resolve.specs.declared.advance.RootObject.{RootObject}
use Rattle.gq_resolve.specs.declared.advance.FinishedWalk.{FinishedWalk}
use Rattle.plan_walk.specs.declared.walk.Progress.{Progress}
use Rattle.plan_walk.proofs.Grouping.{covers-view, makes-more}
use Rattle.plan_walk.proofs.Touring.{Putting, Below, Laws, goes-then, goes-as}
use Rattle.gq_resolve.specs.AnswerTexts.{IsTextOf}
use Rattle.gq_resolve.proofs.Numbering.{numbered-plan}
use Rattle.gq_resolve.proofs.ReadingBack.{puts-order}
use Rattle.gq_resolve.proofs.Putting.{puts_ask, asks-puts, waits-puts, puts-read}

-- ---- roots

-- a root whose members were made of no groups
pub begun-rooted : (plan : PlanOf) (r : RootObject) (old : List LoadingField) → old ≡ [] → AreMade old r.groups.items (root_prepared plan) (arc_value r.members).items → r.row ≡ [] → IsRooted plan r
begun-rooted plan r old none made empty = record { root = (made.over plan).makes; row = empty; right = (made.over plan).grows.right (subst (AreRight plan) (sym none) (λ k g lt. absurd (omega (arith, lt)))) }

-- a root whose groups have grown
pub rooted-more : (plan : PlanOf) (r : RootObject) (gs : Vec LoadingField Global) → Grows plan r.groups.items gs.items → IsRooted plan r → IsRooted plan (record { members = r.members; row = r.row; groups = gs })
rooted-more plan r gs grows is = record { root = makes-more plan r.groups.items gs.items (arc_value r.members).items (root_prepared plan) grows is.root; row = is.row; right = grows.right is.right }

-- a copy of a root, which shares its members and its row
pub copied-rooted : (plan : PlanOf) (r copy : RootObject) → arc_value copy.members ≡ arc_value r.members → copy.row ≡ r.row → Grows plan r.groups.items copy.groups.items → IsRooted plan r → IsRooted plan copy
copied-rooted plan r copy same empty grows is = record { root = rw same (makes-more plan r.groups.items copy.groups.items (arc_value r.members).items (root_prepared plan) grows is.root); row = empty ∙ is.row; right = grows.right is.right }

-- the walk over the root object
pub over-root : {S : Type 0} {goes : Putting S} {below : Below S} {most : ℕ} (plan : PlanOf) (m : MemoryOf) (r : RootObject) (ms : List Member) (a b : Progress S) → a.groups ≡ r.groups → ms ≡ (arc_value r.members).items → IsRooted plan r
    → below (length r.groups.items) a.out → Goes goes below most plan (AreKnown (length a.groups.items) ms) (λ v. puts false (Under ObjectOf (members_seen plan.definitions v most_levels r.row ms)) (lookup m)) a b
    → GoesOver goes plan m a.out (record { rooted = record { members = r.members; row = r.row; groups = b.groups }; out = b.out })
over-root {goes = goes} {below = below} plan m r ms a b start same rooted wait p =
    let v : View = view_of plan b.groups.items in
    let is : IsRooted plan (record { members = r.members; row = r.row; groups = a.groups }) = rw start rooted in
    let root : Makes plan a.groups.items ms (root_prepared plan) = rw same is.root in
    let fields : members_seen plan.definitions v most_levels r.row ms ≡ fields_of (asked_program plan.definitions (object_program plan most_levels) []) (root_prepared plan) =
    rw rooted.row (root.members v (p.grows.covers v (covers-view plan b.groups.items)) most_levels []) in
    let from : below (length a.groups.items) a.out = rw start wait in
    record {
      rooted = rooted-more plan (record { members = r.members; row = r.row; groups = a.groups }) b.groups p.grows is;
      put = subst (λ (us : Programs). goes v (puts false (Under ObjectOf us) (lookup m)) a.out b.out) fields (p.puts root.known is.right from v (covers-view plan b.groups.items));
    }

-- ---- what is left

-- the loads of positions are what they ask where nothing is answered
loads-asked : (v : View) (bs : List BlockedPosition) → all_asks v bs unanswered ≡ loads_of bs
loads-asked v [] = refl
loads-asked v (b ∷ bs) = ap (λ ls. load_of b ∷ ls) (loads-asked v bs)

-- nothing waited, and what is put asks what the plan asks, over a larger memory too
left-over : (plan : PlanOf) (m : MemoryOf) (r : RootObject) (ps : List Put) (a b : Output) → IsRooted plan r → a.blocked ≡ [] → Puts (view_of plan r.groups.items) ps a b
    → ((Q : Reader) → AnswersMore (lookup m) Q → thinned [] (puts_ask Q ps) ≡ thinned [] (asks (plan_program plan) Q)) → thinned [] (puts_ask unanswered ps) ≡ thinned [] (asks (plan_program plan) (lookup m))
    → Searched plan m (record { rooted = r; out = b })
left-over plan m r ps a b rooted none put later now =
    let v : View = view_of plan r.groups.items in
    let asked : (Q : Reader) → thinned [] (all_asks v b.blocked Q) ≡ thinned [] (puts_ask Q ps) = λ Q. put.asked Q ∙ ap (λ xs. thinned (thinned [] (all_asks v xs Q)) (puts_ask Q ps)) none in
    record {
      goes_on = record {
        rooted = rooted;
        within = put.within (subst (AreWithin v.count) (sym none) (λ k d lt. absurd (omega (arith, lt))));
        ask = λ Q more. asked Q ∙ later Q more;
      };
      lacks = ap (thinned []) (sym (loads-asked v b.blocked)) ∙ asked unanswered ∙ now;
    }

-- something waits after a search
pub still-waits : (plan : PlanOf) (m : MemoryOf) (most : ℕ) (w : FinishedWalk Output) → w.out.blocked ≢ [] → Searched plan m w → Advanced plan m most w
still-waits plan m most w some s = record { searched = s; loads = λ none. absurd (some none); written = λ none. absurd (some none) }

-- ---- from the root

-- where nothing waits, nothing waits at a later group
pub none-waits : (n : ℕ) (a : Output) → a.blocked ≡ [] → IsWithin n a
none-waits n a none = subst (AreWithin n) (sym none) (λ k d lt. absurd (omega (arith, lt)))

-- the whole plan was put
pub root-searched : (plan : PlanOf) (m : MemoryOf) (w : FinishedWalk Output) (a : Output) → a.blocked ≡ [] → GoesOver Puts plan m a w → Searched plan m w
root-searched plan m w a none over =
    left-over plan m w.rooted (puts false (plan_program plan) (lookup m)) a w.out over.rooted none over.put
    (λ Q more. ap (thinned []) (asks-puts false (plan_program plan) (lookup m) Q more)) (ap (thinned []) (waits-puts false (plan_program plan) (lookup m)))

-- the answer was put from its start on
pub answer-written : (plan : PlanOf) (m : MemoryOf) (most : ℕ) (w : FinishedWalk Output) (a : Output) → a.blocked ≡ [] → a.loads ≡ 0 → IsTextOf most [] a.text → GoesOver Puts plan m a w → Advanced plan m most w
answer-written plan m most w a none zero begun over =
    let ps : List Put = puts false (plan_program plan) (lookup m) in
    record {
      searched = root-searched plan m w a none over;
      loads = λ whole. over.put.loads ∙ ap counted (omega (arith, zero, puts-read false (plan_program plan) (lookup m)));
      written = λ whole. over.put.written whole most [] _ (puts-order false (plan_program plan) (lookup m) [] (numbered-plan plan)) begun;
    }

-- ---- positions that go on

-- gives what is put where positions go on
abbrev pub resumed : View → Reader → List BlockedPosition → List Put
resumed v R bs = flat_map (λ (b : BlockedPosition). puts false (left_of v b) R) bs

-- the loads that all positions ask for are those that each asks for
resumed-asked : (F : Program → List Load) (v : View) (R Q : Reader) (bs : List BlockedPosition) → ((p : Program) → puts_ask Q (puts false p R) ≡ F p) → puts_ask Q (resumed v R bs) ≡ flat_map (λ (b : BlockedPosition). F (left_of v b)) bs
resumed-asked F v R Q [] each = refl
resumed-asked F v R Q (b ∷ bs) each =
    flat_map-append (put_asks Q) (puts false (left_of v b) R) (resumed v R bs)
    ∙ ap (λ ls. ls ++ puts_ask Q (resumed v R bs)) (each (left_of v b)) ∙ ap (λ ls. F (left_of v b) ++ ls) (resumed-asked F v R Q bs each)

-- the laws of an output
output_laws : Laws Puts IsWithin
output_laws = record { more = puts-more; rises = within-rises; stays = λ v ps a b p. p.within }

-- the positions before the last of these went on
pub record AreResumed (most : ℕ) (plan : PlanOf) (m : MemoryOf) (all left : List BlockedPosition) (start now : Progress Output) : Type 0 where
  pub before : List BlockedPosition
  pub split : all ≡ before ++ left
  pub goes : Goes Puts IsWithin most plan (AreWithin (length start.groups.items) all) (λ v. resumed v (lookup m) before) start now

-- one more
pub resumed-one : {most : ℕ} {plan : PlanOf} {m : MemoryOf} {all left after : List BlockedPosition} {start now new : Progress Output} (b : BlockedPosition) (key : KeyOf) → left ≡ b ∷ after → key ≡ key_of b.key
    → Goes Puts IsWithin most plan (b.onward.group < length now.groups.items) (λ v. puts false (read_key b.loader key (v.after (onward_of b.onward))) (lookup m)) now new
    → AreResumed most plan m all left start now → AreResumed most plan m all after start new
resumed-one {m = m} {all = all} {after = after} {start = start} {now = now} b asked next is here h =
    let split : all ≡ h.before ++ b ∷ after = h.split ∙ ap (λ bs. h.before ++ bs) next in
    let among : AreWithin (length start.groups.items) all → b.onward.group < length now.groups.items =
    λ within.
    let lt : b.onward.group < length start.groups.items =
    subst (λ (x : BlockedPosition). x.onward.group < length start.groups.items) (get_or-append_seam h.before b after b)
    (subst (AreWithin (length start.groups.items)) split within (length h.before) b (omega (arith, length-append h.before (b ∷ after)))) in
    omega (arith, lt, h.goes.grows.longer) in
    record {
      before = h.before ++ b ∷ [];
      split = split ∙ sym (append_assoc h.before (b ∷ []) after);
      goes = goes-as (goes-then output_laws among h.goes here)
          (λ k v cov. ap (λ (x : KeyOf). resumed v (lookup m) h.before ++ puts false (read_key b.loader x (v.after (onward_of b.onward))) (lookup m)) is
          ∙ flat_map_more (λ (x : BlockedPosition). puts false (left_of v x) (lookup m)) [] h.before b);
    }

-- all of them went on
pub all-resumed : {most : ℕ} {plan : PlanOf} {m : MemoryOf} {all left : List BlockedPosition} {start now : Progress Output} (r : RootObject) → r.groups ≡ start.groups → start.out.blocked ≡ [] → left ≡ []
    → AreResumed most plan m all left start now → MayGoOn plan m r all → Searched plan m (record { rooted = record { members = r.members; row = r.row; groups = now.groups }; out = now.out })
all-resumed {plan = plan} {m = m} {all = all} {start = start} {now = now} r same none ended h may =
    let v : View = view_of plan now.groups.items in
    let old : View = view_of plan r.groups.items in
    let R : Reader = lookup m in
    let whole : h.before ≡ all = sym (append-nil h.before) ∙ sym (h.split ∙ ap (λ bs. h.before ++ bs) ended) in
    let grows : Grows plan r.groups.items now.groups.items = rw same h.goes.grows in
    let within : AreWithin (length start.groups.items) all = rw (← same) may.within in
    let right : AreRight plan start.groups.items = rw (← same) may.rooted.right in
    let put : Puts v (resumed v R all) start.out now.out =
    rw (← whole) (h.goes.puts within right (subst (AreWithin (length start.groups.items)) (sym none) (λ k d lt. absurd (omega (arith, lt)))) v (covers-view plan now.groups.items)) in
    let alike : (Q : Reader) → all_asks v all Q ≡ all_asks old all Q =
    λ Q. asks-narrow v old (length r.groups.items) all Q (λ o lt. (grows.covers v (covers-view plan now.groups.items)).tells o lt) may.within in
    left-over plan m (record { members = r.members; row = r.row; groups = now.groups }) (resumed v R all) start.out now.out (rooted-more plan r now.groups grows may.rooted) none put
    (λ Q more. ap (thinned []) (resumed-asked (λ p. asks p Q) v R Q all (λ p. asks-puts false p R Q more) ∙ alike Q) ∙ may.ask Q more)
    (ap (thinned []) (resumed-asked (λ p. asks p R) v R unanswered all (λ p. waits-puts false p R) ∙ alike R) ∙ may.ask R (more-self R))
