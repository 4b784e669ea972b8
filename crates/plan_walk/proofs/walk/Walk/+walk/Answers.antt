use Rattle.std.specs.Arc.{arc_value}
use Rattle.std.proofs.Common.{◌≡◌, ◌-◌, ◌+◌, ◌≤◌, ◌∙◌, ◌<◌, get_or, ◌++◌, rules, ℕ, List, [], ◌∷◌, map, take, drop, length, arith, sym, ap, subst, refl, Bool, Option, Some, None, Vec, Global, string_bytes}
use Rattle.std.specs.Prelude.{OnOk}
use Rattle.std.specs.Option.{option_map, option_copied}
use Rattle.std.proofs.lemmas.List.{take_all, length-take-le, length-map, length-drop, get_or-drop}
use Rattle.std.proofs.lemmas.Result.{on_ok_weaker}
use Rattle.schema_syntax.specs.Tree.{Definition}
use Rattle.gq_schema.specs.Types.{tree_of}
use Rattle.gq_bindings.specs.Tree.{StepOf}
use Rattle.gq_bindings.specs.Seen.{step_of}
use Rattle.load_memory.specs.Keys.{KeyOf, key_of, borrowed_of}
use Rattle.load_memory.specs.Rows.{RowOf}
use Rattle.load_memory.specs.Outcomes.{outcome_of}
use Rattle.load_memory.specs.Pairs.{MemoryOf}
use Rattle.load_memory.specs.declared.key.Key.{Key}
use Rattle.execution.specs.Loads.{Reader}
use Rattle.execution.specs.Program.{Fault, Null, Program, Is, Under, ListOf, ObjectOf}
use Rattle.gq_check.specs.Plans.{PlanOf, plan_of}
use Rattle.plan_program.specs.PlanPrograms.{TypeOf, object_type, type_fault, type_of_row, places, read_key, read_if, typed_object, object_program}
use Rattle.plan_program.specs.FieldValues.{ChildrenOf}
use Rattle.plan_program.specs.declared.prepared.Children.{Children}
use Rattle.plan_walk.specs.Groups.{members_seen, children_at, then_at, steps_in, Covers, AreOnly, IsShaped}
use Rattle.plan_walk.specs.Puts.{Ends, Waits, View, OnwardOf, reads, puts}
use Rattle.plan_walk.specs.Positions.{is_non_null, onward_of, later_of}
use Rattle.plan_walk.specs.Reading.{lookup}
use Rattle.plan_walk.specs.Walks.{WalksAt, items_read}
use Rattle.plan_program.specs.Prepared.{keys_seen}
use Rattle.plan_walk.specs.declared.positions.Onward.{Onward}
use Rattle.plan_walk.specs.Following.{come_to}
use Rattle.plan_walk.specs.declared.following.ViaRows.{ViaRows}
use Rattle.plan_walk.specs.declared.loading_fields.LoadingField.{LoadingField}
use Rattle.plan_walk.specs.declared.loading_fields.Member.{Member}
use Rattle.plan_walk.proofs.Lookups.{looked-up}
use Rattle.plan_walk.proofs.Touring.{Laws, goes-put, goes-as, walks-as, goes-probed, goes-read, goes-entered, goes-ended, goes-asked, goes-stopped, goes-passed, goes-made, goes-only-none, goes-only, goes-let_go, members-entries, places-entries, fields_put, fields-more, fields-rest, known-at, items-more, items-rest, items-whole, joined_by, after-one, after-taken, after-followed, after-missing, after-row, after-head, map-map}
use Rattle.plan_walk.proofs.walk.Walk.+walk.Given.{Over}
use Rattle.plan_walk.proofs.walk.Walk.+walk.Goals as goal

laws : (g : Over) → Laws g.S.Sink.goes g.S.Sink.below
laws g = record { more = g.met.S.Sink.more; rises = g.met.S.Sink.rises; stays = g.met.S.Sink.stays }

-- ---- objects and lists

pub object-loop-member-init : goal.object-loop-member-init
object-loop-member-init g t c =
    let R : Reader = lookup c.args.self.now.memory.now in
    let ms : List Member = c.args.members.now in
    let some = λ (v : View). members_seen (plan_of c.args.self.now.plan.now).definitions v c.args.levels c.args.row.now (take c.passes-passed.result ms) in
    let first : length (take c.passes-passed.result ms) ≡ c.passes-passed.result = length-take-le c.passes-passed.result ms c.passes-passed.ensures.few in
    let same : c.passes-passed.result ≡ c.passes-passed.result + 0 = omega arith in
    goes-as (goes-passed R some c.begin.new.self c.passes-passed.new.self (laws g) c.in_ok-begin.ensures
    (λ v. c.passes-passed.ensures.passed v ObjectOf (some v) R (members-entries (plan_of c.args.self.now.plan.now).definitions v c.args.levels c.args.row.now (take c.passes-passed.result ms) ∙ first)))
    (λ k v cov. ap (λ (i : ℕ). fields_put (plan_of c.args.self.now.plan.now).definitions c.args.levels c.args.row.now R (take i ms) v) same)

pub object-loop-member-preserved : goal.object-loop-member-preserved
object-loop-member-preserved g t c =
    let n : ℕ = c.passes-passed.result in
    let ms : List Member = c.args.members.now in
    let i : ℕ = n + c.loop-member.member-index in
    let next : i + 1 ≡ n + (c.loop-member.member-index + 1) = omega arith in
    let lt : i < length ms = omega (arith, c.loop-member-test.true, length-drop n ms) in
    let rest : take (length ms - n) (drop n ms) ≡ drop n ms = take_all (length ms - n) (drop n ms) (omega (arith, length-drop n ms)) in
    let is : c.member-item.result ≡ get_or ms i c.member-item.result =
    c.member-item.is ∙ ap (λ (xs : List Member). get_or xs c.loop-member.member-index c.member-item.result) rest ∙ get_or-drop n ms c.loop-member.member-index c.member-item.result in
    let before = goes-asked c.stops.new.self (laws g) c.loop-member.invariant c.stops.ensures.same in
    goes-as (goes-entered (laws g) (known-at _ _ ms i c.member-item.result c.loop-member.invariant.grows.longer lt is) before refl c.in_ok-field.ensures c.in_ok-ask.ensures)
    (λ k v cov. fields-more (plan_of c.args.self.now.plan.now).definitions c.args.levels c.args.row.now (lookup c.args.self.now.memory.now) ms i c.member-item.result v lt is
    ∙ ap (λ (l : ℕ). fields_put (plan_of c.args.self.now.plan.now).definitions c.args.levels c.args.row.now (lookup c.args.self.now.memory.now) (take l ms) v) next)

pub object-returns-then-stops : goal.object-returns-then-stops
object-returns-then-stops g t c =
    let before = goes-asked c.stops.new.self (laws g) c.loop-member.invariant c.stops.ensures.same in
    goes-as (goes-stopped _ (laws g) (c.stops.ensures.stops c.if-stops.true) before)
    (λ k v cov. fields-rest (plan_of c.args.self.now.plan.now).definitions (is_non_null c.args.nullability) c.args.levels c.args.row.now (lookup c.args.self.now.memory.now) c.args.members.now (c.passes-passed.result + c.loop-member.member-index) v)

pub object-returns : goal.object-returns
object-returns g t c =
    let i : ℕ = c.passes-passed.result + c.loop-member.member-index in
    let all : length c.args.members.now ≤ i = omega (arith, c.loop-member-test.false, length-drop c.passes-passed.result c.args.members.now) in
    on_ok_weaker c.end.result
    (λ q. goes-as (goes-ended (laws g) c.loop-member.invariant refl q)
    (λ k v cov. ap (λ ms. fields_put (plan_of c.args.self.now.plan.now).definitions c.args.levels c.args.row.now (lookup c.args.self.now.memory.now) ms v ++ Ends ObjectOf (is_non_null c.args.nullability) ∷ []) (take_all i c.args.members.now all)))
    c.end.ensures

pub all-loop-number-init : goal.all-loop-number-init
all-loop-number-init g t c =
    let rows : List RowOf = c.args.rows.now in
    let item = λ (v : View) (row : RowOf). v.after (later_of c.args.left (onward_of c.args.to.onward)) (row ∷ []) in
    let first : length (take c.passes-number.result rows) ≡ c.passes-number.result = length-take-le c.passes-number.result rows c.passes-number.ensures.few in
    goes-passed (lookup c.args.self.now.memory.now) (λ v. places _ _ 0 (map (item v) (take c.passes-number.result rows))) c.begin.new.self c.passes-number.new.self (laws g) c.in_ok-begin.ensures
    (λ v. c.passes-number.ensures.passed v ListOf _ _ (places-entries _ _ 0 (map (item v) (take c.passes-number.result rows)) ∙ length-map (take c.passes-number.result rows) (item v) ∙ first))

pub all-loop-number-preserved : goal.all-loop-number-preserved
all-loop-number-preserved g t c =
    let before = goes-asked c.stops.new.self (laws g) c.loop-number.invariant c.stops.ensures.same in
    goes-as (goes-entered (laws g) (λ lt. omega (arith, lt, c.loop-number.invariant.grows.longer)) before refl c.in_ok-item.ensures c.in_ok-follow.ensures)
    (λ k v cov. items-more _ _ _ (λ (v : View) (row : RowOf). v.after (later_of c.args.left (onward_of c.args.to.onward)) (row ∷ [])) c.args.rows.now c.loop-number.number c.index-rows-number.result v c.loop-number-test.true c.index-rows-number.is)

pub all-returns-then-stops : goal.all-returns-then-stops
all-returns-then-stops g t c =
    let before = goes-asked c.stops.new.self (laws g) c.loop-number.invariant c.stops.ensures.same in
    goes-as (goes-stopped _ (laws g) (c.stops.ensures.stops c.if-stops.true) before)
    (λ k v cov. items-rest _ _ _ _ _ _ (λ (v : View) (row : RowOf). v.after (later_of c.args.left (onward_of c.args.to.onward)) (row ∷ [])) c.args.rows.now c.loop-number.number v
    (c.items_of-items.ensures.nullability ∙ ap (λ (gs : List LoadingField). (children_at gs c.args.to.onward.group).item_non_null) c.deref.ensures.value)
    (c.items_of-items.ensures.place ∙ ap (λ (gs : List LoadingField). (children_at gs c.args.to.onward.group).place) c.deref.ensures.value))

pub all-returns : goal.all-returns
all-returns g t c =
    on_ok_weaker c.end.result
    (λ q. goes-as (goes-ended (laws g) c.loop-number.invariant refl q)
    (λ k v cov. items-whole _ _ _ _ _ _ (λ (v : View) (row : RowOf). v.after (later_of c.args.left (onward_of c.args.to.onward)) (row ∷ [])) c.args.rows.now c.loop-number.number v
    (c.items_of-items.ensures.nullability ∙ ap (λ (gs : List LoadingField). (children_at gs c.args.to.onward.group).item_non_null) c.deref.ensures.value)
    (c.items_of-items.ensures.place ∙ ap (λ (gs : List LoadingField). (children_at gs c.args.to.onward.group).place) c.deref.ensures.value) c.loop-number-test.false))
    c.end.ensures

pub follow-returns-then-left-eq0 : goal.follow-returns-then-left-eq0
follow-returns-then-left-eq0 g t c =
    let none : 0 ≡ c.args.left = omega (arith, c.if-left-eq0.true) in
    on_ok_weaker c.row_object.result
    (λ p. walks-as (is_non_null c.args.to.nullability) _ _ _ p (λ k v cov. ap (λ (n : ℕ). v.after (later_of n (onward_of c.args.to.onward)) (c.args.row.now ∷ [])) none))
    c.row_object.ensures

-- the later loaders of a group are those of the groups that were lent
steps-lent : (gs lent : List LoadingField) (group : ℕ) (steps : List StepOf) → steps ≡ steps_in (then_at lent group) → lent ≡ gs → steps ≡ steps_in (then_at gs group)
steps-lent gs lent group steps is same = is ∙ ap (λ (xs : List LoadingField). steps_in (then_at xs group)) same

pub follow-returns-in-Row : goal.follow-returns-in-Row
follow-returns-in-Row g t c =
    let R : Reader = lookup c.args.self.now.memory.now in
    let onward : OnwardOf = onward_of c.args.to.onward in
    let steps : List StepOf = map step_of c.steps_of-steps.result.now in
    let same = steps-lent c.args.at.now.groups.items _ onward.group steps c.steps_of-steps.ensures c.deref.ensures.value in
    on_ok_weaker c.row_object-in-Row.result
    (λ p. goes-as (goes-read c.loads.new.self (laws g) c.loads.ensures (goes-probed _ p)) (λ lt v cov.
    ap (λ (q : Program). reads c.in_ok-followed.followed.loads ++ puts (is_non_null c.args.to.nullability) q R) (after-row _ _ v onward cov lt c.in-Row.row.now)
    ∙ sym (after-followed _ _ v onward cov lt c.args.left (is_non_null c.args.to.nullability) R steps c.args.row.now c.in_ok-followed.followed same c.in_ok-followed.ensures
    ∙ ap (λ (there : ViaRows). reads c.in_ok-followed.followed.loads ++ come_to (is_non_null c.args.to.nullability) R (joined_by _ _ v onward cov lt) steps there) c.in-Row.is)))
    c.row_object-in-Row.ensures

pub follow-returns-in-LeafValue : goal.follow-returns-in-LeafValue
follow-returns-in-LeafValue g t c =
    let R : Reader = lookup c.args.self.now.memory.now in
    let onward : OnwardOf = onward_of c.args.to.onward in
    let steps : List StepOf = map step_of c.steps_of-steps.result.now in
    let same = steps-lent c.args.at.now.groups.items _ onward.group steps c.steps_of-steps.ensures c.deref.ensures.value in
    on_ok_weaker c.leaf_value.result
    (λ q. goes-as (goes-read c.loads.new.self (laws g) c.loads.ensures (goes-put refl (λ k v _. rw c.in-LeafValue.is at (q v)))) (λ lt v cov.
    sym (after-followed _ _ v onward cov lt c.args.left (is_non_null c.args.to.nullability) R steps c.args.row.now c.in_ok-followed.followed same c.in_ok-followed.ensures
    ∙ ap (λ (there : ViaRows). reads c.in_ok-followed.followed.loads ++ come_to (is_non_null c.args.to.nullability) R (joined_by _ _ v onward cov lt) steps there) c.in-LeafValue.is)))
    c.leaf_value.ensures

pub follow-returns-in-Missing : goal.follow-returns-in-Missing
follow-returns-in-Missing g t c =
    let R : Reader = lookup c.args.self.now.memory.now in
    let onward : OnwardOf = onward_of c.args.to.onward in
    let steps : List StepOf = map step_of c.steps_of-steps.result.now in
    let same = steps-lent c.args.at.now.groups.items _ onward.group steps c.steps_of-steps.ensures c.deref.ensures.value in
    on_ok_weaker c.wait.result
    (λ q. goes-as (goes-read c.loads.new.self (laws g) c.loads.ensures (goes-put refl (λ k v le. q v (omega (arith, k, le))))) (λ lt v cov.
    ap (λ (f : List RowOf → Program). reads c.in_ok-followed.followed.loads ++ Waits (read_key c.in-Missing.loader (borrowed_of c.in-Missing.key) f) ∷ []) (after-missing _ _ v onward cov lt c.in-Missing.left steps same)
    ∙ sym (after-followed _ _ v onward cov lt c.args.left (is_non_null c.args.to.nullability) R steps c.args.row.now c.in_ok-followed.followed same c.in_ok-followed.ensures
    ∙ ap (λ (there : ViaRows). reads c.in_ok-followed.followed.loads ++ come_to (is_non_null c.args.to.nullability) R (joined_by _ _ v onward cov lt) steps there) c.in-Missing.is)))
    c.wait.ensures

pub each-loop-number-init : goal.each-loop-number-init
each-loop-number-init g t c =
    let keys : List (Option Key) = c.args.keys.now in
    let item = λ (v : View) (k : Option Key). read_if c.args.loader (v.after (onward_of c.args.to.onward)) (option_map key_of k) in
    let first : length (take c.passes-number.result keys) ≡ c.passes-number.result = length-take-le c.passes-number.result keys c.passes-number.ensures.few in
    goes-passed (lookup c.args.self.now.memory.now) (λ v. places _ _ 0 (map (item v) (take c.passes-number.result keys))) c.begin.new.self c.passes-number.new.self (laws g) c.in_ok-begin.ensures
    (λ v. c.passes-number.ensures.passed v ListOf _ _ (places-entries _ _ 0 (map (item v) (take c.passes-number.result keys)) ∙ length-map (take c.passes-number.result keys) (item v) ∙ first))

pub each-loop-number-preserved : goal.each-loop-number-preserved
each-loop-number-preserved g t c =
    let item = λ (v : View) (k : Option Key). read_if c.args.loader (v.after (onward_of c.args.to.onward)) (option_map key_of k) in
    let before = goes-asked c.stops.new.self (laws g) c.loop-number.invariant c.stops.ensures.same in
    goes-as (goes-entered (laws g) (λ lt. omega (arith, lt, c.loop-number.invariant.grows.longer)) before refl c.in_ok-item.ensures c.in_ok-read_if.ensures)
    (λ k v cov. items-more _ _ _ item c.args.keys.now c.loop-number.number c.index-keys-number.result v c.loop-number-test.true c.index-keys-number.is)

pub each-returns-then-stops : goal.each-returns-then-stops
each-returns-then-stops g t c =
    let before = goes-asked c.stops.new.self (laws g) c.loop-number.invariant c.stops.ensures.same in
    let read = λ (v : View) (k : Option KeyOf). read_if c.args.loader (v.after (onward_of c.args.to.onward)) k in
    let put = λ (ps : List Program). puts (is_non_null c.args.to.nullability) (Under ListOf (places (is_non_null c.args.items.nullability) c.args.items.place 0 ps)) (lookup c.args.self.now.memory.now) in
    goes-as (goes-stopped _ (laws g) (c.stops.ensures.stops c.if-stops.true) before)
    (λ k v cov. items-rest _ _ _ _ _ _ (λ (v : View) (k : Option Key). read v (option_map key_of k)) c.args.keys.now c.loop-number.number v refl refl
    ∙ ap put (sym (map-map (read v) (λ (x : Option Key). option_map key_of x) c.args.keys.now)))

pub each-returns : goal.each-returns
each-returns g t c =
    let read = λ (v : View) (k : Option KeyOf). read_if c.args.loader (v.after (onward_of c.args.to.onward)) k in
    let put = λ (ps : List Program). puts (is_non_null c.args.to.nullability) (Under ListOf (places (is_non_null c.args.items.nullability) c.args.items.place 0 ps)) (lookup c.args.self.now.memory.now) in
    on_ok_weaker c.end.result
    (λ q. goes-as (goes-ended (laws g) c.loop-number.invariant refl q)
    (λ k v cov. items-whole _ _ _ _ _ _ (λ (v : View) (k : Option Key). read v (option_map key_of k)) c.args.keys.now c.loop-number.number v refl refl c.loop-number-test.false
    ∙ ap put (sym (map-map (read v) (λ (x : Option Key). option_map key_of x) c.args.keys.now))))
    c.end.ensures

-- ---- what a position asks for

pub ask-returns-in-Each : goal.ask-returns-in-Each
ask-returns-in-Each g t c =
    let put = λ (o : Onward). WalksAt g.S.Sink.goes g.S.Sink.below c.args.self.now (record { onward = o; nullability = c.args.nullability })
    (λ v. items_read v c.in-Each.items (onward_of o) c.in-Each.loader (keys_seen c.deref.result.now)) c.args.at.now c.each.new.at in
    rw (c.in-Each.is, ← c.deref.ensures.value) (subst (λ (o : Onward). OnOk c.each.result (put o)) c.at-in-Each.ensures c.each.ensures)

-- a load by a key that is made of the row
pub ask-returns-in-Known-key_over : goal.ask-returns-in-Known-key_over
ask-returns-in-Known-key_over g t c =
    let non_null : Bool = is_non_null c.args.nullability in
    let onward : OnwardOf = record { group = c.in-Load.group; later = None; levels = c.args.levels } in
    let put = λ (o : Onward). WalksAt g.S.Sink.goes g.S.Sink.below c.args.self.now (record { onward = o; nullability = c.args.nullability })
    (λ v. read_key c.in-Load.loader (borrowed_of c.in-Known-key_over.key) (v.after (onward_of o))) c.args.at.now c.read.new.at in
    rw c.in-Load.is (on_ok_weaker c.read.result
    (λ p. walks-as non_null _ _ _ p (λ k v cov. sym (c.in-Known-key_over.ensures c.in-Load.loader (v.after onward))))
    (subst (λ (o : Onward). OnOk c.read.result (put o)) c.at.ensures c.read.ensures))

pub ask-returns-in_ok-no_column_message-in-Lacking : goal.ask-returns-in_ok-no_column_message-in-Lacking
ask-returns-in_ok-no_column_message-in-Lacking g t c =
    let non_null : Bool = is_non_null c.args.nullability in
    let onward : OnwardOf = record { group = c.in-Load.group; later = None; levels = c.args.levels } in
    rw c.in-Load.is (on_ok_weaker c.leaf_value-in-Lacking.result
    (λ q. walks-as non_null _ (λ v. Is (Fault (string_bytes c.in_ok-no_column_message-in-Lacking.field-0))) _ (goes-put refl (λ k v _. q v))
    (λ k v cov. ap (λ m. Is (Fault m)) c.in_ok-no_column_message-in-Lacking.ensures ∙ sym (c.in-Lacking.ensures c.in-Load.loader (v.after onward))))
    c.leaf_value-in-Lacking.ensures)

pub ask-returns-in-Null : goal.ask-returns-in-Null
ask-returns-in-Null g t c =
    let non_null : Bool = is_non_null c.args.nullability in
    let onward : OnwardOf = record { group = c.in-Load.group; later = None; levels = c.args.levels } in
    rw c.in-Load.is (on_ok_weaker c.leaf_value-in-Null.result
    (λ q. walks-as non_null _ (λ v. Is Null) _ (goes-put refl (λ k v _. q v))
    (λ k v cov. sym (c.in-Null.ensures c.in-Load.loader (v.after onward))))
    c.leaf_value-in-Null.ensures)

pub read_if-returns-in-Some : goal.read_if-returns-in-Some
read_if-returns-in-Some g t c = rw (c.in-Some.is, ← c.as_key_ref.ensures) c.read.ensures

-- ---- loads

pub read-returns-then-knows_nothing : goal.read-returns-then-knows_nothing
read-returns-then-knows_nothing g t c =
    let none : lookup c.args.self.now.memory.now (record { loader = c.args.loader; key = borrowed_of c.args.key }) ≡ None = c.knows_nothing.ensures.nothing c.if-knows_nothing.true (borrowed_of c.args.key) in
    rw none (on_ok_weaker c.wait.result (λ q. goes-read c.loads.new.self (laws g) c.loads.ensures (goes-put refl (λ k v le. q v (omega (arith, k, le))))) c.wait.ensures)

pub read-returns-in-None : goal.read-returns-in-None
read-returns-in-None g t c =
    let m : MemoryOf = c.args.self.now.memory.now in
    let key : KeyOf = borrowed_of c.args.key in
    let none : lookup m (record { loader = c.args.loader; key = key }) ≡ None =
    sym (looked-up m c.args.loader key (c.knows_nothing.ensures.there c.if-knows_nothing.false)) ∙ sym c.in_ok-outcome.ensures ∙ ap (λ x. option_map outcome_of (option_copied x)) c.in-None.is in
    rw none (on_ok_weaker c.wait-in-None.result (λ q. goes-read c.loads.new.self (laws g) c.loads.ensures (goes-put refl (λ k v le. q v (omega (arith, k, le))))) c.wait-in-None.ensures)

pub read-returns-in-Some : goal.read-returns-in-Some
read-returns-in-Some g t c =
    let m : MemoryOf = c.args.self.now.memory.now in
    let key : KeyOf = borrowed_of c.args.key in
    let known : lookup m (record { loader = c.args.loader; key = key }) ≡ Some (outcome_of c.in-Some.outcome.now) =
    sym (looked-up m c.args.loader key (c.knows_nothing.ensures.there c.if-knows_nothing.false)) ∙ sym c.in_ok-outcome.ensures ∙ ap (λ x. option_map outcome_of (option_copied x)) c.in-Some.is in
    rw known (on_ok_weaker c.go_on.result (λ p. goes-read c.loads.new.self (laws g) c.loads.ensures (goes-probed _ p)) c.go_on.ensures)

pub go_on-returns-in-Rows : goal.go_on-returns-in-Rows
go_on-returns-in-Rows g t c = rw (c.in-Rows.is, ← c.deref.ensures.value) c.rows.ensures

pub rows-returns-in-Some : goal.rows-returns-in-Some
rows-returns-in-Some g t c =
    let onward : OnwardOf = onward_of c.args.to.onward in
    let same : later_of c.in-Some.left onward ≡ onward = ap (λ (l : Option ℕ). let o : OnwardOf = record { group = onward.group; later = l; levels = onward.levels } in o) (sym c.in-Some.is) in
    on_ok_weaker c.first.result (λ p. walks-as (is_non_null c.args.to.nullability) _ _ _ p (λ k v cov. ap (λ (o : OnwardOf). v.after o c.args.rows.now) same)) c.first.ensures

pub rows-returns-in-First : goal.rows-returns-in-First
rows-returns-in-First g t c =
    let taken = sym c.in-First.is ∙ c.taken_of.ensures in
    on_ok_weaker c.first-in-First.result
    (λ p. walks-as (is_non_null c.args.to.nullability) _ _ _ p (λ lt v cov. ap (λ (f : List RowOf → Program). f c.args.rows.now) (sym (after-one _ _ v (onward_of c.args.to.onward) cov lt _ c.in_default.is c.deref.ensures.value taken))))
    c.first-in-First.ensures

pub rows-returns-in-All : goal.rows-returns-in-All
rows-returns-in-All g t c =
    let taken = sym c.in-All.is ∙ c.taken_of.ensures in
    on_ok_weaker c.all.result
    (λ p. walks-as (is_non_null c.args.to.nullability) _ _ _ p (λ lt v cov. sym (after-taken _ _ v (onward_of c.args.to.onward) cov lt _ c.args.rows.now c.in-All.left c.in_default.is c.deref.ensures.value taken))) c.all.ensures

pub first-returns-in-len1-up : goal.first-returns-in-len1-up
first-returns-in-len1-up g t c =
    on_ok_weaker c.follow.result
    (λ p. walks-as (is_non_null c.args.to.nullability) _ _ _ p (λ lt v cov. after-head _ _ v (onward_of c.args.to.onward) cov lt c.args.left c.args.rows.now c.row-item.result (omega (arith, c.in-len1-up.len_at_least)) c.row-item.is))
    c.follow.ensures

-- ---- objects of rows

-- the program of a row whose type is known
row-as : (plan : PlanOf) (gs lent : List LoadingField) (v : View) (onward : OnwardOf) (cov : Covers plan gs v) (lt : onward.group < length gs) (row : RowOf) (defs : List Definition) (name : List ℕ) (ty : TypeOf)
    → lent ≡ gs → defs ≡ plan.definitions → name ≡ (children_at lent onward.group).type_name → ty ≡ type_of_row defs name row → typed_object (object_program plan onward.levels) (children_at gs onward.group) row ty ≡ v.after (later_of 0 onward) (row ∷ [])
row-as plan gs lent v onward cov lt row defs name ty same said named is =
    ap (typed_object (object_program plan onward.levels) (children_at gs onward.group) row)
    (is ∙ ap (λ ds. type_of_row ds name row) said ∙ ap (λ n. type_of_row plan.definitions n row) (named ∙ ap (λ (xs : List LoadingField). (children_at xs onward.group).type_name) same))
    ∙ sym (after-row plan gs v onward cov lt row)

pub row_object-returns-in-Some : goal.row_object-returns-in-Some
row_object-returns-in-Some g t c =
    let lent : (arc_value c.in-Some.members).items ≡ c.deref-in-Some-2.result.now = sym (c.deref-in-Some-2.ensures.value ∙ ap (λ (xs : Vec Member Global). xs.items) c.deref-in-Some.ensures) in
    let only : AreOnly c.deref.result.now c.args.to.onward.group (arc_value c.in-Some.members).items = rw c.in-Some.is at c.in_ok-members.ensures in
    c.only_object.ensures (subst (λ (gs : List LoadingField). AreOnly gs c.args.to.onward.group c.deref-in-Some-2.result.now) c.deref.ensures.value
    (subst (λ (ms : List Member). AreOnly c.deref.result.now c.args.to.onward.group ms) lent only))

pub only_object-returns-then-levels-eq0 : goal.only_object-returns-then-levels-eq0
only_object-returns-then-levels-eq0 g t c = λ only.
    let none : 0 ≡ c.args.to.onward.levels = omega (arith, c.if-levels-eq0.true) in
    on_ok_weaker c.leaf_value.result
    (λ q. goes-only-none {goes = g.S.Sink.goes} {below = g.S.Sink.below} (is_non_null c.args.to.nullability) (lookup c.args.self.now.memory.now) (onward_of c.args.to.onward) c.args.row.now c.args.at.now _ c.args.members.now none only (λ k. k) (goes-put refl (λ k v _. q v)))
    c.leaf_value.ensures

pub only_object-returns : goal.only_object-returns
only_object-returns g t c = λ only.
    on_ok_weaker c.object.result
    (λ p. goes-only (is_non_null c.args.to.nullability) (lookup c.args.self.now.memory.now) (onward_of c.args.to.onward) (c.args.to.onward.levels - 1) c.args.row.now c.args.at.now _ c.args.members.now (omega (arith, c.if-levels-eq0.false)) only (λ k. k) p)
    c.object.ensures

pub row_object-returns-in-Object : goal.row_object-returns-in-Object
row_object-returns-in-Object g t c =
    let named : c.as_str-name.result.now ≡ (children_at c.deref-2.result.now c.args.to.onward.group).type_name =
    c.as_str-name.ensures ∙ ap (λ (b : Children). b.type_name) c.deref-3.ensures ∙ ap (λ (b : ChildrenOf). b.type_name) c.in_ok-children.ensures in
    let seen : object_type c.in-Object.ty.now ≡ type_of_row (tree_of c.schema.result.now) c.as_str-name.result.now c.args.row.now = rw c.in-Object.is at c.in_ok-ty.ensures in
    on_ok_weaker c.typed_object.result
    (λ p. walks-as (is_non_null c.args.to.nullability) _ _ _ p (λ lt v cov. row-as _ c.args.at.now.groups.items _ v (onward_of c.args.to.onward) cov lt c.args.row.now _ _ _ c.deref-2.ensures.value (ap tree_of c.schema.ensures) named seen))
    c.typed_object.ensures

pub row_object-returns : goal.row_object-returns
row_object-returns g t c =
    let named : c.as_str-name.result.now ≡ (children_at c.deref-2.result.now c.args.to.onward.group).type_name =
    c.as_str-name.ensures ∙ ap (λ (b : Children). b.type_name) c.deref-3.ensures ∙ ap (λ (b : ChildrenOf). b.type_name) c.in_ok-children.ensures in
    let seen : type_fault (string_bytes c.in-Fault.text) ≡ type_of_row (tree_of c.schema.result.now) c.as_str-name.result.now c.args.row.now = rw c.in-Fault.is at c.in_ok-ty.ensures in
    on_ok_weaker c.leaf_value.result
    (λ q. walks-as (is_non_null c.args.to.nullability) _ (λ v. Is (Fault (string_bytes c.in-Fault.text))) _ (goes-put refl (λ k v _. q v))
    (λ lt v cov. row-as _ c.args.at.now.groups.items _ v (onward_of c.args.to.onward) cov lt c.args.row.now _ _ _ c.deref-2.ensures.value (ap tree_of c.schema.ensures) named seen))
    c.leaf_value.ensures

pub typed_object-returns : goal.typed_object-returns
typed_object-returns g t c =
    let old : List LoadingField = c.args.at.now.groups.items in
    let lent : (arc_value c.in_ok-members.members).items ≡ c.deref-2.result.now = sym (c.deref-2.ensures.value ∙ ap (λ (xs : Vec Member Global). xs.items) c.deref.ensures) in
    let shaped : IsShaped (plan_of c.args.self.now.plan.now) c.args.self.now.most old c.shape_of.new.groups.items c.args.to.onward.group c.args.ty.now c.deref-2.result.now = rw (← lent) c.in_ok-members.ensures in
    goes-let_go g.S.Sink.waits g.met.S.Sink.narrow (search rules) c.waiting-held.ensures
    (goes-made (is_non_null c.args.to.nullability) (lookup c.args.self.now.memory.now) c.args.to.onward.levels (c.args.to.onward.levels - 1) c.args.to.onward.group c.args.ty.now c.args.row.now c.args.at.now _ c.object.new.at c.deref-2.result.now (laws g)
    (omega (arith, c.if-levels-eq0.false)) refl shaped c.in_ok-object.ensures)
    c.let_go.ensures
