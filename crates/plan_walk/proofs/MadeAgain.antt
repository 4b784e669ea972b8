-- Members that are made again keep the groups of those that were made before them.
use Rattle.std.proofs.Common.{◌≡◌, ℕ, zero, suc, ◌<◌, ◌+◌, List, [], ◌∷◌, ◌++◌, length, map, take, get_or, Option, Some, None, refl, sym, ap, subst, ◌∙◌, arith}
use Rattle.std.specs.Prelude.{IfSome, option_and_then}
use Rattle.std.specs.List.{slice_get}
use Rattle.std.proofs.lemmas.List.{take_more}
use Rattle.load_memory.specs.Keys.{text, key_of}
use Rattle.load_memory.specs.declared.key.Key.{Key}
use Rattle.load_memory.specs.declared.key.Key.TheVariants as keys
use Rattle.gq_check.specs.Plans.{PlanOf}
use Rattle.plan_program.specs.FieldValues.{fixed, ValueFrom, known, cell, first_row, all_rows, each_row, joined_rows, PreparedOf, prepared, all_prepared}
use Rattle.plan_program.specs.PlanPrograms.{read_from}
use Rattle.plan_program.specs.Prepared.{key_from_seen}
use Rattle.plan_program.specs.VariableKeys.{key_by_variable}
use Rattle.plan_program.specs.declared.prepared.KeyFrom.{KeyFrom}
use Rattle.plan_program.specs.declared.prepared.KeyFrom.TheVariants as from
use Rattle.plan_program.specs.RowUses.{First, Each, Joined, BelowOf, below_in, LoadOf, load_in}
use Rattle.plan_program.specs.Seen.{group_of, groups_of}
use Rattle.plan_program.specs.declared.group.Group.{Group}
use Rattle.plan_program.proofs.OtherVariables.{below-alike}
use Rattle.plan_program.proofs.VariableKeys.{loaded, same-load, keyed-again, position-alike}
use Rattle.plan_walk.specs.Groups.{then_rows, load_seen, Grows, Serves, ServesLoad, MayServe, IsServed, IsServedBy, AreServed, IsAskingOver, IsMadeOver, AreMadeOver, AsksAgain, IsMadeAgain, IsOtherwise, group_in}
use Rattle.plan_walk.specs.Positions.{member_position}
use Rattle.plan_walk.specs.declared.loading_fields.LoadingField.{LoadingField}
use Rattle.plan_walk.specs.declared.loading_fields.Member.{Member}
use Rattle.plan_walk.specs.declared.loading_fields.FieldResolver.{FieldResolver}
use Rattle.plan_walk.specs.declared.loading_fields.FieldResolver.TheVariants as asks
use Rattle.plan_walk.proofs.Grouping.{served-by-more, load-asking-over, made-more-over, prepared-more}

-- a group that serves what was loaded would serve what is loaded now
may-serve : (plan : PlanOf) (gs : List LoadingField) (n : ℕ) (was is : Option BelowOf) → ((b b' : BelowOf) → was ≡ Some b → is ≡ Some b' → b' ≡ b) → ServesLoad plan gs n was → MayServe plan gs n is
may-serve plan gs n None is alike h = absurd h
may-serve plan gs n (Some b) None alike h = tt
may-serve plan gs n (Some b) (Some b') alike h = subst (Serves plan gs n) (sym (alike b b' refl refl)) h

served-may : (plan : PlanOf) (gs : List LoadingField) (was is : ValueFrom) (group : Option ℕ) → ((b b' : BelowOf) → below_in was ≡ Some b → below_in is ≡ Some b' → b' ≡ b) → IfSome group (λ n. ServesLoad plan gs n (below_in was)) → IfSome group (λ n. MayServe plan gs n (below_in is))
served-may plan gs was is None alike h = tt
served-may plan gs was is (Some n) alike h = may-serve plan gs n (below_in was) (below_in is) alike h

-- the member in the place of some fields, if there is one, is served as they are
served-at : (plan : PlanOf) (gs : List LoadingField) (f : Group → PreparedOf) (all : List Group) (ms : List Member) (i : ℕ) (g : Group) → AreServed plan gs (map f all) ms → i < length all → g ≡ get_or all i g → IfSome (slice_get ms i) (IsServedBy plan gs (f g))
served-at plan gs f [] ms i g h lt is = absurd (omega (arith, lt))
served-at plan gs f (x ∷ all) [] i g h lt is = absurd h
served-at plan gs f (x ∷ all) (m ∷ ms) zero g h lt is = subst (λ (y : Group). IsServedBy plan gs (f y) m) (sym is) h.0
served-at plan gs f (x ∷ all) (m ∷ ms) (suc i) g h lt is = served-at plan gs f all ms i g h.1 (omega (arith, lt)) is

grown-at : (plan : PlanOf) (old new : List LoadingField) (p : PreparedOf) (before : Option Member) → Grows plan old new → IfSome before (IsServedBy plan old p) → IfSome before (IsServedBy plan new p)
grown-at plan old new p None g h = tt
grown-at plan old new p (Some m) g h = served-by-more plan old new p m g h

alike-by : (first plan : PlanOf) (ty : List ℕ) (g : Group) → IsOtherwise first plan → (b b' : BelowOf) → below_in (prepared first ty (group_of g)).asked ≡ Some b → below_in (prepared plan ty (group_of g)).asked ≡ Some b' → b' ≡ b
alike-by first plan ty g other b b' was is = below-alike first plan.variables ty (group_of g) b b' was (subst (λ (p : PlanOf). below_in (prepared p ty (group_of g)).asked ≡ Some b') other is)

prepared-groups : (plan : PlanOf) (ty : List ℕ) (all : List Group) → map (λ (g : Group). prepared plan ty (group_of g)) all ≡ all_prepared plan ty (groups_of all)
prepared-groups plan ty [] = refl
prepared-groups plan ty (g ∷ all) = ap (λ ps. prepared plan ty (group_of g) ∷ ps) (prepared-groups plan ty all)

groups-had : (plan : PlanOf) (gs : List LoadingField) (p : PreparedOf) (before : Option Member) → IfSome before (IsServedBy plan gs p) → IfSome (option_and_then (λ (b : Member). group_in b.asks) before) (λ n. ServesLoad plan gs n (below_in p.asked))
groups-had plan gs p None h = tt
groups-had plan gs p (Some m) h = h.served

-- ---- a member whose key a variable gives

-- a load by a group that serves what is loaded so
keyed-asking : (plan : PlanOf) (gs : List LoadingField) (asked : ValueFrom) (loader : ℕ) (key : KeyFrom) (group : ℕ) → load_in asked ≡ loaded loader (key_from_seen key) → MayServe plan gs group (below_in asked) → IsAskingOver plan gs gs asked (asks.Load loader key group)
keyed-asking plan gs (known leaf_value) loader key group e h = absurd (cc e)
keyed-asking plan gs (cell column t) loader key group e h = absurd (cc e)
keyed-asking plan gs (first_row own k children) loader key group e h =
    load-asking-over plan gs (record { next = First; children = children }) loader key group (first_row own k children) h refl e
    (λ levels row. ap (λ (l : LoadOf). read_from l.loader l.key row (then_rows plan levels First children)) (sym (same-load own loader k (key_from_seen key) e)))
keyed-asking plan gs (all_rows own k children) loader key group e h =
    load-asking-over plan gs (record { next = Each; children = children }) loader key group (all_rows own k children) h refl e
    (λ levels row. ap (λ (l : LoadOf). read_from l.loader l.key row (then_rows plan levels Each children)) (sym (same-load own loader k (key_from_seen key) e)))
keyed-asking plan gs (each_row own ks children) loader key group e h = absurd (cc e)
keyed-asking plan gs (joined_rows own k steps children) loader key group e h =
    load-asking-over plan gs (record { next = Joined steps; children = children }) loader key group (joined_rows own k steps children) h refl e
    (λ levels row. ap (λ (l : LoadOf). read_from l.loader l.key row (then_rows plan levels (Joined steps) children)) (sym (same-load own loader k (key_from_seen key) e)))

-- the member by the key that a variable gives
pub keyed-made : (plan : PlanOf) (ty : List ℕ) (g : Group) (gs : List LoadingField) (m again : Member) (loader : ℕ) (t : List ℕ) (key : Key) (group : ℕ)
    → m.asks ≡ asks.Load loader (from.Fixed (keys.Text t)) group → again.asks ≡ asks.Load loader (from.Fixed key) group → member_position again.position ≡ member_position m.position
    → key_by_variable plan ty (group_of g) ≡ Some (key_of key) → IsMadeAgain plan ty (group_of g) (Some m) gs gs again
keyed-made plan ty g gs m again loader t key group had has position given = λ first over other served.
    let was : PreparedOf = prepared first ty (group_of g) in
    let is : PreparedOf = prepared plan ty (group_of g) in
    let by : load_in was.asked ≡ loaded loader (fixed (text t)) = sym served.load ∙ ap load_seen had in
    let now : load_in is.asked ≡ loaded loader (fixed (key_of key)) =
    subst (λ (p : PlanOf). load_in (prepared p ty (group_of g)).asked ≡ loaded loader (fixed (key_of key))) (sym other)
    (keyed-again first plan.variables loader t (key_of key) ty (group_of g) (subst (λ (p : PlanOf). key_by_variable p ty (group_of g) ≡ Some (key_of key)) other given) by) in
    let serves : ServesLoad over gs group (below_in was.asked) = subst (λ (a : FieldResolver). IsServed over gs was.asked a) had served.served in
    let may : MayServe over gs group (below_in is.asked) = may-serve over gs group (below_in was.asked) (below_in is.asked) (alike-by first plan ty g other) serves in
    let stands : is.position ≡ was.position =
    subst (λ (p : PlanOf). (prepared p ty (group_of g)).position ≡ was.position) (sym other) (position-alike first plan.variables ty (group_of g)) in
    record {
      position = position ∙ served.position ∙ sym stands;
      asks = subst (λ (a : FieldResolver). IsAskingOver over gs gs is.asked a) (sym has) (keyed-asking over gs is.asked loader (from.Fixed key) group now may);
    }

-- the member by the group of the one before
pub prepared-made : (plan : PlanOf) (ty : List ℕ) (g : Group) (old new : List LoadingField) (p : PreparedOf) (before : Option Member) (m : Member) → p ≡ prepared plan ty (group_of g) → member_position m.position ≡ p.position
    → AsksAgain p.asked (option_and_then (λ (b : Member). group_in b.asks) before) old new m.asks → IsMadeAgain plan ty (group_of g) before old new m
prepared-made plan ty g old new p before m same position asks = λ first over other served.
    let may : IfSome (option_and_then (λ (b : Member). group_in b.asks) before) (λ n. MayServe over old n (below_in p.asked)) =
    served-may over old (prepared first ty (group_of g)).asked p.asked (option_and_then (λ (b : Member). group_in b.asks) before) (λ b b' e e'. alike-by first plan ty g other b b' e (ap (λ (q : PreparedOf). below_in q.asked) (sym same) ∙ e')) (groups-had over old (prepared first ty (group_of g)) before served) in
    subst (λ (q : PreparedOf). IsMadeOver over old new q m) same (record { position = position; asks = asks over may })

-- ---- all members

-- one member more
pub again-more : (first plan over : PlanOf) (ty : List ℕ) (old mid new : List LoadingField) (all : List Group) (i : ℕ) (g : Group) (before ms : List Member) (m : Member) → i < length all → g ≡ get_or all i g
    → IsOtherwise first plan → AreServed over old (all_prepared first ty (groups_of all)) before
    → AreMadeOver over old mid (all_prepared plan ty (groups_of (take i all))) ms → IsMadeAgain plan ty (group_of g) (slice_get before i) mid new m
    → AreMadeOver over old new (all_prepared plan ty (groups_of (take (i + 1) all))) (ms ++ m ∷ [])
again-more first plan over ty old mid new all i g before ms m lt is other served made again =
    let f : Group → PreparedOf = λ g'. prepared first ty (group_of g') in
    let was : IfSome (slice_get before i) (IsServedBy over old (f g)) =
    served-at over old f all before i g (subst (λ (ps : List PreparedOf). AreServed over old ps before) (sym (prepared-groups first ty all)) served) lt is in
    let one : IsMadeOver over mid new (prepared plan ty (group_of g)) m = again first over other (grown-at over old mid (f g) (slice_get before i) made.grows was) in
    let more : all_prepared plan ty (groups_of (take (i + 1) all)) ≡ all_prepared plan ty (groups_of (take i all)) ++ prepared plan ty (group_of g) ∷ [] =
    ap (λ gs. all_prepared plan ty (groups_of gs)) (take_more all i g lt ∙ ap (λ (x : Group). take i all ++ x ∷ []) (sym is)) ∙ prepared-more plan ty (take i all) g (prepared plan ty (group_of g)) refl in
    subst (λ (qs : List PreparedOf). AreMadeOver over old new qs (ms ++ m ∷ [])) (sym more)
    (made-more-over over old mid new (all_prepared plan ty (groups_of (take i all))) (prepared plan ty (group_of g)) ms m made one.asks one.position)
