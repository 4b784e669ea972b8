-- Groups that are more and more, and shapes that are kept.
use Rattle.std.specs.Arc.{arc_value}
use Rattle.std.proofs.Common.{◌≡◌, ℕ, zero, suc, ◌<◌, ◌≤◌, ◌+◌, Bool, true, Option, Vec, Global, List, [], ◌∷◌, ◌++◌, take, length, map, get_or, set, refl, sym, ap, subst, ◌∙◌, arith, length-append, length-set, Some, None}
use Rattle.std.specs.List.{All, slice_get}
use Rattle.std.specs.Option.{option_map_or}
use Rattle.std.proofs.lemmas.Option.{slice_get-get_or, slice_get_within, get_or_from_slice_get}
use Rattle.std.proofs.lemmas.List.Elements.{All-push, All-set}
use Rattle.std.proofs.lemmas.List.{map-append, take_all, take_at, take-take, length-take}
use Rattle.schema_syntax.specs.Tree.{Definition}
use Rattle.load_memory.specs.Rows.{RowOf}
use Rattle.execution.specs.Program.{Program, Under, ListOf, Programs, End, With}
use Rattle.gq_check.specs.Plans.{PlanOf}
use Rattle.load_memory.specs.declared.key.Key.{Key}
use Rattle.plan_program.specs.FieldValues.{ChildrenOf, ValueFrom, each_row, PreparedOf, prepared, all_prepared}
use Rattle.plan_program.specs.Prepared.{key_from_seen, keys_seen}
use Rattle.plan_program.specs.Seen.{group_of, groups_of}
use Rattle.plan_program.specs.declared.group.Group.{Group}
use Rattle.plan_program.specs.PlanPrograms.{fields_of, places, read_from, read_if, first_object, asked_program, object_program}
use Rattle.plan_program.specs.declared.prepared.KeyFrom.{KeyFrom}
use Rattle.plan_walk.specs.Puts.{OnwardOf, View}
use Rattle.plan_program.specs.RowUses.{UseOf, First, BelowOf, below_in, load_in}
use Rattle.plan_walk.specs.Groups.{children_in, nowhere, children_at, use_seen, then_at, then_rows, next_rows, after_at, Covers, type_prepared, IsAsked, asks_seen, members_seen, Makes, IsShape, IsRight, AreRight, Grows, IsNew, Serves, ServesLoad, load_seen, IsServed, IsServedBy, AreServed, IsAskingOver, IsAsking, AreMadeOver, AreMade, AreMadeOf, AreKept, IsOnly, IsShaped, view_of}
use Rattle.plan_walk.specs.Positions.{is_non_null, member_position}
use Rattle.plan_walk.specs.declared.positions.Items.{Items}
use Rattle.text_place.specs.declared.place.Place.{Place}
use Rattle.plan_walk.specs.declared.loading_fields.FieldResolver.{FieldResolver}
use Rattle.plan_walk.specs.declared.loading_fields.FieldResolver.TheVariants as asks
use Rattle.plan_walk.specs.declared.loading_fields.Member.{Member}
use Rattle.plan_walk.specs.declared.loading_fields.TypePositions.{TypePositions}
use Rattle.plan_walk.specs.declared.loading_fields.LoadingField.{LoadingField}

-- ---- more groups

pub asked-more : (n m : ℕ) (a : FieldResolver) → n ≤ m → IsAsked n a → IsAsked m a
asked-more n m (asks.Known leaf_value) le h = tt
asked-more n m (asks.Cell column ty) le h = tt
asked-more n m (asks.Load loader key group) le h = omega (arith, le, h)
asked-more n m (asks.Each loader keys items group) le h = omega (arith, le, h)

pub makes-more : (plan : PlanOf) (old new : List LoadingField) (ms : List Member) (ps : List PreparedOf) → Grows plan old new → Makes plan old ms ps → Makes plan new ms ps
makes-more plan old new ms ps g h = record {
  known = λ k d lt. asked-more (length old) (length new) (get_or ms k d).asks g.longer (h.known k d lt);
  members = λ v c. h.members v (g.covers v c);
}

pub covers-view : (plan : PlanOf) (gs : List LoadingField) → Covers plan gs (view_of plan gs)
covers-view plan gs = record { count = omega arith; tells = λ onward lt. refl }

pub grows-self : (plan : PlanOf) (gs : List LoadingField) → Grows plan gs gs
grows-self plan gs = record { longer = omega arith; stand = λ i lt. refl; covers = λ v c. c; right = λ r. r }

pub grows-then : (plan : PlanOf) (a b c : List LoadingField) → Grows plan a b → Grows plan b c → Grows plan a c
grows-then plan a b c f g = record {
  longer = omega (arith, f.longer, g.longer);
  stand = λ i lt. g.stand i (omega (arith, lt, f.longer)) ∙ f.stand i lt;
  covers = λ v h. f.covers v (g.covers v h);
  right = λ h. g.right (f.right h);
}

-- a view that covers a list of groups covers another whose groups do the same
pub covers-like : (plan : PlanOf) (old new : List LoadingField) (v : View) → length old ≤ length new
    → ((i : ℕ) → i < length old → then_at new i ≡ then_at old i) → ((i : ℕ) → i < length old → children_at new i ≡ children_at old i) → Covers plan new v → Covers plan old v
covers-like plan old new v le e f c = record {
  count = omega (arith, le, c.count);
  tells = λ onward lt. c.tells onward (omega (arith, le, lt)) ∙ same onward (e onward.group lt) (f onward.group lt);
}
  where
    same : (onward : OnwardOf) → then_at new onward.group ≡ then_at old onward.group → children_at new onward.group ≡ children_at old onward.group → after_at plan new onward ≡ after_at plan old onward
    same onward p q = ap (λ n. next_rows plan onward.levels onward.later n (children_at new onward.group)) p ∙ ap (λ b. next_rows plan onward.levels onward.later (then_at old onward.group) b) q

-- the element of a number, in a longer list
slice-left : {X : Type 0} (xs ys : List X) (i : ℕ) → i < length xs → slice_get (xs ++ ys) i ≡ slice_get xs i
slice-left [] ys i h = absurd (omega arith)
slice-left (x ∷ xs) ys zero h = refl
slice-left (x ∷ xs) ys (suc i) h = slice-left xs ys i (omega (arith, h))

slice-end : {X : Type 0} (xs : List X) (y : X) → slice_get (xs ++ y ∷ []) (length xs) ≡ Some y
slice-end [] y = refl
slice-end (x ∷ xs) y = slice-end xs y

length-more : {X : Type 0} (xs : List X) (y : X) → length (xs ++ y ∷ []) ≡ length xs + 1
length-more xs y = length-append xs (y ∷ [])

pub shape-more : (plan : PlanOf) (old new : List LoadingField) (children : ChildrenOf) (s : TypePositions) → length old ≤ length new → ((v : View) → Covers plan new v → Covers plan old v) → IsShape plan old children s → IsShape plan new children s
shape-more plan old new children s le covers made = record {
  makes = record {
    known = λ n m among. asked-more (length old) (length new) (get_or (arc_value s.members).items n m).asks le (made.makes.known n m among);
    members = λ v c. made.makes.members v (covers v c);
  };
  only = made.only;
}

right-one : (plan : PlanOf) (old new : List LoadingField) (g : LoadingField) → length old ≤ length new → ((v : View) → Covers plan new v → Covers plan old v) → IsRight plan old g → IsRight plan new g
right-one plan old new g le covers h = λ j s within. shape-more plan old new (children_in g.children) (get_or g.shapes j s) le covers (h j s within)

right-more : (plan : PlanOf) (old new more : List LoadingField) → length old ≤ length new → ((v : View) → Covers plan new v → Covers plan old v) → All (IsRight plan old) more → All (IsRight plan new) more
right-more plan old new more le covers h = λ k d lt. right-one plan old new (get_or more k d) le covers (h k d lt)

-- ---- a group more

abbrev IsBare : LoadingField → Type 0
IsBare g = length g.shapes ≡ 0

bare-right : (plan : PlanOf) (gs : List LoadingField) (g : LoadingField) → IsBare g → IsRight plan gs g
bare-right plan gs g bare = λ k d lt. absurd (omega (arith, bare, lt))

grows-new : (plan : PlanOf) (gs : List LoadingField) (g : LoadingField) → IsBare g → Grows plan gs (gs ++ g ∷ [])
grows-new plan gs g bare =
    let le : length gs ≤ length (gs ++ g ∷ []) = omega (arith, length-more gs g) in
    let stand : (i : ℕ) → i < length gs → children_at (gs ++ g ∷ []) i ≡ children_at gs i =
    λ i lt. ap (λ o. option_map_or (λ (x : LoadingField). children_in x.children) o nowhere) (slice-left gs (g ∷ []) i lt) in
    let covers : (v : View) → Covers plan (gs ++ g ∷ []) v → Covers plan gs v =
    λ v c. covers-like plan gs (gs ++ g ∷ []) v le (λ i lt. ap (λ o. option_map_or (λ (x : LoadingField). use_seen x.then) o First) (slice-left gs (g ∷ []) i lt)) stand c in
    record {
      longer = le;
      stand = stand;
      covers = covers;
      right = λ h. All-push (IsRight plan (gs ++ g ∷ [])) gs g (right-more plan gs (gs ++ g ∷ []) gs le covers h) (bare-right plan (gs ++ g ∷ []) g bare);
    }

pub is-new : (gs : List LoadingField) (g : LoadingField) (n : ℕ) → n ≡ length gs → IsBare g → IsNew gs (gs ++ g ∷ []) (use_seen g.then) (children_in g.children) n
is-new gs g n e bare = rw e (record {
  grows = λ plan. grows-new plan gs g bare;
  front = take_at gs (g ∷ []) (length gs) refl;
  within = omega (arith, length-more gs g);
  does = ap (λ o. option_map_or (λ (x : LoadingField). use_seen x.then) o First) (slice-end gs g);
  stands = ap (λ o. option_map_or (λ (x : LoadingField). children_in x.children) o nowhere) (slice-end gs g);
})

-- ---- a group of a number

children-there : (gs : List LoadingField) (i : ℕ) (g : LoadingField) → slice_get gs i ≡ Some g → children_at gs i ≡ children_in g.children
children-there gs i g e = ap (λ o. option_map_or (λ (x : LoadingField). children_in x.children) o nowhere) e

right-there : (plan : PlanOf) (gs : List LoadingField) (i : ℕ) (g : LoadingField) → slice_get gs i ≡ Some g → AreRight plan gs → IsRight plan gs g
right-there plan gs i g e h = subst (IsRight plan gs) (get_or_from_slice_get gs i g g e) (h i g (slice_get_within gs i g e))

pub kept-there : (gs : List LoadingField) (i k : ℕ) (g : LoadingField) (s : TypePositions) (ty : List ℕ) → i < length gs → g ≡ get_or gs i g → k < length g.shapes → s ≡ get_or g.shapes k s → s.ty ≡ ty → AreKept gs i ty (arc_value s.members).items
kept-there gs i k g s ty within same lt is name = λ plan h.
    let there : slice_get gs i ≡ Some g = slice_get-get_or gs i g within ∙ ap Some (sym same) in
    let here : IsShape plan gs (children_in g.children) s = subst (IsShape plan gs (children_in g.children)) (sym is) (right-there plan gs i g there h k s lt) in
    subst (λ (b : ChildrenOf). Makes plan gs (arc_value s.members).items (type_prepared plan b ty)) (sym (children-there gs i g there))
    (subst (λ (t : List ℕ). Makes plan gs (arc_value s.members).items (type_prepared plan (children_in g.children) t)) name here.makes)

-- ---- a shape that is kept

-- a list looks the same once an element is replaced by one that looks the same
seen-set : {X Y : Type 0} (f : X → Y) (d : Y) (xs : List X) (i j : ℕ) (e y : X) → f y ≡ f (get_or xs i e) → option_map_or f (slice_get (set xs i y) j) d ≡ option_map_or f (slice_get xs j) d
seen-set f d [] i j e y h = refl
seen-set f d (x ∷ xs) zero zero e y h = h
seen-set f d (x ∷ xs) zero (suc j) e y h = refl
seen-set f d (x ∷ xs) (suc i) zero e y h = refl
seen-set f d (x ∷ xs) (suc i) (suc j) e y h = seen-set f d xs i j e y h

pub grows-kept : (plan : PlanOf) (gs : List LoadingField) (i : ℕ) (g new : LoadingField) (s : TypePositions) → i < length gs → g ≡ get_or gs i g → new.then ≡ g.then → new.children ≡ g.children → new.shapes ≡ g.shapes ++ s ∷ []
    → IsShape plan gs (children_at gs i) s → Grows plan gs (set gs i new)
grows-kept plan gs i g new s lt is does stands more here =
    let all : List LoadingField = set gs i new in
    let le : length gs ≤ length all = omega (arith, length-set gs i new) in
    let there : slice_get gs i ≡ Some g = slice_get-get_or gs i g lt ∙ ap Some (sym is) in
    let stand : (j : ℕ) → j < length gs → children_at all j ≡ children_at gs j =
    λ j within. seen-set (λ (x : LoadingField). children_in x.children) nowhere gs i j g new (ap children_in stands ∙ ap (λ (x : LoadingField). children_in x.children) is) in
    let covers : (v : View) → Covers plan all v → Covers plan gs v =
    λ v c. covers-like plan gs all v le (λ j within. seen-set (λ (x : LoadingField). use_seen x.then) First gs i j g new (ap use_seen does ∙ ap (λ (x : LoadingField). use_seen x.then) is)) stand c in
    record {
      longer = le;
      stand = stand;
      covers = covers;
      right = λ h.
          let old : IsRight plan all g = right-one plan gs all g le covers (right-there plan gs i g there h) in
          let shape : IsShape plan all (children_in g.children) s = shape-more plan gs all (children_in g.children) s le covers (subst (λ (b : ChildrenOf). IsShape plan gs b s) (children-there gs i g there) here) in
          let both : All (IsShape plan all (children_in g.children)) new.shapes = subst (All (IsShape plan all (children_in g.children))) (sym more) (All-push (IsShape plan all (children_in g.children)) g.shapes s old shape) in
          All-set (IsRight plan all) gs i new (subst (λ (b : ChildrenOf). All (IsShape plan all b) new.shapes) (sym (ap children_in stands)) both) (right-more plan gs all gs le covers h);
    }

-- ---- what groups ask for

abbrev pub chained : Programs → Programs → Programs
chained End qs = qs
chained (With position p ps) qs = With position p (chained ps qs)

pub members-append : (defs : List Definition) (v : View) (levels : ℕ) (row : RowOf) (ms ns : List Member) → members_seen defs v levels row (ms ++ ns) ≡ chained (members_seen defs v levels row ms) (members_seen defs v levels row ns)
members-append defs v levels row [] ns = refl
members-append defs v levels row (m ∷ ms) ns = ap (With (member_position m.position) (asks_seen defs v levels row m.asks)) (members-append defs v levels row ms ns)

fields-append : (f : ValueFrom → Program) (ps qs : List PreparedOf) → fields_of f (ps ++ qs) ≡ chained (fields_of f ps) (fields_of f qs)
fields-append f [] qs = refl
fields-append f (p ∷ ps) qs = ap (With p.position (f p.asked)) (fields-append f ps qs)

-- the first of the first
pub front-then : {X : Type 0} (a b c : List X) → length a ≤ length b → take (length a) b ≡ a → take (length b) c ≡ b → take (length a) c ≡ a
front-then a b c le f g = sym (take-take (length a) (length b) c le) ∙ ap (take (length a)) g ∙ f

-- ---- groups that serve

serves-more : (plan : PlanOf) (old new : List LoadingField) (n : ℕ) (below : BelowOf) → Grows plan old new → Serves plan old n below → Serves plan new n below
serves-more plan old new n below g h = record { within = omega (arith, g.longer, h.within); after = λ v c levels. h.after v (g.covers v c) levels }

serves-load-more : (plan : PlanOf) (old new : List LoadingField) (n : ℕ) (below : Option BelowOf) → Grows plan old new → ServesLoad plan old n below → ServesLoad plan new n below
serves-load-more plan old new n None g h = h
serves-load-more plan old new n (Some below) g h = serves-more plan old new n below g h

pub served-one-more : (plan : PlanOf) (old new : List LoadingField) (asked : ValueFrom) (a : FieldResolver) → Grows plan old new → IsServed plan old asked a → IsServed plan new asked a
served-one-more plan old new asked (asks.Known leaf_value) g h = h
served-one-more plan old new asked (asks.Cell column ty) g h = h
served-one-more plan old new asked (asks.Load loader key group) g h = serves-load-more plan old new group (below_in asked) g h
served-one-more plan old new asked (asks.Each loader keys items group) g h = serves-load-more plan old new group (below_in asked) g h

pub served-by-more : (plan : PlanOf) (old new : List LoadingField) (p : PreparedOf) (m : Member) → Grows plan old new → IsServedBy plan old p m → IsServedBy plan new p m
served-by-more plan old new p m g h = record { position = h.position; load = h.load; served = served-one-more plan old new p.asked m.asks g h.served }

pub served-more : (plan : PlanOf) (old new : List LoadingField) (ps : List PreparedOf) (ms : List Member) → Grows plan old new → AreServed plan old ps ms → AreServed plan new ps ms
served-more plan old new [] [] g h = tt
served-more plan old new [] (m ∷ ms) g h = absurd h
served-more plan old new (p ∷ ps) [] g h = absurd h
served-more plan old new (p ∷ ps) (m ∷ ms) g h = (served-by-more plan old new p m g h.0, served-more plan old new ps ms g h.1)

served-push : (plan : PlanOf) (gs : List LoadingField) (ps : List PreparedOf) (ms : List Member) (p : PreparedOf) (m : Member) → AreServed plan gs ps ms → IsServedBy plan gs p m → AreServed plan gs (ps ++ p ∷ []) (ms ++ m ∷ [])
served-push plan gs [] [] p m h is = (is, tt)
served-push plan gs [] (n ∷ ms) p m h is = absurd h
served-push plan gs (q ∷ ps) [] p m h is = absurd h
served-push plan gs (q ∷ ps) (n ∷ ms) p m h is = (h.0, served-push plan gs ps ms p m h.1 is)

-- a group more serves what it is for
pub serves-new : (plan : PlanOf) (old new : List LoadingField) (next : UseOf) (children : ChildrenOf) (group : ℕ) → IsNew old new next children group → Serves plan new group (record { next = next; children = children })
serves-new plan old new next children group h = record {
  within = h.within;
  after = λ v cov levels. cov.tells (record { group = group; later = None; levels = levels }) h.within ∙ ap (λ n. then_rows plan levels n (children_at new group)) h.does ∙ ap (λ b. then_rows plan levels next b) h.stands;
}

-- ---- members

-- one member more, over a plan
pub made-more-over : (plan : PlanOf) (old mid new : List LoadingField) (ps : List PreparedOf) (p : PreparedOf) (ms : List Member) (m : Member) → AreMadeOver plan old mid ps ms → IsAskingOver plan mid new p.asked m.asks → member_position m.position ≡ p.position
    → AreMadeOver plan old new (ps ++ p ∷ []) (ms ++ m ∷ [])
made-more-over plan old mid new ps p ms m h a same =
    let made : Makes plan new ms ps = makes-more plan mid new ms ps a.grows h.makes in record {
      grows = grows-then plan old mid new h.grows a.grows;
      makes = record {
        known = All-push (λ (x : Member). IsAsked (length new) x.asks) ms m made.known a.known;
        members = λ v c levels row.
            let f : ValueFrom → Program = asked_program plan.definitions (object_program plan levels) row in
            members-append plan.definitions v levels row ms (m ∷ [])
            ∙ ap (λ qs. chained qs (With (member_position m.position) (asks_seen plan.definitions v levels row m.asks) End)) (made.members v c levels row)
            ∙ ap (λ q. chained (fields_of f ps) (With (member_position m.position) q End)) (a.same v c levels row)
            ∙ ap (λ position. chained (fields_of f ps) (With position (f p.asked) End)) same
            ∙ sym (fields-append f ps (p ∷ []));
      };
      served = served-push plan new ps ms p m (served-more plan mid new ps ms a.grows h.served) (record { position = same; load = a.load; served = a.served });
    }

pub made-more : (old mid new : List LoadingField) (ps : List PreparedOf) (p : PreparedOf) (ms : List Member) (m : Member) → AreMade old mid ps ms → IsAsking mid new p.asked m.asks → member_position m.position ≡ p.position
    → AreMade old new (ps ++ p ∷ []) (ms ++ m ∷ [])
made-more old mid new ps p ms m h a same = record {
  front = front-then old mid new (omega (arith, length-take (length old) mid, ap length h.front)) h.front a.front;
  over = λ plan. made-more-over plan old mid new ps p ms m (h.over plan) (a.over plan) same;
}

-- the groups of a type with one collected group more
pub prepared-more : (plan : PlanOf) (ty : List ℕ) (gs : List Group) (g : Group) (p : PreparedOf) → p ≡ prepared plan ty (group_of g) → all_prepared plan ty (groups_of (gs ++ g ∷ [])) ≡ all_prepared plan ty (groups_of gs) ++ p ∷ []
prepared-more plan ty gs g p is =
    let f = prepared plan ty in
    ap (map f) (map-append group_of gs (g ∷ [])) ∙ (map-append f (groups_of gs) (group_of g ∷ []) ∙ ap (λ (q : PreparedOf). all_prepared plan ty (groups_of gs) ++ q ∷ []) (sym is))

-- one collected group more
pub made-of-more : (plan : PlanOf) (ty : List ℕ) (old mid new : List LoadingField) (gs : List Group) (g : Group) (p : PreparedOf) (ms : List Member) (m : Member) → AreMadeOf plan ty (groups_of gs) old mid ms → p ≡ prepared plan ty (group_of g) → IsAsking mid new p.asked m.asks
    → member_position m.position ≡ p.position → AreMadeOf plan ty (groups_of (gs ++ g ∷ [])) old new (ms ++ m ∷ [])
made-of-more plan ty old mid new gs g p ms m h is a same =
    subst (λ (qs : List PreparedOf). AreMade old new qs (ms ++ m ∷ [])) (sym (prepared-more plan ty gs g p is)) (made-more old mid new (all_prepared plan ty (groups_of gs)) p ms m h a same)

pub made-none-over : (plan : PlanOf) (gs : List LoadingField) → AreMadeOver plan gs gs [] []
made-none-over plan gs = record { grows = grows-self plan gs; makes = record { known = λ k d lt. absurd (omega (arith, lt)); members = λ v c levels row. refl }; served = tt }

pub made-none : (gs : List LoadingField) → AreMade gs gs [] []
made-none gs = record { front = take_all (length gs) gs (omega arith); over = λ plan. made-none-over plan gs }

-- the program that a load by a group asks for, which serves it
pub load-asking-over : (plan : PlanOf) (gs : List LoadingField) (below : BelowOf) (loader : ℕ) (key : KeyFrom) (group : ℕ) (asked : ValueFrom) → Serves plan gs group below → below_in asked ≡ Some below → load_in asked ≡ Some (record { loader = loader; key = key_from_seen key })
    → ((levels : ℕ) (row : RowOf) → read_from loader (key_from_seen key) row (then_rows plan levels below.next below.children) ≡ asked_program plan.definitions (object_program plan levels) row asked) → IsAskingOver plan gs gs asked (asks.Load loader key group)
load-asking-over plan gs below loader key group asked h loads one is = record {
  grows = grows-self plan gs;
  known = h.within;
  same = λ v cov levels row. ap (λ (f : List RowOf → Program). read_from loader (key_from_seen key) row f) (h.after v cov levels) ∙ is levels row;
  load = sym one;
  served = subst (ServesLoad plan gs group) (sym loads) h;
}

-- for each key its first row, by a group that serves it
pub each-asking-over : (plan : PlanOf) (gs : List LoadingField) (children : ChildrenOf) (loader : ℕ) (keys : Vec (Option Key) Global) (items : Items) (group : ℕ) → Serves plan gs group (record { next = First; children = children })
    → is_non_null items.nullability ≡ children.item_non_null → items.place ≡ children.place → IsAskingOver plan gs gs (each_row loader (keys_seen keys.items) children) (asks.Each loader keys items group)
each-asking-over plan gs children loader keys items group h nullability place = record {
  grows = grows-self plan gs;
  known = h.within;
  same = λ v cov levels row.
      let next : List RowOf → Program = first_object plan.definitions (object_program plan levels) children in
      ap (λ (f : List RowOf → Program). Under ListOf (places (is_non_null items.nullability) items.place 0 (map (read_if loader f) (keys_seen keys.items)))) (h.after v cov levels)
      ∙ ap (λ (b : Bool). Under ListOf (places b items.place 0 (map (read_if loader next) (keys_seen keys.items)))) nullability
      ∙ ap (λ (p : Place). Under ListOf (places children.item_non_null p 0 (map (read_if loader next) (keys_seen keys.items)))) place;
  load = refl;
  served = h;
}

-- what asks over the groups that there are, asks so with more of them
pub asking-grown : (plan : PlanOf) (old new : List LoadingField) (asked : ValueFrom) (a : FieldResolver) → Grows plan old new → IsAskingOver plan new new asked a → IsAskingOver plan old new asked a
asking-grown plan old new asked a g h = record { grows = g; known = h.known; same = h.same; load = h.load; served = h.served }

pub settled-asking-over : (plan : PlanOf) (gs : List LoadingField) (asked : ValueFrom) (a : FieldResolver) → IsAsked (length gs) a → load_seen a ≡ load_in asked → IsServed plan gs asked a → ((v : View) (levels : ℕ) (row : RowOf) → asks_seen plan.definitions v levels row a ≡ asked_program plan.definitions (object_program plan levels) row asked) → IsAskingOver plan gs gs asked a
settled-asking-over plan gs asked a known load served is = record { grows = grows-self plan gs; known = known; same = λ v cov levels row. is v levels row; load = load; served = served }

-- with a group more
pub load-asking : (old new : List LoadingField) (next : UseOf) (children : ChildrenOf) (loader : ℕ) (key : KeyFrom) (group : ℕ) (asked : ValueFrom) → IsNew old new next children group → below_in asked ≡ Some (record { next = next; children = children }) → load_in asked ≡ Some (record { loader = loader; key = key_from_seen key })
    → ((plan : PlanOf) (levels : ℕ) (row : RowOf) → read_from loader (key_from_seen key) row (then_rows plan levels next children) ≡ asked_program plan.definitions (object_program plan levels) row asked) → IsAsking old new asked (asks.Load loader key group)
load-asking old new next children loader key group asked h loads one is = record {
  front = h.front;
  over = λ plan. asking-grown plan old new asked (asks.Load loader key group) (h.grows plan) (load-asking-over plan new (record { next = next; children = children }) loader key group asked (serves-new plan old new next children group h) loads one (is plan));
}

pub each-asking : (old new : List LoadingField) (children : ChildrenOf) (loader : ℕ) (keys : Vec (Option Key) Global) (items : Items) (group : ℕ) → IsNew old new First children group
    → is_non_null items.nullability ≡ children.item_non_null → items.place ≡ children.place → IsAsking old new (each_row loader (keys_seen keys.items) children) (asks.Each loader keys items group)
each-asking old new children loader keys items group h nullability place = record {
  front = h.front;
  over = λ plan. asking-grown plan old new (each_row loader (keys_seen keys.items) children) (asks.Each loader keys items group) (h.grows plan) (each-asking-over plan new children loader keys items group (serves-new plan old new First children group h) nullability place);
}

-- without one
pub settled-asking : (gs : List LoadingField) (asked : ValueFrom) (a : FieldResolver) → IsAsked (length gs) a → load_seen a ≡ load_in asked → ((plan : PlanOf) → IsServed plan gs asked a) → ((plan : PlanOf) (v : View) (levels : ℕ) (row : RowOf) → asks_seen plan.definitions v levels row a ≡ asked_program plan.definitions (object_program plan levels) row asked) → IsAsking gs gs asked a
settled-asking gs asked a known load served is = record { front = take_all (length gs) gs (omega arith); over = λ plan. settled-asking-over plan gs asked a known load (served plan) (is plan) }

-- ---- the members of a type

pub shaped-kept : (plan : PlanOf) (most : ℕ) (gs : List LoadingField) (group : ℕ) (ty : List ℕ) (ms : List Member) → AreKept gs group ty ms → IsShaped plan most gs gs group ty ms
shaped-kept plan most gs group ty ms h = record { grows = grows-self plan gs; front = λ le. take_all (length gs) gs (omega arith); makes = λ r. h plan r }

-- a shape that was made is kept, where there was such a group
pub shaped-then : (plan : PlanOf) (most : ℕ) (old mid new : List LoadingField) (count group : ℕ) (ty : List ℕ) (s : TypePositions) (ms : List Member) → count ≡ length old → s.ty ≡ ty → (arc_value s.members).items ≡ ms
    → (s.only ≡ true → IsOnly plan.definitions (children_at old group) ty) → AreMade old mid (type_prepared plan (children_at old group) ty) ms → ((p : PlanOf) → (group < count → IsShape p mid (children_at mid group) s) → Grows p mid new) → (most ≤ count → new ≡ mid) → IsShaped plan most old new group ty ms
shaped-then plan most old mid new count group ty s ms counted name same only h kept full =
    let made : Makes plan mid ms (type_prepared plan (children_at old group) ty) = (h.over plan).makes in
    let here : IsShape plan mid (children_at old group) s = record {
      makes = subst (λ (xs : List Member). Makes plan mid xs (type_prepared plan (children_at old group) s.ty)) (sym same)
          (subst (λ (t : List ℕ). Makes plan mid ms (type_prepared plan (children_at old group) t)) (sym name) made);
      only = λ e. subst (λ (t : List ℕ). IsOnly plan.definitions (children_at old group) t) (sym name) (only e);
    } in
    let shape : group < count → IsShape plan mid (children_at mid group) s =
    λ lt. subst (λ (b : ChildrenOf). IsShape plan mid b s) (sym ((h.over plan).grows.stand group (omega (arith, lt, counted)))) here in
    let grown : Grows plan mid new = kept plan shape in
    record {
      grows = grows-then plan old mid new (h.over plan).grows grown;
      front = λ le. ap (take (length old)) (full (omega (arith, le, counted))) ∙ h.front;
      makes = λ r. makes-more plan mid new ms (type_prepared plan (children_at old group) ty) grown made;
    }
