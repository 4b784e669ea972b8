-- Lemmas on what a walk puts, one thing after another.
use Rattle.std.proofs.Common.{◌≡◌, ◌⊎◌, inl, inr, ℕ, suc, ◌<◌, ◌≤◌, ◌+◌, ◌-◌, Bool, List, [], ◌∷◌, ◌++◌, map, take, drop, length, get_or, refl, sym, ap, ◌∙◌, subst, arith, append_assoc, append-nil, None}
use Rattle.std.proofs.lemmas.List.{take_more, take_all, take-append-drop, drop_all, map_push, map-append, length-map, length-take-le}
use Rattle.std.proofs.Math.Path.{fun_ext}
use Rattle.schema_syntax.specs.Tree.{Definition}
use Rattle.text_place.specs.declared.place.Place.{Place}
use Rattle.gq_bindings.specs.Tree.{StepOf}
use Rattle.load_memory.specs.Rows.{RowOf}
use Rattle.load_memory.specs.declared.probe.Probe.{Probe}
use Rattle.execution.specs.Loads.{Reader}
use Rattle.execution.specs.Program.{Kind, ListOf, ObjectOf, Item, Null, Program, Is, Under, Programs, End, With}
use Rattle.gq_check.specs.Plans.{PlanOf}
use Rattle.plan_program.specs.FieldValues.{ChildrenOf}
use Rattle.plan_program.specs.RowUses.{UseOf, First, Each, Joined}
use Rattle.plan_program.specs.PlanPrograms.{object_type, type_of_row, places, list_of, first_of, typed_object, row_object, joined_object, joined_objects, object_program}
use Rattle.plan_walk.specs.Puts.{Put, Begins, Ends, Enters, OnwardOf, View, puts, all_puts, entries}
use Rattle.plan_walk.specs.Positions.{is_non_null, member_position, later_of}
use Rattle.plan_walk.specs.Groups.{children_at, then_at, taken_by, then_rows, next_rows, steps_in, Covers, IsAsked, AreKnown, asks_seen, members_seen, Grows, IsWhole, AreOnly, IsShaped, view_of}
use Rattle.plan_walk.specs.Steps.{last_steps}
use Rattle.plan_walk.specs.Following.{FollowsTo, followed_puts}
use Rattle.plan_walk.specs.declared.following.FollowedVia.{FollowedVia}
use Rattle.plan_walk.specs.Walks.{Goes, LetsGo, items_after}
use Rattle.plan_walk.specs.declared.loading_fields.LoadingField.{LoadingField}
use Rattle.plan_walk.specs.declared.loading_fields.Member.{Member}
use Rattle.plan_walk.specs.declared.loading_fields.TakenRows.TheVariants as taken
use Rattle.plan_walk.specs.declared.walk.Progress.{Progress}
use Rattle.plan_walk.proofs.Grouping.{grows-self, grows-then, front-then, covers-view, asked-more, chained, members-append}

-- a relation of puts that take a sink from one state to another
abbrev pub Putting : Type 0 → Type 1
Putting S = View → List Put → S → S → Type 0

-- a relation that says whether what waits goes on at groups below a number
abbrev pub Below : Type 0 → Type 1
Below S = ℕ → S → Type 0

-- the laws of a sink
pub record Laws {S : Type 0} (goes : Putting S) (below : Below S) : Type 0 where
  pub more : (v : View) (ps qs : List Put) (a b c : S) → goes v ps a b → goes v qs b c → goes v (ps ++ qs) a c
  pub rises : (n m : ℕ) (s : S) → n ≤ m → below n s → below m s
  pub stays : (v : View) (ps : List Put) (a b : S) → goes v ps a b → below v.count a → below v.count b

-- ---- one after another

module _ {S : Type 0} {goes : Putting S} {below : Below S} {most : ℕ} {plan : PlanOf} where
  -- the second after the first, where what the first begins with gives what the second begins with
  pub goes-then : {known here : Type 0} {ps qs : View → List Put} {a b c : Progress S} → Laws goes below → (known → here)
      → Goes goes below most plan known ps a b → Goes goes below most plan here qs b c → Goes goes below most plan known (λ v. ps v ++ qs v) a c
  goes-then {ps = ps} {qs = qs} {a = a} {b = b} {c = c} laws link p q = record {
    grows = grows-then plan a.groups.items b.groups.items c.groups.items p.grows q.grows;
    front = λ le. front-then a.groups.items b.groups.items c.groups.items p.grows.longer (p.front le) (q.front (omega (arith, le, p.grows.longer)));
    puts = λ k r w v cov.
        let here : View = view_of plan b.groups.items in
        let wait : below (length b.groups.items) b.out =
        laws.stays here (ps here) a.out b.out (p.puts k r w here (covers-view plan b.groups.items)) (laws.rises (length a.groups.items) (length b.groups.items) a.out p.grows.longer w) in
        laws.more v (ps v) (qs v) a.out b.out c.out (p.puts k r w v (q.grows.covers v cov)) (q.puts (link k) (p.grows.right r) wait v cov);
  }

  -- a call of the sink
  pub goes-put : {known : Type 0} {ps : View → List Put} {a b : Progress S} → b.groups.items ≡ a.groups.items → (known → (v : View) → length a.groups.items ≤ v.count → goes v (ps v) a.out b.out) → Goes goes below most plan known ps a b
  goes-put {a = a} {b = b} same h = record {
    grows = subst (Grows plan a.groups.items) (sym same) (grows-self plan a.groups.items);
    front = λ le. ap (take (length a.groups.items)) same ∙ take_all (length a.groups.items) a.groups.items (omega arith);
    puts = λ k r w v cov. h k v (omega (arith, cov.count, ap (λ (gs : List LoadingField). length gs) same));
  }

  -- a walk with other puts that are equal over each view
  pub goes-as : {known : Type 0} {ps qs : View → List Put} {a b : Progress S} → Goes goes below most plan known ps a b → (known → (v : View) → Covers plan a.groups.items v → ps v ≡ qs v) → Goes goes below most plan known qs a b
  goes-as {a = a} {b = b} p same = record {
    grows = p.grows;
    front = p.front;
    puts = λ k r w v cov. subst (λ ts. goes v ts a.out b.out) (same k v (p.grows.covers v cov)) (p.puts k r w v cov);
  }

  -- a walk of another program that is equal over each view
  pub walks-as : (non_null : Bool) (R : Reader) (p q : View → Program) {known : Type 0} {a b : Progress S} → Goes goes below most plan known (λ v. puts non_null (p v) R) a b → (known → (v : View) → Covers plan a.groups.items v → p v ≡ q v)
      → Goes goes below most plan known (λ v. puts non_null (q v) R) a b
  walks-as non_null R p q g same = goes-as g (λ k v cov. ap (λ x. puts non_null x R) (same k v cov))

  -- a look-up changes nothing of what is put
  pub goes-probed : {known : Type 0} {ps : View → List Put} {a b : Progress S} (probe : Probe) → Goes goes below most plan known ps (record a { probe = probe }) b → Goes goes below most plan known ps a b
  goes-probed probe p = record { grows = p.grows; front = p.front; puts = p.puts }

  -- loads that are read before something else
  pub goes-read : {known : Type 0} {ps : List Put} {qs : View → List Put} {a b : Progress S} (out : S) → Laws goes below → ((v : View) → goes v ps a.out out)
      → Goes goes below most plan known qs (record a { out = out }) b → Goes goes below most plan known (λ v. ps ++ qs v) a b
  goes-read {known} {ps = ps} {a = a} out laws q p =
      let here : Goes goes below most plan known (λ v. ps) a (record a { out = out }) = goes-put refl (λ k v _. q v) in
      goes-then laws (λ k. k) here p

  -- a position that follows those before it
  pub goes-entered : {known here : Type 0} {before inner : View → List Put} {entered : Put} {a b c d : Progress S} → Laws goes below → (known → here) → Goes goes below most plan known before a b
      → c.groups.items ≡ b.groups.items → ((v : View) → goes v (entered ∷ []) b.out c.out) → Goes goes below most plan here inner c d → Goes goes below most plan known (λ v. before v ++ entered ∷ inner v) a d
  goes-entered {known} {before = before} {inner = inner} {entered = entered} {b = b} {c = c} laws link p same q s =
      let here : Goes goes below most plan known (λ v. entered ∷ []) b c = goes-put same (λ k v _. q v) in
      goes-as (goes-then laws link (goes-then laws (λ k. k) p here) s) (λ k v cov. append_assoc (before v) (entered ∷ []) (inner v))

  -- the end of an object or a list
  pub goes-ended : {known : Type 0} {before : View → List Put} {kind : Kind} {non_null : Bool} {a b c : Progress S} → Laws goes below → Goes goes below most plan known before a b
      → c.groups.items ≡ b.groups.items → ((v : View) → goes v (Ends kind non_null ∷ []) b.out c.out) → Goes goes below most plan known (λ v. before v ++ Ends kind non_null ∷ []) a c
  goes-ended {known} {kind = kind} {non_null = non_null} {b = b} {c = c} laws p same q =
      let here : Goes goes below most plan known (λ v. Ends kind non_null ∷ []) b c = goes-put same (λ k v _. q v) in
      goes-then laws (λ k. k) p here

  -- a sink that was asked whether it stops
  pub goes-asked : {known : Type 0} {ps : View → List Put} {a b : Progress S} (out : S) → Laws goes below → Goes goes below most plan known ps a b → ((v : View) → goes v [] b.out out) → Goes goes below most plan known ps a (record b { out = out })
  goes-asked {known} {ps = ps} {b = b} out laws p same =
      let here : Goes goes below most plan known (λ v. []) b (record b { out = out }) = goes-put refl (λ k v _. same v) in
      goes-as (goes-then laws (λ k. k) p here) (λ k v cov. append-nil (ps v))

  -- what is left to put changes a sink no more that stops
  pub goes-stopped : {known : Type 0} {before : View → List Put} {a b : Progress S} (left : View → List Put) → Laws goes below → ((v : View) (ps : List Put) → goes v ps b.out b.out) → Goes goes below most plan known before a b
      → Goes goes below most plan known (λ v. before v ++ left v) a b
  goes-stopped {known} {b = b} left laws stopped p =
      let rest : Goes goes below most plan known left b b = goes-put refl (λ k v _. stopped v (left v)) in
      goes-then laws (λ k. k) p rest

  -- an object or a list of which a sink passes over the first positions
  pub goes-passed : {known : Type 0} {kind : Kind} {a : Progress S} (R : Reader) (us : View → Programs) (begun out : S) → Laws goes below → ((v : View) → goes v (Begins kind ∷ []) a.out begun) → ((v : View) → goes v (all_puts kind (us v) R) begun out)
      → Goes goes below most plan known (λ v. Begins kind ∷ all_puts kind (us v) R) a (record a { out = out })
  goes-passed {kind = kind} {a = a} R us begun out laws begins passes = goes-put refl (λ k v _. laws.more v (Begins kind ∷ []) (all_puts kind (us v) R) a.out begun out (begins v) (passes v))

  -- an object of a type, whose members were prepared first
  pub goes-made : {known : Type 0} (non_null : Bool) (R : Reader) (levels n group : ℕ) (ty : List ℕ) (row : RowOf) (a mid b : Progress S) (ms : List Member) → Laws goes below → levels ≡ suc n → mid.out ≡ a.out
      → IsShaped plan most a.groups.items mid.groups.items group ty ms → Goes goes below most plan (AreKnown (length mid.groups.items) ms) (λ v. puts non_null (Under ObjectOf (members_seen plan.definitions v n row ms)) R) mid b
      → Goes goes below most plan known (λ v. puts non_null (object_program plan levels ty (children_at a.groups.items group).below row) R) a b
  goes-made non_null R levels n group ty row a mid b ms laws above same shaped p = record {
    grows = grows-then plan a.groups.items mid.groups.items b.groups.items shaped.grows p.grows;
    front = λ le. front-then a.groups.items mid.groups.items b.groups.items shaped.grows.longer (shaped.front le) (p.front (omega (arith, le, shaped.grows.longer)));
    puts = λ k rt wait v cov.
        let made = shaped.makes rt in
        let from : below (length mid.groups.items) mid.out =
        subst (below (length mid.groups.items)) (sym same) (laws.rises (length a.groups.items) (length mid.groups.items) a.out shaped.grows.longer wait) in
        subst (λ (s : S). goes v (puts non_null (object_program plan levels ty (children_at a.groups.items group).below row) R) s b.out) same
        (subst (λ (l : ℕ). goes v (puts non_null (object_program plan l ty (children_at a.groups.items group).below row) R) mid.out b.out) (sym above)
        (subst (λ (us : Programs). goes v (puts non_null (Under ObjectOf us) R) mid.out b.out) (made.members v (p.grows.covers v cov) n row) (p.puts made.known (shaped.grows.right rt) from v cov)));
  }

  -- groups that were met on the way may be let go
  pub goes-let_go : {known : Type 0} {ps : List Put} {count held : ℕ} {a b c : Progress S} (waits : S → ℕ)
      → ((v w : View) (n : ℕ) (ps : List Put) (a b : S) → n ≤ v.count → ((o : OnwardOf) → o.group < n → v.after o ≡ w.after o) → below n a → waits a ≡ waits b → goes w ps a b → goes v ps a b)
      → count ≡ length a.groups.items → held ≡ waits a.out → Goes goes below most plan known (λ v. ps) a b → LetsGo waits most count held b c → Goes goes below most plan known (λ v. ps) a c
  goes-let_go {known} {ps = ps} {count = count} {held = held} {a = a} {b = b} {c = c} waits narrow counted were p gone = go gone.either
    where
      go : (c.groups.items ≡ b.groups.items) ⊎ ((most ≤ count) × (held ≡ waits b.out) × (c.groups.items ≡ take count b.groups.items)) → Goes goes below most plan known (λ v. ps) a c
      go (inl e) = record {
        grows = subst (Grows plan a.groups.items) (sym e) p.grows;
        front = λ le. ap (take (length a.groups.items)) e ∙ p.front le;
        puts = λ k rt w v cov. subst (λ (s : S). goes v ps a.out s) (sym gone.out) (p.puts k rt w v (subst (λ (gs : List LoadingField). Covers plan gs v) e cov));
      }
      go (inr (full, still, cut)) =
          let back : c.groups.items ≡ a.groups.items = cut ∙ ap (λ (n : ℕ). take n b.groups.items) counted ∙ p.front (omega (arith, full, counted)) in
          let all : View = view_of plan b.groups.items in
          let shown : Covers plan a.groups.items all = p.grows.covers all (covers-view plan b.groups.items) in
          record {
            grows = subst (Grows plan a.groups.items) (sym back) (grows-self plan a.groups.items);
            front = λ le. ap (take (length a.groups.items)) back ∙ take_all (length a.groups.items) a.groups.items (omega arith);
            puts = λ k rt w v cov.
                let covered : Covers plan a.groups.items v = subst (λ (gs : List LoadingField). Covers plan gs v) back cov in
                subst (λ (s : S). goes v ps a.out s) (sym gone.out)
                (narrow v all (length a.groups.items) ps a.out b.out covered.count (λ o lt. covered.tells o lt ∙ sym (shown.tells o lt)) w (sym were ∙ still) (p.puts k rt w all (covers-view plan b.groups.items)));
          }

-- ---- fields and items

puts-chained : (kind : Kind) (ps qs : Programs) (R : Reader) → all_puts kind (chained ps qs) R ≡ all_puts kind ps R ++ all_puts kind qs R
puts-chained kind End qs R = refl
puts-chained kind (With position p ps) qs R =
    ap (λ us. Enters kind position ∷ (puts position.non_null p R ++ us)) (puts-chained kind ps qs R)
    ∙ ap (λ us. Enters kind position ∷ us) (sym (append_assoc (puts position.non_null p R) (all_puts kind ps R) (all_puts kind qs R)))

-- an object has a position for each of its members
pub members-entries : (defs : List Definition) (v : View) (levels : ℕ) (row : RowOf) (ms : List Member) → entries (members_seen defs v levels row ms) ≡ length ms
members-entries defs v levels row [] = refl
members-entries defs v levels row (m ∷ ms) = ap suc (members-entries defs v levels row ms)

-- a list has one for each of its items
pub places-entries : (non_null : Bool) (place : Place) (n : ℕ) (ps : List Program) → entries (places non_null place n ps) ≡ length ps
places-entries non_null place n [] = refl
places-entries non_null place n (p ∷ ps) = ap suc (places-entries non_null place (suc n) ps)

-- gives what is put of an object up to some of its members
abbrev pub fields_put : List Definition → ℕ → RowOf → Reader → List Member → View → List Put
fields_put defs levels row R ms v = Begins ObjectOf ∷ all_puts ObjectOf (members_seen defs v levels row ms) R

-- one more
pub fields-more : (defs : List Definition) (levels : ℕ) (row : RowOf) (R : Reader) (ms : List Member) (i : ℕ) (m : Member) (v : View) → i < length ms → m ≡ get_or ms i m
    → fields_put defs levels row R (take i ms) v ++ Enters ObjectOf (member_position m.position) ∷ puts (is_non_null m.position.nullability) (asks_seen defs v levels row m.asks) R ≡ fields_put defs levels row R (take (i + 1) ms) v
fields-more defs levels row R ms i m v lt is =
    ap (λ us. fields_put defs levels row R (take i ms) v ++ Enters ObjectOf (member_position m.position) ∷ us) (sym (append-nil (puts (is_non_null m.position.nullability) (asks_seen defs v levels row m.asks) R)))
    ∙ ap (λ us. Begins ObjectOf ∷ us) (sym (puts-chained ObjectOf (members_seen defs v levels row (take i ms)) (members_seen defs v levels row (m ∷ [])) R))
    ∙ ap (λ ps. Begins ObjectOf ∷ all_puts ObjectOf ps R) (sym (members-append defs v levels row (take i ms) (m ∷ [])))
    ∙ ap (λ xs. fields_put defs levels row R xs v) (sym (take_more ms i m lt ∙ ap (λ x. take i ms ++ x ∷ []) (sym is)))

-- gives what is put of an object after some of its members
abbrev pub fields_left : List Definition → Bool → ℕ → RowOf → Reader → List Member → View → List Put
fields_left defs non_null levels row R ms v = all_puts ObjectOf (members_seen defs v levels row ms) R ++ Ends ObjectOf non_null ∷ []

pub fields-rest : (defs : List Definition) (non_null : Bool) (levels : ℕ) (row : RowOf) (R : Reader) (ms : List Member) (i : ℕ) (v : View)
    → fields_put defs levels row R (take i ms) v ++ fields_left defs non_null levels row R (drop i ms) v ≡ puts non_null (Under ObjectOf (members_seen defs v levels row ms)) R
fields-rest defs non_null levels row R ms i v =
    let seen = members_seen defs v levels row in
    sym (append_assoc (fields_put defs levels row R (take i ms) v) (all_puts ObjectOf (seen (drop i ms)) R) (Ends ObjectOf non_null ∷ []))
    ∙ ap (λ us. Begins ObjectOf ∷ (us ++ Ends ObjectOf non_null ∷ [])) (sym (puts-chained ObjectOf (seen (take i ms)) (seen (drop i ms)) R))
    ∙ ap (λ us. Begins ObjectOf ∷ (all_puts ObjectOf us R ++ Ends ObjectOf non_null ∷ [])) (sym (members-append defs v levels row (take i ms) (drop i ms)) ∙ ap seen (take-append-drop i ms))

-- one of several known members asks for what is known
pub known-at : (n k : ℕ) (ms : List Member) (i : ℕ) (m : Member) → n ≤ k → i < length ms → m ≡ get_or ms i m → AreKnown n ms → IsAsked k m.asks
known-at n k ms i m le lt is known = subst (λ (x : Member). IsAsked k x.asks) (sym is) (asked-more n k (get_or ms i m).asks le (known i m lt))

places-append : (non_null : Bool) (place : Place) (n : ℕ) (ps qs : List Program) → places non_null place n (ps ++ qs) ≡ chained (places non_null place n ps) (places non_null place (n + length ps) qs)
places-append non_null place n [] qs = let e : n + 0 ≡ n = omega arith in rw e refl
places-append non_null place n (p ∷ ps) qs =
    let e : n + suc (length ps) ≡ suc n + length ps = omega arith in
    rw e (ap (With (record { part = Item n; non_null = non_null; place = place }) p) (places-append non_null place (suc n) ps qs))

-- gives what is put of a list up to some of its items
abbrev pub items_put : {A : Type 0} → Bool → Place → Reader → (View → A → Program) → List A → View → List Put
items_put non_null place R f xs v = Begins ListOf ∷ all_puts ListOf (places non_null place 0 (map (f v) xs)) R

-- one more
pub items-more : {A : Type 0} (non_null : Bool) (place : Place) (R : Reader) (f : View → A → Program) (xs : List A) (i : ℕ) (x : A) (v : View) → i < length xs → x ≡ get_or xs i x
    → items_put non_null place R f (take i xs) v ++ Enters ListOf (record { part = Item i; non_null = non_null; place = place }) ∷ puts non_null (f v x) R ≡ items_put non_null place R f (take (i + 1) xs) v
items-more non_null place R f xs i x v lt is =
    let ps : List Program = map (f v) (take i xs) in
    let number : i ≡ 0 + length ps = omega (arith, length-map (take i xs) (f v), length-take-le i xs (omega (arith, lt))) in
    ap (λ us. items_put non_null place R f (take i xs) v ++ Enters ListOf (record { part = Item i; non_null = non_null; place = place }) ∷ us) (sym (append-nil (puts non_null (f v x) R)))
    ∙ ap (λ n. items_put non_null place R f (take i xs) v ++ all_puts ListOf (places non_null place n (f v x ∷ [])) R) number
    ∙ ap (λ us. Begins ListOf ∷ us) (sym (puts-chained ListOf (places non_null place 0 ps) (places non_null place (0 + length ps) (f v x ∷ [])) R))
    ∙ ap (λ us. Begins ListOf ∷ all_puts ListOf us R) (sym (places-append non_null place 0 ps (f v x ∷ [])))
    ∙ ap (λ qs. Begins ListOf ∷ all_puts ListOf (places non_null place 0 qs) R) (sym (ap (map (f v)) (take_more xs i x lt ∙ ap (λ y. take i xs ++ y ∷ []) (sym is)) ∙ map_push (f v) (take i xs) x))

-- all of them
pub items-whole : {A : Type 0} (list non_null to_be : Bool) (place there : Place) (R : Reader) (f : View → A → Program) (xs : List A) (i : ℕ) (v : View) → non_null ≡ to_be → place ≡ there → length xs ≤ i
    → items_put non_null place R f (take i xs) v ++ Ends ListOf list ∷ [] ≡ puts list (Under ListOf (places to_be there 0 (map (f v) xs))) R
items-whole list non_null to_be place there R f xs i v e g le =
    let put = λ (s : Bool) (p : Place). puts list (Under ListOf (places s p 0 (map (f v) xs))) R in
    ap (λ ys. items_put non_null place R f ys v ++ Ends ListOf list ∷ []) (take_all i xs le) ∙ ap (λ s. put s place) e ∙ ap (λ p. put to_be p) g

-- gives what is put of a list after some of its items
abbrev pub items_left : {A : Type 0} → Bool → Bool → Place → Reader → (View → A → Program) → List A → ℕ → View → List Put
items_left list non_null place R f xs i v = all_puts ListOf (places non_null place (0 + length (map (f v) (take i xs))) (map (f v) (drop i xs))) R ++ Ends ListOf list ∷ []

pub items-rest : {A : Type 0} (list non_null to_be : Bool) (place there : Place) (R : Reader) (f : View → A → Program) (xs : List A) (i : ℕ) (v : View) → non_null ≡ to_be → place ≡ there
    → items_put non_null place R f (take i xs) v ++ items_left list non_null place R f xs i v ≡ puts list (Under ListOf (places to_be there 0 (map (f v) xs))) R
items-rest list non_null to_be place there R f xs i v e g =
    let put = λ (s : Bool) (p : Place) (ps : List Program). puts list (Under ListOf (places s p 0 ps)) R in
    let ps : List Program = map (f v) (take i xs) in
    let qs : List Program = map (f v) (drop i xs) in
    sym (append_assoc (items_put non_null place R f (take i xs) v) (all_puts ListOf (places non_null place (0 + length ps) qs) R) (Ends ListOf list ∷ []))
    ∙ ap (λ us. Begins ListOf ∷ (us ++ Ends ListOf list ∷ [])) (sym (puts-chained ListOf (places non_null place 0 ps) (places non_null place (0 + length ps) qs) R))
    ∙ ap (λ us. Begins ListOf ∷ (all_puts ListOf us R ++ Ends ListOf list ∷ [])) (sym (places-append non_null place 0 ps qs))
    ∙ ap (put non_null place) (sym (map-append (f v) (take i xs) (drop i xs)) ∙ ap (map (f v)) (take-append-drop i xs))
    ∙ ap (λ s. put s place (map (f v) xs)) e ∙ ap (λ p. put to_be p (map (f v) xs)) g

-- ---- rows

module _ (plan : PlanOf) (gs : List LoadingField) (v : View) (onward : OnwardOf) (cov : Covers plan gs v) (lt : onward.group < length gs) where
  -- the program that later loaders come to, one after another
  abbrev pub joined_by : List StepOf → RowOf → Program
  joined_by = joined_object plan.definitions (object_program plan onward.levels) (children_at gs onward.group)

  -- says what a view says of a later load, after which `left` of these loaders come
  pub after-missing : (left : ℕ) (steps : List StepOf) → steps ≡ steps_in (then_at gs onward.group) → v.after (later_of left onward) ≡ first_of (joined_by (last_steps left steps))
  after-missing left steps same = cov.tells (later_of left onward) lt ∙ ap (λ (ss : List StepOf). first_of (joined_by (last_steps left ss))) (sym same)

  -- says where none is left
  after-none : v.after (later_of 0 onward) ≡ first_of (joined_by [])
  after-none = after-missing 0 _ refl ∙ ap (λ (ss : List StepOf). first_of (joined_by ss)) (drop_all (length (steps_in (then_at gs onward.group)) - 0) (steps_in (then_at gs onward.group)) (omega arith))

  -- an object over a row
  pub after-row : (row : RowOf) → v.after (later_of 0 onward) (row ∷ []) ≡ row_object plan.definitions (object_program plan onward.levels) (children_at gs onward.group) row
  after-row row = ap (λ (f : List RowOf → Program). f (row ∷ [])) after-none

  -- says what a group does with the rows of its own load
  after-own : (lent : List LoadingField) (next : UseOf) → onward.later ≡ None → lent ≡ gs → then_at lent onward.group ≡ next → v.after onward ≡ then_rows plan onward.levels next (children_at gs onward.group)
  after-own lent next own same is =
      cov.tells onward lt ∙ ap (λ later. next_rows plan onward.levels later (then_at gs onward.group) (children_at gs onward.group)) own
      ∙ ap (λ n. then_rows plan onward.levels n (children_at gs onward.group)) (ap (λ (xs : List LoadingField). then_at xs onward.group) (sym same) ∙ is)

  pub after-first : (lent : List LoadingField) → onward.later ≡ None → lent ≡ gs → then_at lent onward.group ≡ First → v.after onward ≡ v.after (later_of 0 onward)
  after-first lent own same is = after-own lent First own same is ∙ fun_ext first ∙ sym after-none
    where
      first : (rows : List RowOf) → then_rows plan onward.levels First (children_at gs onward.group) rows ≡ first_of (joined_by []) rows
      first [] = refl
      first (row ∷ rows) = refl

  pub after-all : (lent : List LoadingField) (rows : List RowOf) → onward.later ≡ None → lent ≡ gs → then_at lent onward.group ≡ Each → v.after onward rows ≡ items_after v gs onward 0 rows
  after-all lent rows own same is =
      ap (λ (f : List RowOf → Program). f rows) (after-own lent Each own same is)
      ∙ ap (λ (f : RowOf → Program). list_of (children_at gs onward.group) (map f rows)) (fun_ext (λ (row : RowOf). sym (after-row row)))

  -- all of the later loaders are left
  pub after-joined : (lent : List LoadingField) (rows : List RowOf) (left : ℕ) (next : UseOf) → onward.later ≡ None → lent ≡ gs → then_at lent onward.group ≡ next → left ≡ length (steps_in next)
      → ((below : ChildrenOf) → then_rows plan onward.levels next below rows ≡ joined_objects plan.definitions (object_program plan onward.levels) below (steps_in next) rows) → v.after onward rows ≡ items_after v gs onward left rows
  after-joined lent rows left next own same is all joins =
      let does : then_at gs onward.group ≡ next = ap (λ (xs : List LoadingField). then_at xs onward.group) (sym same) ∙ is in
      let none : length (steps_in next) - left ≡ 0 = omega (arith, all) in
      let steps : last_steps left (steps_in (then_at gs onward.group)) ≡ steps_in next = ap (λ n. last_steps left (steps_in n)) does ∙ ap (λ k. drop k (steps_in next)) none in
      ap (λ (f : List RowOf → Program). f rows) (after-own lent next own same is) ∙ joins (children_at gs onward.group)
      ∙ ap (λ (f : RowOf → Program). list_of (children_at gs onward.group) (map f rows))
      (fun_ext (λ (row : RowOf). sym (ap (λ (f : List RowOf → Program). f (row ∷ [])) (after-missing left _ refl) ∙ ap (λ (ss : List StepOf). joined_by ss row) steps)))

  -- all rows are taken, and later loaders go on from each
  pub after-taken : (lent : List LoadingField) (rows : List RowOf) (left : ℕ) → onward.later ≡ None → lent ≡ gs → taken.All left ≡ taken_by (then_at lent onward.group) → v.after onward rows ≡ items_after v gs onward left rows
  after-taken lent rows left own same is = go (then_at lent onward.group) refl is
    where
      go : (next : UseOf) → then_at lent onward.group ≡ next → taken.All left ≡ taken_by next → v.after onward rows ≡ items_after v gs onward left rows
      go First does e = absurd (cc e)
      go Each does e = let none : left ≡ 0 = cc e in rw none (after-all lent rows own same does)
      go (Joined steps) does e = after-joined lent rows left (Joined steps) own same does (cc e) (λ below. refl)

  -- the first of the rows is taken
  pub after-one : (lent : List LoadingField) → onward.later ≡ None → lent ≡ gs → taken.First ≡ taken_by (then_at lent onward.group) → v.after onward ≡ v.after (later_of 0 onward)
  after-one lent own same is = go (then_at lent onward.group) refl is
    where
      go : (next : UseOf) → then_at lent onward.group ≡ next → taken.First ≡ taken_by next → v.after onward ≡ v.after (later_of 0 onward)
      go First does e = after-first lent own same does
      go Each does e = absurd (cc e)
      go (Joined steps) does e = absurd (cc e)

  -- says where the last `left` of the later loaders came to from a row
  pub after-followed : (left : ℕ) (non_null : Bool) (R : Reader) (steps : List StepOf) (row : RowOf) (f : FollowedVia) → steps ≡ steps_in (then_at gs onward.group) → FollowsTo R steps left row f
      → puts non_null (v.after (later_of left onward) (row ∷ [])) R ≡ followed_puts non_null R joined_by steps f
  after-followed left non_null R steps row f same is =
      ap (λ (f : List RowOf → Program). puts non_null (f (row ∷ [])) R) (after-missing left steps same) ∙ is non_null plan.definitions (object_program plan onward.levels) (children_at gs onward.group)

  -- the first of some rows
  pub after-head : (left : ℕ) (rows : List RowOf) (row : RowOf) → 0 < length rows → row ≡ get_or rows 0 row → v.after (later_of left onward) (row ∷ []) ≡ v.after (later_of left onward) rows
  after-head left [] row some is = absurd (omega (arith, some))
  after-head left (x ∷ xs) row some is =
      let after : v.after (later_of left onward) ≡ first_of (joined_by (last_steps left (steps_in (then_at gs onward.group)))) = after-missing left _ refl in
      ap (λ (f : List RowOf → Program). f (row ∷ [])) after ∙ ap (joined_by (last_steps left (steps_in (then_at gs onward.group)))) is ∙ sym (ap (λ (f : List RowOf → Program). f (x ∷ xs)) after)

-- ---- an object of the only type of its group

module _ (plan : PlanOf) (gs : List LoadingField) (v : View) (onward : OnwardOf) (cov : Covers plan gs v) (lt : onward.group < length gs) where
  -- its program is that of the type's fields
  pub after-only : (row : RowOf) (ms : List Member) → IsWhole plan gs (children_at gs onward.group) ms
      → v.after (later_of 0 onward) (row ∷ []) ≡ object_program plan onward.levels (children_at gs onward.group).type_name (children_at gs onward.group).below row
  after-only row ms whole =
      let typed : type_of_row plan.definitions (children_at gs onward.group).type_name row ≡ object_type (children_at gs onward.group).type_name = rw whole.object refl in
      after-row plan gs v onward cov lt row ∙ ap (typed_object (object_program plan onward.levels) (children_at gs onward.group) row) typed

module _ {S : Type 0} {goes : Putting S} {below : Below S} {most : ℕ} {plan : PlanOf} where
  -- of no level
  pub goes-only-none : {known : Type 0} (non_null : Bool) (R : Reader) (onward : OnwardOf) (row : RowOf) (a b : Progress S) (ms : List Member) → 0 ≡ onward.levels → AreOnly a.groups.items onward.group ms → (known → onward.group < length a.groups.items)
      → Goes goes below most plan known (λ v. puts non_null (Is Null) R) a b → Goes goes below most plan known (λ v. puts non_null (v.after (later_of 0 onward) (row ∷ [])) R) a b
  goes-only-none non_null R onward row a b ms none only among p = record {
    grows = p.grows;
    front = p.front;
    puts = λ k r w v cov.
        let is : v.after (later_of 0 onward) (row ∷ []) ≡ Is Null =
        after-only plan a.groups.items v onward (p.grows.covers v cov) (among k) row ms (only plan r)
        ∙ ap (λ (l : ℕ). object_program plan l (children_at a.groups.items onward.group).type_name (children_at a.groups.items onward.group).below row) (sym none) in
        subst (λ (q : Program). goes v (puts non_null q R) a.out b.out) (sym is) (p.puts k r w v cov);
  }

  -- of the members that are kept
  pub goes-only : {known : Type 0} (non_null : Bool) (R : Reader) (onward : OnwardOf) (n : ℕ) (row : RowOf) (a b : Progress S) (ms : List Member) → onward.levels ≡ suc n → AreOnly a.groups.items onward.group ms → (known → onward.group < length a.groups.items)
      → Goes goes below most plan (AreKnown (length a.groups.items) ms) (λ v. puts non_null (Under ObjectOf (members_seen plan.definitions v n row ms)) R) a b
      → Goes goes below most plan known (λ v. puts non_null (v.after (later_of 0 onward) (row ∷ [])) R) a b
  goes-only non_null R onward n row a b ms above only among p = record {
    grows = p.grows;
    front = p.front;
    puts = λ k r w v cov.
        let covered : Covers plan a.groups.items v = p.grows.covers v cov in
        let whole : IsWhole plan a.groups.items (children_at a.groups.items onward.group) ms = only plan r in
        let is : v.after (later_of 0 onward) (row ∷ []) ≡ Under ObjectOf (members_seen plan.definitions v n row ms) =
        after-only plan a.groups.items v onward covered (among k) row ms whole
        ∙ ap (λ (l : ℕ). object_program plan l (children_at a.groups.items onward.group).type_name (children_at a.groups.items onward.group).below row) above
        ∙ ap (λ (us : Programs). Under ObjectOf us) (sym (whole.makes.members v covered n row)) in
        subst (λ (q : Program). goes v (puts non_null q R) a.out b.out) (sym is) (p.puts whole.makes.known r w v cov);
  }

pub map-map : {A B C : Type 0} (f : B → C) (g : A → B) (xs : List A) → map f (map g xs) ≡ map (λ (x : A). f (g x)) xs
map-map f g [] = refl
map-map f g (x ∷ xs) = ap (λ ys. f (g x) ∷ ys) (map-map f g xs)
