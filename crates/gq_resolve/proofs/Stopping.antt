-- Lemmas on what is put into a sink by a walk that stops.
use Rattle.std.proofs.Common.{◌≡◌, ◌≢◌, ◌⊎◌, ◌<◌, ◌≤◌, ◌+◌, ℕ, zero, suc, Bool, true, false, List, [], ◌∷◌, ◌++◌, None, Some, Vec, Global, slice_set, slice_index_or, get_or, inl, inr, refl, sym, ap, subst, ◌∙◌, append-nil, append_assoc, length, length-append, arith}
use Rattle.execution.specs.Loads.{Reader}
use Rattle.execution.specs.Program.{Kind, Program, Is, Read, Under, Programs, End, With, given}
use Rattle.plan_walk.specs.Puts.{Put, Begins, Ends, Enters, Waits, View, reads, puts, all_puts, entries}
use Rattle.gq_resolve.specs.Points.{PointOf, point_after, points_after, with_more, without_last, Avoids}
use Rattle.gq_resolve.specs.Pauses.{point_of, goal_of, FallsShort, StaysShort, TurnsBy, Pauses, PausesBy, avoids-more, went-none}
use Rattle.gq_resolve.proofs.Pointing.{last-left, last-more, more-more, none-more, points-value, points-passed}
use Rattle.gq_resolve.specs.declared.pausing.Course.{Course}
use Rattle.gq_resolve.specs.declared.pausing.Course.TheVariants.{Back, Onward}
use Rattle.gq_resolve.specs.declared.pausing.Pausing.{Pausing}

-- ---- what is put, and the point that the walk comes to

-- nothing but the point and the course changes
abbrev IsMoved : {S : Type 0} → Pausing S → Pausing S → Type 0
IsMoved old new = new ≡ record old { path = new.path; is_entered = new.is_entered; course = new.course }

module _ {S : Type 0} (goes : View → List Put → S → S → Type 0) (none : (v : View) (s : S) → goes v [] s s) (v : View) (ps : List Put) (old new : Pausing S) where
  by-course : (c : Course) → old.course ≡ c → PausesBy goes c v ps old new → Pauses goes v ps old new
  by-course c is h = subst (λ (x : Course). PausesBy goes x v ps old new) (sym is) h

  -- they were put before, and the walk comes to the next point
  pub put-back : old.course ≡ Back → IsMoved old new → point_of new ≡ points_after ps (point_of old) → TurnsBy Back new
      → (point_of new ≢ goal_of old → point_of old ≢ goal_of old → Avoids ps (point_of old) (goal_of old)) → Pauses goes v ps old new
  put-back is others point turned avoids = by-course Back is (go turned)
    where
      goal : goal_of new ≡ goal_of old
      goal = ap goal_of others

      go : TurnsBy Back new → PausesBy goes Back v ps old new
      go (inl (onward, there)) = inr (record {
        before = ps;
        later = [];
        all = sym (append-nil ps);
        there = sym point ∙ there ∙ goal;
        went = went-none goes v old.out old.steps (goal_of old) new (subst (goes v [] old.out) (sym (ap (λ (s : Pausing S). s.out) others)) (none v old.out)) (there ∙ goal) (omega (arith, ap (λ (s : Pausing S). s.steps) others)) (inl (onward, refl));
      })
      go (inr (back, other)) = inl (record {
        course = back;
        others = others ∙ ap (λ (c : Course). record old { path = new.path; is_entered = new.is_entered; course = c }) (back ∙ sym is);
        point = point;
        avoids = avoids (λ e. other (e ∙ sym goal));
      })

  -- they are put into the sink
  pub put-onward : old.course ≡ Onward → goes v ps old.out new.out → new.course ≡ Onward → old.steps ≤ new.steps + length ps → point_of new ≡ points_after ps (point_of old) → Pauses goes v ps old new
  put-onward is put course few point = by-course Onward is (record {
    taken = ps;
    rest = [];
    all = sym (append-nil ps);
    put = put;
    point = point;
    few = few;
    comes = inl (course, refl);
  })

-- one put, past which the walk comes, or which enters a position
module _ {S : Type 0} (goes : View → List Put → S → S → Type 0) (none : (v : View) (s : S) → goes v [] s s) (v : View) (x : Put) (old mid : Pausing S) where
  pub back-past : (path : Vec ℕ Global) (new : Pausing S) → old.course ≡ Back → mid ≡ old → new ≡ record mid { path = path; is_entered = false; course = new.course } → TurnsBy mid.course new
      → record { path = path.items; entered = false } ≡ point_after x (point_of mid) → Pauses goes v (x ∷ []) old new
  back-past path new is same others turned point =
      let moved : new ≡ record old { path = path; is_entered = false; course = new.course } = others ∙ ap (λ (s : Pausing S). record s { path = path; is_entered = false; course = new.course }) same in
      let came : point_of new ≡ point_after x (point_of old) = ap point_of moved ∙ point ∙ ap (λ (s : Pausing S). point_after x (point_of s)) same in
      put-back goes none v (x ∷ []) old new is (subst (IsMoved old) (sym moved) refl) came
      (subst (λ (c : Course). TurnsBy c new) (ap (λ (s : Pausing S). s.course) same ∙ is) turned) (λ last far. (far, λ e. last (came ∙ e)))

  pub onward-past : (path : Vec ℕ Global) (out : S) (new : Pausing S) → old.course ≡ Onward → mid ≡ record old { out = out } → goes v (x ∷ []) old.out out → new ≡ record mid { path = path; is_entered = false; course = new.course } → TurnsBy mid.course new
      → record { path = path.items; entered = false } ≡ point_after x (point_of mid) → Pauses goes v (x ∷ []) old new
  onward-past path out new is same put others turned point =
      let moved : new ≡ record old { out = out; path = path; is_entered = false; course = new.course } = others ∙ ap (λ (s : Pausing S). record s { path = path; is_entered = false; course = new.course }) same in
      put-onward goes none v (x ∷ []) old new is (subst (goes v (x ∷ []) old.out) (sym (ap (λ (s : Pausing S). s.out) moved)) put)
      (subst (λ (c : Course). TurnsBy c new) (ap (λ (s : Pausing S). s.course) same ∙ is) turned) (omega (arith, ap (λ (s : Pausing S). s.steps) moved))
      (ap point_of moved ∙ point ∙ ap (λ (s : Pausing S). point_after x (point_of s)) same)

  pub back-entered : (come : Pausing S) → old.course ≡ Back → mid ≡ old → come ≡ record mid { path = come.path } → record { path = come.path.items; entered = true } ≡ point_after x (point_of mid) → Pauses goes v (x ∷ []) old (record come { is_entered = true })
  back-entered come is same others point =
      let moved : come ≡ record old { path = come.path } = others ∙ ap (λ (s : Pausing S). record s { path = come.path }) same in
      let came : point_of (record come { is_entered = true }) ≡ point_after x (point_of old) = point ∙ ap (λ (s : Pausing S). point_after x (point_of s)) same in
      let apart : point_of (record come { is_entered = true }) ≢ goal_of (record come { is_entered = true }) = λ e. cc (ap (λ (p : PointOf). p.entered) e) in
      put-back goes none v (x ∷ []) old (record come { is_entered = true }) is (ap (λ (s : Pausing S). record s { is_entered = true }) moved ∙ ap (λ (c : Course). record old { path = come.path; is_entered = true; course = c }) (sym (ap (λ (s : Pausing S). s.course) moved)))
      came (inr (ap (λ (s : Pausing S). s.course) moved ∙ is, apart)) (λ last far. (far, λ e. last (came ∙ e)))

  pub onward-entered : (come : Pausing S) (out : S) (steps : ℕ) → old.course ≡ Onward → mid ≡ record old { out = out; steps = steps } → goes v (x ∷ []) old.out out → old.steps ≤ steps + 1 → come ≡ record mid { path = come.path }
      → record { path = come.path.items; entered = true } ≡ point_after x (point_of mid) → Pauses goes v (x ∷ []) old (record come { is_entered = true })
  onward-entered come out steps is same put few others point =
      let moved : come ≡ record old { out = out; steps = steps; path = come.path } = others ∙ ap (λ (s : Pausing S). record s { path = come.path }) same in
      put-onward goes none v (x ∷ []) old (record come { is_entered = true }) is (subst (goes v (x ∷ []) old.out) (sym (ap (λ (s : Pausing S). s.out) moved)) put)
      (ap (λ (s : Pausing S). s.course) moved ∙ is) (omega (arith, few, ap (λ (s : Pausing S). s.steps) moved)) (point ∙ ap (λ (s : Pausing S). point_after x (point_of s)) same)

-- loads that are read change no point
pub points-reads : (n : ℕ) (p : PointOf) → points_after (reads n) p ≡ p
points-reads zero p = refl
points-reads (suc n) p = points-reads n p

avoids-reads : (n : ℕ) (p goal : PointOf) → p ≢ goal → Avoids (reads n) p goal
avoids-reads zero p goal far = far
avoids-reads (suc n) p goal far = (far, avoids-reads n p goal far)

-- loads that are read where the walk goes back
pub back-reads : {S : Type 0} (goes : View → List Put → S → S → Type 0) (none : (v : View) (s : S) → goes v [] s s) (v : View) (n : ℕ) (s : Pausing S) → s.course ≡ Back → Pauses goes v (reads n) s s
back-reads goes none v n s is = by-course goes none v (reads n) s s Back is (inl (record { course = is; others = refl; point = sym (points-reads n (point_of s)); avoids = avoids-reads n (point_of s) (goal_of s) }))

-- ---- positions that are passed over

off-goal : (path : List ℕ) (o goal : PointOf) → o.path ≡ path → ((ys : List ℕ) → path ++ ys ≢ goal.path) → o ≢ goal
off-goal path o goal same far = λ e. far [] (append-nil path ∙ sym same ∙ ap (λ (x : PointOf). x.path) e)

mutual
  -- what is put of a position that was entered stays below its path
  avoids-value : (non_null : Bool) (q : Program) (R : Reader) (p goal : PointOf) → ((ys : List ℕ) → p.path ++ ys ≢ goal.path) → Avoids (puts non_null q R) p goal
  avoids-value non_null (Is leaf_value) R p goal far = (off-goal p.path p goal refl far, off-goal p.path _ goal refl far)
  avoids-value non_null (Read load next) R p goal far = (
    off-goal p.path p goal refl far,
    elim (R load) as (λ o. Avoids (given o (Waits (Read load next) ∷ []) (λ outcome. puts non_null (next outcome) R)) p goal) [
      | None ↦ (off-goal p.path p goal refl far, off-goal p.path _ goal refl far)
      | Some outcome ↦ avoids-value non_null (next outcome) R p goal far
    ],
  )
  avoids-value non_null (Under kind below) R p goal far =
      let begun : PointOf = point_after (Begins kind) p in
      let inner : (n : ℕ) (ys : List ℕ) → with_more n begun.path ++ ys ≢ goal.path =
      λ n ys e. far ((0 + n) ∷ ys) (sym (append_assoc p.path ((0 + n) ∷ []) ys) ∙ ap (λ (xs : List ℕ). xs ++ ys) (sym (last-more n p.path 0)) ∙ e) in
      let ended : PointOf = record { path = with_more (entries below) begun.path; entered = false } in (
        off-goal p.path p goal refl far,
        avoids-more (all_puts kind below R) (Ends kind non_null ∷ []) begun goal
            (avoids-passed kind below R begun goal refl (far (0 ∷ [])) (λ n ys lt. inner (suc n) ys))
            (subst (λ (o : PointOf). Avoids (Ends kind non_null ∷ []) o goal) (sym (points-passed kind below R begun refl))
            (off-goal ended.path ended goal refl (inner (entries below)), off-goal p.path _ goal (ap without_last (last-more (entries below) p.path 0) ∙ last-left p.path (0 + entries below)) far)),
      )

  -- what is put of positions stays below those that the innermost comes to
  avoids-passed : (kind : Kind) (us : Programs) (R : Reader) (p goal : PointOf) → p.entered ≡ false → p.path ≢ goal.path → ((n : ℕ) (ys : List ℕ) → n < entries us → with_more (suc n) p.path ++ ys ≢ goal.path) → Avoids (all_puts kind us R) p goal
  avoids-passed kind End R p goal e here far = λ same. here (ap (λ (x : PointOf). x.path) same)
  avoids-passed kind (With position q rest) R p goal e here far =
      let at : PointOf = point_after (Enters kind position) p in
      let first : (ys : List ℕ) → at.path ++ ys ≢ goal.path = λ ys. far 0 ys (omega arith) in (
        λ same. here (ap (λ (x : PointOf). x.path) same),
        avoids-more (puts position.non_null q R) (all_puts kind rest R) at goal (avoids-value position.non_null q R at goal first)
            (subst (λ (o : PointOf). Avoids (all_puts kind rest R) o goal) (sym (points-value position.non_null q R at refl))
            (avoids-passed kind rest R (record at { entered = false }) goal refl (λ same. first [] (append-nil at.path ∙ same))
            (λ n ys lt same. far (suc n) ys (omega (arith, lt)) (ap (λ (k : ℕ). with_more k p.path ++ ys) (omega arith) ∙ ap (λ (xs : List ℕ). xs ++ ys) (sym (more-more 1 (suc n) p.path)) ∙ same)))),
      )

-- the number of the innermost, after some positions more
more-at : (m : ℕ) (path ys : List ℕ) (last : ℕ) → length path ≡ suc last → get_or (with_more m path ++ ys) last 0 ≡ get_or path last 0 + m
more-at m [] ys last long = absurd (cc long)
more-at m (x ∷ []) ys zero long = refl
more-at m (x ∷ []) ys (suc last) long = absurd (omega (arith, long))
more-at m (x ∷ y ∷ path) ys zero long = absurd (omega (arith, long))
more-at m (x ∷ y ∷ path) ys (suc last) long = more-at m (y ∷ path) ys last (omega (arith, long))

more-length : (m : ℕ) (path : List ℕ) → length (with_more m path) ≡ length path
more-length m [] = refl
more-length m (x ∷ []) = refl
more-length m (x ∷ y ∷ path) = ap suc (more-length m (y ∷ path))

no-length : (ys : List ℕ) → length ys ≡ 0 → ys ≡ []
no-length [] e = refl
no-length (y ∷ ys) e = absurd (cc e)

module _ (n passed : ℕ) (path goal : List ℕ) (short : FallsShort n path goal) (le : passed ≤ n) (other : with_more passed path ≢ goal) where
  -- none of the positions that are passed over is the goal, nor is anything in them
  passed-short : (m : ℕ) (ys : List ℕ) → m < passed → with_more (suc m) path ++ ys ≢ goal
  passed-short m ys lt e = go s.short
    where
      s : StaysShort n path goal
      s = short (omega (arith, le, lt))

      at : get_or goal s.last 0 ≡ get_or path s.last 0 + suc m
      at = ap (λ (xs : List ℕ). get_or xs s.last 0) (sym e) ∙ more-at (suc m) path ys s.last s.long

      go : (length goal ≡ length path) ⊎ (get_or path s.last 0 + n < get_or goal s.last 0) → ⊥
      go (inr deep) = omega (arith, at, deep, lt, le)
      go (inl same) =
          let none : ys ≡ [] = no-length ys (omega (arith, same, ap length e, length-append (with_more (suc m) path) ys, more-length (suc m) path)) in
          other (ap (λ (k : ℕ). with_more k path) (omega (arith, at, s.within, lt, le)) ∙ sym (append-nil (with_more (suc m) path)) ∙ ap (λ (zs : List ℕ). with_more (suc m) path ++ zs) (sym none) ∙ e)

  -- nor is the point where they begin
  begun-short : path ≢ goal
  begun-short e = go passed refl
    where
      go : (k : ℕ) → passed ≡ k → ⊥
      go zero is = other (ap (λ (j : ℕ). with_more j path) is ∙ none-more path ∙ e)
      go (suc k) is =
          let s : StaysShort n path goal = short (omega (arith, is, le)) in
          omega (arith, is, le, s.within, ap (λ (xs : List ℕ). get_or xs s.last 0) e)

-- positions that were put before are passed over
pub passes-back : {S : Type 0} (goes : View → List Put → S → S → Type 0) (none : (v : View) (s : S) → goes v [] s s) (v : View) (kind : Kind) (us : Programs) (R : Reader) (old come new : Pausing S) (n passed : ℕ)
    → old.course ≡ Back → old.is_entered ≡ false → entries us ≡ passed → FallsShort n old.path.items old.goal.items → passed ≤ n → come.path.items ≡ with_more passed old.path.items → come ≡ record old { path = come.path }
    → new ≡ record come { is_entered = false; course = new.course } → TurnsBy come.course new → Pauses goes v (all_puts kind us R) old new
passes-back goes none v kind us R old come new n passed is between count short le path others past turned =
    let moved : new ≡ record old { path = come.path; is_entered = false; course = new.course } = past ∙ ap (λ (s : Pausing _). record s { is_entered = false; course = new.course }) others in
    let point : point_of new ≡ points_after (all_puts kind us R) (point_of old) =
    ap point_of moved ∙ ap (λ (xs : List ℕ). record { path = xs; entered = false }) (path ∙ ap (λ (k : ℕ). with_more k old.path.items) (sym count)) ∙ sym (points-passed kind us R (point_of old) between) in
    put-back goes none v (all_puts kind us R) old new is (subst (IsMoved old) (sym moved) refl) point (subst (λ (c : Course). TurnsBy c new) (ap (λ (s : Pausing _). s.course) others ∙ is) turned)
    (λ last far.
    let other : with_more passed old.path.items ≢ old.goal.items = λ e. last (ap point_of moved ∙ ap (λ (xs : List ℕ). record { path = xs; entered = false }) (path ∙ e)) in
    avoids-passed kind us R (point_of old) (goal_of old) between (begun-short n passed old.path.items old.goal.items short le other)
    (λ m ys lt. passed-short n passed old.path.items old.goal.items short le other m ys (omega (arith, lt, count))))

-- nothing is put of no positions
pub no-entries : (kind : Kind) (us : Programs) (R : Reader) → entries us ≡ 0 → all_puts kind us R ≡ []
no-entries kind End R none = refl
no-entries kind (With position p rest) R none = absurd (cc none)

-- the innermost of some counts is set to so many more
pub set-more : (n : ℕ) (path : List ℕ) (last x y : ℕ) → length path ≡ suc last → y ≡ slice_index_or path last y → x ≡ y + n → slice_set path last x ≡ with_more n path
set-more n [] last x y long there is = absurd (cc long)
set-more n (z ∷ []) zero x y long there is = ap (λ (w : ℕ). w ∷ []) (is ∙ ap (λ (w : ℕ). w + n) there)
set-more n (z ∷ []) (suc last) x y long there is = absurd (omega (arith, long))
set-more n (z ∷ w ∷ ws) zero x y long there is = absurd (omega (arith, long))
set-more n (z ∷ w ∷ ws) (suc last) x y long there is = ap (λ (ys : List ℕ). z ∷ ys) (set-more n (w ∷ ws) last x y (omega (arith, long)) there is)
