-- Definitions of what is put into a sink by a walk that stops, and goes on where it stopped. Some are proofs, which the laws of the sink
-- need here.
use Rattle.std.proofs.Common.{◌≡◌, ◌≢◌, ◌⊎◌, ◌<◌, ◌≤◌, ◌+◌, ℕ, suc, Bool, false, if◌then◌else◌, List, [], ◌∷◌, ◌++◌, length, get_or, inl, inr, refl, sym, ap, subst, ◌∙◌, arith, append_assoc, append-nil, length-append}
use Rattle.plan_walk.specs.Puts.{Put, View}
use Rattle.gq_resolve.specs.Points.{PointOf, point_after, points_after, Avoids}
use Rattle.gq_resolve.specs.declared.pausing.Course.{Course}
use Rattle.gq_resolve.specs.declared.pausing.Course.TheVariants.{Back, Onward, Stopped}
use Rattle.gq_resolve.specs.declared.pausing.Pausing.{Pausing}

abbrev pub point_of : {S : Type 0} → Pausing S → PointOf
point_of s = record { path = s.path.items; entered = s.is_entered }

abbrev pub goal_of : {S : Type 0} → Pausing S → PointOf
goal_of s = record { path = s.goal.items; entered = false }

-- the course of a walk that begins where nothing was put, or goes on
abbrev pub begun_course : Bool → Course
begun_course entered = if entered then Onward else Back

-- where a walk goes back, it goes onward from its goal on
abbrev pub TurnsBy : {S : Type 0} → Course → Pausing S → Type 0
TurnsBy Back new = ((new.course ≡ Onward) × (point_of new ≡ goal_of new))
    ⊎ ((new.course ≡ Back) × (point_of new ≢ goal_of new))
TurnsBy Onward new = new.course ≡ Onward
TurnsBy Stopped new = new.course ≡ Stopped

-- So many positions more of the innermost don't lead past the goal, and not to the position that it is in.
pub record StaysShort (n : ℕ) (path goal : List ℕ) : Type 0 where
  pub last : ℕ
  pub long : length path ≡ suc last
  pub within : get_or path last 0 + n ≤ get_or goal last 0
  pub short : (length goal ≡ length path) ⊎ (get_or path last 0 + n < get_or goal last 0)

abbrev pub FallsShort : ℕ → List ℕ → List ℕ → Type 0
FallsShort n path goal = 0 < n → StaysShort n path goal

-- all were put, or the walk is stopped between two positions and has no steps left
abbrev pub ComesTo : {S : Type 0} → List Put → Pausing S → Type 0
ComesTo rest new = ((new.course ≡ Onward) × (rest ≡ []))
    ⊎ ((new.course ≡ Stopped) × (new.is_entered ≡ false) × (new.steps ≡ 0))

-- the first of these were put into the sink, with a step at most for each
pub record Went {S : Type 0} (goes : View → List Put → S → S → Type 0) (v : View) (ps : List Put)
    (old : S) (steps : ℕ) (from : PointOf) (new : Pausing S) : Type 0 where
  pub taken : List Put
  pub rest : List Put
  pub all : ps ≡ taken ++ rest
  pub put : goes v taken old new.out
  pub point : point_of new ≡ points_after taken from
  pub few : steps ≤ new.steps + length taken
  pub comes : ComesTo rest new

-- all of these were put before, and the walk didn't come to its goal
pub record StaysBack {S : Type 0} (ps : List Put) (old new : Pausing S) : Type 0 where
  pub course : new.course ≡ Back
  pub others : new ≡ record old { path = new.path; is_entered = new.is_entered }
  pub point : point_of new ≡ points_after ps (point_of old)
  pub avoids : point_of old ≢ goal_of old → Avoids ps (point_of old) (goal_of old)

-- the first of these were put before, up to the point where the walk was stopped
pub record ComesBack {S : Type 0} (goes : View → List Put → S → S → Type 0) (v : View)
    (ps : List Put) (old new : Pausing S) : Type 0 where
  pub before : List Put
  pub later : List Put
  pub all : ps ≡ before ++ later
  pub there : points_after before (point_of old) ≡ goal_of old
  pub went : Went goes v later old.out old.steps (goal_of old) new

abbrev pub PausesBy : {S : Type 0} (goes : View → List Put → S → S → Type 0) → Course → View
    → List Put → Pausing S → Pausing S → Type 0
PausesBy goes Back v ps old new = StaysBack ps old new ⊎ ComesBack goes v ps old new
PausesBy goes Onward v ps old new = Went goes v ps old.out old.steps (point_of old) new
PausesBy goes Stopped v ps old new = new ≡ old

abbrev pub Pauses : {S : Type 0} (goes : View → List Put → S → S → Type 0) → View → List Put
    → Pausing S → Pausing S → Type 0
Pauses goes v ps old new = PausesBy goes old.course v ps old new

-- ---- laws

-- nothing more was put
pub went-none : {S : Type 0} (goes : View → List Put → S → S → Type 0) (v : View) (old : S)
    (steps : ℕ) (from : PointOf) (new : Pausing S) → goes v [] old new.out → point_of new ≡ from
    → steps ≤ new.steps → ComesTo [] new → Went goes v [] old steps from new
went-none goes v old steps from new none point few comes = record {
  taken = [];
  rest = [];
  all = refl;
  put = none;
  point = point;
  few = omega (arith, few);
  comes = comes;
}

pub pauses-none : {S : Type 0} (goes : View → List Put → S → S → Type 0)
    → ((v : View) (s : S) → goes v [] s s) → (v : View) (s : Pausing S) → Pauses goes v [] s s
pauses-none goes none v s = go s.course refl
  where
    go : (c : Course) → s.course ≡ c → PausesBy goes c v [] s s
    go Back is = inl (record { course = is; others = refl; point = refl; avoids = λ far. far })
    go Onward is = went-none goes v s.out s.steps (point_of s) s (none v s.out) refl
        (omega arith) (inl (is, refl))
    go Stopped is = refl

points-append : (xs ys : List Put) (p : PointOf)
    → points_after (xs ++ ys) p ≡ points_after ys (points_after xs p)
points-append [] ys p = refl
points-append (x ∷ xs) ys p = points-append xs ys (point_after x p)

-- the last point isn't the goal
avoids-last : (xs : List Put) (p goal : PointOf) → Avoids xs p goal → points_after xs p ≢ goal
avoids-last [] p goal h = h
avoids-last (x ∷ xs) p goal h = avoids-last xs (point_after x p) goal h.1

pub avoids-more : (xs ys : List Put) (p goal : PointOf) → Avoids xs p goal
    → Avoids ys (points_after xs p) goal → Avoids (xs ++ ys) p goal
avoids-more [] ys p goal h k = k
avoids-more (x ∷ xs) ys p goal h k = (h.0, avoids-more xs ys (point_after x p) goal h.1 k)

went-more : {S : Type 0} (goes : View → List Put → S → S → Type 0)
    → ((v : View) (ps qs : List Put) (a b c : S)
    → goes v ps a b → goes v qs b c → goes v (ps ++ qs) a c)
    → (v : View) (ps qs : List Put) (a : S) (steps : ℕ) (from : PointOf) (b c : Pausing S)
    → Went goes v ps a steps from b → Pauses goes v qs b c → Went goes v (ps ++ qs) a steps from c
went-more goes more v ps qs a steps from b c p q = go p.comes
  where
    go : ComesTo p.rest b → Went goes v (ps ++ qs) a steps from c
    go (inl (onward, none)) =
        let next : Went goes v qs b.out b.steps (point_of b) c =
        subst (λ (x : Course). PausesBy goes x v qs b c) onward q in
        let whole : ps ≡ p.taken = p.all ∙ ap (λ rs. p.taken ++ rs) none ∙ append-nil p.taken in
        record {
          taken = p.taken ++ next.taken;
          rest = next.rest;
          all = ap (λ xs. xs ++ qs) whole ∙ ap (λ ys. p.taken ++ ys) next.all
              ∙ sym (append_assoc p.taken next.taken next.rest);
          put = more v p.taken next.taken a b.out c.out p.put next.put;
          point = next.point ∙ ap (points_after next.taken) p.point
              ∙ sym (points-append p.taken next.taken from);
          few = omega (arith, p.few, next.few, length-append p.taken next.taken);
          comes = next.comes;
        }
    go (inr stopped) =
        let same : c ≡ b = subst (λ (x : Course). PausesBy goes x v qs b c) stopped.0 q in
        subst (Went goes v (ps ++ qs) a steps from) (sym same) (record {
          taken = p.taken;
          rest = p.rest ++ qs;
          all = ap (λ xs. xs ++ qs) p.all ∙ append_assoc p.taken p.rest qs;
          put = p.put;
          point = p.point;
          few = p.few;
          comes = inr stopped;
        })

pub pauses-more : {S : Type 0} (goes : View → List Put → S → S → Type 0)
    → ((v : View) (ps qs : List Put) (a b c : S)
    → goes v ps a b → goes v qs b c → goes v (ps ++ qs) a c)
    → (v : View) (ps qs : List Put) (a b c : Pausing S)
    → Pauses goes v ps a b → Pauses goes v qs b c → Pauses goes v (ps ++ qs) a c
pauses-more goes more v ps qs a b c p q = go a.course refl p
  where
    back : StaysBack ps a b → Pauses goes v qs b c
        → StaysBack (ps ++ qs) a c ⊎ ComesBack goes v (ps ++ qs) a c
    back h r = by (subst (λ (x : Course). PausesBy goes x v qs b c) h.course r)
      where
        goal : goal_of b ≡ goal_of a
        goal = ap goal_of h.others

        by : StaysBack qs b c ⊎ ComesBack goes v qs b c
            → StaysBack (ps ++ qs) a c ⊎ ComesBack goes v (ps ++ qs) a c
        by (inl k) = inl (record {
          course = k.course;
          others = k.others ∙ ap (λ (s : Pausing _).
              record s { path = c.path; is_entered = c.is_entered }) h.others;
          point = k.point ∙ ap (points_after qs) h.point ∙ sym (points-append ps qs (point_of a));
          avoids = λ far.
              let first = h.avoids far in
              let last = avoids-last ps (point_of a) (goal_of a) first in
              let later = k.avoids (λ e. last (sym h.point ∙ e ∙ goal)) in
              avoids-more ps qs (point_of a) (goal_of a) first
              (subst (λ (x : PointOf). Avoids qs x (goal_of a)) h.point
              (subst (Avoids qs (point_of b)) goal later));
        })
        by (inr k) = inr (record {
          before = ps ++ k.before;
          later = k.later;
          all = ap (λ xs. ps ++ xs) k.all ∙ sym (append_assoc ps k.before k.later);
          there = points-append ps k.before (point_of a)
              ∙ ap (points_after k.before) (sym h.point) ∙ k.there ∙ goal;
          went = subst (λ (s : Pausing _). Went goes v k.later s.out s.steps (goal_of s) c) h.others
              k.went;
        })

    go : (x : Course) → a.course ≡ x → PausesBy goes x v ps a b → PausesBy goes x v (ps ++ qs) a c
    go Back is (inl h) = back h q
    go Back is (inr h) = inr (record {
      before = h.before;
      later = h.later ++ qs;
      all = ap (λ xs. xs ++ qs) h.all ∙ append_assoc h.before h.later qs;
      there = h.there;
      went = went-more goes more v h.later qs a.out a.steps (goal_of a) b c h.went q;
    })
    go Onward is h = went-more goes more v ps qs a.out a.steps (point_of a) b c h q
    go Stopped is h = subst (λ (x : Course). PausesBy goes x v qs b c)
        (ap (λ (s : Pausing _). s.course) h ∙ is) q ∙ h

-- what is said of the sink before and after it is said here
pub pauses-stays : {S : Type 0} (goes : View → List Put → S → S → Type 0) (P : View → S → Type 0)
    → ((v : View) (ps : List Put) (a b : S) → goes v ps a b → P v a → P v b)
    → (v : View) (ps : List Put) (a b : Pausing S) → Pauses goes v ps a b → P v a.out → P v b.out
pauses-stays goes P stays v ps a b p h = go a.course p
  where
    go : (x : Course) → PausesBy goes x v ps a b → P v b.out
    go Back (inl k) = subst (P v) (sym (ap (λ (s : Pausing _). s.out) k.others)) h
    go Back (inr k) = stays v k.went.taken a.out b.out k.went.put h
    go Onward k = stays v k.taken a.out b.out k.put h
    go Stopped k = subst (P v) (sym (ap (λ (s : Pausing _). s.out) k)) h

pub pauses-as : {S : Type 0} (goes : View → List Put → S → S → Type 0) (v w : View) (ps : List Put)
    (a b : Pausing S) → ((qs : List Put) → goes w qs a.out b.out → goes v qs a.out b.out)
    → Pauses goes w ps a b → Pauses goes v ps a b
pauses-as goes v w ps a b narrow p = go a.course p
  where
    went : (qs : List Put) (from : PointOf)
        → Went goes w qs a.out a.steps from b → Went goes v qs a.out a.steps from b
    went qs from k = record {
      taken = k.taken;
      rest = k.rest;
      all = k.all;
      put = narrow k.taken k.put;
      point = k.point;
      few = k.few;
      comes = k.comes;
    }

    go : (x : Course) → PausesBy goes x w ps a b → PausesBy goes x v ps a b
    go Back (inl k) = inl k
    go Back (inr k) = inr (record {
      before = k.before;
      later = k.later;
      all = k.all;
      there = k.there;
      went = went k.later (goal_of a) k.went;
    })
    go Onward k = went ps (point_of a) k
    go Stopped k = k
