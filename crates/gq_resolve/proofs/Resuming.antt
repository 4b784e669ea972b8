-- Lemmas on walks that are made in steps: each goes on where it was stopped.
use Rattle.std.proofs.Common.{◌≡◌, ◌≢◌, ◌⊎◌, ◌≤◌, ◌+◌, ◌-◌, ℕ, arith, Bool, false, List, [], ◌∷◌, ◌++◌, length, length-append, inl, inr, sym, ap, ◌∙◌, subst, append-nil, append_assoc}
use Rattle.load_memory.specs.Pairs.{MemoryOf}
use Rattle.gq_check.specs.Plans.{PlanOf}
use Rattle.plan_program.specs.PlanPrograms.{plan_program}
use Rattle.plan_walk.specs.Groups.{view_of}
use Rattle.plan_walk.specs.Puts.{Put, View}
use Rattle.plan_walk.specs.Reading.{lookup}
use Rattle.gq_resolve.specs.Pauses.{Pauses, PausesBy, Went, StaysBack, ComesBack, ComesTo, begun_course, point_of, goal_of}
use Rattle.gq_resolve.specs.Points.{PointOf, point_after, points_after, origin, Avoids}
use Rattle.gq_resolve.specs.ReadBack.{StandsAt, AreInOrder, at_root}
use Rattle.gq_resolve.specs.Suspended.{IsRooted, IsPaused, IsStoppedAt, GoneOn, GoesOver, plan_puts}
use Rattle.gq_resolve.specs.declared.advance.FinishedWalk.{FinishedWalk}
use Rattle.gq_resolve.specs.declared.paused_walk.PausedWalk.{PausedWalk}
use Rattle.gq_resolve.specs.declared.pausing.Course.{Course}
use Rattle.gq_resolve.specs.declared.pausing.Course.TheVariants.{Back, Onward, Stopped}
use Rattle.gq_resolve.specs.declared.pausing.Pausing.{Pausing}
use Rattle.gq_resolve.proofs.Numbering.{numbered-plan}
use Rattle.gq_resolve.proofs.Pointing.{points-append, one-point}
use Rattle.gq_resolve.proofs.ReadingBack.{puts-order}

-- past the root
abbrev end : StandsAt
end = record { within = []; entered = false }

-- a plan puts in order
whole-order : (plan : PlanOf) (m : MemoryOf) → AreInOrder (plan_puts plan m) at_root end
whole-order plan m = puts-order false (plan_program plan) (lookup m) [] (numbered-plan plan)

-- ---- a walk comes back to where it was stopped

avoids-here : (xs : List Put) (p goal : PointOf) → Avoids xs p goal → p ≢ goal
avoids-here [] p goal h = h
avoids-here (x ∷ xs) p goal h = h.0

avoids-front : (xs ys : List Put) (p goal : PointOf) → Avoids (xs ++ ys) p goal → points_after xs p ≢ goal
avoids-front [] ys p goal h = avoids-here ys p goal h
avoids-front (x ∷ xs) ys p goal h = avoids-front xs ys (point_after x p) goal h.1

-- where the first of the puts lead to the goal, it doesn't go back to the end
pub comes-back : {S : Type 0} (ps taken rest : List Put) (start new : Pausing S) → ps ≡ taken ++ rest → point_of start ≢ goal_of start → points_after taken (point_of start) ≡ goal_of start → StaysBack ps start new → ⊥
comes-back ps taken rest start new all begins there stays =
    avoids-front taken rest (point_of start) (goal_of start) (subst (λ (xs : List Put). Avoids xs (point_of start) (goal_of start)) all (stays.avoids begins)) there

-- ---- what a walk puts that goes on

module _ {S : Type 0} (goes : View → List Put → S → S → Type 0) (plan : PlanOf) (m : MemoryOf) (steps : ℕ) (old : PausedWalk S) where
  -- a walk at its end stays there
  pub stays-whole : ((v : View) (s : S) → goes v [] s s) → (taken rest : List Put) → IsPaused plan m taken rest old → old.out.course ≡ Onward → GoneOn goes plan m steps taken old old
  stays-whole none taken rest h onward = record {
    view = view_of plan old.rooted.groups.items;
    more = [];
    later = rest;
    put = none (view_of plan old.rooted.groups.items) old.out.out;
    paused = subst (λ (xs : List Put). IsPaused plan m xs rest old) (sym (append-nil taken)) h;
    longer = omega arith;
    stopped = λ e. absurd (cc (sym onward ∙ e));
  }

  module _ (taken rest : List Put) (start : Pausing S) (w : FinishedWalk (Pausing S)) (n : ℕ) (is : n ≡ old.taken + (steps - w.out.steps)) where
    went-on : (v : View) (ps : List Put) → plan_puts plan m ≡ taken ++ ps → old.taken ≤ length taken → IsRooted plan w.rooted → Went goes v ps old.out.out steps (points_after taken origin) w.out
        → GoneOn goes plan m steps taken old (record { rooted = w.rooted; out = w.out; taken = n })
    went-on v ps all few rooted went = record {
      view = v;
      more = went.taken;
      later = went.rest;
      put = went.put;
      paused = record {
        rooted = rooted;
        all = all ∙ ap (λ xs. taken ++ xs) went.all ∙ sym (append_assoc taken went.taken went.rest);
        point = went.point ∙ sym (points-append taken went.taken origin);
        few = omega (arith, is, few, went.few, length-append taken went.taken);
        stopped = at went.comes;
      };
      longer = omega (arith, is);
      stopped = λ e. last went.comes e;
    }
      where
        at : ComesTo went.rest w.out → IsStoppedAt (taken ++ went.taken) went.rest w.out
        at (inl whole) = inl whole
        at (inr (stopped, between, none)) = inr (stopped, inl between)

        last : ComesTo went.rest w.out → w.out.course ≡ Stopped → old.taken + steps ≤ n
        last (inl (onward, none)) e = absurd (cc (sym onward ∙ e))
        last (inr (stopped, between, none)) e = omega (arith, is, none)

    -- from where it was stopped on
    pub resumed : IsPaused plan m taken rest old → old.out.course ≢ Onward → start.out ≡ old.out.out → start.course ≡ begun_course old.out.is_entered → point_of start ≡ origin → start.goal ≡ old.out.path → start.steps ≡ steps
        → GoesOver (Pauses goes) plan m start w → GoneOn goes plan m steps taken old (record { rooted = w.rooted; out = w.out; taken = n })
    resumed h before out course begins goal given over = go h.stopped
      where
        all : List Put
        all = plan_puts plan m

        v : View
        v = view_of plan w.rooted.groups.items

        put : (c : Course) → start.course ≡ c → PausesBy goes c v all start w.out
        put c e = subst (λ (x : Course). PausesBy goes x v all start w.out) e over.put

        begun : (ps : List Put) (p q : PointOf) → p ≡ q → Went goes v ps start.out start.steps p w.out → Went goes v ps old.out.out steps q w.out
        begun ps p q e k =
            subst (λ (x : PointOf). Went goes v ps old.out.out steps x w.out) e
            (subst (λ (s : S). Went goes v ps s steps p w.out) out (subst (λ (j : ℕ). Went goes v ps start.out j p w.out) given k))

        back : old.out.is_entered ≡ false → StaysBack all start w.out ⊎ ComesBack goes v all start w.out → GoneOn goes plan m steps taken old (record { rooted = w.rooted; out = w.out; taken = n })
        back between found =
            let there : points_after taken origin ≡ goal_of start =
            sym h.point ∙ ap (λ (b : Bool). record { path = old.out.path.items; entered = b }) between ∙ ap (λ (x : _). record { path = x.items; entered = false }) (sym goal) in
            by there found
          where
            by : points_after taken origin ≡ goal_of start → StaysBack all start w.out ⊎ ComesBack goes v all start w.out → GoneOn goes plan m steps taken old (record { rooted = w.rooted; out = w.out; taken = n })
            by there (inl k) = absurd (comes-back all taken rest start w.out h.all (λ e. cc (ap (λ (p : PointOf). p.entered) (sym begins ∙ e))) (ap (points_after taken) begins ∙ there) k)
            by there (inr k) =
                let came : points_after k.before origin ≡ goal_of start = ap (points_after k.before) (sym begins) ∙ k.there in
                let one : taken ≡ k.before = one-point all taken rest k.before k.later end (whole-order plan m) h.all k.all (there ∙ sym came) (ap (λ (p : PointOf). p.entered) (sym h.point) ∙ between) in
                went-on v k.later (k.all ∙ ap (λ xs. xs ++ k.later) (sym one)) h.few over.rooted (begun k.later (goal_of start) (points_after taken origin) (sym there) k.went)

        go : IsStoppedAt taken rest old.out → GoneOn goes plan m steps taken old (record { rooted = w.rooted; out = w.out; taken = n })
        go (inl (onward, none)) = absurd (before onward)
        go (inr (stopped, inl between)) = back between (put Back (course ∙ ap begun_course between))
        go (inr (stopped, inr (fresh, none))) =
            went-on v all (ap (λ xs. xs ++ all) (sym none)) h.few over.rooted
            (begun all (point_of start) (points_after taken origin) (begins ∙ ap (λ (xs : List Put). points_after xs origin) (sym none)) (put Onward (course ∙ ap begun_course fresh)))
