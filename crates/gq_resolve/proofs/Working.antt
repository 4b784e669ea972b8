-- Lemmas on the work of what is put.
use Rattle.std.proofs.Common.{◌≡◌, ◌∙◌, ◌≤◌, ◌<◌, ◌+◌, ℕ, Bool, false, List, ◌∷◌, ◌++◌, [], length, inl, inr, refl, sym, ap, subst, append-nil, Option, Some, None, arith}
use Rattle.std.specs.List.{sum_by}
use Rattle.std.specs.Prelude.{IfSome, option_map}
use Rattle.std.proofs.lemmas.List.Sums.{sum_by-append}
use Rattle.load_memory.specs.Outcomes.{OutcomeOf}
use Rattle.load_memory.specs.Pairs.{MemoryOf}
use Rattle.execution.specs.Loads.{Load, Reader}
use Rattle.execution.specs.Program.{Kind, Program, Is, Read, Under, Programs, End, With, trees}
use Rattle.execution.specs.Work.{work, count_positions, count_all_positions, IsLeft}
use Rattle.execution.specs.declared.count_work.Counted.{Counted}
use Rattle.gq_check.specs.Plans.{PlanOf}
use Rattle.plan_program.specs.PlanPrograms.{plan_program}
use Rattle.plan_walk.specs.Puts.{Put, Begins, Ends, puts, all_puts}
use Rattle.plan_walk.specs.Reading.{lookup}
use Rattle.gq_resolve.specs.StepsLeft.{CountedOn}
use Rattle.gq_resolve.specs.Suspended.{IsStoppedAt, GoneOn, IsCounting, plan_puts}
use Rattle.gq_resolve.specs.WorkLeft.{put_work, plan_work, TakesWork, largest, takes-more}
use Rattle.gq_resolve.specs.declared.pausing.Course.TheVariants.{Onward}
use Rattle.gq_resolve.specs.declared.work.WorkCount.{WorkCount}
use Rattle.gq_resolve.proofs.Nearing.{SaysOf, nearer-walk}
use Rattle.gq_resolve.proofs.Polling.{lookup-tree}

puts-read : (non_null : Bool) (load : Load) (next : OutcomeOf → Program) (R : Reader) (r : Option OutcomeOf) → R load ≡ r
    → ((o : OutcomeOf) → sum_by put_work (puts non_null (next o) R) ≡ work (next o) R) → sum_by put_work (puts non_null (Read load next) R) ≡ work (Read load next) R
puts-read non_null load next R None e ih = rw e refl
puts-read non_null load next R (Some o) e ih = rw e (ih o)

mutual
  -- what is put of a program is as much work as its execution
  puts-work : (non_null : Bool) (p : Program) (R : Reader) → sum_by put_work (puts non_null p R) ≡ work p R
  puts-work non_null (Is own) R = refl
  puts-work non_null (Read load next) R = puts-read non_null load next R (R load) refl (λ o. puts-work non_null (next o) R)
  puts-work non_null (Under kind below) R =
      let inner : List Put = all_puts kind below R in
      let begun : sum_by put_work (puts non_null (Under kind below) R) ≡ 1 + sum_by put_work (inner ++ Ends kind non_null ∷ []) = sum_by-append put_work (Begins kind ∷ []) (inner ++ Ends kind non_null ∷ []) in
      omega (arith, begun, sum_by-append put_work inner (Ends kind non_null ∷ []), all-puts-work kind below R)

  all-puts-work : (kind : Kind) (ps : Programs) (R : Reader) → sum_by put_work (all_puts kind ps R) ≡ count_all_positions (trees ps R)
  all-puts-work kind End R = refl
  all-puts-work kind (With position p rest) R =
      sum_by-append put_work (puts position.non_null p R) (all_puts kind rest R) ∙ rw (puts-work position.non_null p R, all-puts-work kind rest R) refl

-- the whole plan was put
pub plan-taken : (plan : PlanOf) (m : MemoryOf) (most : ℕ) (left : Option ℕ) → length plan.bindings.loaders ≤ length m.modes → TakesWork (puts false (plan_program plan) (lookup m)) (Some most) left → IsLeft most (plan_work plan m) left
plan-taken plan m most left enough h = subst (λ (n : ℕ). IsLeft most n left) (puts-work false (plan_program plan) (lookup m) ∙ ap count_positions (lookup-tree plan m enough)) h

module _ (plan : PlanOf) (m : MemoryOf) (enough : length plan.bindings.loaders ≤ length m.modes) where
  -- what is put of the plan is its work
  plan-works : sum_by put_work (plan_puts plan m) ≡ plan_work plan m
  plan-works = puts-work false (plan_program plan) (lookup m) ∙ ap count_positions (lookup-tree plan m enough)

  -- the positions that were counted are no more than the work
  pub counted-part : (c : WorkCount) (h : IsCounting plan m c) → sum_by put_work h.taken ≤ plan_work plan m
  counted-part c h = omega (arith, plan-works, ap (sum_by put_work) h.paused.all, sum_by-append put_work h.taken h.rest)

  -- at the end they are all
  pub counted-all : (c : WorkCount) (h : IsCounting plan m c) → c.walked.out.course ≡ Onward → sum_by put_work h.taken ≡ plan_work plan m
  counted-all c h onward = go h.paused.stopped
    where
      go : IsStoppedAt h.taken h.rest c.walked.out → sum_by put_work h.taken ≡ plan_work plan m
      go (inl (_, none)) = ap (sum_by put_work) (sym (h.paused.all ∙ ap (λ ps. h.taken ++ ps) none ∙ append-nil h.taken)) ∙ plan-works
      go (inr stopped) = absurd (cc (sym onward ∙ stopped.0))

-- a count that went on has counted more
pub counted-on : (plan : PlanOf) (m : MemoryOf) (most steps given : ℕ) (old new : WorkCount) (h : IsCounting plan m old) (did : Option Counted) → 0 < given
    → GoneOn (λ v ps a b. TakesWork ps a.left b.left) plan m given h.taken old.walked new.walked → SaysOf steps new.walked (option_map (λ count. count.steps) did)
    → ((k : IsCounting plan m new) → IfSome did (λ count. IsLeft most (plan_work plan m) count.left)) → CountedOn plan m most steps old new did
counted-on plan m most steps given old new h did least gone says counted =
    let k : IsCounting plan m new = record {
      taken = h.taken ++ gone.more;
      rest = gone.later;
      paused = gone.paused;
      work = takes-more h.taken gone.more (Some largest) old.walked.out.out.left new.walked.out.out.left h.work gone.put;
    } in
    record {
      counting = k;
      counted = counted k;
      nearer = nearer-walk plan m steps given old.walked new.walked k.taken k.rest (option_map (λ count. count.steps) did) least k.paused gone.longer gone.stopped says;
    }
