-- Definitions of what an output holds: the text of an answer, and the positions that wait.
use Rattle.std.specs.Prelude.{◌≡◌, ℕ, List, [], ◌++◌, length}
use Rattle.std.specs.List.{flat_map, sum_by}
use Rattle.execution.specs.Loads.{Reader}
use Rattle.plan_walk.specs.Puts.{Put, View}
use Rattle.plan_walk.specs.declared.waiting.BlockedPosition.{BlockedPosition}
use Rattle.gq_resolve.specs.AnswerTexts.{TakesAll}
use Rattle.gq_resolve.specs.Written.{put_asks, put_reads, IsCounted, thinned, all_asks, AreWithin}
use Rattle.gq_resolve.specs.declared.output.Output.{Output}

-- an output whose positions that wait are of groups below `count`
abbrev pub IsWithin : ℕ → Output → Type 0
IsWithin count o = AreWithin count o.blocked

abbrev pub count_waiting : Output → ℕ
count_waiting o = length o.blocked

-- Over each memory the positions that wait ask what they asked, and what is put, each load once. The loads that are read were
-- counted. Where nothing waits, the text took it all.
pub record Puts (v : View) (ps : List Put) (old new : Output) : Type 0 where
  pub first : (rest : List BlockedPosition) × (new.blocked ≡ old.blocked ++ rest)
  pub within : AreWithin v.count old.blocked → AreWithin v.count new.blocked
  pub asked : (R : Reader) → thinned [] (all_asks v new.blocked R)
      ≡ thinned (thinned [] (all_asks v old.blocked R)) (flat_map (put_asks R) ps)
  pub loads : IsCounted (sum_by put_reads ps) old.loads new.loads
  pub written : new.blocked ≡ [] → TakesAll ps old.text new.text
