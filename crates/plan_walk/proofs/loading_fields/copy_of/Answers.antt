use Rattle.std.proofs.Common.{◌≡◌, rules}
use Rattle.plan_walk.specs.contracts.loading_fields.TypePositionsClone.TheImpl as type_positions
use Rattle.plan_walk.specs.contracts.loading_fields.RowUseClone.TheImpl as row_use
use Rattle.plan_walk.specs.declared.loading_fields.TypePositions.{TypePositions}
use Rattle.plan_walk.specs.declared.loading_fields.RowUse.{RowUse}
use Rattle.plan_walk.specs.Groups.{use_seen}
use Rattle.plan_walk.proofs.Copying.{IsShapeCopy, copies-by, copies-grow}
use Rattle.plan_walk.proofs.loading_fields.copy_of.Goals as goal

shape-copy : (s t : TypePositions) → type_positions.ghosts.is_clone s t → IsShapeCopy s t
shape-copy s t is = record { ty = is.0; only = is.1.0; members = is.1.1 }

use-copy : (u w : RowUse) → row_use.ghosts.is_clone u w → use_seen w ≡ use_seen u
use-copy u w is = search rules

pub returns : goal.returns
returns c = λ plan. copies-grow plan _ _ (copies-by (λ g h is. record {
  does = use-copy g.then h.then is.0;
  children = is.1.0;
  shapes = copies-by shape-copy _ _ is.1.1;
}) _ _ c.in_ok-copy.ensures.cases.0)
