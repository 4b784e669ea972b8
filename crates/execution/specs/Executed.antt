-- *Execution*: the one answer that *Completion* allows, computed from below.
use Rattle.std.specs.Prelude.{Bool, true, false, ◌||◌, ◌&&◌, List, [], ◌∷◌, ◌++◌, Option, Some, None, if◌then◌else◌}
use Rattle.text_place.specs.declared.place.Place.{Place}
use Rattle.execution.specs.Loads.{Reader}
use Rattle.execution.specs.Program.{Value, Null, Fault, Part, Program, Tree, Open, At, Over, Trees, NoMore, And, tree}
use Rattle.execution.specs.Completion.{ResponseOf, NullResponse, LeafResponse, Holding, ResponsesOf, NoResponses, Responding, ErrorOf, own_errors, top_position, is_open, AnsweredOf}

-- the position becomes null: it is null itself, or one of non-null type below it becomes null
abbrev mutual
  pub nulls : Tree → Bool
  nulls Open = false
  nulls (At (Value leaf)) = false
  nulls (At Null) = true
  nulls (At (Fault text)) = true
  nulls (Over kind below) = pulls_down below

  pub pulls_down : Trees → Bool
  pulls_down NoMore = false
  pulls_down (And position t rest) = (position.non_null && nulls t) || pulls_down rest

abbrev mutual
  pub response : Tree → ResponseOf
  response Open = NullResponse
  response (At (Value leaf)) = LeafResponse leaf
  response (At Null) = NullResponse
  response (At (Fault text)) = NullResponse
  response (Over kind below) =
      if pulls_down below then NullResponse else Holding kind (responses below)

  pub responses : Trees → ResponsesOf
  responses NoMore = NoResponses
  responses (And position t rest) = Responding position.part (response t) (responses rest)

-- the errors of a position and of those below it, in depth-first order
abbrev mutual
  pub errors : Bool → Place → List Part → Tree → List ErrorOf
  errors non_null place path Open = []
  errors non_null place path (At own) = own_errors non_null place path (At own)
  errors non_null place path (Over kind below) = all_errors path below

  pub all_errors : List Part → Trees → List ErrorOf
  all_errors path NoMore = []
  all_errors path (And position t rest) =
      errors position.non_null position.place (path ++ position.part ∷ []) t ++ all_errors path rest

abbrev pub completed : Tree → AnsweredOf
completed t = record { response = response t; errors = errors false (top_position t).place [] t }

-- exec(plan, M): defined where no position is open
abbrev pub exec : Program → Reader → Option AnsweredOf
exec p R = if is_open (tree p R) then None else Some (completed (tree p R))
