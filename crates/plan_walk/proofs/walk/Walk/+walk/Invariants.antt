use Rattle.std.proofs.Common.{◌+◌, ◌*◌, ◌<◌, [], ◌∷◌, take, length, Option}
use Rattle.std.specs.Option.{option_map}
use Rattle.load_memory.specs.Keys.{key_of}
use Rattle.load_memory.specs.Rows.{RowOf}
use Rattle.load_memory.specs.declared.key.Key.{Key}
use Rattle.gq_check.specs.Plans.{plan_of}
use Rattle.plan_program.specs.PlanPrograms.{read_if}
use Rattle.plan_walk.specs.Puts.{View}
use Rattle.plan_walk.specs.Positions.{is_non_null, onward_of, later_of}
use Rattle.plan_walk.specs.Groups.{AreKnown}
use Rattle.plan_walk.specs.Reading.{lookup}
use Rattle.plan_walk.specs.Walks.{Goes}
use Rattle.plan_walk.proofs.Touring.{fields_put, items_put}
use Rattle.plan_walk.proofs.walk.Walk.+walk.Given as goal

abbrev pub decreases-typed_object : goal.decreases-typed_object
decreases-typed_object g l = 30 * l.to.onward.levels

abbrev pub decreases-only_object : goal.decreases-only_object
decreases-only_object g l = 30 * l.to.onward.levels

abbrev pub decreases-row_object : goal.decreases-row_object
decreases-row_object g l = 30 * l.to.onward.levels + 1

abbrev pub decreases-follow : goal.decreases-follow
decreases-follow g l = 30 * l.to.onward.levels + 2

abbrev pub decreases-first : goal.decreases-first
decreases-first g l = 30 * l.to.onward.levels + 3

abbrev pub decreases-all : goal.decreases-all
decreases-all g l = 30 * l.to.onward.levels + 3

abbrev pub decreases-rows : goal.decreases-rows
decreases-rows g l = 30 * l.to.onward.levels + 4

abbrev pub decreases-go_on : goal.decreases-go_on
decreases-go_on g l = 30 * l.to.onward.levels + 5

abbrev pub decreases-read : goal.decreases-read
decreases-read g l = 30 * l.to.onward.levels + 6

abbrev pub decreases-read_if : goal.decreases-read_if
decreases-read_if g l = 30 * l.to.onward.levels + 7

abbrev pub decreases-each : goal.decreases-each
decreases-each g l = 30 * l.to.onward.levels + 8

abbrev pub decreases-ask : goal.decreases-ask
decreases-ask g l = 30 * l.levels + 24

abbrev pub decreases-object : goal.decreases-object
decreases-object g l = 30 * l.levels + 25

abbrev pub invariant-object-loop-member : goal.invariant-object-loop-member
invariant-object-loop-member g l =
    Goes g.S.Sink.goes g.S.Sink.below l.self.most (plan_of l.self.plan.now) (AreKnown (length l.fn.at.groups.items) l.members)
    (fields_put (plan_of l.self.plan.now).definitions l.levels l.row (lookup l.self.memory.now) (take (l.passed + l.member-index) l.members)) l.fn.at l.at

abbrev pub invariant-all-loop-number : goal.invariant-all-loop-number
invariant-all-loop-number g l =
    Goes g.S.Sink.goes g.S.Sink.below l.self.most (plan_of l.self.plan.now) (l.fn.to.onward.group < length l.fn.at.groups.items)
    (items_put (is_non_null l.items.nullability) l.items.place (lookup l.self.memory.now) (λ (v : View) (row : RowOf). v.after (later_of l.left (onward_of l.fn.to.onward)) (row ∷ [])) (take l.number l.rows)) l.fn.at l.at

abbrev pub invariant-each-loop-number : goal.invariant-each-loop-number
invariant-each-loop-number g l =
    Goes g.S.Sink.goes g.S.Sink.below l.self.most (plan_of l.self.plan.now) (l.fn.to.onward.group < length l.fn.at.groups.items)
    (items_put (is_non_null l.items.nullability) l.items.place (lookup l.self.memory.now) (λ (v : View) (k : Option Key). read_if l.loader (v.after (onward_of l.fn.to.onward)) (option_map key_of k)) (take l.number l.keys)) l.fn.at l.at
