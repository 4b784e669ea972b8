-- Definitions of what contracts see of what a group asks for.
use Rattle.std.specs.Prelude.{ℕ, List, map, Option, Some, string_bytes, option_map}
use Rattle.std.specs.Arc.{arc_value}
use Rattle.gq_parser.specs.Tree.{TypeTree, type_of, below_of}
use Rattle.schema_syntax.specs.Tree.{Field}
use Rattle.gq_bindings.specs.declared.binding.Binding.{Binding}
use Rattle.gq_bindings.specs.Seen.{step_of, binding_of}
use Rattle.gq_bindings.specs.Tree.{binding_in}
use Rattle.load_memory.specs.Keys.{KeyOf, key_of}
use Rattle.load_memory.specs.declared.key.Key.{Key}
use Rattle.execution.specs.Program.{Text, Int, Boolean, LeafValue, Value, Null, Fault}
use Rattle.plan_program.specs.declared.prepared.LeafValue as rust-leaf_value
use Rattle.plan_program.specs.declared.prepared.LeafValue.TheVariants as leaf_value
use Rattle.plan_program.specs.declared.prepared.KeyPartFrom as rust-part
use Rattle.plan_program.specs.declared.prepared.KeyPartFrom.TheVariants as part
use Rattle.plan_program.specs.declared.prepared.KeyFrom as rust-key
use Rattle.plan_program.specs.declared.prepared.KeyFrom.TheVariants as key
use Rattle.plan_program.specs.declared.prepared.Children.{Children}
use Rattle.plan_program.specs.declared.prepared.ValueFrom as rust-value
use Rattle.plan_program.specs.declared.prepared.ValueFrom.TheVariants as value
use Rattle.plan_program.specs.declared.prepared.PreparedField.{PreparedField}
use Rattle.gq_check.specs.Plans.{PlanOf}
use Rattle.plan_program.specs.Arguments.{ValueOf, coerced_arguments}
use Rattle.plan_program.specs.Groups.{FieldOf}
use Rattle.plan_program.specs.FieldValues.{PartFrom, fixed_part, column_part, KeyFrom, fixed, of_column, of_pair, ChildrenOf, ValueFrom, with_key, known, cell, first_row, all_rows, each_row, joined_rows, PreparedOf, position_of, bound_asked, with_arguments, children_of}

abbrev pub leaf_value_seen : rust-leaf_value.LeafValue → LeafValue
leaf_value_seen (leaf_value.Text t) = Value (Text (string_bytes t))
leaf_value_seen (leaf_value.Int z) = Value (Int z)
leaf_value_seen (leaf_value.Bool b) = Value (Boolean b)
leaf_value_seen leaf_value.Null = Null
leaf_value_seen (leaf_value.Fault t) = Fault (string_bytes t)

abbrev pub part_from_seen : rust-part.KeyPartFrom → PartFrom
part_from_seen (part.Fixed t) = fixed_part t
part_from_seen (part.Column c) = column_part c

abbrev pub key_from_seen : rust-key.KeyFrom → KeyFrom
key_from_seen (key.Fixed k) = fixed (key_of k)
key_from_seen (key.Column c) = of_column c
key_from_seen (key.Pair pair) = of_pair (part_from_seen pair.value.first) (part_from_seen pair.value.second)

abbrev pub children_seen : Children → ChildrenOf
children_seen b = record {
  type_name = b.type_name;
  item_non_null = b.item_non_null;
  place = b.place;
  below = map below_of b.below;
}

abbrev pub keys_seen : List (Option Key) → List (Option KeyOf)
keys_seen ks = map (λ (k : Option Key). option_map key_of k) ks

abbrev pub value_from_seen : rust-value.ValueFrom → ValueFrom
value_from_seen (value.Known o) = known (leaf_value_seen o)
value_from_seen (value.Cell column ty) = cell column (type_of ty)
value_from_seen (value.First loader k b) =
    first_row loader (key_from_seen k) (children_seen (arc_value b))
value_from_seen (value.All loader k b) =
    all_rows loader (key_from_seen k) (children_seen (arc_value b))
value_from_seen (value.Each loader ks b) =
    each_row loader (keys_seen ks.items) (children_seen (arc_value b))
value_from_seen (value.Joined loader k steps b) =
    joined_rows loader (key_from_seen k) (map step_of (arc_value steps).items) (children_seen (arc_value b))

-- gives what a key asks for, where there is one
abbrev pub by_key : Option rust-key.KeyFrom → (KeyFrom → ValueFrom) → ValueFrom
by_key key asked = with_key (option_map key_from_seen key) asked

-- gives what a binding asks for
abbrev pub bound_by : PlanOf → TypeTree → ChildrenOf → List ValueOf → Binding → ValueFrom
bound_by plan t below values binding = bound_asked plan t below values (Some (binding_of binding))

-- gives what fields of one response key ask for, by the definition of the first
abbrev pub defined_by : PlanOf → List ℕ → FieldOf → List FieldOf → Field → ValueFrom
defined_by plan ty f fields d =
    with_arguments (coerced_arguments plan f.arguments d.arguments)
    (λ values. bound_asked plan d.of_type (children_of d.of_type f.place fields) values
    (binding_in plan.bindings.fields ty f.name))

abbrev pub prepared_seen : PreparedField → PreparedOf
prepared_seen p =
    record { position = position_of p.key p.place p.non_null; asked = value_from_seen p.asked }

abbrev pub all_prepared_seen : List PreparedField → List PreparedOf
all_prepared_seen ps = map prepared_seen ps
