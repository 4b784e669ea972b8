-- Definitions of what contracts see of loaders and bindings.
use Rattle.std.specs.Prelude.{map, option_map, string_bytes}
use Rattle.std.specs.Arc.{arc_value}
use Rattle.bindings_syntax.specs.Statements.{ByOf, PartOf, argument_part, column_part, KeyOf, from_argument, from_column, from_all, from_pair}
use Rattle.gq_bindings.specs.declared.binding.By.{By}
use Rattle.gq_bindings.specs.declared.binding.KeyPart.{KeyPart}
use Rattle.gq_bindings.specs.declared.binding.KeyPart.TheVariants as part
use Rattle.gq_bindings.specs.declared.binding.ViaLoader.{ViaLoader}
use Rattle.gq_bindings.specs.declared.binding.KeyOrigin.{KeyOrigin}
use Rattle.gq_bindings.specs.declared.binding.KeyOrigin.TheVariants as source
use Rattle.gq_bindings.specs.declared.binding.Binding.{Binding}
use Rattle.gq_bindings.specs.declared.binding.Binding.TheVariants as binding
use Rattle.gq_bindings.specs.declared.binding.LoaderLine.{LoaderLine}
use Rattle.gq_bindings.specs.declared.binding.BoundField.{BoundField}
use Rattle.gq_bindings.specs.Tree.{LoaderOf, StepOf, BindingOf, by_column, by_one, by_many, by_each, by_via, BoundFieldOf}

abbrev pub by_of : By → ByOf
by_of b = record {
  column = string_bytes b.column;
  second = option_map (λ t. string_bytes t) b.second;
  fold = b.fold;
}

abbrev pub part_of : KeyPart → PartOf
part_of (part.Argument name) = argument_part (string_bytes name)
part_of (part.Column name) = column_part (string_bytes name)

abbrev pub key_of : KeyOrigin → KeyOf
key_of (source.Argument name) = from_argument (string_bytes name)
key_of (source.Column name) = from_column (string_bytes name)
key_of source.All = from_all
key_of (source.Pair one two) = from_pair (part_of one) (part_of two)

abbrev pub loader_of : LoaderLine → LoaderOf
loader_of l =
    record { name = string_bytes l.name; table = string_bytes l.table; by = option_map by_of l.by }

abbrev pub step_of : ViaLoader → StepOf
step_of s = record { loader = s.loader; column = string_bytes s.column }

abbrev pub binding_of : Binding → BindingOf
binding_of (binding.Column column) = by_column (string_bytes column)
binding_of (binding.One loader key) = by_one loader (key_of key)
binding_of (binding.Many loader key) = by_many loader (key_of key)
binding_of (binding.Each loader argument) = by_each loader (string_bytes argument)
binding_of (binding.Via loader key steps) = by_via loader (key_of key) (map step_of (arc_value steps).items)

abbrev pub bound_of : BoundField → BoundFieldOf
bound_of f = record {
  type_name = string_bytes f.type_name;
  field_name = string_bytes f.field_name;
  binding = binding_of f.binding;
}
