-- Definitions of what a form gives for the field that a line binds.
use Rattle.std.specs.Prelude.{◌≡◌, Option}
use Rattle.std.specs.Option.{option_map}
use Rattle.bindings_syntax.specs.Statements.{FormOf}
use Rattle.schema_syntax.specs.Tree.{field_of}
use Rattle.gq_schema.specs.Types.{tree_of}
use Rattle.gq_bindings.specs.declared.binding.Binding.{Binding}
use Rattle.gq_bindings.specs.declared.forms.Target.{Target}
use Rattle.gq_bindings.specs.Seen.{binding_of}
use Rattle.gq_bindings.specs.Forms.{form_binding}

-- the form gives this binding for the field, or nothing
abbrev pub Gives : Target → FormOf → Option Binding → Type 0
Gives t form found = option_map binding_of found
    ≡ form_binding (tree_of t.schema.now) t.loaders.now t.of_root (field_of t.field.now) form
