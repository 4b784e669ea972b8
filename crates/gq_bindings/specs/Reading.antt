-- Definitions of what a bindings text says over a schema, or which line is the first bad one.
use Rattle.std.specs.Prelude.{◌≡◌, ℕ, Bool, not, is_some, ◌||◌, List, [], ◌∷◌, ◌++◌, Option, Some, None, option_map, option_and_then, if◌then◌else◌}
use Rattle.bindings_syntax.specs.Statements.{StatementOf, loader_line, field_line}
use Rattle.bindings_syntax.specs.Reading.{NumberedOf, BindingsTextOf, bindings_text}
use Rattle.schema_syntax.specs.Tree.{Field, Definition, Object}
use Rattle.gq_bindings.specs.Tree.{LoaderOf, BindingOf, by_column, BindingsOf, BoundFieldOf, binding_in, loader_in}
use Rattle.gq_bindings.specs.Types.{is_root_type, is_leaf_type}
use Rattle.gq_bindings.specs.Forms.{field_binding}

pub data Reading : Type 0 where
  accepted : BindingsOf → Reading
  -- the first bad line, or 0
  refused : ℕ → Reading

abbrev pub with_loader : BindingsOf → LoaderOf → BindingsOf
with_loader b l = record { loaders = b.loaders ++ l ∷ []; fields = b.fields }

-- a field of a type with its binding
abbrev pub bound_field : List ℕ → List ℕ → BindingOf → BoundFieldOf
bound_field ty name binding = record { type_name = ty; field_name = name; binding = binding }

abbrev pub with_field : BindingsOf → List ℕ → List ℕ → BindingOf → BindingsOf
with_field b ty name binding = record {
  loaders = b.loaders;
  fields = b.fields ++ record { type_name = ty; field_name = name; binding = binding } ∷ [];
}

-- a loader more, unless its name is defined
abbrev pub after_loader : BindingsOf → LoaderOf → Option BindingsOf
after_loader b l = if is_some (loader_in b.loaders l.name) then None else Some (with_loader b l)

-- Gives what is defined and bound after a line, where this is before it. There is none after a line that defines a loader's name or binds a
-- field a second time, or gives a binding that does not fit.
abbrev pub after_statement : List Definition → BindingsOf → StatementOf → Option BindingsOf
after_statement defs b (loader_line name table by) =
    after_loader b (record { name = name; table = table; by = by })
after_statement defs b (field_line ty name form) =
    if is_some (binding_in b.fields ty name) then None
    else option_map (with_field b ty name) (field_binding defs b.loaders ty name form)

-- these are the new bindings, or there are none
abbrev pub AreNewIf : Option BindingsOf → BindingsOf → Bool → Type 0
AreNewIf after new good = after ≡ (if good then Some new else None)

-- these bindings, or this line is the first bad one
abbrev pub or_refused : ℕ → Option BindingsOf → Reading
or_refused line None = refused line
or_refused line (Some b) = accepted b

abbrev pub and_then : Reading → (BindingsOf → Reading) → Reading
and_then (accepted b) next = next b
and_then (refused line) next = refused line

-- gives what is defined and bound after these lines
abbrev pub after_statements : List Definition → BindingsOf → List NumberedOf → Reading
after_statements defs b [] = accepted b
after_statements defs b (s ∷ ss) = and_then (or_refused s.line (after_statement defs b s.statement))
    (λ c. after_statements defs c ss)

-- A field without a line is bound to the column of its own name. One of the root, or of a type that is no leaf, needs a line.
abbrev pub settled_field : List Definition → List ℕ → BindingsOf → Field → Option BindingsOf
settled_field defs ty b f =
    if is_some (binding_in b.fields ty f.name.text) then Some b
    else (if is_root_type defs ty || not (is_leaf_type defs f.of_type) then None
    else Some (with_field b ty f.name.text (by_column f.name.text)))

abbrev pub settled_fields : List Definition → List ℕ → BindingsOf → List Field → Option BindingsOf
settled_fields defs ty b [] = Some b
settled_fields defs ty b (f ∷ fs) =
    option_and_then (λ c. settled_fields defs ty c fs) (settled_field defs ty b f)

-- the fields of object types, each bound
abbrev pub settled : List Definition → BindingsOf → List Definition → Option BindingsOf
settled defs b [] = Some b
settled defs b (Object n is fs ∷ ds) =
    option_and_then (λ c. settled defs c ds) (settled_fields defs n.text b fs)
settled defs b (d ∷ ds) = settled defs b ds

-- after the last line that was read
abbrev pub at_end : List Definition → Bool → Option ℕ → BindingsOf → Reading
at_end defs headed (Some line) b = refused line
at_end defs headed None b = if headed then or_refused 0 (settled defs b defs) else refused 0

abbrev pub nothing : BindingsOf
nothing = record { loaders = []; fields = [] }

abbrev pub reading_of : List Definition → BindingsTextOf → Reading
reading_of defs text = and_then (after_statements defs nothing text.statements)
    (at_end defs text.is_headed text.bad_line)

-- gives what the bindings text says over the schema
abbrev pub bindings_of : List Definition → List ℕ → Reading
bindings_of defs text = reading_of defs (bindings_text text)
