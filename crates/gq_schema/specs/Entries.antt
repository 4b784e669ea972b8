-- Definitions of what is found once of the types that fields have.
use Rattle.std.specs.Prelude.{ℕ, List, map}
use Rattle.schema_syntax.specs.Tree.{Field, Definition}
use Rattle.gq_schema.specs.declared.entries.TypeEntry as rust
use Rattle.gq_schema.specs.Places.{place_from}
use Rattle.gq_schema.specs.Types.{defines, kind_in, own_fields, core_of}

-- the kind of the type q, and the place of its definition
abbrev pub entry_in : List Definition → List ℕ → rust.TypeEntry
entry_in defs q = record { kind = kind_in defs q; place = place_from 0 (defines q) defs }

-- the entry of the innermost type of each field
abbrev pub entries_of : List Definition → List Field → List rust.TypeEntry
entries_of defs fields = map (λ (f : Field). entry_in defs (core_of f.of_type).text) fields

-- the entries of a definition's fields
abbrev pub own_entries : List Definition → Definition → List rust.TypeEntry
own_entries defs d = entries_of defs (own_fields d)
