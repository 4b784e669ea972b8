-- Definitions of what stands beside a schema's definitions.
use Rattle.std.specs.Prelude.{◌≡◌, ℕ, true, List, [], ◌∷◌, map, Option, None, String, string_bytes, codes}
use Rattle.std.specs.Option.{option_map}
use Rattle.std.specs.Global.{Global, Vec}
use Rattle.std.specs.HashMap.{HashMap}
use Rattle.text_place.specs.declared.place.Place.{Place}
use Rattle.gq_parser.specs.Tree.{Named}
use Rattle.schema_syntax.specs.declared.tree.ArgumentDefinition as rust-argument
use Rattle.schema_syntax.specs.Tree.{Argument, arguments_of}
use Rattle.gq_schema.specs.declared.index.IndexedDefinition as rust
use Rattle.gq_schema.specs.declared.entries.TypeEntry.{TypeEntry}
use Rattle.gq_schema.specs.Entries.{entry_in, own_entries}
use Rattle.gq_schema.specs.Indexes.{tree_in}
use Rattle.gq_schema.specs.Places.{ArePlaces}
use Rattle.gq_schema.specs.Possible.{names_at}
use Rattle.gq_schema.specs.Types.{defines, possible_names, declared_root, root_in}

-- `if: Boolean!`, which `skip` and `include` take (sections 3.13.1 and 3.13.2); the places say nothing
abbrev pub condition_argument : Argument
condition_argument =
    let start : Place = record { line = 1; column = 1 } in
    record {
      name = record { text = codes "if"; place = start };
      of_type = Named start (codes "Boolean") true;
      default = None;
    }

pub record IsIndexed {S : Type 0} (definitions : List rust.IndexedDefinition)
    (root : Option (String Global)) (types : HashMap (String Global) ℕ S)
    (possible : HashMap (String Global) (List (List ℕ)) S)
    (root_entry : TypeEntry) (field_entries : List (Vec TypeEntry))
    (condition : List rust-argument.ArgumentDefinition) : Type 0 where
  pub placed : ArePlaces defines (tree_in definitions) types
  pub found : (q : List ℕ) → names_at possible q ≡ possible_names (tree_in definitions) q
  pub rooted : option_map string_bytes root ≡ declared_root (tree_in definitions)
  pub root_found : root_entry ≡ entry_in (tree_in definitions) (root_in (tree_in definitions))
  pub fields_found : map (λ (v : Vec TypeEntry). v.items) field_entries
      ≡ map (own_entries (tree_in definitions)) (tree_in definitions)
  pub conditional : arguments_of condition ≡ condition_argument ∷ []
