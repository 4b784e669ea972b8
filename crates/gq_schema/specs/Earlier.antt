-- Definitions of what the search for repeated names keeps of the definitions that it has passed.
use Rattle.std.specs.Prelude.{◌≡◌, ◌++◌, ◌∷◌, [], ℕ, List, Option}
use Rattle.std.specs.List.{list_any}
use Rattle.text_place.specs.declared.place.Place.{Place}
use Rattle.schema_syntax.specs.Tree.{Definition}
use Rattle.gq_schema.specs.declared.rules.repeated.EarlierDefinitions as rust
use Rattle.gq_schema.specs.Types.{defines}
use Rattle.gq_schema.specs.Repeated.{is_root, repeated_self}
use Rattle.gq_schema.specs.Seen.{has_text}

pub record Agrees (earlier : rust.EarlierDefinitions) (defs : List Definition) : Type 0 where
  pub types : (q : List ℕ) → has_text earlier.types q ≡ list_any (defines q) defs
  pub root : earlier.rooted ≡ list_any is_root defs

-- the search has passed one definition more, and this is the place of its name or `schema`, if that stood earlier
abbrev pub Passes : rust.EarlierDefinitions → List Definition → Definition → Option Place → Type 0
Passes earlier defs d place = (place ≡ repeated_self defs d) × Agrees earlier (defs ++ d ∷ [])
