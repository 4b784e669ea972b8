-- The texts that a set of borrowed texts has.
use Rattle.std.specs.Prelude.{ℕ, Bool, ◌||◌, List, Option, Some, None, bytes_eq, string_bytes, if◌then◌else◌}
use Rattle.std.specs.HashSet.{HashSet, contains_by}
use Rattle.std.specs.Borrow.{Bor}
use Rattle.text_place.specs.declared.place.Place.{Place}
use Rattle.schema_syntax.specs.declared.tree.Name as rust
use Rattle.gq_schema.specs.Types.{is_built_in}

abbrev pub has_text : {S : Type 0} → HashSet (Bor (List ℕ)) S → List ℕ → Bool
has_text seen q = contains_by (λ k. bytes_eq q k.now) seen

-- the place of the name of a type, if it is built in or stood earlier
abbrev pub place_if_seen : {S : Type 0} → HashSet (Bor (List ℕ)) S → rust.Name → Option Place
place_if_seen seen n = if is_built_in (string_bytes n.text) || has_text seen (string_bytes n.text)
    then Some n.place else None
