-- The bound on a document's fields, each counted once where it is written, those of fragments included (own).
use Rattle.std.specs.Prelude.{ℕ, Bool, nat_lt, length}
use Rattle.rules_parts.specs.Parts.{PartsOf}

-- the most fields that a document may have
abbrev pub most_fields : ℕ
most_fields = 1000

abbrev pub is_too_complex : PartsOf → Bool
is_too_complex p = nat_lt most_fields (length p.fields)
