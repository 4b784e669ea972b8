-- Definitions of what contracts see of a text: its bytes.
use Rattle.std.specs.Prelude.{ℕ, List, string_bytes}
use Rattle.short_text.specs.declared.text.TextBytes.{TextBytes}
use Rattle.short_text.specs.declared.text.TextBytes.TheVariants as held

-- those of a text where it stands
abbrev pub bytes_of : TextBytes → List ℕ
bytes_of (held.Short s) = s
bytes_of (held.Long s) = string_bytes s
