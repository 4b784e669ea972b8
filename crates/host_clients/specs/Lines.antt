-- What the lines of the bindings say of the keys of a client's loaders.
use Rattle.std.specs.Prelude.{ℕ, List, Option, Some, None, slice_get}
use Rattle.bindings_syntax.specs.Statements.{ByOf}
use Rattle.gq_bindings.specs.Tree.{LoaderOf}
use Rattle.load_memory.specs.Keys.{KeyOf, all, text, pair}
use Rattle.flat_rows.specs.Keyed as keyed
use Rattle.plan_requests.specs.Servers.{ServerOf}
use Rattle.server.specs.Opening.{mode_of}
use Rattle.host_clients.specs.LoaderTexts.{width_by}

abbrev pub by_in : Option LoaderOf → Option ByOf
by_in None = None
by_in (Some line) = line.by

-- gives by which columns a loader of a server is; one without a line is by none
abbrev pub by_at : ServerOf → ℕ → Option ByOf
by_at server loader = by_in (slice_get server.bindings.loaders loader)

-- ---- how many texts a key has

abbrev pub width_at : ServerOf → ℕ → ℕ
width_at server loader = width_by (by_at server loader)

-- ---- in which columns rows have their keys

abbrev pub columns_from : List ℕ → Option (List ℕ) → KeyOf
columns_from one None = text one
columns_from one (Some two) = pair one two

-- the names of the columns, as a key has its texts
abbrev pub columns_in : Option ByOf → KeyOf
columns_in None = all
columns_in (Some by) = columns_from by.column by.second

abbrev pub keyed_by : Option ByOf → keyed.ByOf
keyed_by by = record { columns = columns_in by; mode = mode_of by }
