-- The session of a world.
use Rattle.std.specs.Prelude.{◌≡◌, ℕ, List, [], ◌∷◌, Option, map, length}
use Rattle.gq_bindings.specs.Tree as bindings
use Rattle.csv_source.specs.Tables.{SourceOf}
use Rattle.load_queue.specs.Loaders.{LoaderOf, as_made}
use Rattle.load_rounds.specs.Sessions.{SessionOf, restarted}
use Rattle.world.specs.Worlds.{WorldOf}

-- the loader of a name over its source: it compares keys as the source does, and has asked nothing
abbrev pub loader_over : ℕ → Option ℕ → List ℕ → SourceOf → LoaderOf SourceOf
loader_over identity limit name source = record {
  name = name;
  source = source;
  mode = source.mode;
  limit = limit;
  log = [];
  orders = 0;
  identity = identity;
}

-- the loaders of lines over their sources, in order, whichever they are
abbrev pub loaders_over : Option ℕ → List bindings.LoaderOf
    → List SourceOf → List (LoaderOf SourceOf)
loaders_over limit [] sources = []
loaders_over limit (line ∷ lines) [] = []
loaders_over limit (line ∷ lines) (source ∷ sources) =
    loader_over 0 limit line.name source ∷ loaders_over limit lines sources

-- the loader, whichever it is
abbrev pub whichever : LoaderOf SourceOf → LoaderOf SourceOf
whichever l = record l { identity = 0 }

-- the session, whichever its loaders are
abbrev pub over_whichever : SessionOf SourceOf → SessionOf SourceOf
over_whichever s = record s { loaders = map whichever s.loaders }

-- the new session of a world: the loaders of its bindings over its sources, and nothing is known
abbrev pub session_over : WorldOf → SessionOf SourceOf
session_over w =
    record { loaders = loaders_over w.limit w.bindings.loaders w.sources; pairs = []; rounds = 0 }

-- The session is one of a world, new but for the counts of orders.
pub record IsOver (w : WorldOf) (s : SessionOf SourceOf) : Type 0 where
  -- the loaders, whichever they are, are those of the bindings over the world's sources, but for the counts of their orders
  pub loaders : map as_made s.loaders ≡ loaders_over w.limit w.bindings.loaders w.sources
  -- nothing is in their logs, nothing is known, and no round was made
  pub fresh : restarted s ≡ s
  -- each loader of the bindings has a source
  pub each : length w.sources ≡ length w.bindings.loaders
