-- Definitions of which texts and tables are a world, and why others are none.
use Rattle.std.specs.Prelude.{◌≡◌, ◌≤◌, ◌⊎◌, ℕ, List, length, Option, Some, None, Result, Ok, Err}
use Rattle.schema_syntax.specs.Tree.{Definition}
use Rattle.schema_syntax.specs.declared.tree.Definition as rust
use Rattle.gq_schema.specs.Types.{tree_of}
use Rattle.gq_schema.specs.Reading.{IsSchema, IsFaultOf}
use Rattle.gq_bindings.specs.Tree.{BindingsOf}
use Rattle.gq_bindings.specs.Reading.{bindings_of, accepted}
use Rattle.csv_source.specs.Reading.{Repeats}
use Rattle.csv_source.specs.Tables.{SourceOf}
use Rattle.plan_requests.specs.Servers.{ServerOf, RefusesBindings}
use Rattle.world.specs.declared.fault.WorldFault.{WorldFault}
use Rattle.world.specs.declared.fault.WorldFault.TheVariants as world
use Rattle.world.specs.Sources.{TableOf, names_of, sheet_named, sources_for}

-- the definitions of a schema, how its fields are answered, at most how many keys a batch has, and the sources of the loaders in order
pub record WorldOf : Type 0 where
  pub definitions : List rust.Definition
  pub bindings : BindingsOf
  pub limit : Option ℕ
  pub sources : List SourceOf

-- the server of a world
abbrev pub server_of : WorldOf → ServerOf
server_of w = record { definitions = w.definitions; bindings = w.bindings }

-- no limit, or one from 1 to 65,535
abbrev pub IsLimit : Option ℕ → Type 0
IsLimit None = Unit {0}
IsLimit (Some n) = (1 ≤ n) × (n ≤ 65535)

-- says what holds of every world: the limit fits, and each loader of the bindings has its source
pub record HasSources (w : WorldOf) : Type 0 where
  pub fits : IsLimit w.limit
  pub each : length w.sources ≡ length w.bindings.loaders

-- the bindings that a text says over a schema, with no table given twice
pub record IsRead (defs : List Definition) (text : List ℕ) (tables : List TableOf)
    (b : BindingsOf) : Type 0 where
  pub accepts : bindings_of defs text ≡ accepted b
  pub once : ¬ (Repeats (names_of tables))

-- a world over a schema
pub record IsWorldOver (defs : List Definition) (text : List ℕ) (tables : List TableOf)
    (w : WorldOf) : Type 0 where
  pub same : tree_of w.definitions ≡ defs
  pub read : IsRead defs text tables w.bindings
  pub answered : sources_for (sheet_named tables) w.bindings.loaders ≡ Ok w.sources

-- a loader has no source, and it is the first
abbrev pub LacksSource : List Definition → List ℕ → List TableOf → WorldFault → Type 0
LacksSource defs text tables fault = (b : BindingsOf) × IsRead defs text tables b
    × (sources_for (sheet_named tables) b.loaders ≡ Err fault)

-- Reason why there is no world over a schema: the bindings are refused; or else a table is given twice; or else the first loader without a
-- source lacks its table or its column. Of memory this says nothing.
abbrev pub IsRefusalOver : List Definition → List ℕ → List TableOf → WorldFault → Type 0
IsRefusalOver defs text tables world.BadLimit = ⊥
IsRefusalOver defs text tables (world.Schema fault) = RefusesBindings defs text fault
IsRefusalOver defs text tables world.DuplicateTable =
    ((b : BindingsOf) × (bindings_of defs text ≡ accepted b)) × Repeats (names_of tables)
IsRefusalOver defs text tables world.NoSuchTable = LacksSource defs text tables world.NoSuchTable
IsRefusalOver defs text tables world.NoSuchColumn = LacksSource defs text tables world.NoSuchColumn
IsRefusalOver defs text tables world.NoMemory = Unit {0}

-- The texts, the tables and the limit are this world: each part accepts its own.
pub record IsWorld (text bindings : List ℕ) (tables : List TableOf) (max : Option ℕ)
    (w : WorldOf) : Type 0 where
  pub fits : IsLimit max
  pub limited : w.limit ≡ max
  pub says : IsSchema text (tree_of w.definitions)
  pub over : IsWorldOver (tree_of w.definitions) bindings tables w

-- with a limit that fits and a schema, there is no world for this
pub record IsRefusedOver (text bindings : List ℕ) (tables : List TableOf) (max : Option ℕ)
    (fault : WorldFault) : Type 0 where
  pub fits : IsLimit max
  pub defs : List Definition
  pub says : IsSchema text defs
  pub refused : IsRefusalOver defs bindings tables fault

-- Reason why there is no world: the limit; or else the schema's fault; or else what there is no world over the schema for. Where memory was
-- wanting, the limit fits.
abbrev pub IsRefusal : List ℕ → List ℕ → List TableOf → Option ℕ → WorldFault → Type 0
IsRefusal text bindings tables max world.BadLimit = ¬ (IsLimit max)
IsRefusal text bindings tables max (world.Schema fault) = (IsLimit max × IsFaultOf text fault)
    ⊎ IsRefusedOver text bindings tables max (world.Schema fault)
IsRefusal text bindings tables max world.DuplicateTable =
    IsRefusedOver text bindings tables max world.DuplicateTable
IsRefusal text bindings tables max world.NoSuchTable =
    IsRefusedOver text bindings tables max world.NoSuchTable
IsRefusal text bindings tables max world.NoSuchColumn =
    IsRefusedOver text bindings tables max world.NoSuchColumn
IsRefusal text bindings tables max world.NoMemory = IsLimit max

-- both are the same world, wherever its schema lies in memory
pub record IsSame (v w : WorldOf) : Type 0 where
  pub definitions : tree_of v.definitions ≡ tree_of w.definitions
  pub bindings : v.bindings ≡ w.bindings
  pub limit : v.limit ≡ w.limit
  pub sources : v.sources ≡ w.sources

-- this world is made, unless memory ran out
abbrev pub MakesWorld : WorldOf → Result WorldOf WorldFault → Type 0
MakesWorld w (Ok made) = IsSame made w
MakesWorld w (Err fault) = fault ≡ world.NoMemory

-- ---- over a server

-- the world of this server with this limit, whose loaders have their sources in these tables
pub record IsWorldOf (s : ServerOf) (limit : Option ℕ) (tables : List TableOf)
    (w : WorldOf) : Type 0 where
  pub server : server_of w ≡ s
  pub limited : w.limit ≡ limit
  pub once : ¬ (Repeats (names_of tables))
  pub answered : sources_for (sheet_named tables) s.bindings.loaders ≡ Ok w.sources

-- Reason why loaders have no sources in these tables: a table is given twice; or else the first loader without a source lacks its table or
-- its column. Of memory this says nothing.
abbrev pub LacksTables : BindingsOf → List TableOf → WorldFault → Type 0
LacksTables b tables world.BadLimit = ⊥
LacksTables b tables (world.Schema fault) = ⊥
LacksTables b tables world.DuplicateTable = Repeats (names_of tables)
LacksTables b tables world.NoSuchTable = ¬ (Repeats (names_of tables))
    × (sources_for (sheet_named tables) b.loaders ≡ Err world.NoSuchTable)
LacksTables b tables world.NoSuchColumn = ¬ (Repeats (names_of tables))
    × (sources_for (sheet_named tables) b.loaders ≡ Err world.NoSuchColumn)
LacksTables b tables world.NoMemory = Unit {0}
