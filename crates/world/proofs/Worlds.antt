-- A world is the only one of its texts and tables, and then there is no refusal.
use Rattle.std.proofs.Common.{◌≡◌, ◌⊎◌, ◌∙◌, ℕ, List, sym, ap, refl, subst, inl, inr, Option}
use Rattle.std.specs.Prelude.{Result, Ok, Err, IfOk, IfErr}
use Rattle.gq_schema.specs.Types.{tree_of}
use Rattle.gq_schema.specs.Reading.{IsSchema, IsFaultOf}
use Rattle.gq_bindings.specs.Tree.{BindingsOf}
use Rattle.gq_bindings.specs.Reading.{bindings_of, accepted}
use Rattle.gq_schema.specs.declared.fault.SchemaFault.{SchemaFault}
use Rattle.gq_schema.specs.declared.fault.SchemaFault.TheVariants as schema
use Rattle.csv_source.specs.Reading.{Repeats}
use Rattle.csv_source.specs.Tables.{SourceOf}
use Rattle.plan_requests.specs.Servers.{ServerOf, IsServer, IsServerFault}
use Rattle.plan_requests.specs.Servers as servers
use Rattle.world.specs.declared.fault.WorldFault.{WorldFault}
use Rattle.world.specs.declared.fault.WorldFault.TheVariants as world
use Rattle.world.specs.Faults.{lifted}
use Rattle.world.specs.Sources.{TableOf, names_of, sheet_named, sources_for, IsRefused, IsRefusedTables}
use Rattle.world.specs.Worlds.{WorldOf, IsLimit, IsWorldOf, LacksTables, IsWorld, IsRefusal, MakesWorld, server_of}

abbrev answered : List SourceOf → Result (List SourceOf) WorldFault
answered ss = Ok ss

same_sources : (a b : List SourceOf) → answered a ≡ answered b → a ≡ b
same_sources a b e = cc

-- ---- why loaders have no sources

-- the tables can't be found by their names
pub from-tables : (b : BindingsOf) (tables : List TableOf) (fault : WorldFault) → IsRefusedTables tables fault → LacksTables b tables fault
from-tables b tables world.BadLimit r = absurd r
from-tables b tables (world.Schema fault) r = absurd r
from-tables b tables world.DuplicateTable r = r
from-tables b tables world.NoSuchTable r = absurd r
from-tables b tables world.NoSuchColumn r = absurd r
from-tables b tables world.NoMemory r = r

-- a loader has no source in them
pub from-loaders : (b : BindingsOf) (tables : List TableOf) → ¬ (Repeats (names_of tables)) → (fault : WorldFault) → IsRefused (sources_for (sheet_named tables) b.loaders) fault → LacksTables b tables fault
from-loaders b tables once world.BadLimit r = absurd r
from-loaders b tables once (world.Schema fault) r = absurd r
from-loaders b tables once world.DuplicateTable r = absurd r
from-loaders b tables once world.NoSuchTable r = (once, r)
from-loaders b tables once world.NoSuchColumn r = (once, r)
from-loaders b tables once world.NoMemory r = r

-- ---- the world of a server that texts say

module _ (text bindings : List ℕ) (tables : List TableOf) (max : Option ℕ) where
  pub made-world : (s : ServerOf) → IsLimit max → IsServer text bindings s → (r : Result WorldOf WorldFault) → IfOk r (IsWorldOf s max tables) → IfOk r (IsWorld text bindings tables max)
  made-world s fits is (Ok w) of = record {
    fits = fits;
    limited = of.limited;
    says = subst (λ (v : ServerOf). IsSchema text (tree_of v.definitions)) (sym of.server) is.says;
    over = record {
      same = refl;
      read = record { accepts = subst (λ (v : ServerOf). bindings_of (tree_of v.definitions) bindings ≡ accepted v.bindings) (sym of.server) is.accepts; once = of.once };
      answered = subst (λ (v : ServerOf). sources_for (sheet_named tables) v.bindings.loaders ≡ answered w.sources) (sym of.server) of.answered;
    };
  }
  made-world s fits is (Err fault) of = of

  -- the texts of a world say its server
  pub is-server : (w : WorldOf) → IsWorld text bindings tables max w → IsServer text bindings (server_of w)
  is-server w is = record { says = is.says; accepts = is.over.read.accepts }

  module _ (s : ServerOf) (w : WorldOf) (is : IsWorld text bindings tables max w) (same : servers.IsSame s (server_of w)) where
    found : sources_for (sheet_named tables) s.bindings.loaders ≡ answered w.sources
    found = ap (λ (b : BindingsOf). sources_for (sheet_named tables) b.loaders) same.bindings ∙ is.over.answered

    -- only memory can be lacking where there is a world
    lacks-none : (fault : WorldFault) → LacksTables s.bindings tables fault → fault ≡ world.NoMemory
    lacks-none world.BadLimit r = absurd r
    lacks-none (world.Schema fault) r = absurd r
    lacks-none world.DuplicateTable r = absurd (is.over.read.once r)
    lacks-none world.NoSuchTable r = let e = sym r.1 ∙ found in cc
    lacks-none world.NoSuchColumn r = let e = sym r.1 ∙ found in cc
    lacks-none world.NoMemory r = refl

    pub made-only : (r : Result WorldOf WorldFault) → IfOk r (IsWorldOf s max tables) → IfErr r (LacksTables s.bindings tables) → MakesWorld w r
    made-only (Ok v) of refusal = record {
      definitions = ap (λ (v : ServerOf). tree_of v.definitions) of.server ∙ same.definitions;
      bindings = ap (λ (v : ServerOf). v.bindings) of.server ∙ same.bindings;
      limit = of.limited ∙ sym is.limited;
      sources = same_sources v.sources w.sources (sym of.answered ∙ found);
    }
    made-only (Err fault) of refusal = lacks-none fault refusal

  -- says where the texts say no server
  raised : IsLimit max → (fault : SchemaFault) → IsFaultOf text fault ⊎ servers.IsRefusedOver text bindings fault → IsRefusal text bindings tables max (world.Schema fault)
  raised fits fault (inl h) = inl (fits, h)
  raised fits fault (inr h) = inr (record { fits = fits; defs = h.defs; says = h.says; refused = h.refused })

  pub from-server : IsLimit max → (fault : SchemaFault) → IsServerFault text bindings fault → IsRefusal text bindings tables max (lifted fault)
  from-server fits (schema.BadBinding line) r = raised fits (schema.BadBinding line) r
  from-server fits (schema.Syntax p) r = raised fits (schema.Syntax p) r
  from-server fits (schema.Duplicate p) r = raised fits (schema.Duplicate p) r
  from-server fits (schema.UnknownType p) r = raised fits (schema.UnknownType p) r
  from-server fits (schema.BadImplements p) r = raised fits (schema.BadImplements p) r
  from-server fits schema.NoQueryRoot r = raised fits schema.NoQueryRoot r
  from-server fits (schema.ReservedName p) r = raised fits (schema.ReservedName p) r
  from-server fits (schema.NotServed p) r = raised fits (schema.NotServed p) r
  from-server fits schema.NoMemory r = fits
  from-server fits (schema.BadKind p) r = raised fits (schema.BadKind p) r
  from-server fits (schema.BadDefault p) r = raised fits (schema.BadDefault p) r

  -- nor have its loaders their sources
  pub lacks-tables : (s : ServerOf) → IsLimit max → IsServer text bindings s → (fault : WorldFault) → LacksTables s.bindings tables fault → IsRefusal text bindings tables max fault
  lacks-tables s fits is world.BadLimit r = absurd r
  lacks-tables s fits is (world.Schema fault) r = absurd r
  lacks-tables s fits is world.DuplicateTable r = record { fits = fits; defs = tree_of s.definitions; says = is.says; refused = ((s.bindings, is.accepts), r) }
  lacks-tables s fits is world.NoSuchTable r = record { fits = fits; defs = tree_of s.definitions; says = is.says; refused = (s.bindings, record { accepts = is.accepts; once = r.0 }, r.1) }
  lacks-tables s fits is world.NoSuchColumn r = record { fits = fits; defs = tree_of s.definitions; says = is.says; refused = (s.bindings, record { accepts = is.accepts; once = r.0 }, r.1) }
  lacks-tables s fits is world.NoMemory r = fits

  pub fault-world : (s : ServerOf) → IsLimit max → IsServer text bindings s → (r : Result WorldOf WorldFault) → IfErr r (LacksTables s.bindings tables) → IfErr r (IsRefusal text bindings tables max)
  fault-world s fits is (Ok w) r = r
  fault-world s fits is (Err fault) r = lacks-tables s fits is fault r
