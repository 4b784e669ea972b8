use Rattle.std.proofs.Common.{◌∙◌, sym, refl, map}
use Rattle.std.specs.HashMap.{get_by_text}
use Rattle.std.proofs.lemmas.Result.{err_from_is_err_and}
use Rattle.world.specs.Sources.{table_of, sheet_named}
use Rattle.world.specs.IndexedColumns.{source_of}
use Rattle.world.proofs.Loaders.{sources_for-same, sources_for-length}
use Rattle.world.proofs.Worlds.{from-loaders}
use Rattle.world.proofs.world.World.over.Goals as goal

pub returns-in_err-sources-clause-err : goal.returns-in_err-sources-clause-err
returns-in_err-sources-clause-err c =
    let tables = map table_of c.args.tables.items in
    let p = err_from_is_err_and c.from_residual-in_err-sources.result c.from_residual-in_err-sources.ensures.1 in
    let reported = rw (c.loaders.ensures, c.deref.ensures, c.bindings.ensures, sources_for-same _ (sheet_named tables) c.in_ok-tables.ensures.found c.args.server.bindings.loaders) at c.in_err-sources.ensures.err in
    rw (p.1, p.2) (from-loaders c.args.server.bindings tables c.in_ok-tables.ensures.once _ reported)

pub returns-clause-ok : goal.returns-clause-ok
returns-clause-ok c =
    let tables = map table_of c.args.tables.items in
    record {
      server = refl;
      limited = refl;
      once = c.in_ok-tables.ensures.once;
      answered = sym (sources_for-same _ (sheet_named tables) c.in_ok-tables.ensures.found c.args.server.bindings.loaders) ∙ rw (c.loaders.ensures, c.deref.ensures, c.bindings.ensures) at c.in_ok-sources.ensures.ok;
    }

pub invariant_of-result : goal.invariant_of-result
invariant_of-result c = record {
  fits = c.requires;
  each = sources_for-length (get_by_text c.in_ok-tables.tables) c.args.server.bindings.loaders (map source_of c.in_ok-sources.sources.items) (rw (c.loaders.ensures, c.deref.ensures, c.bindings.ensures) at c.in_ok-sources.ensures.ok);
}
