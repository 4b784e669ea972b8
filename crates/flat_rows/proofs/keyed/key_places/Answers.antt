use Rattle.std.proofs.Common.{[], get_or}
use Rattle.load_memory.specs.Keys.{borrowed_of}
use Rattle.flat_rows.proofs.KeyedLaws.{columns-found, key-found, places-within}
use Rattle.flat_rows.proofs.keyed.key_places.Goals as goal

pub returns-in-Some-clause-some : goal.returns-in-Some-clause-some
returns-in-Some-clause-some c =
    let s = c.args.sheet.now in let columns = borrowed_of c.args.columns in
    record {
      within = places-within s.names columns c.in-Some.places c.in-Some.ensures.some;
      keys_are = λ i lt. key-found s.names (get_or s.rows i []) columns c.in-Some.places (c.len-rows.ensures.rectangular i [] lt) c.in-Some.ensures.some;
    }

pub returns-in-Some-clause-columned : goal.returns-in-Some-clause-columned
returns-in-Some-clause-columned c = λ lacks. lacks.1 (columns-found c.args.sheet.now.names (borrowed_of c.args.columns) c.in-Some.places c.in-Some.ensures.some)
