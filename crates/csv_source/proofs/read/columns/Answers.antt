use Rattle.std.proofs.Common.{refl}
use Rattle.csv.specs.Records.{fields_of}
use Rattle.csv_source.proofs.Fields.{take-field, take-fields}
use Rattle.csv_source.proofs.read.columns.Goals as goal

pub loop-name-preserved : goal.loop-name-preserved
loop-name-preserved c =
    let (over, at, next) = c.in-Some.ensures.steps in
    let now = c.loop-name.invariant in
    let more = take-field (fields_of c.args.names.now) c.loop-name.name-iterator.at c.in-Some.name.now (rw now.over at at) in
    record { over = rw over now.over; sheet = rw (c.in_ok-add_column.ensures.ok, now.sheet, next, more) refl }

pub returns : goal.returns
returns c =
    let now = c.loop-name.invariant in
    let all = take-fields (fields_of c.args.names.now) c.loop-name.name-iterator.at (rw now.over at c.in-None.ensures.steps.1) in
    rw (now.sheet, all) refl
