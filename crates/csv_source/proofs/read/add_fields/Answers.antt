use Rattle.std.proofs.Common.{refl}
use Rattle.csv.specs.Records.{fields_of}
use Rattle.csv_source.proofs.Fields.{take-field, take-fields}
use Rattle.csv_source.proofs.read.add_fields.Goals as goal

pub loop-field-preserved : goal.loop-field-preserved
loop-field-preserved c =
    let (over, at, next) = c.in-Some.ensures.steps in
    let now = c.loop-field.invariant in
    let more = take-field (fields_of c.args.fields.now) c.loop-field.field-iterator.at c.in-Some.field.now (rw now.over at at) in
    record { over = rw over now.over; sheet = rw (c.in_ok-add_field.ensures.ok, now.sheet, next, more) refl }

pub end_row-requires-clause-filled : goal.end_row-requires-clause-filled
end_row-requires-clause-filled c =
    let now = c.loop-field.invariant in
    let all = take-fields (fields_of c.args.fields.now) c.loop-field.field-iterator.at (rw now.over at c.in-None.ensures.steps.1) in
    rw (now.sheet, all) c.requires.same

pub returns : goal.returns
returns c =
    let now = c.loop-field.invariant in
    let all = take-fields (fields_of c.args.fields.now) c.loop-field.field-iterator.at (rw now.over at c.in-None.ensures.steps.1) in
    rw (c.end_row.ensures, now.sheet, all) refl
