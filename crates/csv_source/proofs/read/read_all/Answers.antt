use Rattle.std.proofs.Common.{◌<◌, ◌∙◌, ◌∷◌, [], refl, arith, length, length-append}
use Rattle.std.proofs.lemmas.Result.{err_from_is_err_and}
use Rattle.csv.specs.Records.{fields_of}
use Rattle.csv_source.proofs.Behind.{begins_with, no_records, fits_none, lawful_more, header-fault, row-fault}
use Rattle.csv_source.proofs.read.read_all.Goals as goal

pub returns-then-not-branch-clause-reads : goal.returns-then-not-branch-clause-reads
returns-then-not-branch-clause-reads g c = λ text start. no_records text (c.in_ok-next.ensures.ended c.if-not-branch.true text [] start)

pub returns-in_err-names-clause-reads : goal.returns-in_err-names-clause-reads
returns-in_err-names-clause-reads g c = λ text start.
    let p = err_from_is_err_and c.from_residual-in_err-names.result c.from_residual-in_err-names.ensures.1 in
    let behind = c.in_ok-next.ensures.more c.if-not-branch.false text [] start in
    let fault = c.in_err-names.ensures.err in
    rw (p.1, p.2) (header-fault text (fields_of c.next.new.raw) _ (begins_with g.R.Read.remaining c.next.new.reader text _ behind) (rw fault.0 fault.1))

pub returns-in_err-builder-clause-reads : goal.returns-in_err-builder-clause-reads
returns-in_err-builder-clause-reads g c = λ text start.
    let p = err_from_is_err_and c.from_residual-in_err-builder.result c.from_residual-in_err-builder.ensures.1 in
    let behind = c.in_ok-next.ensures.more c.if-not-branch.false text [] start in
    rw (p.1, p.2) (header-fault text (fields_of c.next.new.raw) _ (begins_with g.R.Read.remaining c.next.new.reader text _ behind) (rw c.in_ok-names.ensures.ok.0 at c.in_err-builder.ensures.err))

pub loop-rows-init : goal.loop-rows-init
loop-rows-init g c =
    let (sheet, lawful) = rw c.in_ok-names.ensures.ok.0 at c.in_ok-builder.ensures.ok in
    rw sheet (record {
      plain = c.in_ok-next.ensures.plain;
      begun = refl;
      count = refl;
      lawful = (lawful, fits_none _, omega arith);
      behind = λ text start. c.in_ok-next.ensures.more c.if-not-branch.false text [] start;
    })

pub returns-then-not-branch-2-clause-reads : goal.returns-then-not-branch-2-clause-reads
returns-then-not-branch-2-clause-reads g c = λ text start.
    rw (c.in_ok-sheet.ensures, c.finish.ensures) (record {
      records = c.in_ok-next-2.ensures.ended c.if-not-branch-2.true text _ (c.loop-rows.invariant.behind text start);
      lawful = c.loop-rows.invariant.lawful;
    })

pub returns-in_err-record-clause-reads : goal.returns-in_err-record-clause-reads
returns-in_err-record-clause-reads g c = λ text start.
    let p = err_from_is_err_and c.from_residual-in_err-record.result c.from_residual-in_err-record.ensures.1 in
    let behind = c.in_ok-next-2.ensures.more c.if-not-branch-2.false text _ (c.loop-rows.invariant.behind text start) in
    rw (p.1, p.2) (row-fault text c.loop-rows.builder.names c.loop-rows.builder.rows (fields_of c.next-in-loop-rows.new.raw) _ (begins_with g.R.Read.remaining c.next-in-loop-rows.new.reader text _ behind) c.loop-rows.invariant.lawful c.in_err-record.ensures.err)

pub returns-then-rows-eq-MAX_ROWS-clause-reads : goal.returns-then-rows-eq-MAX_ROWS-clause-reads
returns-then-rows-eq-MAX_ROWS-clause-reads g c = λ text start.
    let (sheet, same, is_text) = c.in_ok-record.ensures.ok in
    let behind = c.in_ok-next-2.ensures.more c.if-not-branch-2.false text _ (c.loop-rows.invariant.behind text start) in
    record {
      before = c.loop-rows.builder.names ∷ c.loop-rows.builder.rows;
      last = fields_of c.next-in-loop-rows.new.raw;
      begins = begins_with g.R.Read.remaining c.next-in-loop-rows.new.reader text _ behind;
      lawful = c.loop-rows.invariant.lawful;
      faulty = (same, is_text, c.loop-rows.invariant.count ∙ c.if-rows-eq-MAX_ROWS.true);
    }

pub loop-rows-preserved : goal.loop-rows-preserved
loop-rows-preserved g c =
    let (sheet, same, is_text) = c.in_ok-record.ensures.ok in
    let old = c.loop-rows.invariant in
    let row = fields_of c.next-in-loop-rows.new.raw in
    let more = length-append c.loop-rows.builder.rows (row ∷ []) in
    let lt : length c.loop-rows.builder.rows < 1000000 = omega (arith, old.count, old.lawful.2, c.if-rows-eq-MAX_ROWS.false) in
    rw sheet (record {
      plain = c.in_ok-next-2.ensures.plain;
      begun = refl;
      count = omega (arith, old.count);
      lawful = lawful_more c.loop-rows.builder.names c.loop-rows.builder.rows row old.lawful same is_text lt;
      behind = λ text start. c.in_ok-next-2.ensures.more c.if-not-branch-2.false text _ (old.behind text start);
    })
