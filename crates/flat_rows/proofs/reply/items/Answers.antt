use Rattle.std.proofs.Common.{length, ◌≡◌, drop, map, sym, ap, ◌∙◌, arith}
use Rattle.std.proofs.lemmas.List.{map_push}
use Rattle.load_memory.specs.Outcomes.{item_of}
use Rattle.flat_rows.proofs.ReplyLaws.{rows-more, faults-more, said-more, said-all}
use Rattle.flat_rows.proofs.reply.items.Goals as goal

pub item-requires-clause-rows : goal.item-requires-clause-rows
item-requires-clause-rows c =
    let more = rows-more c.args.counts.now c.loop-count.count-index c.loop-count-test.true in
    omega (arith, c.loop-count.invariant.rows, more)

pub item-requires-clause-faults : goal.item-requires-clause-faults
item-requires-clause-faults c =
    let more = faults-more c.args.counts.now c.loop-count.count-index c.loop-count-test.true in
    omega (arith, c.loop-count.invariant.faults, more)

pub overflow_add-at : goal.overflow_add-at
overflow_add-at c =
    let more = rows-more c.args.counts.now c.loop-count.count-index c.loop-count-test.true in
    let many : c.len-rows.result ≡ length c.args.sheet.now.value.rows = c.len-rows.ensures.count ∙ ap (λ s. length s.rows) c.deref.ensures in
    record { fits = omega (arith, c.loop-count.invariant.rows, more, c.rows_and_faults-rows.ensures.0, many, c.len-rows.type_inv) }

pub overflow_add-fault : goal.overflow_add-fault
overflow_add-fault c =
    let more = faults-more c.args.counts.now c.loop-count.count-index c.loop-count-test.true in
    record { fits = omega (arith, c.loop-count.invariant.faults, more, c.rows_and_faults-rows.ensures.1, c.len-texts.ensures, c.len-texts.type_inv) }

pub loop-count-preserved : goal.loop-count-preserved
loop-count-preserved c =
    let now = c.loop-count.invariant in let counts = c.args.counts.now in let i = c.loop-count.count-index in let lt = c.loop-count-test.true in
    let sheet = c.args.sheet.now.value in let item = c.in_ok-item.field-0 in let taken = c.rows_and_faults-rows.ensures in
    let rows = rows-more counts i lt in let faults = faults-more counts i lt in
    let said = said-more counts i lt sheet.names sheet.rows c.args.texts.now c.loop-count.at c.loop-count.fault (map item_of c.loop-count.items.items) (item_of item) c.rows_and_faults-rows.result.0 c.rows_and_faults-rows.result.1 c.in_ok-item.ensures taken.0 taken.1 in
    record {
      said = rw (c.in_ok-push.ensures.items, map_push item_of c.loop-count.items.items item) (said ∙ now.said);
      rows = omega (arith, now.rows, rows, taken.0);
      faults = omega (arith, now.faults, faults, taken.1);
    }

pub returns : goal.returns
returns c =
    let sheet = c.args.sheet.now.value in
    let all = said-all c.args.counts.now c.loop-count.count-index c.loop-count-test.false sheet.names (drop c.loop-count.at sheet.rows) (drop c.loop-count.fault c.args.texts.now) (map item_of c.loop-count.items.items) in
    sym all ∙ c.loop-count.invariant.said
