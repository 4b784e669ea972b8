use Rattle.std.proofs.Common.{◌≡◌, ◌<◌, ◌+◌, ◌*◌, ℕ, refl, sym, subst, arith}
use Rattle.std.proofs.lemmas.Bool.{false≢true}
use Rattle.flat_rows.specs.Faults.{too_many_rows, no_column, too_few_texts, texts_left}
use Rattle.flat_rows.specs.Replies.{LacksColumn, texts_wanted}
use Rattle.flat_rows.proofs.reply.check_counts.Goals as goal

rows-as : (m n : ℕ) → n ≡ m → 0 < n → 0 < m
rows-as m n same low = subst (λ k. 0 < k) same low

pub returns-in_default-clause-fault : goal.returns-in_default-clause-fault
returns-in_default-clause-fault c = too_many_rows c.in_default.ensures.none

pub returns-then-lacks_column-clause-fault : goal.returns-then-lacks_column-clause-fault
returns-then-lacks_column-clause-fault c =
    let lacks = c.if-lacks_column.ensures.0 refl in
    no_column c.in-Some.ensures.few (lacks.0, rows-as _ c.in-Some.totals.rows c.in-Some.ensures.some.0 lacks.1)

pub returns-in_default-wanted-clause-fault : goal.returns-in_default-wanted-clause-fault
returns-in_default-wanted-clause-fault c =
    let totals = c.in-Some.totals in
    let all : c.args.columns + totals.rows * c.args.columns + totals.faults ≡ texts_wanted c.args.columns c.args.counts.now = rw (c.in-Some.ensures.some.0, c.in-Some.ensures.some.1) refl in
    let columned : ¬ (LacksColumn c.args.columns c.args.counts.now) = λ lacks. false≢true (c.if-lacks_column.ensures.1 (lacks.0, rows-as totals.rows _ (sym c.in-Some.ensures.some.0) lacks.1)) in
    too_few_texts c.in-Some.ensures.few columned (omega (arith, all, c.in_default-wanted.ensures.none, c.ranges.texts.fits))

pub returns-then-texts-wanted-clause-fault : goal.returns-then-texts-wanted-clause-fault
returns-then-texts-wanted-clause-fault c =
    let totals = c.in-Some.totals in
    let all : c.args.columns + totals.rows * c.args.columns + totals.faults ≡ texts_wanted c.args.columns c.args.counts.now = rw (c.in-Some.ensures.some.0, c.in-Some.ensures.some.1) refl in
    let columned : ¬ (LacksColumn c.args.columns c.args.counts.now) = λ lacks. false≢true (c.if-lacks_column.ensures.1 (lacks.0, rows-as totals.rows _ (sym c.in-Some.ensures.some.0) lacks.1)) in
    too_few_texts c.in-Some.ensures.few columned (omega (arith, all, c.in-Some-wanted.ensures.some, c.if-texts-wanted.true))

pub returns-then-texts-wanted-2-clause-fault : goal.returns-then-texts-wanted-2-clause-fault
returns-then-texts-wanted-2-clause-fault c =
    let totals = c.in-Some.totals in
    let all : c.args.columns + totals.rows * c.args.columns + totals.faults ≡ texts_wanted c.args.columns c.args.counts.now = rw (c.in-Some.ensures.some.0, c.in-Some.ensures.some.1) refl in
    let columned : ¬ (LacksColumn c.args.columns c.args.counts.now) = λ lacks. false≢true (c.if-lacks_column.ensures.1 (lacks.0, rows-as totals.rows _ (sym c.in-Some.ensures.some.0) lacks.1)) in
    texts_left c.in-Some.ensures.few columned (omega (arith, all, c.in-Some-wanted.ensures.some, c.if-texts-wanted-2.true))
