use Rattle.std.proofs.Common.{◌≡◌, ◌<◌, refl, arith}
use Rattle.std.proofs.lemmas.Bool.{false≢true}
use Rattle.flat_rows.specs.Keyed.{no_column, too_few_texts, texts_left}
use Rattle.flat_rows.proofs.keyed.check_cells.Goals as goal

pub returns-then-lacks_column-clause-fault : goal.returns-then-lacks_column-clause-fault
returns-then-lacks_column-clause-fault c = let lacks = c.if-lacks_column.ensures.0 refl in no_column lacks

pub returns-in_default-clause-fault : goal.returns-in_default-clause-fault
returns-in_default-clause-fault c =
    let columned : ¬ ((c.args.columns ≡ 0) × (0 < c.args.rows)) = λ lacks. false≢true (c.if-lacks_column.ensures.1 lacks) in
    too_few_texts columned (omega (arith, c.in_default.ensures.none, c.ranges.texts.fits))

pub returns-then-texts-wanted-clause-fault : goal.returns-then-texts-wanted-clause-fault
returns-then-texts-wanted-clause-fault c =
    let columned : ¬ ((c.args.columns ≡ 0) × (0 < c.args.rows)) = λ lacks. false≢true (c.if-lacks_column.ensures.1 lacks) in
    too_few_texts columned (omega (arith, c.in-Some.ensures.some, c.if-texts-wanted.true))

pub returns-then-texts-wanted-2-clause-fault : goal.returns-then-texts-wanted-2-clause-fault
returns-then-texts-wanted-2-clause-fault c =
    let columned : ¬ ((c.args.columns ≡ 0) × (0 < c.args.rows)) = λ lacks. false≢true (c.if-lacks_column.ensures.1 lacks) in
    texts_left columned (omega (arith, c.in-Some.ensures.some, c.if-texts-wanted-2.true))

pub returns-clause-columned : goal.returns-clause-columned
returns-clause-columned c = λ lacks. false≢true (c.if-lacks_column.ensures.1 lacks)
