use Rattle.std.proofs.Common.{rules}
use Rattle.flat_rows.proofs.KeyedLaws.{noted-new}
use Rattle.flat_rows.proofs.keyed.note_key.Goals as goal

pub returns-in-Vacant-clause-noted : goal.returns-in-Vacant-clause-noted
returns-in-Vacant-clause-noted c =
    let none = rw c.in-Vacant.is at c.in_ok-noted.ensures.found in
    let written = c.in_ok-noted.ensures.update.0 c.args.place in
    noted-new c.args.key c.args.place c.args.first.now.entries _ _ none written.1 written.3 (search rules)
