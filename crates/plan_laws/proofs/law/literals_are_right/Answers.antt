use Rattle.plan_laws.proofs.Right.{met-right}
use Rattle.plan_laws.proofs.law.literals_are_right.Goals as goal

pub returns : goal.returns
returns c = λ plan a v over can set.
    let by = can.met in
    let given = can.given in
    met-right plan over.valid over.keeps can.ty can.group can.field given.definition given.name a v by.met by.asked given.defined given.argument given.given set
