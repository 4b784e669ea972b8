use Rattle.plan_laws.proofs.Asking.{group-asks}
use Rattle.plan_laws.proofs.Bound.{read-bound}
use Rattle.plan_laws.proofs.Meeting.{met-defined, met-some}
use Rattle.plan_laws.proofs.law.met_fields_are_answered.Goals as goal

pub returns-clause-first : goal.returns-clause-first
returns-clause-first c = λ plan ty g over met. let some = met-some plan over.valid over.keeps ty g met in record { first = some.0; others = some.1; is = some.2 }

pub returns-clause-defined : goal.returns-clause-defined
returns-clause-defined c = λ plan ty g f over by. (met-defined plan over.valid over.keeps ty g f by.met by.asked).1

pub returns-clause-answered : goal.returns-clause-answered
returns-clause-answered c = λ plan ty g f over by.
    let m = met-defined plan over.schema.valid over.schema.keeps ty g f by.met by.asked in
    let b = read-bound plan.definitions over.read.text plan.bindings ty f.name m.1.0 over.read.accepts m.0 m.1.1 in
    record { definition = m.1.0; defined = m.1.1; bound = b; asks = group-asks plan ty g f m.1.0 by.asked m.1.1 b }
