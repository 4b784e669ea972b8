use Rattle.std.proofs.Common.{◌≡◌, refl, sym, arith}
use Rattle.std.specs.Prelude.{codes}
use Rattle.request_line.specs.Plain.{value_seen}
use Rattle.request_line.proofs.Lines.{same_name, other_name}
use Rattle.request_line.proofs.PlainMembers.{says_query, says_name, says_variables, says_other}
use Rattle.request_line.proofs.plain.RequestMembers.put.Goals as goal

pub returns-then-eq : goal.returns-then-eq
returns-then-eq c = λ found says.
    let is : c.args.name.now ≡ codes "query" = same_name _ _ _ c.eq.ensures c.if-eq.true in
    rw is (says_query found c.args.self.now _ says (value_seen c.args.value) c.as_str-self.ensures refl refl)

pub returns-then-eq-2 : goal.returns-then-eq-2
returns-then-eq-2 c = λ found says.
    let is : c.args.name.now ≡ codes "operationName" = same_name _ _ _ c.eq-else-eq.ensures c.if-eq-2.true in
    rw is (says_name found c.args.self.now _ says (value_seen c.args.value) c.as_name-self.ensures refl refl)

pub returns-in_ok-into_value : goal.returns-in_ok-into_value
returns-in_ok-into_value c = λ found says.
    let is : c.args.name.now ≡ codes "variables" = same_name _ _ _ c.eq-else-eq-2.ensures c.if-eq-3.true in
    rw is (says_variables found c.args.self.now _ says (value_seen c.args.value) (grind arith) refl refl)

pub returns-else-eq-3 : goal.returns-else-eq-3
returns-else-eq-3 c = λ found says.
    says_other found c.args.self.now c.args.name.now (value_seen c.args.value) says (λ e. other_name _ _ _ c.eq.ensures c.if-eq.false (sym e))
    (λ e. other_name _ _ _ c.eq-else-eq.ensures c.if-eq-2.false (sym e)) (λ e. other_name _ _ _ c.eq-else-eq-2.ensures c.if-eq-3.false (sym e))
