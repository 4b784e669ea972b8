use Rattle.std.proofs.Common.{◌≡◌, ◌∙◌, sym, ap, List, None, Some}
use Rattle.schema_syntax.specs.declared.tree.Definition.{Definition}
use Rattle.gq_schema.specs.Types.{tree_of}
use Rattle.gq_schema.specs.Reserved.{first_reserved}
use Rattle.gq_schema.specs.Repeated.{first_repeated}
use Rattle.gq_schema.specs.Fault.{fault_of_types}
use Rattle.gq_schema.proofs.Faults.{fault_of-types}
use Rattle.gq_schema.proofs.check.check.Goals as goal

pub returns-in-Some-3-clause-fault : goal.returns-in-Some-3-clause-fault
returns-in-Some-3-clause-fault c = λ _.
    let all = c.args.document.definitions.items in
    let unreserved : first_reserved (tree_of all) ≡ None = rw c.deref.ensures.value at (sym c.in_default.ensures) in
    let once : first_repeated (tree_of all) ≡ None = rw c.deref-2.ensures.value at (sym c.in_ok-place.ensures) ∙ c.in_default-2.is in
    let rest : fault_of_types (tree_of all) ≡ Some c.in-Some-3.fault = ap (λ (ds : List Definition). fault_of_types (tree_of ds)) (sym c.in_ok-schema.ensures) ∙ (sym c.in_ok-fault.ensures ∙ c.in-Some-3.is) in
    fault_of-types (tree_of all) (Some c.in-Some-3.fault) unreserved once rest

pub returns-in-None-clause-sound : goal.returns-in-None-clause-sound
returns-in-None-clause-sound c =
    let all = c.args.document.definitions.items in
    let unreserved : first_reserved (tree_of all) ≡ None = rw c.deref.ensures.value at (sym c.in_default.ensures) in
    let once : first_repeated (tree_of all) ≡ None = rw c.deref-2.ensures.value at (sym c.in_ok-place.ensures) ∙ c.in_default-2.is in
    let rest : fault_of_types (tree_of all) ≡ None = ap (λ (ds : List Definition). fault_of_types (tree_of ds)) (sym c.in_ok-schema.ensures) ∙ (sym c.in_ok-fault.ensures ∙ c.in-None.is) in
    fault_of-types (tree_of all) None unreserved once rest
