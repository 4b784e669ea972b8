use Rattle.merging_arguments.proofs.Equivalence.{arguments-refl, arguments-sym, arguments-trans}
use Rattle.merging_arguments.proofs.law.same_arguments_are_equivalent.Goals as goal

pub returns-clause-each_with_itself : goal.returns-clause-each_with_itself
returns-clause-each_with_itself c = arguments-refl

pub returns-clause-either_way : goal.returns-clause-either_way
returns-clause-either_way c = arguments-sym

pub returns-clause-by_a_third : goal.returns-clause-by_a_third
returns-clause-by_a_third c = arguments-trans
