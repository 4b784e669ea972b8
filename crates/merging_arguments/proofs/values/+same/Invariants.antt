use Rattle.std.proofs.Common.{◌≡◌, drop}
use Rattle.gq_parser.specs.Tree.{map_literals, map_members}
use Rattle.merging_arguments.specs.Same.{same_values, same_members}
use Rattle.merging_arguments.proofs.values.+same.Given as goal

abbrev pub invariant-are_same_items-loop-item : goal.invariant-are_same_items-loop-item
invariant-are_same_items-loop-item l =
    same_values (map_literals (drop l.item-index l.items)) (map_literals l.rest) ≡ same_values (map_literals l.items) (map_literals l.others)

abbrev pub invariant-are_same_members-loop-member : goal.invariant-are_same_members-loop-member
invariant-are_same_members-loop-member l =
    same_members (map_members (drop l.member-index l.members)) (map_members l.rest) ≡ same_members (map_members l.members) (map_members l.others)
