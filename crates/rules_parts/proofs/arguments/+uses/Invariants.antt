use Rattle.std.proofs.Common.{◌≡◌, ◌++◌, drop, map}
use Rattle.std.specs.Option.{option_map}
use Rattle.gq_parser.specs.Tree.{literal_of, argument_of, values_of, members_of}
use Rattle.rules_parts.specs.Parts.{location_of, use_of}
use Rattle.rules_parts.specs.Uses.{uses_among, uses_within}
use Rattle.rules_parts.proofs.arguments.+uses.Given as goal

abbrev pub invariant-add_item_uses-loop-item : goal.invariant-add_item_uses-loop-item
invariant-add_item_uses-loop-item l =
    map use_of l.uses.items ++ uses_among l.owner (option_map location_of l.location) (values_of (map literal_of (drop l.item-index l.items)))
    ≡ map use_of l.initial.uses.items ++ uses_among l.owner (option_map location_of l.location) (values_of (map literal_of l.items))

abbrev pub invariant-add_member_uses-loop-member : goal.invariant-add_member_uses-loop-member
invariant-add_member_uses-loop-member l =
    map use_of l.uses.items ++ uses_within l.owner (members_of (map argument_of (drop l.member-index l.members)))
    ≡ map use_of l.initial.uses.items ++ uses_within l.owner (members_of (map argument_of l.members))
