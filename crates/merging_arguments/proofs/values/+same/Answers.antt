use Rattle.std.proofs.Common.{◌≡◌, ◌∙◌, ◌==◌, sym, ap, refl, List, [], ◌∷◌, length, drop, drop_of_length-le, arith}
use Rattle.gq_parser.specs.Tree.{no_value, no_member, map_literals, map_members}
use Rattle.gq_parser.specs.declared.tree.Literal.{Literal}
use Rattle.gq_parser.specs.declared.tree.Argument.{Argument}
use Rattle.merging_arguments.specs.Same.{same_values, same_members}
use Rattle.merging_arguments.proofs.values.+same.Goals as goal

no-items : (ls : List Literal) → (length ls == 0) ≡ same_values no_value (map_literals ls)
no-items [] = refl
no-items (l ∷ ls) = grind arith

no-members : (as' : List Argument) → (length as' == 0) ≡ same_members no_member (map_members as')
no-members [] = refl
no-members (a ∷ as') = grind arith

pub are_same_items-returns : goal.are_same_items-returns
are_same_items-returns t c =
    let none : drop c.loop-item.item-index c.args.items.now ≡ [] = drop_of_length-le c.args.items.now c.loop-item-test.false in
    c.is_empty.ensures ∙ (no-items c.loop-item.rest.now ∙ (ap (λ (ls : List Literal). same_values (map_literals ls) (map_literals c.loop-item.rest.now)) (sym none) ∙ c.loop-item.invariant))

pub are_same_members-returns : goal.are_same_members-returns
are_same_members-returns t c =
    let none : drop c.loop-member.member-index c.args.members.now ≡ [] = drop_of_length-le c.args.members.now c.loop-member-test.false in
    c.is_empty.ensures ∙ (no-members c.loop-member.rest.now ∙ (ap (λ (as' : List Argument). same_members (map_members as') (map_members c.loop-member.rest.now)) (sym none) ∙ c.loop-member.invariant))
