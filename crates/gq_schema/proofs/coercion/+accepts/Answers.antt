use Rattle.std.proofs.Common.{◌≡◌, ◌∙◌, ap}
use Rattle.gq_parser.specs.Tree.{Array, the_literal, literal_of, map_literals}
use Rattle.gq_parser.proofs.Views.{type_list, literal_list}
use Rattle.gq_parser.specs.declared.tree.Value.{Value}
use Rattle.gq_schema.proofs.coercion.+accepts.Goals as goal

pub accepts-returns-in-List-value : goal.accepts-returns-in-List-value
accepts-returns-in-List-value t c =
    let list = type_list c.in-List.place c.in-List.item c.in-List.non_null in
    let p = c.args.literal.now.place in
    let items : literal_of c.args.literal.now ≡ Array p (map_literals c.in-List-value.items.items) = ap (λ (v : Value). literal_of (the_literal p v)) c.in-List-value.is ∙ literal_list p c.in-List-value.items in
    rw c.in-List.is (rw (list, items) (rw (← c.deref.ensures, ← c.deref-in-List-value.ensures.value) c.accepts_all.ensures))
