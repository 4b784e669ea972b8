use Rattle.std.proofs.Common.{◌≡◌, ◌∙◌, ap, refl, Some, Option, length, map}
use Rattle.std.specs.Prelude.{slice_get}
use Rattle.std.specs.Option.{option_map}
use Rattle.std.proofs.lemmas.Option.{slice_get-map, slice_get_read}
use Rattle.gq_parser.specs.declared.tree.Fragment as rust-fragment
use Rattle.gq_parser.specs.Tree.{fragment_of}
use Rattle.rules_spreads.proofs.LevelLaws.{learn-settled}
use Rattle.rules_spreads.proofs.levels.learn.Goals as goal

pub returns-in-Some-get_mut-clause-settled : goal.returns-in-Some-get_mut-clause-settled
returns-in-Some-get_mut-clause-settled c = λ k settled.
    let items = c.args.parts.now.document.now.fragments.items in
    let all = c.deref.result.now in
    let found : slice_get all c.args.number ≡ Some c.in-Some.fragment.now = slice_get_read all (length all) c.args.number c.in-Some.fragment.now refl c.in-Some.ensures.lookup.3.0 c.in-Some.ensures.lookup.1 in
    let there : slice_get items c.args.number ≡ Some c.in-Some.fragment.now = rw c.deref.ensures.value at found in
    let here : slice_get (map fragment_of items) c.args.number ≡ Some (fragment_of c.in-Some.fragment.now) = slice_get-map fragment_of items c.args.number ∙ ap (λ (o : Option rust-fragment.Fragment). option_map fragment_of o) there in
    learn-settled c.args.table.now.items k c.args.number c.set_levels-levels.result (fragment_of c.in-Some.fragment.now) (map fragment_of items) settled here (rw c.deref-in-Some.ensures.value at c.set_levels-levels.ensures)
