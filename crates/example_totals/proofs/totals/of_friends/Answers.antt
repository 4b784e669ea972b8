use Rattle.std.proofs.Common.{◌≡◌, ◌+◌, suc, drop, length, ap, sym, ◌∙◌, codes, arith}
use Rattle.std.proofs.lemmas.List.{drop_more, drop_all, length-append}
use Rattle.load_memory.specs.Rows.{RowOf, cell_of}
use Rattle.execution.specs.Program.{Programs, With, all_needs, needs, tree, trees}
use Rattle.execution.specs.Front.{missing, wanting}
use Rattle.load_rounds.specs.Calls.{reader_of}
use Rattle.load_rounds.proofs.Lacking.{missing-append, wanting-append}
use Rattle.example_totals.specs.Totals.{item, friend_total, friend_totals}
use Rattle.example_totals.specs.Found.{found_of, both, found_in, found_below}
use Rattle.example_totals.proofs.Finding.{both-assoc, both-none}
use Rattle.example_totals.proofs.totals.of_friends.Invariants.{rest_from}
use Rattle.example_totals.proofs.totals.of_friends.Goals as goal

pub loop-friend-preserved : goal.loop-friend-preserved
loop-friend-preserved c =
    let R = reader_of c.args.memory.now in
    let i = c.loop-friend.friend-index in
    let friends = c.args.friends.now in
    let was = c.loop-friend.invariant in
    let part = c.in_ok-part.ensures.found in
    let own = friend_total (cell_of c.friend-item.result (codes "friend")) in
    let rest : Programs = rest_from friends (i + 1) in
    let next : rest_from friends i ≡ With (item i) own rest =
    let number : suc i ≡ i + 1 = omega arith in
    ap (friend_totals i) (drop_more friends i c.friend-item.result c.loop-friend-test.true) ∙ ap (λ (f : RowOf). With (item i) (friend_total (cell_of f (codes "friend"))) (friend_totals (suc i) (drop (i + 1) friends))) (sym c.friend-item.is)
    ∙ ap (λ n. With (item i) own (friend_totals n (drop (i + 1) friends))) number in
    let size = ap (λ ps. length (all_needs ps R)) next ∙ length-append (needs own R) (all_needs rest R) in
    record {
      found = ap (λ f. both f (found_below (trees rest R))) (c.in_ok-and.ensures ∙ ap (both (found_of c.loop-friend.all.found)) part.found) ∙ both-assoc (found_of c.loop-friend.all.found) (found_in (tree own R)) (found_below (trees rest R))
          ∙ ap (λ ps. both (found_of c.loop-friend.all.found) (found_below (trees ps R))) (sym next) ∙ was.found;
      loads = omega (arith, c.saturating_add.ensures, part.loads, size, was.loads);
      bounded = omega arith;
      wants = ap (λ ws. wanting ws (missing R (all_needs rest R))) part.wants ∙ sym (wanting-append c.loop-friend.wants (missing R (needs own R)) (missing R (all_needs rest R)))
          ∙ ap (wanting c.loop-friend.wants) (sym (missing-append R (needs own R) (all_needs rest R))) ∙ ap (λ ps. wanting c.loop-friend.wants (missing R (all_needs ps R))) (sym next) ∙ was.wants;
      loaders = c.in_ok-part.ensures.loaders ∙ was.loaders;
    }

pub returns-clause-found : goal.returns-clause-found
returns-clause-found c =
    let R = reader_of c.args.memory.now in
    let was = c.loop-friend.invariant in
    let last = ap (friend_totals c.loop-friend.friend-index) (drop_all c.loop-friend.friend-index c.args.friends.now c.loop-friend-test.false) in
    let none = ap (λ ps. length (all_needs ps R)) last in
    record {
      found = sym (both-none (found_of c.loop-friend.all.found)) ∙ ap (λ ps. both (found_of c.loop-friend.all.found) (found_below (trees ps R))) (sym last) ∙ was.found;
      loads = omega (arith, was.loads, was.bounded, none);
      wants = ap (λ ps. wanting c.loop-friend.wants (missing R (all_needs ps R))) (sym last) ∙ was.wants;
    }
