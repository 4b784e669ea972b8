use Rattle.std.proofs.Common.{◌∙◌, sym, ap, subst, ℕ, List, arith}
use Rattle.gq_parser.specs.Tree.{SelectionSet, document_of}
use Rattle.merging_pairs.specs.Entered.{IsReached}
use Rattle.merging_members.specs.Fragments.{target_at}
use Rattle.merging_members.specs.Ranked.{spreads_in}
use Rattle.merging_members.specs.SetMembers.{renumbered, KnowsAt, KnowsSome}
use Rattle.merging_members.proofs.Learning.{fragment-there}
use Rattle.merging_members.proofs.fragments.learn_fragment.Goals as goal

pub invariant_of-walk : goal.invariant_of-walk
invariant_of-walk c =
    let source = c.args.source.now in
    let d = document_of source.document.now in
    record {
      few = source.few;
      below = source.below;
      known = source.known;
      there = λ name j at. let lt = (fragment-there name d.fragments j (sym (source.named name) ∙ at)).1 in omega (arith, lt, c.requires.len);
    }

pub reached_in-requires : goal.reached_in-requires
reached_in-requires c = record { inside = c.fragment_set-own.ensures.inside }

pub returns : goal.returns
returns c = λ spread name test f knows at here passes.
    let source = c.args.source.now in
    let rows = source.rows.now in
    let numbers = source.numbers.now in
    let own = c.fragment_set-own in
    let known : KnowsSome test rows numbers c.args.table.now (target_at source.targets.now) spread = λ q e. subst (KnowsAt rows numbers c.args.table.now (spread q)) (sym (source.named q)) (knows q e) in
    let pass = ap (λ (s : SelectionSet). spreads_in test s) (own.ensures.set f here) ∙ passes in
    subst (λ (ms : List ℕ). IsReached rows (renumbered numbers ms) c.reached_in.result) (sym (own.ensures.members spread name at)) (c.reached_in.ensures spread test known pass)
