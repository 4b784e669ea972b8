use Rattle.std.proofs.Common.{◌≡◌, ◌∙◌, ap, refl, false, ◌+◌, ℕ, [], ◌∷◌, ◌++◌, List, length, take, take_all, take-suc, get_or, add-one, Some, arith}
use Rattle.std.specs.Prelude.{slice_get}
use Rattle.std.proofs.lemmas.Bool.{both_ways}
use Rattle.std.proofs.lemmas.List.{length-append, length-map}
use Rattle.std.proofs.lemmas.Option.{slice_get-get_or}
use Rattle.gq_parser.specs.Tree.{document_of, fragment_of}
use Rattle.merging_pairs.specs.Numbered.{is_in}
use Rattle.merging_members.specs.Fragments.{place_in}
use Rattle.merging_members.specs.Members.{members_of_fragment}
use Rattle.merging_members.specs.Ranked.{is_among}
use Rattle.merging_members.proofs.Learning.{fragment-there, learned-some, learned-all, learned-more}
use Rattle.merging_members.proofs.fragments.known_fragments.Goals as goal

pub loop-preserved : goal.loop-preserved
loop-preserved c = ap length c.in_ok-push.ensures.items ∙ (length-append c.loop.table.items (c.new.result ∷ []) ∙ ap (λ (n : ℕ). n + 1) c.loop.invariant)

pub loop-number-init : goal.loop-number-init
loop-number-init c =
    let len = c.loop.invariant in
    let past = c.loop-test.false in
    let end = c.loop.auto.counter-end in
    let many = length-map c.args.source.now.document.now.fragments.items fragment_of in
    record {
      len = omega (arith, len, past, end, many);
      learned = λ name j at e. absurd (both_ways false refl e);
    }

pub learn-requires : goal.learn-requires
learn-requires c =
    let i = c.loop-number.number-index in
    let order = c.args.order.now in
    record {
      there = c.requires.order.below i (get_or order i 0) (slice_get-get_or order i 0 c.loop-number-test.true);
      len = c.loop-number.invariant.len;
    }

pub loop-number-preserved : goal.loop-number-preserved
loop-number-preserved c =
    let source = c.args.source.now in
    let d = document_of source.document.now in
    let i = c.loop-number.number-index in
    let order = c.args.order.now in
    let x = get_or order i 0 in
    let done = take i order in
    let here : slice_get order i ≡ Some x = slice_get-get_or order i 0 c.loop-number-test.true in
    let more : take (i + 1) order ≡ done ++ x ∷ [] = rw add-one (take-suc order i 0 c.loop-number-test.true) in
    let known = learned-some source.rows.now source.numbers.now d done c.loop-number.table.items c.loop-number.invariant.learned in
    record {
      len = c.learn.ensures.len ∙ c.loop-number.invariant.len;
      learned = learned-more source.rows.now source.numbers.now d done (take (i + 1) order) x c.loop-number.table.items c.learn.new.table.items c.requires.fixed more c.loop-number.invariant.learned c.learn.ensures.others
          (λ name at.
          let f = fragment-there name d.fragments x at in
          c.learn.ensures.own (members_of_fragment d) name (is_among done (place_in d.fragments)) f.0 known at f.2 (c.requires.order.after i x f.0 here f.2));
    }

pub returns-clause-known : goal.returns-clause-known
returns-clause-known c =
    let source = c.args.source.now in
    let d = document_of source.document.now in
    let order = c.args.order.now in
    let whole : take c.loop-number.number-index order ≡ order = take_all c.loop-number.number-index order c.loop-number-test.false in
    learned-all source.rows.now source.numbers.now d (take c.loop-number.number-index order) c.loop-number.table.items c.loop-number.invariant.learned
    (λ j lt. ap (λ (xs : List ℕ). is_in xs j) whole ∙ c.requires.order.all j lt)
