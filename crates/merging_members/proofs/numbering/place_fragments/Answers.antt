use Rattle.std.proofs.Common.{◌≡◌, ◌∙◌, sym, ap, subst, ℕ, ◌+◌, ◌++◌, ◌∷◌, [], List, length, take, take-suc, add-one, get_or, Some, arith}
use Rattle.std.specs.Prelude.{slice_get}
use Rattle.std.proofs.lemmas.List.{length-map}
use Rattle.std.proofs.lemmas.Option.{slice_get-get_or}
use Rattle.gq_parser.specs.Tree.{document_of, fragment_of}
use Rattle.merging_members.specs.Members.{count_in, count_operations, starts_from}
use Rattle.merging_members.specs.Placed.{AreReady, AreDone}
use Rattle.merging_members.proofs.Learning.{start-inside, starts-length}
use Rattle.merging_members.proofs.Placing.{fragment-at, fragment-ready, fragment-done}
use Rattle.merging_members.proofs.numbering.place_fragments.Goals as goal

pub start_of-first-requires : goal.start_of-first-requires
start_of-first-requires c =
    let d = document_of c.args.document.now in
    let i = c.loop-fragment.fragment-index in
    let order = c.args.fragments.now in
    let lt = c.requires.fragments.ordered.below i (get_or order i 0) (slice_get-get_or order i 0 c.loop-fragment-test.true) in
    let many = starts-length (count_operations d.operations) d.fragments in
    let same = ap length c.requires.fragments.started in
    record { there = omega (arith, lt, many, same) }

pub index-requires : goal.index-requires
index-requires c =
    let d = document_of c.args.document.now in
    let i = c.loop-fragment.fragment-index in
    let order = c.args.fragments.now in
    let lt = c.requires.fragments.ordered.below i (get_or order i 0) (slice_get-get_or order i 0 c.loop-fragment-test.true) in
    let many = length-map c.args.document.now.fragments.items fragment_of in
    let len = c.args.document.now.fragments.ok.0 in
    omega (arith, lt, many, len)

pub overflow_add-first : goal.overflow_add-first
overflow_add-first c =
    let d = document_of c.args.document.now in
    let i = c.loop-fragment.fragment-index in
    let fragments = c.args.fragments.now in
    let x = get_or fragments i 0 in
    let f = fragment_of c.index.result.now in
    let s = c.start_of-first.result in
    let at : slice_get fragments i ≡ Some x = slice_get-get_or fragments i 0 c.loop-fragment-test.true in
    let here : slice_get d.fragments x ≡ Some f = fragment-at c.args.document.now.fragments.items x c.index.result.now (c.requires.fragments.ordered.below i x at) c.index.ensures in
    let start : slice_get (starts_from (count_operations d.operations) d.fragments) x ≡ Some s = ap (λ (ns : List ℕ). slice_get ns x) (sym c.requires.fragments.started) ∙ c.start_of-first.ensures in
    let le = start-inside (count_operations d.operations) d.fragments x s f here start in
    let len = c.loop-fragment.invariant.len in
    let count = c.fields_in-count.ensures in
    omega (arith, le, len, count, c.requires.few, c.requires.counted)

pub place_all-requires : goal.place_all-requires
place_all-requires c =
    let d = document_of c.args.document.now in
    let i = c.loop-fragment.fragment-index in
    let fragments = c.args.fragments.now in
    let x = get_or fragments i 0 in
    let f = fragment_of c.index.result.now in
    let s = c.start_of-first.result in
    let at : slice_get fragments i ≡ Some x = slice_get-get_or fragments i 0 c.loop-fragment-test.true in
    let here : slice_get d.fragments x ≡ Some f = fragment-at c.args.document.now.fragments.items x c.index.result.now (c.requires.fragments.ordered.below i x at) c.index.ensures in
    let start : slice_get (starts_from (count_operations d.operations) d.fragments) x ≡ Some s = ap (λ (ns : List ℕ). slice_get ns x) (sym c.requires.fragments.started) ∙ c.start_of-first.ensures in
    let le = start-inside (count_operations d.operations) d.fragments x s f here start in
    let len = c.loop-fragment.invariant.len in
    let count = c.fields_in-count.ensures in
    record { there = omega (arith, le, len, count, c.requires.few, c.requires.counted) }

pub loop-fragment-preserved : goal.loop-fragment-preserved
loop-fragment-preserved c =
    let d = document_of c.args.document.now in
    let i = c.loop-fragment.fragment-index in
    let fragments = c.args.fragments.now in
    let x = get_or fragments i 0 in
    let f = fragment_of c.index.result.now in
    let s = c.start_of-first.result in
    let at : slice_get fragments i ≡ Some x = slice_get-get_or fragments i 0 c.loop-fragment-test.true in
    let here : slice_get d.fragments x ≡ Some f = fragment-at c.args.document.now.fragments.items x c.index.result.now (c.requires.fragments.ordered.below i x at) c.index.ensures in
    let start : slice_get (starts_from (count_operations d.operations) d.fragments) x ≡ Some s = ap (λ (ns : List ℕ). slice_get ns x) (sym c.requires.fragments.started) ∙ c.start_of-first.ensures in
    let le = start-inside (count_operations d.operations) d.fragments x s f here start in
    let len = c.loop-fragment.invariant.len in
    let count = c.fields_in-count.ensures in
    let done = take i fragments in
    let order = c.loop-fragment.numbering.order.items in
    let numbers = c.loop-fragment.numbering.numbers.items in
    let grown = c.place_all.new.numbering.order.items in
    let given = c.place_all.new.numbering.numbers.items in
    let more : take (i + 1) fragments ≡ done ++ x ∷ [] = rw add-one (take-suc fragments i 0 c.loop-fragment-test.true) in
    let spread = c.requires.fragments.ordered.after i x f at here in
    let end : s + count_in f.selection_set ≡ s + c.fields_in-count.result = omega (arith, le, len, count, c.requires.few, c.requires.counted) in
    let ready : AreReady d order numbers s (s + c.fields_in-count.result) =
    subst (λ (n : ℕ). AreReady d order numbers s n) end (fragment-ready d done order numbers x s f c.loop-fragment.invariant.done here start spread) in
    record {
      len = c.place_all.ensures.len ∙ len;
      done = subst (λ (ns : List ℕ). AreDone d ns grown given) (sym more)
          (fragment-done d done order numbers grown given x s f c.requires.fragments.fixed c.loop-fragment.invariant.done here start spread c.in_ok-place_all.ensures.kept
          (λ a from lt. c.in_ok-place_all.ensures.own a from (omega (arith, lt, end))) (c.in_ok-place_all.ensures.placed d c.loop-fragment.invariant.done.placed ready));
    }
