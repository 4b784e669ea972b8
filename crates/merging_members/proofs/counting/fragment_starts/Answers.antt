use Rattle.std.proofs.Common.{◌≡◌, ◌∙◌, sym, ap, ◌+◌, ◌++◌, [], ◌∷◌, ℕ, List, refl, drop, map, append_assoc, arith}
use Rattle.gq_parser.specs.Tree.{Fragment, fragment_of}
use Rattle.merging_members.specs.Members.{count_in, count_fragments, starts_from}
use Rattle.merging_members.proofs.Entering.{drop-next}
use Rattle.merging_members.proofs.counting.fragment_starts.Goals as goal

pub overflow_add-next : goal.overflow_add-next
overflow_add-next c =
    let i = c.loop-fragment.fragment-index in
    let xs = c.args.fragments.now in
    let x = c.fragment-item.result in
    let left : map fragment_of (drop i xs) ≡ fragment_of x ∷ map fragment_of (drop (i + 1) xs) = ap (map fragment_of) (drop-next xs xs i x refl c.loop-fragment-test.true c.fragment-item.is) in
    let counts : count_fragments (map fragment_of (drop i xs)) ≡ count_in (fragment_of x).selection_set + count_fragments (map fragment_of (drop (i + 1) xs)) = ap count_fragments left in
    omega (arith, counts, c.loop-fragment.invariant.counted, c.fields_in-next.ensures, c.requires)

pub loop-fragment-preserved : goal.loop-fragment-preserved
loop-fragment-preserved c =
    let i = c.loop-fragment.fragment-index in
    let xs = c.args.fragments.now in
    let x = c.fragment-item.result in
    let n = c.loop-fragment.next in
    let rest = map fragment_of (drop (i + 1) xs) in
    let left : map fragment_of (drop i xs) ≡ fragment_of x ∷ rest = ap (map fragment_of) (drop-next xs xs i x refl c.loop-fragment-test.true c.fragment-item.is) in
    let counts : count_fragments (map fragment_of (drop i xs)) ≡ count_in (fragment_of x).selection_set + count_fragments rest = ap count_fragments left in
    let next : n + c.fields_in-next.result ≡ n + count_in (fragment_of x).selection_set = omega (arith, counts, c.loop-fragment.invariant.counted, c.fields_in-next.ensures, c.requires) in
    let parts : starts_from n (map fragment_of (drop i xs)) ≡ n ∷ starts_from (n + count_in (fragment_of x).selection_set) rest = ap (λ (fs : List Fragment). starts_from n fs) left in
    record {
      counted = omega (arith, counts, next, c.loop-fragment.invariant.counted);
      starts = rw (c.in_ok-push.ensures.items, next) (append_assoc c.loop-fragment.starts.items (n ∷ []) (starts_from (n + count_in (fragment_of x).selection_set) rest)
          ∙ (ap (λ (ns : List ℕ). c.loop-fragment.starts.items ++ ns) (sym parts) ∙ c.loop-fragment.invariant.starts));
    }
