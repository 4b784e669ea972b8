use Rattle.std.proofs.Common.{◌≡◌, ◌∙◌, sym, ap, ◌+◌, ◌++◌, ◌∷◌, ℕ, List, drop, map, arith}
use Rattle.std.specs.Prelude.{filter}
use Rattle.gq_parser.specs.Tree.{Fragment, fragment_of}
use Rattle.merging_members.specs.Members.{count_in, count_fragments, sets_in, fragment_sets}
use Rattle.merging_members.specs.SetMembers.{is_clashing, clashing_of}
use Rattle.merging_fields.proofs.Joining.{more-sets, next-of}
use Rattle.merging_fields.proofs.clashing.add_fragments.Goals as goal

pub add_clashing-requires : goal.add_clashing-requires
add_clashing-requires c =
    let i = c.loop-fragment.fragment-index in
    let xs = c.args.fragments.now in
    let x = c.fragment-item.result in
    let rest = map fragment_of (drop (i + 1) xs) in
    let left : map fragment_of (drop i xs) ≡ fragment_of x ∷ rest = next-of fragment_of xs i x c.loop-fragment-test.true c.fragment-item.is in
    let counts : count_fragments (map fragment_of (drop i xs)) ≡ count_in (fragment_of x).selection_set + count_fragments rest = ap count_fragments left in
    record { inside = omega (arith, counts, c.loop-fragment.invariant.counted, c.requires.inside) }

pub loop-fragment-preserved : goal.loop-fragment-preserved
loop-fragment-preserved c =
    let walk = c.args.walk.now in
    let test = is_clashing walk.rows.now walk.numbers.now in
    let i = c.loop-fragment.fragment-index in
    let xs = c.args.fragments.now in
    let x = c.fragment-item.result in
    let n = c.loop-fragment.next in
    let rest = map fragment_of (drop (i + 1) xs) in
    let left : map fragment_of (drop i xs) ≡ fragment_of x ∷ rest = next-of fragment_of xs i x c.loop-fragment-test.true c.fragment-item.is in
    let counts : count_fragments (map fragment_of (drop i xs)) ≡ count_in (fragment_of x).selection_set + count_fragments rest = ap count_fragments left in
    let next = c.in_ok-next.ensures.next in
    record {
      sets = λ spread knows.
          let old = map (clashing_of spread) c.loop-fragment.clashing.items in
          let new = map (clashing_of spread) c.add_clashing.new.clashing.items in
          ap (λ (k : ℕ). new ++ filter test (fragment_sets spread k rest)) next
          ∙ (more-sets test old new (sets_in spread n (fragment_of x).selection_set) (fragment_sets spread (n + count_in (fragment_of x).selection_set) rest) (c.in_ok-next.ensures.sets spread knows)
          ∙ (ap (λ (fs : List Fragment). old ++ filter test (fragment_sets spread n fs)) (sym left) ∙ c.loop-fragment.invariant.sets spread knows));
      counted = omega (arith, counts, next, c.loop-fragment.invariant.counted);
      inside = λ all. c.in_ok-next.ensures.inside (c.loop-fragment.invariant.inside all);
    }
