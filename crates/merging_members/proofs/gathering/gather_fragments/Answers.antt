use Rattle.std.proofs.Common.{◌≡◌, ◌∙◌, sym, ap, subst, refl, ◌+◌, ◌++◌, [], ◌∷◌, List, length, map, drop, drop_of_length-le, arith}
use Rattle.std.proofs.lemmas.List.{map-append}
use Rattle.gq_parser.specs.Tree.{Below, Fragment, fragment_of}
use Rattle.gq_parser.specs.declared.tree.Fragment as rust
use Rattle.merging_members.specs.Members.{count_in, count_fragments}
use Rattle.merging_members.specs.Written.{written_in, written_fragments, own_below, belows}
use Rattle.merging_members.proofs.Adding.{Adding, adding-none, adding-more, adding-all, belows-length, in-count}
use Rattle.merging_members.proofs.Entering.{drop-next}
use Rattle.merging_members.proofs.gathering.gather_fragments.Goals as goal

pub loop-fragment-init : goal.loop-fragment-init
loop-fragment-init c = record {
  counted = refl;
  added = λ spread knows. adding-none c.args.walk.now.numbers.now (belows (written_fragments (map fragment_of c.args.fragments.now))) spread c.args.first c.args.rows.now.items;
}

pub gather_set-requires : goal.gather_set-requires
gather_set-requires c =
    let i = c.loop-fragment.fragment-index in
    let xs = c.args.fragments.now in
    let x = c.fragment-item.result in
    let left : map fragment_of (drop i xs) ≡ fragment_of x ∷ map fragment_of (drop (i + 1) xs) = ap (map fragment_of) (drop-next xs xs i x refl c.loop-fragment-test.true c.fragment-item.is) in
    let counts : count_fragments (map fragment_of (drop i xs)) ≡ count_in (fragment_of x).selection_set + count_fragments (map fragment_of (drop (i + 1) xs)) = ap count_fragments left in
    record { inside = omega (arith, counts, c.loop-fragment.invariant.counted, c.requires.inside) }

pub loop-fragment-preserved : goal.loop-fragment-preserved
loop-fragment-preserved c =
    let numbers = c.args.walk.now.numbers.now in
    let i = c.loop-fragment.fragment-index in
    let xs = c.args.fragments.now in
    let x = c.fragment-item.result in
    let n = c.loop-fragment.next in
    let rest = map fragment_of (drop (i + 1) xs) in
    let left : map fragment_of (drop i xs) ≡ fragment_of x ∷ rest = ap (map fragment_of) (drop-next xs xs i x refl c.loop-fragment-test.true c.fragment-item.is) in
    let set = (fragment_of x).selection_set in
    let here : List Below = belows (written_in set) in
    let parts : belows (written_fragments (map fragment_of (drop i xs))) ≡ here ++ belows (written_fragments rest) =
    ap (λ (os : List Fragment). belows (written_fragments os)) left ∙ map-append own_below (written_in set) (written_fragments rest) in
    let next = c.in_ok-next.ensures.next in
    let many : c.in_ok-next.field-0.next ≡ n + length here = next ∙ ap (λ k. n + k) (sym (belows-length (written_in set) ∙ in-count set)) in
    let counts : count_fragments (map fragment_of (drop i xs)) ≡ count_in set + count_fragments rest = ap count_fragments left in
    record {
      counted = omega (arith, counts, next, c.loop-fragment.invariant.counted);
      added = λ spread knows.
          let all = belows (written_fragments (map fragment_of xs)) in
          let old = c.args.rows.now.items in
          let a : Adding numbers all spread c.args.first n (here ++ belows (written_fragments rest)) old c.loop-fragment.rows.items =
          subst (λ (bs : List Below). Adding numbers all spread c.args.first n bs old c.loop-fragment.rows.items) parts (c.loop-fragment.invariant.added spread knows) in
          adding-more numbers all spread c.args.first n c.in_ok-next.field-0.next here (belows (written_fragments rest)) old c.loop-fragment.rows.items c.gather_set.new.rows.items a many (c.in_ok-next.ensures.rows spread knows);
    }

pub returns : goal.returns
returns c = λ spread knows.
    let numbers = c.args.walk.now.numbers.now in
    let xs = c.args.fragments.now in
    let all = belows (written_fragments (map fragment_of xs)) in
    let n = c.loop-fragment.next in
    let old = c.args.rows.now.items in
    let new = c.loop-fragment.rows.items in
    let a : Adding numbers all spread c.args.first n [] old new =
    subst (λ (os : List rust.Fragment). Adding numbers all spread c.args.first n (belows (written_fragments (map fragment_of os))) old new) (drop_of_length-le xs c.loop-fragment-test.false) (c.loop-fragment.invariant.added spread knows) in
    adding-all numbers all spread c.args.first n old new a
