use Rattle.std.proofs.Common.{◌≡◌, ◌<◌, ◌+◌, ℕ, suc, List, Bool, true, false, take, length, ap, ◌∙◌, sym, arith, get_or, refl}
use Rattle.std.proofs.lemmas.List.{length-set, length-take-le, get_or-set_same, get_or-set_other, get_or_default}
use Rattle.std.proofs.lemmas.List.Elements.{All-get_or}
use Rattle.std.proofs.lemmas.Bool.{eqb-true, eqb-false}
use Rattle.std.specs.Prelude.{All, slice_set, slice_index, ◌==◌, if◌then◌else◌}
use Rattle.load_memory.specs.LoaderMemories.{count_at}
use Rattle.load_memory.specs.declared.loader_memory.StagedPair.{StagedPair}
use Rattle.load_memory.proofs.StoreLaws.{count-more, count-most}
use Rattle.load_memory.proofs.store.counts_of.Goals as goal

below-of : (n : ℕ) (pairs : List StagedPair) (i : ℕ) (s : StagedPair) → i < length pairs → s ≡ get_or pairs i s → All (λ (s : StagedPair). s.loader < n) pairs → s.loader < n
below-of n pairs i s lt at below = rw at (All-get_or (λ (s : StagedPair). s.loader < n) pairs i s lt below)

pub overflow_add-index_mut : goal.overflow_add-index_mut
overflow_add-index_mut c =
    let was = c.loop-pair.invariant in
    let i = c.loop-pair.pair-index in
    let s = c.pair-item.result in
    let below = below-of c.args.loaders c.args.pairs.now i s c.loop-pair-test.true c.pair-item.is c.requires in
    let here = was.counts s.loader below in
    let read = get_or_default c.loop-pair.counts.items s.loader c.index_mut.result.now 0 (omega (arith, below, was.lined_up)) in
    let most = count-most s.loader (take i c.args.pairs.now) in
    let size = length-take-le i c.args.pairs.now (omega arith) in
    omega (arith, here, most, size, read, c.index_mut.ensures.value, c.loop-pair-test.true)

counts-next : (counts : List ℕ) (pairs : List StagedPair) (i n x : ℕ) (s : StagedPair) → i < length pairs → s ≡ get_or pairs i s → s.loader < length counts → x ≡ get_or counts s.loader x → length counts ≡ n
    → ((l : ℕ) → l < n → slice_index counts l ≡ count_at l (take i pairs)) → (l : ℕ) → l < n → slice_index (slice_set counts s.loader (x + 1)) l ≡ count_at l (take (i + 1) pairs)
counts-next counts pairs i n x s lt at below read size was l in_range = go (s.loader == l) refl (count-more l pairs i (i + 1) s lt at (omega arith)) where
  go : (b : Bool) → (s.loader == l) ≡ b → count_at l (take (i + 1) pairs) ≡ (if b then suc (count_at l (take i pairs)) else count_at l (take i pairs)) → slice_index (slice_set counts s.loader (x + 1)) l ≡ count_at l (take (i + 1) pairs)
  go true e more =
      let same : s.loader ≡ l = eqb-true s.loader l e in
      let put : get_or (slice_set counts s.loader (x + 1)) s.loader 0 ≡ x + 1 = get_or-set_same counts s.loader (x + 1) 0 below in
      let here : get_or (slice_set counts s.loader (x + 1)) l 0 ≡ x + 1 = rw (← same) put in
      let had : x ≡ get_or counts l 0 = read ∙ get_or_default counts s.loader x 0 below ∙ ap (λ k. get_or counts k 0) same in
      omega (arith, here, had, was l in_range, more)
  go false e more = get_or-set_other counts s.loader l (x + 1) 0 (λ g. eqb-false s.loader l e (sym g)) ∙ was l in_range ∙ sym more

pub loop-pair-preserved : goal.loop-pair-preserved
loop-pair-preserved c =
    let was = c.loop-pair.invariant in
    let i = c.loop-pair.pair-index in
    let s = c.pair-item.result in
    let below = below-of c.args.loaders c.args.pairs.now i s c.loop-pair-test.true c.pair-item.is c.requires in
    record {
      lined_up = length-set c.loop-pair.counts.items s.loader (c.index_mut.result.now + 1) ∙ was.lined_up;
      counts = counts-next c.loop-pair.counts.items c.args.pairs.now i c.args.loaders c.index_mut.result.now s c.loop-pair-test.true c.pair-item.is (omega (arith, below, was.lined_up)) c.index_mut.ensures.value was.lined_up was.counts;
    }
