use Rattle.std.proofs.Common.{◌<◌, ◌+◌, ℕ, length, ap, ◌∙◌, arith}
use Rattle.std.proofs.lemmas.List.{length-set}
use Rattle.std.proofs.lemmas.Bool.{cases_eq}
use Rattle.std.specs.Prelude.{slice_set, slice_index, ◌≤◌}
use Rattle.std.proofs.Common.{inl, inr}
use Rattle.load_memory.specs.LoaderMemories.{PartOf, look_in, room_at}
use Rattle.load_memory.proofs.LoaderMemoryLaws.{HaveOwnKeys-set}
use Rattle.load_memory.proofs.StoreLaws.{look-held, counted-held, room-same, room-other}
use Rattle.load_memory.proofs.store.make_room.Goals as goal

pub returns-in_err-reserve-clause-own_keys : goal.returns-in_err-reserve-clause-own_keys
returns-in_err-reserve-clause-own_keys c = HaveOwnKeys-set c.loop-loader.parts.items c.loop-loader.loader c.reserve.new.self c.loop-loader.invariant.own_keys c.reserve.ensures.unique

pub returns-in_err-reserve-clause-same : goal.returns-in_err-reserve-clause-same
returns-in_err-reserve-clause-same c =
    let parts = c.loop-loader.parts.items in
    let lt : c.loop-loader.loader < length parts = omega (arith, c.loop-loader.invariant.lined_up, c.loop-loader-test.true, c.loop-loader.auto.loader-end, c.len-loader-end.ensures) in
    let d : PartOf = c.index_mut.result.now in
    record {
      pairs = λ l q. look-held parts c.loop-loader.loader c.reserve.new.self d lt c.index_mut.ensures.value (λ q. ap (λ es. look_in es q) c.reserve.ensures.entries) l q ∙ c.loop-loader.invariant.pairs l q;
      count = counted-held parts c.loop-loader.loader c.reserve.new.self d lt c.index_mut.ensures.value (ap length c.reserve.ensures.entries) ∙ c.loop-loader.invariant.count;
    }

room-next : (ps : _) (counts : _) (i : ℕ) (x : PartOf) → i < length ps → ((k : ℕ) → k < i → slice_index counts k ≤ room_at ps k) → slice_index counts i ≤ room_at (slice_set ps i x) i → (k : ℕ) → k < i + 1 → slice_index counts k ≤ room_at (slice_set ps i x) k
room-next ps counts i x lt below here k le = elim (cases_eq k i) [
  | inl e ↦ rw e here
  | inr ne ↦ rw (room-other ps i k x ne) (below k (omega arith))
]

pub loop-loader-preserved : goal.loop-loader-preserved
loop-loader-preserved c =
    let was = c.loop-loader.invariant in
    let i = c.loop-loader.loader in
    let parts = c.loop-loader.parts.items in
    let x : PartOf = c.reserve.new.self in
    let d : PartOf = c.index_mut.result.now in
    let lt : i < length parts = omega (arith, was.lined_up, c.loop-loader-test.true, c.loop-loader.auto.loader-end, c.len-loader-end.ensures) in
    let room : slice_index c.args.counts.now i ≤ room_at (slice_set parts i x) i = rw (room-same parts i x lt) c.in_ok-reserve.ensures.ok in
    record {
      lined_up = length-set parts i x ∙ was.lined_up;
      own_keys = HaveOwnKeys-set parts i x was.own_keys c.reserve.ensures.unique;
      pairs = λ l q. look-held parts i x d lt c.index_mut.ensures.value (λ q. ap (λ es. look_in es q) c.reserve.ensures.entries) l q ∙ was.pairs l q;
      count = counted-held parts i x d lt c.index_mut.ensures.value (ap length c.reserve.ensures.entries) ∙ was.count;
      room = room-next parts c.args.counts.now i x lt was.room room;
    }
