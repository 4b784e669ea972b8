use Rattle.std.proofs.Common.{◌≡◌, ◌<◌, ◌≤◌, ℕ, length, ap, arith, inl, inr}
use Rattle.std.specs.Prelude.{slice_index, All}
use Rattle.std.proofs.lemmas.Bool.{cases_lt}
use Rattle.load_memory.specs.Pairs.{MemoryOf}
use Rattle.load_memory.specs.LoaderMemories.{count_at, room_at, HaveRoom}
use Rattle.load_memory.specs.declared.loader_memory.StagedPair.{StagedPair}
use Rattle.load_memory.proofs.StoreLaws.{count-past}
use Rattle.load_memory.proofs.memory.Memory.store.Goals as goal

room-for : (parts : _) (pairs : _) (counts : _) (n : ℕ) → ((l : ℕ) → l < n → slice_index counts l ≡ count_at l pairs) → ((l : ℕ) → l < n → slice_index counts l ≤ room_at parts l) → All (λ (s : StagedPair). s.loader < n) pairs → HaveRoom parts pairs
room-for parts pairs counts n is room below l = elim (cases_lt l n) [
  | inl lt ↦ omega (arith, is l lt, room l lt)
  | inr past ↦ omega (arith, count-past n l pairs below past)
]

pub put_all-requires-clause-room : goal.put_all-requires-clause-room
put_all-requires-clause-room c =
    let parts = c.self.inside.parts.items in
    let n : ℕ = length parts in
    let same : c.len-2.result ≡ n = omega (arith, c.len-2.ensures, c.self.inside.parts.ok.0) in
    let counted = rw (c.deref.ensures.value, same) at c.in_ok-counts.ensures.counts in
    let room = rw c.deref-2.ensures.value at c.in_ok-make_room.ensures.room in
    room-for c.make_room.new.parts.items c.args.pairs.items c.in_ok-counts.counts.items n counted room (rw (c.self.invariant.lined_up, ap (λ (m : MemoryOf). m.modes) c.self.view_is) c.requires)
