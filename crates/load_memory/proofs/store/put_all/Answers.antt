use Rattle.std.proofs.Common.{◌≡◌, ◌<◌, ℕ, List, [], ◌∷◌, ◌++◌, length, reverse, ap, sym, ◌∙◌, arith}
use Rattle.std.proofs.lemmas.List.{length-set, length-reverse, reverse-append}
use Rattle.std.proofs.lemmas.List.Elements.{All-head, All-tail}
use Rattle.std.specs.Prelude.{All}
use Rattle.load_memory.specs.LoaderMemories.{PartOf, HaveRoom}
use Rattle.load_memory.specs.declared.loader_memory.StagedPair.{StagedPair}
use Rattle.load_memory.proofs.LoaderMemoryLaws.{HaveOwnKeys-at, HaveOwnKeys-set}
use Rattle.load_memory.proofs.StoreLaws.{room-first, room-rest, stored-step, counted-step}
use Rattle.load_memory.proofs.store.put_all.Goals as goal

first-below : (n : ℕ) (all rest : _) (s : StagedPair) → all ≡ s ∷ rest → All (λ (s : StagedPair). s.loader < n) all → s.loader < n
first-below n all rest s is below = All-head (λ (s : StagedPair). s.loader < n) s rest (rw is at below)

-- the last of the list is the next pair
popped : (old mid new : List StagedPair) (s : StagedPair) → old ≡ mid ++ s ∷ [] → new ≡ mid → reverse old ≡ s ∷ reverse new
popped old mid new s e same = ap reverse e ∙ reverse-append mid (s ∷ []) ∙ ap (λ xs. s ∷ reverse xs) (sym same)

pub index_mut-requires : goal.index_mut-requires
index_mut-requires c =
    let parts = c.loop-pair.parts.items in
    let is = popped c.loop-pair.rest.items c.pop.new.self.items c.give_back.new.rest.items c.in-Some.pair c.in-Some.ensures.items c.give_back.ensures in
    let below = first-below (length parts) (reverse c.loop-pair.rest.items) (reverse c.give_back.new.rest.items) c.in-Some.pair is c.loop-pair.invariant.loaders in
    omega (arith, below, c.loop-pair.parts.ok.0)

pub put-requires-clause-room : goal.put-requires-clause-room
put-requires-clause-room c =
    let was = c.loop-pair.invariant in
    let parts = c.loop-pair.parts.items in
    let is = popped c.loop-pair.rest.items c.pop.new.self.items c.give_back.new.rest.items c.in-Some.pair c.in-Some.ensures.items c.give_back.ensures in
    let lt = first-below (length parts) (reverse c.loop-pair.rest.items) (reverse c.give_back.new.rest.items) c.in-Some.pair is was.loaders in
    let room : HaveRoom parts (c.in-Some.pair ∷ (reverse c.give_back.new.rest.items)) = rw is at was.room in
    room-first parts c.in-Some.pair (reverse c.give_back.new.rest.items) c.index_mut.result.now c.index_mut.result.now lt c.index_mut.ensures.value room

pub put-requires-clause-own_keys : goal.put-requires-clause-own_keys
put-requires-clause-own_keys c =
    let was = c.loop-pair.invariant in
    let parts = c.loop-pair.parts.items in
    let lt = first-below (length parts) (reverse c.loop-pair.rest.items) (reverse c.give_back.new.rest.items) c.in-Some.pair (popped c.loop-pair.rest.items c.pop.new.self.items c.give_back.new.rest.items c.in-Some.pair c.in-Some.ensures.items c.give_back.ensures) was.loaders in
    rw c.index_mut.ensures.value (HaveOwnKeys-at parts c.in-Some.pair.loader c.index_mut.result.now was.own_keys lt)

pub loop-pair-preserved-then-put : goal.loop-pair-preserved-then-put
loop-pair-preserved-then-put c =
    let was = c.loop-pair.invariant in
    let parts = c.loop-pair.parts.items in
    let s = c.in-Some.pair in
    let rest = reverse c.give_back.new.rest.items in
    let x : PartOf = c.put.new.part in
    let d : PartOf = c.index_mut.result.now in
    let is = popped c.loop-pair.rest.items c.pop.new.self.items c.give_back.new.rest.items c.in-Some.pair c.in-Some.ensures.items c.give_back.ensures in
    let lt = first-below (length parts) (reverse c.loop-pair.rest.items) rest s is was.loaders in
    let room : HaveRoom parts (s ∷ rest) = rw is at was.room in
    let below = All-tail (λ (s : StagedPair). s.loader < length parts) s rest (rw is at was.loaders) in
    let size = length-set parts s.loader x in
    let found = c.if-put.true in
    let more = counted-step parts s rest x d lt c.index_mut.ensures.value 1 (rw found at c.put.ensures.put.count) in
    record {
      lined_up = size ∙ was.lined_up;
      own_keys = HaveOwnKeys-set parts s.loader x was.own_keys c.put.ensures.own_keys;
      room = room-rest parts s rest x d lt c.index_mut.ensures.value room c.put.ensures.room;
      loaders = rw size below;
      pairs = λ l q. stored-step parts s rest x d lt c.index_mut.ensures.value c.put.ensures.put.pairs l q ∙ rw is at was.pairs l q;
      count = omega (arith, more, was.count);
      most = omega (arith, was.most, ap length is, length-reverse c.loop-pair.rest.items, length-reverse c.give_back.new.rest.items);
    }

pub loop-pair-preserved : goal.loop-pair-preserved
loop-pair-preserved c =
    let was = c.loop-pair.invariant in
    let parts = c.loop-pair.parts.items in
    let s = c.in-Some.pair in
    let rest = reverse c.give_back.new.rest.items in
    let x : PartOf = c.put.new.part in
    let d : PartOf = c.index_mut.result.now in
    let is = popped c.loop-pair.rest.items c.pop.new.self.items c.give_back.new.rest.items c.in-Some.pair c.in-Some.ensures.items c.give_back.ensures in
    let lt = first-below (length parts) (reverse c.loop-pair.rest.items) rest s is was.loaders in
    let room : HaveRoom parts (s ∷ rest) = rw is at was.room in
    let below = All-tail (λ (s : StagedPair). s.loader < length parts) s rest (rw is at was.loaders) in
    let size = length-set parts s.loader x in
    let found = c.if-put.false in
    let more = counted-step parts s rest x d lt c.index_mut.ensures.value 0 (rw found at c.put.ensures.put.count) in
    record {
      lined_up = size ∙ was.lined_up;
      own_keys = HaveOwnKeys-set parts s.loader x was.own_keys c.put.ensures.own_keys;
      room = room-rest parts s rest x d lt c.index_mut.ensures.value room c.put.ensures.room;
      loaders = rw size below;
      pairs = λ l q. stored-step parts s rest x d lt c.index_mut.ensures.value c.put.ensures.put.pairs l q ∙ rw is at was.pairs l q;
      count = omega (arith, more, was.count);
      most = omega (arith, was.most, ap length is, length-reverse c.loop-pair.rest.items, length-reverse c.give_back.new.rest.items);
    }
