use Rattle.std.proofs.Common.{◌<◌, ◌≤◌, ◌+◌, length, ◌∙◌, arith}
use Rattle.std.proofs.lemmas.List.{length-set}
use Rattle.load_memory.proofs.LoaderMemoryLaws.{empty-one_more, empty-pairs, empty-own_keys}
use Rattle.load_memory.proofs.store.clear_loaders.Goals as goal

pub loop-index-preserved : goal.loop-index-preserved
loop-index-preserved c =
    let was = c.loop-index.invariant in
    let i = c.loop-index.index in
    let parts = c.loop-index.parts.items in
    let x = c.clear.new.self in
    let lt : i < length parts = omega (arith, was.lined_up, c.loop-index-test.true, c.loop-index.auto.index-end, c.len-index-end.ensures) in
    record {
      lined_up = length-set parts i x ∙ was.lined_up;
      empty = empty-one_more parts i (i + 1) x (omega arith) lt c.clear.ensures.empty c.clear.ensures.unique was.empty;
    }

pub returns-clause-own_keys : goal.returns-clause-own_keys
returns-clause-own_keys c =
    let was = c.loop-index.invariant in
    let all : length c.loop-index.parts.items ≤ c.loop-index.index = omega (arith, was.lined_up, c.loop-index-test.false, c.loop-index.auto.index-end, c.len-index-end.ensures, c.args.parts.now.ok.0) in
    empty-own_keys c.loop-index.parts.items c.loop-index.index all was.empty

pub returns-clause-pairs : goal.returns-clause-pairs
returns-clause-pairs c =
    let was = c.loop-index.invariant in
    let all : length c.loop-index.parts.items ≤ c.loop-index.index = omega (arith, was.lined_up, c.loop-index-test.false, c.loop-index.auto.index-end, c.len-index-end.ensures, c.args.parts.now.ok.0) in
    empty-pairs 0 c.loop-index.parts.items c.loop-index.index all was.empty
