use Rattle.std.proofs.Common.{◌≡◌, ◌<◌, ◌≤◌, ◌+◌, ℕ, List, [], ◌∷◌, length, get_or, ap, ◌∙◌, arith, Option, Some, None, refl, Result, Ok, Err}
use Rattle.std.specs.Prelude.{OnErr, slice_set}
use Rattle.std.specs.Option.{option_or}
use Rattle.load_memory.specs.Keys.{cache_of}
use Rattle.load_memory.specs.Outcomes.{OutcomeOf, outcome_of}
use Rattle.load_memory.specs.LoaderMemories.{PartOf, HasPutIfAbsent, StorePairs, look_in}
use Rattle.load_memory.specs.declared.loader_memory.StagedPair.{StagedPair}
use Rattle.load_memory.proofs.LoaderMemoryLaws.{HaveOwnKeys-set}
use Rattle.load_memory.proofs.StoreLaws.{look-held, counted-held, stored-step, counted-step}
use Rattle.load_memory.proofs.store.put_one.Goals as goal

on-err : {T E P : Type 0} (r : Result T E) → P → OnErr r P
on-err (Ok x) h = tt
on-err (Err e) h = h

or-none : (x : Option OutcomeOf) → x ≡ option_or x None
or-none None = refl
or-none (Some x) = refl

-- the part was given room, and then the pair was put if its key was absent
stored-one : (ps : List PartOf) (s : StagedPair) (d m x : PartOf) (added : ℕ) → s.loader < length ps → d ≡ get_or ps s.loader d → m.entries ≡ d.entries
    → HasPutIfAbsent (cache_of s.key) (outcome_of s.outcome) m.entries x.entries → length x.entries ≡ length m.entries + added → added ≤ 1
    → StorePairs (s ∷ []) added ps (slice_set ps s.loader x)
stored-one ps s d m x added lt at same put count most = record {
  stored = λ l q. or-none _ ∙ stored-step ps s [] x d lt at (rw same at put) l q;
  count = counted-step ps s [] x d lt at added (rw same at count);
  most = most;
}

pub returns-in_err-reserve-clause-own_keys : goal.returns-in_err-reserve-clause-own_keys
returns-in_err-reserve-clause-own_keys c = HaveOwnKeys-set c.args.parts.now.items c.args.pair.loader c.reserve.new.self c.requires.own_keys c.reserve.ensures.unique

pub returns-in_err-reserve-clause-kept : goal.returns-in_err-reserve-clause-kept
returns-in_err-reserve-clause-kept c =
    let parts = c.args.parts.now.items in
    let d : PartOf = c.index_mut-part.result.now in
    on-err c.from_residual.result (record {
      pairs = λ l q. look-held parts c.args.pair.loader c.reserve.new.self d c.requires.loader c.index_mut-part.ensures.value (λ q. ap (λ es. look_in es q) c.reserve.ensures.entries) l q;
      count = counted-held parts c.args.pair.loader c.reserve.new.self d c.requires.loader c.index_mut-part.ensures.value (ap length c.reserve.ensures.entries);
    })

pub returns-then-put-clause-own_keys : goal.returns-then-put-clause-own_keys
returns-then-put-clause-own_keys c = HaveOwnKeys-set c.args.parts.now.items c.args.pair.loader c.put.new.part c.requires.own_keys c.put.ensures.own_keys

pub returns-then-put-clause-stored : goal.returns-then-put-clause-stored
returns-then-put-clause-stored c =
    let found = c.if-put.true in
    stored-one c.args.parts.now.items c.args.pair c.index_mut-part.result.now c.reserve.new.self c.put.new.part 1 c.requires.loader c.index_mut-part.ensures.value c.reserve.ensures.entries c.put.ensures.put.pairs (rw found at c.put.ensures.put.count) (omega arith)

pub returns-else-put-clause-own_keys : goal.returns-else-put-clause-own_keys
returns-else-put-clause-own_keys c = HaveOwnKeys-set c.args.parts.now.items c.args.pair.loader c.put.new.part c.requires.own_keys c.put.ensures.own_keys

pub returns-else-put-clause-stored : goal.returns-else-put-clause-stored
returns-else-put-clause-stored c =
    let found = c.if-put.false in
    stored-one c.args.parts.now.items c.args.pair c.index_mut-part.result.now c.reserve.new.self c.put.new.part 0 c.requires.loader c.index_mut-part.ensures.value c.reserve.ensures.entries c.put.ensures.put.pairs (rw found at c.put.ensures.put.count) (omega arith)
