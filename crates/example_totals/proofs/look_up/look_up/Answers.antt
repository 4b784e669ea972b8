use Rattle.std.proofs.Common.{◌≡◌, ap, ◌∙◌, refl}
use Rattle.std.specs.Prelude.{not}
use Rattle.load_memory.specs.Keys.{text, key_of, cache_of}
use Rattle.load_memory.specs.Pairs.{look}
use Rattle.load_queue.specs.Wanted.{with_wanted}
use Rattle.load_rounds.specs.Calls.{reader_of}
use Rattle.load_rounds.proofs.States.{cached}
use Rattle.example_totals.specs.Totals.{load_of}
use Rattle.example_totals.proofs.Looking.{adds-missing, adds-nothing}
use Rattle.example_totals.proofs.look_up.look_up.Goals as goal
use Rattle.example_totals.proofs.look_up.look_up.Goals.{then-is_none+in_ok-add, else-is_none}

-- the finding is what the memory says of the load
found-is : goal.returns-clause-found
found-is c =
    let modes = c.args.memory.now.modes in
    let id : key_of c.in_ok-key.key ≡ text c.args.id.now = c.in_ok-key.ensures in
    let key = cached modes modes c.args.loader c.mode.result (cache_of c.in_ok-cached.cached) (key_of c.in_ok-key.key) refl c.mode.ensures c.in_ok-cached.ensures in
    c.get-found.ensures ∙ ap (λ k. look c.args.memory.now.pairs c.args.loader k) key ∙ ap (λ k. reader_of c.args.memory.now (record { loader = c.args.loader; key = k })) id

pub returns-clause-found : goal.returns-clause-found
returns-clause-found c = found-is c

pub returns-clause-wants : goal.returns-clause-wants
returns-clause-wants c =
    let R = reader_of c.args.memory.now in
    let load = load_of c.args.loader c.args.id.now in
    let id : key_of c.in_ok-key.key ≡ text c.args.id.now = c.in_ok-key.ensures in
    elim c.if-is_none.branch [
      | then-is_none+in_ok-add w ↦
          let put = w.in_ok-add.ensures.after ∙ ap (λ k. with_wanted c.args.wants.now c.args.loader k) id in
          rw w.wants-is (adds-missing R load c.get-found.result (found-is c) c.args.wants.now (c.is_none.ensures ∙ ap not w.if-is_none.true) w.add.new.self put)
      | else-is_none w ↦ rw w.wants-is (adds-nothing R load c.get-found.result (found-is c) c.args.wants.now (c.is_none.ensures ∙ ap not w.if-is_none.false))
    ]
