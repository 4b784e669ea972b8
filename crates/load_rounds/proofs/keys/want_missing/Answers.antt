use Rattle.std.proofs.Common.{◌∙◌, ap, length, map, take, arith, sym}
use Rattle.std.specs.Prelude.{not}
use Rattle.std.proofs.lemmas.List.{take_all, take_more, map-append, length-map}
use Rattle.load_memory.specs.Keys.{folded, key_of, mode_at}
use Rattle.load_memory.specs.Pairs.{MemoryOf, look}
use Rattle.load_queue.specs.Wanted.{with_wanted}
use Rattle.execution.specs.Front.{missing}
use Rattle.execution.specs.Loads.{read}
use Rattle.load_rounds.specs.Calls.{load_of}
use Rattle.load_rounds.proofs.Lacking.{length-wanting, lacks-more, knows-more, unknown}
use Rattle.load_rounds.proofs.Reading.{reading-ready, reading-waits}
use Rattle.load_rounds.proofs.keys.want_missing.Goals as goal
use Rattle.load_rounds.proofs.keys.want_missing.Goals.{then-is_none+in_ok-clone+in_ok-add, else-is_none}

pub add-requires : goal.add-requires
add-requires c =
    let R = read c.args.memory.now.modes (look c.args.memory.now.pairs) in
    let size = ap length c.loop-key.invariant.0 ∙ length-wanting c.args.wants.now (missing R (map (load_of c.args.loader) (map key_of (take c.loop-key.key-index c.args.keys.now)))) in
    let can = c.requires in
    let lined = sym (length-map c.args.wants.now (λ w. w.mode)) ∙ ap length can.lined_up in
    omega (arith, size, can.enough, lined)

pub loop-key-preserved : goal.loop-key-preserved
loop-key-preserved c =
    let R = read c.args.memory.now.modes (look c.args.memory.now.pairs) in
    let i = c.loop-key.key-index in
    let key = c.key-item.result in
    let keys = map key_of (take i c.args.keys.now) in
    let found = c.in_ok-look_up.ensures ∙ ap (λ k. look c.args.memory.now.pairs c.args.loader (folded (mode_at c.args.memory.now.modes c.args.loader) k)) c.as_key_ref.ensures in
    let same = unknown c.in_ok-look_up.field-0 (R (load_of c.args.loader (key_of key))) found in
    let next = take_more c.args.keys.now i key c.loop-key-test.true in
    elim c.if-is_none.branch [
      | then-is_none+in_ok-clone+in_ok-add w ↦
          let put = w.in_ok-add.ensures.after ∙ ap (λ q. with_wanted c.loop-key.wants c.args.loader q) w.in_ok-clone.ensures.cases in
          rw (w.wants-is, w.is_missing-is, next, ← c.key-item.is, map-append key_of) (lacks-more R c.args.loader c.args.wants.now keys (key_of key) c.loop-key.wants w.add.new.self c.loop-key.is_missing c.loop-key.invariant (same ∙ ap not (c.is_none.ensures ∙ ap not w.if-is_none.true)) put)
      | else-is_none w ↦
          rw (w.wants-is, w.is_missing-is, next, ← c.key-item.is, map-append key_of) (knows-more R c.args.loader c.args.wants.now keys (key_of key) c.loop-key.wants c.loop-key.is_missing c.loop-key.invariant (same ∙ ap not (c.is_none.ensures ∙ ap not w.if-is_none.false)))
    ]

pub returns-then-is_missing : goal.returns-then-is_missing
returns-then-is_missing c =
    let m : MemoryOf = c.args.memory.now in
    let so = rw (take_all c.loop-key.key-index c.args.keys.now c.loop-key-test.false) at c.loop-key.invariant in
    reading-waits c.args.loader (map key_of c.args.keys.now) m c.args.wants.now c.loop-key.wants c.loop-key.is_missing so c.if-is_missing.true c.requires.lined_up

pub returns : goal.returns
returns c =
    let m : MemoryOf = c.args.memory.now in
    let so = rw (take_all c.loop-key.key-index c.args.keys.now c.loop-key-test.false) at c.loop-key.invariant in
    reading-ready c.args.loader (map key_of c.args.keys.now) m c.args.wants.now c.loop-key.wants c.loop-key.is_missing so c.new.result (length c.args.keys.now) c.if-is_missing.false c.new.ensures.bytes (sym (length-map c.args.keys.now key_of)) (omega arith)
