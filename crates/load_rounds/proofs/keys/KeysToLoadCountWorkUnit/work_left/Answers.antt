use Rattle.std.proofs.Common.{◌≡◌, length, ap, sym, ◌∙◌, arith}
use Rattle.std.proofs.lemmas.List.{length-map}
use Rattle.load_memory.specs.Keys.{key_of}
use Rattle.load_memory.specs.Pairs.{look}
use Rattle.execution.specs.Loads.{read}
use Rattle.load_rounds.specs.Reading.{KeysOf}
use Rattle.load_rounds.proofs.Reading.{reading-work}
use Rattle.load_rounds.proofs.keys.KeysToLoadCountWorkUnit.work_left.Goals as goal

pub returns-then-keys-most : goal.returns-then-keys-most
returns-then-keys-most c =
    let k = c.args.self.now in
    let m = c.args._memory.now in
    let many : length k.keys ≡ length c.as_slice-keys.result.now = sym (ap (λ (x : KeysOf). length x.keys) c.self.view_is) ∙ length-map c.self.inside.keys key_of ∙ sym (ap length c.as_slice-keys.ensures) in
    omega (arith, many, reading-work k.loader k.keys (read m.modes (look m.pairs)))

pub returns : goal.returns
returns c =
    let k = c.args.self.now in
    let m = c.args._memory.now in
    let many : length k.keys ≡ length c.as_slice-keys.result.now = sym (ap (λ (x : KeysOf). length x.keys) c.self.view_is) ∙ length-map c.self.inside.keys key_of ∙ sym (ap length c.as_slice-keys.ensures) in
    omega (arith, many, reading-work k.loader k.keys (read m.modes (look m.pairs)))
