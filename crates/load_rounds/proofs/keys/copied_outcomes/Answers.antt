use Rattle.std.proofs.Common.{ap, ◌∙◌, sym, take, map, IsSome, Some}
use Rattle.std.specs.Prelude.{option_map, option_copied}
use Rattle.std.proofs.lemmas.List.{take_more, map-append}
use Rattle.std.proofs.lemmas.List.Elements.{All-get_or}
use Rattle.load_memory.specs.Keys.{KeyOf, folded, key_of, mode_at}
use Rattle.load_memory.specs.Outcomes.{outcome_of}
use Rattle.load_memory.specs.Pairs.{look}
use Rattle.load_memory.specs.declared.key.Key.{Key}
use Rattle.load_memory.proofs.ReplyPairs.{All-of_map}
use Rattle.execution.specs.Loads.{read}
use Rattle.load_rounds.specs.Calls.{load_of}
use Rattle.load_rounds.proofs.Lacking.{not-unknown, copied-more}
use Rattle.load_rounds.proofs.keys.copied_outcomes.Goals as goal

pub unreachable-requires : goal.unreachable-requires
unreachable-requires c =
    let R = read c.args.memory.now.modes (look c.args.memory.now.pairs) in
    let all = All-of_map key_of (λ (k : KeyOf). IsSome (R (load_of c.args.loader k))) c.args.keys.now c.requires.known in
    let one = All-get_or (λ (k : Key). IsSome (R (load_of c.args.loader (key_of k)))) c.args.keys.now c.loop-key.key-index c.key-item.result c.loop-key-test.true all in
    let found = c.in_ok-outcome.ensures ∙ ap (λ k. look c.args.memory.now.pairs c.args.loader (folded (mode_at c.args.memory.now.modes c.args.loader) k)) c.as_key_ref.ensures in
    not-unknown c.in_ok-outcome.field-0 (R (load_of c.args.loader (key_of c.key-item.result))) found c.in_default.not-Some (rw c.key-item.is one)

pub loop-key-preserved : goal.loop-key-preserved
loop-key-preserved c =
    let R = read c.args.memory.now.modes (look c.args.memory.now.pairs) in
    let i = c.loop-key.key-index in
    let key = c.key-item.result in
    let next = take_more c.args.keys.now i key c.loop-key-test.true in
    let found = c.in_ok-outcome.ensures ∙ ap (λ k. look c.args.memory.now.pairs c.args.loader (folded (mode_at c.args.memory.now.modes c.args.loader) k)) c.as_key_ref.ensures in
    let known = sym found ∙ ap (λ o. option_map outcome_of (option_copied o)) c.in-Some.is ∙ ap Some (sym c.in_ok-clone.ensures.cases) in
    rw (next, ← c.key-item.is, map-append key_of) (copied-more (λ k. R (load_of c.args.loader k)) (map key_of (take i c.args.keys.now)) (key_of key) c.loop-key.outcomes.items c.push.new.self.items c.in_ok-clone.field-0 c.in_ok-push.ensures.items known c.loop-key.invariant)
