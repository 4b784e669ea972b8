use Rattle.std.proofs.Common.{◌≤◌, ◌<◌, ◌∙◌, [], map, drop, length, get_or, ap, sym, arith}
use Rattle.std.specs.Prelude.{slice_set}
use Rattle.std.proofs.lemmas.List.{get_or-drop, length-drop, length-map, map-set}
use Rattle.load_memory.specs.Outcomes.{item_of, key_fault}
use Rattle.flat_rows.proofs.FaultLaws.{no-fault, put-all, put-next}
use Rattle.flat_rows.proofs.keyed.put_faults.Goals as goal

pub loop-i-init : goal.loop-i-init
loop-i-init c = sym (no-fault (map item_of c.args.items.items))

pub loop-i-preserved : goal.loop-i-preserved
loop-i-preserved c =
    let places = c.args.places.now in let i = c.loop-i.i in let items = map item_of c.args.items.items in let lt : i < length places = c.loop-i-test.true in
    let texts = drop c.args.at c.args.texts.now in
    let enough : length places ≤ length texts = omega (arith, c.requires.texts, length-drop c.args.at c.args.texts.now) in
    let why = c.in_ok-fault.ensures.ok ∙ c.get.ensures ∙ sym (get_or-drop c.args.at c.args.texts.now i []) in
    map-set item_of c.loop-i.items.items (get_or places i 0) _ ∙ ap (λ w. slice_set (map item_of c.loop-i.items.items) (get_or places i 0) (key_fault w)) why
    ∙ ap (λ is. slice_set is (get_or places i 0) (key_fault (get_or texts i []))) c.loop-i.invariant
    ∙ put-next places texts enough (length c.args.items.items) i items c.requires.places (length-map c.args.items.items item_of) lt

pub returns : goal.returns
returns c =
    let places = c.args.places.now in let texts = drop c.args.at c.args.texts.now in
    let enough : length places ≤ length texts = omega (arith, c.requires.texts, length-drop c.args.at c.args.texts.now) in
    c.loop-i.invariant ∙ put-all places texts enough c.loop-i.i (map item_of c.args.items.items) c.loop-i-test.false
