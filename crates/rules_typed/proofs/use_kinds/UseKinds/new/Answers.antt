use Rattle.std.proofs.Common.{◌≡◌, ◌∙◌, ap, sym, length, map, arith}
use Rattle.std.proofs.lemmas.List.{length-map}
use Rattle.rules_parts.specs.Parts.{VariableUse, use_of}
use Rattle.rules_typed.specs.UseKinds.{is_listed, use_at, same_location}
use Rattle.rules_typed.proofs.KindLaws.{listed_more, kinds_hit, kinds_miss, kinds_all, use_at-seen}
use Rattle.rules_typed.proofs.use_kinds.UseKinds.new.Goals as goal
use Rattle.rules_typed.proofs.use_kinds.UseKinds.new.Goals.{in-Some+in_ok-push-in-Some, in-None+in_ok-note-in-None+in_ok-push-in-None}

pub loop-place-preserved : goal.loop-place-preserved
loop-place-preserved c =
    let uses = map use_of c.args.uses.now in
    let known = c.loop-place.known in
    let so_far = c.loop-place.stand_ins.items in
    let k = c.loop-place.place in
    let item = c.index-uses-place.result in
    let here : use_at uses k ≡ use_of item = use_at-seen c.args.uses.now k item c.loop-place-test.true c.index-uses-place.is in
    elim c.match-stand_in.branch [
      | in-Some+in_ok-push-in-Some w ↦
          let r = w.in-Some.other in
          rw (w.known-is, w.stand_ins-is, w.in_ok-push-in-Some.ensures.items) (kinds_hit known uses so_far k r c.loop-place.invariant
          (ap (λ (u : VariableUse). is_listed known u.name r) here ∙ (sym (c.noted_places.ensures r) ∙ w.in-Some.ensures.0))
          (ap (λ (u : VariableUse). same_location (use_at uses r).location u.location) here ∙ w.in-Some.ensures.1))
      | in-None+in_ok-note-in-None+in_ok-push-in-None w ↦
          rw (w.known-is, w.stand_ins-is, w.in_ok-push-in-None.ensures.items) (kinds_miss known w.note.new.known uses so_far k item.name.now (sym (ap (λ (u : VariableUse). u.name) here)) c.loop-place.invariant
          (listed_more known w.note.new.known item.name.now k w.in_ok-note-in-None.ensures))
    ]

pub returns : goal.returns
returns c =
    let all : c.loop-place.place ≡ length (map use_of c.args.uses.now) = omega (arith, length-map c.args.uses.now use_of) in
    kinds_all c.loop-place.known (map use_of c.args.uses.now) c.loop-place.stand_ins.items (rw all at c.loop-place.invariant)
