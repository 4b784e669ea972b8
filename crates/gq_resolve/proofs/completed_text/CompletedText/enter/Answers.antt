use Rattle.std.proofs.Common.{List, [], ◌∷◌, ◌++◌, ap, ◌∙◌}
use Rattle.answer_json.specs.declared.field_error.PathSegment.{PathSegment}
use Rattle.execution.specs.Program.{Part}
use Rattle.gq_resolve.specs.Texted.{WrittenOf, depth_in, written_of}
use Rattle.gq_resolve.proofs.Completing.{steps-entered}
use Rattle.gq_resolve.proofs.completed_text.CompletedText.enter.Goals as goal

pub returns : goal.returns
returns c =
    let w : WrittenOf = written_of c.args.self.now in
    let path : List PathSegment = c.args.self.now.path.items in
    ap (λ (steps : List Part). record w { path = steps; place = c.args.place })
    (steps-entered path c.push.new.self.items c.args.step c.depth-depth.result (depth_in w.levels) c.depth-depth.ensures (c.in_ok-push.ensures.items ∙ ap (λ (xs : List PathSegment). xs ++ c.args.step ∷ []) c.truncate.ensures.items))
