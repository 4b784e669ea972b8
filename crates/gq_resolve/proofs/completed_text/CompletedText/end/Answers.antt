use Rattle.std.proofs.Common.{◌≡◌, List, ◌∷◌, ap, ◌∙◌, map}
use Rattle.std.proofs.lemmas.Result.{on_ok_weaker}
use Rattle.execution.specs.Program.{Part}
use Rattle.answer_json.specs.Answer.{part_of}
use Rattle.gq_resolve.specs.Texted.{OpenOf, WrittenOf, level_seen, levels_seen, written_of}
use Rattle.plan_walk.specs.Positions.{is_non_null, kind_of}
use Rattle.gq_resolve.proofs.Completing.{open-push, steps-left, ended-null, ended-kept}
use Rattle.gq_resolve.proofs.completed_text.CompletedText.end.Goals as goal

pub returns : goal.returns
returns c =
    let w : WrittenOf = written_of c.args.self.now in
    let l : OpenOf = level_seen c.in-Some.level in
    let ls : List OpenOf = levels_seen c.pop.new.self.items in
    let seen : w.levels ≡ l ∷ ls = ap levels_seen c.in-Some.ensures.items ∙ open-push c.pop.new.self.items c.in-Some.level in
    let path : List Part = map part_of c.truncate.new.self.items in
    let steps = steps-left c.args.self.now.path.items c.truncate.new.self.items c.in-Some.level.depth c.truncate.ensures.items in
    on_ok_weaker c.end_null.result (λ h. h ∙ ended-null w (kind_of c.args.kind) (is_non_null c.args.nullability) w.levels l ls path seen steps c.if-not-self.false) c.end_null.ensures

pub returns-then-not-self : goal.returns-then-not-self
returns-then-not-self c =
    let w : WrittenOf = written_of c.args.self.now in
    let l : OpenOf = level_seen c.in-Some.level in
    let ls : List OpenOf = levels_seen c.pop.new.self.items in
    let seen : w.levels ≡ l ∷ ls = ap levels_seen c.in-Some.ensures.items ∙ open-push c.pop.new.self.items c.in-Some.level in
    let path : List Part = map part_of c.truncate.new.self.items in
    let steps = steps-left c.args.self.now.path.items c.truncate.new.self.items c.in-Some.level.depth c.truncate.ensures.items in
    on_ok_weaker c.end_kept.result (λ h. h ∙ ended-kept w (kind_of c.args.kind) (is_non_null c.args.nullability) w.levels l ls path seen steps c.if-not-self.true) c.end_kept.ensures
