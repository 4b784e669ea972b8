use Rattle.std.proofs.Common.{◌≡◌, ◌∙◌, ap, refl, false}
use Rattle.std.proofs.lemmas.Result.{on_ok_weaker}
use Rattle.execution.specs.Program.{Leaf, Value, Null}
use Rattle.json.specs.Token.{null}
use Rattle.plan_walk.specs.Cells.{leaf_seen}
use Rattle.plan_walk.specs.LeafTypes.{cell_at}
use Rattle.gq_schema.specs.Types.{tree_of}
use Rattle.plan_walk.specs.Positions.{is_non_null}
use Rattle.plan_walk.specs.Puts.{Put, Has}
use Rattle.gq_resolve.specs.Texted.{put_one, written_of}
use Rattle.gq_resolve.specs.declared.completed_text.CompletedText.{CompletedText}
use Rattle.gq_resolve.proofs.Taking.{takes-completed, takes-token, takes-leaf}
use Rattle.plan_walk.specs.Cells.{value_seen}
use Rattle.gq_resolve.proofs.Completing.{cell-leaf}
use Rattle.gq_resolve.proofs.answer_text.AnswerText.cell.Goals as goal

pub returns-in-Some : goal.returns-in-Some
returns-in-Some c =
    let p : Put = Has (is_non_null c.args.nullability) (leaf_seen c.args.leaf) in
    on_ok_weaker c.cell.result (λ h. takes-completed p c.args.self.now _ c.in-Some.text _ c.if-not-self.true c.if-not-self.true refl c.in-Some.is refl (h ∙ ap (λ (x : CompletedText). put_one p (written_of x)) c.deref_mut.ensures.value)) c.cell.ensures

pub returns-in-Null-Nullable : goal.returns-in-Null-Nullable
returns-in-Null-Nullable c =
    rw (c.in-Null-Nullable.ensures, c.in-Null-Nullable.is-1) (on_ok_weaker c.put.result (λ h. takes-token (Has false Null) null c.args.self.now c.args.self.now _ c.if-not-self.false refl refl refl refl (λ w e. e) h) c.put.ensures)

pub returns-in-Some-leaf_of : goal.returns-in-Some-leaf_of
returns-in-Some-leaf_of c =
    let leaf : Leaf = value_seen c.in-Some-leaf_of.value in
    let seen : leaf_seen c.args.leaf ≡ Value leaf = ap (cell_at (tree_of c.args.leaf.schema.now) c.args.leaf.column.now c.args.leaf.ty.now) c.in-Text-default.ensures.0
    ∙ cell-leaf (tree_of c.args.leaf.schema.now) c.args.leaf.column.now c.args.leaf.ty.now c.in-Text-default.text.now leaf c.in-Text-default.ensures.1 c.in-Some-leaf_of.ensures in
    rw seen (on_ok_weaker c.put_cell.result (λ h. takes-leaf (is_non_null c.args.nullability) leaf c.args.self.now _ c.if-not-self.false h) c.put_cell.ensures)

pub returns : goal.returns
returns c = on_ok_weaker c.first_error.result (λ h. rw (← c.in_ok-error.ensures) h) c.first_error.ensures
