use Rattle.std.specs.Arc.{arc_value}
use Rattle.std.proofs.Common.{rules, ◌≡◌, ◌∙◌, true, ℕ, List, Vec, Global, ap, sym, subst, arith}
use Rattle.schema_syntax.specs.Tree.{Definition}
use Rattle.plan_program.specs.FieldValues.{PreparedOf}
use Rattle.plan_program.specs.ObjectTypes.{name_in}
use Rattle.plan_walk.specs.Groups.{children_at, type_prepared, IsOnly, AreMade}
use Rattle.plan_walk.specs.declared.loading_fields.LoadingField.{LoadingField}
use Rattle.plan_walk.specs.declared.loading_fields.Member.{Member}
use Rattle.plan_walk.proofs.Grouping.{shaped-then}
use Rattle.plan_walk.proofs.loading_fields.made_shape.Goals as goal

pub returns : goal.returns
returns c = λ over alike.
    let old : List LoadingField = c.args.groups.now.items in
    let mid : List LoadingField = c.members_of.new.groups.items in
    let ms : List Member = (arc_value c.in_ok-members.members).items in
    let ty : List ℕ = name_in c.args.ty.now in
    let only : c.is_found.result ≡ true → IsOnly over.definitions (children_at old c.args.group) ty =
    λ e. subst (λ (ds : List Definition). IsOnly ds (children_at old c.args.group) ty) (sym alike.definitions) (c.requires.only (sym c.is_found.ensures ∙ e)) in
    let own : ms ≡ c.in_ok-members_of.field-0.items = ap (λ (v : Vec Member Global). v.items) c.in_ok-members.ensures.ok in
    let made : AreMade old mid (type_prepared over (children_at old c.args.group) ty) ms =
    subst (λ (xs : List Member). AreMade old mid (type_prepared over (children_at old c.args.group) ty) xs) (sym own)
    (subst (λ (ps : List PreparedOf). AreMade old mid ps c.in_ok-members_of.field-0.items) (sym alike.same) c.in_ok-members_of.ensures) in
    let same : arc_value c.in_ok-try_clone.field-0 ≡ arc_value c.in_ok-members.members = grind arith in
    shaped-then over c.args.walk.now.most old mid c.keep.new.groups.items c.len-count.result c.args.group ty (record { ty = c.in_ok-from_str.field-0; only = c.is_found.result; members = c.in_ok-try_clone.field-0 }) ms (search rules) (c.in_ok-from_str.ensures.ok ∙ c.name.ensures) (ap (λ (v : Vec Member Global). v.items) same) only made c.in_ok-keep.ensures.grows c.in_ok-keep.ensures.most
