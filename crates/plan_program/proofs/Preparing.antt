-- What a group asks for by its first field.
use Rattle.std.proofs.Common.{◌≡◌, ℕ, List, [], ◌∷◌, false, Some, None, refl, ap}
use Rattle.std.specs.Prelude.{codes, bytes_eq}
use Rattle.std.specs.Borrow.{Bor}
use Rattle.std.specs.List.{slice_get}
use Rattle.gq_parser.specs.declared.tree.Field as rust
use Rattle.gq_parser.specs.Types.{is_non_null}
use Rattle.schema_syntax.specs.Tree.{Field}
use Rattle.gq_schema.specs.Types.{field_in}
use Rattle.execution.specs.Program.{Null}
use Rattle.gq_check.specs.Plans.{PlanOf}
use Rattle.plan_program.specs.Groups.{FieldOf}
use Rattle.plan_program.specs.Fields.{field_seen, fields_seen}
use Rattle.plan_program.specs.FieldValues.{position_of, known, prepared}
use Rattle.plan_program.specs.Prepared.{defined_by}
use Rattle.plan_program.specs.Seen.{group_of}
use Rattle.plan_program.specs.declared.group.Group.{Group}

-- the first of a group's fields
starts : (fs : List (Bor rust.Field)) (x : Bor rust.Field) → slice_get fs 0 ≡ Some x → (rest : List FieldOf) × (fields_seen fs ≡ field_seen x.now ∷ rest)
starts [] x e = absurd (cc e)
starts (y ∷ ys) x e = let same : y ≡ x = cc e in (fields_seen ys, ap (λ (z : Bor rust.Field). field_seen z.now ∷ fields_seen ys) same)

-- a field that has no definition
pub undefined : (plan : PlanOf) (ty : List ℕ) (g : Group) (x : Bor rust.Field) → slice_get g.fields 0 ≡ Some x → bytes_eq (field_seen x.now).name (codes "__typename") ≡ false → field_in plan.definitions ty (field_seen x.now).name ≡ None
    → prepared plan ty (group_of g) ≡ record { position = position_of g.key.now (field_seen x.now).place false; asked = known Null }
undefined plan ty g x e own none = rw ((starts g.fields x e).1, own, none) refl

-- a field by its definition
pub defined : (plan : PlanOf) (ty : List ℕ) (g : Group) (x : Bor rust.Field) (d : Field) → slice_get g.fields 0 ≡ Some x → bytes_eq (field_seen x.now).name (codes "__typename") ≡ false → field_in plan.definitions ty (field_seen x.now).name ≡ Some d
    → prepared plan ty (group_of g) ≡ record { position = position_of g.key.now (field_seen x.now).place (is_non_null d.of_type); asked = defined_by plan ty (field_seen x.now) (fields_seen g.fields) d }
defined plan ty g x d e own some =
    let f = starts g.fields x e in
    rw (f.1, own, some) (rw some refl)
