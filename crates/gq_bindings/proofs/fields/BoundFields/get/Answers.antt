use Rattle.std.proofs.Common.{◌∙◌, arith}
use Rattle.gq_bindings.specs.Seen.{bound_of}
use Rattle.gq_bindings.proofs.Places.{field_at, no_field}
use Rattle.gq_bindings.proofs.fields.BoundFields.get.Goals as goal

pub returns-in_err-place : goal.returns-in_err-place
returns-in_err-place c =
    rw (c.from_residual.ensures, ← c.self.view_is)
    (no_field bound_of c.self.inside.entries.items c.args.type_name.now c.args.field_name.now (c.in_err-place.ensures ∙ c.self.invariant c.args.type_name.now c.args.field_name.now))

pub index-requires : goal.index-requires
index-requires c =
    let found = field_at bound_of c.self.inside.entries.items c.args.type_name.now c.args.field_name.now _ (c.in_ok-place.ensures ∙ c.self.invariant c.args.type_name.now c.args.field_name.now) in
    omega (arith, found.0, c.self.inside.entries.ok.0)

pub returns : goal.returns
returns c =
    let found = field_at bound_of c.self.inside.entries.items c.args.type_name.now c.args.field_name.now _ (c.in_ok-place.ensures ∙ c.self.invariant c.args.type_name.now c.args.field_name.now) in
    rw (c.index.ensures, ← c.self.view_is) (found.1 c.index.result.now)
