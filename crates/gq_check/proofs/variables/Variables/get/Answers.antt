use Rattle.std.proofs.Common.{◌∙◌, ◌≢◌, sym, ap, ◌<◌, length, Option, arith}
use Rattle.std.specs.HashMap.{hash_map_len}
use Rattle.std.specs.Option.{option_map}
use Rattle.gq_schema.proofs.PlaceLaws.{none_at, found_within, found_first}
use Rattle.gq_variables.specs.Variables.{VariableOf, variable_of, is_variable}
use Rattle.gq_check.proofs.variables.Variables.get.Goals as goal

pub returns-in_err-place : goal.returns-in_err-place
returns-in_err-place c =
    let q = c.args.name.now in
    let all = c.self.inside.items.items in
    let some : hash_map_len c.self.inside.places ≢ 0 = λ e. cc (sym (c.is_empty.ensures.1 e) ∙ c.if-is_empty.false) in
    let at = sym (c.self.invariant some q) ∙ sym c.in_err-place.ensures.value in
    rw (c.from_residual.ensures, ← c.self.view_is) (sym (ap (λ (o : Option VariableOf). option_map (λ (v : VariableOf). v.value) o) (none_at variable_of (is_variable q) 0 all at)))

pub index-requires : goal.index-requires
index-requires c =
    let q = c.args.name.now in
    let all = c.self.inside.items.items in
    let some : hash_map_len c.self.inside.places ≢ 0 = λ e. cc (sym (c.is_empty.ensures.1 e) ∙ c.if-is_empty.false) in
    let at = sym (c.self.invariant some q) ∙ sym c.in_ok-place.ensures.value in
    let below : c.in_ok-place.field-0.now < length all = found_within variable_of (is_variable q) all c.in_ok-place.field-0.now at in
    omega arith

pub returns : goal.returns
returns c =
    let q = c.args.name.now in
    let all = c.self.inside.items.items in
    let some : hash_map_len c.self.inside.places ≢ 0 = λ e. cc (sym (c.is_empty.ensures.1 e) ∙ c.if-is_empty.false) in
    let at = sym (c.self.invariant some q) ∙ sym c.in_ok-place.ensures.value in
    rw (← c.self.view_is) (sym (ap (λ (o : Option VariableOf). option_map (λ (v : VariableOf). v.value) o) (found_first variable_of (is_variable q) all c.in_ok-place.field-0.now c.index.result.now at c.index.ensures)))
