use Rattle.std.proofs.Common.{◌≡◌, ◌∙◌, refl, sym, ap, option_map, rules}
use Rattle.gq_check.specs.Plans.{plan_of}
use Rattle.load_memory.specs.Keys.{key_of}
use Rattle.load_memory.specs.declared.key.Key.TheVariants as keys
use Rattle.plan_program.specs.ObjectTypes.{name_in}
use Rattle.plan_program.specs.declared.prepared.KeyFrom.TheVariants as from
use Rattle.plan_walk.specs.declared.loading_fields.FieldResolver.TheVariants as asks
use Rattle.plan_walk.proofs.MadeAgain.{keyed-made}
use Rattle.plan_walk.proofs.again.keyed_again.Goals as goal

pub returns-in_ok-copy-in-Some-2 : goal.returns-in_ok-copy-in-Some-2
returns-in_ok-copy-in-Some-2 c =
    let load = c.in-Load-default-Fixed-Text-default in
    let had : c.in-Some.member.now.asks ≡ asks.Load load.loader (from.Fixed (keys.Text load.key-0-0)) load.group = search rules in
    rw c.in-Some.is
    (λ gs. keyed-made (plan_of c.args.plan.now) (name_in c.args.ty.now) c.args.fields.now gs c.in-Some.member.now _ load.loader load.key-0-0 c.in-Some-2.key load.group
    had refl c.in_ok-copy-in-Some-2.ensures
    (sym c.in_ok-key.ensures ∙ ap (option_map key_of) c.in-Some-2.is))
