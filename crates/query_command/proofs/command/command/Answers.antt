use Rattle.std.proofs.Common.{ap, ap₂, true, ◌≡◌, ◌∙◌}
use Rattle.std.proofs.lemmas.Result.{IfOk-weaker}
use Rattle.clap.specs.Simple.{app_of_fields}
use Rattle.std.specs.Prelude.{codes}
use Rattle.clap.specs.Words.{App, app_of, new_app, with_rule}
use Rattle.query_command.specs.Command.{unnamed}
use Rattle.query_command.proofs.command.command.Goals as goal

abbrev versioned_app : App
versioned_app = let a : App = new_app (codes "query_cli") in record a { top = record a.top { has_version = true } }

pub returns : goal.returns
returns c =
    let versioned : app_of c.version.result ≡ versioned_app = ap app_of_fields c.version.ensures ∙ ap (λ (a : App). record a { top = record a.top { has_version = true } }) c.new.ensures.app in
    let described : app_of c.after_help.result ≡ versioned_app = ap app_of_fields c.after_help.ensures ∙ (ap app_of_fields c.about.ensures ∙ versioned) in
    let bare : app_of c.no_binary_name.result ≡ unnamed = ap app_of_fields c.no_binary_name.ensures ∙ ap (λ (a : App). record a { top = record a.top { no_binary_name = true } }) described in
    let first = c.in_ok-arg.ensures.shape c.schema.ensures.local ∙ ap₂ with_rule bare c.schema.ensures.rule in
    let second = c.in_ok-arg-2.ensures.shape c.bindings.ensures.local ∙ ap₂ with_rule first c.bindings.ensures.rule in
    let third = c.in_ok-arg-3.ensures.shape c.workers.ensures.local ∙ ap₂ with_rule second c.workers.ensures.rule in
    let fourth = c.in_ok-arg-4.ensures.shape c.max_batch.ensures.local ∙ ap₂ with_rule third c.max_batch.ensures.rule in
    let fifth = c.in_ok-arg-5.ensures.shape c.max_answer.ensures.local ∙ ap₂ with_rule fourth c.max_answer.ensures.rule in
    let sixth = c.in_ok-arg-6.ensures.shape c.max_work.ensures.local ∙ ap₂ with_rule fifth c.max_work.ensures.rule in
    let seventh = c.in_ok-arg-7.ensures.shape c.explain.ensures.local ∙ ap₂ with_rule sixth c.explain.ensures.rule in
    let eighth = c.in_ok-arg-8.ensures.shape c.trace.ensures.local ∙ ap₂ with_rule seventh c.trace.ensures.rule in
    let ninth = c.in_ok-arg-9.ensures.shape c.requests.ensures.local ∙ ap₂ with_rule eighth c.requests.ensures.rule in
    IfOk-weaker c.arg-10.result _ _ (λ r added. added.shape c.tables.ensures.local ∙ ap₂ with_rule ninth c.tables.ensures.rule) c.arg-10.ensures
