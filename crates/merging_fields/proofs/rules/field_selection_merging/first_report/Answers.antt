use Rattle.std.proofs.Common.{◌≡◌, ◌∙◌, sym, ap, length, map, Option, Some, None}
use Rattle.std.specs.Prelude.{filter}
use Rattle.std.specs.Option.{option_map, option_and_then}
use Rattle.merging_members.specs.declared.visiting.ClashingSet.{ClashingSet}
use Rattle.merging_members.specs.Members.{SetOf, members_of_fragment, sets_of}
use Rattle.merging_members.specs.SetMembers.{clash, is_clashing, clashing_of}
use Rattle.merging_members.proofs.Below.{AreFields}
use Rattle.rules_parts.specs.Broken.{earliest}
use Rattle.rules_parts.specs.Parts.{parts_in}
use Rattle.merging_fields.specs.Members.{fields_of}
use Rattle.merging_fields.specs.FieldSelectionMerging.{IsMerging, key_of}
use Rattle.merging_fields.specs.Reports.{report_of_set, reports_of_sets, earliest_set}
use Rattle.merging_fields.proofs.EarliestSet.{AllReported, all-reported, earliest-reported, earliest-under}
use Rattle.merging_fields.proofs.Joining.{sets-under, fields-kept, is-reported, reflexive}
use Rattle.merging_fields.proofs.rules.field_selection_merging.first_report.Goals as goal

pub report-requires-clause-under : goal.report-requires-clause-under
report-requires-clause-under c =
    let compared = c.args.compared.now in
    let grounds = compared.grounds in
    let p = parts_in grounds.parts.now in
    let rows = compared.rows.now in
    let numbers = grounds.numbers.now in
    let clashing = clashing_of (members_of_fragment p.document) in
    let ss = filter (is_clashing rows numbers) (sets_of p.document) in
    let listed : map clashing c.deref.result.now ≡ ss = rw c.deref.ensures.value c.in_ok-sets.ensures.sets in
    let under : AreFields (length p.fields) (sets_of p.document) =
    sets-under p numbers grounds.order.now compared.fields.now rows c.requires.compared.numbered grounds.inverse grounds.all grounds.inside grounds.counted compared.all c.requires.compared.decided in
    let first : earliest_set ss ≡ Some (clashing c.in-Some.set) =
    sym (c.earliest_set.ensures.set (members_of_fragment p.document) ∙ ap earliest_set listed) ∙ ap (λ (o : Option ClashingSet). option_map clashing o) c.in-Some.is in
    earliest-under (length p.fields) ss (clashing c.in-Some.set) (fields-kept (length p.fields) (is_clashing rows numbers) (sets_of p.document) under) first

pub returns-in-Some : goal.returns-in-Some
returns-in-Some c =
    let compared = c.args.compared.now in
    let grounds = compared.grounds in
    let p = parts_in grounds.parts.now in
    let rows = compared.rows.now in
    let numbers = grounds.numbers.now in
    let clashing = clashing_of (members_of_fragment p.document) in
    let f = report_of_set (fields_of p).one_key (clash rows numbers) (key_of p) in
    let ss = filter (is_clashing rows numbers) (sets_of p.document) in
    let listed : map clashing c.deref.result.now ≡ ss = rw c.deref.ensures.value c.in_ok-sets.ensures.sets in
    let under : AreFields (length p.fields) (sets_of p.document) =
    sets-under p numbers grounds.order.now compared.fields.now rows c.requires.compared.numbered grounds.inverse grounds.all grounds.inside grounds.counted compared.all c.requires.compared.decided in
    let own = reflexive p numbers grounds.order.now compared.fields.now rows c.requires.compared.numbered grounds.inverse grounds.all grounds.inside grounds.counted compared.all c.requires.compared.decided in
    let all : AllReported f ss = all-reported (fields_of p).one_key (clash rows numbers) (key_of p) (length p.fields) own (sets_of p.document) under in
    let first : earliest_set ss ≡ Some (clashing c.in-Some.set) =
    sym (c.earliest_set.ensures.set (members_of_fragment p.document) ∙ ap earliest_set listed) ∙ ap (λ (o : Option ClashingSet). option_map clashing o) c.in-Some.is in
    let merging : IsMerging p (earliest (reports_of_sets (fields_of p).one_key (clash rows numbers) (key_of p) ss)) =
    is-reported p numbers grounds.order.now compared.fields.now rows c.requires.compared.numbered grounds.inverse grounds.all grounds.inside grounds.counted compared.all c.requires.compared.decided in
    let same : f (clashing c.in-Some.set) ≡ earliest (reports_of_sets (fields_of p).one_key (clash rows numbers) (key_of p) ss) =
    sym (earliest-reported f ss all ∙ ap (λ (o : Option SetOf). option_and_then f o) first) in
    (merging.0, merging.1, c.report.ensures ∙ (same ∙ merging.2))

pub returns : goal.returns
returns c =
    let compared = c.args.compared.now in
    let grounds = compared.grounds in
    let p = parts_in grounds.parts.now in
    let rows = compared.rows.now in
    let numbers = grounds.numbers.now in
    let clashing = clashing_of (members_of_fragment p.document) in
    let f = report_of_set (fields_of p).one_key (clash rows numbers) (key_of p) in
    let ss = filter (is_clashing rows numbers) (sets_of p.document) in
    let listed : map clashing c.deref.result.now ≡ ss = rw c.deref.ensures.value c.in_ok-sets.ensures.sets in
    let under : AreFields (length p.fields) (sets_of p.document) =
    sets-under p numbers grounds.order.now compared.fields.now rows c.requires.compared.numbered grounds.inverse grounds.all grounds.inside grounds.counted compared.all c.requires.compared.decided in
    let own = reflexive p numbers grounds.order.now compared.fields.now rows c.requires.compared.numbered grounds.inverse grounds.all grounds.inside grounds.counted compared.all c.requires.compared.decided in
    let all : AllReported f ss = all-reported (fields_of p).one_key (clash rows numbers) (key_of p) (length p.fields) own (sets_of p.document) under in
    let first : earliest_set ss ≡ None =
    sym (c.earliest_set.ensures.set (members_of_fragment p.document) ∙ ap earliest_set listed) ∙ ap (λ (o : Option ClashingSet). option_map clashing o) c.in-None.is in
    let merging : IsMerging p (earliest (reports_of_sets (fields_of p).one_key (clash rows numbers) (key_of p) ss)) =
    is-reported p numbers grounds.order.now compared.fields.now rows c.requires.compared.numbered grounds.inverse grounds.all grounds.inside grounds.counted compared.all c.requires.compared.decided in
    (merging.0, merging.1, sym (earliest-reported f ss all ∙ ap (λ (o : Option SetOf). option_and_then f o) first) ∙ merging.2)
