use Rattle.std.proofs.Common.{◌≡◌, ◌∙◌, sym, Option, length, map, ℕ, subst, refl, true}
use Rattle.std.specs.Prelude.{is_some}
use Rattle.std.proofs.lemmas.Bool.{both_ways}
use Rattle.gq_parser.specs.Tree.{operation_of, fragment_of}
use Rattle.rules_spreads.specs.Levels.{levels_expanded, levels_of}
use Rattle.rules_spreads.specs.Tables.{capped_levels}
use Rattle.rules_spreads.proofs.LevelLaws.{known-capped, known-full, deep, not-deep}
use Rattle.rules_spreads.proofs.levels.deep_operation.Goals as goal

pub returns-then-levels-gt-MAX_LEVELS : goal.returns-then-levels-gt-MAX_LEVELS
returns-then-levels-gt-MAX_LEVELS c =
    let fragments = map fragment_of c.args.parts.now.document.now.fragments.items in
    let e : c.in-Some.levels ≡ capped_levels (levels_of fragments (operation_of c.args.operation.now)) = known-capped c.args.table.now (levels_expanded (length fragments) fragments) fragments c.requires.agrees (operation_of c.args.operation.now).selection_set c.in-Some.levels (sym c.set_levels.ensures ∙ c.in-Some.is) in
    rw (deep (levels_of fragments (operation_of c.args.operation.now)) c.in-Some.levels e c.if-levels-gt-MAX_LEVELS.true, c.of_name.ensures.name, c.of_name.ensures.place) refl

pub returns-else-levels-gt-MAX_LEVELS : goal.returns-else-levels-gt-MAX_LEVELS
returns-else-levels-gt-MAX_LEVELS c =
    let fragments = map fragment_of c.args.parts.now.document.now.fragments.items in
    let e : c.in-Some.levels ≡ capped_levels (levels_of fragments (operation_of c.args.operation.now)) = known-capped c.args.table.now (levels_expanded (length fragments) fragments) fragments c.requires.agrees (operation_of c.args.operation.now).selection_set c.in-Some.levels (sym c.set_levels.ensures ∙ c.in-Some.is) in
    rw (not-deep (levels_of fragments (operation_of c.args.operation.now)) c.in-Some.levels e c.if-levels-gt-MAX_LEVELS.false) refl

pub returns-in-None : goal.returns-in-None
returns-in-None c =
    let fragments = map fragment_of c.args.parts.now.document.now.fragments.items in
    let known = known-full c.args.table.now fragments c.requires.full (operation_of c.args.operation.now).selection_set in
    let P : Option ℕ → Type 0 = λ o. is_some o ≡ true in
    absurd (both_ways _ refl (subst P (sym c.set_levels.ensures ∙ c.in-None.is) known))
