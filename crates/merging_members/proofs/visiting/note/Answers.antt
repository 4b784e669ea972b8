use Rattle.std.proofs.Common.{◌≡◌, ◌∙◌, sym, ap, ◌++◌, [], ◌∷◌, List, true, false, map, append-nil}
use Rattle.std.proofs.lemmas.List.{map-append}
use Rattle.gq_parser.specs.Tree.{set_of}
use Rattle.merging_members.specs.Members.{SetOf, members_in}
use Rattle.merging_members.specs.SetMembers.{renumbered, is_clashing, clashing_of}
use Rattle.merging_members.proofs.Clashing.{clashing-same, set_with_members, own-kept, own-dropped}
use Rattle.merging_members.proofs.visiting.note.Goals as goal

pub returns-in_ok-push-clause-sets : goal.returns-in_ok-push-clause-sets
returns-in_ok-push-clause-sets c = λ rows numbers spread is.
    let s = set_of c.args.set.now in
    let n = c.args.first in
    let old = c.args.clashing.now.items in
    let ms = members_in spread n s in
    let yes : is_clashing rows numbers (set_with_members spread n s) ≡ true = sym (clashing-same rows numbers ms) ∙ (sym (c.has_clash.ensures rows (renumbered numbers ms) is) ∙ c.if-has_clash.true) in
    rw c.in_ok-push.ensures.items (map-append (clashing_of spread) old (record { set = c.args.set; first = n } ∷ []) ∙ ap (λ (xs : List SetOf). map (clashing_of spread) old ++ xs) (sym (own-kept (is_clashing rows numbers) spread n s yes)))

pub returns-else-has_clash-clause-sets : goal.returns-else-has_clash-clause-sets
returns-else-has_clash-clause-sets c = λ rows numbers spread is.
    let s = set_of c.args.set.now in
    let n = c.args.first in
    let old = c.args.clashing.now.items in
    let ms = members_in spread n s in
    let no : is_clashing rows numbers (set_with_members spread n s) ≡ false = sym (clashing-same rows numbers ms) ∙ (sym (c.has_clash.ensures rows (renumbered numbers ms) is) ∙ c.if-has_clash.false) in
    rw (own-dropped (is_clashing rows numbers) spread n s no) (sym (append-nil (map (clashing_of spread) old)))
