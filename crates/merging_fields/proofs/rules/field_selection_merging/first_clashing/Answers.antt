use Rattle.std.proofs.Common.{◌≡◌, ◌∙◌, sym, subst, refl, ℕ, ◌<◌, ◌==◌, Bool, true, false, cond, List, [], ◌∷◌, length, Some, arith}
use Rattle.std.specs.Prelude.{find}
use Rattle.std.proofs.lemmas.Bool.{or_left, or_right, eq-eqb}
use Rattle.gq_parser.specs.Tree.{set_of, document_of}
use Rattle.merging_pairs.specs.Clashes.{first_clash}
use Rattle.merging_pairs.specs.Numbered.{is_in}
use Rattle.merging_pairs.proofs.RenumberLaws.{source-of}
use Rattle.merging_members.specs.Fragments.{target_at}
use Rattle.merging_members.specs.Members.{members_in, members_of_fragment}
use Rattle.merging_members.specs.SetMembers.{to, renumbered, clash, is_key, KnowsAt, Knows}
use Rattle.merging_members.proofs.Learning.{fragment-there, if-some}
use Rattle.merging_members.proofs.Spreading.{all-in}
use Rattle.rules_parts.specs.Parts.{parts_in}
use Rattle.merging_fields.specs.Members.{fields_of}
use Rattle.merging_fields.specs.Numbered.{IsInverse}
use Rattle.merging_fields.proofs.Joining.{got-below, first-same}
use Rattle.merging_fields.proofs.Sizes.{has-place}
use Rattle.merging_fields.proofs.rules.field_selection_merging.first_clashing.Goals as goal

-- the members of a set have numbers in the table
numbered-below : (numbers order ms : List ℕ) (n k : ℕ) → IsInverse order numbers (length order) → length order ≡ n → k ≡ length order → ((c : ℕ) → is_in ms c ≡ true → c < n)
    → (i : ℕ) → is_in (renumbered numbers ms) i ≡ true → i < k
numbered-below numbers order ms n k inverse whole len under i e =
    let s = source-of (to numbers) ms i e in
    let inside = under s.source s.member in
    let lt = got-below order (to numbers s.source) s.source (inverse s.source (omega (arith, inside, whole))) in
    omega (arith, lt, s.is, len)

-- a member that is found is a member
found-member : (test : ℕ → Bool) (ms : List ℕ) (f : ℕ) → find test ms ≡ Some f → is_in ms f ≡ true
found-member test [] f e = cc
found-member test (m ∷ ms) f e = go (test m) e (found-member test ms f)
  where
    go : (t : Bool) → cond t (Some m) (find test ms) ≡ Some f → (find test ms ≡ Some f → is_in ms f ≡ true) → is_in (m ∷ ms) f ≡ true
    go true h rest = let same : m ≡ f = cc in or_left (f == m) (is_in ms f) (eq-eqb f m (sym same))
    go false h rest = or_right (f == m) (is_in ms f) (rest h)

pub invariant_of-walk-clause-known : goal.invariant_of-walk-clause-known
invariant_of-walk-clause-known c = λ a h.
    let compared = c.args.compared.now in
    let grounds = compared.grounds in
    let whole = grounds.whole in
    let place = has-place grounds.order.now grounds.numbers.now grounds.inverse a (omega (arith, whole, h)) in
    let len = compared.len in
    let all = compared.all in
    omega (arith, place, len, all)

pub invariant_of-walk-clause-there : goal.invariant_of-walk-clause-there
invariant_of-walk-clause-there c = λ name j at.
    let compared = c.args.compared.now in
    let grounds = compared.grounds in
    let d = document_of grounds.parts.now.document.now in
    let lt = (fragment-there name d.fragments j (sym (grounds.named name) ∙ at)).1 in
    let there = compared.there in
    omega (arith, lt, there)

pub returns-clause-first : goal.returns-clause-first
returns-clause-first c =
    let compared = c.args.compared.now in
    let grounds = compared.grounds in
    let p = parts_in grounds.parts.now in
    let rows = compared.rows.now in
    let numbers = grounds.numbers.now in
    let order = grounds.order.now in
    let spread = members_of_fragment p.document in
    let ms = members_in spread c.args.set.first (set_of c.args.set.set.now) in
    let knows : Knows rows numbers compared.fragments.now (target_at grounds.targets.now) spread = λ q. subst (KnowsAt rows numbers compared.fragments.now (spread q)) (sym (grounds.named q)) (c.requires.compared.known q) in
    let reached = c.reached_in-reached.ensures spread (λ _. true) (λ q e. knows q) (all-in (λ _. true) (λ _. refl) (set_of c.args.set.set.now)) in
    let keys = c.failing_keys-keys.ensures rows (renumbered numbers ms) (numbered-below numbers order ms (length p.fields) (length compared.fields.now) grounds.inverse grounds.all compared.all c.requires.under) reached in
    let same : find (is_key c.failing_keys-keys.result numbers) ms ≡ first_clash (fields_of p).one_key (clash rows numbers) ms =
    first-same p numbers order compared.fields.now rows c.requires.compared.numbered grounds.inverse grounds.all grounds.inside grounds.counted compared.all c.requires.compared.decided ms c.failing_keys-keys.result c.requires.under keys in
    c.first_member.ensures spread c.requires.compared.known grounds.fixed ∙ same

pub returns-clause-there : goal.returns-clause-there
returns-clause-there c =
    let compared = c.args.compared.now in
    let grounds = compared.grounds in
    let p = parts_in grounds.parts.now in
    let rows = compared.rows.now in
    let numbers = grounds.numbers.now in
    let spread = members_of_fragment p.document in
    let ms = members_in spread c.args.set.first (set_of c.args.set.set.now) in
    if-some c.first_member.result (λ f. f < length p.fields)
    (λ f e. c.requires.under f (found-member (is_key c.failing_keys-keys.result numbers) ms f (sym (c.first_member.ensures spread c.requires.compared.known grounds.fixed) ∙ e)))
