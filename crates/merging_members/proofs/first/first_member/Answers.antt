use Rattle.std.proofs.Common.{◌≡◌, ◌∙◌, sym, ap, subst, refl, ℕ, ◌≤◌, true, List, length, Option, Some, None, arith}
use Rattle.std.specs.Prelude.{find, nat_lt}
use Rattle.std.specs.Coded.{le_prop}
use Rattle.std.specs.Option.{option_map_or}
use Rattle.std.proofs.Math.Logic.{∥∥₁_elim}
use Rattle.std.proofs.lemmas.Bool.{lt-ltb, ltb-true}
use Rattle.std.proofs.lemmas.List.{length-map}
use Rattle.gq_parser.specs.Tree as tree
use Rattle.gq_parser.specs.Tree.{SelectionSet, set_of, document_of, fragment_of}
use Rattle.merging_members.specs.declared.meeting.Met.{Met}
use Rattle.merging_members.specs.declared.meeting.Met.TheVariants.{Field, Fragment}
use Rattle.merging_members.specs.Fragments.{place_in, target_at}
use Rattle.merging_members.specs.Members.{members_in}
use Rattle.merging_members.specs.Meeting.{IsIn, IsMet, IsSpread}
use Rattle.merging_members.specs.Ranked.{spreads_in, rank_of, is_under, IsRanked}
use Rattle.merging_members.specs.SetMembers.{KnowsAt, Knows, is_key}
use Rattle.merging_members.proofs.Learning.{fragment-there}
use Rattle.merging_members.proofs.Spreading.{all-in}
use Rattle.merging_members.proofs.first.first_member.Goals as goal

pub returns-in-Some-Field : goal.returns-in-Some-Field
returns-in-Some-Field c = λ spread knows fixed.
    let source = c.args.source.now in
    let test = is_key c.args.keys.now source.numbers.now in
    let known : Knows source.rows.now source.numbers.now c.args.table.now (target_at source.targets.now) spread = λ q. subst (KnowsAt source.rows.now source.numbers.now c.args.table.now (spread q)) (sym (source.named q)) (knows q) in
    let found = find test (members_in spread c.loop.at.first (set_of c.loop.at.set.now)) in
    let is : c.first_met.result ≡ Some (Field c.in-Some-Field.number) = c.in-Some-Field.is ∙ ap (λ (m : Met). Some m) c.in-Some-Field.field-0-is in
    let met : found ≡ Some c.in-Some-Field.number = subst (λ (o : Option Met). IsMet (target_at source.targets.now) spread test found o) is (c.first_met.ensures.met spread known) in
    sym met ∙ c.loop.invariant.met spread knows fixed

pub returns-in-None : goal.returns-in-None
returns-in-None c = λ spread knows fixed.
    let source = c.args.source.now in
    let test = is_key c.args.keys.now source.numbers.now in
    let known : Knows source.rows.now source.numbers.now c.args.table.now (target_at source.targets.now) spread = λ q. subst (KnowsAt source.rows.now source.numbers.now c.args.table.now (spread q)) (sym (source.named q)) (knows q) in
    let found = find test (members_in spread c.loop.at.first (set_of c.loop.at.set.now)) in
    let met : found ≡ None = subst (λ (o : Option Met). IsMet (target_at source.targets.now) spread test found o) c.in-None.is (c.first_met.ensures.met spread known) in
    sym met ∙ c.loop.invariant.met spread knows fixed

-- all names that are there have ranks below as many as there are
all-under : (ranks : List ℕ) (fs : List tree.Fragment) → IsRanked ranks (place_in fs) fs → (name : List ℕ) → is_under ranks (place_in fs) (length fs) name ≡ true
all-under ranks fs ranked name = go (place_in fs name) refl
  where
    go : (o : Option ℕ) → place_in fs name ≡ o → option_map_or (λ j. nat_lt (rank_of ranks j) (length fs)) o true ≡ true
    go None e = refl
    go (Some j) e = let f = fragment-there name fs j e in lt-ltb (rank_of ranks j) (length fs) (ranked.below j f.0 f.2)

pub invariant_of-walk : goal.invariant_of-walk
invariant_of-walk c =
    let source = c.args.source.now in
    let d = document_of source.document.now in
    record {
      few = source.few;
      below = source.below;
      known = source.known;
      there = λ name j at. let lt = (fragment-there name d.fragments j (sym (source.named name) ∙ at)).1 in omega (arith, lt, c.requires.len);
    }

pub loop-init : goal.loop-init
loop-init c =
    let d = document_of c.args.source.now.document.now in
    record {
      met = λ spread knows fixed. refl;
      inside = c.requires.inside;
      lower = λ ranks ranked. (length d.fragments, omega arith, all-in (is_under ranks (place_in d.fragments) (length d.fragments)) (all-under ranks d.fragments ranked) (set_of c.args.set.set.now));
    }

pub first_met-requires : goal.first_met-requires
first_met-requires c = record { inside = c.loop.invariant.inside }

pub fragment_set-at-requires : goal.fragment_set-at-requires
fragment_set-at-requires c =
    let source = c.args.source.now in
    let d = document_of source.document.now in
    let is : c.first_met.result ≡ Some (Fragment c.in-Some-Fragment.target) = c.in-Some-Fragment.is ∙ ap (λ (m : Met). Some m) c.in-Some-Fragment.field-0-is in
    let met : IsSpread (target_at source.targets.now) (λ q. true) (Some (Fragment c.in-Some-Fragment.target)) =
    subst (λ (o : Option Met). IsSpread (target_at source.targets.now) (λ q. true) o) is (c.first_met.ensures.spread (λ q. true) (all-in (λ q. true) (λ q. refl) (set_of c.loop.at.set.now))) in
    record { there = (fragment-there met.0 d.fragments c.in-Some-Fragment.target (sym (source.named met.0) ∙ met.1)).1 }

pub unreachable-requires : goal.unreachable-requires
unreachable-requires c =
    let past = c.loop-test.false in
    let end = c.loop.auto.counter-end in
    let d = document_of c.args.source.now.document.now in
    let many = length-map c.args.source.now.document.now.fragments.items fragment_of in
    let none : 1 ≤ 0 = ∥∥₁_elim c.requires.ranked le_prop (λ r. let b = c.loop.invariant.lower r.0 r.1 in let le = b.1 in omega (arith, le, past, end, many)) in
    absurd (omega (arith, none))

pub loop-preserved : goal.loop-preserved
loop-preserved c =
    let source = c.args.source.now in
    let d = document_of source.document.now in
    let place = target_at source.targets.now in
    let j = c.in-Some-Fragment.target in
    let is : c.first_met.result ≡ Some (Fragment j) = c.in-Some-Fragment.is ∙ ap (λ (m : Met). Some m) c.in-Some-Fragment.field-0-is in
    record {
      met = λ spread knows fixed.
          let test = is_key c.args.keys.now source.numbers.now in
          let known : Knows source.rows.now source.numbers.now c.args.table.now place spread = λ q. subst (KnowsAt source.rows.now source.numbers.now c.args.table.now (spread q)) (sym (source.named q)) (knows q) in
          let found = find test (members_in spread c.loop.at.first (set_of c.loop.at.set.now)) in
          let met : IsIn place spread test found j = subst (λ (o : Option Met). IsMet place spread test found o) is (c.first_met.ensures.met spread known) in
          ap (λ (ms : List ℕ). find test ms) (sym (c.fragment_set-at.ensures.members spread met.name (sym (source.named met.name) ∙ met.at)))
          ∙ (ap (λ (ms : List ℕ). find test ms) (sym (fixed met.name)) ∙ (sym met.same ∙ c.loop.invariant.met spread knows fixed));
      inside = c.fragment_set-at.ensures.inside;
      lower = λ ranks ranked.
          let b = c.loop.invariant.lower ranks ranked in
          let test = is_under ranks (place_in d.fragments) b.0 in
          let met : IsSpread place test (Some (Fragment j)) = subst (λ (o : Option Met). IsSpread place test o) is (c.first_met.ensures.spread test b.2) in
          let at : place_in d.fragments met.0 ≡ Some j = sym (source.named met.0) ∙ met.1 in
          let pass : nat_lt (rank_of ranks j) b.0 ≡ true = ap (λ (o : Option ℕ). option_map_or (λ k. nat_lt (rank_of ranks k) b.0) o true) (sym at) ∙ met.2 in
          let less = ltb-true (rank_of ranks j) b.0 pass in
          let le = b.1 in
          let f = fragment-there met.0 d.fragments j at in
          (rank_of ranks j, omega (arith, less, le), ap (λ (s : SelectionSet). spreads_in (is_under ranks (place_in d.fragments) (rank_of ranks j)) s) (c.fragment_set-at.ensures.set f.0 f.2) ∙ ranked.under j f.0 f.2);
    }
