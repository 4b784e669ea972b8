-- Fields in the table of pairs come after the members of their own selection sets.
use Rattle.std.proofs.Common.{◌≡◌, ◌∙◌, sym, ap, refl, ℕ, zero, suc, ◌+◌, ◌≤◌, inl, inr, true, List, [], ◌∷◌, length, arith}
use Rattle.std.proofs.lemmas.Bool.{both_ways, cases_lt}
use Rattle.gq_parser.specs.Tree.{Below}
use Rattle.rules_parts.specs.Parts.{PartsOf}
use Rattle.rules_parts.specs.Listing as listing
use Rattle.merging_pairs.specs.declared.field.Field as table
use Rattle.merging_pairs.specs.Numbered as numbered
use Rattle.merging_pairs.specs.Numbered.{is_in, AreInOrder}
use Rattle.merging_pairs.specs.Sets.{has}
use Rattle.merging_pairs.proofs.Bits.{has-empty}
use Rattle.merging_pairs.proofs.RenumberLaws.{source-of}
use Rattle.merging_members.specs.Members.{members_below, members_of_fragment}
use Rattle.merging_members.specs.Placed.{IsOwn, ArePlaced}
use Rattle.merging_members.specs.SetMembers.{to, renumbered}
use Rattle.merging_members.specs.Written.{AreOwn}
use Rattle.merging_fields.specs.Numbered.{as_written, AreNumbered}
use Rattle.merging_fields.proofs.Listed.{written-at}
use Rattle.merging_fields.proofs.Twins.{there, table-is, found}

pub own-length : (numbers : List ℕ) (spread : List ℕ → List ℕ) (n : ℕ) (bs : List Below) (rs : List (List ℕ)) → AreOwn numbers spread n bs rs → length rs ≡ length bs
own-length numbers spread n [] [] own = refl
own-length numbers spread n (b ∷ bs) (r ∷ rs) own = ap suc (own-length numbers spread (n + 1) bs rs own.1)
own-length numbers spread n [] (r ∷ rs) own = absurd own
own-length numbers spread n (b ∷ bs) [] own = absurd own

past : (xs : List table.Field) (b : ℕ) → length xs ≤ b → numbered.members_at xs b ≡ []
past [] b le = refl
past (x ∷ xs) zero le = absurd (omega (arith, le))
past (x ∷ xs) (suc b) le = past xs b (omega (arith, le))

module _ (p : PartsOf) (numbers order : List ℕ) (xs : List table.Field) (are : AreNumbered p numbers (members_of_fragment p.document) order xs) (len : length xs ≡ length order)
    (listed : p.fields ≡ listing.fields_of p.definitions p.document) (many : length numbers ≡ length p.fields) (placed : ArePlaced p.document order numbers) where
  pub in-order : AreInOrder xs
  in-order b c e = elim (cases_lt b (length xs)) [
    | inl h ↦
        let at = there order b (omega (arith, h, len)) in
        let a = at.0 in
        let back = placed.back b a at.1 in
        let inside = back.0 in
        let f = there p.fields a (omega (arith, inside, many)) in
        let x = found p numbers (members_of_fragment p.document) order xs b a f.0 are at.1 f.1 in
        let row = table-is (λ y. y.members) [] xs b x.0 x.1 in
        let member : is_in (renumbered numbers (members_below (members_of_fragment p.document) (a + 1) f.0.below)) c ≡ true = sym (x.2.members c) ∙ (ap (λ (r : List ℕ). has r c) (sym row) ∙ e) in
        let s = source-of (to numbers) (members_below (members_of_fragment p.document) (a + 1) f.0.below) c member in
        let own : IsOwn p.document a s.source = record { field = as_written f.0; here = written-at p.definitions p.document p.fields listed a f.0 f.1; member = s.member } in
        let before = (placed.after b a s.source at.1 own).1 in
        let same = s.is in
        omega (arith, before, same)
    | inr h ↦ absurd (both_ways (has (numbered.members_at xs b) c) (ap (λ (r : List ℕ). has r c) (past xs b h) ∙ has-empty c) e)
  ]
