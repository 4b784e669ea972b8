-- The sets that are reported are those that can't be merged.
use Rattle.std.proofs.Common.{◌≡◌, refl, ℕ, ◌<◌, Bool, true, List, [], ◌∷◌, Option, Some, None}
use Rattle.merging_pairs.specs.Merging.{Fields, Merges}
use Rattle.merging_pairs.specs.Clashes.{first_clash}
use Rattle.merging_pairs.specs.Renumbered.{IsRenumbered}
use Rattle.merging_pairs.specs.Table.{Tells, TellsAll}
use Rattle.merging_pairs.proofs.ClashLaws.{none-merges, first-breaks}
use Rattle.merging_pairs.proofs.RenumberLaws.{tells-old}
use Rattle.merging_members.specs.Members.{SetOf}
use Rattle.merging_members.specs.SetMembers.{to, clash}
use Rattle.merging_members.proofs.Below.{AreFields}
use Rattle.merging_fields.specs.FieldSelectionMerging.{AreBroken, none, merges, fails}
use Rattle.merging_fields.specs.Reports.{reports_of_sets}

module _ (D : Fields ℕ) (n : ℕ) (clashes : ℕ → ℕ → Bool) (key : ℕ → List ℕ) (reflexive : (a : ℕ) → a < n → D.one_key a a ≡ true) (decided : (a b : ℕ) → a < n → b < n → Tells (Merges D) D a b (clashes a b)) where
  pub report-broken : (sets : List SetOf) → AreFields n sets → AreBroken D key sets (reports_of_sets D.one_key clashes key sets)
  report-broken [] below = none
  report-broken (s ∷ sets) below = go (first_clash D.one_key clashes s.members) refl (report-broken sets below.1)
    where
      go : (o : Option ℕ) → first_clash D.one_key clashes s.members ≡ o → AreBroken D key sets (reports_of_sets D.one_key clashes key sets) → AreBroken D key (s ∷ sets) (reports_of_sets D.one_key clashes key (s ∷ sets))
      go None e rest = rw e (merges (none-merges D n clashes reflexive decided s.members below.0 e) rest)
      go (Some f) e rest = let b = first-breaks D n clashes reflexive decided s.members below.0 f e in rw e (fails b.0 b.1 rest)

-- a table tells of the fields under other numbers
pub report-clash : (D E : Fields ℕ) (n : ℕ) (numbers : List ℕ) (from : ℕ → ℕ) (members : ℕ → List ℕ) (rows : List (List ℕ)) → IsRenumbered D E n (to numbers) from members → TellsAll (Merges E) E n rows
    → (a b : ℕ) → a < n → b < n → Tells (Merges D) D a b (clash rows numbers a b)
report-clash D E n numbers from members rows is decided a b ha hb =
    tells-old D E n (to numbers) from members is a b (clash rows numbers a b) ha hb (decided (to numbers a) (to numbers b) (is.there a ha) (is.there b hb))
