-- Lemmas on what sets have, as their selections are entered.
use Rattle.std.proofs.Common.{◌≡◌, ◌∙◌, sym, ap, subst, ℕ, suc, ◌+◌, ◌<◌, List, [], ◌∷◌, ◌++◌, length, get_or, drop, drop-cons, add-one, append_assoc, append-nil, Option, Some, None, IfSome}
use Rattle.std.specs.Prelude.{slice_get}
use Rattle.std.proofs.lemmas.List.{map-append}
use Rattle.gq_parser.specs.declared.tree.Field as rust-field
use Rattle.gq_parser.specs.declared.tree.Selection as rust
use Rattle.gq_parser.specs.declared.tree.Selection.TheFolds.{fold_out-Field}
use Rattle.gq_parser.specs.declared.tree.Selection.TheVariants as selection
use Rattle.gq_parser.specs.Tree.{Selection, Selections, SelectionSet, no_selection, and_selection, selection_of, selection_step, field_step, inline_step, set_step}
use Rattle.gq_parser.proofs.Views.{selection_field}
use Rattle.merging_pairs.specs.declared.sets.ReachedFields.{ReachedFields}
use Rattle.merging_pairs.specs.Entered.{IsReached}
use Rattle.merging_members.specs.Members.{count_from, members_from, members_among}
use Rattle.merging_members.specs.SetMembers.{to, renumbered, KnowsAt}

pub known-here : (rows : List (List ℕ)) (numbers ms : List ℕ) (fragments : List ReachedFields) (o : Option ℕ) (j : ℕ) (r : ReachedFields)
    → KnowsAt rows numbers fragments ms o → o ≡ Some j → slice_get fragments j ≡ Some r → IsReached rows (renumbered numbers ms) r
known-here rows numbers ms fragments o j r knows at known =
    let here : IfSome (slice_get fragments j) (IsReached rows (renumbered numbers ms)) = subst (KnowsAt rows numbers fragments ms) at knows in
    subst (λ (o : Option ReachedFields). IfSome o (IsReached rows (renumbered numbers ms))) known here

pub known-nowhere : (rows : List (List ℕ)) (numbers ms : List ℕ) (fragments : List ReachedFields) (o : Option ℕ) → KnowsAt rows numbers fragments ms o → o ≡ None → ms ≡ []
known-nowhere rows numbers ms fragments o knows at = subst (KnowsAt rows numbers fragments ms) at knows

-- renumbered members stay apart as they are joined
pub joined-members : (rows : List (List ℕ)) (numbers ms ns : List ℕ) (r : ReachedFields) → IsReached rows (renumbered numbers ms ++ renumbered numbers ns) r → IsReached rows (renumbered numbers (ms ++ ns)) r
joined-members rows numbers ms ns r is = rw (map-append (to numbers) ms ns) is

pub no-members : (rows : List (List ℕ)) (numbers ms ns : List ℕ) (r : ReachedFields) → ns ≡ [] → IsReached rows (renumbered numbers ms) r → IsReached rows (renumbered numbers (ms ++ ns)) r
no-members rows numbers ms ns r none is = rw (none, append-nil ms) is

-- The members so far, where these selections are left and the next field has the number n.
pub record Entered (rows : List (List ℕ)) (numbers all : List ℕ) (spread : List ℕ → List ℕ) (n : ℕ) (rest : Selections) (r : ReachedFields) : Type 0 where
  pub done : List ℕ
  pub whole : done ++ members_among spread n rest ≡ all
  pub is : IsReached rows (renumbered numbers done) r

pub entered-more : (rows : List (List ℕ)) (numbers all : List ℕ) (spread : List ℕ → List ℕ) (n m : ℕ) (s : Selection) (rest : Selections) (r q : ReachedFields)
    → (e : Entered rows numbers all spread n (and_selection s rest) r) → m ≡ n + count_from s
    → (IsReached rows (renumbered numbers e.done) r → IsReached rows (renumbered numbers (e.done ++ members_from spread n s)) q)
    → Entered rows numbers all spread m rest q
entered-more rows numbers all spread n m s rest r q e next enters = record {
  done = e.done ++ members_from spread n s;
  whole = append_assoc e.done (members_from spread n s) (members_among spread m rest) ∙ (rw next e.whole);
  is = enters e.is;
}

-- all selections are entered where none is left
pub entered-all : (rows : List (List ℕ)) (numbers all : List ℕ) (spread : List ℕ → List ℕ) (n : ℕ) (r : ReachedFields) → Entered rows numbers all spread n no_selection r → IsReached rows (renumbered numbers all) r
entered-all rows numbers all spread n r e = let same : e.done ≡ all = sym (append-nil e.done) ∙ e.whole in subst (λ (ms : List ℕ). IsReached rows (renumbered numbers ms) r) same e.is

-- the rest from a place on: the element there, and then the rest behind it
pub drop-next : {A : Type 0} (xs ys : List A) (i : ℕ) (x : A) → xs ≡ ys → i < length xs → x ≡ get_or xs i x → drop i ys ≡ x ∷ drop (i + 1) ys
drop-next xs ys i x same lt is = rw (← same, add-one) (drop-cons xs i x lt ∙ ap (λ y. y ∷ drop (suc i) xs) (sym is))

-- a field is met alone
pub field-alone : (spread : List ℕ → List ℕ) (n : ℕ) (s : rust.Selection) (f : rust-field.Field) → s ≡ selection.Field f → members_from spread n (selection_of s) ≡ n ∷ []
field-alone spread n s f is =
    ap (λ (x : rust.Selection). members_from spread n (selection_of x)) is
    ∙ ap (λ (x : Selection). members_from spread n x) (selection_field f ∙ fold_out-Field Selection Selection Selection SelectionSet selection_step field_step inline_step set_step f)
