use Rattle.std.proofs.Common.{sym, ap, ◌∙◌}
use Rattle.std.specs.Prelude.{is_some}
use Rattle.std.proofs.lemmas.Bool.{false≢true}
use Rattle.flat_rows.proofs.keyed.places_of.Goals as goal

pub returns-in_err-column-in-Pair-clause-none : goal.returns-in_err-column-in-Pair-clause-none
returns-in_err-column-in-Pair-clause-none c =
    rw (c.from_residual-in_err-column-in-Pair.ensures, c.in-Pair.is) (λ h. false≢true (ap is_some c.in_err-column-in-Pair.ensures ∙ h.1))

pub returns-in_ok-column-in-Pair-clause-some : goal.returns-in_ok-column-in-Pair-clause-some
returns-in_ok-column-in-Pair-clause-some c =
    rw c.in-Pair.is (sym c.in_ok-one-in-Pair.ensures, sym c.in_ok-column-in-Pair.ensures)
