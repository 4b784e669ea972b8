-- Documents in which no fragment reaches itself.
use Rattle.std.specs.Prelude.{◌≡◌, ◌≤◌, ℕ, List, [], length}
use Rattle.gq_parser.specs.Tree.{Document}
use Rattle.schema_syntax.specs.Tree.{Definition}
use Rattle.rules_parts.specs.Listing.{parts_of}
use Rattle.rules_spreads.specs.Rules.{fragment_spreads_must_not_form_cycles}

-- this holds of each such document and of each number that is at least that of its fragments
abbrev pub ForAcyclic : (Document → ℕ → Type 0) → Type 0
ForAcyclic P = (definitions : List Definition) (d : Document)
    → fragment_spreads_must_not_form_cycles (parts_of definitions d) ≡ []
    → (k : ℕ) → length d.fragments ≤ k → P d k
