-- Definitions of what a pass has reported, and has still to report.
use Rattle.std.specs.Prelude.{◌≡◌, ℕ, Bool, ◌||◌, List, [], ◌∷◌, Option, bytes_eq, fold, if◌then◌else◌}
use Rattle.std.specs.Option.{option_map}
use Rattle.std.specs.List.{list_any}
use Rattle.std.specs.HashSet.{HashSet, contains_by}
use Rattle.std.specs.Borrow.{Bor}
use Rattle.rules_parts.specs.declared.broken.EarliestViolation as rust
use Rattle.rules_parts.specs.Broken.{BrokenOf, broken_of, with_broken}
use Rattle.rules_untyped.specs.Repeated.{has_name}

abbrev pub report : rust.EarliestViolation → Option BrokenOf
report earliest = option_map broken_of earliest.found

-- the earliest of what was reported and of these
abbrev pub with_all : rust.EarliestViolation → List BrokenOf → Option BrokenOf
with_all earliest bs = fold with_broken (report earliest) bs

-- these were reported, each in turn
abbrev pub Tells : rust.EarliestViolation → rust.EarliestViolation → List BrokenOf → Type 0
Tells old new bs = report new ≡ with_all old bs

-- a name, where one of those before has it
abbrev pub if_repeated : List BrokenOf → BrokenOf → List BrokenOf
if_repeated before n = if list_any (has_name n.name) before then n ∷ [] else []

-- tells whether the set has this text
abbrev pub has_text : {S : Type 0} → HashSet (Bor (List ℕ)) S → List ℕ → Bool
has_text names q = contains_by (λ k. bytes_eq q k.now) names

-- those whose name stood earlier by this test, or stands before them in the list
abbrev pub repeated_by : (List ℕ → Bool) → List BrokenOf → List BrokenOf
repeated_by stood [] = []
repeated_by stood (n ∷ ns) =
    if stood n.name then n ∷ repeated_by (λ q. bytes_eq q n.name || stood q) ns
    else repeated_by (λ q. bytes_eq q n.name || stood q) ns

-- the earliest of what was reported and of what is repeated from here on
abbrev pub left : {S : Type 0} → HashSet (Bor (List ℕ)) S
    → rust.EarliestViolation → List BrokenOf → Option BrokenOf
left names earliest rest = with_all earliest (repeated_by (has_text names) rest)
