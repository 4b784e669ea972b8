-- Definitions of what breaks a rule, and which of several such is reported.
use Rattle.std.specs.Prelude.{◌≡◌, ℕ, List, ◌++◌, Option, Some, None, codes, fold, if◌then◌else◌}
use Rattle.std.specs.Option.{option_map}
use Rattle.text_place.specs.Order.{is_before}
use Rattle.text_place.specs.declared.place.Place.{Place}
use Rattle.rules_parts.specs.declared.broken.BrokenName.{BrokenName}
use Rattle.rules_parts.specs.declared.broken.BrokenName.TheVariants.{Plain, Variable}
use Rattle.rules_parts.specs.declared.broken.Violation as rust
use Rattle.rules_parts.specs.declared.broken.EarliestViolation.{EarliestViolation}

-- says what is named as broken, and where
pub record BrokenOf : Type 0 where
  pub name : List ℕ
  pub place : Place

-- the name as it is reported: that of a variable has its `$` where a variable's is reported beside other names
abbrev pub name_of : BrokenName → List ℕ
name_of (Plain n) = n.now
name_of (Variable n) = codes "$" ++ n.now

abbrev pub broken_of : rust.Violation → BrokenOf
broken_of b = record { name = name_of b.name; place = b.place }

-- the second where it stands before the first
abbrev pub earlier : BrokenOf → BrokenOf → BrokenOf
earlier a b = if is_before b.place a.place then b else a

-- the earlier of what was kept and one more
abbrev pub with_broken : Option BrokenOf → BrokenOf → Option BrokenOf
with_broken None b = Some b
with_broken (Some a) b = Some (earlier a b)

-- gives the same with one more, if there is one
abbrev pub with_broken_if : Option BrokenOf → Option BrokenOf → Option BrokenOf
with_broken_if kept None = kept
with_broken_if kept (Some b) = with_broken kept b

-- the earliest that is kept is that of what was kept and of these
abbrev pub AddsBroken : EarliestViolation → EarliestViolation → List BrokenOf → Type 0
AddsBroken old new broken = option_map broken_of new.found
    ≡ fold with_broken (option_map broken_of old.found) broken

-- the one with the earliest place; of several at one place the first in the list
abbrev pub earliest : List BrokenOf → Option BrokenOf
earliest = fold with_broken None
