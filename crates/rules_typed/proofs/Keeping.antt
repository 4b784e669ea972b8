-- One pass over a list that keeps the earliest of what is broken.
use Rattle.std.proofs.Common.{◌≡◌, ◌++◌, List, fold, Option, None, Some, refl}
use Rattle.std.specs.List.{cons_option}
use Rattle.rules_parts.specs.Broken.{BrokenOf, with_broken, with_broken_if}

-- a violation that may be there, and then others
pub keep_next : (kept : Option BrokenOf) (b : Option BrokenOf) (bs : List BrokenOf) → fold with_broken kept (cons_option b bs) ≡ fold with_broken (with_broken_if kept b) bs
keep_next kept None bs = refl
keep_next kept (Some b) bs = refl

-- shows the same, where a second list follows
pub keep_before : (kept : Option BrokenOf) (b : Option BrokenOf) (bs cs : List BrokenOf) → fold with_broken kept (cons_option b bs ++ cs) ≡ fold with_broken (with_broken_if kept b) (bs ++ cs)
keep_before kept None bs cs = refl
keep_before kept (Some b) bs cs = refl
