-- Steps on what is written: a text, a line feed, and a flush.
use Rattle.std.proofs.Common.{ℕ, List, [], ◌++◌, sym, ◌∙◌, append-nil, Some, None}
use Rattle.std.specs.Prelude.{Option}
use Rattle.std.specs.Io.KnownBytes.{Appends, Keeps}
use Rattle.server_lines.specs.Output.{IsCut}
use Rattle.server_lines.proofs.Known.{appends_trans, cut_after, cut_before}

appends_kept : (a b c : Option (List ℕ)) (xs : List ℕ) → Appends a b xs → Keeps b c → Appends a c xs
appends_kept None b c xs h k = tt
appends_kept (Some ws) None c xs h k = absurd h
appends_kept (Some ws) (Some bs) None xs h k = absurd k
appends_kept (Some ws) (Some bs) (Some cs) xs h k = k ∙ h

-- both were written
pub whole : (a b c d : Option (List ℕ)) (xs ys : List ℕ) → Appends a b xs → Appends b c ys → Keeps c d → Appends a d (xs ++ ys)
whole a b c d xs ys h k f = appends_kept a c d (xs ++ ys) (appends_trans a b c xs ys h k) f

-- both were written, and the flush failed
pub cut_at_flush : (a b c d : Option (List ℕ)) (xs ys : List ℕ) → Appends a b xs → Appends b c ys → Keeps c d → IsCut a d (xs ++ ys)
cut_at_flush a b c d xs ys h k f = (
  xs ++ ys,
  [],
  record {
    front = sym (append-nil (xs ++ ys));
    went = whole a b c d xs ys h k f;
  },
)

pub ruleset using_written = (whole, cut_at_flush, cut_after, cut_before)
