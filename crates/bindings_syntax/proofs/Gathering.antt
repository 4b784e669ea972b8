-- The statements that were read so far, and those of the lines that are left.
use Rattle.std.proofs.Common.{◌≡◌, ℕ, Bool, true, List, [], ◌∷◌, ◌++◌, sym, ap, ◌∙◌, append_assoc, append-nil}
use Rattle.std.specs.Prelude.{Option, Some, None, map}
use Rattle.std.proofs.lemmas.List.{map-append}
use Rattle.bindings_syntax.specs.declared.statement.NumberedStatement.{NumberedStatement}
use Rattle.bindings_syntax.specs.declared.statement.Statement.{Statement}
use Rattle.bindings_syntax.specs.declared.statement.Version.{Version}
use Rattle.bindings_syntax.specs.Lines.{NumberedLine}
use Rattle.bindings_syntax.specs.Words.{words_of}
use Rattle.bindings_syntax.specs.Statements.{statement_of}
use Rattle.bindings_syntax.specs.Reading.{NumberedOf, BindingsTextOf, with_first, from_line, statements_of}
use Rattle.bindings_syntax.specs.Seen.{numbered_seen, statement_seen}

-- these statements before those of a text
abbrev pub with_all : List NumberedOf → BindingsTextOf → BindingsTextOf
with_all first later = record { is_headed = later.is_headed; statements = first ++ later.statements; bad_line = later.bad_line }

with_one_more : (first : List NumberedOf) (one : NumberedOf) (later : BindingsTextOf) → with_all first (with_first one later) ≡ with_all (first ++ one ∷ []) later
with_one_more first one later = ap (λ (all : List NumberedOf). record { is_headed = later.is_headed; statements = all; bad_line = later.bad_line }) (sym (append_assoc first (one ∷ []) later.statements))

ended : (headed : Bool) (bad : Option ℕ) (read : List NumberedStatement) → with_all (map numbered_seen read) (record { is_headed = headed; statements = []; bad_line = bad }) ≡ record { is_headed = headed; statements = map numbered_seen read; bad_line = bad }
ended headed bad read = ap (λ (all : List NumberedOf). record { is_headed = headed; statements = all; bad_line = bad }) (append-nil (map numbered_seen read))

-- one more statement was read
pub gather_one : (v : Version) (all : BindingsTextOf) (read : List NumberedStatement) (old new : List NumberedLine) (n : ℕ) (text : List ℕ) (s : Statement)
    → all ≡ with_all (map numbered_seen read) (statements_of v old) → old ≡ record { number = n; text = text } ∷ new → Some (statement_seen s) ≡ statement_of v (words_of text)
    → all ≡ with_all (map numbered_seen (read ++ record { line = n; statement = s } ∷ [])) (statements_of v new)
gather_one v all read old new n text s so lines is =
    so
    ∙ ap (λ ls. with_all (map numbered_seen read) (statements_of v ls)) lines
    ∙ ap (λ o. with_all (map numbered_seen read) (from_line n o (statements_of v new))) (sym is)
    ∙ with_one_more (map numbered_seen read) _ (statements_of v new)
    ∙ ap (λ l. with_all l (statements_of v new)) (sym (map-append numbered_seen read _))

-- the next line has no form
pub gather_bad : (v : Version) (all : BindingsTextOf) (read : List NumberedStatement) (old new : List NumberedLine) (n : ℕ) (text : List ℕ)
    → all ≡ with_all (map numbered_seen read) (statements_of v old) → old ≡ record { number = n; text = text } ∷ new → None ≡ statement_of v (words_of text)
    → record { is_headed = true; statements = map numbered_seen read; bad_line = Some n } ≡ all
gather_bad v all read old new n text so lines is =
    sym (so
    ∙ ap (λ ls. with_all (map numbered_seen read) (statements_of v ls)) lines
    ∙ ap (λ o. with_all (map numbered_seen read) (from_line n o (statements_of v new))) (sym is)
    ∙ ended true (Some n) read)

-- no line is left
pub gather_end : (v : Version) (all : BindingsTextOf) (read : List NumberedStatement) (old : List NumberedLine)
    → all ≡ with_all (map numbered_seen read) (statements_of v old) → old ≡ []
    → record { is_headed = true; statements = map numbered_seen read; bad_line = None } ≡ all
gather_end v all read old so lines =
    sym (so
    ∙ ap (λ ls. with_all (map numbered_seen read) (statements_of v ls)) lines
    ∙ ended true None read)
