-- Definitions of what a bindings text says: its statements, and the first line that is none.
use Rattle.std.specs.Prelude.{ℕ, List, [], ◌∷◌, Bool, true, false, Option, Some, None}
use Rattle.bindings_syntax.specs.Cuts.{Text}
use Rattle.bindings_syntax.specs.Lines.{NumberedLine, kept_lines}
use Rattle.bindings_syntax.specs.Words.{words_of}
use Rattle.bindings_syntax.specs.declared.statement.Version.{Version}
use Rattle.bindings_syntax.specs.Statements.{StatementOf, statement_of, version_of}

-- a statement with its line's number
pub record NumberedOf : Type 0 where
  pub line : ℕ
  pub statement : StatementOf

pub record BindingsTextOf : Type 0 where
  -- the first line that counts is `bindings 1` or `bindings 2`
  pub is_headed : Bool
  pub statements : List NumberedOf
  -- the first line that counts and has no form
  pub bad_line : Option ℕ

abbrev pub with_first : NumberedOf → BindingsTextOf → BindingsTextOf
with_first first text = record {
  is_headed = text.is_headed;
  statements = first ∷ text.statements;
  bad_line = text.bad_line;
}

-- a line that is this statement, or has no form
abbrev pub from_line : ℕ → Option StatementOf → BindingsTextOf → BindingsTextOf
from_line line None later = record { is_headed = true; statements = []; bad_line = Some line }
from_line line (Some statement) later =
    with_first (record { line = line; statement = statement }) later

-- the lines after the version: statements up to the first line that has no form
abbrev pub statements_of : Version → List NumberedLine → BindingsTextOf
statements_of v [] = record { is_headed = true; statements = []; bad_line = None }
statements_of v (line ∷ lines) =
    from_line line.number (statement_of v (words_of line.text)) (statements_of v lines)

-- the lines behind one that is this version, or is none
abbrev pub of_version : ℕ → Option Version → List NumberedLine → BindingsTextOf
of_version line None lines = record { is_headed = false; statements = []; bad_line = Some line }
of_version line (Some v) lines = statements_of v lines

abbrev pub headed : List NumberedLine → BindingsTextOf
headed [] = record { is_headed = false; statements = []; bad_line = None }
headed (line ∷ lines) = of_version line.number (version_of (words_of line.text)) lines

abbrev pub bindings_text : Text → BindingsTextOf
bindings_text text = headed (kept_lines text)
