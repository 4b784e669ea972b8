use Rattle.std.proofs.Common.{ap, sym, subst, ◌∙◌, ◌≡◌, ℕ, List, [], Option, codes}
use Rattle.std.specs.Prelude.{MatchOption, Any, unwrap_or}
use Rattle.std.proofs.lemmas.Result.{IfOk-weaker}
use Rattle.clap.specs.Words.{found_of, rows_of}
use Rattle.clap.proofs.WalkLemmas.{raw_values-rows}
use Rattle.query_command.specs.Words.{HasNoEquals, AreTables, table_words}
use Rattle.query_command.proofs.Parts.{texts, no_tables}
use Rattle.query_command.proofs.command_words.tables_of.Goals as goal

pub returns-in-Some : goal.returns-in-Some
returns-in-Some c =
    let found = found_of c.args.matches.now in
    let given : table_words (rows_of found) ≡ texts c.in-Some.words.now = ap (λ (o : Option (List (List ℕ))). unwrap_or o []) (sym (raw_values-rows found (codes "NAME=F")) ∙ sym c.in-Some.ensures) in
    IfOk-weaker c.table_files.result _ _ (λ r h. subst (λ ws. MatchOption r (Any HasNoEquals ws) (λ tables. AreTables ws tables.items)) (sym given) h) c.table_files.ensures

pub returns-in-None : goal.returns-in-None
returns-in-None c =
    let found = found_of c.args.matches.now in
    let given : table_words (rows_of found) ≡ [] = ap (λ (o : Option (List (List ℕ))). unwrap_or o []) (sym (raw_values-rows found (codes "NAME=F")) ∙ sym c.in-None.ensures) in
    no_tables _ c.new.result.items given c.new.ensures.items
