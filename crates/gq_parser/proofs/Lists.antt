-- Lists between parentheses or braces, of which there is at least one item.
use Rattle.std.proofs.Common.{◌≡◌, ℕ, suc, ◌<◌, List, [], ◌∷◌, ◌++◌, length, map, true, ap, ◌∙◌, subst, arith}
use Rattle.std.proofs.lemmas.List.{append-nil}
use Rattle.text_place.specs.declared.place.Place.{Place}
use Rattle.gq_lexer.specs.declared.token.Punct.TheVariants.{ParenLeft, ParenRight, BraceLeft}
use Rattle.gq_parser.specs.declared.value.Constness.{Constness}
use Rattle.gq_parser.specs.declared.tree.Argument as rust
use Rattle.gq_parser.specs.declared.tree.Selection as rust-selection
use Rattle.gq_parser.specs.declared.tree.VariableDefinition as rust-variable
use Rattle.gq_parser.specs.Word.{Punct, Token, at}
use Rattle.gq_parser.specs.Tree.{argument_of, arguments_of, variable_of, variables_of, selection_of, selections_then, set_at}
use Rattle.gq_parser.specs.Grammar.{IsArgument, AreArguments, no_more_arguments, AreOptionalArguments, arguments, IsVariable, AreVariables, no_more_variables, AreOptionalVariables, variables, IsSelection, AreSelections, IsSelectionSet, selection_set}
use Rattle.gq_parser.specs.Machine.{Symbol, MaybeArguments, MoreArguments, an_argument, MaybeVariables, FirstVariable, MoreVariables, FirstSelection, MoreSelections, one, read}
use Rattle.gq_parser.specs.Parsing.{Eats, IsFront}
use Rattle.gq_parser.proofs.Steps.{arguments_open, variables_open, room_back}

pub first_argument : (c : Constness) (p : Place) (room r : ℕ) (before mid now : List Token) (a : rust.Argument) (xs : List rust.Argument)
    → room ≡ suc r → before ≡ at p (Punct ParenLeft) ∷ mid → IsArgument c (argument_of a) mid now → ((stack : List Symbol) → read r (an_argument c ++ stack) mid ≡ read r stack now) → length now < length mid → xs ≡ a ∷ []
    → IsFront (AreArguments c) (AreOptionalArguments c) (λ others. arguments_of xs ++ others) room (one (MaybeArguments c)) r (one (MoreArguments c)) before now
first_argument c p room r before mid now a xs e e' is goes shorter first = record {
  joins = λ others after rest. rw (first, e') (arguments is rest);
  reads = λ stack. arguments_open c stack e e' ∙ goes (MoreArguments c ∷ stack);
  shrinks = omega (arith, ap length e');
}

pub arguments_end : (c : Constness) (room r : ℕ) (before now after : List Token) (xs : List rust.Argument)
    → room ≡ suc r → IsFront (AreArguments c) (AreOptionalArguments c) (λ others. arguments_of xs ++ others) room (one (MaybeArguments c)) r (one (MoreArguments c)) before now
    → Eats (Punct ParenRight) now after true
    → AreOptionalArguments c (arguments_of xs) before after × ((stack : List Symbol) → read room (MaybeArguments c ∷ stack) before ≡ read room stack after)
arguments_end c room r before now after xs e front eaten = (
  subst (λ as'. AreOptionalArguments c as' before after) (append-nil (arguments_of xs)) (front.joins [] after (rw eaten.1 no_more_arguments)),
  λ stack. front.reads stack ∙ ap (read r (MoreArguments c ∷ stack)) eaten.1 ∙ room_back stack after e,
)

pub first_variable : (p : Place) (room r : ℕ) (before mid now : List Token) (v : rust-variable.VariableDefinition) (xs : List rust-variable.VariableDefinition)
    → room ≡ suc r → before ≡ at p (Punct ParenLeft) ∷ mid → IsVariable (variable_of v) mid now → ((stack : List Symbol) → read r (FirstVariable ∷ stack) mid ≡ read r (MoreVariables ∷ stack) now) → length now < length mid → xs ≡ v ∷ []
    → IsFront AreVariables AreOptionalVariables (λ others. variables_of xs ++ others) room (one MaybeVariables) r (one MoreVariables) before now
first_variable p room r before mid now v xs e e' is goes shorter first = record {
  joins = λ others after rest. rw (first, e') (variables is rest);
  reads = λ stack. variables_open stack e e' ∙ goes stack;
  shrinks = omega (arith, ap length e');
}

pub variables_end : (room r : ℕ) (before now after : List Token) (xs : List rust-variable.VariableDefinition)
    → room ≡ suc r → IsFront AreVariables AreOptionalVariables (λ others. variables_of xs ++ others) room (one MaybeVariables) r (one MoreVariables) before now
    → Eats (Punct ParenRight) now after true
    → AreOptionalVariables (variables_of xs) before after × ((stack : List Symbol) → read room (MaybeVariables ∷ stack) before ≡ read room stack after)
variables_end room r before now after xs e front eaten = (
  subst (λ vs. AreOptionalVariables vs before after) (append-nil (variables_of xs)) (front.joins [] after (rw eaten.1 no_more_variables)),
  λ stack. front.reads stack ∙ ap (read r (MoreVariables ∷ stack)) eaten.1 ∙ room_back stack after e,
)

pub first_selection : (p : Place) (room : ℕ) (before now : List Token) (s : rust-selection.Selection) (xs : List rust-selection.Selection)
    → IsSelection (selection_of s) before now → ((stack : List Symbol) → read room (FirstSelection ∷ stack) before ≡ read room (MoreSelections ∷ stack) now) → length now < length before → xs ≡ s ∷ []
    → IsFront AreSelections (λ ss before. IsSelectionSet (set_at p ss) (at p (Punct BraceLeft) ∷ before)) (selections_then (map selection_of xs)) room (one FirstSelection) room (one MoreSelections) before now
first_selection p room before now s xs is goes shorter first = record {
  joins = λ others after rest. rw first (selection_set is rest);
  reads = goes;
  shrinks = omega arith;
}
