-- Lemmas on what a step of a method gives.
use Rattle.std.proofs.Common.{◌≡◌, ℕ, zero, suc, List, [], ◌∷◌, ◌++◌, Bool, true, false, Some, None, refl, sym, ap, ◌∙◌}
use Rattle.text_place.specs.declared.place.Place.{Place}
use Rattle.gq_lexer.specs.declared.token.Punct.TheVariants.{Bang, Dollar, ParenLeft, ParenRight, Colon, Equals, At, BracketLeft, BracketRight, BraceLeft, BraceRight}
use Rattle.gq_lexer.specs.declared.token.Punct.TheVariants as punct
use Rattle.gq_parser.specs.declared.value.Constness.{Constness}
use Rattle.gq_parser.specs.declared.value.Constness.TheVariants.{Const, NotConst}
use Rattle.gq_parser.specs.declared.keyword.Keyword.{Keyword}
use Rattle.gq_parser.specs.declared.keyword.Keyword.TheVariants.{Query, Mutation, Subscription, Fragment, On, True, False, Null, Other}
use Rattle.gq_parser.specs.Keywords.{IsFragmentName, IsEnumName}
use Rattle.gq_parser.specs.Word.{Word, Punct, Name, Token, at, place_of_next}
use Rattle.gq_parser.specs.Tree as tree
use Rattle.gq_parser.specs.Grammar.{IsBang, bang, no_bang, IsArgument, argument, AreMembers, next_member, IsKind, query, mutation, subscription, IsSelectionSet, selection_set, IsOperation, shorthand}
use Rattle.gq_parser.specs.declared.tree.OperationKind.TheVariants as kind
use Rattle.gq_parser.specs.declared.tree.OperationKind.{OperationKind}
use Rattle.gq_parser.specs.Machine.{Symbol, AName, AValue, MoreValues, MoreMembers, AType, ABracket, MaybeBang, MaybeArguments, MoreArguments, MaybeDirectives, AfterName, AfterDots, MaybeSet, ASet, FirstSelection, MoreSelections, MaybeDefault, FirstVariable, MoreVariables, MaybeVariables, MaybeName, ADefinition, an_argument, an_operation_then, Stopped, read}
use Rattle.gq_parser.specs.Parsing.{Eats, IsNotNext, IsNoName, IsNoKind}

-- a token that was taken says this
pub taken : {old new : List Token} {p : Place} {v w : Word} → old ≡ at p v ∷ new → v ≡ w → old ≡ at p w ∷ new
taken {new = new} {p = p} e h = e ∙ ap (λ x. at p x ∷ new) h

-- ---- an opening bracket takes room

pub list_opens : (c : Constness) {p : Place} {room r : ℕ} {before mid : List Token} (stack : List Symbol) → room ≡ suc r → before ≡ at p (Punct BracketLeft) ∷ mid → read room (AValue c ∷ stack) before ≡ read r (MoreValues c ∷ stack) mid
list_opens c stack e e' = rw (e, e') refl

pub object_opens : (c : Constness) {p : Place} {room r : ℕ} {before mid : List Token} (stack : List Symbol) → room ≡ suc r → before ≡ at p (Punct BraceLeft) ∷ mid → read room (AValue c ∷ stack) before ≡ read r (MoreMembers c ∷ stack) mid
object_opens c stack e e' = rw (e, e') refl

pub arguments_open : (c : Constness) {p : Place} {room r : ℕ} {before mid : List Token} (stack : List Symbol) → room ≡ suc r → before ≡ at p (Punct ParenLeft) ∷ mid → read room (MaybeArguments c ∷ stack) before ≡ read r (an_argument c ++ (MoreArguments c ∷ stack)) mid
arguments_open c stack e e' = rw (e, e') refl

pub type_opens : {p : Place} {room r : ℕ} {before mid : List Token} (stack : List Symbol) → room ≡ suc r → before ≡ at p (Punct BracketLeft) ∷ mid → read room (AType ∷ stack) before ≡ read r (AType ∷ ABracket ∷ MaybeBang ∷ stack) mid
type_opens stack e e' = rw (e, e') refl

pub set_opens : {p : Place} {room r : ℕ} {before mid : List Token} (stack : List Symbol) → room ≡ suc r → before ≡ at p (Punct BraceLeft) ∷ mid → read room (ASet ∷ stack) before ≡ read r (FirstSelection ∷ stack) mid
set_opens stack e e' = rw (e, e') refl

pub maybe_set_opens : {p : Place} {room r : ℕ} {before mid : List Token} (stack : List Symbol) → room ≡ suc r → before ≡ at p (Punct BraceLeft) ∷ mid → read room (MaybeSet ∷ stack) before ≡ read r (FirstSelection ∷ stack) mid
maybe_set_opens stack e e' = rw (e, e') refl

pub variables_open : {p : Place} {room r : ℕ} {before mid : List Token} (stack : List Symbol) → room ≡ suc r → before ≡ at p (Punct ParenLeft) ∷ mid → read room (MaybeVariables ∷ stack) before ≡ read r (FirstVariable ∷ stack) mid
variables_open stack e e' = rw (e, e') refl

pub definition_opens : {p : Place} {room r : ℕ} {before mid : List Token} (stack : List Symbol) → room ≡ suc r → before ≡ at p (Punct BraceLeft) ∷ mid → read room (ADefinition ∷ stack) before ≡ read r (FirstSelection ∷ stack) mid
definition_opens stack e e' = rw (e, e') refl

-- the room that was left again
pub room_back : {room r : ℕ} (stack : List Symbol) (tokens : List Token) → room ≡ suc r → read (suc r) stack tokens ≡ read room stack tokens
room_back stack tokens e = ap (λ k. read k stack tokens) (sym e)

-- ---- what closes a list is not next

pub value_comes : (c : Constness) (room : ℕ) (tokens : List Token) (stack : List Symbol) → IsNotNext (Punct BracketRight) tokens → read room (MoreValues c ∷ stack) tokens ≡ read room (AValue c ∷ MoreValues c ∷ stack) tokens
value_comes c room [] stack h = refl
value_comes c room (at p (Punct BracketRight) ∷ tokens) stack h = absurd (h refl)
value_comes c zero (at p (Punct BracketLeft) ∷ tokens) stack h = refl
value_comes c (suc r) (at p (Punct BracketLeft) ∷ tokens) stack h = refl
value_comes c zero (at p (Punct BraceLeft) ∷ tokens) stack h = refl
value_comes c (suc r) (at p (Punct BraceLeft) ∷ tokens) stack h = refl
value_comes Const room (at p (Punct Dollar) ∷ tokens) stack h = refl
value_comes NotConst room (at p (Punct Dollar) ∷ tokens) stack h = refl
value_comes c room (at p _ ∷ tokens) stack h = refl

pub member_comes : (c : Constness) (room : ℕ) (tokens : List Token) (stack : List Symbol) → IsNotNext (Punct BraceRight) tokens → read room (MoreMembers c ∷ stack) tokens ≡ read room (an_argument c ++ (MoreMembers c ∷ stack)) tokens
member_comes c room [] stack h = refl
member_comes c room (at p (Punct BraceRight) ∷ tokens) stack h = absurd (h refl)
member_comes c room (at p _ ∷ tokens) stack h = refl

pub argument_comes : (c : Constness) (room : ℕ) (tokens : List Token) (stack : List Symbol) → IsNotNext (Punct ParenRight) tokens → read room (MoreArguments c ∷ stack) tokens ≡ read room (an_argument c ++ (MoreArguments c ∷ stack)) tokens
argument_comes c room [] stack h = refl
argument_comes c room (at p (Punct ParenRight) ∷ tokens) stack h = absurd (h refl)
argument_comes c room (at p _ ∷ tokens) stack h = refl

pub selection_comes : (room : ℕ) (tokens : List Token) (stack : List Symbol) → IsNotNext (Punct BraceRight) tokens → read room (MoreSelections ∷ stack) tokens ≡ read room (FirstSelection ∷ stack) tokens
selection_comes room [] stack h = refl
selection_comes room (at p (Punct BraceRight) ∷ tokens) stack h = absurd (h refl)
selection_comes room (at p _ ∷ tokens) stack h = refl

pub variable_comes : (room : ℕ) (tokens : List Token) (stack : List Symbol) → IsNotNext (Punct ParenRight) tokens → read room (MoreVariables ∷ stack) tokens ≡ read room (FirstVariable ∷ stack) tokens
variable_comes room [] stack h = refl
variable_comes room (at p (Punct ParenRight) ∷ tokens) stack h = absurd (h refl)
variable_comes room (at p _ ∷ tokens) stack h = refl

-- ---- what may be left out is not next

pub no_arguments_come : (c : Constness) (room : ℕ) (tokens : List Token) (stack : List Symbol) → IsNotNext (Punct ParenLeft) tokens → read room (MaybeArguments c ∷ stack) tokens ≡ read room stack tokens
no_arguments_come c room [] stack h = refl
no_arguments_come c room (at p (Punct ParenLeft) ∷ tokens) stack h = absurd (h refl)
no_arguments_come c room (at p _ ∷ tokens) stack h = refl

pub no_directives_come : (c : Constness) (room : ℕ) (tokens : List Token) (stack : List Symbol) → IsNotNext (Punct At) tokens → read room (MaybeDirectives c ∷ stack) tokens ≡ read room stack tokens
no_directives_come c room [] stack h = refl
no_directives_come c room (at p (Punct At) ∷ tokens) stack h = absurd (h refl)
no_directives_come c room (at p _ ∷ tokens) stack h = refl

pub no_alias_comes : (room : ℕ) (tokens : List Token) (stack : List Symbol) → IsNotNext (Punct Colon) tokens → read room (AfterName ∷ stack) tokens ≡ read room stack tokens
no_alias_comes room [] stack h = refl
no_alias_comes room (at p (Punct Colon) ∷ tokens) stack h = absurd (h refl)
no_alias_comes room (at p _ ∷ tokens) stack h = refl

pub no_set_comes : (room : ℕ) (tokens : List Token) (stack : List Symbol) → IsNotNext (Punct BraceLeft) tokens → read room (MaybeSet ∷ stack) tokens ≡ read room stack tokens
no_set_comes room [] stack h = refl
no_set_comes room (at p (Punct BraceLeft) ∷ tokens) stack h = absurd (h refl)
no_set_comes room (at p _ ∷ tokens) stack h = refl

pub no_default_comes : (room : ℕ) (tokens : List Token) (stack : List Symbol) → IsNotNext (Punct Equals) tokens → read room (MaybeDefault ∷ stack) tokens ≡ read room stack tokens
no_default_comes room [] stack h = refl
no_default_comes room (at p (Punct Equals) ∷ tokens) stack h = absurd (h refl)
no_default_comes room (at p _ ∷ tokens) stack h = refl

pub no_variables_come : (room : ℕ) (tokens : List Token) (stack : List Symbol) → IsNotNext (Punct ParenLeft) tokens → read room (MaybeVariables ∷ stack) tokens ≡ read room stack tokens
no_variables_come room [] stack h = refl
no_variables_come room (at p (Punct ParenLeft) ∷ tokens) stack h = absurd (h refl)
no_variables_come room (at p _ ∷ tokens) stack h = refl

pub no_name_comes : (room : ℕ) (tokens : List Token) (stack : List Symbol) → IsNoName tokens → read room (MaybeName ∷ stack) tokens ≡ read room stack tokens
no_name_comes room [] stack h = refl
no_name_comes room (at p (Name k n) ∷ tokens) stack h = absurd h
no_name_comes room (at p _ ∷ tokens) stack h = refl

no_bang_comes : (room : ℕ) (tokens : List Token) (stack : List Symbol) → IsNotNext (Punct Bang) tokens → read room (MaybeBang ∷ stack) tokens ≡ read room stack tokens
no_bang_comes room [] stack h = refl
no_bang_comes room (at p (Punct Bang) ∷ tokens) stack h = absurd (h refl)
no_bang_comes room (at p _ ∷ tokens) stack h = refl

-- a `!` that was eaten or not
pub is_bang : (b : Bool) (old new : List Token) → Eats (Punct Bang) old new b → IsBang b old new
is_bang true old new h = rw h.1 bang
is_bang false old new h = rw h.0 no_bang

pub bang_comes : (b : Bool) (room : ℕ) (old new : List Token) (stack : List Symbol) → Eats (Punct Bang) old new b → read room (MaybeBang ∷ stack) old ≡ read room stack new
bang_comes true room old new stack h = rw h.1 refl
bang_comes false room old new stack h = no_bang_comes room old stack h.1 ∙ ap (read room stack) (sym h.0)

pub inline_comes : (room : ℕ) (tokens : List Token) (stack : List Symbol) → IsNoName tokens → read room (AfterDots ∷ stack) tokens ≡ read room (MaybeDirectives NotConst ∷ ASet ∷ stack) tokens
inline_comes room [] stack h = refl
inline_comes room (at p (Name k n) ∷ tokens) stack h = absurd h
inline_comes room (at p (Punct At) ∷ tokens) stack h = refl
inline_comes room (at p (Punct BraceLeft) ∷ tokens) stack h = refl
inline_comes room (at p _ ∷ tokens) stack h = refl

-- ---- nothing that may be next is next

pub type_unexpected : (room : ℕ) (tokens : List Token) (stack : List Symbol) → IsNoName tokens → IsNotNext (Punct BracketLeft) tokens → read room (AType ∷ stack) tokens ≡ Stopped (place_of_next tokens)
type_unexpected room [] stack h h' = refl
type_unexpected room (at p (Name k n) ∷ tokens) stack h h' = absurd h
type_unexpected room (at p (Punct BracketLeft) ∷ tokens) stack h h' = absurd (h' refl)
type_unexpected room (at p _ ∷ tokens) stack h h' = refl

pub selection_unexpected : (room : ℕ) (tokens : List Token) (stack : List Symbol) → IsNoName tokens → IsNotNext (Punct punct.Spread) tokens → read room (FirstSelection ∷ stack) tokens ≡ Stopped (place_of_next tokens)
selection_unexpected room [] stack h h' = refl
selection_unexpected room (at p (Name k n) ∷ tokens) stack h h' = absurd h
selection_unexpected room (at p (Punct punct.Spread) ∷ tokens) stack h h' = absurd (h' refl)
selection_unexpected room (at p _ ∷ tokens) stack h h' = refl

pub set_unexpected : (room : ℕ) (tokens : List Token) (stack : List Symbol) → IsNotNext (Punct BraceLeft) tokens → read room (ASet ∷ stack) tokens ≡ Stopped (place_of_next tokens)
set_unexpected room [] stack h = refl
set_unexpected room (at p (Punct BraceLeft) ∷ tokens) stack h = absurd (h refl)
set_unexpected room (at p _ ∷ tokens) stack h = refl

pub definition_unexpected : (room : ℕ) (tokens : List Token) (stack : List Symbol) → IsNoName tokens → IsNotNext (Punct BraceLeft) tokens → read room (ADefinition ∷ stack) tokens ≡ Stopped (place_of_next tokens)
definition_unexpected room [] stack h h' = refl
definition_unexpected room (at p (Name k n) ∷ tokens) stack h h' = absurd h
definition_unexpected room (at p (Punct BraceLeft) ∷ tokens) stack h h' = absurd (h' refl)
definition_unexpected room (at p _ ∷ tokens) stack h h' = refl

pub word_unexpected : (room : ℕ) (p : Place) (k : Keyword) (n : List ℕ) (tokens : List Token) (stack : List Symbol) → (k ≡ Fragment → ⊥) → IsNoKind k → read room (ADefinition ∷ stack) (at p (Name k n) ∷ tokens) ≡ Stopped (Some p)
word_unexpected room p Fragment n tokens stack h h' = absurd (h refl)
word_unexpected room p Query n tokens stack h h' = absurd h'
word_unexpected room p Mutation n tokens stack h h' = absurd h'
word_unexpected room p Subscription n tokens stack h h' = absurd h'
word_unexpected room p _ n tokens stack h h' = refl

-- an operation begins with its kind
pub operation_comes : (room : ℕ) (p : Place) (o : OperationKind) (k : Keyword) (n : List ℕ) (tokens : List Token) (stack : List Symbol) → IsKind o k → read room (ADefinition ∷ stack) (at p (Name k n) ∷ tokens) ≡ read room (an_operation_then ++ stack) tokens
operation_comes room p o k n tokens stack query = refl
operation_comes room p o k n tokens stack mutation = refl
operation_comes room p o k n tokens stack subscription = refl

-- ---- names

pub spread_comes : (room : ℕ) (p : Place) (k : Keyword) (n : List ℕ) (tokens : List Token) (stack : List Symbol) → IsFragmentName k → read room (AfterDots ∷ stack) (at p (Name k n) ∷ tokens) ≡ read room (MaybeDirectives NotConst ∷ stack) tokens
spread_comes room p On n tokens stack h = absurd h
spread_comes room p _ n tokens stack h = refl

-- a name that isn't `on`
pub not_on : (k : Keyword) → (k ≡ On → ⊥) → IsFragmentName k
not_on On h = absurd (h refl)
not_on Query h = tt
not_on Mutation h = tt
not_on Subscription h = tt
not_on Fragment h = tt
not_on True h = tt
not_on False h = tt
not_on Null h = tt
not_on Other h = tt

-- a name that isn't `true`, `false` or `null`
pub not_words : (k : Keyword) → (k ≡ True → ⊥) → (k ≡ False → ⊥) → (k ≡ Null → ⊥) → IsEnumName k
not_words True a b c = absurd (a refl)
not_words False a b c = absurd (b refl)
not_words Null a b c = absurd (c refl)
not_words Query a b c = tt
not_words Mutation a b c = tt
not_words Subscription a b c = tt
not_words Fragment a b c = tt
not_words On a b c = tt
not_words Other a b c = tt

pub not_const : (c : Constness) → (c ≡ Const → ⊥) → c ≡ NotConst
not_const Const h = absurd (h refl)
not_const NotConst h = refl

-- an argument is a field of an object
pub member_then : {c : Constness} {a : tree.Argument} {ms : tree.Members} {before mid after : List Token} → IsArgument c a before mid → AreMembers c ms mid after → AreMembers c (tree.and_member a.place a.name a.value ms) before after
member_then (argument v) rest = next_member v rest

pub condition_comes : {p : Place} {k : Keyword} {n : List ℕ} {before mid : List Token} (room : ℕ) (stack : List Symbol) → k ≡ On → before ≡ at p (Name k n) ∷ mid → read room (AfterDots ∷ stack) before ≡ read room (AName ∷ MaybeDirectives NotConst ∷ ASet ∷ stack) mid
condition_comes room stack is e = rw (e, is) refl

-- a selection set is an operation
pub is_shorthand : {p : Place} {s : tree.SelectionSet} {mid after : List Token} → IsSelectionSet s (at p (Punct BraceLeft) ∷ mid) after
    → IsOperation (record { place = p; kind = kind.Query; name = None; variables = []; directives = []; selection_set = s }) (at p (Punct BraceLeft) ∷ mid) after
is_shorthand (selection_set s ss) = shorthand (selection_set s ss)
