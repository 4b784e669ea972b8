-- Words that the machine denies are some of those that aren't served, and words that it refuses are none of them.
use Rattle.std.specs.Prelude.{codes}
use Rattle.std.proofs.Common.{◌≡◌, ◌≢◌, ℕ, Bool, true, false, List, [], ◌∷◌, ◌++◌, refl, sym, ap, subst, ◌∙◌, ◌⊎◌, inl, inr}
use Rattle.text_place.specs.declared.place.Place.{Place}
use Rattle.gq_lexer.specs.declared.token.Punct.TheVariants.{Bang, Amp, ParenLeft, ParenRight, Colon, Equals, At, BracketLeft, BracketRight, BraceLeft, BraceRight, Pipe}
use Rattle.gq_parser.specs.declared.keyword.Keyword.{Keyword}
use Rattle.gq_parser.specs.declared.keyword.Keyword.TheVariants.{Query, Mutation, Subscription, True, False, Null, Other}
use Rattle.gq_parser.specs.Word.{Word, Punct, Name, Text, Token, at, AreSpelled}
use Rattle.schema_syntax.specs.declared.word.SchemaWord.{SchemaWord}
use Rattle.schema_syntax.specs.declared.word.SchemaWord.TheVariants as word
use Rattle.schema_syntax.specs.Word.{word_of}
use Rattle.schema_syntax.specs.Fault.{IsUnservedWord, definition, operation, implements, float, IsOtherOperation}
use Rattle.schema_syntax.specs.Machine.{Terminal, AColon, AnEquals, ABracket, AParenthesis, AName, ATypeName, AnItem, AnEnumName, AText, ADeprecated, AReason, AQuery, ARootEnd}
use Rattle.schema_syntax.specs.Machine.{Symbol, A, ADefinition, RootBody, ObjectBody, FirstInterface, MoreInterfaces, InterfaceBody, EnumBody, Fields, MaybeArguments, Arguments, MaybeDefault, AType, MaybeBang, MaybeDeprecated, MaybeReason, EnumValues, MaybePipe, MoreMembers, AValue, MoreValues, MoreObjectFields}
use Rattle.schema_syntax.specs.Machine.{Verdict, Move, Takes, Skips, Refuses, Denies, Accepts, Rejects, Bars, verdict, on_verdict, type_name_verdict, enum_name_verdict, deprecated_verdict, reason_verdict, query_verdict, root_end_verdict, implements_verdict, no_implements_verdict, end_verdict, body_move, top_move, move, moved, Shift, Shifts, Refused, Denied, shift}
use Rattle.schema_syntax.proofs.Means.{Means, Shifted, shifts}
use Rattle.schema_syntax.proofs.Back.{a, meets, shifts_back}

-- behind good tokens, where these symbols were expected before them, these can come next
pub record Comes (stack : List Symbol) (good next : List Token) : Type 0 where
  pub more : List Token
  pub spelled : AreSpelled more
  pub means : Means stack (good ++ (next ++ more))

-- a token that may come now
pub goes_comes : (stack next : List Symbol) (p : Place) (w : Word) → shift stack w ≡ Shifts next → Comes stack [] (at p w ∷ [])
goes_comes stack next p w e =
    let m = meets next in
    record { more = m.tokens; spelled = m.spelled; means = shifts_back stack p w m.tokens (subst (λ o. Shifted o m.tokens) (sym e) m.means) }

-- one that may not
pub refused_comes : (stack : List Symbol) (p : Place) (w : Word) (rest : List Token) → shift stack w ≡ Refused → Comes stack [] (at p w ∷ rest) → ⊥
refused_comes stack p w rest e c = subst (λ o. Shifted o (rest ++ c.more)) e (shifts c.means)

pub denied_comes : (stack : List Symbol) (p : Place) (w : Word) (rest : List Token) → shift stack w ≡ Denied → Comes stack [] (at p w ∷ rest) → ⊥
denied_comes stack p w rest e c = subst (λ o. Shifted o (rest ++ c.more)) e (shifts c.means)

-- ---- symbols that are passed over

-- a symbol that is passed over does not matter
pub comes_behind : (s : Symbol) (stack : List Symbol) (p : Place) (w : Word) (rest : List Token) → move s w ≡ Skips → Comes (s ∷ stack) [] (at p w ∷ rest) → Comes stack [] (at p w ∷ rest)
comes_behind s stack p w rest e c =
    let same : shift (s ∷ stack) w ≡ shift stack w = ap (λ m. moved m stack (shift stack w)) e in
    record { more = c.more; spelled = c.spelled; means = shifts_back stack p w (rest ++ c.more) (subst (λ o. Shifted o (rest ++ c.more)) same (shifts c.means)) }

pub comes_before : (s : Symbol) (stack : List Symbol) (p : Place) (w : Word) (rest : List Token) → move s w ≡ Skips → Comes stack [] (at p w ∷ rest) → Comes (s ∷ stack) [] (at p w ∷ rest)
comes_before s stack p w rest e c =
    let same : shift (s ∷ stack) w ≡ shift stack w = ap (λ m. moved m stack (shift stack w)) e in
    record { more = c.more; spelled = c.spelled; means = shifts_back (s ∷ stack) p w (rest ++ c.more) (subst (λ o. Shifted o (rest ++ c.more)) (sym same) (shifts c.means)) }

-- says what passes over the words that are asked about
pub record IsPassed (s : Symbol) : Type 0 where
  pub names : (k : Keyword) (n : List ℕ) → move s (Name k n) ≡ Skips
  pub opens : move s (Punct BraceLeft) ≡ Skips
  pub closes : move s (Punct BraceRight) ≡ Skips
  pub ampersand : move s (Punct Amp) ≡ Skips

either : {P Q R S : Type 0} → (P → R) → (Q → S) → P ⊎ Q → R ⊎ S
either f g (inl x) = inl (f x)
either f g (inr y) = inr (g y)

word_before : (s : Symbol) (stack : List Symbol) (t : Token) → IsPassed s → IsUnservedWord (Comes stack []) t → IsUnservedWord (Comes (s ∷ stack) []) t
word_before s stack t h (definition {p = p} {k = k} e c) = definition e (comes_before s stack p (Name k (codes "type")) [] (h.names k (codes "type")) c)
word_before s stack t h (operation {p = p} e c) = operation e (either (comes_before s stack p (Name Query (codes "query")) [] (h.names Query (codes "query"))) (comes_before s stack p (Punct BraceRight) [] h.closes) c)
word_before s stack t h (implements {p = p} e c d) = implements e (comes_before s stack p (Punct BraceLeft) _ h.opens c) (λ x. d (comes_behind s stack p (Punct Amp) [] h.ampersand x))
word_before s stack t h (float {p = p} {k = k} e c) = float e (comes_before s stack p (Name k a) [] (h.names k a) c)

passes_arguments : IsPassed MaybeArguments
passes_arguments = record { names = λ k n. refl; opens = refl; closes = refl; ampersand = refl }

passes_default : IsPassed MaybeDefault
passes_default = record { names = λ k n. refl; opens = refl; closes = refl; ampersand = refl }

passes_bang : IsPassed MaybeBang
passes_bang = record { names = λ k n. refl; opens = refl; closes = refl; ampersand = refl }

passes_deprecated : IsPassed MaybeDeprecated
passes_deprecated = record { names = λ k n. refl; opens = refl; closes = refl; ampersand = refl }

passes_reason : IsPassed MaybeReason
passes_reason = record { names = λ k n. refl; opens = refl; closes = refl; ampersand = refl }

passes_pipe : IsPassed MaybePipe
passes_pipe = record { names = λ k n. refl; opens = refl; closes = refl; ampersand = refl }

passes_members : IsPassed MoreMembers
passes_members = record { names = λ k n. refl; opens = refl; closes = refl; ampersand = refl }

-- ---- the item of a list type comes right behind its bracket

abbrev pub Plain : List Symbol → Type 0
Plain [] = Unit {0}
Plain (A AnItem ∷ stack) = ⊥
Plain (_ ∷ stack) = Plain stack

-- such an item is expected at once, or not at all
abbrev pub Lawful : List Symbol → Type 0
Lawful [] = Unit {0}
Lawful (s ∷ stack) = Plain stack

pub plain_lawful : (stack : List Symbol) → Plain stack → Lawful stack
plain_lawful [] h = tt
plain_lawful (A AnItem ∷ stack) h = absurd h
plain_lawful (_ ∷ stack) h = h

plain_joined : (symbols stack : List Symbol) → Plain symbols → Plain stack → Plain (symbols ++ stack)
plain_joined [] stack h h' = h'
plain_joined (A AnItem ∷ symbols) stack h h' = absurd h
plain_joined (_ ∷ symbols) stack h h' = plain_joined symbols stack h h'

abbrev PlainMove : Move → Type 0
PlainMove (Takes symbols) = Plain symbols
PlainMove _ = Unit {0}

plain_verdict : (v : Verdict) (symbols : List Symbol) → Plain symbols → PlainMove (on_verdict v symbols)
plain_verdict Accepts symbols h = h
plain_verdict Rejects symbols h = tt
plain_verdict Bars symbols h = tt

plain_body : (s : SchemaWord) → PlainMove (body_move s)
plain_body word.Schema = tt
plain_body word.Object = tt
plain_body word.Interface = tt
plain_body word.Union = tt
plain_body word.Enum = tt
plain_body word.Unserved = tt
plain_body _ = tt

plain_move : (s : Symbol) (w : Word) → w ≢ Punct BracketLeft → PlainMove (move s w)
plain_move (A x) w h = plain_verdict (verdict x w) [] tt
plain_move ADefinition (Name k n) h = plain_body (word_of n)
plain_move ObjectBody (Name k n) h = plain_verdict (implements_verdict (word_of n)) (FirstInterface ∷ []) tt
plain_move FirstInterface (Name k n) h = plain_verdict (type_name_verdict (word_of n)) (MoreInterfaces ∷ []) tt
plain_move InterfaceBody (Name k n) h = plain_verdict (no_implements_verdict (word_of n)) [] tt
plain_move (Fields none) (Punct BraceRight) h = plain_verdict (end_verdict none) [] tt
plain_move (Arguments none) (Punct ParenRight) h = plain_verdict (end_verdict none) [] tt
plain_move AType (Name k n) h = plain_verdict (type_name_verdict (word_of n)) (MaybeBang ∷ []) tt
plain_move AType (Punct BracketLeft) h = absurd (h refl)
plain_move (EnumValues none) (Name k n) h = plain_verdict (enum_name_verdict k) (MaybeDeprecated ∷ EnumValues true ∷ []) tt
plain_move (EnumValues none) (Punct BraceRight) h = plain_verdict (end_verdict none) [] tt
plain_move RootBody (Punct BraceLeft) h = tt
plain_move ObjectBody (Punct BraceLeft) h = tt
plain_move FirstInterface (Punct Amp) h = tt
plain_move MoreInterfaces (Punct Amp) h = tt
plain_move MoreInterfaces (Punct BraceLeft) h = tt
plain_move InterfaceBody (Punct BraceLeft) h = tt
plain_move EnumBody (Punct BraceLeft) h = tt
plain_move (Fields none) (Text s) h = tt
plain_move (Fields none) (Name k n) h = tt
plain_move MaybeArguments (Punct ParenLeft) h = tt
plain_move (Arguments none) (Text s) h = tt
plain_move (Arguments none) (Name k n) h = tt
plain_move MaybeDefault (Punct Equals) h = tt
plain_move MaybeBang (Punct Bang) h = tt
plain_move MaybeDeprecated (Punct At) h = tt
plain_move MaybeReason (Punct ParenLeft) h = tt
plain_move (EnumValues none) (Text s) h = tt
plain_move MaybePipe (Punct Pipe) h = tt
plain_move MoreMembers (Punct Pipe) h = tt
plain_move AValue (Punct BracketLeft) h = tt
plain_move AValue (Punct BraceLeft) h = tt
plain_move MoreValues (Punct BracketLeft) h = tt
plain_move MoreValues (Punct BraceLeft) h = tt
plain_move MoreValues (Punct BracketRight) h = tt
plain_move MoreObjectFields (Name k n) h = tt
plain_move MoreObjectFields (Punct BraceRight) h = tt
plain_move _ _ h = tt

plain_top : (w : Word) → PlainMove (top_move w)
plain_top (Text s) = tt
plain_top (Name k n) = plain_body (word_of n)
plain_top _ = tt

-- the symbols that are expected after a token that goes on
plain_moved : (m : Move) (stack next : List Symbol) (skipped : Shift) → PlainMove m → Plain stack → (skipped ≡ Shifts next → Plain next) → moved m stack skipped ≡ Shifts next → Plain next
plain_moved (Takes symbols) stack next skipped h h' later e = subst Plain (taken e) (plain_joined symbols stack h h')
  where
    taken : {x y : List Symbol} → Shifts x ≡ Shifts y → x ≡ y
    taken e' = cc
plain_moved Skips stack next skipped h h' later e = later e
plain_moved Refuses stack next skipped h h' later e = absurd (cc)
plain_moved Denies stack next skipped h h' later e = absurd (cc)

-- the stack below the first symbol
abbrev below : List Symbol → List Symbol
below [] = []
below (s ∷ stack) = stack

plain_shift : (stack next : List Symbol) (w : Word) → w ≢ Punct BracketLeft → Lawful stack → shift stack w ≡ Shifts next → Plain next
plain_shift [] next w other h e = plain_moved (top_move w) [] next Refused (plain_top w) tt (λ e'. absurd (cc)) e
plain_shift (s ∷ stack) next w other h e = plain_moved (move s w) stack next (shift stack w) (plain_move s w other) h (plain_shift stack next w other (plain_lawful stack h)) e

shifts_is : {x y : List Symbol} → Shifts x ≡ Shifts y → x ≡ y
shifts_is e = cc

never_bracket : (x : Terminal) (stack next : List Symbol) (skipped : Shift) → moved (on_verdict (verdict x (Punct BracketLeft)) []) stack skipped ≡ Shifts next → ⊥
never_bracket AnItem stack next skipped e = cc
never_bracket AColon stack next skipped e = cc
never_bracket _ stack next skipped e = cc

bracket_lawful : (stack next : List Symbol) → Lawful stack → shift stack (Punct BracketLeft) ≡ Shifts next → Lawful next
bracket_lawful [] next h e = absurd (cc)
bracket_lawful (MaybeArguments ∷ stack) next h e = bracket_lawful stack next (plain_lawful stack h) e
bracket_lawful (MaybeDefault ∷ stack) next h e = bracket_lawful stack next (plain_lawful stack h) e
bracket_lawful (MaybeBang ∷ stack) next h e = bracket_lawful stack next (plain_lawful stack h) e
bracket_lawful (MaybeDeprecated ∷ stack) next h e = bracket_lawful stack next (plain_lawful stack h) e
bracket_lawful (MaybeReason ∷ stack) next h e = bracket_lawful stack next (plain_lawful stack h) e
bracket_lawful (MaybePipe ∷ stack) next h e = bracket_lawful stack next (plain_lawful stack h) e
bracket_lawful (MoreMembers ∷ stack) next h e = bracket_lawful stack next (plain_lawful stack h) e
bracket_lawful (AType ∷ stack) next h e = subst Lawful (shifts_is e) h
bracket_lawful (AValue ∷ stack) next h e = subst Lawful (shifts_is e) h
bracket_lawful (MoreValues ∷ stack) next h e = subst Lawful (shifts_is e) h
bracket_lawful (A x ∷ stack) next h e = absurd (never_bracket x stack next (shift stack (Punct BracketLeft)) e)
bracket_lawful (_ ∷ stack) next h e = absurd (cc)

is_bracket : (w : Word) → (w ≡ Punct BracketLeft) ⊎ (w ≢ Punct BracketLeft)
is_bracket (Punct BracketLeft) = inl refl
is_bracket _ = inr (λ e. cc)

-- behind a token no item is expected, but behind a `[`
pub keeps : (stack next : List Symbol) (w : Word) → Lawful stack → shift stack w ≡ Shifts next → Plain next ⊎ ((w ≡ Punct BracketLeft) × Lawful next)
keeps stack next w h e = elim (is_bracket w) [
  | inl is ↦ inr (is, bracket_lawful stack next h (ap (shift stack) (sym is) ∙ e))
  | inr other ↦ inl (plain_shift stack next w other h e)
]

-- ---- what is denied isn't served

type_name_denied : (s : SchemaWord) → type_name_verdict s ≡ Bars → s ≡ word.Float
type_name_denied word.Float e = refl
type_name_denied _ e = absurd (cc)

body_denied : (s : SchemaWord) (stack : List Symbol) (skipped : Shift) → moved (body_move s) stack skipped ≡ Denied → s ≡ word.Unserved
body_denied word.Unserved stack skipped e = refl
body_denied word.Schema stack skipped e = absurd (cc)
body_denied word.Object stack skipped e = absurd (cc)
body_denied word.Interface stack skipped e = absurd (cc)
body_denied word.Union stack skipped e = absurd (cc)
body_denied word.Enum stack skipped e = absurd (cc)
body_denied _ stack skipped e = absurd (cc)

no_implements_denied : (s : SchemaWord) → no_implements_verdict s ≡ Bars → s ≡ word.Implements
no_implements_denied word.Implements e = refl
no_implements_denied _ e = absurd (cc)

query_denied : (k : Keyword) → query_verdict k ≡ Bars → IsOtherOperation k
query_denied Mutation e = tt
query_denied Subscription e = tt
query_denied Query e = absurd (cc)
query_denied _ e = absurd (cc)

root_end_denied : (k : Keyword) → root_end_verdict k ≡ Bars → IsOtherOperation k
root_end_denied Mutation e = tt
root_end_denied Subscription e = tt
root_end_denied _ e = absurd (cc)

enum_name_denied : (k : Keyword) → enum_name_verdict k ≡ Bars → ⊥
enum_name_denied True e = cc
enum_name_denied False e = cc
enum_name_denied Null e = cc
enum_name_denied _ e = cc

deprecated_denied : (s : SchemaWord) → deprecated_verdict s ≡ Bars → ⊥
deprecated_denied word.Deprecated e = cc
deprecated_denied _ e = cc

reason_denied : (s : SchemaWord) → reason_verdict s ≡ Bars → ⊥
reason_denied word.Reason e = cc
reason_denied _ e = cc

implements_denied : (s : SchemaWord) → implements_verdict s ≡ Bars → ⊥
implements_denied word.Implements e = cc
implements_denied _ e = cc

end_denied : (b : Bool) → end_verdict b ≡ Bars → ⊥
end_denied true e = cc
end_denied false e = cc

-- the verdict that denies
barred : (v : Verdict) (symbols stack : List Symbol) (skipped : Shift) → moved (on_verdict v symbols) stack skipped ≡ Denied → v ≡ Bars
barred Accepts symbols stack skipped e = absurd (cc)
barred Rejects symbols stack skipped e = absurd (cc)
barred Bars symbols stack skipped e = refl

abbrev DeniedWord : List Symbol → Place → Word → Type 0
DeniedWord stack p w = IsUnservedWord (Comes stack []) (at p w) ⊎ ((w ≡ Punct BracketLeft) × (Plain stack → ⊥))

denied_behind : (s : Symbol) (stack : List Symbol) (p : Place) (w : Word) → IsPassed s → Plain stack → DeniedWord stack p w → DeniedWord (s ∷ stack) p w
denied_behind s stack p w passed h (inl u) = inl (word_before s stack (at p w) passed u)
denied_behind s stack p w passed h (inr x) = absurd (x.1 h)

denied_float : (s : Symbol) (stack symbols : List Symbol) (p : Place) (k : Keyword) (n : List ℕ) (skipped : Shift) → move s (Name k a) ≡ Takes symbols → moved (on_verdict (type_name_verdict (word_of n)) symbols) stack skipped ≡ Denied → DeniedWord (s ∷ stack) p (Name k n)
denied_float s stack symbols p k n skipped e d = inl (float (type_name_denied (word_of n) (barred (type_name_verdict (word_of n)) symbols stack skipped d)) (goes_comes (s ∷ stack) (symbols ++ stack) p (Name k a) (ap (λ m. moved m stack (shift stack (Name k a))) e)))

-- fields in braces, behind the name of an interface
interface_comes : (p : Place) (stack : List Symbol) → Comes (InterfaceBody ∷ stack) [] (at p (Punct BraceLeft) ∷ at p (Name Other a) ∷ at p (Punct Colon) ∷ [])
interface_comes p stack =
    let m = meets (AType ∷ MaybeDeprecated ∷ Fields true ∷ stack) in
    record {
      more = m.tokens;
      spelled = m.spelled;
      means = shifts_back (InterfaceBody ∷ stack) p (Punct BraceLeft) _ (shifts_back (Fields false ∷ stack) p (Name Other a) _ (shifts_back (MaybeArguments ∷ A AColon ∷ AType ∷ MaybeDeprecated ∷ Fields true ∷ stack) p (Punct Colon) m.tokens m.means));
    }

-- a token that is denied isn't served
pub denied : (stack : List Symbol) (p : Place) (w : Word) → Lawful stack → shift stack w ≡ Denied → DeniedWord stack p w
denied [] p (Name k n) h e = inl (definition (body_denied (word_of n) [] Refused e) (goes_comes [] (A ATypeName ∷ ObjectBody ∷ []) p (Name k (codes "type")) refl))
denied [] p (Text s) h e = absurd (cc)
denied [] p _ h e = absurd (cc)
denied (A ATypeName ∷ stack) p (Name k n) h e = denied_float (A ATypeName) stack [] p k n (shift stack (Name k n)) refl e
denied (A AnItem ∷ stack) p (Name k n) h e = denied_float (A AnItem) stack [] p k n (shift stack (Name k n)) refl e
denied (A AnItem ∷ stack) p (Punct BracketLeft) h e = inr (refl, λ x. x)
denied (A AQuery ∷ stack) p (Name k n) h e = inl (operation (query_denied k (barred (query_verdict k) [] stack (shift stack (Name k n)) e)) (inl (goes_comes (A AQuery ∷ stack) stack p (Name Query (codes "query")) refl)))
denied (A ARootEnd ∷ stack) p (Name k n) h e = inl (operation (root_end_denied k (barred (root_end_verdict k) [] stack (shift stack (Name k n)) e)) (inr (goes_comes (A ARootEnd ∷ stack) stack p (Punct BraceRight) refl)))
denied (A ARootEnd ∷ stack) p (Punct BraceRight) h e = absurd (cc)
denied (A AnEnumName ∷ stack) p (Name k n) h e = absurd (enum_name_denied k (barred (enum_name_verdict k) [] stack (shift stack (Name k n)) e))
denied (A ADeprecated ∷ stack) p (Name k n) h e = absurd (deprecated_denied (word_of n) (barred (deprecated_verdict (word_of n)) [] stack (shift stack (Name k n)) e))
denied (A AReason ∷ stack) p (Name k n) h e = absurd (reason_denied (word_of n) (barred (reason_verdict (word_of n)) [] stack (shift stack (Name k n)) e))
denied (A AColon ∷ stack) p (Punct Colon) h e = absurd (cc)
denied (A AnEquals ∷ stack) p (Punct Equals) h e = absurd (cc)
denied (A ABracket ∷ stack) p (Punct BracketRight) h e = absurd (cc)
denied (A AParenthesis ∷ stack) p (Punct ParenRight) h e = absurd (cc)
denied (A AName ∷ stack) p (Name k n) h e = absurd (cc)
denied (A AText ∷ stack) p (Text s) h e = absurd (cc)
denied (ADefinition ∷ stack) p (Name k n) h e = inl (definition (body_denied (word_of n) stack (shift stack (Name k n)) e) (goes_comes (ADefinition ∷ stack) (A ATypeName ∷ ObjectBody ∷ stack) p (Name k (codes "type")) refl))
denied (RootBody ∷ stack) p (Punct BraceLeft) h e = absurd (cc)
denied (ObjectBody ∷ stack) p (Name k n) h e = absurd (implements_denied (word_of n) (barred (implements_verdict (word_of n)) (FirstInterface ∷ []) stack (shift stack (Name k n)) e))
denied (ObjectBody ∷ stack) p (Punct BraceLeft) h e = absurd (cc)
denied (FirstInterface ∷ stack) p (Name k n) h e = denied_float FirstInterface stack (MoreInterfaces ∷ []) p k n (shift stack (Name k n)) refl e
denied (FirstInterface ∷ stack) p (Punct Amp) h e = absurd (cc)
denied (MoreInterfaces ∷ stack) p (Punct Amp) h e = absurd (cc)
denied (MoreInterfaces ∷ stack) p (Punct BraceLeft) h e = absurd (cc)
denied (InterfaceBody ∷ stack) p (Name k n) h e = inl (implements (no_implements_denied (word_of n) (barred (no_implements_verdict (word_of n)) [] stack (shift stack (Name k n)) e)) (interface_comes p stack) (λ c. shifts c.means))
denied (InterfaceBody ∷ stack) p (Punct BraceLeft) h e = absurd (cc)
denied (EnumBody ∷ stack) p (Punct BraceLeft) h e = absurd (cc)
denied (Fields none ∷ stack) p (Text s) h e = absurd (cc)
denied (Fields none ∷ stack) p (Name k n) h e = absurd (cc)
denied (Fields none ∷ stack) p (Punct BraceRight) h e = absurd (end_denied none (barred (end_verdict none) [] stack (shift stack (Punct BraceRight)) e))
denied (Arguments none ∷ stack) p (Text s) h e = absurd (cc)
denied (Arguments none ∷ stack) p (Name k n) h e = absurd (cc)
denied (Arguments none ∷ stack) p (Punct ParenRight) h e = absurd (end_denied none (barred (end_verdict none) [] stack (shift stack (Punct ParenRight)) e))
denied (AType ∷ stack) p (Name k n) h e = denied_float AType stack (MaybeBang ∷ []) p k n (shift stack (Name k n)) refl e
denied (AType ∷ stack) p (Punct BracketLeft) h e = absurd (cc)
denied (EnumValues none ∷ stack) p (Text s) h e = absurd (cc)
denied (EnumValues none ∷ stack) p (Name k n) h e = absurd (enum_name_denied k (barred (enum_name_verdict k) (MaybeDeprecated ∷ EnumValues true ∷ []) stack (shift stack (Name k n)) e))
denied (EnumValues none ∷ stack) p (Punct BraceRight) h e = absurd (end_denied none (barred (end_verdict none) [] stack (shift stack (Punct BraceRight)) e))
denied (AValue ∷ stack) p (Punct BracketLeft) h e = absurd (cc)
denied (AValue ∷ stack) p (Punct BraceLeft) h e = absurd (cc)
denied (MoreValues ∷ stack) p (Punct BracketLeft) h e = absurd (cc)
denied (MoreValues ∷ stack) p (Punct BraceLeft) h e = absurd (cc)
denied (MoreValues ∷ stack) p (Punct BracketRight) h e = absurd (cc)
denied (MoreObjectFields ∷ stack) p (Name k n) h e = absurd (cc)
denied (MoreObjectFields ∷ stack) p (Punct BraceRight) h e = absurd (cc)
denied (MaybeArguments ∷ stack) p (Punct ParenLeft) h e = absurd (cc)
denied (MaybeArguments ∷ stack) p w h e = denied_behind MaybeArguments stack p w passes_arguments h (denied stack p w (plain_lawful stack h) e)
denied (MaybeDefault ∷ stack) p (Punct Equals) h e = absurd (cc)
denied (MaybeDefault ∷ stack) p w h e = denied_behind MaybeDefault stack p w passes_default h (denied stack p w (plain_lawful stack h) e)
denied (MaybeBang ∷ stack) p (Punct Bang) h e = absurd (cc)
denied (MaybeBang ∷ stack) p w h e = denied_behind MaybeBang stack p w passes_bang h (denied stack p w (plain_lawful stack h) e)
denied (MaybeDeprecated ∷ stack) p (Punct At) h e = absurd (cc)
denied (MaybeDeprecated ∷ stack) p w h e = denied_behind MaybeDeprecated stack p w passes_deprecated h (denied stack p w (plain_lawful stack h) e)
denied (MaybeReason ∷ stack) p (Punct ParenLeft) h e = absurd (cc)
denied (MaybeReason ∷ stack) p w h e = denied_behind MaybeReason stack p w passes_reason h (denied stack p w (plain_lawful stack h) e)
denied (MaybePipe ∷ stack) p (Punct Pipe) h e = absurd (cc)
denied (MaybePipe ∷ stack) p w h e = denied_behind MaybePipe stack p w passes_pipe h (denied stack p w (plain_lawful stack h) e)
denied (MoreMembers ∷ stack) p (Punct Pipe) h e = absurd (cc)
denied (MoreMembers ∷ stack) p w h e = denied_behind MoreMembers stack p w passes_members h (denied stack p w (plain_lawful stack h) e)
denied (_ ∷ stack) p _ h e = absurd (cc)
