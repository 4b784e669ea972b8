-- From the machine to the tokens, and what meets whatever is expected.
use Rattle.std.specs.Prelude.{codes}
use Rattle.std.proofs.Common.{◌≡◌, ◌≢◌, ℕ, Bool, true, false, List, [], ◌∷◌, ◌++◌, Option, None, refl, sym, subst}
use Rattle.text_place.specs.declared.place.Place.{Place}
use Rattle.gq_lexer.specs.declared.token.Punct as lexer
use Rattle.gq_lexer.specs.declared.token.Punct.TheVariants.{Bang, Amp, ParenLeft, ParenRight, Colon, Equals, At, BracketLeft, BracketRight, BraceLeft, BraceRight, Pipe}
use Rattle.gq_parser.specs.declared.value.Constness.TheVariants.{Const}
use Rattle.gq_parser.specs.declared.keyword.Keyword.{Keyword}
use Rattle.gq_parser.specs.declared.keyword.Keyword.TheVariants.{Query, True, False, Null}
use Rattle.gq_parser.specs.Word.{Word, Punct, Name, Text, Token, at}
use Rattle.gq_parser.specs.Keywords.{IsEnumName}
use Rattle.gq_parser.specs.Word as words
use Rattle.gq_parser.specs.Tree.{Value, TypeTree, Named}
use Rattle.gq_parser.specs.Grammar as value
use Rattle.gq_parser.specs.Grammar.{IsValue, IsBang, no_bang, bang, IsType, named, list_of, IsDefault, no_default, default}
use Rattle.schema_syntax.specs.declared.word.SchemaWord.{SchemaWord}
use Rattle.schema_syntax.specs.declared.word.SchemaWord.TheVariants as word
use Rattle.schema_syntax.specs.Word.{word_of, IsServedName}
use Rattle.schema_syntax.specs.Tree as tree
use Rattle.schema_syntax.specs.Tree.{Definition}
use Rattle.schema_syntax.specs.Grammar.{IsDescription, no_description, description, IsName, a_name, IsTypeName, type_name, IsServedType, IsReason, no_reason, reason, IsDeprecated, not_deprecated, deprecated, argument, AreArguments, no_more_arguments, next_argument, AreOptionalArguments, no_arguments, arguments}
use Rattle.schema_syntax.specs.Grammar.{field, AreFields, no_more_fields, next_field, enum_value, AreEnumValues, no_more_values, next_value, no_ampersand, ampersand, no_more_interfaces, next_interface, no_interfaces, interfaces}
use Rattle.schema_syntax.specs.Grammar.{IsPipe, no_pipe, pipe, no_more_members, next_member, IsBody, schema, object, interface, union, enum, definition, no_more_definitions, next_definition}
use Rattle.schema_syntax.specs.Machine.{Terminal, AColon, AnEquals, ABracket, AParenthesis, AName, ATypeName, AnItem, AnEnumName, AText, ADeprecated, AReason, AQuery, ARootEnd}
use Rattle.schema_syntax.specs.Machine.{Symbol, A, ADefinition, RootBody, ObjectBody, FirstInterface, MoreInterfaces, InterfaceBody, EnumBody, Fields, MaybeArguments, Arguments, MaybeDefault, AType, MaybeBang, MaybeDeprecated, MaybeReason, EnumValues, MaybePipe, MoreMembers, AValue, MoreValues, MoreObjectFields}
use Rattle.schema_syntax.specs.Machine.{Verdict, Accepts, Rejects, Bars, verdict, on_verdict, type_name_verdict, enum_name_verdict, deprecated_verdict, reason_verdict, query_verdict, implements_verdict, no_implements_verdict, end_verdict, body_move, moved, Shift, shift, at_end, a_root, a_field_then, an_argument_then, a_value_then}
use Rattle.gq_parser.specs.declared.keyword.Keyword.TheVariants.{Mutation, Subscription, Fragment, On, Other}
use Rattle.gq_parser.specs.Word.{AreSpelled}
use Rattle.gq_parser.specs.Keywords.{keyword_of}
use Rattle.schema_syntax.proofs.Means.{IsNotNext, EndsUnion, Derives, Means, ends, then', Shifted}
use Rattle.schema_syntax.proofs.Means.{d_terminal, d_definition, d_root, d_object, d_first_interface, d_interfaces, d_interface, d_enum, d_fields, d_no_arguments, d_some_arguments, d_arguments, d_no_default, d_default, d_type, d_list_type, d_no_bang, d_bang, d_not_deprecated, d_deprecated, d_no_reason, d_reason, d_values, d_no_pipe, d_pipe, d_members, d_value, d_more_values, d_object_fields}

-- ---- what a verdict says

pub accepts_served : (s : SchemaWord) → type_name_verdict s ≡ Accepts → s ≢ word.Float
accepts_served word.Float e = absurd (cc)
accepts_served _ e = λ h. cc

pub accepts_enum_name : (k : Keyword) → enum_name_verdict k ≡ Accepts → IsEnumName k
accepts_enum_name True e = absurd (cc)
accepts_enum_name False e = absurd (cc)
accepts_enum_name Null e = absurd (cc)
accepts_enum_name _ e = tt

accepts_deprecated : (s : SchemaWord) → deprecated_verdict s ≡ Accepts → s ≡ word.Deprecated
accepts_deprecated word.Deprecated e = refl
accepts_deprecated _ e = absurd (cc)

accepts_reason : (s : SchemaWord) → reason_verdict s ≡ Accepts → s ≡ word.Reason
accepts_reason word.Reason e = refl
accepts_reason _ e = absurd (cc)

accepts_implements : (s : SchemaWord) → implements_verdict s ≡ Accepts → s ≡ word.Implements
accepts_implements word.Implements e = refl
accepts_implements _ e = absurd (cc)

-- a token that was taken was accepted
accepted : (v : Verdict) (symbols stack : List Symbol) (skipped : Shift) (tokens : List Token) → Shifted (moved (on_verdict v symbols) stack skipped) tokens → (v ≡ Accepts) × Means (symbols ++ stack) tokens
accepted Accepts symbols stack skipped tokens h = (refl, h)
accepted Rejects symbols stack skipped tokens h = absurd h
accepted Bars symbols stack skipped tokens h = absurd h

never : (symbols stack : List Symbol) (skipped : Shift) (tokens : List Token) (v : Verdict) → (v ≡ Accepts → ⊥) → Shifted (moved (on_verdict v symbols) stack skipped) tokens → ⊥
never symbols stack skipped tokens v impossible h = impossible (accepted v symbols stack skipped tokens h).0

-- ---- from symbols to the grammar

type_name_back : {before after : List Token} → Derives (A ATypeName) before after → (n : tree.Name) × IsTypeName n before after
type_name_back (d_terminal {w = Name k n} e) = (_, type_name (accepts_served (word_of n) e))
type_name_back (d_terminal {w = _} e) = absurd (cc)

item_back : (w : Word) → verdict AnItem w ≡ Accepts → (k : Keyword) × (n : List ℕ) × (w ≡ Name k n) × IsServedName n
item_back (Name k n) e = (k, n, refl, accepts_served (word_of n) e)
item_back (Punct BracketLeft) e = absurd (cc)
item_back _ e = absurd (cc)

name_back : {before after : List Token} → Derives (A AName) before after → (n : tree.Name) × IsName n before after
name_back (d_terminal {w = Name k n} e) = (_, a_name)
name_back (d_terminal {w = _} e) = absurd (cc)

-- a punctuator
pub record IsMark (w : Word) (before after : List Token) : Type 0 where
  pub place : Place
  pub is : before ≡ at place w ∷ after

colon_back : {before after : List Token} → Derives (A AColon) before after → IsMark (Punct Colon) before after
colon_back (d_terminal {w = Punct Colon} e) = record { place = _; is = refl }
colon_back (d_terminal {w = _} e) = absurd (cc)

equals_back : {before after : List Token} → Derives (A AnEquals) before after → IsMark (Punct Equals) before after
equals_back (d_terminal {w = Punct Equals} e) = record { place = _; is = refl }
equals_back (d_terminal {w = _} e) = absurd (cc)

bracket_back : {before after : List Token} → Derives (A ABracket) before after → IsMark (Punct BracketRight) before after
bracket_back (d_terminal {w = Punct BracketRight} e) = record { place = _; is = refl }
bracket_back (d_terminal {w = _} e) = absurd (cc)

parenthesis_back : {before after : List Token} → Derives (A AParenthesis) before after → IsMark (Punct ParenRight) before after
parenthesis_back (d_terminal {w = Punct ParenRight} e) = record { place = _; is = refl }
parenthesis_back (d_terminal {w = _} e) = absurd (cc)

root_end_never : (k : Keyword) → verdict ARootEnd (Name k []) ≡ Accepts → ⊥
root_end_never Mutation e = cc
root_end_never Subscription e = cc
root_end_never _ e = cc

root_end_back : {before after : List Token} → Derives (A ARootEnd) before after → IsMark (Punct BraceRight) before after
root_end_back (d_terminal {w = Punct BraceRight} e) = record { place = _; is = refl }
root_end_back (d_terminal {w = Name k n} e) = absurd (root_end_never k e)
root_end_back (d_terminal {w = _} e) = absurd (cc)

-- this token says what this terminal is
pub record IsWordOf (P : Keyword → List ℕ → Type 0) (before after : List Token) : Type 0 where
  pub place : Place
  pub keyword : Keyword
  pub name : List ℕ
  pub is : before ≡ at place (Name keyword name) ∷ after
  pub holds : P keyword name

is_query : (k : Keyword) → query_verdict k ≡ Accepts → k ≡ Query
is_query Query e = refl
is_query Mutation e = absurd (cc)
is_query Subscription e = absurd (cc)
is_query _ e = absurd (cc)

query_back : {before after : List Token} → Derives (A AQuery) before after → IsWordOf (λ k n. k ≡ Query) before after
query_back (d_terminal {w = Name k n} e) = record { place = _; keyword = k; name = n; is = refl; holds = is_query k e }
query_back (d_terminal {w = _} e) = absurd (cc)

reason_name_back : {before after : List Token} → Derives (A AReason) before after → IsWordOf (λ k n. word_of n ≡ word.Reason) before after
reason_name_back (d_terminal {w = Name k n} e) = record { place = _; keyword = k; name = n; is = refl; holds = accepts_reason (word_of n) e }
reason_name_back (d_terminal {w = _} e) = absurd (cc)

deprecated_name_back : {before after : List Token} → Derives (A ADeprecated) before after → IsWordOf (λ k n. word_of n ≡ word.Deprecated) before after
deprecated_name_back (d_terminal {w = Name k n} e) = record { place = _; keyword = k; name = n; is = refl; holds = accepts_deprecated (word_of n) e }
deprecated_name_back (d_terminal {w = _} e) = absurd (cc)

enum_name_back : {before after : List Token} → Derives (A AnEnumName) before after → IsWordOf (λ k n. IsEnumName k) before after
enum_name_back (d_terminal {w = Name k n} e) = record { place = _; keyword = k; name = n; is = refl; holds = accepts_enum_name k e }
enum_name_back (d_terminal {w = _} e) = absurd (cc)

text_back : {before after : List Token} → Derives (A AText) before after → (p : Place) × (s : List ℕ) × (before ≡ at p (Text s) ∷ after)
text_back (d_terminal {w = Text s} e) = (_, s, refl)
text_back (d_terminal {w = _} e) = absurd (cc)

bang_back : {before after : List Token} → Derives MaybeBang before after → (b : Bool) × IsBang b before after
bang_back (d_no_bang h) = (false, no_bang)
bang_back d_bang = (true, bang)

reason_back : {before after : List Token} → Derives MaybeReason before after → IsReason before after
reason_back (d_no_reason h) = no_reason
reason_back (d_reason e) = reason e

deprecated_back : {before after : List Token} → Derives MaybeDeprecated before after → IsDeprecated before after
deprecated_back (d_not_deprecated h) = not_deprecated
deprecated_back (d_deprecated e r) = deprecated e (reason_back r)

default_back : {before after : List Token} → Derives MaybeDefault before after → (v : Option Value) × IsDefault v before after
default_back (d_no_default h) = (None, no_default)
default_back (d_default v) = (_, default v)

arguments_back : {before after : List Token} → Derives MaybeArguments before after → (as' : List tree.Argument) × AreOptionalArguments as' before after
arguments_back (d_no_arguments h) = ([], no_arguments)
arguments_back (d_some_arguments others) = (_, arguments others)

pipe_back : {before after : List Token} → Derives MaybePipe before after → IsPipe before after
pipe_back (d_no_pipe h) = no_pipe
pipe_back d_pipe = pipe

type_back : {before after : List Token} → Derives AType before after → (t : TypeTree) × IsType t before after × IsServedType t
type_back (d_type served b) = (_, named (bang_back b).1, served)
type_back (d_list_type served b' b) = (_, list_of (named (bang_back b').1) (bang_back b).1, served)

-- a field, whose name was read, and the fields behind it
pub record FieldBack (none : Bool) (before : List Token) (stack : List Symbol) : Type 0 where
  pub fields : List tree.Field
  pub after : List Token
  pub are : AreFields none fields before after
  pub rest : Means stack after

field_back : {none : Bool} {n : tree.Name} {before mid mid' : List Token} {stack : List Symbol} → IsDescription before mid → IsName n mid mid' → Means (a_field_then ++ stack) mid' → FieldBack none before stack
field_back {mid' = mid'} desc name (then' args (then' colon (then' ty (then' dep (then' (d_fields fs) rest))))) =
    let m = colon_back colon in
    let a = arguments_back args in
    let t = type_back ty in
    record { fields = _; after = _; are = next_field (field desc name (subst (λ x. AreOptionalArguments a.0 mid' x) m.is a.1) t.1 t.2 (deprecated_back dep)) fs; rest = rest }

pub record ArgumentBack (none : Bool) (before : List Token) (stack : List Symbol) : Type 0 where
  pub arguments : List tree.Argument
  pub after : List Token
  pub are : AreArguments none arguments before after
  pub rest : Means stack after

argument_back : {none : Bool} {n : tree.Name} {before mid mid' : List Token} {stack : List Symbol} → IsDescription before mid → IsName n mid mid' → Means (an_argument_then ++ stack) mid' → ArgumentBack none before stack
argument_back {n = n} {mid = mid} desc name (then' colon (then' ty (then' v (then' (d_arguments others) rest)))) =
    let m = colon_back colon in
    let t = type_back ty in
    record { arguments = _; after = _; are = next_argument (argument desc (subst (λ x. IsName n mid x) m.is name) t.1 t.2 (default_back v).1) others; rest = rest }

pub record ValueBack (none : Bool) (before : List Token) (stack : List Symbol) : Type 0 where
  pub names : List tree.Name
  pub after : List Token
  pub are : AreEnumValues none names before after
  pub rest : Means stack after

value_back : {none : Bool} {p : Place} {k : Keyword} {n : List ℕ} {before mid : List Token} {stack : List Symbol} → IsDescription before (at p (Name k n) ∷ mid) → IsEnumName k → Means (a_value_then ++ stack) mid → ValueBack none before stack
value_back desc h (then' dep (then' (d_values others) rest)) = record { names = _; after = _; are = next_value (enum_value desc h (deprecated_back dep)) others; rest = rest }

pub record BodyBack (s : SchemaWord) (p : Place) (tokens : List Token) (stack : List Symbol) : Type 0 where
  pub definition : Definition
  pub after : List Token
  pub is : IsBody s p definition tokens after
  pub ends_union : EndsUnion s after
  pub rest : Means stack after

named_then : {n : tree.Name} {w : Word} {before mid after : List Token} (m : IsMark w mid after) → IsTypeName n before mid → IsTypeName n before (at m.place w ∷ after)
named_then {n = n} {before = before} m h = subst (λ x. IsTypeName n before x) m.is h

body_back : (s : SchemaWord) (p : Place) (tokens : List Token) (stack : List Symbol) (skipped : Shift) → Shifted (moved (body_move s) stack skipped) tokens → BodyBack s p tokens stack
body_back word.Schema p tokens stack skipped (then' (d_root n) rest) = record { definition = _; after = _; is = schema n; ends_union = λ e. cc; rest = rest }
body_back word.Object p tokens stack skipped (then' n (then' (d_object is fs) rest)) = record { definition = _; after = _; is = object (type_name_back n).1 is fs; ends_union = λ e. cc; rest = rest }
body_back word.Interface p tokens stack skipped (then' n (then' (d_interface fs) rest)) = record { definition = _; after = _; is = interface (type_name_back n).1 fs; ends_union = λ e. cc; rest = rest }
body_back word.Union p tokens stack skipped (then' n (then' e (then' b (then' m (then' (d_members others h) rest))))) = record { definition = _; after = _; is = union (named_then (equals_back e) (type_name_back n).1) (pipe_back b) (type_name_back m).1 others; ends_union = λ e'. h; rest = rest }
body_back word.Enum p tokens stack skipped (then' n (then' (d_enum vs) rest)) = record { definition = _; after = _; is = enum (type_name_back n).1 vs; ends_union = λ e. cc; rest = rest }
body_back _ p tokens stack skipped h = absurd h

root_made : {p r u v : Place} {k : Keyword} {w : List ℕ} {n : tree.Name} {tokens mid mid' after : List Token}
    → tokens ≡ at r (Name k w) ∷ mid → k ≡ Query → mid ≡ at u (Punct Colon) ∷ mid' → IsTypeName n mid' (at v (Punct BraceRight) ∷ after) → Derives RootBody (at p (Punct BraceLeft) ∷ tokens) after
root_made e is e' h = rw (e, is, e') (d_root h)

root_back : {p : Place} {tokens : List Token} {stack : List Symbol} → Means (a_root ++ stack) tokens → Means (RootBody ∷ stack) (at p (Punct BraceLeft) ∷ tokens)
root_back (then' q (then' c (then' n (then' e rest)))) =
    let qb = query_back q in
    then' (root_made qb.is qb.holds (colon_back c).is (named_then (root_end_back e) (type_name_back n).1)) rest

reason_made : {p q r u v : Place} {k : Keyword} {n s : List ℕ} {tokens t1 t2 t3 after : List Token}
    → tokens ≡ at q (Name k n) ∷ t1 → word_of n ≡ word.Reason → t1 ≡ at r (Punct Colon) ∷ t2 → t2 ≡ at u (Text s) ∷ t3 → t3 ≡ at v (Punct ParenRight) ∷ after → Derives MaybeReason (at p (Punct ParenLeft) ∷ tokens) after
reason_made e h e1 e2 e3 = rw (e, e1, e2, e3) (d_reason h)

reason_means : {p : Place} {tokens : List Token} {stack : List Symbol} → Means (A AReason ∷ A AColon ∷ A AText ∷ A AParenthesis ∷ stack) tokens → Means (MaybeReason ∷ stack) (at p (Punct ParenLeft) ∷ tokens)
reason_means (then' r (then' c (then' t (then' e rest)))) =
    let rb = reason_name_back r in
    then' (reason_made rb.is rb.holds (colon_back c).is (text_back t).2 (parenthesis_back e).is) rest

deprecated_made : {p q : Place} {k : Keyword} {n : List ℕ} {tokens mid after : List Token} → tokens ≡ at q (Name k n) ∷ mid → word_of n ≡ word.Deprecated → Derives MaybeReason mid after → Derives MaybeDeprecated (at p (Punct At) ∷ tokens) after
deprecated_made e h r = rw e (d_deprecated h r)

deprecated_means : {p : Place} {tokens : List Token} {stack : List Symbol} → Means (A ADeprecated ∷ MaybeReason ∷ stack) tokens → Means (MaybeDeprecated ∷ stack) (at p (Punct At) ∷ tokens)
deprecated_means (then' d (then' r rest)) =
    let db = deprecated_name_back d in
    then' (deprecated_made db.is db.holds r) rest

list_made : {p q r : Place} {k : Keyword} {n : List ℕ} {w : Word} {tokens mid mid' after : List Token}
    → w ≡ Name k n → IsServedName n → mid ≡ at r (Punct BracketRight) ∷ mid' → Derives MaybeBang tokens mid → Derives MaybeBang mid' after → Derives AType (at p (Punct BracketLeft) ∷ at q w ∷ tokens) after
list_made {tokens = tokens} e served e' b' b = rw e (d_list_type served (subst (λ x. Derives MaybeBang tokens x) e' b') b)

list_means : {p : Place} {tokens : List Token} {stack : List Symbol} → Means (A AnItem ∷ MaybeBang ∷ A ABracket ∷ MaybeBang ∷ stack) tokens → Means (AType ∷ stack) (at p (Punct BracketLeft) ∷ tokens)
list_means (then' (d_terminal {w = w} e) (then' b' (then' c (then' b rest)))) =
    let i = item_back w e in
    then' (list_made i.2 i.3 (bracket_back c).is b' b) rest

interfaces_means : {p : Place} {tokens : List Token} {stack : List Symbol} → Means (A ATypeName ∷ MoreInterfaces ∷ stack) tokens → Means (MoreInterfaces ∷ stack) (at p (Punct Amp) ∷ tokens)
interfaces_means (then' n (then' (d_interfaces is fs) rest)) = then' (d_interfaces (next_interface (type_name_back n).1 is) fs) rest

object_means : {p : Place} {k : Keyword} {n : List ℕ} {tokens : List Token} {stack : List Symbol} → word_of n ≡ word.Implements → Means (FirstInterface ∷ stack) tokens → Means (ObjectBody ∷ stack) (at p (Name k n) ∷ tokens)
object_means e (then' (d_first_interface a n is fs) rest) = then' (d_object (interfaces e a n is) fs) rest

ampersand_means : {p : Place} {tokens : List Token} {stack : List Symbol} → Means (A ATypeName ∷ MoreInterfaces ∷ stack) tokens → Means (FirstInterface ∷ stack) (at p (Punct Amp) ∷ tokens)
ampersand_means (then' n (then' (d_interfaces is fs) rest)) = then' (d_first_interface ampersand (type_name_back n).1 is fs) rest

interface_means : {p : Place} {k : Keyword} {n : List ℕ} {tokens : List Token} {stack : List Symbol} → IsServedName n → Means (MoreInterfaces ∷ stack) tokens → Means (FirstInterface ∷ stack) (at p (Name k n) ∷ tokens)
interface_means served (then' (d_interfaces is fs) rest) = then' (d_first_interface no_ampersand (type_name served) is fs) rest

named_means : {p : Place} {k : Keyword} {n : List ℕ} {tokens : List Token} {stack : List Symbol} → IsServedName n → Means (MaybeBang ∷ stack) tokens → Means (AType ∷ stack) (at p (Name k n) ∷ tokens)
named_means served (then' b rest) = then' (d_type served b) rest

no_implements_never : (s : SchemaWord) → no_implements_verdict s ≡ Accepts → ⊥
no_implements_never word.Implements e = cc
no_implements_never _ e = cc

fields_means : {none : Bool} {before : List Token} {stack : List Symbol} → FieldBack none before stack → Means (Fields none ∷ stack) before
fields_means b = then' (d_fields b.are) b.rest

arguments_means : {none : Bool} {before : List Token} {stack : List Symbol} → ArgumentBack none before stack → Means (Arguments none ∷ stack) before
arguments_means b = then' (d_arguments b.are) b.rest

values_means : {none : Bool} {before : List Token} {stack : List Symbol} → ValueBack none before stack → Means (EnumValues none ∷ stack) before
values_means b = then' (d_values b.are) b.rest

described_field : {none : Bool} {p : Place} {s : List ℕ} {tokens : List Token} {stack : List Symbol} → Means (A AName ∷ a_field_then ++ stack) tokens → Means (Fields none ∷ stack) (at p (Text s) ∷ tokens)
described_field (then' n rest) = fields_means (field_back description (name_back n).1 rest)

described_argument : {none : Bool} {p : Place} {s : List ℕ} {tokens : List Token} {stack : List Symbol} → Means (A AName ∷ an_argument_then ++ stack) tokens → Means (Arguments none ∷ stack) (at p (Text s) ∷ tokens)
described_argument (then' n rest) = arguments_means (argument_back description (name_back n).1 rest)

described_value : {none : Bool} {p : Place} {s : List ℕ} {tokens : List Token} {stack : List Symbol} → Means (A AnEnumName ∷ a_value_then ++ stack) tokens → Means (EnumValues none ∷ stack) (at p (Text s) ∷ tokens)
described_value {none = none} {p = p} {s = s} {stack = stack} (then' n rest) =
    let v = enum_name_back n in
    subst (λ x. Means (EnumValues none ∷ stack) (at p (Text s) ∷ x)) (sym v.is) (values_means (value_back description v.holds rest))

end_means : (b : Bool) (P : Bool → Type 0) → P true → (end_verdict b ≡ Accepts) → P b
end_means true P h e = h
end_means false P h e = absurd (cc)

definition_means : {p : Place} {k : Keyword} {n : List ℕ} {tokens : List Token} {stack : List Symbol} → BodyBack (word_of n) p tokens stack → Means (ADefinition ∷ stack) (at p (Name k n) ∷ tokens)
definition_means b = then' (d_definition b.is b.ends_union) b.rest

top_then : {p : Place} {k : Keyword} {n : List ℕ} {d : Definition} {tokens after : List Token} → IsBody (word_of n) p d tokens after → Means [] after → Means [] (at p (Name k n) ∷ tokens)
top_then b (ends others) = ends (next_definition (definition no_description b) others)

top_means : {p : Place} {k : Keyword} {n : List ℕ} {tokens : List Token} → BodyBack (word_of n) p tokens [] → Means [] (at p (Name k n) ∷ tokens)
top_means b = top_then b.is b.rest

described_top : {p : Place} {s : List ℕ} {tokens : List Token} → Means (ADefinition ∷ []) tokens → Means [] (at p (Text s) ∷ tokens)
described_top (then' (d_definition b h) (ends others)) = ends (next_definition (definition description b) others)

any_name : (p : Place) (k : Keyword) (n : List ℕ) (tokens : List Token) → (v : Value) × IsValue Const v (at p (Name k n) ∷ tokens) tokens
any_name p True n tokens = (_, value.yes)
any_name p False n tokens = (_, value.no)
any_name p Null n tokens = (_, value.null)
any_name p Query n tokens = (_, value.enum tt)
any_name p Mutation n tokens = (_, value.enum tt)
any_name p Subscription n tokens = (_, value.enum tt)
any_name p Fragment n tokens = (_, value.enum tt)
any_name p On n tokens = (_, value.enum tt)
any_name p Other n tokens = (_, value.enum tt)

next_means : {v : Value} {before mid : List Token} {stack : List Symbol} → IsValue Const v before mid → Means (MoreValues ∷ stack) mid → Means (MoreValues ∷ stack) before
next_means v (then' (d_more_values vs) rest) = then' (d_more_values (value.next_value v vs)) rest

object_field_means : {p : Place} {k : Keyword} {n : List ℕ} {tokens : List Token} {stack : List Symbol} → Means (A AColon ∷ AValue ∷ MoreObjectFields ∷ stack) tokens → Means (MoreObjectFields ∷ stack) (at p (Name k n) ∷ tokens)
object_field_means {p = p} {k = k} {n = n} {stack = stack} (then' c (then' (d_value v) (then' (d_object_fields ms) rest))) =
    let m = colon_back c in
    subst (λ x. Means (MoreObjectFields ∷ stack) (at p (Name k n) ∷ x)) (sym m.is) (then' (d_object_fields (value.next_member v ms)) rest)

pub shifts_back : (stack : List Symbol) (p : Place) (w : Word) (tokens : List Token) → Shifted (shift stack w) tokens → Means stack (at p w ∷ tokens)
shifts_back [] p (Text s) tokens h = described_top h
shifts_back [] p (Name k n) tokens h = top_means (body_back (word_of n) p tokens [] _ h)
shifts_back [] p _ tokens h = absurd h
shifts_back (A x ∷ stack) p w tokens h = let a = accepted (verdict x w) [] stack _ tokens h in then' (d_terminal a.0) a.1
shifts_back (ADefinition ∷ stack) p (Name k n) tokens h = definition_means (body_back (word_of n) p tokens stack _ h)
shifts_back (ADefinition ∷ stack) p _ tokens h = absurd h
shifts_back (RootBody ∷ stack) p (Punct BraceLeft) tokens h = root_back h
shifts_back (RootBody ∷ stack) p _ tokens h = absurd h
shifts_back (ObjectBody ∷ stack) p (Name k n) tokens h = let a = accepted (implements_verdict (word_of n)) _ stack _ tokens h in object_means (accepts_implements (word_of n) a.0) a.1
shifts_back (ObjectBody ∷ stack) p (Punct BraceLeft) tokens (then' (d_fields fs) rest) = then' (d_object no_interfaces fs) rest
shifts_back (ObjectBody ∷ stack) p _ tokens h = absurd h
shifts_back (FirstInterface ∷ stack) p (Punct Amp) tokens h = ampersand_means h
shifts_back (FirstInterface ∷ stack) p (Name k n) tokens h = let a = accepted (type_name_verdict (word_of n)) _ stack _ tokens h in interface_means (accepts_served (word_of n) a.0) a.1
shifts_back (FirstInterface ∷ stack) p _ tokens h = absurd h
shifts_back (MoreInterfaces ∷ stack) p (Punct Amp) tokens h = interfaces_means h
shifts_back (MoreInterfaces ∷ stack) p (Punct BraceLeft) tokens (then' (d_fields fs) rest) = then' (d_interfaces no_more_interfaces fs) rest
shifts_back (MoreInterfaces ∷ stack) p _ tokens h = absurd h
shifts_back (InterfaceBody ∷ stack) p (Name k n) tokens h = absurd (never [] stack _ tokens (no_implements_verdict (word_of n)) (no_implements_never (word_of n)) h)
shifts_back (InterfaceBody ∷ stack) p (Punct BraceLeft) tokens (then' (d_fields fs) rest) = then' (d_interface fs) rest
shifts_back (InterfaceBody ∷ stack) p _ tokens h = absurd h
shifts_back (EnumBody ∷ stack) p (Punct BraceLeft) tokens (then' (d_values vs) rest) = then' (d_enum vs) rest
shifts_back (EnumBody ∷ stack) p _ tokens h = absurd h
shifts_back (Fields none ∷ stack) p (Text s) tokens h = described_field h
shifts_back (Fields none ∷ stack) p (Name k n) tokens h = fields_means (field_back no_description a_name h)
shifts_back (Fields none ∷ stack) p (Punct BraceRight) tokens h = let a = accepted (end_verdict none) [] stack _ tokens h in end_means none (λ b. Means (Fields b ∷ stack) (at p (Punct BraceRight) ∷ tokens)) (then' (d_fields no_more_fields) a.1) a.0
shifts_back (Fields none ∷ stack) p _ tokens h = absurd h
shifts_back (MaybeArguments ∷ stack) p (Punct ParenLeft) tokens (then' (d_arguments others) rest) = then' (d_some_arguments others) rest
shifts_back (MaybeArguments ∷ stack) p w tokens h = then' (d_no_arguments (λ e. cc)) (shifts_back stack p w tokens h)
shifts_back (Arguments none ∷ stack) p (Text s) tokens h = described_argument h
shifts_back (Arguments none ∷ stack) p (Name k n) tokens h = arguments_means (argument_back no_description a_name h)
shifts_back (Arguments none ∷ stack) p (Punct ParenRight) tokens h = let a = accepted (end_verdict none) [] stack _ tokens h in end_means none (λ b. Means (Arguments b ∷ stack) (at p (Punct ParenRight) ∷ tokens)) (then' (d_arguments no_more_arguments) a.1) a.0
shifts_back (Arguments none ∷ stack) p _ tokens h = absurd h
shifts_back (MaybeDefault ∷ stack) p (Punct Equals) tokens (then' (d_value v) rest) = then' (d_default v) rest
shifts_back (MaybeDefault ∷ stack) p w tokens h = then' (d_no_default (λ e. cc)) (shifts_back stack p w tokens h)
shifts_back (AType ∷ stack) p (Name k n) tokens h = let a = accepted (type_name_verdict (word_of n)) _ stack _ tokens h in named_means (accepts_served (word_of n) a.0) a.1
shifts_back (AType ∷ stack) p (Punct BracketLeft) tokens h = list_means h
shifts_back (AType ∷ stack) p _ tokens h = absurd h
shifts_back (MaybeBang ∷ stack) p (Punct Bang) tokens h = then' d_bang h
shifts_back (MaybeBang ∷ stack) p w tokens h = then' (d_no_bang (λ e. cc)) (shifts_back stack p w tokens h)
shifts_back (MaybeDeprecated ∷ stack) p (Punct At) tokens h = deprecated_means h
shifts_back (MaybeDeprecated ∷ stack) p w tokens h = then' (d_not_deprecated (λ e. cc)) (shifts_back stack p w tokens h)
shifts_back (MaybeReason ∷ stack) p (Punct ParenLeft) tokens h = reason_means h
shifts_back (MaybeReason ∷ stack) p w tokens h = then' (d_no_reason (λ e. cc)) (shifts_back stack p w tokens h)
shifts_back (EnumValues none ∷ stack) p (Text s) tokens h = described_value h
shifts_back (EnumValues none ∷ stack) p (Name k n) tokens h = let a = accepted (enum_name_verdict k) _ stack _ tokens h in values_means (value_back no_description (accepts_enum_name k a.0) a.1)
shifts_back (EnumValues none ∷ stack) p (Punct BraceRight) tokens h = let a = accepted (end_verdict none) [] stack _ tokens h in end_means none (λ b. Means (EnumValues b ∷ stack) (at p (Punct BraceRight) ∷ tokens)) (then' (d_values no_more_values) a.1) a.0
shifts_back (EnumValues none ∷ stack) p _ tokens h = absurd h
shifts_back (MaybePipe ∷ stack) p (Punct Pipe) tokens h = then' d_pipe h
shifts_back (MaybePipe ∷ stack) p w tokens h = then' (d_no_pipe (λ e. cc)) (shifts_back stack p w tokens h)
shifts_back (MoreMembers ∷ stack) p (Punct Pipe) tokens (then' n (then' (d_members others h) rest)) = then' (d_members (next_member (type_name_back n).1 others) h) rest
shifts_back (MoreMembers ∷ stack) p w tokens h = then' (d_members no_more_members (λ e. cc)) (shifts_back stack p w tokens h)
shifts_back (AValue ∷ stack) p (words.Int n) tokens h = then' (d_value value.int) h
shifts_back (AValue ∷ stack) p (words.Float n) tokens h = then' (d_value value.float) h
shifts_back (AValue ∷ stack) p (Text s) tokens h = then' (d_value value.text) h
shifts_back (AValue ∷ stack) p (Name k n) tokens h = then' (d_value (any_name p k n tokens).1) h
shifts_back (AValue ∷ stack) p (Punct BracketLeft) tokens (then' (d_more_values vs) rest) = then' (d_value (value.array vs)) rest
shifts_back (AValue ∷ stack) p (Punct BraceLeft) tokens (then' (d_object_fields ms) rest) = then' (d_value (value.object ms)) rest
shifts_back (AValue ∷ stack) p _ tokens h = absurd h
shifts_back (MoreValues ∷ stack) p (Punct BracketRight) tokens h = then' (d_more_values value.no_more_values) h
shifts_back (MoreValues ∷ stack) p (words.Int n) tokens h = next_means value.int h
shifts_back (MoreValues ∷ stack) p (words.Float n) tokens h = next_means value.float h
shifts_back (MoreValues ∷ stack) p (Text s) tokens h = next_means value.text h
shifts_back (MoreValues ∷ stack) p (Name k n) tokens h = next_means (any_name p k n tokens).1 h
shifts_back (MoreValues ∷ stack) p (Punct BracketLeft) tokens (then' (d_more_values ws) rest) = next_means (value.array ws) rest
shifts_back (MoreValues ∷ stack) p (Punct BraceLeft) tokens (then' (d_object_fields ms) rest) = next_means (value.object ms) rest
shifts_back (MoreValues ∷ stack) p _ tokens h = absurd h
shifts_back (MoreObjectFields ∷ stack) p (Name k n) tokens h = object_field_means h
shifts_back (MoreObjectFields ∷ stack) p (Punct BraceRight) tokens h = then' (d_object_fields value.no_more_members) h
shifts_back (MoreObjectFields ∷ stack) p _ tokens h = absurd h

-- ---- the end

pub at_end_done : {stack : List Symbol} → Means stack [] → at_end stack ≡ None
at_end_done (ends h) = refl
at_end_done (then' (d_object is fs) rest) = elim is [ ]
at_end_done (then' (d_first_interface no_ampersand n is fs) rest) = elim n [ ]
at_end_done (then' (d_interfaces is fs) rest) = elim is [ ]
at_end_done (then' (d_fields (next_field (field no_description n args ty served dep) fs)) rest) = elim n [ ]
at_end_done (then' (d_no_arguments h) rest) = at_end_done rest
at_end_done (then' (d_arguments (next_argument (argument no_description n ty served v) others)) rest) = elim n [ ]
at_end_done (then' (d_no_default h) rest) = at_end_done rest
at_end_done (then' (d_no_bang h) rest) = at_end_done rest
at_end_done (then' (d_not_deprecated h) rest) = at_end_done rest
at_end_done (then' (d_no_reason h) rest) = at_end_done rest
at_end_done (then' (d_values (next_value (enum_value desc h dep) others)) rest) = elim desc [ ]
at_end_done (then' (d_no_pipe h) rest) = at_end_done rest
at_end_done (then' (d_members no_more_members h) rest) = at_end_done rest
at_end_done (then' (d_value v) rest) = elim v [ ]
at_end_done (then' (d_more_values (value.next_value v vs)) rest) = elim v [ ]
at_end_done (then' (d_object_fields ms) rest) = elim ms [ ]

-- ---- whatever is expected, something meets it

pub record Met (stack : List Symbol) : Type 0 where
  pub tokens : List Token
  pub means : Means stack tokens
  pub spelled : AreSpelled tokens
  pub no_pipe : IsNotNext (Punct Pipe) tokens

abbrev pub here : Place
here = record { line = 1; column = 1 }

-- a name without a meaning of its own, where it comes and where it is wanted
abbrev pub a : List ℕ
a = codes "a"

pub a_served : IsServedName a
a_served e = cc

-- names that are spelled so
query_spelled : keyword_of (codes "query") ≡ Query
unfolding keyword_of
query_spelled = refl

abbrev named_a : Token
named_a = at here (Name Other a)

abbrev mark : lexer.Punct → Token
mark x = at here (Punct x)

-- `a: a }`
a_field : {none : Bool} {after : List Token} → AreFields none (record { name = record { text = a; place = here }; arguments = []; of_type = Named here a false } ∷ []) (named_a ∷ mark Colon ∷ named_a ∷ mark BraceRight ∷ after) after
a_field = next_field (field no_description a_name no_arguments (named no_bang) a_served not_deprecated) no_more_fields

an_argument : {none : Bool} {after : List Token} → AreArguments none (record { name = record { text = a; place = here }; of_type = Named here a false; default = None } ∷ []) (named_a ∷ mark Colon ∷ named_a ∷ mark ParenRight ∷ after) after
an_argument = next_argument (argument no_description a_name (named no_bang) a_served no_default) no_more_arguments

a_value : {none : Bool} {after : List Token} → AreEnumValues none (record { text = a; place = here } ∷ []) (named_a ∷ mark BraceRight ∷ after) after
a_value = next_value (enum_value no_description tt not_deprecated) no_more_values

a_spelled : keyword_of a ≡ Other
unfolding keyword_of
a_spelled = refl

schema_spelled : keyword_of (codes "schema") ≡ Other
unfolding keyword_of
schema_spelled = refl

deprecated_spelled : keyword_of (codes "deprecated") ≡ Other
unfolding keyword_of
deprecated_spelled = refl

reason_spelled : keyword_of (codes "reason") ≡ Other
unfolding keyword_of
reason_spelled = refl

meets_terminal : (x : Terminal) → (w : Word) × (verdict x w ≡ Accepts) × AreSpelled (at here w ∷ []) × (w ≢ Punct Pipe)
meets_terminal AColon = (Punct Colon, refl, (tt, tt), λ e. cc)
meets_terminal AnEquals = (Punct Equals, refl, (tt, tt), λ e. cc)
meets_terminal ABracket = (Punct BracketRight, refl, (tt, tt), λ e. cc)
meets_terminal AParenthesis = (Punct ParenRight, refl, (tt, tt), λ e. cc)
meets_terminal AName = (Name Other a, refl, (a_spelled, tt), λ e. cc)
meets_terminal ATypeName = (Name Other a, refl, (a_spelled, tt), λ e. cc)
meets_terminal AnItem = (Name Other a, refl, (a_spelled, tt), λ e. cc)
meets_terminal AnEnumName = (Name Other a, refl, (a_spelled, tt), λ e. cc)
meets_terminal AText = (Text [], refl, (tt, tt), λ e. cc)
meets_terminal ADeprecated = (Name Other (codes "deprecated"), refl, (deprecated_spelled, tt), λ e. cc)
meets_terminal AReason = (Name Other (codes "reason"), refl, (reason_spelled, tt), λ e. cc)
meets_terminal AQuery = (Name Query (codes "query"), refl, (query_spelled, tt), λ e. cc)
meets_terminal ARootEnd = (Punct BraceRight, refl, (tt, tt), λ e. cc)

pub meets : (stack : List Symbol) → Met stack
meets [] = record { tokens = []; means = ends no_more_definitions; spelled = tt; no_pipe = tt }
meets (A x ∷ stack) = let m = meets_terminal x in let r = meets stack in record { tokens = at here m.0 ∷ r.tokens; means = then' (d_terminal m.1) r.means; spelled = (m.2.0, r.spelled); no_pipe = m.3 }
meets (ADefinition ∷ stack) = let r = meets stack in record {
  tokens = at here (Name Other (codes "schema")) ∷ mark BraceLeft ∷ at here (Name Query (codes "query")) ∷ mark Colon ∷ named_a ∷ mark BraceRight ∷ r.tokens;
  means = then' (d_definition (schema (type_name a_served)) (λ e. cc)) r.means;
  spelled = (schema_spelled, (tt, (query_spelled, (tt, (a_spelled, (tt, r.spelled))))));
  no_pipe = λ e. cc;
}
meets (RootBody ∷ stack) = let r = meets stack in record {
  tokens = mark BraceLeft ∷ at here (Name Query (codes "query")) ∷ mark Colon ∷ named_a ∷ mark BraceRight ∷ r.tokens;
  means = then' (d_root (type_name a_served)) r.means;
  spelled = (tt, (query_spelled, (tt, (a_spelled, (tt, r.spelled)))));
  no_pipe = λ e. cc;
}
meets (ObjectBody ∷ stack) = let r = meets stack in record { tokens = mark BraceLeft ∷ named_a ∷ mark Colon ∷ named_a ∷ mark BraceRight ∷ r.tokens; means = then' (d_object no_interfaces a_field) r.means; spelled = (tt, (a_spelled, (tt, (a_spelled, (tt, r.spelled))))); no_pipe = λ e. cc }
meets (FirstInterface ∷ stack) = let r = meets stack in record {
  tokens = named_a ∷ mark BraceLeft ∷ named_a ∷ mark Colon ∷ named_a ∷ mark BraceRight ∷ r.tokens;
  means = then' (d_first_interface no_ampersand (type_name a_served) no_more_interfaces a_field) r.means;
  spelled = (a_spelled, (tt, (a_spelled, (tt, (a_spelled, (tt, r.spelled))))));
  no_pipe = λ e. cc;
}
meets (MoreInterfaces ∷ stack) = let r = meets stack in record { tokens = mark BraceLeft ∷ named_a ∷ mark Colon ∷ named_a ∷ mark BraceRight ∷ r.tokens; means = then' (d_interfaces no_more_interfaces a_field) r.means; spelled = (tt, (a_spelled, (tt, (a_spelled, (tt, r.spelled))))); no_pipe = λ e. cc }
meets (InterfaceBody ∷ stack) = let r = meets stack in record { tokens = mark BraceLeft ∷ named_a ∷ mark Colon ∷ named_a ∷ mark BraceRight ∷ r.tokens; means = then' (d_interface a_field) r.means; spelled = (tt, (a_spelled, (tt, (a_spelled, (tt, r.spelled))))); no_pipe = λ e. cc }
meets (EnumBody ∷ stack) = let r = meets stack in record { tokens = mark BraceLeft ∷ named_a ∷ mark BraceRight ∷ r.tokens; means = then' (d_enum a_value) r.means; spelled = (tt, (a_spelled, (tt, r.spelled))); no_pipe = λ e. cc }
meets (Fields none ∷ stack) = let r = meets stack in record { tokens = named_a ∷ mark Colon ∷ named_a ∷ mark BraceRight ∷ r.tokens; means = then' (d_fields a_field) r.means; spelled = (a_spelled, (tt, (a_spelled, (tt, r.spelled)))); no_pipe = λ e. cc }
meets (MaybeArguments ∷ stack) = let r = meets stack in record { tokens = mark ParenLeft ∷ named_a ∷ mark Colon ∷ named_a ∷ mark ParenRight ∷ r.tokens; means = then' (d_some_arguments an_argument) r.means; spelled = (tt, (a_spelled, (tt, (a_spelled, (tt, r.spelled))))); no_pipe = λ e. cc }
meets (Arguments none ∷ stack) = let r = meets stack in record { tokens = named_a ∷ mark Colon ∷ named_a ∷ mark ParenRight ∷ r.tokens; means = then' (d_arguments an_argument) r.means; spelled = (a_spelled, (tt, (a_spelled, (tt, r.spelled)))); no_pipe = λ e. cc }
meets (MaybeDefault ∷ stack) = let r = meets stack in record { tokens = mark Equals ∷ at here (words.Int []) ∷ r.tokens; means = then' (d_default value.int) r.means; spelled = (tt, (tt, r.spelled)); no_pipe = λ e. cc }
meets (AType ∷ stack) = let r = meets stack in record { tokens = named_a ∷ mark Bang ∷ r.tokens; means = then' (d_type a_served d_bang) r.means; spelled = (a_spelled, (tt, r.spelled)); no_pipe = λ e. cc }
meets (MaybeBang ∷ stack) = let r = meets stack in record { tokens = mark Bang ∷ r.tokens; means = then' d_bang r.means; spelled = (tt, r.spelled); no_pipe = λ e. cc }
meets (MaybeDeprecated ∷ stack) = let r = meets stack in record {
  tokens = mark At ∷ at here (Name Other (codes "deprecated")) ∷ mark ParenLeft ∷ at here (Name Other (codes "reason")) ∷ mark Colon ∷ at here (Text []) ∷ mark ParenRight ∷ r.tokens;
  means = then' (d_deprecated refl (d_reason refl)) r.means;
  spelled = (tt, (deprecated_spelled, (tt, (reason_spelled, (tt, (tt, (tt, r.spelled)))))));
  no_pipe = λ e. cc;
}
meets (MaybeReason ∷ stack) = let r = meets stack in record {
  tokens = mark ParenLeft ∷ at here (Name Other (codes "reason")) ∷ mark Colon ∷ at here (Text []) ∷ mark ParenRight ∷ r.tokens;
  means = then' (d_reason refl) r.means;
  spelled = (tt, (reason_spelled, (tt, (tt, (tt, r.spelled)))));
  no_pipe = λ e. cc;
}
meets (EnumValues none ∷ stack) = let r = meets stack in record { tokens = named_a ∷ mark BraceRight ∷ r.tokens; means = then' (d_values a_value) r.means; spelled = (a_spelled, (tt, r.spelled)); no_pipe = λ e. cc }
meets (MaybePipe ∷ stack) = let r = meets stack in record { tokens = r.tokens; means = then' (d_no_pipe r.no_pipe) r.means; spelled = r.spelled; no_pipe = r.no_pipe }
meets (MoreMembers ∷ stack) = let r = meets stack in record { tokens = r.tokens; means = then' (d_members no_more_members r.no_pipe) r.means; spelled = r.spelled; no_pipe = r.no_pipe }
meets (AValue ∷ stack) = let r = meets stack in record { tokens = at here (words.Int []) ∷ r.tokens; means = then' (d_value value.int) r.means; spelled = (tt, r.spelled); no_pipe = λ e. cc }
meets (MoreValues ∷ stack) = let r = meets stack in record { tokens = mark BracketRight ∷ r.tokens; means = then' (d_more_values value.no_more_values) r.means; spelled = (tt, r.spelled); no_pipe = λ e. cc }
meets (MoreObjectFields ∷ stack) = let r = meets stack in record { tokens = mark BraceRight ∷ r.tokens; means = then' (d_object_fields value.no_more_members) r.means; spelled = (tt, r.spelled); no_pipe = λ e. cc }
