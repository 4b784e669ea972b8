-- Lemmas on what may come where a list of symbols is expected, and that a token changes it as the machine
-- says.
use Rattle.std.proofs.Common.{◌≡◌, ◌≢◌, ℕ, Bool, true, false, List, [], ◌∷◌, ◌++◌, Option, refl, ap}
use Rattle.text_place.specs.declared.place.Place.{Place}
use Rattle.gq_lexer.specs.declared.token.Punct.TheVariants.{Bang, ParenLeft, ParenRight, Colon, Equals, At, BracketLeft, BracketRight, BraceLeft, BraceRight, Pipe}
use Rattle.gq_parser.specs.declared.value.Constness.TheVariants.{Const}
use Rattle.gq_parser.specs.declared.keyword.Keyword.{Keyword}
use Rattle.gq_parser.specs.declared.keyword.Keyword.TheVariants.{Query, True, False, Null}
use Rattle.gq_parser.specs.Word.{Word, Punct, Name, Text, Token, at}
use Rattle.gq_parser.specs.Keywords.{IsEnumName}
use Rattle.gq_parser.specs.Tree.{Value, Values, Members, TypeTree}
use Rattle.gq_parser.specs.Grammar as value
use Rattle.gq_parser.specs.Grammar.{IsValue, AreValues, AreMembers, IsBang, no_bang, bang, IsType, named, list_of, IsDefault, no_default, default}
use Rattle.schema_syntax.specs.declared.word.SchemaWord.{SchemaWord}
use Rattle.schema_syntax.specs.declared.word.SchemaWord.TheVariants as word
use Rattle.schema_syntax.specs.Word.{word_of, IsServedName}
use Rattle.schema_syntax.specs.Tree as tree
use Rattle.schema_syntax.specs.Tree.{Definition}
use Rattle.schema_syntax.specs.Grammar.{no_description, description, a_name, IsTypeName, type_name, IsServedType, IsReason, no_reason, reason, IsDeprecated, not_deprecated, deprecated, argument, AreArguments, no_more_arguments, next_argument, AreOptionalArguments, no_arguments, arguments}
use Rattle.schema_syntax.specs.Grammar.{field, AreFields, no_more_fields, next_field, enum_value, AreEnumValues, no_more_values, next_value, IsAmpersand, no_ampersand, ampersand, AreMoreInterfaces, no_more_interfaces, next_interface, AreInterfaces, no_interfaces, interfaces}
use Rattle.schema_syntax.specs.Grammar.{IsPipe, no_pipe, pipe, AreMoreMembers, no_more_members, next_member, IsBody, schema, object, interface, union, enum, definition, IsDocument, no_more_definitions, next_definition}
use Rattle.schema_syntax.specs.Machine.{Terminal, ATypeName}
use Rattle.schema_syntax.specs.Machine.{Symbol, A, ADefinition, RootBody, ObjectBody, FirstInterface, MoreInterfaces, InterfaceBody, EnumBody, Fields, MaybeArguments, Arguments, MaybeDefault, AType, MaybeBang, MaybeDeprecated, MaybeReason, EnumValues, MaybePipe, MoreMembers, AValue, MoreValues, MoreObjectFields}
use Rattle.schema_syntax.specs.Machine.{Accepts, verdict, type_name_verdict, enum_name_verdict, deprecated_verdict, reason_verdict, body_move, moved, Shift, Shifts, Refused, Denied, shift, a_field_then, an_argument_then, a_value_then}

-- the word is not next
abbrev pub IsNotNext : Word → List Token → Type 0
IsNotNext w [] = Unit {0}
IsNotNext w (at p first ∷ rest) = first ≢ w

-- behind a union no further member comes
abbrev pub EndsUnion : SchemaWord → List Token → Type 0
EndsUnion s after = s ≡ word.Union → IsNotNext (Punct Pipe) after

-- a symbol's tokens, and then what comes after. What may be left out is left out only where it isn't next.
pub data Derives : Symbol → List Token → List Token → Type 0 where
  d_terminal : {x : Terminal} {p : Place} {w : Word} {after : List Token} → verdict x w ≡ Accepts → Derives (A x) (at p w ∷ after) after
  d_definition : {p : Place} {k : Keyword} {n : List ℕ} {d : Definition} {mid after : List Token} → IsBody (word_of n) p d mid after → EndsUnion (word_of n) after → Derives ADefinition (at p (Name k n) ∷ mid) after
  d_root : {q r u v : Place} {w : List ℕ} {n : tree.Name} {mid after : List Token} → IsTypeName n mid (at v (Punct BraceRight) ∷ after) → Derives RootBody (at q (Punct BraceLeft) ∷ at r (Name Query w) ∷ at u (Punct Colon) ∷ mid) after
  d_object : {q : Place} {is : List tree.Name} {fs : List tree.Field} {before mid after : List Token} → AreInterfaces is before (at q (Punct BraceLeft) ∷ mid) → AreFields false fs mid after → Derives ObjectBody before after
  d_first_interface : {q : Place} {i : tree.Name} {is : List tree.Name} {fs : List tree.Field} {before mid mid' mid'' after : List Token}
      → IsAmpersand before mid → IsTypeName i mid mid' → AreMoreInterfaces is mid' (at q (Punct BraceLeft) ∷ mid'') → AreFields false fs mid'' after → Derives FirstInterface before after
  d_interfaces : {q : Place} {is : List tree.Name} {fs : List tree.Field} {before mid after : List Token} → AreMoreInterfaces is before (at q (Punct BraceLeft) ∷ mid) → AreFields false fs mid after → Derives MoreInterfaces before after
  d_interface : {q : Place} {fs : List tree.Field} {mid after : List Token} → AreFields false fs mid after → Derives InterfaceBody (at q (Punct BraceLeft) ∷ mid) after
  d_enum : {q : Place} {vs : List tree.Name} {mid after : List Token} → AreEnumValues false vs mid after → Derives EnumBody (at q (Punct BraceLeft) ∷ mid) after
  d_fields : {none : Bool} {fs : List tree.Field} {before after : List Token} → AreFields none fs before after → Derives (Fields none) before after
  d_no_arguments : {after : List Token} → IsNotNext (Punct ParenLeft) after → Derives MaybeArguments after after
  d_some_arguments : {p : Place} {as' : List tree.Argument} {mid after : List Token} → AreArguments false as' mid after → Derives MaybeArguments (at p (Punct ParenLeft) ∷ mid) after
  d_arguments : {none : Bool} {as' : List tree.Argument} {before after : List Token} → AreArguments none as' before after → Derives (Arguments none) before after
  d_no_default : {after : List Token} → IsNotNext (Punct Equals) after → Derives MaybeDefault after after
  d_default : {p : Place} {v : Value} {mid after : List Token} → IsValue Const v mid after → Derives MaybeDefault (at p (Punct Equals) ∷ mid) after
  d_type : {p : Place} {k : Keyword} {n : List ℕ} {mid after : List Token} → IsServedName n → Derives MaybeBang mid after → Derives AType (at p (Name k n) ∷ mid) after
  d_list_type : {p q r : Place} {k : Keyword} {n : List ℕ} {mid mid' after : List Token} → IsServedName n → Derives MaybeBang mid (at r (Punct BracketRight) ∷ mid') → Derives MaybeBang mid' after
      → Derives AType (at p (Punct BracketLeft) ∷ at q (Name k n) ∷ mid) after
  d_no_bang : {after : List Token} → IsNotNext (Punct Bang) after → Derives MaybeBang after after
  d_bang : {p : Place} {after : List Token} → Derives MaybeBang (at p (Punct Bang) ∷ after) after
  d_not_deprecated : {after : List Token} → IsNotNext (Punct At) after → Derives MaybeDeprecated after after
  d_deprecated : {p q : Place} {k : Keyword} {n : List ℕ} {mid after : List Token} → word_of n ≡ word.Deprecated → Derives MaybeReason mid after → Derives MaybeDeprecated (at p (Punct At) ∷ at q (Name k n) ∷ mid) after
  d_no_reason : {after : List Token} → IsNotNext (Punct ParenLeft) after → Derives MaybeReason after after
  d_reason : {p q r u v : Place} {k : Keyword} {n s : List ℕ} {after : List Token} → word_of n ≡ word.Reason → Derives MaybeReason (at p (Punct ParenLeft) ∷ at q (Name k n) ∷ at r (Punct Colon) ∷ at u (Text s) ∷ at v (Punct ParenRight) ∷ after) after
  d_values : {none : Bool} {vs : List tree.Name} {before after : List Token} → AreEnumValues none vs before after → Derives (EnumValues none) before after
  d_no_pipe : {after : List Token} → IsNotNext (Punct Pipe) after → Derives MaybePipe after after
  d_pipe : {p : Place} {after : List Token} → Derives MaybePipe (at p (Punct Pipe) ∷ after) after
  d_members : {ms : List tree.Name} {before after : List Token} → AreMoreMembers ms before after → IsNotNext (Punct Pipe) after → Derives MoreMembers before after
  d_value : {v : Value} {before after : List Token} → IsValue Const v before after → Derives AValue before after
  d_more_values : {vs : Values} {before after : List Token} → AreValues Const vs before after → Derives MoreValues before after
  d_object_fields : {ms : Members} {before after : List Token} → AreMembers Const ms before after → Derives MoreObjectFields before after

pub data Means : List Symbol → List Token → Type 0 where
  ends : {ds : List Definition} {tokens : List Token} → IsDocument ds tokens → Means [] tokens
  then' : {s : Symbol} {stack : List Symbol} {before mid : List Token} → Derives s before mid → Means stack mid → Means (s ∷ stack) before

abbrev pub Shifted : Shift → List Token → Type 0
Shifted (Shifts stack) tokens = Means stack tokens
Shifted Refused tokens = ⊥
Shifted Denied tokens = ⊥

-- ---- what comes after

-- a name, a string or the end of a list comes
abbrev pub Starts : List Token → Type 0
Starts [] = ⊥
Starts (at p (Name k n) ∷ rest) = Unit {0}
Starts (at p (Text s) ∷ rest) = Unit {0}
Starts (at p (Punct ParenRight) ∷ rest) = Unit {0}
Starts (at p (Punct BraceRight) ∷ rest) = Unit {0}
Starts (at p _ ∷ rest) = ⊥

-- says what does not come there
pub record IsNoStart (tokens : List Token) : Type 0 where
  pub no_bang : IsNotNext (Punct Bang) tokens
  pub no_at : IsNotNext (Punct At) tokens
  pub no_equals : IsNotNext (Punct Equals) tokens
  pub no_parenthesis : IsNotNext (Punct ParenLeft) tokens

no_start : (tokens : List Token) → Starts tokens → IsNoStart tokens
no_start [] h = absurd h
no_start (at p (Name k n) ∷ rest) h = record { no_bang = λ e. cc; no_at = λ e. cc; no_equals = λ e. cc; no_parenthesis = λ e. cc }
no_start (at p (Text s) ∷ rest) h = record { no_bang = λ e. cc; no_at = λ e. cc; no_equals = λ e. cc; no_parenthesis = λ e. cc }
no_start (at p (Punct ParenRight) ∷ rest) h = record { no_bang = λ e. cc; no_at = λ e. cc; no_equals = λ e. cc; no_parenthesis = λ e. cc }
no_start (at p (Punct BraceRight) ∷ rest) h = record { no_bang = λ e. cc; no_at = λ e. cc; no_equals = λ e. cc; no_parenthesis = λ e. cc }
no_start (at p _ ∷ rest) h = absurd h

fields_start : {none : Bool} {fs : List tree.Field} {before after : List Token} → AreFields none fs before after → Starts before
fields_start no_more_fields = tt
fields_start (next_field (field no_description a_name args ty served dep) fs) = tt
fields_start (next_field (field description a_name args ty served dep) fs) = tt

pub after_fields : {none : Bool} {fs : List tree.Field} {before after : List Token} → AreFields none fs before after → IsNoStart before
after_fields fs = no_start _ (fields_start fs)

arguments_start : {none : Bool} {as' : List tree.Argument} {before after : List Token} → AreArguments none as' before after → Starts before
arguments_start no_more_arguments = tt
arguments_start (next_argument (argument no_description a_name ty served v) others) = tt
arguments_start (next_argument (argument description a_name ty served v) others) = tt

pub after_arguments : {none : Bool} {as' : List tree.Argument} {before after : List Token} → AreArguments none as' before after → IsNoStart before
after_arguments others = no_start _ (arguments_start others)

values_start : {none : Bool} {vs : List tree.Name} {before after : List Token} → AreEnumValues none vs before after → Starts before
values_start no_more_values = tt
values_start (next_value (enum_value no_description h dep) others) = tt
values_start (next_value (enum_value description h dep) others) = tt

pub after_values : {none : Bool} {vs : List tree.Name} {before after : List Token} → AreEnumValues none vs before after → IsNoStart before
after_values others = no_start _ (values_start others)

pub deprecated_no_bang : {before after : List Token} → IsDeprecated before after → IsNoStart after → IsNotNext (Punct Bang) before
deprecated_no_bang not_deprecated h = h.no_bang
deprecated_no_bang (deprecated e r) h = λ e. cc

pub default_no_bang : {v : Option Value} {before after : List Token} → IsDefault v before after → IsNoStart after → IsNotNext (Punct Bang) before
default_no_bang no_default h = h.no_bang
default_no_bang (default v) h = λ e. cc

pub document_no_pipe : {ds : List Definition} {tokens : List Token} → IsDocument ds tokens → IsNotNext (Punct Pipe) tokens
document_no_pipe no_more_definitions = tt
document_no_pipe (next_definition (definition no_description b) others) = λ e. cc
document_no_pipe (next_definition (definition description b) others) = λ e. cc

-- ---- from the grammar to symbols

served_accepts : (s : SchemaWord) → s ≢ word.Float → type_name_verdict s ≡ Accepts
served_accepts word.Float h = absurd (h refl)
served_accepts _ h = refl

enum_name_accepts : (k : Keyword) → IsEnumName k → enum_name_verdict k ≡ Accepts
enum_name_accepts True h = absurd h
enum_name_accepts False h = absurd h
enum_name_accepts Null h = absurd h
enum_name_accepts _ h = refl

type_derives : {n : tree.Name} {before after : List Token} → IsTypeName n before after → Derives (A ATypeName) before after
type_derives (type_name {n = n} h) = d_terminal (served_accepts (word_of n) h)

bang_derives : {b : Bool} {before after : List Token} → IsBang b before after → IsNotNext (Punct Bang) after → Derives MaybeBang before after
bang_derives no_bang h = d_no_bang h
bang_derives bang h = d_bang

a_type_derives : {t : TypeTree} {before after : List Token} → IsType t before after → IsServedType t → IsNotNext (Punct Bang) after → Derives AType before after
a_type_derives (named b) served h = d_type served (bang_derives b h)
a_type_derives (list_of (named b') b) served h = d_list_type served (bang_derives b' (λ e. cc)) (bang_derives b h)
a_type_derives (list_of (list_of t b') b) served h = absurd served

reason_derives : {before after : List Token} → IsReason before after → IsNotNext (Punct ParenLeft) after → Derives MaybeReason before after
reason_derives no_reason h = d_no_reason h
reason_derives (reason e) h = d_reason e

deprecated_derives : {before after : List Token} → IsDeprecated before after → IsNoStart after → Derives MaybeDeprecated before after
deprecated_derives not_deprecated h = d_not_deprecated h.no_at
deprecated_derives (deprecated e r) h = d_deprecated e (reason_derives r h.no_parenthesis)

default_derives : {v : Option Value} {before after : List Token} → IsDefault v before after → IsNoStart after → Derives MaybeDefault before after
default_derives no_default h = d_no_default h.no_equals
default_derives (default v) h = d_default v

arguments_derive : {as' : List tree.Argument} {p : Place} {before after : List Token} → AreOptionalArguments as' before (at p (Punct Colon) ∷ after) → Derives MaybeArguments before (at p (Punct Colon) ∷ after)
arguments_derive no_arguments = d_no_arguments (λ e. cc)
arguments_derive (arguments others) = d_some_arguments others

pipe_derives : {n : tree.Name} {before mid after : List Token} → IsPipe before mid → IsTypeName n mid after → Derives MaybePipe before mid
pipe_derives no_pipe (type_name h) = d_no_pipe (λ e. cc)
pipe_derives pipe n = d_pipe

field_means : {as' : List tree.Argument} {t : TypeTree} {fs : List tree.Field} {p : Place} {before mid mid' mid'' after : List Token} {stack : List Symbol}
    → AreOptionalArguments as' before (at p (Punct Colon) ∷ mid) → IsType t mid mid' → IsServedType t → IsDeprecated mid' mid'' → AreFields true fs mid'' after → Means stack after → Means (a_field_then ++ stack) before
field_means args ty served dep fs rest =
    let h = after_fields fs in
    then' (arguments_derive args) (then' (d_terminal refl) (then' (a_type_derives ty served (deprecated_no_bang dep h)) (then' (deprecated_derives dep h) (then' (d_fields fs) rest))))

argument_means : {t : TypeTree} {v : Option Value} {as' : List tree.Argument} {p : Place} {mid mid' mid'' after : List Token} {stack : List Symbol}
    → IsType t mid mid' → IsServedType t → IsDefault v mid' mid'' → AreArguments true as' mid'' after → Means stack after → Means (an_argument_then ++ stack) (at p (Punct Colon) ∷ mid)
argument_means ty served v others rest =
    let h = after_arguments others in
    then' (d_terminal refl) (then' (a_type_derives ty served (default_no_bang v h)) (then' (default_derives v h) (then' (d_arguments others) rest)))

value_means : {vs : List tree.Name} {mid mid' after : List Token} {stack : List Symbol} → IsDeprecated mid mid' → AreEnumValues true vs mid' after → Means stack after → Means (a_value_then ++ stack) mid
value_means dep others rest = then' (deprecated_derives dep (after_values others)) (then' (d_values others) rest)

body_shifts : {s : SchemaWord} {p : Place} {d : Definition} {mid after : List Token} {stack : List Symbol} (skipped : Shift) → IsBody s p d mid after → EndsUnion s after → Means stack after → Shifted (moved (body_move s) stack skipped) mid
body_shifts skipped (schema n) h rest = then' (d_root n) rest
body_shifts skipped (object n is fs) h rest = then' (type_derives n) (then' (d_object is fs) rest)
body_shifts skipped (interface n fs) h rest = then' (type_derives n) (then' (d_interface fs) rest)
body_shifts skipped (union n b m others) h rest = then' (type_derives n) (then' (d_terminal refl) (then' (pipe_derives b m) (then' (type_derives m) (then' (d_members others (h refl)) rest))))
body_shifts skipped (enum n vs) h rest = then' (type_derives n) (then' (d_enum vs) rest)

-- ---- from the tokens to the machine

pub shifts : {stack : List Symbol} {p : Place} {w : Word} {tokens : List Token} → Means stack (at p w ∷ tokens) → Shifted (shift stack w) tokens
shifts (ends (next_definition (definition no_description b) others)) = body_shifts _ b (λ e. document_no_pipe others) (ends others)
shifts (ends (next_definition (definition description b) others)) = then' (d_definition b (λ e. document_no_pipe others)) (ends others)
shifts (then' (d_terminal e) rest) = rw e rest
shifts (then' (d_definition b h) rest) = body_shifts _ b h rest
shifts (then' (d_root (type_name {n = n} h)) rest) = then' (d_terminal refl) (then' (d_terminal refl) (then' (d_terminal (served_accepts (word_of n) h)) (then' (d_terminal refl) rest)))
shifts (then' (d_object no_interfaces fs) rest) = then' (d_fields fs) rest
shifts (then' (d_object (interfaces e a n others) fs) rest) = rw e (then' (d_first_interface a n others fs) rest)
shifts (then' (d_first_interface no_ampersand (type_name {n = n} h) others fs) rest) = rw (served_accepts (word_of n) h) (then' (d_interfaces others fs) rest)
shifts (then' (d_first_interface ampersand n others fs) rest) = then' (type_derives n) (then' (d_interfaces others fs) rest)
shifts (then' (d_interfaces no_more_interfaces fs) rest) = then' (d_fields fs) rest
shifts (then' (d_interfaces (next_interface n others) fs) rest) = then' (type_derives n) (then' (d_interfaces others fs) rest)
shifts (then' (d_interface fs) rest) = then' (d_fields fs) rest
shifts (then' (d_enum vs) rest) = then' (d_values vs) rest
shifts (then' (d_fields no_more_fields) rest) = rest
shifts (then' (d_fields (next_field (field no_description a_name args ty served dep) fs)) rest) = field_means args ty served dep fs rest
shifts (then' (d_fields (next_field (field description a_name args ty served dep) fs)) rest) = then' (d_terminal refl) (field_means args ty served dep fs rest)
shifts {w = Punct ParenLeft} (then' (d_no_arguments h) rest) = absurd (h refl)
shifts {w = _} (then' (d_no_arguments h) rest) = shifts rest
shifts (then' (d_some_arguments others) rest) = then' (d_arguments others) rest
shifts (then' (d_arguments no_more_arguments) rest) = rest
shifts (then' (d_arguments (next_argument (argument no_description a_name ty served v) others)) rest) = argument_means ty served v others rest
shifts (then' (d_arguments (next_argument (argument description a_name ty served v) others)) rest) = then' (d_terminal refl) (argument_means ty served v others rest)
shifts {w = Punct Equals} (then' (d_no_default h) rest) = absurd (h refl)
shifts {w = _} (then' (d_no_default h) rest) = shifts rest
shifts (then' (d_default v) rest) = then' (d_value v) rest
shifts (then' (d_type {n = n} served b) rest) = rw (served_accepts (word_of n) served) (then' b rest)
shifts (then' (d_list_type {n = n} served b' b) rest) = then' (d_terminal (served_accepts (word_of n) served)) (then' b' (then' (d_terminal refl) (then' b rest)))
shifts {w = Punct Bang} (then' (d_no_bang h) rest) = absurd (h refl)
shifts {w = _} (then' (d_no_bang h) rest) = shifts rest
shifts (then' d_bang rest) = rest
shifts {w = Punct At} (then' (d_not_deprecated h) rest) = absurd (h refl)
shifts {w = _} (then' (d_not_deprecated h) rest) = shifts rest
shifts (then' (d_deprecated e r) rest) = then' (d_terminal (ap deprecated_verdict e)) (then' r rest)
shifts {w = Punct ParenLeft} (then' (d_no_reason h) rest) = absurd (h refl)
shifts {w = _} (then' (d_no_reason h) rest) = shifts rest
shifts (then' (d_reason e) rest) = then' (d_terminal (ap reason_verdict e)) (then' (d_terminal refl) (then' (d_terminal refl) (then' (d_terminal refl) rest)))
shifts (then' (d_values no_more_values) rest) = rest
shifts (then' (d_values (next_value (enum_value {k = k} no_description h dep) others)) rest) = rw (enum_name_accepts k h) (value_means dep others rest)
shifts (then' (d_values (next_value (enum_value {k = k} description h dep) others)) rest) = then' (d_terminal (enum_name_accepts k h)) (value_means dep others rest)
shifts {w = Punct Pipe} (then' (d_no_pipe h) rest) = absurd (h refl)
shifts {w = _} (then' (d_no_pipe h) rest) = shifts rest
shifts (then' d_pipe rest) = rest
shifts {w = Punct Pipe} (then' (d_members no_more_members h) rest) = absurd (h refl)
shifts {w = _} (then' (d_members no_more_members h) rest) = shifts rest
shifts (then' (d_members (next_member n others) h) rest) = then' (type_derives n) (then' (d_members others h) rest)
shifts (then' (d_value value.int) rest) = rest
shifts (then' (d_value value.float) rest) = rest
shifts (then' (d_value value.text) rest) = rest
shifts (then' (d_value value.yes) rest) = rest
shifts (then' (d_value value.no) rest) = rest
shifts (then' (d_value value.null) rest) = rest
shifts (then' (d_value (value.enum h)) rest) = rest
shifts (then' (d_value (value.array vs)) rest) = then' (d_more_values vs) rest
shifts (then' (d_value (value.object ms)) rest) = then' (d_object_fields ms) rest
shifts (then' (d_more_values value.no_more_values) rest) = rest
shifts (then' (d_more_values (value.next_value value.int vs)) rest) = then' (d_more_values vs) rest
shifts (then' (d_more_values (value.next_value value.float vs)) rest) = then' (d_more_values vs) rest
shifts (then' (d_more_values (value.next_value value.text vs)) rest) = then' (d_more_values vs) rest
shifts (then' (d_more_values (value.next_value value.yes vs)) rest) = then' (d_more_values vs) rest
shifts (then' (d_more_values (value.next_value value.no vs)) rest) = then' (d_more_values vs) rest
shifts (then' (d_more_values (value.next_value value.null vs)) rest) = then' (d_more_values vs) rest
shifts (then' (d_more_values (value.next_value (value.enum h) vs)) rest) = then' (d_more_values vs) rest
shifts (then' (d_more_values (value.next_value (value.array ws) vs)) rest) = then' (d_more_values ws) (then' (d_more_values vs) rest)
shifts (then' (d_more_values (value.next_value (value.object ms) vs)) rest) = then' (d_object_fields ms) (then' (d_more_values vs) rest)
shifts (then' (d_object_fields value.no_more_members) rest) = rest
shifts (then' (d_object_fields (value.next_member v ms)) rest) = then' (d_terminal refl) (then' (d_value v) (then' (d_object_fields ms) rest))
