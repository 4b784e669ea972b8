-- Lemmas on what each step of reading fields, arguments and values of enums gives.
use Rattle.std.proofs.Common.{◌≡◌, ℕ, ◌<◌, Bool, true, false, List, [], ◌∷◌, ◌++◌, length, Ok, Option, Some, None, refl, sym, ap, subst, ◌∙◌, arith}
use Rattle.std.proofs.lemmas.List.{append-nil}
use Rattle.text_place.specs.declared.place.Place.{Place}
use Rattle.gq_lexer.specs.declared.token.Punct.TheVariants.{ParenLeft, ParenRight, Colon, Equals, BraceRight}
use Rattle.gq_parser.specs.declared.value.Constness.TheVariants.{Const}
use Rattle.gq_parser.specs.declared.keyword.Keyword.{Keyword}
use Rattle.gq_parser.specs.declared.tree.Literal.{Literal}
use Rattle.gq_parser.specs.Keywords.{IsEnumName}
use Rattle.gq_parser.specs.Word.{Punct, Name, Text, Token, at}
use Rattle.gq_parser.specs.Tree.{TypeTree, Value, literal_of}
use Rattle.gq_parser.specs.Grammar.{IsValue, IsDefault, no_default, default}
use Rattle.schema_syntax.specs.declared.tree.ArgumentDefinition as rust-argument
use Rattle.schema_syntax.specs.declared.tree.FieldDefinition as rust-field
use Rattle.schema_syntax.specs.declared.tree.Name as rust-name
use Rattle.schema_syntax.specs.Tree as tree
use Rattle.schema_syntax.specs.Tree.{name_of, names_of, argument_of, arguments_of, field_of, fields_of}
use Rattle.schema_syntax.specs.Grammar.{IsDescription, no_description, description, IsName, IsDeprecated, IsArgument, argument, AreArguments, no_more_arguments, next_argument, AreOptionalArguments, no_arguments, arguments}
use Rattle.schema_syntax.specs.Grammar.{IsField, field, AreFields, no_more_fields, next_field, IsEnumValue, enum_value, AreEnumValues, no_more_values, next_value}
use Rattle.schema_syntax.specs.Machine.{Symbol, A, AName, AnEnumName, AValue, MaybeDefault, MaybeArguments, Arguments, Fields, EnumValues, one, a_field_then, an_argument_then, a_value_then, Shift, moved, shift, read}
use Rattle.schema_syntax.specs.Machine.{Verdict, Accepts, Rejects, Bars, on_verdict, enum_name_verdict}
use Rattle.schema_syntax.specs.Parsing.{Reads, Describes, IsTaken, IsNoText, IsNotNext, IsTypeRead, IsEnumNameRead, IsFront}

-- ---- descriptions

pub is_description : (before after : List Token) (b : Bool) → Describes before after b → IsDescription before after
is_description before after true h = rw h.is description
is_description before after false h = rw h.0 no_description

fields_named : (room : ℕ) (tokens : List Token) (stack : List Symbol) → IsNoText tokens → read room (Fields false ∷ stack) tokens ≡ read room (A AName ∷ a_field_then ++ stack) tokens
fields_named room [] stack h = refl
fields_named room (at p (Text s) ∷ tokens) stack h = absurd h
fields_named room (at p (Name k n) ∷ tokens) stack h = refl
fields_named room (at p (Punct BraceRight) ∷ tokens) stack h = refl
fields_named room (at p _ ∷ tokens) stack h = refl

pub field_described : (room : ℕ) (before after : List Token) (b : Bool) (stack : List Symbol) → Describes before after b → read room (Fields false ∷ stack) before ≡ read room (A AName ∷ a_field_then ++ stack) after
field_described room before after true stack h = rw h.is refl
field_described room before after false stack h = fields_named room before stack h.1 ∙ ap (read room (A AName ∷ a_field_then ++ stack)) (sym h.0)

arguments_named : (room : ℕ) (tokens : List Token) (stack : List Symbol) → IsNoText tokens → read room (Arguments false ∷ stack) tokens ≡ read room (A AName ∷ an_argument_then ++ stack) tokens
arguments_named room [] stack h = refl
arguments_named room (at p (Text s) ∷ tokens) stack h = absurd h
arguments_named room (at p (Name k n) ∷ tokens) stack h = refl
arguments_named room (at p (Punct ParenRight) ∷ tokens) stack h = refl
arguments_named room (at p _ ∷ tokens) stack h = refl

pub argument_described : (room : ℕ) (before after : List Token) (b : Bool) (stack : List Symbol) → Describes before after b → read room (Arguments false ∷ stack) before ≡ read room (A AName ∷ an_argument_then ++ stack) after
argument_described room before after true stack h = rw h.is refl
argument_described room before after false stack h = arguments_named room before stack h.1 ∙ ap (read room (A AName ∷ an_argument_then ++ stack)) (sym h.0)

pub verdict_moves : (v : Verdict) (symbols stack : List Symbol) (skipped skipped' : Shift) → moved (on_verdict v symbols) stack skipped ≡ moved (on_verdict v []) (symbols ++ stack) skipped'
verdict_moves Accepts symbols stack skipped skipped' = refl
verdict_moves Rejects symbols stack skipped skipped' = refl
verdict_moves Bars symbols stack skipped skipped' = refl

pub same_shift : (room : ℕ) (p : Place) (k : Keyword) (n : List ℕ) (stack stack' : List Symbol) (tokens : List Token) → shift stack (Name k n) ≡ shift stack' (Name k n) → read room stack (at p (Name k n) ∷ tokens) ≡ read room stack' (at p (Name k n) ∷ tokens)
same_shift room p k n stack stack' tokens e = rw (e, read) refl

values_named : (room : ℕ) (tokens : List Token) (stack : List Symbol) → IsNoText tokens → read room (EnumValues false ∷ stack) tokens ≡ read room (A AnEnumName ∷ a_value_then ++ stack) tokens
values_named room [] stack h = refl
values_named room (at p (Text s) ∷ tokens) stack h = absurd h
values_named room (at p (Name k n) ∷ tokens) stack h = same_shift room p k n (EnumValues false ∷ stack) (A AnEnumName ∷ a_value_then ++ stack) tokens (verdict_moves (enum_name_verdict k) a_value_then stack _ _)
values_named room (at p (Punct BraceRight) ∷ tokens) stack h = refl
values_named room (at p _ ∷ tokens) stack h = refl

pub value_described : (room : ℕ) (before after : List Token) (b : Bool) (stack : List Symbol) → Describes before after b → read room (EnumValues false ∷ stack) before ≡ read room (A AnEnumName ∷ a_value_then ++ stack) after
value_described room before after true stack h = rw h.is refl
value_described room before after false stack h = values_named room before stack h.1 ∙ ap (read room (A AnEnumName ∷ a_value_then ++ stack)) (sym h.0)

-- ---- defaults

no_default_comes : (room : ℕ) (tokens : List Token) (stack : List Symbol) → IsNotNext (Punct Equals) tokens → read room (MaybeDefault ∷ stack) tokens ≡ read room stack tokens
no_default_comes room [] stack h = refl
no_default_comes room (at p (Punct Equals) ∷ tokens) stack h = absurd (h refl)
no_default_comes room (at p _ ∷ tokens) stack h = refl

pub no_default_read : (room : ℕ) (before after : List Token) → (after ≡ before) × IsNotNext (Punct Equals) before → IsDefault None before after × ((stack : List Symbol) → read room (MaybeDefault ∷ stack) before ≡ read room stack after)
no_default_read room before after h = (rw h.0 no_default, λ stack. no_default_comes room before stack h.1 ∙ ap (read room stack) (sym h.0))

pub default_opens : (room : ℕ) (before mid : List Token) (stack : List Symbol) → IsTaken (Punct Equals) before mid → read room (MaybeDefault ∷ stack) before ≡ read room (AValue ∷ stack) mid
default_opens room before mid stack h = rw h.is refl

pub default_read : (room : ℕ) (l : Literal) (before mid after : List Token) → IsTaken (Punct Equals) before mid → Reads (λ v. IsValue Const (literal_of v)) room (one AValue) room [] mid after (Ok l)
    → IsDefault (Some (literal_of l)) before after × ((stack : List Symbol) → read room (MaybeDefault ∷ stack) before ≡ read room stack after)
default_read room l before mid after h v = (rw h.is (default v.0), λ stack. default_opens room before mid stack h ∙ v.1 stack)

-- ---- arguments

pub argument_is : {n : tree.Name} {t : TypeTree} {v : Option Value} {before b1 b2 b3 b4 after : List Token} (b : Bool) → Describes before b1 b → IsName n b1 b2 → IsTaken (Punct Colon) b2 b3 → IsTypeRead t b3 b4 → IsDefault v b4 after
    → IsArgument (record { name = n; of_type = t; default = v }) before after
argument_is {n = n} {b1 = b1} b d name c t v = argument (is_description _ _ b d) (subst (λ x. IsName n b1 x) c.is name) t.is t.served v

pub argument_comes : (room : ℕ) (tokens : List Token) (stack : List Symbol) → IsNotNext (Punct ParenRight) tokens → read room (Arguments true ∷ stack) tokens ≡ read room (Arguments false ∷ stack) tokens
argument_comes room [] stack h = refl
argument_comes room (at p (Punct ParenRight) ∷ tokens) stack h = absurd (h refl)
argument_comes room (at p _ ∷ tokens) stack h = refl

no_arguments_come : (room : ℕ) (tokens : List Token) (stack : List Symbol) → IsNotNext (Punct ParenLeft) tokens → read room (MaybeArguments ∷ stack) tokens ≡ read room stack tokens
no_arguments_come room [] stack h = refl
no_arguments_come room (at p (Punct ParenLeft) ∷ tokens) stack h = absurd (h refl)
no_arguments_come room (at p _ ∷ tokens) stack h = refl

pub no_arguments_read : (room : ℕ) (before after : List Token) (as' : List rust-argument.ArgumentDefinition) → as' ≡ [] → (after ≡ before) × IsNotNext (Punct ParenLeft) before
    → AreOptionalArguments (arguments_of as') before after × ((stack : List Symbol) → read room (MaybeArguments ∷ stack) before ≡ read room stack after)
no_arguments_read room before after as' e h = (rw (e, h.0) no_arguments, λ stack. no_arguments_come room before stack h.1 ∙ ap (read room stack) (sym h.0))

pub arguments_open : (before mid : List Token) (stack : List Symbol) → IsTaken (Punct ParenLeft) before mid → read 127 (MaybeArguments ∷ stack) before ≡ read 126 (Arguments false ∷ stack) mid
arguments_open before mid stack h = rw h.is refl

pub first_argument : (before mid now : List Token) (a : rust-argument.ArgumentDefinition) (xs : List rust-argument.ArgumentDefinition)
    → IsTaken (Punct ParenLeft) before mid → Reads (λ a. IsArgument (argument_of a)) 126 (one (Arguments false)) 126 (one (Arguments true)) mid now (Ok a) → length now < length mid → xs ≡ a ∷ []
    → IsFront (AreArguments true) AreOptionalArguments (λ others. arguments_of xs ++ others) 127 (one MaybeArguments) 126 (one (Arguments true)) before now
first_argument before mid now a xs o h shorter is = record {
  joins = λ others after rest. rw (is, o.is) (arguments (next_argument h.0 rest));
  reads = λ stack. arguments_open before mid stack o ∙ h.1 stack;
  shrinks = omega (arith, ap length o.is);
}

pub arguments_end : (before now after : List Token) (xs : List rust-argument.ArgumentDefinition)
    → IsFront (AreArguments true) AreOptionalArguments (λ others. arguments_of xs ++ others) 127 (one MaybeArguments) 126 (one (Arguments true)) before now → IsTaken (Punct ParenRight) now after
    → AreOptionalArguments (arguments_of xs) before after × ((stack : List Symbol) → read 127 (MaybeArguments ∷ stack) before ≡ read 127 stack after)
arguments_end before now after xs front eaten = (
  subst (λ args. AreOptionalArguments args before after) (append-nil (arguments_of xs)) (front.joins [] after (rw eaten.is no_more_arguments)),
  λ stack. front.reads stack ∙ ap (read 126 (Arguments true ∷ stack)) eaten.is,
)

-- ---- fields

pub field_is : {n : tree.Name} {as' : List tree.Argument} {t : TypeTree} {before b1 b2 b3 b4 b5 after : List Token} (b : Bool) → Describes before b1 b → IsName n b1 b2 → AreOptionalArguments as' b2 b3 → IsTaken (Punct Colon) b3 b4 → IsTypeRead t b4 b5 → IsDeprecated b5 after
    → IsField (record { name = n; arguments = as'; of_type = t }) before after
field_is {as' = as'} {b2 = b2} b d name args c t dep = field (is_description _ _ b d) name (subst (λ x. AreOptionalArguments as' b2 x) c.is args) t.is t.served dep

pub field_comes : (room : ℕ) (tokens : List Token) (stack : List Symbol) → IsNotNext (Punct BraceRight) tokens → read room (Fields true ∷ stack) tokens ≡ read room (Fields false ∷ stack) tokens
field_comes room [] stack h = refl
field_comes room (at p (Punct BraceRight) ∷ tokens) stack h = absurd (h refl)
field_comes room (at p _ ∷ tokens) stack h = refl

pub first_field : (before now : List Token) (f : rust-field.FieldDefinition) (xs : List rust-field.FieldDefinition)
    → Reads (λ f. IsField (field_of f)) 127 (one (Fields false)) 127 (one (Fields true)) before now (Ok f) → length now < length before → xs ≡ f ∷ []
    → IsFront (AreFields true) (AreFields false) (λ others. fields_of xs ++ others) 127 (one (Fields false)) 127 (one (Fields true)) before now
first_field before now f xs h shorter is = record {
  joins = λ others after rest. rw is (next_field h.0 rest);
  reads = h.1;
  shrinks = omega arith;
}

pub fields_end : (before now after : List Token) (xs : List rust-field.FieldDefinition)
    → IsFront (AreFields true) (AreFields false) (λ others. fields_of xs ++ others) 127 (one (Fields false)) 127 (one (Fields true)) before now → IsTaken (Punct BraceRight) now after
    → AreFields false (fields_of xs) before after × ((stack : List Symbol) → read 127 (Fields false ∷ stack) before ≡ read 128 stack after)
fields_end before now after xs front eaten = (
  subst (λ fs. AreFields false fs before after) (append-nil (fields_of xs)) (front.joins [] after (rw eaten.is no_more_fields)),
  λ stack. front.reads stack ∙ ap (read 127 (Fields true ∷ stack)) eaten.is,
)

-- ---- values of enums

value_at : {p : Place} {k : Keyword} {n : List ℕ} {before b1 b2 after : List Token} → IsDescription before b1 → b1 ≡ at p (Name k n) ∷ b2 → IsEnumName k → IsDeprecated b2 after → IsEnumValue (record { text = n; place = p }) before after
value_at {before = before} d e h dep = enum_value (subst (λ x. IsDescription before x) e d) h dep

pub value_is : (v : tree.Name) {before b1 b2 after : List Token} (b : Bool) → Describes before b1 b → IsEnumNameRead v b1 b2 → IsDeprecated b2 after → IsEnumValue v before after
value_is v b d n dep = value_at (is_description _ _ b d) n.begins n.is dep

pub value_comes : (room : ℕ) (tokens : List Token) (stack : List Symbol) → IsNotNext (Punct BraceRight) tokens → read room (EnumValues true ∷ stack) tokens ≡ read room (EnumValues false ∷ stack) tokens
value_comes room [] stack h = refl
value_comes room (at p (Punct BraceRight) ∷ tokens) stack h = absurd (h refl)
value_comes room (at p (Name k n) ∷ tokens) stack h = refl
value_comes room (at p _ ∷ tokens) stack h = refl

pub first_value : (before now : List Token) (v : rust-name.Name) (xs : List rust-name.Name)
    → Reads (λ v. IsEnumValue (name_of v)) 127 (one (EnumValues false)) 127 (one (EnumValues true)) before now (Ok v) → length now < length before → xs ≡ v ∷ []
    → IsFront (AreEnumValues true) (AreEnumValues false) (λ others. names_of xs ++ others) 127 (one (EnumValues false)) 127 (one (EnumValues true)) before now
first_value before now v xs h shorter is = record {
  joins = λ others after rest. rw is (next_value h.0 rest);
  reads = h.1;
  shrinks = omega arith;
}

pub values_end : (before now after : List Token) (xs : List rust-name.Name)
    → IsFront (AreEnumValues true) (AreEnumValues false) (λ others. names_of xs ++ others) 127 (one (EnumValues false)) 127 (one (EnumValues true)) before now → IsTaken (Punct BraceRight) now after
    → AreEnumValues false (names_of xs) before after × ((stack : List Symbol) → read 127 (EnumValues false ∷ stack) before ≡ read 128 stack after)
values_end before now after xs front eaten = (
  subst (λ vs. AreEnumValues false vs before after) (append-nil (names_of xs)) (front.joins [] after (rw eaten.is no_more_values)),
  λ stack. front.reads stack ∙ ap (read 127 (EnumValues true ∷ stack)) eaten.is,
)
