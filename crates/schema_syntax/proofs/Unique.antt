-- A list of tokens has at most one tree.
use Rattle.std.proofs.Common.{◌≡◌, Bool, true, false, List, ◌∷◌, Option, Some, refl, sym, ap, subst, ◌∙◌}
use Rattle.text_place.specs.declared.place.Place.{Place}
use Rattle.gq_lexer.specs.declared.token.Punct.TheVariants.{Bang, ParenLeft, Colon, Equals, BracketRight, BraceLeft, Pipe}
use Rattle.gq_parser.specs.declared.value.Constness.TheVariants.{Const}
use Rattle.gq_parser.specs.Word.{Punct, Token, at}
use Rattle.gq_parser.specs.Word as words
use Rattle.gq_parser.specs.Tree as gq
use Rattle.gq_parser.specs.Grammar as value
use Rattle.gq_parser.specs.Grammar.{IsValue, AreValues, AreMembers, IsBang, no_bang, bang, IsType, named, list_of, IsDefault, no_default, default}
use Rattle.schema_syntax.specs.declared.word.SchemaWord.{SchemaWord}
use Rattle.schema_syntax.specs.Tree as tree
use Rattle.schema_syntax.specs.Tree.{Definition}
use Rattle.schema_syntax.specs.Grammar.{IsDescription, no_description, description, IsName, a_name, IsTypeName, type_name, IsReason, no_reason, reason, IsDeprecated, not_deprecated, deprecated, IsArgument, argument, AreArguments, no_more_arguments, next_argument, AreOptionalArguments, no_arguments, arguments}
use Rattle.schema_syntax.specs.Grammar.{IsField, field, AreFields, no_more_fields, next_field, IsEnumValue, enum_value, AreEnumValues, no_more_values, next_value, IsAmpersand, no_ampersand, ampersand, AreMoreInterfaces, no_more_interfaces, next_interface, AreInterfaces, no_interfaces, interfaces}
use Rattle.schema_syntax.specs.Grammar.{IsPipe, no_pipe, pipe, AreMoreMembers, no_more_members, next_member, IsBody, schema, object, interface, union, enum, IsDefinition, definition, IsDocument, no_more_definitions, next_definition}
use Rattle.schema_syntax.proofs.Means.{IsNotNext, IsNoStart, after_fields, after_arguments, after_values, deprecated_no_bang, default_no_bang, document_no_pipe}

both : {A B C : Type 0} (f : A → B → C) {a a' : A} {b b' : B} → a ≡ a' → b ≡ b' → f a b ≡ f a' b'
both f {a' = a'} {b = b} p q = ap (λ x. f x b) p ∙ ap (λ y. f a' y) q

mutual
  value_one : {v w : gq.Value} {before after after' : List Token} → IsValue Const v before after → IsValue Const w before after' → (v ≡ w) × (after ≡ after')
  value_one value.int value.int = (refl, refl)
  value_one value.float value.float = (refl, refl)
  value_one value.text value.text = (refl, refl)
  value_one value.yes value.yes = (refl, refl)
  value_one value.yes (value.enum h) = absurd h
  value_one value.no value.no = (refl, refl)
  value_one value.no (value.enum h) = absurd h
  value_one value.null value.null = (refl, refl)
  value_one value.null (value.enum h) = absurd h
  value_one (value.enum h) value.yes = absurd h
  value_one (value.enum h) value.no = absurd h
  value_one (value.enum h) value.null = absurd h
  value_one (value.enum h) (value.enum h') = (refl, refl)
  value_one (value.array {p = p} vs) (value.array ws) = let r = values_one vs ws in (ap (gq.Array p) r.0, r.1)
  value_one (value.object {p = p} vs) (value.object ws) = let r = members_one vs ws in (ap (gq.Object p) r.0, r.1)

  values_one : {vs ws : gq.Values} {before after after' : List Token} → AreValues Const vs before after → AreValues Const ws before after' → (vs ≡ ws) × (after ≡ after')
  values_one value.no_more_values value.no_more_values = (refl, refl)
  values_one value.no_more_values (value.next_value w ws) = elim w [ ]
  values_one (value.next_value v vs) value.no_more_values = elim v [ ]
  values_one (value.next_value v vs) (value.next_value {vs = ys} {after = k} w ws) =
      let r = value_one v w in
      let s = values_one vs (subst (λ m. AreValues Const ys m k) (sym r.1) ws) in
      (both gq.and_value r.0 s.0, s.1)

  members_one : {vs ws : gq.Members} {before after after' : List Token} → AreMembers Const vs before after → AreMembers Const ws before after' → (vs ≡ ws) × (after ≡ after')
  members_one value.no_more_members value.no_more_members = (refl, refl)
  members_one (value.next_member {p = p} {n = n} v vs) (value.next_member {ms = ys} {after = k} w ws) =
      let r = value_one v w in
      let s = members_one vs (subst (λ m. AreMembers Const ys m k) (sym r.1) ws) in
      (both (gq.and_member p n) r.0 s.0, s.1)

bang_one : {b b' : Bool} {before after after' : List Token} → IsBang b before after → IsBang b' before after' → IsNotNext (Punct Bang) after → IsNotNext (Punct Bang) after' → (b ≡ b') × (after ≡ after')
bang_one no_bang no_bang h h' = (refl, refl)
bang_one no_bang bang h h' = absurd (h refl)
bang_one bang no_bang h h' = absurd (h' refl)
bang_one bang bang h h' = (refl, refl)

type_one : {t u : gq.TypeTree} {before after after' : List Token} → IsType t before after → IsType u before after' → IsNotNext (Punct Bang) after → IsNotNext (Punct Bang) after' → (t ≡ u) × (after ≡ after')
type_one (named {p = p} {n = n} b) (named b') h h' = let r = bang_one b b' h h' in (ap (gq.Named p n) r.0, r.1)
type_one (list_of {p = p} t b) (list_of {non_null = non_null} {after = k} u b') h h' =
    let r = type_one t u (λ e. cc) (λ e. cc) in
    let s = bang_one b (subst (λ m. IsBang non_null m k) (sym (tails r.1)) b') h h' in
    (both (gq.ListOf p) r.0 s.0, s.1)
  where
    tails : {p q : Place} {xs ys : List Token} → at p (Punct BracketRight) ∷ xs ≡ at q (Punct BracketRight) ∷ ys → xs ≡ ys
    tails e = cc

-- the tokens behind a token
tail_is : {p q : Place} {w v : words.Word} {xs ys : List Token} → at p w ∷ xs ≡ at q v ∷ ys → xs ≡ ys
tail_is e = cc

description_one : {before mid mid' after after' : List Token} {n n' : tree.Name} → IsDescription before mid → IsDescription before mid' → IsName n mid after → IsName n' mid' after' → mid ≡ mid'
description_one no_description no_description n n' = refl
description_one no_description description n n' = elim n [ ]
description_one description no_description n n' = elim n' [ ]
description_one description description n n' = refl

name_one : {n n' : tree.Name} {before after after' : List Token} → IsName n before after → IsName n' before after' → (n ≡ n') × (after ≡ after')
name_one a_name a_name = (refl, refl)

type_name_one : {n n' : tree.Name} {before after after' : List Token} → IsTypeName n before after → IsTypeName n' before after' → (n ≡ n') × (after ≡ after')
type_name_one (type_name h) (type_name h') = (refl, refl)

default_one : {v v' : Option gq.Value} {before after after' : List Token} → IsDefault v before after → IsDefault v' before after' → IsNotNext (Punct Equals) after → IsNotNext (Punct Equals) after' → (v ≡ v') × (after ≡ after')
default_one no_default no_default h h' = (refl, refl)
default_one no_default (default v) h h' = absurd (h refl)
default_one (default v) no_default h h' = absurd (h' refl)
default_one (default v) (default v') h h' = let r = value_one v v' in (ap (λ x. Some x) r.0, r.1)

reason_one : {before after after' : List Token} → IsReason before after → IsReason before after' → IsNotNext (Punct ParenLeft) after → IsNotNext (Punct ParenLeft) after' → after ≡ after'
reason_one no_reason no_reason h h' = refl
reason_one no_reason (reason e) h h' = absurd (h refl)
reason_one (reason e) no_reason h h' = absurd (h' refl)
reason_one (reason e) (reason e') h h' = refl

deprecated_one : {before after after' : List Token} → IsDeprecated before after → IsDeprecated before after' → IsNoStart after → IsNoStart after' → after ≡ after'
deprecated_one not_deprecated not_deprecated h h' = refl
deprecated_one not_deprecated (deprecated e r) h h' = absurd (h.no_at refl)
deprecated_one (deprecated e r) not_deprecated h h' = absurd (h'.no_at refl)
deprecated_one (deprecated e r) (deprecated e' r') h h' = reason_one r r' h.no_parenthesis h'.no_parenthesis

three : {A B C D : Type 0} (f : A → B → C → D) {a a' : A} {b b' : B} {c c' : C} → a ≡ a' → b ≡ b' → c ≡ c' → f a b c ≡ f a' b' c'
three f {a' = a'} {b = b} {b' = b'} {c = c} p q r = ap (λ x. f x b c) p ∙ ap (λ y. f a' y c) q ∙ ap (λ z. f a' b' z) r

argument_one : {a a' : tree.Argument} {before after after' : List Token} → IsArgument a before after → IsArgument a' before after' → IsNoStart after → IsNoStart after' → (a ≡ a') × (after ≡ after')
argument_one (argument d n t s v) (argument {p = p2} {n = n2} {t = t2} {v = v2} {mid' = m2} {mid'' = m3} {after = k} d' n' t' s' v') h h' =
    let e0 = description_one d d' n n' in
    let e1 = name_one n (subst (λ m. IsName n2 m (at p2 (Punct Colon) ∷ m2)) (sym e0) n') in
    let e2 = type_one t (subst (λ m. IsType t2 m m3) (sym (tail_is e1.1)) t') (default_no_bang v h) (default_no_bang v' h') in
    let e3 = default_one v (subst (λ m. IsDefault v2 m k) (sym e2.1) v') h.no_equals h'.no_equals in
    (three (λ x y z. record { name = x; of_type = y; default = z }) e1.0 e2.0 e3.0, e3.1)

arguments_one : {b : Bool} {as' bs : List tree.Argument} {before after after' : List Token} → AreArguments b as' before after → AreArguments b bs before after' → (as' ≡ bs) × (after ≡ after')
arguments_one no_more_arguments no_more_arguments = (refl, refl)
arguments_one no_more_arguments (next_argument (argument no_description n t s v) others) = elim n [ ]
arguments_one (next_argument (argument no_description n t s v) others) no_more_arguments = elim n [ ]
arguments_one (next_argument a others) (next_argument {others = os} {after = k} a' others') =
    let r = argument_one a a' (after_arguments others) (after_arguments others') in
    let s = arguments_one others (subst (λ m. AreArguments true os m k) (sym r.1) others') in
    (both (λ x xs. x ∷ xs) r.0 s.0, s.1)

optional_arguments_one : {as' bs : List tree.Argument} {p p' : Place} {before after after' : List Token} → AreOptionalArguments as' before (at p (Punct Colon) ∷ after) → AreOptionalArguments bs before (at p' (Punct Colon) ∷ after') → (as' ≡ bs) × (after ≡ after')
optional_arguments_one no_arguments no_arguments = (refl, refl)
optional_arguments_one (arguments as') (arguments bs) = let r = arguments_one as' bs in (r.0, tail_is r.1)

field_one : {f f' : tree.Field} {before after after' : List Token} → IsField f before after → IsField f' before after' → IsNoStart after → IsNoStart after' → (f ≡ f') × (after ≡ after')
field_one (field d n args t s dep) (field {p = p2} {n = n2} {as' = as2} {t = t2} {mid' = m2} {mid'' = m3} {mid''' = m4} {after = k} d' n' args' t' s' dep') h h' =
    let e0 = description_one d d' n n' in
    let e1 = name_one n (subst (λ m. IsName n2 m m2) (sym e0) n') in
    let e2 = optional_arguments_one args (subst (λ m. AreOptionalArguments as2 m (at p2 (Punct Colon) ∷ m3)) (sym e1.1) args') in
    let e3 = type_one t (subst (λ m. IsType t2 m m4) (sym e2.1) t') (deprecated_no_bang dep h) (deprecated_no_bang dep' h') in
    let e4 = deprecated_one dep (subst (λ m. IsDeprecated m k) (sym e3.1) dep') h h' in
    (three (λ x y z. record { name = x; arguments = y; of_type = z }) e1.0 e2.0 e3.0, e4)

fields_one : {b : Bool} {fs gs : List tree.Field} {before after after' : List Token} → AreFields b fs before after → AreFields b gs before after' → (fs ≡ gs) × (after ≡ after')
fields_one no_more_fields no_more_fields = (refl, refl)
fields_one no_more_fields (next_field (field no_description n args t s dep) others) = elim n [ ]
fields_one (next_field (field no_description n args t s dep) others) no_more_fields = elim n [ ]
fields_one (next_field f others) (next_field {others = os} {after = k} f' others') =
    let r = field_one f f' (after_fields others) (after_fields others') in
    let s = fields_one others (subst (λ m. AreFields true os m k) (sym r.1) others') in
    (both (λ x xs. x ∷ xs) r.0 s.0, s.1)

enum_value_one : {v v' : tree.Name} {before after after' : List Token} → IsEnumValue v before after → IsEnumValue v' before after' → IsNoStart after → IsNoStart after' → (v ≡ v') × (after ≡ after')
enum_value_one (enum_value no_description e dep) (enum_value no_description e' dep') h h' = (refl, deprecated_one dep dep' h h')
enum_value_one (enum_value description e dep) (enum_value description e' dep') h h' = (refl, deprecated_one dep dep' h h')

enum_values_one : {b : Bool} {vs ws : List tree.Name} {before after after' : List Token} → AreEnumValues b vs before after → AreEnumValues b ws before after' → (vs ≡ ws) × (after ≡ after')
enum_values_one no_more_values no_more_values = (refl, refl)
enum_values_one no_more_values (next_value (enum_value d e dep) others) = elim d [ ]
enum_values_one (next_value (enum_value d e dep) others) no_more_values = elim d [ ]
enum_values_one (next_value v others) (next_value {others = os} {after = k} v' others') =
    let r = enum_value_one v v' (after_values others) (after_values others') in
    let s = enum_values_one others (subst (λ m. AreEnumValues true os m k) (sym r.1) others') in
    (both (λ x xs. x ∷ xs) r.0 s.0, s.1)

ampersand_one : {n n' : tree.Name} {before mid mid' after after' : List Token} → IsAmpersand before mid → IsAmpersand before mid' → IsTypeName n mid after → IsTypeName n' mid' after' → mid ≡ mid'
ampersand_one no_ampersand no_ampersand n n' = refl
ampersand_one no_ampersand ampersand n n' = elim n [ ]
ampersand_one ampersand no_ampersand n n' = elim n' [ ]
ampersand_one ampersand ampersand n n' = refl

pipe_one : {n n' : tree.Name} {before mid mid' after after' : List Token} → IsPipe before mid → IsPipe before mid' → IsTypeName n mid after → IsTypeName n' mid' after' → mid ≡ mid'
pipe_one no_pipe no_pipe n n' = refl
pipe_one no_pipe pipe n n' = elim n [ ]
pipe_one pipe no_pipe n n' = elim n' [ ]
pipe_one pipe pipe n n' = refl

more_interfaces_one : {is js : List tree.Name} {p p' : Place} {before after after' : List Token} → AreMoreInterfaces is before (at p (Punct BraceLeft) ∷ after) → AreMoreInterfaces js before (at p' (Punct BraceLeft) ∷ after') → (is ≡ js) × (after ≡ after')
more_interfaces_one no_more_interfaces no_more_interfaces = (refl, refl)
more_interfaces_one {p' = q} {after' = k} (next_interface n others) (next_interface {others = os} n' others') =
    let r = type_name_one n n' in
    let s = more_interfaces_one others (subst (λ m. AreMoreInterfaces os m (at q (Punct BraceLeft) ∷ k)) (sym r.1) others') in
    (both (λ x xs. x ∷ xs) r.0 s.0, s.1)

interfaces_one : {is js : List tree.Name} {p p' : Place} {before after after' : List Token} → AreInterfaces is before (at p (Punct BraceLeft) ∷ after) → AreInterfaces js before (at p' (Punct BraceLeft) ∷ after') → (is ≡ js) × (after ≡ after')
interfaces_one no_interfaces no_interfaces = (refl, refl)
interfaces_one {p' = p'} {after' = k} (interfaces e a n others) (interfaces {i = i2} {others = os} {mid'' = m3} e' a' n' others') =
    let q = ampersand_one a a' n n' in
    let r = type_name_one n (subst (λ m. IsTypeName i2 m m3) (sym q) n') in
    let s = more_interfaces_one others (subst (λ m. AreMoreInterfaces os m (at p' (Punct BraceLeft) ∷ k)) (sym r.1) others') in
    (both (λ x xs. x ∷ xs) r.0 s.0, s.1)

members_are_one : {ms ns : List tree.Name} {before after after' : List Token} → AreMoreMembers ms before after → AreMoreMembers ns before after' → IsNotNext (Punct Pipe) after → IsNotNext (Punct Pipe) after' → (ms ≡ ns) × (after ≡ after')
members_are_one no_more_members no_more_members h h' = (refl, refl)
members_are_one no_more_members (next_member n others) h h' = absurd (h refl)
members_are_one (next_member n others) no_more_members h h' = absurd (h' refl)
members_are_one (next_member n others) (next_member {others = os} {after = k} n' others') h h' =
    let r = type_name_one n n' in
    let s = members_are_one others (subst (λ m. AreMoreMembers os m k) (sym r.1) others') h h' in
    (both (λ x xs. x ∷ xs) r.0 s.0, s.1)

body_one : {w : SchemaWord} {p : Place} {d d' : Definition} {before after after' : List Token} → IsBody w p d before after → IsBody w p d' before after' → IsNotNext (Punct Pipe) after → IsNotNext (Punct Pipe) after' → (d ≡ d') × (after ≡ after')
body_one (schema {p = p} n) (schema n') h h' = let r = type_name_one n n' in (ap (tree.Schema p) r.0, tail_is r.1)
body_one (object n is fs) (object {q = q2} {n = n2} {is = is2} {fs = fs2} {mid = m2} {mid' = m3} {after = k} n' is' fs') h h' =
    let r = type_name_one n n' in
    let s = interfaces_one is (subst (λ m. AreInterfaces is2 m (at q2 (Punct BraceLeft) ∷ m3)) (sym r.1) is') in
    let t = fields_one fs (subst (λ m. AreFields false fs2 m k) (sym s.1) fs') in
    (three tree.Object r.0 s.0 t.0, t.1)
body_one (interface n fs) (interface {fs = fs2} {after = k} n' fs') h h' =
    let r = type_name_one n n' in
    let t = fields_one fs (subst (λ m. AreFields false fs2 m k) (sym (tail_is r.1)) fs') in
    (both tree.Interface r.0 t.0, t.1)
body_one (union n b m others) (union {m = m2} {others = os} {mid = x1} {mid' = x2} {mid'' = x3} {after = k} n' b' m' others') h h' =
    let r = type_name_one n n' in
    let q = pipe_one b (subst (λ x. IsPipe x x2) (sym (tail_is r.1)) b') m m' in
    let s = type_name_one m (subst (λ x. IsTypeName m2 x x3) (sym q) m') in
    let t = members_are_one others (subst (λ x. AreMoreMembers os x k) (sym s.1) others') h h' in
    (three (λ x y ys. tree.Union x (y ∷ ys)) r.0 s.0 t.0, t.1)
body_one (enum n vs) (enum {vs = vs2} {after = k} n' vs') h h' =
    let r = type_name_one n n' in
    let t = enum_values_one vs (subst (λ m. AreEnumValues false vs2 m k) (sym (tail_is r.1)) vs') in
    (both tree.Enum r.0 t.0, t.1)

definition_one : {d d' : Definition} {before after after' : List Token} → IsDefinition d before after → IsDefinition d' before after' → IsNotNext (Punct Pipe) after → IsNotNext (Punct Pipe) after' → (d ≡ d') × (after ≡ after')
definition_one (definition no_description b) (definition no_description b') h h' = body_one b b' h h'
definition_one (definition description b) (definition description b') h h' = body_one b b' h h'

-- one tree at most
pub document_one : {ds es : List Definition} {tokens : List Token} → IsDocument ds tokens → IsDocument es tokens → ds ≡ es
document_one no_more_definitions no_more_definitions = refl
document_one no_more_definitions (next_definition (definition d b) others) = elim d [ ]
document_one (next_definition (definition d b) others) no_more_definitions = elim d [ ]
document_one (next_definition d others) (next_definition {others = os} d' others') =
    let r = definition_one d d' (document_no_pipe others) (document_no_pipe others') in
    both (λ x xs. x ∷ xs) r.0 (document_one others (subst (λ m. IsDocument os m) (sym r.1) others'))
