-- No word that the machine refuses is one of those that aren't served.
use Rattle.std.specs.Prelude.{codes}
use Rattle.std.proofs.Common.{◌≡◌, ℕ, true, List, [], ◌∷◌, ◌++◌, refl, sym, ap, ◌∙◌, inl, inr}
use Rattle.text_place.specs.declared.place.Place.{Place}
use Rattle.gq_lexer.specs.declared.token.Punct.TheVariants.{Amp, Colon, BracketLeft, BraceLeft, BraceRight}
use Rattle.gq_parser.specs.declared.keyword.Keyword.{Keyword}
use Rattle.gq_parser.specs.declared.keyword.Keyword.TheVariants.{Query, Mutation, Subscription, Other}
use Rattle.gq_parser.specs.Word.{Word, Punct, Name, Token, at}
use Rattle.schema_syntax.specs.declared.word.SchemaWord.{SchemaWord}
use Rattle.schema_syntax.specs.declared.word.SchemaWord.TheVariants as word
use Rattle.schema_syntax.specs.Word.{word_of}
use Rattle.schema_syntax.specs.Fault.{IsUnservedWord, definition, operation, implements, float, IsOtherOperation}
use Rattle.schema_syntax.specs.Machine.{AColon, AnEquals, ABracket, AParenthesis, AName, ATypeName, AnItem, AnEnumName, AText, ADeprecated, AReason, AQuery, ARootEnd}
use Rattle.schema_syntax.specs.Machine.{Symbol, A, ADefinition, RootBody, ObjectBody, FirstInterface, MoreInterfaces, InterfaceBody, EnumBody, Fields, MaybeArguments, Arguments, MaybeDefault, AType, MaybeBang, MaybeDeprecated, MaybeReason, EnumValues, MaybePipe, MoreMembers, AValue, MoreValues, MoreObjectFields}
use Rattle.schema_syntax.specs.Machine.{Verdict, Accepts, Rejects, Bars, on_verdict, type_name_verdict, enum_name_verdict, query_verdict, root_end_verdict, implements_verdict, no_implements_verdict, body_move, moved, Shift, Shifts, Refused, Denied, shift}
use Rattle.schema_syntax.proofs.Means.{Shifted, shifts}
use Rattle.schema_syntax.proofs.Back.{a}
use Rattle.schema_syntax.proofs.Served.{Comes, goes_comes, comes_behind, comes_before}

verdict_refused : (v v' : Verdict) (symbols stack : List Symbol) (skipped : Shift) → v ≡ v' → moved (on_verdict v symbols) stack skipped ≡ Refused → moved (on_verdict v' symbols) stack skipped ≡ Refused
verdict_refused v v' symbols stack skipped e r = ap (λ x. moved (on_verdict x symbols) stack skipped) (sym e) ∙ r

type_name_refused : (s : SchemaWord) (symbols stack : List Symbol) (skipped : Shift) → moved (on_verdict (type_name_verdict s) symbols) stack skipped ≡ Refused → ⊥
type_name_refused word.Float symbols stack skipped r = cc
type_name_refused _ symbols stack skipped r = cc

body_refused : (s : SchemaWord) (stack : List Symbol) (skipped : Shift) → s ≡ word.Unserved → moved (body_move s) stack skipped ≡ Refused → ⊥
body_refused s stack skipped e r = let q : Denied ≡ Refused = ap (λ x. moved (body_move x) stack skipped) (sym e) ∙ r in cc

implements_refused : (s : SchemaWord) (symbols stack : List Symbol) (skipped : Shift) → s ≡ word.Implements → moved (on_verdict (implements_verdict s) symbols) stack skipped ≡ Refused → ⊥
implements_refused s symbols stack skipped e r = let q : Shifts (symbols ++ stack) ≡ Refused = ap (λ x. moved (on_verdict (implements_verdict x) symbols) stack skipped) (sym e) ∙ r in cc

no_implements_refused : (s : SchemaWord) (stack : List Symbol) (skipped : Shift) → s ≡ word.Implements → moved (on_verdict (no_implements_verdict s) []) stack skipped ≡ Refused → ⊥
no_implements_refused s stack skipped e r = let q : Denied ≡ Refused = ap (λ x. moved (on_verdict (no_implements_verdict x) []) stack skipped) (sym e) ∙ r in cc

verdict_fails : (v : Verdict) (symbols stack : List Symbol) (skipped skipped' : Shift) (tokens : List Token) → moved (on_verdict v symbols) stack skipped ≡ Refused → Shifted (moved (on_verdict v symbols) stack skipped') tokens → ⊥
verdict_fails Accepts symbols stack skipped skipped' tokens r m = cc
verdict_fails Rejects symbols stack skipped skipped' tokens r m = m
verdict_fails Bars symbols stack skipped skipped' tokens r m = m

-- no unserved word is refused where `type` can come
definition_refused : (stack : List Symbol) (k : Keyword) (n : List ℕ) (tokens : List Token) → word_of n ≡ word.Unserved → shift stack (Name k n) ≡ Refused → Shifted (shift stack (Name k (codes "type"))) tokens → ⊥
definition_refused [] k n tokens e r m = body_refused (word_of n) [] Refused e r
definition_refused (A AColon ∷ stack) k n tokens e r m = m
definition_refused (A AnEquals ∷ stack) k n tokens e r m = m
definition_refused (A ABracket ∷ stack) k n tokens e r m = m
definition_refused (A AParenthesis ∷ stack) k n tokens e r m = m
definition_refused (A AName ∷ stack) k n tokens e r m = cc
definition_refused (A ATypeName ∷ stack) k n tokens e r m = type_name_refused (word_of n) [] stack (shift stack (Name k n)) r
definition_refused (A AnItem ∷ stack) k n tokens e r m = type_name_refused (word_of n) [] stack (shift stack (Name k n)) r
definition_refused (A AnEnumName ∷ stack) k n tokens e r m = verdict_fails (enum_name_verdict k) [] stack _ _ tokens r m
definition_refused (A AText ∷ stack) k n tokens e r m = m
definition_refused (A ADeprecated ∷ stack) k n tokens e r m = m
definition_refused (A AReason ∷ stack) k n tokens e r m = m
definition_refused (A AQuery ∷ stack) k n tokens e r m = verdict_fails (query_verdict k) [] stack _ _ tokens r m
definition_refused (A ARootEnd ∷ stack) k n tokens e r m = verdict_fails (root_end_verdict k) [] stack _ _ tokens r m
definition_refused (ADefinition ∷ stack) k n tokens e r m = body_refused (word_of n) stack (shift stack (Name k n)) e r
definition_refused (FirstInterface ∷ stack) k n tokens e r m = type_name_refused (word_of n) (MoreInterfaces ∷ []) stack (shift stack (Name k n)) r
definition_refused ((Fields none) ∷ stack) k n tokens e r m = cc
definition_refused ((Arguments none) ∷ stack) k n tokens e r m = cc
definition_refused (AValue ∷ stack) k n tokens e r m = cc
definition_refused (MoreValues ∷ stack) k n tokens e r m = cc
definition_refused (MoreObjectFields ∷ stack) k n tokens e r m = cc
definition_refused (AType ∷ stack) k n tokens e r m = type_name_refused (word_of n) (MaybeBang ∷ []) stack (shift stack (Name k n)) r
definition_refused (EnumValues none ∷ stack) k n tokens e r m = verdict_fails (enum_name_verdict k) (MaybeDeprecated ∷ EnumValues true ∷ []) stack _ _ tokens r m
definition_refused (MaybeArguments ∷ stack) k n tokens e r m = definition_refused stack k n tokens e r m
definition_refused (MaybeDefault ∷ stack) k n tokens e r m = definition_refused stack k n tokens e r m
definition_refused (MaybeBang ∷ stack) k n tokens e r m = definition_refused stack k n tokens e r m
definition_refused (MaybeDeprecated ∷ stack) k n tokens e r m = definition_refused stack k n tokens e r m
definition_refused (MaybeReason ∷ stack) k n tokens e r m = definition_refused stack k n tokens e r m
definition_refused (MaybePipe ∷ stack) k n tokens e r m = definition_refused stack k n tokens e r m
definition_refused (MoreMembers ∷ stack) k n tokens e r m = definition_refused stack k n tokens e r m
definition_refused (_ ∷ stack) k n tokens e r m = m

-- `Float` is not refused where another name can come
float_refused : (stack : List Symbol) (k : Keyword) (n : List ℕ) (tokens : List Token) → word_of n ≡ word.Float → shift stack (Name k n) ≡ Refused → Shifted (shift stack (Name k (a))) tokens → ⊥
float_refused [] k n tokens e r m = m
float_refused (A AColon ∷ stack) k n tokens e r m = m
float_refused (A AnEquals ∷ stack) k n tokens e r m = m
float_refused (A ABracket ∷ stack) k n tokens e r m = m
float_refused (A AParenthesis ∷ stack) k n tokens e r m = m
float_refused (A AName ∷ stack) k n tokens e r m = cc
float_refused (A ATypeName ∷ stack) k n tokens e r m = type_name_refused (word_of n) [] stack (shift stack (Name k n)) r
float_refused (A AnItem ∷ stack) k n tokens e r m = type_name_refused (word_of n) [] stack (shift stack (Name k n)) r
float_refused (A AnEnumName ∷ stack) k n tokens e r m = verdict_fails (enum_name_verdict k) [] stack _ _ tokens r m
float_refused (A AText ∷ stack) k n tokens e r m = m
float_refused (A ADeprecated ∷ stack) k n tokens e r m = m
float_refused (A AReason ∷ stack) k n tokens e r m = m
float_refused (A AQuery ∷ stack) k n tokens e r m = verdict_fails (query_verdict k) [] stack _ _ tokens r m
float_refused (A ARootEnd ∷ stack) k n tokens e r m = verdict_fails (root_end_verdict k) [] stack _ _ tokens r m
float_refused (ADefinition ∷ stack) k n tokens e r m = m
float_refused (FirstInterface ∷ stack) k n tokens e r m = type_name_refused (word_of n) (MoreInterfaces ∷ []) stack (shift stack (Name k n)) r
float_refused ((Fields none) ∷ stack) k n tokens e r m = cc
float_refused ((Arguments none) ∷ stack) k n tokens e r m = cc
float_refused (AValue ∷ stack) k n tokens e r m = cc
float_refused (MoreValues ∷ stack) k n tokens e r m = cc
float_refused (MoreObjectFields ∷ stack) k n tokens e r m = cc
float_refused (AType ∷ stack) k n tokens e r m = type_name_refused (word_of n) (MaybeBang ∷ []) stack (shift stack (Name k n)) r
float_refused (EnumValues none ∷ stack) k n tokens e r m = verdict_fails (enum_name_verdict k) (MaybeDeprecated ∷ EnumValues true ∷ []) stack _ _ tokens r m
float_refused (MaybeArguments ∷ stack) k n tokens e r m = float_refused stack k n tokens e r m
float_refused (MaybeDefault ∷ stack) k n tokens e r m = float_refused stack k n tokens e r m
float_refused (MaybeBang ∷ stack) k n tokens e r m = float_refused stack k n tokens e r m
float_refused (MaybeDeprecated ∷ stack) k n tokens e r m = float_refused stack k n tokens e r m
float_refused (MaybeReason ∷ stack) k n tokens e r m = float_refused stack k n tokens e r m
float_refused (MaybePipe ∷ stack) k n tokens e r m = float_refused stack k n tokens e r m
float_refused (MoreMembers ∷ stack) k n tokens e r m = float_refused stack k n tokens e r m
float_refused (_ ∷ stack) k n tokens e r m = m

-- says how `mutation` and `subscription` are judged
record IsOther (k : Keyword) : Type 0 where
  pub enum_name : enum_name_verdict k ≡ Accepts
  pub query : query_verdict k ≡ Bars
  pub root_end : root_end_verdict k ≡ Bars

is_other : (k : Keyword) → IsOtherOperation k → IsOther k
is_other Mutation h = record { enum_name = refl; query = refl; root_end = refl }
is_other Subscription h = record { enum_name = refl; query = refl; root_end = refl }
is_other _ h = absurd h

accepted_refused : (v : Verdict) (symbols stack : List Symbol) (skipped : Shift) → v ≡ Accepts → moved (on_verdict v symbols) stack skipped ≡ Refused → ⊥
accepted_refused v symbols stack skipped e r = let q : Shifts (symbols ++ stack) ≡ Refused = verdict_refused v Accepts symbols stack skipped e r in cc

barred_refused : (v : Verdict) (symbols stack : List Symbol) (skipped : Shift) → v ≡ Bars → moved (on_verdict v symbols) stack skipped ≡ Refused → ⊥
barred_refused v symbols stack skipped e r = let q : Denied ≡ Refused = verdict_refused v Bars symbols stack skipped e r in cc

-- `mutation` and `subscription` are not refused where `query` or a closing brace can come
query_refused : (stack : List Symbol) (k : Keyword) (n : List ℕ) (tokens : List Token) → IsOther k → shift stack (Name k n) ≡ Refused → Shifted (shift stack (Name Query (codes "query"))) tokens → ⊥
query_refused [] k n tokens h r m = m
query_refused (A AColon ∷ stack) k n tokens h r m = m
query_refused (A AnEquals ∷ stack) k n tokens h r m = m
query_refused (A ABracket ∷ stack) k n tokens h r m = m
query_refused (A AParenthesis ∷ stack) k n tokens h r m = m
query_refused (A AName ∷ stack) k n tokens h r m = cc
query_refused (A ATypeName ∷ stack) k n tokens h r m = type_name_refused (word_of n) [] stack (shift stack (Name k n)) r
query_refused (A AnItem ∷ stack) k n tokens h r m = type_name_refused (word_of n) [] stack (shift stack (Name k n)) r
query_refused (A AnEnumName ∷ stack) k n tokens h r m = accepted_refused (enum_name_verdict k) [] stack (shift stack (Name k n)) h.enum_name r
query_refused (A AText ∷ stack) k n tokens h r m = m
query_refused (A ADeprecated ∷ stack) k n tokens h r m = m
query_refused (A AReason ∷ stack) k n tokens h r m = m
query_refused (A AQuery ∷ stack) k n tokens h r m = barred_refused (query_verdict k) [] stack (shift stack (Name k n)) h.query r
query_refused (A ARootEnd ∷ stack) k n tokens h r m = barred_refused (root_end_verdict k) [] stack (shift stack (Name k n)) h.root_end r
query_refused (ADefinition ∷ stack) k n tokens h r m = m
query_refused (FirstInterface ∷ stack) k n tokens h r m = type_name_refused (word_of n) (MoreInterfaces ∷ []) stack (shift stack (Name k n)) r
query_refused ((Fields none) ∷ stack) k n tokens h r m = cc
query_refused ((Arguments none) ∷ stack) k n tokens h r m = cc
query_refused (AValue ∷ stack) k n tokens h r m = cc
query_refused (MoreValues ∷ stack) k n tokens h r m = cc
query_refused (MoreObjectFields ∷ stack) k n tokens h r m = cc
query_refused (AType ∷ stack) k n tokens h r m = type_name_refused (word_of n) (MaybeBang ∷ []) stack (shift stack (Name k n)) r
query_refused (EnumValues none ∷ stack) k n tokens h r m = accepted_refused (enum_name_verdict k) (MaybeDeprecated ∷ EnumValues true ∷ []) stack (shift stack (Name k n)) h.enum_name r
query_refused (MaybeArguments ∷ stack) k n tokens h r m = query_refused stack k n tokens h r m
query_refused (MaybeDefault ∷ stack) k n tokens h r m = query_refused stack k n tokens h r m
query_refused (MaybeBang ∷ stack) k n tokens h r m = query_refused stack k n tokens h r m
query_refused (MaybeDeprecated ∷ stack) k n tokens h r m = query_refused stack k n tokens h r m
query_refused (MaybeReason ∷ stack) k n tokens h r m = query_refused stack k n tokens h r m
query_refused (MaybePipe ∷ stack) k n tokens h r m = query_refused stack k n tokens h r m
query_refused (MoreMembers ∷ stack) k n tokens h r m = query_refused stack k n tokens h r m
query_refused (_ ∷ stack) k n tokens h r m = m

brace_refused : (stack : List Symbol) (k : Keyword) (n : List ℕ) (tokens : List Token) → IsOther k → shift stack (Name k n) ≡ Refused → Shifted (shift stack (Punct BraceRight)) tokens → ⊥
brace_refused [] k n tokens h r m = m
brace_refused (A AColon ∷ stack) k n tokens h r m = m
brace_refused (A AnEquals ∷ stack) k n tokens h r m = m
brace_refused (A ABracket ∷ stack) k n tokens h r m = m
brace_refused (A AParenthesis ∷ stack) k n tokens h r m = m
brace_refused (A AName ∷ stack) k n tokens h r m = cc
brace_refused (A ATypeName ∷ stack) k n tokens h r m = type_name_refused (word_of n) [] stack (shift stack (Name k n)) r
brace_refused (A AnItem ∷ stack) k n tokens h r m = type_name_refused (word_of n) [] stack (shift stack (Name k n)) r
brace_refused (A AnEnumName ∷ stack) k n tokens h r m = accepted_refused (enum_name_verdict k) [] stack (shift stack (Name k n)) h.enum_name r
brace_refused (A AText ∷ stack) k n tokens h r m = m
brace_refused (A ADeprecated ∷ stack) k n tokens h r m = m
brace_refused (A AReason ∷ stack) k n tokens h r m = m
brace_refused (A AQuery ∷ stack) k n tokens h r m = barred_refused (query_verdict k) [] stack (shift stack (Name k n)) h.query r
brace_refused (A ARootEnd ∷ stack) k n tokens h r m = barred_refused (root_end_verdict k) [] stack (shift stack (Name k n)) h.root_end r
brace_refused (ADefinition ∷ stack) k n tokens h r m = m
brace_refused (FirstInterface ∷ stack) k n tokens h r m = type_name_refused (word_of n) (MoreInterfaces ∷ []) stack (shift stack (Name k n)) r
brace_refused ((Fields none) ∷ stack) k n tokens h r m = cc
brace_refused ((Arguments none) ∷ stack) k n tokens h r m = cc
brace_refused (AValue ∷ stack) k n tokens h r m = cc
brace_refused (MoreValues ∷ stack) k n tokens h r m = cc
brace_refused (MoreObjectFields ∷ stack) k n tokens h r m = cc
brace_refused (AType ∷ stack) k n tokens h r m = type_name_refused (word_of n) (MaybeBang ∷ []) stack (shift stack (Name k n)) r
brace_refused (EnumValues none ∷ stack) k n tokens h r m = accepted_refused (enum_name_verdict k) (MaybeDeprecated ∷ EnumValues true ∷ []) stack (shift stack (Name k n)) h.enum_name r
brace_refused (MaybeArguments ∷ stack) k n tokens h r m = brace_refused stack k n tokens h r m
brace_refused (MaybeDefault ∷ stack) k n tokens h r m = brace_refused stack k n tokens h r m
brace_refused (MaybeBang ∷ stack) k n tokens h r m = brace_refused stack k n tokens h r m
brace_refused (MaybeDeprecated ∷ stack) k n tokens h r m = brace_refused stack k n tokens h r m
brace_refused (MaybeReason ∷ stack) k n tokens h r m = brace_refused stack k n tokens h r m
brace_refused (MaybePipe ∷ stack) k n tokens h r m = brace_refused stack k n tokens h r m
brace_refused (MoreMembers ∷ stack) k n tokens h r m = brace_refused stack k n tokens h r m
brace_refused (_ ∷ stack) k n tokens h r m = m

-- `implements` is not refused where fields in braces can come, and no `&`
abbrev fields_next : Place → List Token
fields_next p = at p (Punct BraceLeft) ∷ at p (Name Other a) ∷ at p (Punct Colon) ∷ []

implements_never : (stack : List Symbol) (p : Place) (k : Keyword) (n : List ℕ) → word_of n ≡ word.Implements → shift stack (Name k n) ≡ Refused → Comes stack [] (fields_next p) → (Comes stack [] (at p (Punct Amp) ∷ []) → ⊥) → ⊥
implements_never [] p k n e r c d = shifts c.means
implements_never (A AColon ∷ stack) p k n e r c d = shifts c.means
implements_never (A AnEquals ∷ stack) p k n e r c d = shifts c.means
implements_never (A ABracket ∷ stack) p k n e r c d = shifts c.means
implements_never (A AParenthesis ∷ stack) p k n e r c d = shifts c.means
implements_never (A AName ∷ stack) p k n e r c d = shifts c.means
implements_never (A ATypeName ∷ stack) p k n e r c d = shifts c.means
implements_never (A AnItem ∷ stack) p k n e r c d = shifts c.means
implements_never (A AnEnumName ∷ stack) p k n e r c d = shifts c.means
implements_never (A AText ∷ stack) p k n e r c d = shifts c.means
implements_never (A ADeprecated ∷ stack) p k n e r c d = shifts c.means
implements_never (A AReason ∷ stack) p k n e r c d = shifts c.means
implements_never (A AQuery ∷ stack) p k n e r c d = shifts c.means
implements_never (A ARootEnd ∷ stack) p k n e r c d = shifts c.means
implements_never (RootBody ∷ stack) p k n e r c d = shifts (shifts c.means)
implements_never (ObjectBody ∷ stack) p k n e r c d = implements_refused (word_of n) (FirstInterface ∷ []) stack (shift stack (Name k n)) e r
implements_never (MoreInterfaces ∷ stack) p k n e r c d = d (goes_comes (MoreInterfaces ∷ stack) (A ATypeName ∷ MoreInterfaces ∷ stack) p (Punct Amp) refl)
implements_never (InterfaceBody ∷ stack) p k n e r c d = no_implements_refused (word_of n) stack (shift stack (Name k n)) e r
implements_never (EnumBody ∷ stack) p k n e r c d = shifts (shifts (shifts c.means))
implements_never (AValue ∷ stack) p k n e r c d = cc
implements_never (MoreValues ∷ stack) p k n e r c d = cc
implements_never (MaybeArguments ∷ stack) p k n e r c d = implements_never stack p k n e r (comes_behind MaybeArguments stack p (Punct BraceLeft) _ refl c) (λ x. d (comes_before MaybeArguments stack p (Punct Amp) [] refl x))
implements_never (MaybeDefault ∷ stack) p k n e r c d = implements_never stack p k n e r (comes_behind MaybeDefault stack p (Punct BraceLeft) _ refl c) (λ x. d (comes_before MaybeDefault stack p (Punct Amp) [] refl x))
implements_never (MaybeBang ∷ stack) p k n e r c d = implements_never stack p k n e r (comes_behind MaybeBang stack p (Punct BraceLeft) _ refl c) (λ x. d (comes_before MaybeBang stack p (Punct Amp) [] refl x))
implements_never (MaybeDeprecated ∷ stack) p k n e r c d = implements_never stack p k n e r (comes_behind MaybeDeprecated stack p (Punct BraceLeft) _ refl c) (λ x. d (comes_before MaybeDeprecated stack p (Punct Amp) [] refl x))
implements_never (MaybeReason ∷ stack) p k n e r c d = implements_never stack p k n e r (comes_behind MaybeReason stack p (Punct BraceLeft) _ refl c) (λ x. d (comes_before MaybeReason stack p (Punct Amp) [] refl x))
implements_never (MaybePipe ∷ stack) p k n e r c d = implements_never stack p k n e r (comes_behind MaybePipe stack p (Punct BraceLeft) _ refl c) (λ x. d (comes_before MaybePipe stack p (Punct Amp) [] refl x))
implements_never (MoreMembers ∷ stack) p k n e r c d = implements_never stack p k n e r (comes_behind MoreMembers stack p (Punct BraceLeft) _ refl c) (λ x. d (comes_before MoreMembers stack p (Punct Amp) [] refl x))
implements_never (_ ∷ stack) p k n e r c d = shifts c.means

-- a token that is refused is no unserved word
pub refused_served : (stack : List Symbol) (p : Place) (w : Word) → shift stack w ≡ Refused → IsUnservedWord (Comes stack []) (at p w) → ⊥
refused_served stack p w r (definition {k = k} {n = n} e c) = definition_refused stack k n c.more e r (shifts c.means)
refused_served stack p w r (operation {k = k} {n = n} h (inl c)) = query_refused stack k n c.more (is_other k h) r (shifts c.means)
refused_served stack p w r (operation {k = k} {n = n} h (inr c)) = brace_refused stack k n c.more (is_other k h) r (shifts c.means)
refused_served stack p w r (implements {k = k} {n = n} e c d) = implements_never stack p k n e r c d
refused_served stack p w r (float {k = k} {n = n} e c) = float_refused stack k n c.more e r (shifts c.means)

-- gives what another `[` does behind a token
abbrev after_bracket : Shift → Shift
after_bracket (Shifts next) = shift next (Punct BracketLeft)
after_bracket o = o

-- behind a `[` another is not refused
pub bracket_refused : (stack next : List Symbol) → shift stack (Punct BracketLeft) ≡ Shifts next → shift next (Punct BracketLeft) ≡ Refused → ⊥
bracket_refused [] next e r = cc
bracket_refused (A AColon ∷ stack) next e r = cc
bracket_refused (A AnEquals ∷ stack) next e r = cc
bracket_refused (A ABracket ∷ stack) next e r = cc
bracket_refused (A AParenthesis ∷ stack) next e r = cc
bracket_refused (A AName ∷ stack) next e r = cc
bracket_refused (A ATypeName ∷ stack) next e r = cc
bracket_refused (A AnItem ∷ stack) next e r = cc
bracket_refused (A AnEnumName ∷ stack) next e r = cc
bracket_refused (A AText ∷ stack) next e r = cc
bracket_refused (A ADeprecated ∷ stack) next e r = cc
bracket_refused (A AReason ∷ stack) next e r = cc
bracket_refused (A AQuery ∷ stack) next e r = cc
bracket_refused (A ARootEnd ∷ stack) next e r = cc
bracket_refused (AType ∷ stack) next e r = let q : Denied ≡ Refused = ap (λ x. after_bracket x) e ∙ r in cc
bracket_refused (AValue ∷ stack) next e r = let q : Shifts (MoreValues ∷ MoreValues ∷ stack) ≡ Refused = ap (λ x. after_bracket x) e ∙ r in cc
bracket_refused (MoreValues ∷ stack) next e r = let q : Shifts (MoreValues ∷ MoreValues ∷ MoreValues ∷ stack) ≡ Refused = ap (λ x. after_bracket x) e ∙ r in cc
bracket_refused (MaybeArguments ∷ stack) next e r = bracket_refused stack next e r
bracket_refused (MaybeDefault ∷ stack) next e r = bracket_refused stack next e r
bracket_refused (MaybeBang ∷ stack) next e r = bracket_refused stack next e r
bracket_refused (MaybeDeprecated ∷ stack) next e r = bracket_refused stack next e r
bracket_refused (MaybeReason ∷ stack) next e r = bracket_refused stack next e r
bracket_refused (MaybePipe ∷ stack) next e r = bracket_refused stack next e r
bracket_refused (MoreMembers ∷ stack) next e r = bracket_refused stack next e r
bracket_refused (_ ∷ stack) next e r = cc
