-- Lemmas on what each step of a method gives.
use Rattle.std.proofs.Common.{◌≡◌, ◌≢◌, ℕ, suc, Bool, true, false, List, [], ◌∷◌, ◌++◌, Result, Ok, Err, Option, Some, None, refl, sym, ap, subst, ◌∙◌}
use Rattle.std.specs.Global.{Global}
use Rattle.std.specs.Prelude.{string_bytes, not, if◌then◌else◌}
use Rattle.std.specs.declared.string.String.{String}
use Rattle.std.specs.declared.boxed.Box.{Box}
use Rattle.text_place.specs.declared.place.Place.{Place}
use Rattle.gq_lexer.specs.declared.token.Punct.TheVariants.{Bang, Amp, ParenLeft, ParenRight, Colon, Equals, At, BracketLeft, BracketRight, BraceLeft, BraceRight}
use Rattle.gq_parser.specs.declared.keyword.Keyword.{Keyword}
use Rattle.gq_parser.specs.declared.tree.TypeRef as rust-type
use Rattle.gq_parser.specs.declared.tree.TypeRef.TheVariants as typeref
use Rattle.gq_parser.specs.declared.tree.TypeRef.TheFolds.{fold-roll-TypeRef}
use Rattle.gq_parser.specs.declared.tree.TypeRef.TheOpen as open-type
use Rattle.gq_parser.specs.Word.{Word, Punct, Name, Text, Token, at}
use Rattle.gq_parser.specs.Tree.{TypeTree, Named, ListOf, type_of, type_step}
use Rattle.gq_parser.specs.Grammar.{IsBang, no_bang, bang, IsType, named, list_of}
use Rattle.schema_syntax.specs.declared.fault.TokenFault.{TokenFault}
use Rattle.schema_syntax.specs.declared.fault.TokenFault.TheVariants.{Unexpected, NotServed}
use Rattle.schema_syntax.specs.declared.word.SchemaWord.{SchemaWord}
use Rattle.schema_syntax.specs.declared.word.SchemaWord.TheVariants as word
use Rattle.schema_syntax.specs.Word.{word_of, IsServedName}
use Rattle.schema_syntax.specs.Tree as tree
use Rattle.schema_syntax.specs.Grammar.{IsName, a_name, IsTypeName, type_name, IsServedType, IsReason, no_reason, reason, IsDeprecated, not_deprecated, deprecated}
use Rattle.schema_syntax.specs.Machine.{Symbol, RootBody, ObjectBody, InterfaceBody, EnumBody, MoreInterfaces, ARootEnd, at_end, A, AColon, AnEquals, ABracket, AParenthesis, AName, ATypeName, AnItem, AType, MaybeBang, MaybeDeprecated, MaybeReason, ADeprecated, AReason, AText, Verdict, Accepts, Rejects, Bars, on_verdict, type_name_verdict, deprecated_verdict, reason_verdict, moved, Shift, Shifts, shift, one, refused, read, is_deprecated, Goes, Stops, Forbids, Sinks, Refused}
use Rattle.schema_syntax.specs.Parsing.{Reads, Fails, Eats, Expects, IsNotNext, IsTaken, IsTextTaken, IsNoName, IsTypeRead, IsNamed}

-- a fault is the same fault earlier, where the reading is the same
pub fails_earlier : (e : TokenFault) (o o' : Option TokenFault) → o ≡ o' → Fails e o' → Fails e o
fails_earlier e o o' same h = subst (λ x. Fails e x) (sym same) h

-- a tree that is read here is read from earlier on, too
pub reads_from : {T : Type 0} (P Q : T → List Token → List Token → Type 0) (room r1 r2 : ℕ) (s0 s1 s2 : List Symbol) (before mid after : List Token) (res : Result T TokenFault)
    → ((stack : List Symbol) → read room (s0 ++ stack) before ≡ read r1 (s1 ++ stack) mid) → ((t : T) → P t mid after → Q t before after) → Reads P r1 s1 r2 s2 mid after res → Reads Q room s0 r2 s2 before after res
reads_from P Q room r1 r2 s0 s1 s2 before mid after (Ok t) e f h = (f t h.0, λ stack. e stack ∙ h.1 stack)
reads_from P Q room r1 r2 s0 s1 s2 before mid after (Err x) e f h = λ stack. fails_earlier x _ _ (e stack) (h stack)

-- shows the same where nothing was taken in between
pub reads_at : {T : Type 0} (P : T → List Token → List Token → Type 0) (room r1 r2 : ℕ) (s0 s1 s2 : List Symbol) (before mid after : List Token) (res : Result T TokenFault)
    → mid ≡ before → ((stack : List Symbol) → read room (s0 ++ stack) before ≡ read r1 (s1 ++ stack) before) → Reads P r1 s1 r2 s2 mid after res → Reads P room s0 r2 s2 before after res
reads_at P room r1 r2 s0 s1 s2 before mid after res e f h = reads_from P P room r1 r2 s0 s1 s2 before mid after res (λ stack. f stack ∙ ap (read r1 (s1 ++ stack)) (sym e)) (λ t x. subst (λ b. P t b after) e x) h

-- a name that is taken
pub read_name : (room : ℕ) (p : Place) (k : Keyword) (n : List ℕ) (stack next : List Symbol) (tokens : List Token) → shift stack (Name k n) ≡ Shifts next → read room stack (at p (Name k n) ∷ tokens) ≡ read room next tokens
read_name room p k n stack next tokens e = rw (e, read) refl

-- ---- names

served_accepts : (s : SchemaWord) → s ≢ word.Float → type_name_verdict s ≡ Accepts
served_accepts word.Float h = absurd (h refl)
served_accepts _ h = refl

pub name_read : (room : ℕ) (p : Place) (k : Keyword) (s : String Global) (n : List ℕ) (before after : List Token) → before ≡ at p (Name k n) ∷ after → string_bytes s ≡ n
    → IsName (record { text = string_bytes s; place = p }) before after × ((stack : List Symbol) → read room (A AName ∷ stack) before ≡ read room stack after)
name_read room p k s n before after e h = rw (e, h) (a_name, λ stack. refl)

type_name_shift : (s : SchemaWord) (stack : List Symbol) (skipped : Shift) → s ≢ word.Float → moved (on_verdict (type_name_verdict s) []) stack skipped ≡ Shifts stack
type_name_shift s stack skipped h = rw (served_accepts s h) refl

pub type_name_read : (room : ℕ) (p : Place) (k : Keyword) (s : String Global) (n : List ℕ) (before after : List Token) → before ≡ at p (Name k n) ∷ after → string_bytes s ≡ n → IsServedName n
    → IsTypeName (record { text = string_bytes s; place = p }) before after × ((stack : List Symbol) → read room (A ATypeName ∷ stack) before ≡ read room stack after)
type_name_read room p k s n before after e h served = rw (e, h) (type_name served, λ stack. read_name room p k n (A ATypeName ∷ stack) stack after (type_name_shift (word_of n) stack _ served))

-- ---- types

pub type_of_named : (p : Place) (n : List ℕ) (b : Bool) → type_of (typeref.Named p n b) ≡ Named p n b
type_of_named p n b = ap type_of (sym (typeref.rolls-Named p n b)) ∙ fold-roll-TypeRef TypeTree type_step (open-type.Named p n b)

pub type_of_list : (p : Place) (t : Box rust-type.TypeRef Global) (b : Bool) → type_of (typeref.List p t b) ≡ ListOf p (type_of t.value) b
type_of_list p t b = ap type_of (sym (typeref.rolls-List p t b)) ∙ fold-roll-TypeRef TypeTree type_step (open-type.List p t b)

bang_read : (before after : List Token) (b : Bool) → Eats (Punct Bang) before after b → IsBang b before after
bang_read before after true h = rw h.is bang
bang_read before after false h = rw h.0 no_bang

no_bang_comes : (room : ℕ) (tokens : List Token) (stack : List Symbol) → IsNotNext (Punct Bang) tokens → read room (MaybeBang ∷ stack) tokens ≡ read room stack tokens
no_bang_comes room [] stack h = refl
no_bang_comes room (at p (Punct Bang) ∷ tokens) stack h = absurd (h refl)
no_bang_comes room (at p _ ∷ tokens) stack h = refl

bang_comes : (room : ℕ) (before after : List Token) (b : Bool) (stack : List Symbol) → Eats (Punct Bang) before after b → read room (MaybeBang ∷ stack) before ≡ read room stack after
bang_comes room before after true stack h = rw h.is refl
bang_comes room before after false stack h = no_bang_comes room before stack h.1 ∙ ap (read room stack) (sym h.0)

served_is : {n : tree.Name} {before after : List Token} → IsTypeName n before after → IsServedName n.text
served_is (type_name h) = h

named_is : {n : tree.Name} {b : Bool} {before mid after : List Token} → IsTypeName n before mid → IsBang b mid after → IsTypeRead (Named n.place n.text b) before after
named_is (type_name h) g = record { is = named g; served = h }

pub named_type_read : (room : ℕ) (p : Place) (s : List ℕ) (b : Bool) (before mid after : List Token)
    → IsTypeName (record { text = s; place = p }) before mid × ((stack : List Symbol) → read room (A ATypeName ∷ stack) before ≡ read room stack mid) → Eats (Punct Bang) mid after b
    → IsTypeRead (type_of (typeref.Named p s b)) before after × ((stack : List Symbol) → read room (A ATypeName ∷ MaybeBang ∷ stack) before ≡ read room stack after)
named_type_read room p s b before mid after h eaten = (
  subst (λ t. IsTypeRead t before after) (sym (type_of_named p s b)) (named_is h.0 (bang_read mid after b eaten)),
  λ stack. h.1 (MaybeBang ∷ stack) ∙ bang_comes room mid after b stack eaten,
)

-- the item of a list that is no list
pub item_comes : (room : ℕ) (tokens : List Token) (stack : List Symbol) → IsNotNext (Punct BracketLeft) tokens → read room (A AnItem ∷ stack) tokens ≡ read room (A ATypeName ∷ stack) tokens
item_comes room [] stack h = refl
item_comes room (at p (Punct BracketLeft) ∷ tokens) stack h = absurd (h refl)
item_comes room (at p (Name k n) ∷ tokens) stack h = refl
item_comes room (at p _ ∷ tokens) stack h = refl

same_shift : (room : ℕ) (p : Place) (k : Keyword) (n : List ℕ) (stack stack' : List Symbol) (tokens : List Token) → shift stack (Name k n) ≡ shift stack' (Name k n) → read room stack (at p (Name k n) ∷ tokens) ≡ read room stack' (at p (Name k n) ∷ tokens)
same_shift room p k n stack stack' tokens e = rw (e, read) refl

type_shift : (v : Verdict) (symbols stack : List Symbol) (skipped skipped' : Shift) → moved (on_verdict v symbols) stack skipped ≡ moved (on_verdict v []) (symbols ++ stack) skipped'
type_shift Accepts symbols stack skipped skipped' = refl
type_shift Rejects symbols stack skipped skipped' = refl
type_shift Bars symbols stack skipped skipped' = refl

-- a type that is no list
pub type_comes : (room : ℕ) (tokens : List Token) (stack : List Symbol) → IsNotNext (Punct BracketLeft) tokens → read room (AType ∷ stack) tokens ≡ read room (A ATypeName ∷ MaybeBang ∷ stack) tokens
type_comes room [] stack h = refl
type_comes room (at p (Punct BracketLeft) ∷ tokens) stack h = absurd (h refl)
type_comes room (at p (Name k n) ∷ tokens) stack h = same_shift room p k n (AType ∷ stack) (A ATypeName ∷ MaybeBang ∷ stack) tokens (type_shift (type_name_verdict (word_of n)) (one MaybeBang) stack _ _)
type_comes room (at p _ ∷ tokens) stack h = refl

-- a list type
pub list_opens : (room : ℕ) (p : Place) (before mid : List Token) (stack : List Symbol) → before ≡ at p (Punct BracketLeft) ∷ mid → read (suc room) (AType ∷ stack) before ≡ read room (A AnItem ∷ MaybeBang ∷ A ABracket ∷ MaybeBang ∷ stack) mid
list_opens room p before mid stack e = rw e refl

refused_is : (tokens : List Token) (o : Option TokenFault) (stop : TokenFault) → stop ≡ refused tokens → o ≡ Some (refused tokens) → Fails stop o
refused_is [] o stop e h = rw e h
refused_is (at p (Punct At) ∷ at q (Name k n) ∷ rest) o stop e h = rw e h
refused_is (at p (Punct At) ∷ []) o stop e h = rw e h
refused_is (at p (Punct At) ∷ at q _ ∷ rest) o stop e h = rw e h
refused_is (at p _ ∷ rest) o stop e h = rw e h

refused_reads : (room : ℕ) (p : Place) (w : Word) (tokens : List Token) (stack : List Symbol) → shift stack w ≡ Refused → read room stack (at p w ∷ tokens) ≡ Some (refused (at p w ∷ tokens))
refused_reads room p w tokens stack e = rw (e, read) refl

-- a text that can neither go on nor end fails here
pub fails_here : (room : ℕ) (before : List Token) (stop : TokenFault) (stack : List Symbol) → stop ≡ refused before → at_end stack ≡ Some (Unexpected None) → ((p : Place) (w : Word) (rest : List Token) → before ≡ at p w ∷ rest → shift stack w ≡ Refused) → Fails stop (read room stack before)
fails_here room [] stop stack e ends f = refused_is [] _ stop e ends
fails_here room (at p w ∷ rest) stop stack e ends f = refused_is (at p w ∷ rest) _ stop e (refused_reads room p w rest stack (f p w rest refl))

-- a word that is not next
not_first : {w v : Word} {p : Place} {before rest : List Token} → IsNotNext v before → before ≡ at p w ∷ rest → w ≢ v
not_first {w = w} {v = v} {p = p} {rest = rest} h e = let x : IsNotNext v (at p w ∷ rest) = subst (IsNotNext v) e h in x

bracket_shift : (w : Word) (stack : List Symbol) → w ≢ Punct BracketRight → shift (A ABracket ∷ stack) w ≡ Refused
bracket_shift (Punct BracketRight) stack h = absurd (h refl)
bracket_shift _ stack h = refl

pub bracket_fails : (room : ℕ) (before : List Token) (stop : TokenFault) (stack : List Symbol) → (stop ≡ refused before) × IsNotNext (Punct BracketRight) before → Fails stop (read room (A ABracket ∷ stack) before)
bracket_fails room before stop stack h = fails_here room before stop (A ABracket ∷ stack) h.0 refl (λ p w rest e. bracket_shift w stack (not_first h.1 e))

colon_shift : (w : Word) (stack : List Symbol) → w ≢ Punct Colon → shift (A AColon ∷ stack) w ≡ Refused
colon_shift (Punct Colon) stack h = absurd (h refl)
colon_shift _ stack h = refl

pub colon_fails : (room : ℕ) (before : List Token) (stop : TokenFault) (stack : List Symbol) → (stop ≡ refused before) × IsNotNext (Punct Colon) before → Fails stop (read room (A AColon ∷ stack) before)
colon_fails room before stop stack h = fails_here room before stop (A AColon ∷ stack) h.0 refl (λ p w rest e. colon_shift w stack (not_first h.1 e))

equals_shift : (w : Word) (stack : List Symbol) → w ≢ Punct Equals → shift (A AnEquals ∷ stack) w ≡ Refused
equals_shift (Punct Equals) stack h = absurd (h refl)
equals_shift _ stack h = refl

pub equals_fails : (room : ℕ) (before : List Token) (stop : TokenFault) (stack : List Symbol) → (stop ≡ refused before) × IsNotNext (Punct Equals) before → Fails stop (read room (A AnEquals ∷ stack) before)
equals_fails room before stop stack h = fails_here room before stop (A AnEquals ∷ stack) h.0 refl (λ p w rest e. equals_shift w stack (not_first h.1 e))

parenthesis_shift : (w : Word) (stack : List Symbol) → w ≢ Punct ParenRight → shift (A AParenthesis ∷ stack) w ≡ Refused
parenthesis_shift (Punct ParenRight) stack h = absurd (h refl)
parenthesis_shift _ stack h = refl

pub parenthesis_fails : (room : ℕ) (before : List Token) (stop : TokenFault) (stack : List Symbol) → (stop ≡ refused before) × IsNotNext (Punct ParenRight) before → Fails stop (read room (A AParenthesis ∷ stack) before)
parenthesis_fails room before stop stack h = fails_here room before stop (A AParenthesis ∷ stack) h.0 refl (λ p w rest e. parenthesis_shift w stack (not_first h.1 e))

root_shift : (w : Word) (stack : List Symbol) → w ≢ Punct BraceLeft → shift (RootBody ∷ stack) w ≡ Refused
root_shift (Punct BraceLeft) stack h = absurd (h refl)
root_shift _ stack h = refl

pub root_fails : (room : ℕ) (before : List Token) (stop : TokenFault) (stack : List Symbol) → (stop ≡ refused before) × IsNotNext (Punct BraceLeft) before → Fails stop (read room (RootBody ∷ stack) before)
root_fails room before stop stack h = fails_here room before stop (RootBody ∷ stack) h.0 refl (λ p w rest e. root_shift w stack (not_first h.1 e))

enum_shift : (w : Word) (stack : List Symbol) → w ≢ Punct BraceLeft → shift (EnumBody ∷ stack) w ≡ Refused
enum_shift (Punct BraceLeft) stack h = absurd (h refl)
enum_shift _ stack h = refl

pub enum_fails : (room : ℕ) (before : List Token) (stop : TokenFault) (stack : List Symbol) → (stop ≡ refused before) × IsNotNext (Punct BraceLeft) before → Fails stop (read room (EnumBody ∷ stack) before)
enum_fails room before stop stack h = fails_here room before stop (EnumBody ∷ stack) h.0 refl (λ p w rest e. enum_shift w stack (not_first h.1 e))

-- a name that is not next
pub not_name : {w : Word} {p : Place} {before rest : List Token} → IsNoName before → before ≡ at p w ∷ rest → IsNoName (at p w ∷ rest)
not_name h e = subst IsNoName e h

object_shift : (p : Place) (w : Word) (rest : List Token) (stack : List Symbol) → IsNoName (at p w ∷ rest) → w ≢ Punct BraceLeft → shift (ObjectBody ∷ stack) w ≡ Refused
object_shift p (Punct BraceLeft) rest stack h g = absurd (g refl)
object_shift p (Name k n) rest stack h g = absurd h
object_shift p _ rest stack h g = refl

pub object_fails : (room : ℕ) (before : List Token) (stop : TokenFault) (stack : List Symbol) → IsNoName before → (stop ≡ refused before) × IsNotNext (Punct BraceLeft) before → Fails stop (read room (ObjectBody ∷ stack) before)
object_fails room before stop stack g h = fails_here room before stop (ObjectBody ∷ stack) h.0 refl (λ p w rest e. object_shift p w rest stack (not_name g e) (not_first h.1 e))

interface_shift : (p : Place) (w : Word) (rest : List Token) (stack : List Symbol) → IsNoName (at p w ∷ rest) → w ≢ Punct BraceLeft → shift (InterfaceBody ∷ stack) w ≡ Refused
interface_shift p (Punct BraceLeft) rest stack h g = absurd (g refl)
interface_shift p (Name k n) rest stack h g = absurd h
interface_shift p _ rest stack h g = refl

pub interface_fails : (room : ℕ) (before : List Token) (stop : TokenFault) (stack : List Symbol) → IsNoName before → (stop ≡ refused before) × IsNotNext (Punct BraceLeft) before → Fails stop (read room (InterfaceBody ∷ stack) before)
interface_fails room before stop stack g h = fails_here room before stop (InterfaceBody ∷ stack) h.0 refl (λ p w rest e. interface_shift p w rest stack (not_name g e) (not_first h.1 e))

root_end_shift : (p : Place) (w : Word) (rest : List Token) (stack : List Symbol) → IsNoName (at p w ∷ rest) → w ≢ Punct BraceRight → shift (A ARootEnd ∷ stack) w ≡ Refused
root_end_shift p (Punct BraceRight) rest stack h g = absurd (g refl)
root_end_shift p (Name k n) rest stack h g = absurd h
root_end_shift p _ rest stack h g = refl

pub root_end_fails : (room : ℕ) (before : List Token) (stop : TokenFault) (stack : List Symbol) → IsNoName before → (stop ≡ refused before) × IsNotNext (Punct BraceRight) before → Fails stop (read room (A ARootEnd ∷ stack) before)
root_end_fails room before stop stack g h = fails_here room before stop (A ARootEnd ∷ stack) h.0 refl (λ p w rest e. root_end_shift p w rest stack (not_name g e) (not_first h.1 e))

more_shift : (w : Word) (stack : List Symbol) → w ≢ Punct Amp → w ≢ Punct BraceLeft → shift (MoreInterfaces ∷ stack) w ≡ Refused
more_shift (Punct Amp) stack h g = absurd (h refl)
more_shift (Punct BraceLeft) stack h g = absurd (g refl)
more_shift _ stack h g = refl

pub more_fails : (room : ℕ) (before : List Token) (stop : TokenFault) (stack : List Symbol) → IsNotNext (Punct Amp) before → (stop ≡ refused before) × IsNotNext (Punct BraceLeft) before → Fails stop (read room (MoreInterfaces ∷ stack) before)
more_fails room before stop stack g h = fails_here room before stop (MoreInterfaces ∷ stack) h.0 refl (λ p w rest e. more_shift w stack (not_first g e) (not_first h.1 e))

list_served : (p : Place) (t : TypeTree) (b : Bool) → IsNamed t → IsServedType t → IsServedType (ListOf p t b)
list_served p (Named q n b') b h served = served
list_served p (ListOf q t b') b h served = absurd h

pub list_type_read : (room : ℕ) (p : Place) (t : Box rust-type.TypeRef Global) (item : rust-type.TypeRef) (b : Bool) (before b1 b2 b3 after : List Token)
    → before ≡ at p (Punct BracketLeft) ∷ b1 → Reads (λ t. IsTypeRead (type_of t)) room (A AnItem ∷ one MaybeBang) room [] b1 b2 (Ok item) → IsNamed (type_of item) → t.value ≡ item
    → IsTaken (Punct BracketRight) b2 b3 → Eats (Punct Bang) b3 after b
    → IsTypeRead (type_of (typeref.List p t b)) before after × ((stack : List Symbol) → read (suc room) (AType ∷ stack) before ≡ read (suc room) stack after)
list_type_read room p t item b before b1 b2 b3 after e h is_named boxed closes eaten =
    let tree_is : type_of (typeref.List p t b) ≡ ListOf p (type_of item) b = type_of_list p t b ∙ ap (λ x. ListOf p (type_of x) b) boxed in
    let whole : IsType (ListOf p (type_of item) b) (at p (Punct BracketLeft) ∷ b1) after = list_of (subst (λ x. IsType (type_of item) b1 x) closes.is h.0.is) (bang_read b3 after b eaten) in
    let both : IsTypeRead (ListOf p (type_of item) b) (at p (Punct BracketLeft) ∷ b1) after = record { is = whole; served = list_served p (type_of item) b is_named h.0.served } in (
      subst (λ t. IsTypeRead t before after) (sym tree_is) (subst (λ x. IsTypeRead (ListOf p (type_of item) b) x after) (sym e) both),
      λ stack. list_opens room p before b1 stack e ∙ h.1 (A ABracket ∷ MaybeBang ∷ stack) ∙ ap (read room (A ABracket ∷ MaybeBang ∷ stack)) closes.is ∙ bang_comes (suc room) b3 after b stack eaten,
    )

-- ---- deprecated

no_reason_comes : (room : ℕ) (tokens : List Token) (stack : List Symbol) → IsNotNext (Punct ParenLeft) tokens → read room (MaybeReason ∷ stack) tokens ≡ read room stack tokens
no_reason_comes room [] stack h = refl
no_reason_comes room (at p (Punct ParenLeft) ∷ tokens) stack h = absurd (h refl)
no_reason_comes room (at p _ ∷ tokens) stack h = refl

pub no_reason_read : (room : ℕ) (before after : List Token) → (after ≡ before) × IsNotNext (Punct ParenLeft) before → IsReason before after × ((stack : List Symbol) → read room (MaybeReason ∷ stack) before ≡ read room stack after)
no_reason_read room before after h = (rw h.0 no_reason, λ stack. no_reason_comes room before stack h.1 ∙ ap (read room stack) (sym h.0))

no_deprecated_comes : (room : ℕ) (tokens : List Token) (stack : List Symbol) → IsNotNext (Punct At) tokens → read room (MaybeDeprecated ∷ stack) tokens ≡ read room stack tokens
no_deprecated_comes room [] stack h = refl
no_deprecated_comes room (at p (Punct At) ∷ tokens) stack h = absurd (h refl)
no_deprecated_comes room (at p _ ∷ tokens) stack h = refl

pub no_deprecated_read : (room : ℕ) (before after : List Token) → (after ≡ before) × IsNotNext (Punct At) before → IsDeprecated before after × ((stack : List Symbol) → read room (MaybeDeprecated ∷ stack) before ≡ read room stack after)
no_deprecated_read room before after h = (rw h.0 not_deprecated, λ stack. no_deprecated_comes room before stack h.1 ∙ ap (read room stack) (sym h.0))

reason_shift : (s : SchemaWord) (stack : List Symbol) (skipped : Shift) → s ≡ word.Reason → moved (on_verdict (reason_verdict s) []) stack skipped ≡ Shifts stack
reason_shift s stack skipped h = rw h refl

-- up to the reason's end
pub reason_opens : (room : ℕ) (q : Place) (k : Keyword) (n : List ℕ) (before b1 b2 b3 b4 : List Token) (stack : List Symbol) → IsTaken (Punct ParenLeft) before b1 → b1 ≡ at q (Name k n) ∷ b2 → word_of n ≡ word.Reason
    → IsTaken (Punct Colon) b2 b3 → IsTextTaken b3 b4 → read (suc room) (MaybeReason ∷ stack) before ≡ read room (A AParenthesis ∷ stack) b4
reason_opens room q k n before b1 b2 b3 b4 stack o e h c t =
    let s1 : List Symbol = A AColon ∷ A AText ∷ A AParenthesis ∷ stack in
    ap (read (suc room) (MaybeReason ∷ stack)) o.is ∙ ap (read room (A AReason ∷ s1)) e ∙ read_name room q k n (A AReason ∷ s1) s1 b2 (reason_shift (word_of n) s1 _ h) ∙ ap (read room s1) c.is ∙ ap (read room (A AText ∷ A AParenthesis ∷ stack)) t.is

reason_is : {p q r u v : Place} {k : Keyword} {n s : List ℕ} {before b1 b2 b3 b4 after : List Token} → before ≡ at p (Punct ParenLeft) ∷ b1 → b1 ≡ at q (Name k n) ∷ b2 → word_of n ≡ word.Reason → b2 ≡ at r (Punct Colon) ∷ b3 → b3 ≡ at u (Text s) ∷ b4 → b4 ≡ at v (Punct ParenRight) ∷ after → IsReason before after
reason_is e e1 h e2 e3 e4 = rw (e, e1, e2, e3, e4) (reason h)

pub reason_read : (room : ℕ) (q : Place) (k : Keyword) (n : List ℕ) (before b1 b2 b3 b4 after : List Token) (res : Result (Unit {0}) TokenFault) → IsTaken (Punct ParenLeft) before b1 → b1 ≡ at q (Name k n) ∷ b2 → word_of n ≡ word.Reason
    → IsTaken (Punct Colon) b2 b3 → IsTextTaken b3 b4 → Expects (Punct ParenRight) b4 after res → Reads (λ _. IsReason) (suc room) (one MaybeReason) (suc room) [] before after res
reason_read room q k n before b1 b2 b3 b4 after (Ok x) o e h c t closes = (reason_is o.is e h c.is t.is closes.is, λ stack. reason_opens room q k n before b1 b2 b3 b4 stack o e h c t ∙ ap (read room (A AParenthesis ∷ stack)) closes.is)
reason_read room q k n before b1 b2 b3 b4 after (Err stop) o e h c t closes = λ stack. fails_earlier stop _ _ (reason_opens room q k n before b1 b2 b3 b4 stack o e h c t) (parenthesis_fails room b4 stop stack closes)

deprecated_shift : (s : SchemaWord) (stack : List Symbol) (skipped : Shift) → s ≡ word.Deprecated → moved (on_verdict (deprecated_verdict s) []) stack skipped ≡ Shifts stack
deprecated_shift s stack skipped h = rw h refl

is_directive : (p q : Place) (k : Keyword) (n : List ℕ) (room : ℕ) (stack : List Symbol) (tokens : List Token) → word_of n ≡ word.Deprecated
    → read room (MaybeDeprecated ∷ stack) (at p (Punct At) ∷ at q (Name k n) ∷ tokens) ≡ read room (A ADeprecated ∷ MaybeReason ∷ stack) (at q (Name k n) ∷ tokens)
is_directive p q k n room stack tokens h = go (word_of n) h
  where
    go : (s : SchemaWord) → s ≡ word.Deprecated
        → elim (if not (is_deprecated s) then Forbids else Goes room (A ADeprecated ∷ MaybeReason ∷ stack)) as (λ x. Option TokenFault) [ Goes r next ↦ read r next (at q (Name k n) ∷ tokens) | Stops ↦ Some (refused (at p (Punct At) ∷ at q (Name k n) ∷ tokens)) | Forbids ↦ Some (NotServed p) | Sinks ↦ Some (Unexpected (Some p)) ] ≡ read room (A ADeprecated ∷ MaybeReason ∷ stack) (at q (Name k n) ∷ tokens)
    go s e = rw e refl

pub deprecated_opens : (room : ℕ) (p q : Place) (k : Keyword) (n : List ℕ) (before b1 b2 : List Token) (stack : List Symbol) → before ≡ at p (Punct At) ∷ b1 → b1 ≡ at q (Name k n) ∷ b2 → word_of n ≡ word.Deprecated
    → read room (MaybeDeprecated ∷ stack) before ≡ read room (MaybeReason ∷ stack) b2
deprecated_opens room p q k n before b1 b2 stack o e h =
    ap (read room (MaybeDeprecated ∷ stack)) (o ∙ ap (λ x. at p (Punct At) ∷ x) e) ∙ is_directive p q k n room stack b2 h ∙ read_name room q k n (A ADeprecated ∷ MaybeReason ∷ stack) (MaybeReason ∷ stack) b2 (deprecated_shift (word_of n) (MaybeReason ∷ stack) _ h)

deprecated_is : {p q : Place} {k : Keyword} {n : List ℕ} {before b1 b2 after : List Token} → before ≡ at p (Punct At) ∷ b1 → b1 ≡ at q (Name k n) ∷ b2 → word_of n ≡ word.Deprecated → IsReason b2 after → IsDeprecated before after
deprecated_is e e1 h r = rw (e, e1) (deprecated h r)

pub deprecated_read : (room : ℕ) (p q : Place) (k : Keyword) (n : List ℕ) (before b1 b2 after : List Token) (res : Result (Unit {0}) TokenFault) → before ≡ at p (Punct At) ∷ b1 → b1 ≡ at q (Name k n) ∷ b2 → word_of n ≡ word.Deprecated
    → Reads (λ _. IsReason) room (one MaybeReason) room [] b2 after res → Reads (λ _. IsDeprecated) room (one MaybeDeprecated) room [] before after res
deprecated_read room p q k n before b1 b2 after res o e h = reads_from (λ _. IsReason) (λ _. IsDeprecated) room room room (one MaybeDeprecated) (one MaybeReason) [] before b2 after res (λ stack. deprecated_opens room p q k n before b1 b2 stack o e h) (λ t r. deprecated_is o e h r)

-- ---- punctuators that come

pub colon_comes : (room : ℕ) (before after : List Token) (stack : List Symbol) → IsTaken (Punct Colon) before after → read room (A AColon ∷ stack) before ≡ read room stack after
colon_comes room before after stack h = rw h.is refl

pub equals_comes : (room : ℕ) (before after : List Token) (stack : List Symbol) → IsTaken (Punct Equals) before after → read room (A AnEquals ∷ stack) before ≡ read room stack after
equals_comes room before after stack h = rw h.is refl
