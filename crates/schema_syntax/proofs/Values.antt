-- Lemmas on what each step of reading a value gives.
use Rattle.std.proofs.Common.{◌≡◌, ℕ, zero, suc, true, false, List, [], ◌∷◌, Result, Ok, Err, Some, refl, sym, ap, subst, ◌∙◌, arith}
use Rattle.std.specs.Global.{Vec, Global}
use Rattle.text_place.specs.declared.place.Place.{Place}
use Rattle.gq_lexer.specs.declared.token.Punct.TheVariants.{Colon, BracketLeft, BracketRight, BraceLeft, BraceRight}
use Rattle.gq_parser.specs.declared.value.Constness.TheVariants.{Const}
use Rattle.gq_parser.specs.declared.keyword.Keyword.{Keyword}
use Rattle.gq_parser.specs.declared.keyword.Keyword.TheVariants.{True, False, Null}
use Rattle.gq_parser.specs.declared.tree.Literal.{Literal}
use Rattle.gq_parser.specs.declared.tree.Argument as rust-argument
use Rattle.gq_parser.specs.declared.tree.Value.TheVariants as rust-value
use Rattle.gq_parser.specs.Keywords.{keyword_of, IsEnumName}
use Rattle.gq_parser.specs.Word.{Word, Punct, Name, Text, Token, at}
use Rattle.gq_parser.specs.Word as words
use Rattle.gq_parser.specs.Tree as gq
use Rattle.gq_parser.specs.Tree.{Value, Boolean, Members, Array, Object, and_member, Argument, literal_of, map_literals, argument_of, map_members}
use Rattle.gq_parser.specs.Grammar as value
use Rattle.gq_parser.specs.Grammar.{IsValue, AreValues, AreMembers}
use Rattle.gq_parser.specs.declared.tree.Value as rust
use Rattle.gq_parser.specs.declared.tree.Value.TheViews.{roll-Argument}
use Rattle.schema_syntax.specs.Tree as tree
use Rattle.schema_syntax.specs.Grammar.{IsName, a_name}
use Rattle.schema_syntax.specs.declared.fault.TokenFault.{TokenFault}
use Rattle.schema_syntax.specs.declared.fault.TokenFault.TheVariants.{Unexpected, NotServed, NoMemory}
use Rattle.schema_syntax.specs.Machine.{Symbol, A, AColon, AName, AValue, MoreValues, MoreObjectFields, one, shift, Refused, refused, read}
use Rattle.schema_syntax.specs.Parsing.{Reads, Fails, IsTaken, IsNotNext, IsNoName, IsNoText, IsNoInt, IsNoFloat, IsNameValue, IsNumberRead, NumberReads, IsMemberRead}
use Rattle.schema_syntax.proofs.Steps.{fails_here}
use Rattle.schema_syntax.proofs.Views.{the_literal, literal_int, literal_float, literal_text, literal_boolean, literal_null, literal_enum, literal_list, literal_object, of_argument}

-- ---- names

pub true_value : (n : List ℕ) → True ≡ keyword_of n → IsNameValue n (rust-value.Boolean true)
true_value n e p after = subst (λ v. IsValue Const v (at p (Name (keyword_of n) n) ∷ after) after) (sym (literal_boolean p true)) (subst (λ k. IsValue Const (Boolean p true) (at p (Name k n) ∷ after) after) e value.yes)

pub false_value : (n : List ℕ) → False ≡ keyword_of n → IsNameValue n (rust-value.Boolean false)
false_value n e p after = subst (λ v. IsValue Const v (at p (Name (keyword_of n) n) ∷ after) after) (sym (literal_boolean p false)) (subst (λ k. IsValue Const (Boolean p false) (at p (Name k n) ∷ after) after) e value.no)

pub null_value : (n : List ℕ) → Null ≡ keyword_of n → IsNameValue n rust-value.Null
null_value n e p after = subst (λ v. IsValue Const v (at p (Name (keyword_of n) n) ∷ after) after) (sym (literal_null p)) (subst (λ k. IsValue Const (gq.Null p) (at p (Name k n) ∷ after) after) e value.null)

is_enum_name : (k : Keyword) → (k ≡ True → ⊥) → (k ≡ False → ⊥) → (k ≡ Null → ⊥) → IsEnumName k
is_enum_name True t f n = t refl
is_enum_name False t f n = f refl
is_enum_name Null t f n = n refl
is_enum_name _ t f n = tt

pub enum_value : (n : List ℕ) (s : List ℕ) (k : Keyword) → k ≡ keyword_of n → (k ≡ True → ⊥) → (k ≡ False → ⊥) → (k ≡ Null → ⊥) → s ≡ n → IsNameValue n (rust-value.Enum s)
enum_value n s k e t f g h p after =
    let named : IsEnumName (keyword_of n) = subst IsEnumName e (is_enum_name k t f g) in
    subst (λ v. IsValue Const v (at p (Name (keyword_of n) n) ∷ after) after) (sym (literal_enum p s)) (rw h (value.enum named))

pub name_read : (room : ℕ) (p : Place) (n : List ℕ) (v : rust.Value) (s0 s1 after : List Token) → s1 ≡ s0 → s1 ≡ at p (Name (keyword_of n) n) ∷ after → IsNameValue n v
    → IsValue Const (literal_of (the_literal p v)) s0 after × ((stack : List Symbol) → read room (AValue ∷ stack) s0 ≡ read room stack after)
name_read room p n v s0 s1 after e e1 h = rw (← e, e1) (h p after, λ stack. refl)

-- ---- strings and numbers

pub text_read : (room : ℕ) (p : Place) (s : List ℕ) (s0 after : List Token) → s0 ≡ at p (Text s) ∷ after
    → IsValue Const (literal_of (the_literal p (rust-value.Text s))) s0 after × ((stack : List Symbol) → read room (AValue ∷ stack) s0 ≡ read room stack after)
text_read room p s s0 after e = rw (e, literal_text) (value.text, λ stack. refl)

pub int_read : (p : Place) (s : List ℕ) (n : List ℕ) (old new : List Token) → old ≡ at p (words.Int n) ∷ new → s ≡ n → IsNumberRead (the_literal p (rust-value.Int s)) old new
int_read p s n old new e h = rw (e, ← h) (record { is = rw literal_int value.int; reads = λ room stack. refl; shrinks = omega arith })

pub float_read : (p : Place) (s : List ℕ) (n : List ℕ) (old new : List Token) → old ≡ at p (words.Float n) ∷ new → s ≡ n → IsNumberRead (the_literal p (rust-value.Float s)) old new
float_read p s n old new e h = rw (e, ← h) (record { is = rw literal_float value.float; reads = λ room stack. refl; shrinks = omega arith })

value_shift : (p : Place) (w : Word) (rest : List Token) (stack : List Symbol) → IsNoText (at p w ∷ rest) → IsNoName (at p w ∷ rest) → IsNotNext (Punct BracketLeft) (at p w ∷ rest) → IsNotNext (Punct BraceLeft) (at p w ∷ rest) → IsNoInt (at p w ∷ rest) → IsNoFloat (at p w ∷ rest) → shift (AValue ∷ stack) w ≡ Refused
value_shift p (Punct BracketLeft) rest stack t n b c m f = absurd (b refl)
value_shift p (Punct BraceLeft) rest stack t n b c m f = absurd (c refl)
value_shift p (Text s) rest stack t n b c m f = absurd t
value_shift p (Name k x) rest stack t n b c m f = absurd n
value_shift p (words.Int x) rest stack t n b c m f = absurd m
value_shift p (words.Float x) rest stack t n b c m f = absurd f
value_shift p _ rest stack t n b c m f = refl

value_fails : (room : ℕ) (before : List Token) (stop : TokenFault) (stack : List Symbol) → stop ≡ refused before → IsNoText before → IsNoName before → IsNotNext (Punct BracketLeft) before → IsNotNext (Punct BraceLeft) before → IsNoInt before → IsNoFloat before → Fails stop (read room (AValue ∷ stack) before)
value_fails room before stop stack e t n b c m f =
    fails_here room before stop (AValue ∷ stack) e refl (λ p w rest is. value_shift p w rest stack (subst IsNoText is t) (subst IsNoName is n) (subst (IsNotNext (Punct BracketLeft)) is b) (subst (IsNotNext (Punct BraceLeft)) is c) (subst IsNoInt is m) (subst IsNoFloat is f))

number_reads : (room : ℕ) (before after : List Token) (res : Result Literal TokenFault) → IsNoText before → IsNoName before → IsNotNext (Punct BracketLeft) before → IsNotNext (Punct BraceLeft) before → NumberReads before after res
    → Reads (λ v. IsValue Const (literal_of v)) room (one AValue) room [] before after res
number_reads room before after (Ok l) t n b c h = (h.is, h.reads room)
number_reads room before after (Err NoMemory) t n b c h = λ stack. tt
number_reads room before after (Err (Unexpected p)) t n b c h = λ stack. value_fails room before (Unexpected p) stack h.0 t n b c h.1 h.2
number_reads room before after (Err (NotServed p)) t n b c h = λ stack. value_fails room before (NotServed p) stack h.0 t n b c h.1 h.2

pub number_value : (room : ℕ) (s0 s1 s2 s3 s4 after : List Token) (res : Result Literal TokenFault) → (s1 ≡ s0) × IsNoText s0 → (s2 ≡ s1) × IsNoName s1 → (s3 ≡ s2) × IsNotNext (Punct BracketLeft) s2 → (s4 ≡ s3) × IsNotNext (Punct BraceLeft) s3 → NumberReads s4 after res
    → Reads (λ v. IsValue Const (literal_of v)) room (one AValue) room [] s0 after res
number_value room s0 s1 s2 s3 s4 after res t n b c h =
    let e2 : s2 ≡ s0 = n.0 ∙ t.0 in
    let e3 : s3 ≡ s0 = b.0 ∙ e2 in
    number_reads room s0 after res t.1 (subst IsNoName t.0 n.1) (subst (IsNotNext (Punct BracketLeft)) e2 b.1) (subst (IsNotNext (Punct BraceLeft)) e3 c.1) (subst (λ s. NumberReads s after res) (c.0 ∙ e3) h)

-- ---- lists

pub list_opens : (room r : ℕ) (p : Place) (s0 s1 s2 mid : List Token) (stack : List Symbol) → s1 ≡ s0 → s2 ≡ s1 → s2 ≡ at p (Punct BracketLeft) ∷ mid → room ≡ suc r → read room (AValue ∷ stack) s0 ≡ read r (MoreValues ∷ stack) mid
list_opens room r p s0 s1 s2 mid stack e e1 e2 h = rw (← e, ← e1, e2, h) refl

pub list_deep : (room : ℕ) (p : Place) (s0 s1 s2 mid : List Token) (stack : List Symbol) → s1 ≡ s0 → s2 ≡ s1 → s2 ≡ at p (Punct BracketLeft) ∷ mid → room ≡ 0 → read room (AValue ∷ stack) s0 ≡ Some (Unexpected (Some p))
list_deep room p s0 s1 s2 mid stack e e1 e2 h = rw (← e, ← e1, e2, h) refl

pub list_value : (room r : ℕ) (p : Place) (vs : Vec Literal) (s0 s1 s2 mid after : List Token) → s1 ≡ s0 → s2 ≡ s1 → s2 ≡ at p (Punct BracketLeft) ∷ mid → room ≡ suc r
    → Reads (λ vs. AreValues Const (map_literals vs.items)) r (one MoreValues) (suc r) [] mid after (Ok vs)
    → IsValue Const (literal_of (the_literal p (rust-value.List vs))) s0 after × ((stack : List Symbol) → read room (AValue ∷ stack) s0 ≡ read room stack after)
list_value room r p vs s0 s1 s2 mid after e e1 e2 h reads = (
  subst (λ v. IsValue Const v s0 after) (sym (literal_list p vs)) (subst (λ b. IsValue Const (Array p (map_literals vs.items)) b after) (sym e2 ∙ e1 ∙ e) (value.array reads.0)),
  λ stack. list_opens room r p s0 s1 s2 mid stack e e1 e2 h ∙ reads.1 stack ∙ ap (λ k. read k stack after) (sym h),
)

pub object_opens : (room r : ℕ) (p : Place) (s0 s1 s2 s3 mid : List Token) (stack : List Symbol) → s1 ≡ s0 → s2 ≡ s1 → s3 ≡ s2 → s3 ≡ at p (Punct BraceLeft) ∷ mid → room ≡ suc r → read room (AValue ∷ stack) s0 ≡ read r (MoreObjectFields ∷ stack) mid
object_opens room r p s0 s1 s2 s3 mid stack e e1 e2 e3 h = rw (← e, ← e1, ← e2, e3, h) refl

pub object_deep : (room : ℕ) (p : Place) (s0 s1 s2 s3 mid : List Token) (stack : List Symbol) → s1 ≡ s0 → s2 ≡ s1 → s3 ≡ s2 → s3 ≡ at p (Punct BraceLeft) ∷ mid → room ≡ 0 → read room (AValue ∷ stack) s0 ≡ Some (Unexpected (Some p))
object_deep room p s0 s1 s2 s3 mid stack e e1 e2 e3 h = rw (← e, ← e1, ← e2, e3, h) refl

pub object_value : (room r : ℕ) (p : Place) (ms : Vec rust-argument.Argument) (s0 s1 s2 s3 mid after : List Token) → s1 ≡ s0 → s2 ≡ s1 → s3 ≡ s2 → s3 ≡ at p (Punct BraceLeft) ∷ mid → room ≡ suc r
    → Reads (λ ms. AreMembers Const (map_members ms.items)) r (one MoreObjectFields) (suc r) [] mid after (Ok ms)
    → IsValue Const (literal_of (the_literal p (rust-value.Object ms))) s0 after × ((stack : List Symbol) → read room (AValue ∷ stack) s0 ≡ read room stack after)
object_value room r p ms s0 s1 s2 s3 mid after e e1 e2 e3 h reads = (
  subst (λ v. IsValue Const v s0 after) (sym (literal_object p ms)) (subst (λ b. IsValue Const (Object p (map_members ms.items)) b after) (sym e3 ∙ e2 ∙ e1 ∙ e) (value.object reads.0)),
  λ stack. object_opens room r p s0 s1 s2 s3 mid stack e e1 e2 e3 h ∙ reads.1 stack ∙ ap (λ k. read k stack after) (sym h),
)

-- a token that does not close the list is expected to be an item
pub value_comes : (room : ℕ) (tokens : List Token) (stack : List Symbol) → IsNotNext (Punct BracketRight) tokens → read room (MoreValues ∷ stack) tokens ≡ read room (AValue ∷ MoreValues ∷ stack) tokens
value_comes room [] stack h = refl
value_comes room (at p (Punct BracketRight) ∷ tokens) stack h = absurd (h refl)
value_comes zero (at p (Punct BracketLeft) ∷ tokens) stack h = refl
value_comes (suc room) (at p (Punct BracketLeft) ∷ tokens) stack h = refl
value_comes zero (at p (Punct BraceLeft) ∷ tokens) stack h = refl
value_comes (suc room) (at p (Punct BraceLeft) ∷ tokens) stack h = refl
value_comes room (at p _ ∷ tokens) stack h = refl

pub member_comes : (room : ℕ) (tokens : List Token) (stack : List Symbol) → IsNotNext (Punct BraceRight) tokens → read room (MoreObjectFields ∷ stack) tokens ≡ read room (A AName ∷ A AColon ∷ AValue ∷ MoreObjectFields ∷ stack) tokens
member_comes room [] stack h = refl
member_comes room (at p (Punct BraceRight) ∷ tokens) stack h = absurd (h refl)
member_comes room (at p (Name k n) ∷ tokens) stack h = refl
member_comes room (at p _ ∷ tokens) stack h = refl

-- ---- the fields of objects

name_begins : {n : tree.Name} {before after : List Token} → IsName n before after → (k : Keyword) × (before ≡ at n.place (Name k n.text) ∷ after)
name_begins (a_name {k = k}) = (k, refl)

pub member_read : (p : Place) (s : List ℕ) (l : Literal) (s0 s1 s2 after : List Token) → IsName (record { text = s; place = p }) s0 s1 → IsTaken (Punct Colon) s1 s2 → IsValue Const (literal_of l) s2 after
    → IsMemberRead (argument_of (roll-Argument (record { place = p; name = s; value = l }))) s0 after
member_read p s l s0 s1 s2 after n c v =
    let b = name_begins n in
    let m : IsMemberRead (record { place = p; name = s; value = literal_of l }) s0 after = record { keyword = b.0; colon = c.place; rest = s2; begins = b.1 ∙ ap (λ x. at p (Name b.0 s) ∷ x) c.is; is = v } in
    subst (λ a. IsMemberRead a s0 after) (sym (of_argument p s l)) m

pub next_member : {a : Argument} {ms : Members} {before mid after : List Token} → IsMemberRead a before mid → AreMembers Const ms mid after → AreMembers Const (and_member a.place a.name a.value ms) before after
next_member m ms = rw m.begins (value.next_member m.is ms)
