-- Lemmas on what each step of reading a definition gives.
use Rattle.std.proofs.Common.{◌≡◌, ℕ, ◌<◌, ◌≤◌, Bool, true, false, List, [], ◌∷◌, ◌++◌, length, Ok, refl, sym, ap, subst, ◌∙◌, arith}
use Rattle.std.proofs.lemmas.List.{append-nil}
use Rattle.text_place.specs.declared.place.Place.{Place}
use Rattle.gq_lexer.specs.declared.token.Punct.TheVariants.{Amp, Colon, Equals, BraceLeft, BraceRight, Pipe}
use Rattle.gq_parser.specs.declared.keyword.Keyword.{Keyword}
use Rattle.gq_parser.specs.declared.keyword.Keyword.TheVariants.{Query}
use Rattle.gq_parser.specs.Word.{Word, Punct, Name, Token, at}
use Rattle.schema_syntax.specs.declared.word.SchemaWord.{SchemaWord}
use Rattle.schema_syntax.specs.declared.word.SchemaWord.TheVariants as word
use Rattle.schema_syntax.specs.declared.tree.Name as rust-name
use Rattle.schema_syntax.specs.Word.{word_of}
use Rattle.schema_syntax.specs.Tree as tree
use Rattle.schema_syntax.specs.Tree.{Definition, name_of, names_of}
use Rattle.schema_syntax.specs.Grammar.{IsTypeName, AreFields, AreEnumValues, IsAmpersand, no_ampersand, ampersand, AreMoreInterfaces, no_more_interfaces, next_interface, AreInterfaces, no_interfaces, interfaces}
use Rattle.schema_syntax.specs.Grammar.{IsPipe, no_pipe, pipe, AreMoreMembers, no_more_members, next_member, IsBody, schema, interface, union, enum}
use Rattle.schema_syntax.specs.Machine.{Symbol, A, ATypeName, ADefinition, RootBody, ObjectBody, FirstInterface, MoreInterfaces, EnumBody, Fields, EnumValues, MaybePipe, MoreMembers, one, a_root, Shift, Shifts, moved, body_move, shift, read, type_name_verdict, implements_verdict, on_verdict}
use Rattle.schema_syntax.specs.Parsing.{Reads, Eats, IsTaken, IsNotNext, AreSomeInterfaces, AreInterfacesRead, AreMembersRead, IsDefinitionRead, IsFront}
use Rattle.schema_syntax.proofs.Steps.{read_name}
use Rattle.schema_syntax.proofs.Lists.{same_shift, verdict_moves}

-- ---- one more behind a mark

module _ {T W : Type 0} (AreRest : T → List Token → List Token → Type 0) (AreWhole : W → List Token → List Token → Type 0) (room : ℕ) (symbols : List Symbol) (more : List Symbol) (before now mid after : List Token) (mark : Word) where
  pub grown : (join join' : T → W) (cons : T → T) → IsFront AreRest AreWhole join room symbols room more before now → IsTaken mark now mid
      → ((p : Place) (others : T) (end : List Token) → AreRest others after end → AreRest (cons others) (at p mark ∷ mid) end)
      → ((p : Place) (stack : List Symbol) → read room (more ++ stack) (at p mark ∷ mid) ≡ read room (more ++ stack) after) → length after < length mid → ((others : T) → join' others ≡ join (cons others))
      → IsFront AreRest AreWhole join' room symbols room more before after
  grown join join' cons front taken holds goes shorter joined = record {
    joins = λ others end rest. subst (λ w. AreWhole w before end) (sym (joined others)) (front.joins (cons others) end (subst (λ b. AreRest (cons others) b end) (sym taken.is) (holds taken.place others end rest)));
    reads = λ stack. front.reads stack ∙ ap (read room (more ++ stack)) taken.is ∙ goes taken.place stack;
    shrinks = omega (arith, front.shrinks, ap length taken.is);
  }

-- ---- interfaces

is_ampersand : (before after : List Token) (b : Bool) → Eats (Punct Amp) before after b → IsAmpersand before after
is_ampersand before after true h = rw h.is ampersand
is_ampersand before after false h = rw h.0 no_ampersand

no_ampersand_comes : (room : ℕ) (tokens : List Token) (stack : List Symbol) → IsNotNext (Punct Amp) tokens → read room (FirstInterface ∷ stack) tokens ≡ read room (A ATypeName ∷ MoreInterfaces ∷ stack) tokens
no_ampersand_comes room [] stack h = refl
no_ampersand_comes room (at p (Punct Amp) ∷ tokens) stack h = absurd (h refl)
no_ampersand_comes room (at p (Name k n) ∷ tokens) stack h = same_shift room p k n (FirstInterface ∷ stack) (A ATypeName ∷ MoreInterfaces ∷ stack) tokens (verdict_moves (type_name_verdict (word_of n)) (one MoreInterfaces) stack _ _)
no_ampersand_comes room (at p _ ∷ tokens) stack h = refl

pub ampersand_comes : (room : ℕ) (before after : List Token) (b : Bool) (stack : List Symbol) → Eats (Punct Amp) before after b → read room (FirstInterface ∷ stack) before ≡ read room (A ATypeName ∷ MoreInterfaces ∷ stack) after
ampersand_comes room before after true stack h = rw h.is refl
ampersand_comes room before after false stack h = no_ampersand_comes room before stack h.1 ∙ ap (read room (A ATypeName ∷ MoreInterfaces ∷ stack)) (sym h.0)

pub eaten_shrinks : (w : Word) (before after : List Token) (b : Bool) → Eats w before after b → length after ≤ length before
eaten_shrinks w before after true h = omega (arith, ap length h.is)
eaten_shrinks w before after false h = omega (arith, ap length h.0)

pub first_interface : (before mid now : List Token) (b : Bool) (n : rust-name.Name) (xs : List rust-name.Name) → Eats (Punct Amp) before mid b
    → Reads (λ n. IsTypeName (name_of n)) 128 (one (A ATypeName)) 128 [] mid now (Ok n) → length now < length mid → xs ≡ n ∷ []
    → IsFront AreMoreInterfaces AreSomeInterfaces (λ others. names_of xs ++ others) 128 (one FirstInterface) 128 (one MoreInterfaces) before now
first_interface before mid now b n xs eaten h shorter is = record {
  joins = λ others after rest. record { first = name_of n; others = others; mid = mid; mid' = now; all = rw is refl; ampersand = is_ampersand before mid b eaten; is = h.0; are = rest };
  reads = λ stack. ampersand_comes 128 before mid b stack eaten ∙ h.1 (MoreInterfaces ∷ stack);
  shrinks = omega (arith, eaten_shrinks (Punct Amp) before mid b eaten);
}

pub next_interface_holds : {n : tree.Name} {mid after : List Token} → IsTypeName n mid after → (p : Place) (others : List tree.Name) (end : List Token) → AreMoreInterfaces others after end → AreMoreInterfaces (n ∷ others) (at p (Punct Amp) ∷ mid) end
next_interface_holds h p others end rest = next_interface h rest

pub interfaces_end : (before now after : List Token) (xs : List rust-name.Name) → IsFront AreMoreInterfaces AreSomeInterfaces (λ others. names_of xs ++ others) 128 (one FirstInterface) 128 (one MoreInterfaces) before now → (after ≡ now) × IsNotNext (Punct Amp) now
    → AreSomeInterfaces (names_of xs) before after × ((stack : List Symbol) → read 128 (FirstInterface ∷ stack) before ≡ read 128 (MoreInterfaces ∷ stack) after)
interfaces_end before now after xs front h = (
  subst (λ ns. AreSomeInterfaces ns before after) (append-nil (names_of xs)) (front.joins [] after (rw h.0 no_more_interfaces)),
  λ stack. front.reads stack ∙ ap (read 128 (MoreInterfaces ∷ stack)) (sym h.0),
)

implements_shift : (s : SchemaWord) (stack : List Symbol) (skipped : Shift) → s ≡ word.Implements → moved (on_verdict (implements_verdict s) (one FirstInterface)) stack skipped ≡ Shifts (FirstInterface ∷ stack)
implements_shift s stack skipped h = rw h refl

pub implements_comes : (room : ℕ) (p : Place) (k : Keyword) (n : List ℕ) (before mid : List Token) (stack : List Symbol) → before ≡ at p (Name k n) ∷ mid → word_of n ≡ word.Implements → read room (ObjectBody ∷ stack) before ≡ read room (FirstInterface ∷ stack) mid
implements_comes room p k n before mid stack e h = ap (read room (ObjectBody ∷ stack)) e ∙ read_name room p k n (ObjectBody ∷ stack) (FirstInterface ∷ stack) mid (implements_shift (word_of n) stack _ h)

pub more_end : (before after : List Token) (stack : List Symbol) → IsTaken (Punct BraceLeft) before after → read 128 (MoreInterfaces ∷ stack) before ≡ read 127 (Fields false ∷ stack) after
more_end before after stack h = rw h.is refl

interfaces_are : {p q : Place} {k : Keyword} {n : List ℕ} {names others : List tree.Name} {first : tree.Name} {before b1 b2 b3 b4 after : List Token} → before ≡ at p (Name k n) ∷ b1 → word_of n ≡ word.Implements → names ≡ first ∷ others
    → IsAmpersand b1 b2 → IsTypeName first b2 b3 → AreMoreInterfaces others b3 b4 → b4 ≡ at q (Punct BraceLeft) ∷ after → AreInterfaces names before (at q (Punct BraceLeft) ∷ after)
interfaces_are {others = others} {b3 = b3} e h all a n more closes = rw (e, all) (interfaces h a n (subst (λ x. AreMoreInterfaces others b3 x) closes more))

pub interfaces_read : (p : Place) (k : Keyword) (n : List ℕ) (names : List tree.Name) (before b1 b4 after : List Token) → before ≡ at p (Name k n) ∷ b1 → word_of n ≡ word.Implements
    → AreSomeInterfaces names b1 b4 × ((stack : List Symbol) → read 128 (FirstInterface ∷ stack) b1 ≡ read 128 (MoreInterfaces ∷ stack) b4) → IsTaken (Punct BraceLeft) b4 after
    → AreInterfacesRead names before after × ((stack : List Symbol) → read 128 (ObjectBody ∷ stack) before ≡ read 127 (Fields false ∷ stack) after)
interfaces_read p k n names before b1 b4 after e h some closes = (
  record { place = closes.place; are = interfaces_are e h some.0.all some.0.ampersand some.0.is some.0.are closes.is },
  λ stack. implements_comes 128 p k n before b1 stack e h ∙ some.1 stack ∙ more_end b4 after stack closes,
)

no_interfaces_at : {q : Place} {before after : List Token} → before ≡ at q (Punct BraceLeft) ∷ after → AreInterfaces [] before (at q (Punct BraceLeft) ∷ after)
no_interfaces_at e = rw e no_interfaces

pub no_interfaces_read : (names : List rust-name.Name) (before mid after : List Token) → names ≡ [] → mid ≡ before → IsTaken (Punct BraceLeft) mid after
    → AreInterfacesRead (names_of names) before after × ((stack : List Symbol) → read 128 (ObjectBody ∷ stack) before ≡ read 127 (Fields false ∷ stack) after)
no_interfaces_read names before mid after e same closes = (
  record { place = closes.place; are = rw e (no_interfaces_at (sym same ∙ closes.is)) },
  λ stack. ap (read 128 (ObjectBody ∷ stack)) (sym same ∙ closes.is),
)

-- ---- members

is_pipe : (before after : List Token) (b : Bool) → Eats (Punct Pipe) before after b → IsPipe before after
is_pipe before after true h = rw h.is pipe
is_pipe before after false h = rw h.0 no_pipe

no_pipe_comes : (room : ℕ) (tokens : List Token) (stack : List Symbol) → IsNotNext (Punct Pipe) tokens → read room (MaybePipe ∷ stack) tokens ≡ read room stack tokens
no_pipe_comes room [] stack h = refl
no_pipe_comes room (at p (Punct Pipe) ∷ tokens) stack h = absurd (h refl)
no_pipe_comes room (at p _ ∷ tokens) stack h = refl

pub pipe_comes : (room : ℕ) (before after : List Token) (b : Bool) (stack : List Symbol) → Eats (Punct Pipe) before after b → read room (MaybePipe ∷ stack) before ≡ read room stack after
pipe_comes room before after true stack h = rw h.is refl
pipe_comes room before after false stack h = no_pipe_comes room before stack h.1 ∙ ap (read room stack) (sym h.0)

no_member_comes : (room : ℕ) (tokens : List Token) (stack : List Symbol) → IsNotNext (Punct Pipe) tokens → read room (MoreMembers ∷ stack) tokens ≡ read room stack tokens
no_member_comes room [] stack h = refl
no_member_comes room (at p (Punct Pipe) ∷ tokens) stack h = absurd (h refl)
no_member_comes room (at p _ ∷ tokens) stack h = refl

pub first_member : (before mid now : List Token) (b : Bool) (n : rust-name.Name) (xs : List rust-name.Name) → Eats (Punct Pipe) before mid b
    → Reads (λ n. IsTypeName (name_of n)) 128 (one (A ATypeName)) 128 [] mid now (Ok n) → length now < length mid → xs ≡ n ∷ []
    → IsFront AreMoreMembers AreMembersRead (λ others. names_of xs ++ others) 128 (MaybePipe ∷ A ATypeName ∷ one MoreMembers) 128 (one MoreMembers) before now
first_member before mid now b n xs eaten h shorter is = record {
  joins = λ others after rest. record { first = name_of n; others = others; mid = mid; mid' = now; all = rw is refl; pipe = is_pipe before mid b eaten; is = h.0; are = rest };
  reads = λ stack. pipe_comes 128 before mid b (A ATypeName ∷ MoreMembers ∷ stack) eaten ∙ h.1 (MoreMembers ∷ stack);
  shrinks = omega (arith, eaten_shrinks (Punct Pipe) before mid b eaten);
}

pub next_member_holds : {n : tree.Name} {mid after : List Token} → IsTypeName n mid after → (p : Place) (others : List tree.Name) (end : List Token) → AreMoreMembers others after end → AreMoreMembers (n ∷ others) (at p (Punct Pipe) ∷ mid) end
next_member_holds h p others end rest = next_member h rest

pub members_end : (before now after : List Token) (xs : List rust-name.Name) → IsFront AreMoreMembers AreMembersRead (λ others. names_of xs ++ others) 128 (MaybePipe ∷ A ATypeName ∷ one MoreMembers) 128 (one MoreMembers) before now → (after ≡ now) × IsNotNext (Punct Pipe) now
    → AreMembersRead (names_of xs) before after × ((stack : List Symbol) → read 128 (MaybePipe ∷ A ATypeName ∷ MoreMembers ∷ stack) before ≡ read 128 stack after)
members_end before now after xs front h = (
  subst (λ ns. AreMembersRead ns before after) (append-nil (names_of xs)) (front.joins [] after (rw h.0 no_more_members)),
  λ stack. front.reads stack ∙ no_member_comes 128 now stack h.1 ∙ ap (read 128 stack) (sym h.0),
)

-- ---- bodies

pub brace_comes : (before after : List Token) (stack : List Symbol) → IsTaken (Punct BraceLeft) before after → read 128 (RootBody ∷ stack) before ≡ read 127 (a_root ++ stack) after
brace_comes before after stack h = rw h.is refl

pub enum_comes : (before after : List Token) (stack : List Symbol) → IsTaken (Punct BraceLeft) before after → read 128 (EnumBody ∷ stack) before ≡ read 127 (EnumValues false ∷ stack) after
enum_comes before after stack h = rw h.is refl

pub schema_is : {p q r u v : Place} {w : List ℕ} {n : tree.Name} {before b1 b2 b3 b4 after : List Token} → before ≡ at q (Punct BraceLeft) ∷ b1 → b1 ≡ at r (Name Query w) ∷ b2 → b2 ≡ at u (Punct Colon) ∷ b3 → IsTypeName n b3 b4 → b4 ≡ at v (Punct BraceRight) ∷ after
    → IsBody word.Schema p (tree.Schema p n) before after
schema_is {n = n} {b3 = b3} e e1 e2 h e3 = rw (e, e1, e2) (schema (subst (λ x. IsTypeName n b3 x) e3 h))

pub interface_is : {p : Place} {n : tree.Name} {fs : List tree.Field} {before b1 b2 after : List Token} → IsTypeName n before b1 → IsTaken (Punct BraceLeft) b1 b2 → AreFields false fs b2 after → IsBody word.Interface p (tree.Interface n fs) before after
interface_is {n = n} {before = before} h c fs = interface (subst (λ x. IsTypeName n before x) c.is h) fs

pub enum_is : {p : Place} {n : tree.Name} {vs : List tree.Name} {before b1 b2 after : List Token} → IsTypeName n before b1 → IsTaken (Punct BraceLeft) b1 b2 → AreEnumValues false vs b2 after → IsBody word.Enum p (tree.Enum n vs) before after
enum_is {n = n} {before = before} h c vs = enum (subst (λ x. IsTypeName n before x) c.is h) vs

pub union_is : {p : Place} {n : tree.Name} {ms : List tree.Name} {before b1 b2 after : List Token} → IsTypeName n before b1 → IsTaken (Punct Equals) b1 b2 → AreMembersRead ms b2 after → IsBody word.Union p (tree.Union n ms) before after
union_is {n = n} {before = before} h c m = rw m.all (union (subst (λ x. IsTypeName n before x) c.is h) m.pipe m.is m.are)

-- ---- definitions

body_shift : (s t : SchemaWord) (symbols stack : List Symbol) (skipped : Shift) → s ≡ t → moved (body_move t) stack skipped ≡ Shifts (symbols ++ stack) → moved (body_move s) stack skipped ≡ Shifts (symbols ++ stack)
body_shift s t symbols stack skipped e h = rw e h

pub definition_opens : (s : SchemaWord) (symbols : List Symbol) (p : Place) (k : Keyword) (n : List ℕ) (before mid : List Token) (stack : List Symbol) → before ≡ at p (Name k n) ∷ mid → s ≡ word_of n
    → moved (body_move s) stack (shift stack (Name k n)) ≡ Shifts (symbols ++ stack) → read 128 (ADefinition ∷ stack) before ≡ read 128 (symbols ++ stack) mid
definition_opens s symbols p k n before mid stack e h moves = ap (read 128 (ADefinition ∷ stack)) e ∙ read_name 128 p k n (ADefinition ∷ stack) (symbols ++ stack) mid (body_shift (word_of n) s symbols stack (shift stack (Name k n)) (sym h) moves)

pub definition_is : {s : SchemaWord} {p : Place} {k : Keyword} {n : List ℕ} {d : Definition} {before mid after : List Token} → before ≡ at p (Name k n) ∷ mid → s ≡ word_of n → IsBody s p d mid after → IsDefinitionRead d before after
definition_is {p = p} {k = k} {n = n} {d = d} {mid = mid} {after = after} e h b = record { place = p; keyword = k; name = n; rest = mid; begins = e; is = subst (λ x. IsBody x p d mid after) h b }
