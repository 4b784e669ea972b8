-- Lemmas on where the machine stops there is the first fault.
use Rattle.std.specs.Prelude.{not, if◌then◌else◌}
use Rattle.std.proofs.Common.{◌≡◌, ℕ, zero, suc, Bool, true, false, List, [], ◌∷◌, ◌++◌, Option, Some, None, refl, sym, ap, subst, ◌∙◌, ◌⊎◌, inl, inr}
use Rattle.std.proofs.lemmas.List.{append-nil}
use Rattle.text_place.specs.declared.place.Place.{Place}
use Rattle.gq_lexer.specs.declared.token.Punct.TheVariants.{At, BracketLeft}
use Rattle.gq_parser.specs.declared.keyword.Keyword.{Keyword}
use Rattle.gq_parser.specs.Word.{Word, Punct, Name, Token, at, place_of_next}
use Rattle.gq_parser.specs.Fault.{Bracket, Opening, Closing, Neither, bracket, IsShallow}
use Rattle.schema_syntax.specs.declared.word.SchemaWord.{SchemaWord}
use Rattle.schema_syntax.specs.declared.word.SchemaWord.TheVariants as word
use Rattle.schema_syntax.specs.declared.fault.TokenFault.{TokenFault}
use Rattle.schema_syntax.specs.declared.fault.TokenFault.TheVariants.{Unexpected, NotServed, NoMemory}
use Rattle.schema_syntax.specs.Word.{word_of}
use Rattle.schema_syntax.specs.Fault.{IsUnservedWord, definition, operation, implements, float, EndsIn, IsUnserved, directive, a_word, list, PartsDirective}
use Rattle.schema_syntax.specs.Machine.{Symbol, A, AColon, AnEquals, ABracket, AParenthesis, AName, ATypeName, AnItem, AnEnumName, AText, ADeprecated, AReason, AQuery, ARootEnd}
use Rattle.schema_syntax.specs.Machine.{MaybeArguments, MaybeDefault, MaybeBang, MaybeDeprecated, MaybeReason, MaybePipe, MoreMembers, Verdict, Accepts, Rejects, deprecated_verdict, on_verdict, moved, Shift, Shifts, Refused, Denied, shift}
use Rattle.schema_syntax.specs.Machine.{is_deprecated, is_other_directive, refused, Step, Goes, Stops, Forbids, Sinks, entered, step, at_end, read}
use Rattle.schema_syntax.proofs.Means.{Means, Shifted, shifts}
use Rattle.schema_syntax.proofs.Back.{meets, shifts_back, at_end_done}
use Rattle.schema_syntax.proofs.Served.{Comes, goes_comes, refused_comes, denied_comes, Plain, Lawful, plain_lawful, keeps, denied}
use Rattle.schema_syntax.proofs.Refused.{refused_served, bracket_refused}

-- ---- the first fault, where a list of symbols is expected

abbrev pub RefusedAt : ℕ → List Symbol → List Token → List Token → Type 0
RefusedAt room stack good [] = Means stack good → ⊥
RefusedAt room stack good (t ∷ rest) = (Comes stack good (t ∷ []) → ⊥) ⊎ (IsShallow room (good ++ t ∷ []) → ⊥)

-- nothing unserved begins here; and where nothing is read yet, no list in a list can begin here either
pub record ServedAt (stack : List Symbol) (good bad : List Token) : Type 0 where
  pub served : IsUnserved (Comes stack good) good bad → ⊥
  pub first : good ≡ [] → (q : Place) (rest : List Token) → bad ≡ at q (Punct BracketLeft) ∷ rest → (Comes stack [] (at q (Punct BracketLeft) ∷ []) → ⊥) → (before : List Symbol) → shift before (Punct BracketLeft) ≡ Shifts stack → ⊥

-- nothing is read yet, the item of a list type is expected, and another list begins
pub record FirstItem (stack : List Symbol) (good bad : List Token) : Type 0 where
  pub none : good ≡ []
  pub not_plain : Plain stack → ⊥
  pub place : Place
  pub rest : List Token
  pub is : bad ≡ at place (Punct BracketLeft) ∷ rest
  pub never : Comes stack [] (at place (Punct BracketLeft) ∷ []) → ⊥

abbrev pub Why : ℕ → List Symbol → List Token → List Token → TokenFault → Type 0
Why room stack good bad (Unexpected place) = (place_of_next bad ≡ place) × RefusedAt room stack good bad × ServedAt stack good bad
Why room stack good bad (NotServed place) = (place_of_next bad ≡ Some place) × (IsUnserved (Comes stack good) good bad ⊎ FirstItem stack good bad)
Why room stack good bad NoMemory = ⊥

pub record StopsAt (room : ℕ) (stack : List Symbol) (tokens : List Token) (stop : TokenFault) : Type 0 where
  pub good : List Token
  pub bad : List Token
  pub whole : tokens ≡ good ++ bad
  pub viable : Comes stack good []
  pub shallow : IsShallow room good
  pub together : PartsDirective good bad → ⊥
  pub why : Why room stack good bad stop

abbrev pub Ends : ℕ → List Symbol → List Token → Option TokenFault → Type 0
Ends room stack tokens None = IsShallow room tokens
Ends room stack tokens (Some stop) = StopsAt room stack tokens stop

-- ---- one token

-- the token is an `@`, a name follows, and it is another than `deprecated`
pub record IsOtherDirective (w : Word) (tokens : List Token) : Type 0 where
  pub place : Place
  pub keyword : Keyword
  pub name : List ℕ
  pub rest : List Token
  pub is_at : w ≡ Punct At
  pub follows : tokens ≡ at place (Name keyword name) ∷ rest
  pub other : deprecated_verdict (word_of name) ≡ Accepts → ⊥

not_deprecated : (s : SchemaWord) → not (is_deprecated s) ≡ true → deprecated_verdict s ≡ Accepts → ⊥
not_deprecated word.Deprecated e h = cc
not_deprecated _ e h = cc

is_deprecated_accepts : (s : SchemaWord) → not (is_deprecated s) ≡ false → deprecated_verdict s ≡ Accepts
is_deprecated_accepts word.Deprecated e = refl
is_deprecated_accepts _ e = absurd (cc)

other_directive : (w : Word) (tokens : List Token) → is_other_directive w tokens ≡ true → IsOtherDirective w tokens
other_directive (Punct At) (at q (Name k n) ∷ rest) e = record { place = q; keyword = k; name = n; rest = rest; is_at = refl; follows = refl; other = not_deprecated (word_of n) e }
other_directive (Punct At) [] e = absurd (cc)
other_directive (Punct At) (at q _ ∷ rest) e = absurd (cc)
other_directive _ tokens e = absurd (cc)

shifts_is : {x y : List Symbol} → Shifts x ≡ Shifts y → x ≡ y
shifts_is e = cc

-- behind an `@` the word `deprecated` is expected
at_shift : (stack next : List Symbol) → shift stack (Punct At) ≡ Shifts next → (s : List Symbol) × (next ≡ A ADeprecated ∷ s)
at_shift [] next e = absurd (cc)
at_shift (MaybeDeprecated ∷ stack) next e = (_, sym (shifts_is e))
at_shift (MaybeArguments ∷ stack) next e = at_shift stack next e
at_shift (MaybeDefault ∷ stack) next e = at_shift stack next e
at_shift (MaybeBang ∷ stack) next e = at_shift stack next e
at_shift (MaybeReason ∷ stack) next e = at_shift stack next e
at_shift (MaybePipe ∷ stack) next e = at_shift stack next e
at_shift (MoreMembers ∷ stack) next e = at_shift stack next e
at_shift (A AColon ∷ stack) next e = absurd (cc)
at_shift (A AnEquals ∷ stack) next e = absurd (cc)
at_shift (A ABracket ∷ stack) next e = absurd (cc)
at_shift (A AParenthesis ∷ stack) next e = absurd (cc)
at_shift (A AName ∷ stack) next e = absurd (cc)
at_shift (A ATypeName ∷ stack) next e = absurd (cc)
at_shift (A AnItem ∷ stack) next e = absurd (cc)
at_shift (A AnEnumName ∷ stack) next e = absurd (cc)
at_shift (A AText ∷ stack) next e = absurd (cc)
at_shift (A ADeprecated ∷ stack) next e = absurd (cc)
at_shift (A AReason ∷ stack) next e = absurd (cc)
at_shift (A AQuery ∷ stack) next e = absurd (cc)
at_shift (A ARootEnd ∷ stack) next e = absurd (cc)
at_shift (_ ∷ stack) next e = absurd (cc)

deprecated_goes : (s : List Symbol) (q : Place) (k : Keyword) (n : List ℕ) → deprecated_verdict (word_of n) ≡ Accepts → Comes (A ADeprecated ∷ s) [] (at q (Name k n) ∷ [])
deprecated_goes s q k n e = goes_comes (A ADeprecated ∷ s) s q (Name k n) (ap (λ v. moved (on_verdict v []) s (shift s (Name k n))) e)

-- a name behind an `@` that goes on can come
at_then_name : (stack next : List Symbol) (q : Place) (k : Keyword) (n : List ℕ) → shift stack (Punct At) ≡ Shifts next → not (is_deprecated (word_of n)) ≡ false → Comes next [] (at q (Name k n) ∷ [])
at_then_name stack next q k n e h = let s = at_shift stack next e in subst (λ x. Comes x [] (at q (Name k n) ∷ [])) (sym s.1) (deprecated_goes s.0 q k n (is_deprecated_accepts (word_of n) h))

deprecated_came : (s : List Symbol) (q : Place) (k : Keyword) (n : List ℕ) (tokens : List Token) → Means (A ADeprecated ∷ s) (at q (Name k n) ∷ tokens) → (deprecated_verdict (word_of n) ≡ Accepts → ⊥) → ⊥
deprecated_came s q k n tokens m other = go (deprecated_verdict (word_of n)) other (shifts m)
  where
    go : (v : Verdict) → (v ≡ Accepts → ⊥) → Shifted (moved (on_verdict v []) s (shift s (Name k n))) tokens → ⊥
    go Accepts h x = h refl
    go Rejects h x = x
    go _ h x = x

came : {stack next : List Symbol} {p : Place} {w : Word} (tokens : List Token) → shift stack w ≡ Shifts next → Means stack (at p w ∷ tokens) → Means next tokens
came tokens e h = subst (λ o. Shifted o tokens) e (shifts h)

-- no other directive can come
directive_never : (stack : List Symbol) (p : Place) (w : Word) (tokens : List Token) → IsOtherDirective w tokens → (more : List Token) → Means stack (at p w ∷ (tokens ++ more)) → (next : List Symbol) → shift stack w ≡ Shifts next → ⊥
directive_never stack p w tokens d more m next e =
    let s = at_shift stack next (ap (shift stack) (sym d.is_at) ∙ e) in
    let m' : Means next (tokens ++ more) = came (tokens ++ more) e m in
    let m2 : Means (A ADeprecated ∷ s.0) (tokens ++ more) = subst (λ x. Means x (tokens ++ more)) s.1 m' in
    let m3 : Means (A ADeprecated ∷ s.0) (at d.place (Name d.keyword d.name) ∷ (d.rest ++ more)) = subst (λ x. Means (A ADeprecated ∷ s.0) (x ++ more)) d.follows m2 in
    deprecated_came s.0 d.place d.keyword d.name (d.rest ++ more) m3 d.other

abbrev StepIs : ℕ → List Symbol → Place → Word → List Token → Step → Type 0
StepIs room stack p w tokens (Goes r next) = (shift stack w ≡ Shifts next) × (is_other_directive w tokens ≡ false) × ((good : List Token) → IsShallow r good → IsShallow room (at p w ∷ good)) × ((good : List Token) → IsShallow room (at p w ∷ good) → IsShallow r good)
StepIs room stack p w tokens Stops = shift stack w ≡ Refused
StepIs room stack p w tokens Forbids = (shift stack w ≡ Denied) ⊎ ((next : List Symbol) × (shift stack w ≡ Shifts next) × IsOtherDirective w tokens)
StepIs room stack p w tokens Sinks = (next : List Symbol) × (shift stack w ≡ Shifts next) × (bracket w ≡ Opening) × ((good : List Token) → IsShallow room (at p w ∷ good) → ⊥)

bracket_is : (room : ℕ) (stack next : List Symbol) (p : Place) (w : Word) (tokens : List Token) (b : Bracket) → bracket w ≡ b → shift stack w ≡ Shifts next → is_other_directive w tokens ≡ false → StepIs room stack p w tokens (entered b room next)
bracket_is zero stack next p w tokens Opening is e h = (next, e, is, rw is (λ good x. x))
bracket_is (suc room) stack next p w tokens Opening is e h = (e, h, rw is (λ good x. x), rw is (λ good x. x))
bracket_is room stack next p w tokens Closing is e h = (e, h, rw is (λ good x. x), rw is (λ good x. x))
bracket_is room stack next p w tokens Neither is e h = (e, h, rw is (λ good x. x), rw is (λ good x. x))

directive_is : (room : ℕ) (stack next : List Symbol) (p : Place) (w : Word) (tokens : List Token) (b : Bool) → is_other_directive w tokens ≡ b → shift stack w ≡ Shifts next
    → StepIs room stack p w tokens (if b then Forbids else entered (bracket w) room next)
directive_is room stack next p w tokens true h e = inr (next, e, other_directive w tokens h)
directive_is room stack next p w tokens false h e = bracket_is room stack next p w tokens (bracket w) refl e h

shift_is : (room : ℕ) (stack : List Symbol) (p : Place) (w : Word) (tokens : List Token) (o : Shift) → shift stack w ≡ o
    → StepIs room stack p w tokens (elim o as (λ x. Step) [ Refused ↦ Stops | Denied ↦ Forbids | Shifts next ↦ if is_other_directive w tokens then Forbids else entered (bracket w) room next ])
shift_is room stack p w tokens Refused e = e
shift_is room stack p w tokens Denied e = inl e
shift_is room stack p w tokens (Shifts next) e = directive_is room stack next p w tokens (is_other_directive w tokens) refl e

step_is : (room : ℕ) (stack : List Symbol) (p : Place) (w : Word) (tokens : List Token) → StepIs room stack p w tokens (step room stack w tokens)
step_is room stack p w tokens = shift_is room stack p w tokens (shift stack w) refl

-- ---- a fault further on

module _ (stack next : List Symbol) (p : Place) (w : Word) (e : shift stack w ≡ Shifts next) where
  on : (good nx : List Token) → Comes stack (at p w ∷ good) nx → Comes next good nx
  on good nx c = record { more = c.more; spelled = c.spelled; means = came (good ++ (nx ++ c.more)) e c.means }

  back : (good nx : List Token) → Comes next good nx → Comes stack (at p w ∷ good) nx
  back good nx c = record { more = c.more; spelled = c.spelled; means = shifts_back stack p w (good ++ (nx ++ c.more)) (subst (λ o. Shifted o (good ++ (nx ++ c.more))) (sym e) c.means) }

  word_back : (good : List Token) (t : Token) → IsUnservedWord (Comes next good) t → IsUnservedWord (Comes stack (at p w ∷ good)) t
  word_back good t (definition h c) = definition h (back good _ c)
  word_back good t (operation h (inl c)) = operation h (inl (back good _ c))
  word_back good t (operation h (inr c)) = operation h (inr (back good _ c))
  word_back good t (implements h c d) = implements h (back good _ c) (λ x. d (on good _ x))
  word_back good t (float h c) = float h (back good _ c)

  word_on : (good : List Token) (t : Token) → IsUnservedWord (Comes stack (at p w ∷ good)) t → IsUnservedWord (Comes next good) t
  word_on good t (definition h c) = definition h (on good _ c)
  word_on good t (operation h (inl c)) = operation h (inl (on good _ c))
  word_on good t (operation h (inr c)) = operation h (inr (on good _ c))
  word_on good t (implements h c d) = implements h (on good _ c) (λ x. d (back good _ x))
  word_on good t (float h c) = float h (on good _ c)

  ends_later : (v : Word) (good : List Token) → EndsIn v good → EndsIn v (at p w ∷ good)
  ends_later v [] h = absurd h
  ends_later v (t ∷ good) h = h

  unserved_back : (good bad : List Token) → IsUnserved (Comes next good) good bad → IsUnserved (Comes stack (at p w ∷ good)) (at p w ∷ good) bad
  unserved_back good bad (directive d) = directive (λ c. d (on good _ c))
  unserved_back good bad (a_word {t = t} d u) = a_word (λ c. d (on good _ c)) (word_back good t u)
  unserved_back good bad (list d ends) = list (λ c. d (on good _ c)) (ends_later (Punct BracketLeft) good ends)

  unserved_on : (good bad : List Token) → ServedAt next good bad → IsUnserved (Comes stack (at p w ∷ good)) (at p w ∷ good) bad → ⊥
  unserved_on good bad s (directive d) = s.served (directive (λ c. d (back good _ c)))
  unserved_on good bad s (a_word {t = t} d u) = s.served (a_word (λ c. d (back good _ c)) (word_on good t u))
  unserved_on [] bad s (list {p = q} {rest = rest} d ends) = s.first refl q rest refl (λ c. d (back [] _ c)) stack (ap (shift stack) (sym ends) ∙ e)
  unserved_on (t ∷ good) bad s (list d ends) = s.served (list (λ c. d (back (t ∷ good) _ c)) ends)

  served_later : (good bad : List Token) → ServedAt next good bad → ServedAt stack (at p w ∷ good) bad
  served_later good bad s = record { served = unserved_on good bad s; first = λ nothing. absurd (cc) }

  item_later : (good bad : List Token) → Lawful stack → FirstItem next good bad → IsUnserved (Comes stack (at p w ∷ good)) (at p w ∷ good) bad
  item_later good bad lawful f = elim (keeps stack next w lawful e) [
    | inl plain ↦ absurd (f.not_plain plain)
    | inr x ↦
        let u : IsUnserved (Comes stack (at p w ∷ [])) (at p w ∷ []) (at f.place (Punct BracketLeft) ∷ f.rest) = list (λ c. f.never (on [] _ c)) x.0 in
        rw (f.none, f.is) u
  ]

  why_later : (room r : ℕ) (good bad : List Token) (stop : TokenFault) → Lawful stack → ((more : List Token) → IsShallow room (at p w ∷ more) → IsShallow r more) → Why r next good bad stop → Why room stack (at p w ∷ good) bad stop
  why_later room r good [] (Unexpected place) lawful shallow y = (y.0, λ m. y.1 (came good e m), served_later good [] y.2)
  why_later room r good (t ∷ bad) (Unexpected place) lawful shallow y = (
    y.0,
    elim y.1 [ inl d ↦ inl (λ c. d (on good _ c)) | inr d ↦ inr (λ h. d (shallow (good ++ t ∷ []) h)) ],
    served_later good (t ∷ bad) y.2,
  )
  why_later room r good bad (NotServed place) lawful shallow y = (y.0, elim y.1 [ inl u ↦ inl (unserved_back good bad u) | inr f ↦ inl (item_later good bad lawful f) ])
  why_later room r good bad NoMemory lawful shallow y = y

-- a name can't be where a reading stops, if it can come
name_stops : (room : ℕ) (stack : List Symbol) (q : Place) (k : Keyword) (n : List ℕ) (rest : List Token) (stop : TokenFault) → Comes stack [] (at q (Name k n) ∷ []) → Why room stack [] (at q (Name k n) ∷ rest) stop → ⊥
name_stops room stack q k n rest (Unexpected place) c y = elim y.1 [ inl d ↦ d c | inr d ↦ d tt ]
name_stops room stack q k n rest (NotServed place) c y = elim y.1 [ inl u ↦ unserved_name u | inr f ↦ no_bracket f.is ]
  where
    unserved_name : IsUnserved (Comes stack []) [] (at q (Name k n) ∷ rest) → ⊥
    unserved_name (a_word d u) = d c

    no_bracket : {q' : Place} {rest' : List Token} → at q (Name k n) ∷ rest ≡ at q' (Punct BracketLeft) ∷ rest' → ⊥
    no_bracket e = cc
name_stops room stack q k n rest NoMemory c y = y

-- an `@` and its name stay on one side
parts_later : (p : Place) (w : Word) (good bad : List Token) → (good ≡ [] → w ≡ Punct At → (q : Place) (k : Keyword) (n : List ℕ) (rest : List Token) → bad ≡ at q (Name k n) ∷ rest → ⊥)
    → (PartsDirective good bad → ⊥) → PartsDirective (at p w ∷ good) bad → ⊥
parts_later p w good [] h g x = x
parts_later p w [] (at q (Name k n) ∷ rest) h g x = h refl x q k n rest refl
parts_later p w (t ∷ good) (at q (Name k n) ∷ rest) h g x = g x
parts_later p w good (at q (Punct y) ∷ rest) h g x = x
parts_later p w good (at q _ ∷ rest) h g x = x

first_name : (room r : ℕ) (stack next : List Symbol) (p : Place) (w : Word) (tokens : List Token) (stop : TokenFault) → shift stack w ≡ Shifts next → is_other_directive w tokens ≡ false → (s : StopsAt r next tokens stop)
    → s.good ≡ [] → w ≡ Punct At → (q : Place) (k : Keyword) (n : List ℕ) (rest : List Token) → s.bad ≡ at q (Name k n) ∷ rest → ⊥
first_name room r stack next p w tokens stop e h s nothing is q k n rest follows =
    let whole : tokens ≡ at q (Name k n) ∷ rest = s.whole ∙ ap (λ g. g ++ s.bad) nothing ∙ follows in
    let h1 : is_other_directive (Punct At) (at q (Name k n) ∷ rest) ≡ false = subst (λ x. is_other_directive (Punct At) x ≡ false) whole (subst (λ x. is_other_directive x tokens ≡ false) is h) in
    let y1 : Why r next [] s.bad stop = subst (λ g. Why r next g s.bad stop) nothing s.why in
    let y2 : Why r next [] (at q (Name k n) ∷ rest) stop = subst (λ b. Why r next [] b stop) follows y1 in
    name_stops r next q k n rest stop (at_then_name stack next q k n (ap (shift stack) (sym is) ∙ e) h1) y2

lawful_next : (stack next : List Symbol) (w : Word) → Lawful stack → shift stack w ≡ Shifts next → Lawful next
lawful_next stack next w lawful e = elim (keeps stack next w lawful e) [ inl plain ↦ plain_lawful next plain | inr x ↦ x.1 ]

later : (o : Option TokenFault) (room r : ℕ) (stack next : List Symbol) (p : Place) (w : Word) (tokens : List Token) → Lawful stack → StepIs room stack p w tokens (Goes r next) → Ends r next tokens o → Ends room stack (at p w ∷ tokens) o
later None room r stack next p w tokens lawful c s = c.2 tokens s
later (Some stop) room r stack next p w tokens lawful c s = record {
  good = at p w ∷ s.good;
  bad = s.bad;
  whole = ap (λ x. at p w ∷ x) s.whole;
  viable = back stack next p w c.0 s.good [] s.viable;
  shallow = c.2 s.good s.shallow;
  together = parts_later p w s.good s.bad (first_name room r stack next p w tokens stop c.0 c.1 s) s.together;
  why = why_later stack next p w c.0 room r s.good s.bad stop lawful c.3 s.why;
}

-- ---- a fault at once

-- nothing read can be part of a directive
nothing_parted : (bad : List Token) → PartsDirective [] bad → ⊥
nothing_parted [] x = x
nothing_parted (at q (Name k n) ∷ rest) x = x
nothing_parted (at q (Punct y) ∷ rest) x = x
nothing_parted (at q _ ∷ rest) x = x

at_once : (room : ℕ) (stack : List Symbol) (tokens : List Token) (stop : TokenFault) → Why room stack [] tokens stop → StopsAt room stack tokens stop
at_once room stack tokens stop y =
    let m = meets stack in
    record { good = []; bad = tokens; whole = refl; viable = record { more = m.tokens; spelled = m.spelled; means = m.means }; shallow = tt; together = nothing_parted tokens; why = y }

abbrev IsDirectiveStart : Word → List Token → Type 0
IsDirectiveStart (Punct At) (at q (Name k n) ∷ rest) = Unit {0}
IsDirectiveStart _ tokens = ⊥

head_is : {p q : Place} {w v : Word} {ts us : List Token} → at p w ∷ ts ≡ at q v ∷ us → w ≡ v
head_is e = cc

no_refused_part : {stack : List Symbol} {p : Place} {w : Word} {tokens : List Token} → (IsDirectiveStart w tokens → ⊥) → shift stack w ≡ Refused → IsUnserved (Comes stack []) [] (at p w ∷ tokens) → ⊥
no_refused_part h r (directive d) = h tt
no_refused_part {stack = stack} {p = p} {w = w} h r (a_word d u) = refused_served stack p w r u
no_refused_part h r (list d ends) = ends

served_at : (stack : List Symbol) (p : Place) (w : Word) (tokens : List Token) → (IsDirectiveStart w tokens → ⊥) → shift stack w ≡ Refused → ServedAt stack [] (at p w ∷ tokens)
served_at stack p w tokens h r = record { served = no_refused_part h r; first = λ nothing q rest is never before e. bracket_refused before stack e (ap (shift stack) (sym (head_is is)) ∙ r) }

stops_why : (room : ℕ) (stack : List Symbol) (p : Place) (w : Word) (tokens : List Token) → shift stack w ≡ Refused → Why room stack [] (at p w ∷ tokens) (refused (at p w ∷ tokens))
stops_why room stack p (Punct At) (at q (Name k n) ∷ rest) r = (refl, inl (directive (refused_comes stack p (Punct At) (at q (Name k n) ∷ []) r)))
stops_why room stack p (Punct At) [] r = (refl, inl (refused_comes stack p (Punct At) [] r), served_at stack p (Punct At) [] (λ x. x) r)
stops_why room stack p (Punct At) (at q v ∷ rest) r = (refl, inl (refused_comes stack p (Punct At) [] r), served_at stack p (Punct At) (at q v ∷ rest) (λ x. x) r)
stops_why room stack p w tokens r = (refl, inl (refused_comes stack p w [] r), served_at stack p w tokens (λ x. x) r)

directive_why : (room : ℕ) (stack next : List Symbol) (p : Place) (w : Word) (tokens : List Token) → shift stack w ≡ Shifts next → IsOtherDirective w tokens → Why room stack [] (at p w ∷ tokens) (NotServed p)
directive_why room stack next p w tokens e d =
    let pair : List Token = at d.place (Name d.keyword d.name) ∷ [] in
    let alone : IsOtherDirective (Punct At) pair = record { place = d.place; keyword = d.keyword; name = d.name; rest = []; is_at = refl; follows = refl; other = d.other } in
    let u : IsUnserved (Comes stack []) [] (at p (Punct At) ∷ at d.place (Name d.keyword d.name) ∷ d.rest) = directive (λ c. directive_never stack p (Punct At) pair alone c.more c.means next (ap (shift stack) (sym d.is_at) ∙ e)) in
    (refl, inl (rw (d.is_at, d.follows) u))

denied_why : (room : ℕ) (stack : List Symbol) (p : Place) (w : Word) (tokens : List Token) → Lawful stack → shift stack w ≡ Denied → Why room stack [] (at p w ∷ tokens) (NotServed p)
denied_why room stack p w tokens lawful e = elim (denied stack p w lawful e) [
  | inl u ↦ (refl, inl (a_word (denied_comes stack p w [] e) u))
  | inr x ↦ (refl, inr (record { none = refl; not_plain = x.1; place = p; rest = tokens; is = rw x.0 refl; never = denied_comes stack p (Punct BracketLeft) [] (ap (shift stack) (sym x.0) ∙ e) }))
]

opening_no_at : (w : Word) (tokens : List Token) → bracket w ≡ Opening → IsDirectiveStart w tokens → ⊥
opening_no_at (Punct At) (at q (Name k n) ∷ rest) e h = cc
opening_no_at (Punct At) [] e h = h
opening_no_at (Punct At) (at q _ ∷ rest) e h = h
opening_no_at _ tokens e h = h

no_deep_part : {stack next : List Symbol} {p : Place} {w : Word} {tokens : List Token} → shift stack w ≡ Shifts next → bracket w ≡ Opening → IsUnserved (Comes stack []) [] (at p w ∷ tokens) → ⊥
no_deep_part {w = w} {tokens = tokens} e is (directive d) = opening_no_at w tokens is tt
no_deep_part {stack = stack} {next = next} {p = p} {w = w} e is (a_word d u) = d (goes_comes stack next p w e)
no_deep_part e is (list d ends) = ends

sinks_why : (room : ℕ) (stack next : List Symbol) (p : Place) (w : Word) (tokens : List Token) → shift stack w ≡ Shifts next → bracket w ≡ Opening → ((good : List Token) → IsShallow room (at p w ∷ good) → ⊥)
    → Why room stack [] (at p w ∷ tokens) (Unexpected (Some p))
sinks_why room stack next p w tokens e is deep = (refl, inr (λ h. deep [] h), record { served = no_deep_part e is; first = λ nothing q rest follows never before e'. never (goes_comes stack next q (Punct BracketLeft) (ap (shift stack) (sym (head_is follows)) ∙ e)) })

-- ---- all tokens

ends_step : (s : Step) (room : ℕ) (stack : List Symbol) (p : Place) (w : Word) (tokens : List Token) → Lawful stack → StepIs room stack p w tokens s → ((r : ℕ) (next : List Symbol) → Lawful next → Ends r next tokens (read r next tokens))
    → Ends room stack (at p w ∷ tokens) (elim s as (λ x. Option TokenFault) [ Goes r next ↦ read r next tokens | Stops ↦ Some (refused (at p w ∷ tokens)) | Forbids ↦ Some (NotServed p) | Sinks ↦ Some (Unexpected (Some p)) ])
ends_step (Goes r next) room stack p w tokens lawful c all = later (read r next tokens) room r stack next p w tokens lawful c (all r next (lawful_next stack next w lawful c.0))
ends_step Stops room stack p w tokens lawful c all = at_once room stack (at p w ∷ tokens) (refused (at p w ∷ tokens)) (stops_why room stack p w tokens c)
ends_step Forbids room stack p w tokens lawful (inl e) all = at_once room stack (at p w ∷ tokens) (NotServed p) (denied_why room stack p w tokens lawful e)
ends_step Forbids room stack p w tokens lawful (inr x) all = at_once room stack (at p w ∷ tokens) (NotServed p) (directive_why room stack x.0 p w tokens x.1 x.2)
ends_step Sinks room stack p w tokens lawful c all = at_once room stack (at p w ∷ tokens) (Unexpected (Some p)) (sinks_why room stack c.0 p w tokens c.1 c.2 c.3)

at_end_is : (stack : List Symbol) → (at_end stack ≡ None) ⊎ (at_end stack ≡ Some (Unexpected None))
at_end_is [] = inl refl
at_end_is (MaybeArguments ∷ stack) = at_end_is stack
at_end_is (MaybeDefault ∷ stack) = at_end_is stack
at_end_is (MaybeBang ∷ stack) = at_end_is stack
at_end_is (MaybeDeprecated ∷ stack) = at_end_is stack
at_end_is (MaybeReason ∷ stack) = at_end_is stack
at_end_is (MaybePipe ∷ stack) = at_end_is stack
at_end_is (MoreMembers ∷ stack) = at_end_is stack
at_end_is (_ ∷ stack) = inr refl

none_left : (stack : List Symbol) → IsUnserved (Comes stack []) [] [] → ⊥
none_left stack u = elim u [ ]

not_done : {stop : TokenFault} → None ≡ Some stop → ⊥
not_done e = cc

at_end_ends : (room : ℕ) (stack : List Symbol) → Ends room stack [] (at_end stack)
at_end_ends room stack = elim (at_end_is stack) [
  | inl e ↦ subst (Ends room stack []) (sym e) tt
  | inr e ↦ subst (Ends room stack []) (sym e) (at_once room stack [] (Unexpected None) (refl, λ h. not_done (sym (at_end_done h) ∙ e), record { served = none_left stack; first = λ nothing q rest is. absurd (cc) }))
]

-- the first fault of what is read, or none
pub read_ends : (room : ℕ) (stack : List Symbol) (tokens : List Token) → Lawful stack → Ends room stack tokens (read room stack tokens)
read_ends room stack [] lawful = at_end_ends room stack
read_ends room stack (at p w ∷ tokens) lawful = ends_step (step room stack w tokens) room stack p w tokens lawful (step_is room stack p w tokens) (λ r next. read_ends r next tokens)

done_step : (s : Step) (room : ℕ) (stack : List Symbol) (p : Place) (w : Word) (tokens : List Token) → StepIs room stack p w tokens s → Means stack (at p w ∷ tokens) → IsShallow room (at p w ∷ tokens)
    → ((r : ℕ) (next : List Symbol) → Means next tokens → IsShallow r tokens → read r next tokens ≡ None)
    → elim s as (λ x. Option TokenFault) [ Goes r next ↦ read r next tokens | Stops ↦ Some (refused (at p w ∷ tokens)) | Forbids ↦ Some (NotServed p) | Sinks ↦ Some (Unexpected (Some p)) ] ≡ None
done_step (Goes r next) room stack p w tokens c h shallow all = all r next (came tokens c.0 h) (c.3 tokens shallow)
done_step Stops room stack p w tokens c h shallow all = absurd (subst (λ o. Shifted o tokens) c (shifts h))
done_step Forbids room stack p w tokens (inl e) h shallow all = absurd (subst (λ o. Shifted o tokens) e (shifts h))
done_step Forbids room stack p w tokens (inr x) h shallow all = absurd (directive_never stack p w tokens x.2 [] (rw append-nil h) x.0 x.1)
done_step Sinks room stack p w tokens c h shallow all = absurd (c.3 tokens shallow)

-- tokens that come whole are read to their end, where they are shallow
pub read_done : (room : ℕ) (stack : List Symbol) (tokens : List Token) → Means stack tokens → IsShallow room tokens → read room stack tokens ≡ None
read_done room stack [] h shallow = at_end_done h
read_done room stack (at p w ∷ tokens) h shallow = done_step (step room stack w tokens) room stack p w tokens (step_is room stack p w tokens) h shallow (λ r next. read_done r next tokens)
