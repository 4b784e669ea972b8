-- Each text is a document or has a first fault, and what the machine reads in its tokens says which.
use Rattle.std.proofs.Common.{◌≡◌, ◌≢◌, ◌⊎◌, ◌≤◌, ℕ, zero, suc, List, [], ◌∷◌, ◌++◌, length, ltb, Option, Some, None, refl, sym, ap, subst, ◌∙◌, inl, inr, append_assoc, append-nil}
use Rattle.std.proofs.lemmas.Bool.{cases_Bool, ltb-true, ltb-false}
use Rattle.text_place.specs.declared.place.Place.{Place}
use Rattle.gq_lexer.specs.declared.token.Token as lexer
use Rattle.gq_lexer.specs.declared.scan.ScanFault.{ScanFault}
use Rattle.gq_lexer.specs.declared.scan.ScanFault.TheVariants as stop
use Rattle.gq_lexer.specs.declared.fault.LexFault.TheVariants as lex
use Rattle.gq_lexer.specs.Place.{place_of}
use Rattle.gq_lexer.specs.Tokens.{AreTokens, StopsAt}
use Rattle.gq_lexer.proofs.Whole.{each_is_read}
use Rattle.gq_parser.specs.declared.fault.ParseFault.{ParseFault}
use Rattle.gq_parser.specs.declared.fault.ParseFault.TheVariants as parse
use Rattle.gq_parser.specs.Word.{Word, Token, at, AreSpelled, place_of_next, tokens_of}
use Rattle.gq_parser.specs.Tree.{Operation, Fragment, Document}
use Rattle.gq_parser.specs.Grammar.{AreDefinitions, IsDocument, no_more_definitions, next_operation, next_fragment}
use Rattle.gq_parser.specs.Fault.{Bracket, Opening, Closing, Neither, bracket, IsShallow, IsUnexpected, IsUnexpectedAt, IsTooDeepAt, IsDocumentOf, IsParseFault, most_brackets, most_bytes}
use Rattle.gq_parser.specs.Machine.{Symbol, MaybeBang, MaybeArguments, MaybeDirectives, AfterName, MaybeSet, MaybeDefault, MaybeVariables, MaybeName, ADefinition, one, shift, Step, Goes, Stops, Sinks, entered, step, Outcome, Done, Stopped, Sunk, at_end, read}
use Rattle.gq_parser.proofs.Means.{Derives, Means, Shifted, shifts, ends, then', d_no_bang, d_no_arguments, d_no_directives, d_no_alias, d_no_set, d_no_default, d_no_variables, d_no_name, d_operation, d_fragment}
use Rattle.gq_parser.proofs.Back.{shifts_back, at_end_done, meets}
use Rattle.gq_parser.proofs.Stops.{Ends, read_ends}
use Rattle.gq_parser.proofs.Whole.{stopped, sunk}

-- ---- documents and what may come

some-means : (tokens : List Token) → Means (one ADefinition) tokens → tokens ≢ []
some-means [] h = absurd (let e = at_end_done h in cc e)
some-means (t ∷ tokens) h = λ none. cc none

means-document : (tokens : List Token) → Means (one ADefinition) tokens → (d : Document) × IsDocument d tokens
means-document tokens (then' (d_operation {o = o} is) (ends {os = os} {fs = fs} others)) =
    (record { operations = o ∷ os; fragments = fs }, record { some = some-means tokens (then' (d_operation is) (ends others)); are = next_operation is others })
means-document tokens (then' (d_fragment {f = f} is) (ends {os = os} {fs = fs} others)) =
    (record { operations = os; fragments = f ∷ fs }, record { some = some-means tokens (then' (d_fragment is) (ends others)); are = next_fragment is others })

definitions-mean : {os : List Operation} {fs : List Fragment} {tokens : List Token} → tokens ≢ [] → AreDefinitions os fs tokens → Means (one ADefinition) tokens
definitions-mean some no_more_definitions = absurd (some refl)
definitions-mean some (next_operation o others) = then' (d_operation o) (ends others)
definitions-mean some (next_fragment f others) = then' (d_fragment f) (ends others)

pub document-means : (d : Document) (tokens : List Token) → IsDocument d tokens → Means (one ADefinition) tokens
document-means d tokens h = definitions-mean h.some h.are

-- ---- one token

abbrev goes_on : Step → Place → List Token → Outcome
goes_on s p tokens = elim s as (λ x. Outcome) [ Goes r next ↦ read r next tokens | Stops ↦ Stopped (Some p) | Sinks ↦ Sunk p ]

-- says what a step says of what is expected and of the room
abbrev Comes : ℕ → List Symbol → Place → Word → Step → Type 0
Comes room stack p w (Goes r next) = (shift stack w ≡ Some next) × ((good : List Token) → IsShallow r good → IsShallow room (at p w ∷ good)) × ((good : List Token) → IsShallow room (at p w ∷ good) → IsShallow r good)
Comes room stack p w Stops = shift stack w ≡ None
Comes room stack p w Sinks = (next : List Symbol) × (shift stack w ≡ Some next) × ((good : List Token) → IsShallow room (at p w ∷ good) → ⊥)

bracket-comes : (room : ℕ) (stack next : List Symbol) (p : Place) (w : Word) (b : Bracket) → bracket w ≡ b → shift stack w ≡ Some next → Comes room stack p w (entered b room next)
bracket-comes zero stack next p w Opening is e = (next, e, rw is (λ good h. h))
bracket-comes (suc room) stack next p w Opening is e = (e, rw is (λ good h. h), rw is (λ good h. h))
bracket-comes room stack next p w Closing is e = (e, rw is (λ good h. h), rw is (λ good h. h))
bracket-comes room stack next p w Neither is e = (e, rw is (λ good h. h), rw is (λ good h. h))

option-comes : (room : ℕ) (stack : List Symbol) (p : Place) (w : Word) (o : Option (List Symbol)) → shift stack w ≡ o → Comes room stack p w (elim o as (λ x. Step) [ None ↦ Stops | Some next ↦ entered (bracket w) room next ])
option-comes room stack p w None e = e
option-comes room stack p w (Some next) e = bracket-comes room stack next p w (bracket w) refl e

comes : (room : ℕ) (stack : List Symbol) (p : Place) (w : Word) → Comes room stack p w (step room stack w)
comes room stack p w = option-comes room stack p w (shift stack w) refl

module _ {stack next : List Symbol} {p : Place} {w : Word} (e : shift stack w ≡ Some next) where
  forth : (tokens : List Token) → Means stack (at p w ∷ tokens) → Means next tokens
  forth tokens h = subst (λ o. Shifted o tokens) e (shifts h)

  back : (tokens : List Token) → Means next tokens → Means stack (at p w ∷ tokens)
  back tokens h = shifts_back stack p w tokens (subst (λ o. Shifted o tokens) (sym e) h)

none-comes : {stack : List Symbol} {p : Place} {w : Word} (tokens : List Token) → shift stack w ≡ None → Means stack (at p w ∷ tokens) → ⊥
none-comes tokens e h = subst (λ o. Shifted o tokens) e (shifts h)

-- ---- the end

abbrev Ended : List Symbol → Type 0
Ended stack = Means stack [] ⊎ (at_end stack ≡ Stopped None)

left-out : {s : Symbol} {stack : List Symbol} → at_end (s ∷ stack) ≡ at_end stack → Derives s [] [] → Ended stack → Ended (s ∷ stack)
left-out e d (inl h) = inl (then' d h)
left-out e d (inr k) = inr (e ∙ k)

ended : (stack : List Symbol) → Ended stack
ended [] = inl (ends no_more_definitions)
ended (MaybeBang ∷ stack) = left-out refl (d_no_bang tt) (ended stack)
ended (MaybeArguments c ∷ stack) = left-out refl (d_no_arguments tt) (ended stack)
ended (MaybeDirectives c ∷ stack) = left-out refl (d_no_directives tt) (ended stack)
ended (AfterName ∷ stack) = left-out refl (d_no_alias tt) (ended stack)
ended (MaybeSet ∷ stack) = left-out refl (d_no_set tt) (ended stack)
ended (MaybeDefault ∷ stack) = left-out refl (d_no_default tt) (ended stack)
ended (MaybeVariables ∷ stack) = left-out refl (d_no_variables tt) (ended stack)
ended (MaybeName ∷ stack) = left-out refl (d_no_name tt) (ended stack)
ended (_ ∷ stack) = inr refl

-- ---- where a reading ends

-- good tokens that may come, and that leave room for brackets, are read to what is expected behind them
record Passed (room : ℕ) (stack : List Symbol) (good : List Token) : Type 0 where
  left : ℕ
  next : List Symbol
  reads : (bad : List Token) → read room stack (good ++ bad) ≡ read left next bad
  forth : (bad : List Token) → Means stack (good ++ bad) → Means next bad
  back : (bad : List Token) → Means next bad → Means stack (good ++ bad)
  shallow : (bad : List Token) → IsShallow left bad → IsShallow room (good ++ bad)

passed-step : (s : Step) (room : ℕ) (stack : List Symbol) (p : Place) (w : Word) (good more : List Token) → step room stack w ≡ s → Comes room stack p w s → Means stack (at p w ∷ (good ++ more)) → IsShallow room (at p w ∷ good)
    → ((r : ℕ) (next : List Symbol) → Means next (good ++ more) → IsShallow r good → Passed r next good) → Passed room stack (at p w ∷ good)
passed-step (Goes r next) room stack p w good more e c h shallow all =
    let q = all r next (forth c.0 (good ++ more) h) (c.2 good shallow) in
    record {
      left = q.left;
      next = q.next;
      reads = λ bad. ap (λ x. goes_on x p (good ++ bad)) e ∙ q.reads bad;
      forth = λ bad m. q.forth bad (forth c.0 (good ++ bad) m);
      back = λ bad m. back c.0 (good ++ bad) (q.back bad m);
      shallow = λ bad m. c.1 (good ++ bad) (q.shallow bad m);
    }
passed-step Stops room stack p w good more e c h shallow all = absurd (none-comes (good ++ more) c h)
passed-step Sinks room stack p w good more e c h shallow all = absurd (c.2 good shallow)

passed : (room : ℕ) (stack : List Symbol) (good more : List Token) → Means stack (good ++ more) → IsShallow room good → Passed room stack good
passed room stack [] more h shallow = record { left = room; next = stack; reads = λ bad. refl; forth = λ bad m. m; back = λ bad m. m; shallow = λ bad m. m }
passed room stack (at p w ∷ good) more h shallow = passed-step (step room stack w) room stack p w good more refl (comes room stack p w) h shallow (λ r next. passed r next good more)

-- none of these may come
abbrev NoneComes : List Symbol → List Token → Type 0
NoneComes stack [] = Means stack [] → ⊥
NoneComes stack (t ∷ bad) = (more : List Token) → AreSpelled more → Means stack (t ∷ more) → ⊥

stops-step : (s : Step) (room : ℕ) (stack : List Symbol) (p : Place) (w : Word) (bad : List Token) → Comes room stack p w s → NoneComes stack (at p w ∷ bad) → goes_on s p bad ≡ Stopped (Some p)
stops-step (Goes r next) room stack p w bad c none = absurd (none (meets next).tokens (meets next).spelled (back c.0 (meets next).tokens (meets next).means))
stops-step Stops room stack p w bad c none = refl
stops-step Sinks room stack p w bad c none = absurd (none (meets c.0).tokens (meets c.0).spelled (back c.1 (meets c.0).tokens (meets c.0).means))

stops-here : (room : ℕ) (stack : List Symbol) (bad : List Token) → NoneComes stack bad → read room stack bad ≡ Stopped (place_of_next bad)
stops-here room stack [] none = elim (ended stack) [ inl h ↦ absurd (none h) | inr e ↦ e ]
stops-here room stack (at p w ∷ bad) none = stops-step (step room stack w) room stack p w bad (comes room stack p w) none

sinks-step : (s : Step) (room : ℕ) (stack : List Symbol) (p : Place) (w : Word) (bad more : List Token) → Comes room stack p w s → Means stack (at p w ∷ more) → (IsShallow room (at p w ∷ []) → ⊥) → goes_on s p bad ≡ Sunk p
sinks-step (Goes r next) room stack p w bad more c h deep = absurd (deep (c.1 [] tt))
sinks-step Stops room stack p w bad more c h deep = absurd (none-comes more c h)
sinks-step Sinks room stack p w bad more c h deep = refl

none-comes-there : (good bad : List Token) (next : List Symbol) → ((tokens : List Token) → Means next tokens → Means (one ADefinition) (good ++ tokens)) → IsUnexpected good bad → NoneComes next bad
none-comes-there good [] next back u = λ h. let d = means-document good (rw append-nil at (back [] h)) in u d.0 d.1
none-comes-there good (t ∷ bad) next back u = λ more spelled h.
    let d = means-document (good ++ t ∷ more) (back (t ∷ more) h) in
    u (record { document = d.0; more = more; spelled = spelled; is = rw append_assoc d.1 })

pub unexpected-read : (tokens : List Token) (place : Option Place) → IsUnexpectedAt tokens place → read most_brackets (one ADefinition) tokens ≡ Stopped place
unexpected-read tokens place u =
    let q = passed most_brackets (one ADefinition) u.good u.viable.more (document-means u.viable.document (u.good ++ u.viable.more) u.viable.is) u.shallow in
    ap (read most_brackets (one ADefinition)) u.whole ∙ q.reads u.bad ∙ stops-here q.left q.next u.bad (none-comes-there u.good u.bad q.next q.back u.unexpected) ∙ ap Stopped u.placed

pub deep-read : (tokens : List Token) (p : Place) → IsTooDeepAt tokens p → read most_brackets (one ADefinition) tokens ≡ Sunk p
deep-read tokens p u =
    let here = at p u.opens in
    let m = rw append_assoc at (document-means u.viable.document ((u.good ++ here ∷ []) ++ u.viable.more) u.viable.is) in
    let q = passed most_brackets (one ADefinition) u.good (here ∷ u.viable.more) m u.shallow in
    ap (read most_brackets (one ADefinition)) u.whole ∙ q.reads (here ∷ u.bad)
    ∙ sinks-step (step q.left q.next u.opens) q.left q.next p u.opens u.bad u.viable.more (comes q.left q.next p u.opens) (q.forth (here ∷ u.viable.more) m) (λ s. u.deep (q.shallow (here ∷ []) s))

-- what is read to its end comes whole
done-step : (s : Step) (room : ℕ) (stack : List Symbol) (p : Place) (w : Word) (tokens : List Token) → Comes room stack p w s
    → ((r : ℕ) (next : List Symbol) → read r next tokens ≡ Done → Means next tokens) → goes_on s p tokens ≡ Done → Means stack (at p w ∷ tokens)
done-step (Goes r next) room stack p w tokens c all e = back c.0 tokens (all r next e)
done-step Stops room stack p w tokens c all e = absurd (cc e)
done-step Sinks room stack p w tokens c all e = absurd (cc e)

read-means : (room : ℕ) (stack : List Symbol) (tokens : List Token) → read room stack tokens ≡ Done → Means stack tokens
read-means room stack [] e = elim (ended stack) [ inl h ↦ h | inr k ↦ absurd (cc (e, k)) ]
read-means room stack (at p w ∷ tokens) e = done-step (step room stack w) room stack p w tokens (comes room stack p w) (λ r next. read-means r next tokens) e

-- ---- texts

abbrev pub IsRead : List ℕ → Type 0
IsRead text = ((d : Document) × IsDocumentOf text d) ⊎ ((f : ParseFault) × (f ≢ parse.NoMemory) × IsParseFault text f)

module _ (text : List ℕ) where
  tokens-read : (tokens : List lexer.Token) → length text ≤ most_bytes → AreTokens text tokens → (o : Outcome) → read most_brackets (one ADefinition) (tokens_of text tokens) ≡ o
      → Ends most_brackets (one ADefinition) (tokens_of text tokens) o → IsRead text
  tokens-read tokens short reads Done e shallow =
      let d = means-document (tokens_of text tokens) (read-means most_brackets (one ADefinition) (tokens_of text tokens) e) in
      inl (d.0, record { tokens = tokens; short = short; reads = reads; is = d.1; shallow = shallow })
  tokens-read tokens short reads (Stopped None) e s =
      inr (parse.UnexpectedEnd (place_of text (length text)), (λ k. cc k), (record { tokens = tokens; short = short; reads = reads; holds = stopped (tokens_of text tokens) None s }, refl))
  tokens-read tokens short reads (Stopped (Some p)) e s = inr (parse.Unexpected p, (λ k. cc k), record { tokens = tokens; short = short; reads = reads; holds = stopped (tokens_of text tokens) (Some p) s })
  tokens-read tokens short reads (Sunk p) e s = inr (parse.TooDeep p, (λ k. cc k), record { tokens = tokens; short = short; reads = reads; holds = sunk (tokens_of text tokens) p s })

  stop-read : (s : ScanFault) (place : Place) → length text ≤ most_bytes → StopsAt text s place → IsRead text
  stop-read stop.BadCharacter place short is = inr (parse.Lex (lex.BadCharacter place), (λ e. cc e), (is, short))
  stop-read stop.UnterminatedString place short is = inr (parse.Lex (lex.UnterminatedString place), (λ e. cc e), (is, short))
  stop-read stop.BadEscape place short is = inr (parse.Lex (lex.BadEscape place), (λ e. cc e), (is, short))
  stop-read stop.BadNumber place short is = inr (parse.Lex (lex.BadNumber place), (λ e. cc e), (is, short))

  short-read : length text ≤ most_bytes → IsRead text
  short-read short = elim (each_is_read text) [
    | inl found ↦ tokens-read found.0 short found.1 (read most_brackets (one ADefinition) (tokens_of text found.0)) refl (read_ends most_brackets (one ADefinition) (tokens_of text found.0))
    | inr stops ↦ stop-read stops.0 stops.1 short stops.2
  ]

  pub text-read : IsRead text
  text-read = elim (cases_Bool (ltb most_bytes (length text))) [
    | inl long ↦ inr (parse.Lex lex.TooLong, (λ e. cc e), ltb-true most_bytes (length text) long)
    | inr short ↦ short-read (ltb-false most_bytes (length text) short)
  ]
