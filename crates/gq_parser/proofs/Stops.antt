-- Lemmas on where the machine stops there is the first fault.
use Rattle.std.proofs.Common.{◌≡◌, ℕ, zero, suc, List, [], ◌∷◌, ◌++◌, Option, Some, None, refl, sym, ap, subst, ◌∙◌, ◌⊎◌, inl, inr}
use Rattle.text_place.specs.declared.place.Place.{Place}
use Rattle.gq_parser.specs.Word.{Word, Token, at, AreSpelled, place_of_next}
use Rattle.gq_parser.specs.Fault.{Bracket, Opening, Closing, Neither, bracket, IsShallow}
use Rattle.gq_parser.specs.Machine.{Symbol, MaybeBang, MaybeArguments, MaybeDirectives, AfterName, MaybeSet, MaybeDefault, MaybeVariables, MaybeName, shift, Step, Goes, Stops, Sinks, entered, step, Outcome, Done, Stopped, Sunk, at_end, read}
use Rattle.gq_parser.proofs.Means.{Means, Shifted, shifts}
use Rattle.gq_parser.proofs.Back.{shifts_back, at_end_done, meets}

-- the good tokens come, and with what stands after them nothing does
abbrev pub Unexpected : List Symbol → List Token → List Token → Type 0
Unexpected stack good [] = Means stack good → ⊥
Unexpected stack good (t ∷ bad) = (more : List Token) → Means stack (good ++ t ∷ more) → ⊥

pub record StopsAt (room : ℕ) (stack : List Symbol) (tokens : List Token) (place : Option Place) : Type 0 where
  pub good : List Token
  pub bad : List Token
  pub whole : tokens ≡ good ++ bad
  pub placed : place_of_next bad ≡ place
  pub more : List Token
  pub spelled : AreSpelled more
  pub viable : Means stack (good ++ more)
  pub shallow : IsShallow room good
  pub unexpected : Unexpected stack good bad

pub record SinksAt (room : ℕ) (stack : List Symbol) (tokens : List Token) (place : Place) : Type 0 where
  pub good : List Token
  pub opens : Word
  pub bad : List Token
  pub whole : tokens ≡ good ++ at place opens ∷ bad
  pub more : List Token
  pub spelled : AreSpelled more
  pub viable : Means stack (good ++ at place opens ∷ more)
  pub shallow : IsShallow room good
  pub deep : IsShallow room (good ++ at place opens ∷ []) → ⊥

abbrev pub Ends : ℕ → List Symbol → List Token → Outcome → Type 0
Ends room stack tokens Done = IsShallow room tokens
Ends room stack tokens (Stopped place) = StopsAt room stack tokens place
Ends room stack tokens (Sunk place) = SinksAt room stack tokens place

-- ---- one token

abbrev Comes : ℕ → List Symbol → Place → Word → Step → Type 0
Comes room stack p w (Goes r next) = (shift stack w ≡ Some next) × ((good : List Token) → IsShallow r good → IsShallow room (at p w ∷ good)) × ((good : List Token) → IsShallow room (at p w ∷ good) → IsShallow r good)
Comes room stack p w Stops = shift stack w ≡ None
Comes room stack p w Sinks = (next : List Symbol) × (shift stack w ≡ Some next) × ((good : List Token) → IsShallow room (at p w ∷ good) → ⊥)

bracket_comes : (room : ℕ) (stack next : List Symbol) (p : Place) (w : Word) (b : Bracket) → bracket w ≡ b → shift stack w ≡ Some next → Comes room stack p w (entered b room next)
bracket_comes zero stack next p w Opening is e = (next, e, rw is (λ good h. h))
bracket_comes (suc room) stack next p w Opening is e = (e, rw is (λ good h. h), rw is (λ good h. h))
bracket_comes room stack next p w Closing is e = (e, rw is (λ good h. h), rw is (λ good h. h))
bracket_comes room stack next p w Neither is e = (e, rw is (λ good h. h), rw is (λ good h. h))

shift_comes : (room : ℕ) (stack : List Symbol) (p : Place) (w : Word) (o : Option (List Symbol)) → shift stack w ≡ o → Comes room stack p w (elim o as (λ x. Step) [ None ↦ Stops | Some next ↦ entered (bracket w) room next ])
shift_comes room stack p w None e = e
shift_comes room stack p w (Some next) e = bracket_comes room stack next p w (bracket w) refl e

comes : (room : ℕ) (stack : List Symbol) (p : Place) (w : Word) → Comes room stack p w (step room stack w)
comes room stack p w = shift_comes room stack p w (shift stack w) refl

-- ---- all tokens

came : {stack next : List Symbol} {p : Place} {w : Word} (tokens : List Token) → shift stack w ≡ Some next → Means stack (at p w ∷ tokens) → Means next tokens
came tokens e h = subst (λ o. Shifted o tokens) e (shifts h)

comes_from : (stack next : List Symbol) (p : Place) (w : Word) (tokens : List Token) → shift stack w ≡ Some next → Means next tokens → Means stack (at p w ∷ tokens)
comes_from stack next p w tokens e h = shifts_back stack p w tokens (subst (λ o. Shifted o tokens) (sym e) h)

unexpected_later : (stack next : List Symbol) (p : Place) (w : Word) (good bad : List Token) → shift stack w ≡ Some next → Unexpected next good bad → Unexpected stack (at p w ∷ good) bad
unexpected_later stack next p w good [] e u = λ h. u (came good e h)
unexpected_later stack next p w good (b ∷ bad) e u = λ more h. u more (came (good ++ b ∷ more) e h)

later : (o : Outcome) (room r : ℕ) (stack next : List Symbol) (p : Place) (w : Word) (tokens : List Token) → Comes room stack p w (Goes r next) → Ends r next tokens o → Ends room stack (at p w ∷ tokens) o
later Done room r stack next p w tokens c s = c.1 tokens s
later (Stopped place) room r stack next p w tokens c s = record {
  good = at p w ∷ s.good;
  bad = s.bad;
  whole = ap (λ x. at p w ∷ x) s.whole;
  placed = s.placed;
  more = s.more;
  spelled = s.spelled;
  viable = comes_from stack next p w (s.good ++ s.more) c.0 s.viable;
  shallow = c.1 s.good s.shallow;
  unexpected = unexpected_later stack next p w s.good s.bad c.0 s.unexpected;
}
later (Sunk place) room r stack next p w tokens c s = record {
  good = at p w ∷ s.good;
  opens = s.opens;
  bad = s.bad;
  whole = ap (λ x. at p w ∷ x) s.whole;
  more = s.more;
  spelled = s.spelled;
  viable = comes_from stack next p w (s.good ++ at place s.opens ∷ s.more) c.0 s.viable;
  shallow = c.1 s.good s.shallow;
  deep = λ h. s.deep (c.2 (s.good ++ at place s.opens ∷ []) h);
}

ends_step : (s : Step) (room : ℕ) (stack : List Symbol) (p : Place) (w : Word) (tokens : List Token) → Comes room stack p w s → ((r : ℕ) (next : List Symbol) → Ends r next tokens (read r next tokens))
    → Ends room stack (at p w ∷ tokens) (elim s as (λ x. Outcome) [ Goes r next ↦ read r next tokens | Stops ↦ Stopped (Some p) | Sinks ↦ Sunk p ])
ends_step (Goes r next) room stack p w tokens c all = later (read r next tokens) room r stack next p w tokens c (all r next)
ends_step Stops room stack p w tokens c all = record {
  good = [];
  bad = at p w ∷ tokens;
  whole = refl;
  placed = refl;
  more = (meets stack).tokens;
  spelled = (meets stack).spelled;
  viable = (meets stack).means;
  shallow = tt;
  unexpected = λ more h. subst (λ o. Shifted o more) c (shifts h);
}
ends_step Sinks room stack p w tokens c all = record {
  good = [];
  opens = w;
  bad = tokens;
  whole = refl;
  more = (meets c.0).tokens;
  spelled = (meets c.0).spelled;
  viable = comes_from stack c.0 p w (meets c.0).tokens c.1 (meets c.0).means;
  shallow = tt;
  deep = λ h. c.2 [] h;
}

at_end_is : (stack : List Symbol) → (at_end stack ≡ Done) ⊎ (at_end stack ≡ Stopped None)
at_end_is [] = inl refl
at_end_is (MaybeBang ∷ stack) = at_end_is stack
at_end_is (MaybeArguments c ∷ stack) = at_end_is stack
at_end_is (MaybeDirectives c ∷ stack) = at_end_is stack
at_end_is (AfterName ∷ stack) = at_end_is stack
at_end_is (MaybeSet ∷ stack) = at_end_is stack
at_end_is (MaybeDefault ∷ stack) = at_end_is stack
at_end_is (MaybeVariables ∷ stack) = at_end_is stack
at_end_is (MaybeName ∷ stack) = at_end_is stack
at_end_is (_ ∷ stack) = inr refl

not_done : Done ≡ Stopped None → ⊥
not_done e = cc

at_end_ends : (room : ℕ) (stack : List Symbol) → Ends room stack [] (at_end stack)
at_end_ends room stack = elim (at_end_is stack) [
  | inl e ↦ subst (Ends room stack []) (sym e) tt
  | inr e ↦ subst (Ends room stack []) (sym e) (record {
    good = [];
    bad = [];
    whole = refl;
    placed = refl;
    more = (meets stack).tokens;
    spelled = (meets stack).spelled;
    viable = (meets stack).means;
    shallow = tt;
    unexpected = λ h. not_done (sym (at_end_done h) ∙ e);
  })
]

done_step : (s : Step) (room : ℕ) (stack : List Symbol) (p : Place) (w : Word) (tokens : List Token) → Comes room stack p w s → Means stack (at p w ∷ tokens) → IsShallow room (at p w ∷ tokens)
    → ((r : ℕ) (next : List Symbol) → Means next tokens → IsShallow r tokens → read r next tokens ≡ Done)
    → elim s as (λ x. Outcome) [ Goes r next ↦ read r next tokens | Stops ↦ Stopped (Some p) | Sinks ↦ Sunk p ] ≡ Done
done_step (Goes r next) room stack p w tokens c h shallow all = all r next (came tokens c.0 h) (c.2 tokens shallow)
done_step Stops room stack p w tokens c h shallow all = absurd (subst (λ o. Shifted o tokens) c (shifts h))
done_step Sinks room stack p w tokens c h shallow all = absurd (c.2 tokens shallow)

pub read_ends : (room : ℕ) (stack : List Symbol) (tokens : List Token) → Ends room stack tokens (read room stack tokens)
read_ends room stack [] = at_end_ends room stack
read_ends room stack (at p w ∷ tokens) = ends_step (step room stack w) room stack p w tokens (comes room stack p w) (λ r next. read_ends r next tokens)

-- tokens that come whole are read to their end, where they are shallow
pub read_done : (room : ℕ) (stack : List Symbol) (tokens : List Token) → Means stack tokens → IsShallow room tokens → read room stack tokens ≡ Done
read_done room stack [] h shallow = at_end_done h
read_done room stack (at p w ∷ tokens) h shallow = done_step (step room stack w) room stack p w tokens (comes room stack p w) h shallow (λ r next. read_done r next tokens)
