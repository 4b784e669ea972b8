-- A list that is read up to the bracket that closes it.
use Rattle.std.proofs.Common.{◌≡◌, ℕ, ◌<◌, List, ◌++◌, length, false, Result, Ok, Err, sym, ap, subst, ◌∙◌, arith}
use Rattle.gq_parser.specs.Word.{Word, Token}
use Rattle.gq_parser.specs.declared.fault.Fault as rust
use Rattle.gq_parser.specs.Machine.{Symbol, Outcome, read}
use Rattle.gq_parser.specs.Parsing.{Fails, Reads, Eats, IsNotNext, IsFront}

-- a fault is the same fault earlier, where the reading is the same
pub fails_earlier : (e : rust.Fault) (o o' : Outcome) → o ≡ o' → Fails e o' → Fails e o
fails_earlier e o o' same h = subst (λ x. Fails e x) (sym same) h

module _ {T W : Type 0} (AreRest : T → List Token → List Token → Type 0) (AreWhole : W → List Token → List Token → Type 0)
    (room : ℕ) (symbols : List Symbol) (room_now : ℕ) (more : List Symbol) (before now : List Token) (join : T → W) where
  -- one more item
  pub front_more : (mid after : List Token) (closer : Word) (join' : T → W) (cons : T → T)
      → IsFront AreRest AreWhole join room symbols room_now more before now
      → Eats closer now mid false
      → ((others : T) (end : List Token) → AreRest others after end → AreRest (cons others) mid end)
      → (IsNotNext closer mid → (stack : List Symbol) → read room_now (more ++ stack) mid ≡ read room_now (more ++ stack) after)
      → length after < length mid
      → ((others : T) → join' others ≡ join (cons others))
      → IsFront AreRest AreWhole join' room symbols room_now more before after
  front_more mid after closer join' cons front eaten holds goes shorter joined = record {
    joins = λ others end rest. subst (λ w. AreWhole w before end) (sym (joined others)) (front.joins (cons others) end (subst (λ b. AreRest (cons others) b end) eaten.0 (holds others end rest)));
    reads = λ stack. front.reads stack ∙ ap (read room_now (more ++ stack)) (sym eaten.0) ∙ goes (subst (IsNotNext closer) (sym eaten.0) eaten.1) stack;
    shrinks = omega (arith, front.shrinks, ap length eaten.0);
  }

  -- an item that is none
  pub front_fails : (mid : List Token) (closer : Word) (e : rust.Fault)
      → IsFront AreRest AreWhole join room symbols room_now more before now
      → Eats closer now mid false
      → (IsNotNext closer mid → (stack : List Symbol) → Fails e (read room_now (more ++ stack) mid))
      → (stack : List Symbol) → Fails e (read room (symbols ++ stack) before)
  front_fails mid closer e front eaten fails stack =
      fails_earlier e _ _ (front.reads stack ∙ ap (read room_now (more ++ stack)) (sym eaten.0)) (fails (subst (IsNotNext closer) (sym eaten.0) eaten.1) stack)

-- a tree that a call read is read from before the call, too
pub earlier : {T : Type 0} (IsTree IsTree' : T → List Token → List Token → Type 0) (room room' after_room after_room' : ℕ) (symbols symbols' after_symbols after_symbols' : List Symbol) (before mid after : List Token) (r : Result T rust.Fault)
    → ((t : T) → IsTree' t mid after → IsTree t before after)
    → ((stack : List Symbol) → read room (symbols ++ stack) before ≡ read room' (symbols' ++ stack) mid)
    → ((stack : List Symbol) → read after_room' (after_symbols' ++ stack) after ≡ read after_room (after_symbols ++ stack) after)
    → Reads IsTree' room' symbols' after_room' after_symbols' mid after r → Reads IsTree room symbols after_room after_symbols before after r
earlier IsTree IsTree' room room' ra ra' ss ss' sa sa' before mid after (Ok t) holds goes back h = (holds t h.0, λ stack. goes stack ∙ h.1 stack ∙ back stack)
earlier IsTree IsTree' room room' ra ra' ss ss' sa sa' before mid after (Err f) holds goes back h = λ stack. fails_earlier f _ _ (goes stack) (h stack)
