-- A list that is read up to the bracket that closes it.
use Rattle.std.proofs.Common.{◌≡◌, ℕ, ◌<◌, List, ◌++◌, length, false, sym, ap, subst, ◌∙◌, arith}
use Rattle.gq_parser.specs.Word.{Word, Token}
use Rattle.schema_syntax.specs.declared.fault.TokenFault as rust
use Rattle.schema_syntax.specs.Machine.{Symbol, read}
use Rattle.schema_syntax.specs.Parsing.{Fails, Eats, IsNotNext, IsFront}
use Rattle.schema_syntax.proofs.Steps.{fails_earlier}

module _ {T W : Type 0} (AreRest : T → List Token → List Token → Type 0) (AreWhole : W → List Token → List Token → Type 0)
    (room : ℕ) (symbols : List Symbol) (room_now : ℕ) (more : List Symbol) (before now : List Token) (join : T → W) where
  -- one more item
  pub front_more : (mid after : List Token) (closer : Word) (join' : T → W) (cons : T → T)
      → IsFront AreRest AreWhole join room symbols room_now more before now
      → Eats closer now mid false
      → ((others : T) (end : List Token) → AreRest others after end → AreRest (cons others) mid end)
      → (IsNotNext closer mid → (stack : List Symbol) → read room_now (more ++ stack) mid ≡ read room_now (more ++ stack) after)
      → length after < length mid
      → ((others : T) → join' others ≡ join (cons others))
      → IsFront AreRest AreWhole join' room symbols room_now more before after
  front_more mid after closer join' cons front eaten holds goes shorter joined = record {
    joins = λ others end rest. subst (λ w. AreWhole w before end) (sym (joined others)) (front.joins (cons others) end (subst (λ b. AreRest (cons others) b end) eaten.0 (holds others end rest)));
    reads = λ stack. front.reads stack ∙ ap (read room_now (more ++ stack)) (sym eaten.0) ∙ goes (subst (IsNotNext closer) (sym eaten.0) eaten.1) stack;
    shrinks = omega (arith, front.shrinks, ap length eaten.0);
  }

  -- an item that is none
  pub front_fails : (mid : List Token) (closer : Word) (e : rust.TokenFault)
      → IsFront AreRest AreWhole join room symbols room_now more before now
      → Eats closer now mid false
      → (IsNotNext closer mid → (stack : List Symbol) → Fails e (read room_now (more ++ stack) mid))
      → (stack : List Symbol) → Fails e (read room (symbols ++ stack) before)
  front_fails mid closer e front eaten fails stack =
      fails_earlier e _ _ (front.reads stack ∙ ap (read room_now (more ++ stack)) (sym eaten.0)) (fails (subst (IsNotNext closer) (sym eaten.0) eaten.1) stack)
