-- Keys that a memory lacks, one after another.
use Rattle.std.proofs.Common.{◌≡◌, ℕ, suc, Bool, true, false, List, [], ◌∷◌, ◌++◌, map, length, Option, Some, None, is_some, is_none, IsSome, Bor, refl, ap, ◌∙◌, sym}
use Rattle.std.proofs.lemmas.List.{map-append, append-nil}
use Rattle.std.specs.Prelude.{if◌then◌else◌, option_map, option_copied, not}
use Rattle.load_memory.specs.Keys.{KeyOf}
use Rattle.load_memory.specs.Outcomes.{OutcomeOf, outcome_of}
use Rattle.load_memory.specs.declared.outcome.Outcome.{Outcome}
use Rattle.load_queue.specs.Wanted.{WantedOf, with_wanted}
use Rattle.execution.specs.Loads.{Load, Reader}
use Rattle.execution.specs.Front.{missing, wanting}
use Rattle.load_rounds.specs.Calls.{load_of}

pub missing-append : (R : Reader) (xs ys : List Load) → missing R (xs ++ ys) ≡ missing R xs ++ missing R ys
missing-append R [] ys = refl
missing-append R (x ∷ xs) ys = go (is_none (R x)) (missing-append R xs ys) where
  go : (b : Bool) → missing R (xs ++ ys) ≡ missing R xs ++ missing R ys → (if b then x ∷ missing R (xs ++ ys) else missing R (xs ++ ys)) ≡ (if b then x ∷ missing R xs else missing R xs) ++ missing R ys
  go true e = ap (λ ls. x ∷ ls) e
  go false e = e

pub wanting-append : (w : List WantedOf) (xs ys : List Load) → wanting w (xs ++ ys) ≡ wanting (wanting w xs) ys
wanting-append w [] ys = refl
wanting-append w (x ∷ xs) ys = wanting-append (with_wanted w x.loader x.key) xs ys

length-with : (w : List WantedOf) (loader : ℕ) (key : KeyOf) → length (with_wanted w loader key) ≡ length w
length-with (w ∷ ws) (suc loader) key = ap suc (length-with ws loader key)
length-with w loader key = refl

pub length-wanting : (w : List WantedOf) (ls : List Load) → length (wanting w ls) ≡ length w
length-wanting w [] = refl
length-wanting w (l ∷ ls) = length-wanting (with_wanted w l.loader l.key) ls ∙ length-with w l.loader l.key

-- some load is there
abbrev pub lacks : List Load → Bool
lacks [] = false
lacks (l ∷ ls) = true

lacks-last : (ls : List Load) (l : Load) → lacks (ls ++ l ∷ []) ≡ true
lacks-last [] l = refl
lacks-last (x ∷ xs) l = refl

-- these are the wants of the keys so far, and whether some key is missing
abbrev pub LacksSoFar : Reader → ℕ → List WantedOf → List KeyOf → List WantedOf → Bool → Type 0
LacksSoFar R loader none keys wants some = (wants ≡ wanting none (missing R (map (load_of loader) keys))) × (some ≡ lacks (missing R (map (load_of loader) keys)))

module _ (R : Reader) (loader : ℕ) (none : List WantedOf) (keys : List KeyOf) (k : KeyOf) where
  one-more : missing R (map (load_of loader) (keys ++ k ∷ [])) ≡ missing R (map (load_of loader) keys) ++ missing R (load_of loader k ∷ [])
  one-more = ap (missing R) (map-append (load_of loader) keys (k ∷ [])) ∙ missing-append R (map (load_of loader) keys) (load_of loader k ∷ [])

  -- a key more that isn't known
  pub lacks-more : (w w' : List WantedOf) (b : Bool) → LacksSoFar R loader none keys w b → is_none (R (load_of loader k)) ≡ true → w' ≡ with_wanted w loader k → LacksSoFar R loader none (keys ++ k ∷ []) w' true
  lacks-more w w' b so none-yet put =
      let last : missing R (load_of loader k ∷ []) ≡ load_of loader k ∷ [] = rw none-yet refl in
      let more = one-more ∙ ap (λ ls. missing R (map (load_of loader) keys) ++ ls) last in
      (put ∙ ap (λ v. with_wanted v loader k) so.0 ∙ sym (wanting-append none (missing R (map (load_of loader) keys)) (load_of loader k ∷ [])) ∙ sym (ap (wanting none) more), sym (ap lacks more ∙ lacks-last (missing R (map (load_of loader) keys)) (load_of loader k)))

  -- a key more that is known
  pub knows-more : (w : List WantedOf) (b : Bool) → LacksSoFar R loader none keys w b → is_none (R (load_of loader k)) ≡ false → LacksSoFar R loader none (keys ++ k ∷ []) w b
  knows-more w b so known =
      let last : missing R (load_of loader k ∷ []) ≡ [] = rw known refl in
      let more = one-more ∙ ap (λ ls. missing R (map (load_of loader) keys) ++ ls) last ∙ append-nil (missing R (map (load_of loader) keys)) in
      (so.0 ∙ sym (ap (wanting none) more), so.1 ∙ sym (ap lacks more))

-- a look-up finds nothing exactly if nothing is known
pub unknown : (o : Option (Bor Outcome)) (x : Option OutcomeOf) → option_map outcome_of (option_copied o) ≡ x → is_none x ≡ not (is_some o)
unknown None x e = ap is_none (sym e)
unknown (Some v) x e = ap is_none (sym e)

pub not-unknown : (o : Option (Bor Outcome)) (x : Option OutcomeOf) → option_map outcome_of (option_copied o) ≡ x → ((v : Bor Outcome) → o ≡ Some v → ⊥) → IsSome x → ⊥
not-unknown None x e other h = cc (ap is_some e ∙ h)
not-unknown (Some v) x e other h = other v refl

-- one outcome more is copied
pub copied-more : (r : KeyOf → Option OutcomeOf) (keys : List KeyOf) (k : KeyOf) (done : List Outcome) (now : List Outcome) (x : Outcome) → now ≡ done ++ x ∷ [] → r k ≡ Some (outcome_of x) → map r keys ≡ map Some (map outcome_of done)
    → map r (keys ++ k ∷ []) ≡ map Some (map outcome_of now)
copied-more r keys k done now x put is h =
    map-append r keys (k ∷ []) ∙ ap (λ xs. xs ++ r k ∷ []) h ∙ ap (λ y. map Some (map outcome_of done) ++ y ∷ []) is
    ∙ sym (ap (λ os. map Some (map outcome_of os)) put ∙ ap (map Some) (map-append outcome_of done (x ∷ [])) ∙ map-append Some (map outcome_of done) (outcome_of x ∷ []))
