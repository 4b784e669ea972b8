-- When two keys are one, and what a list of pairs says of a key.
use Rattle.std.proofs.Common.{◌≡◌, ℕ, Bool, true, false, List, [], ◌∷◌, ◌++◌, Option, Some, None, refl, ap, ◌∙◌, sym}
use Rattle.std.specs.Prelude.{◌==◌, bytes_eq, is_some, if◌then◌else◌}
use Rattle.std.proofs.lemmas.Slice.Eq.{bytes_eq-Decides}
use Rattle.std.proofs.lemmas.Bool.{eqb-true, and_parts}
use Rattle.load_memory.specs.Keys.{KeyOf, all, text, pair, same_key}
use Rattle.load_memory.specs.Outcomes.{OutcomeOf}
use Rattle.load_memory.specs.Pairs.{PairOf, is_at, look, primed}

pub same_key-is : (a b : KeyOf) → same_key a b ≡ true → a ≡ b
same_key-is all all e = refl
same_key-is all (text t) e = absurd (cc e)
same_key-is all (pair s t) e = absurd (cc e)
same_key-is (text s) all e = absurd (cc e)
same_key-is (text s) (text t) e = ap text ((bytes_eq-Decides s t).0 e)
same_key-is (text s) (pair t u) e = absurd (cc e)
same_key-is (pair s t) all e = absurd (cc e)
same_key-is (pair s t) (text u) e = absurd (cc e)
same_key-is (pair s t) (pair u v) e =
    let parts = and_parts (bytes_eq s u) (bytes_eq t v) e in
    rw ((bytes_eq-Decides s u).0 parts.0, (bytes_eq-Decides t v).0 parts.1) refl

pub same_key-refl : (a : KeyOf) → same_key a a ≡ true
same_key-refl all = refl
same_key-refl (text t) = (bytes_eq-Decides t t).1 refl
same_key-refl (pair s t) = rw ((bytes_eq-Decides s s).1 refl) ((bytes_eq-Decides t t).1 refl)

pub same_key-sym : (a b : KeyOf) → same_key a b ≡ same_key b a
same_key-sym a b = go (same_key a b) refl (same_key b a) refl where
  go : (x : Bool) → same_key a b ≡ x → (y : Bool) → same_key b a ≡ y → x ≡ y
  go true e true h = refl
  go false e false h = refl
  go true e false h = absurd (cc (sym h ∙ ap (same_key b) (same_key-is a b e) ∙ same_key-refl b))
  go false e true h = absurd (cc (sym e ∙ ap (same_key a) (same_key-is b a h) ∙ same_key-refl a))

-- the first of two that is there
abbrev pub first_of_two : Option OutcomeOf → Option OutcomeOf → Option OutcomeOf
first_of_two None y = y
first_of_two (Some x) y = Some x

pub first-none : (x : Option OutcomeOf) → first_of_two x None ≡ x
first-none None = refl
first-none (Some x) = refl

first_step : (b : Bool) (o : OutcomeOf) (x y z : Option OutcomeOf) → x ≡ first_of_two y z → (if b then Some o else x) ≡ first_of_two (if b then Some o else y) z
first_step true o x y z e = refl
first_step false o x y z e = e

pub look-append : (ps qs : List PairOf) (loader : ℕ) (key : KeyOf) → look (ps ++ qs) loader key ≡ first_of_two (look ps loader key) (look qs loader key)
look-append [] qs loader key = refl
look-append (p ∷ ps) qs loader key = first_step (is_at loader key p) p.outcome (look (ps ++ qs) loader key) (look ps loader key) (look qs loader key) (look-append ps qs loader key)

-- a key that is there stays, and an absent one becomes known
pub primed-present : (ps : List PairOf) (p : PairOf) → is_some (look ps p.loader p.key) ≡ true → primed ps p ≡ ps
primed-present ps p e = rw e refl

pub nothing : (o : Option OutcomeOf) → is_some o ≡ false → o ≡ None
nothing None e = refl
nothing (Some x) e = absurd (cc e)

pub primed-absent : (ps : List PairOf) (p : PairOf) → is_some (look ps p.loader p.key) ≡ false → (loader : ℕ) (key : KeyOf) → look (primed ps p) loader key ≡ (if is_at loader key p then Some p.outcome else look ps loader key)
primed-absent ps p e loader key = rw (e, look-append) (go (is_at loader key p) refl) where
  go : (b : Bool) → is_at loader key p ≡ b → first_of_two (look ps loader key) (look (p ∷ []) loader key) ≡ (if b then Some p.outcome else look ps loader key)
  go true at =
      let parts = and_parts (loader == p.loader) (same_key key p.key) at in
      let same : look ps loader key ≡ None = rw (eqb-true loader p.loader parts.0, same_key-is key p.key parts.1) (nothing (look ps p.loader p.key) e) in
      rw (same, at) refl
  go false at = rw at (first-none (look ps loader key))
