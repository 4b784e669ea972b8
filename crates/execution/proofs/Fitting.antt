-- A suspended program that fits a reader is executed over it, and over each that answers more, as its program is.
use Rattle.std.proofs.Common.{◌≡◌, List, [], ◌∷◌, ◌++◌, sym, ◌∙◌, ap, refl, Option, Some, None, Bool, true, false, is_none}
use Rattle.load_memory.specs.Outcomes.{OutcomeOf}
use Rattle.load_memory.specs.declared.key.KeyMode.{KeyMode}
use Rattle.execution.specs.Loads.{Load, Reader, Memory, read, AnswersMore}
use Rattle.execution.specs.Program.{Program, Is, Read, Under, Programs, End, With, Over, tree, trees, needs, all_needs}
use Rattle.execution.specs.Executed.{exec}
use Rattle.execution.specs.Front.{missing, front, firsts}
use Rattle.execution.specs.Residual.{rest, all_rest, Fits, unanswered}

rest-read : (load : Load) (next : OutcomeOf → Program) (R Q : Reader) → AnswersMore R Q → (r : Option OutcomeOf) → R load ≡ r → ((o : OutcomeOf) → rest (rest (next o) R) Q ≡ rest (next o) Q) → rest (rest (Read load next) R) Q ≡ rest (Read load next) Q
rest-read load next R Q more None e ih = rw e refl
rest-read load next R Q more (Some o) e ih = let f : Q load ≡ Some o = more load o e in rw (e, f) (ih o)

mutual
  -- the rest of a rest
  pub rest-rest : (p : Program) (R Q : Reader) → AnswersMore R Q → rest (rest p R) Q ≡ rest p Q
  rest-rest (Is own) R Q more = refl
  rest-rest (Read load next) R Q more = rest-read load next R Q more (R load) refl (λ o. rest-rest (next o) R Q more)
  rest-rest (Under kind below) R Q more = ap (λ ps. Under kind ps) (all_rest-rest below R Q more)

  pub all_rest-rest : (ps : Programs) (R Q : Reader) → AnswersMore R Q → all_rest (all_rest ps R) Q ≡ all_rest ps Q
  all_rest-rest End R Q more = refl
  all_rest-rest (With position p ps) R Q more = rw (rest-rest p R Q more, all_rest-rest ps R Q more) refl

tree-read : (load : Load) (next : OutcomeOf → Program) (R Q : Reader) → AnswersMore R Q → (r : Option OutcomeOf) → R load ≡ r → ((o : OutcomeOf) → tree (rest (next o) R) Q ≡ tree (next o) Q) → tree (rest (Read load next) R) Q ≡ tree (Read load next) Q
tree-read load next R Q more None e ih = rw e refl
tree-read load next R Q more (Some o) e ih = let f : Q load ≡ Some o = more load o e in rw (e, f) (ih o)

mutual
  pub tree-rest : (p : Program) (R Q : Reader) → AnswersMore R Q → tree (rest p R) Q ≡ tree p Q
  tree-rest (Is own) R Q more = refl
  tree-rest (Read load next) R Q more = tree-read load next R Q more (R load) refl (λ o. tree-rest (next o) R Q more)
  tree-rest (Under kind below) R Q more = ap (λ ts. Over kind ts) (trees-rest below R Q more)

  pub trees-rest : (ps : Programs) (R Q : Reader) → AnswersMore R Q → trees (all_rest ps R) Q ≡ trees ps Q
  trees-rest End R Q more = refl
  trees-rest (With position p ps) R Q more = rw (tree-rest p R Q more, trees-rest ps R Q more) refl

-- the loads that are needed and aren't answered, depth first
abbrev pub asks : Program → Reader → List Load
asks p R = missing R (needs p R)

append-assoc : {X : Type 0} (xs ys zs : List X) → (xs ++ ys) ++ zs ≡ xs ++ (ys ++ zs)
append-assoc [] ys zs = refl
append-assoc (x ∷ xs) ys zs = ap (λ ws. x ∷ ws) (append-assoc xs ys zs)

pub missing-append : (R : Reader) (xs ys : List Load) → missing R (xs ++ ys) ≡ missing R xs ++ missing R ys
missing-append R [] ys = refl
missing-append R (x ∷ xs) ys = go (is_none (R x)) refl (missing-append R xs ys)
  where
    go : (b : Bool) → is_none (R x) ≡ b → missing R (xs ++ ys) ≡ missing R xs ++ missing R ys → missing R (x ∷ (xs ++ ys)) ≡ missing R (x ∷ xs) ++ missing R ys
    go true e ih = rw e (ap (λ zs. x ∷ zs) ih)
    go false e ih = rw e ih

asks-read : (load : Load) (next : OutcomeOf → Program) (R Q : Reader) → AnswersMore R Q → (r : Option OutcomeOf) → R load ≡ r → ((o : OutcomeOf) → asks (rest (next o) R) Q ≡ asks (next o) Q) → asks (rest (Read load next) R) Q ≡ asks (Read load next) Q
asks-read load next R Q more None e ih = rw e refl
asks-read load next R Q more (Some o) e ih = let f : Q load ≡ Some o = more load o e in rw (e, f) (ih o)

mutual
  pub asks-rest : (p : Program) (R Q : Reader) → AnswersMore R Q → asks (rest p R) Q ≡ asks p Q
  asks-rest (Is own) R Q more = refl
  asks-rest (Read load next) R Q more = asks-read load next R Q more (R load) refl (λ o. asks-rest (next o) R Q more)
  asks-rest (Under kind below) R Q more = all_asks-rest below R Q more

  pub all_asks-rest : (ps : Programs) (R Q : Reader) → AnswersMore R Q → missing Q (all_needs (all_rest ps R) Q) ≡ missing Q (all_needs ps Q)
  all_asks-rest End R Q more = refl
  all_asks-rest (With position p ps) R Q more =
      rw (missing-append Q (needs (rest p R) Q) (all_needs (all_rest ps R) Q), missing-append Q (needs p Q) (all_needs ps Q), asks-rest p R Q more, all_asks-rest ps R Q more) refl

pub more-self : (R : Reader) → AnswersMore R R
more-self R = λ load o e. e

pub fits-more : (s p : Program) (R Q : Reader) → AnswersMore R Q → Fits s p R → Fits s p Q
fits-more s p R Q more f = sym (rest-rest s R Q more) ∙ ap (λ q. rest q Q) f ∙ rest-rest p R Q more

pub fits-left : (s p : Program) (R : Reader) → Fits s p R → Fits (rest s R) p R
fits-left s p R f = rest-rest s R R (more-self R) ∙ f

pub fits-tree : (s p : Program) (R : Reader) → Fits s p R → tree s R ≡ tree p R
fits-tree s p R f = sym (tree-rest s R R (more-self R)) ∙ ap (λ q. tree q R) f ∙ tree-rest p R R (more-self R)

pub fits-exec : (s p : Program) (R : Reader) → Fits s p R → exec s R ≡ exec p R
fits-exec s p R f = rw (fits-tree s p R f) refl

pub fits-asks : (s p : Program) (R : Reader) → Fits s p R → asks s R ≡ asks p R
fits-asks s p R f = sym (asks-rest s R R (more-self R)) ∙ ap (λ q. asks q R) f ∙ asks-rest p R R (more-self R)

pub fits-front : (modes : List KeyMode) (s p : Program) (M : Memory) → Fits s p (read modes M) → front modes s M ≡ front modes p M
fits-front modes s p M f = ap (firsts modes) (fits-asks s p (read modes M) f)

held-read : (load : Load) (next : OutcomeOf → Program) (R : Reader) (r : Option OutcomeOf) → R load ≡ r → ((o : OutcomeOf) → tree (rest (next o) R) unanswered ≡ tree (next o) R) → tree (rest (Read load next) R) unanswered ≡ tree (Read load next) R
held-read load next R None e ih = rw e refl
held-read load next R (Some o) e ih = rw e (ih o)

mutual
  -- says what it holds as done is the tree
  pub held-rest : (p : Program) (R : Reader) → tree (rest p R) unanswered ≡ tree p R
  held-rest (Is own) R = refl
  held-rest (Read load next) R = held-read load next R (R load) refl (λ o. held-rest (next o) R)
  held-rest (Under kind below) R = ap (λ ts. Over kind ts) (helds-rest below R)

  pub helds-rest : (ps : Programs) (R : Reader) → trees (all_rest ps R) unanswered ≡ trees ps R
  helds-rest End R = refl
  helds-rest (With position p ps) R = rw (held-rest p R, helds-rest ps R) refl
