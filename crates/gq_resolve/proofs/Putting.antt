-- Lemmas on what a program puts over a memory: what it asks over larger ones, and its text.
use Rattle.std.proofs.Common.{◌≡◌, ◌+◌, ℕ, zero, suc, Bool, true, false, ◌&&◌, if◌then◌else◌, List, [], ◌∷◌, ◌++◌, length, length-append, refl, sym, ap, ◌∙◌, subst, arith, append_assoc, append-nil, decimal, Option, Some, None}
use Rattle.std.specs.List.{list_all, flat_map, sum_by}
use Rattle.std.proofs.Math.Bool.{and-false}
use Rattle.std.proofs.lemmas.Bool.{and_parts}
use Rattle.std.proofs.lemmas.Grind.{flat_map-append}
use Rattle.std.proofs.lemmas.List.Folds.{list_all-append}
use Rattle.std.proofs.lemmas.List.Sums.{sum_by-append}
use Rattle.json.specs.Token.{Token, begin_object, begin_array, key}
use Rattle.json.specs.Tree.{json_tokens, items_tokens, members_tokens}
use Rattle.text_place.specs.declared.place.Place.{Place}
use Rattle.load_memory.specs.Outcomes.{OutcomeOf}
use Rattle.execution.specs.Loads.{Load, Reader, AnswersMore}
use Rattle.execution.specs.Program.{Value, Null, Fault, Kind, ListOf, ObjectOf, Part, Key, Item, Program, Is, Read, Under, Programs, End, With, Tree, Trees, Over, tree, trees, needs, all_needs}
use Rattle.execution.specs.Completion.{ResponseOf, ResponsesOf, Responding, NullResponse, Holding, ErrorOf}
use Rattle.execution.specs.Executed.{nulls, pulls_down, response, responses, errors as errors_at, all_errors}
use Rattle.execution.specs.Front.{missing}
use Rattle.execution.specs.Reads.{count_read}
use Rattle.execution.specs.Residual.{rest, all_rest, unanswered}
use Rattle.execution.proofs.Fitting.{missing-append, asks-rest}
use Rattle.gq_resolve.specs.Answered.{json_of, items_json, members_json}
use Rattle.plan_walk.specs.Puts.{Put, Ends, Reads, View, reads, puts, all_puts}
use Rattle.gq_resolve.specs.Written.{is_plain, opening, closing, leaf_value_tokens, part_tokens, put_tokens, put_reads, IsCounted, asks, put_asks, thinned, all_asks, AreWithin}
use Rattle.gq_resolve.specs.Outputs.{Puts}
use Rattle.gq_resolve.specs.AnswerTexts.{TakesAll, Takes}
use Rattle.gq_resolve.specs.Stepped.{OutputOf, Writes}
use Rattle.gq_resolve.specs.Texted.{WrittenOf, put_all}
use Rattle.gq_resolve.specs.WorkLeft.{TakesWork, takes-none}
use Rattle.gq_resolve.specs.declared.output.Output.{Output}
use Rattle.gq_resolve.proofs.Evaluating.{needs-rest}
use Rattle.gq_resolve.proofs.Taking.{takes-reads}

-- ---- loads

-- the loads that puts ask for
abbrev pub puts_ask : Reader → List Put → List Load
puts_ask Q ps = flat_map (put_asks Q) ps

read-asked : (non_null : Bool) (load : Load) (next : OutcomeOf → Program) (R Q : Reader) (r : Option OutcomeOf) → R load ≡ r → ((o : OutcomeOf) → puts_ask Q (puts non_null (next o) R) ≡ asks (rest (next o) R) Q)
    → puts_ask Q (puts non_null (Read load next) R) ≡ asks (rest (Read load next) R) Q
read-asked non_null load next R Q None e ih = rw e (append-nil (asks (Read load next) Q))
read-asked non_null load next R Q (Some o) e ih = rw e (ih o)

mutual
  -- the puts of a program ask what the rest of the program asks
  asked-rest : (non_null : Bool) (p : Program) (R Q : Reader) → puts_ask Q (puts non_null p R) ≡ asks (rest p R) Q
  asked-rest non_null (Is leaf_value) R Q = refl
  asked-rest non_null (Read load next) R Q = read-asked non_null load next R Q (R load) refl (λ o. asked-rest non_null (next o) R Q)
  asked-rest non_null (Under kind below) R Q =
      flat_map-append (put_asks Q) (all_puts kind below R) (Ends kind non_null ∷ []) ∙ append-nil (puts_ask Q (all_puts kind below R)) ∙ all-asked-rest kind below R Q

  all-asked-rest : (kind : Kind) (ps : Programs) (R Q : Reader) → puts_ask Q (all_puts kind ps R) ≡ missing Q (all_needs (all_rest ps R) Q)
  all-asked-rest kind End R Q = refl
  all-asked-rest kind (With position p ps) R Q =
      flat_map-append (put_asks Q) (puts position.non_null p R) (all_puts kind ps R)
      ∙ ap (λ ls. ls ++ puts_ask Q (all_puts kind ps R)) (asked-rest position.non_null p R Q)
      ∙ ap (λ ls. asks (rest p R) Q ++ ls) (all-asked-rest kind ps R Q)
      ∙ sym (missing-append Q (needs (rest p R) Q) (all_needs (all_rest ps R) Q))

-- over a reader that answers more, what is put asks what the program asks
pub asks-puts : (non_null : Bool) (p : Program) (R Q : Reader) → AnswersMore R Q → puts_ask Q (puts non_null p R) ≡ asks p Q
asks-puts non_null p R Q more = asked-rest non_null p R Q ∙ asks-rest p R Q more

all-missing : (ls : List Load) → missing unanswered ls ≡ ls
all-missing [] = refl
all-missing (l ∷ ls) = ap (λ ks. l ∷ ks) (all-missing ls)

-- the loads that it waits for are those that it asks
pub waits-puts : (non_null : Bool) (p : Program) (R : Reader) → puts_ask unanswered (puts non_null p R) ≡ asks p R
waits-puts non_null p R = asked-rest non_null p R unanswered ∙ all-missing (needs (rest p R) unanswered) ∙ needs-rest p R

-- one load more
one-read : (ps : List Put) → sum_by put_reads (Reads ∷ ps) ≡ suc (sum_by put_reads ps)
one-read ps = let split : sum_by put_reads (Reads ∷ ps) ≡ 1 + sum_by put_reads ps = sum_by-append put_reads (Reads ∷ []) ps in split ∙ omega arith

read-counted : (non_null : Bool) (load : Load) (next : OutcomeOf → Program) (R : Reader) (r : Option OutcomeOf) → R load ≡ r
    → ((o : OutcomeOf) → sum_by put_reads (puts non_null (next o) R) ≡ count_read (next o) R) → sum_by put_reads (puts non_null (Read load next) R) ≡ count_read (Read load next) R
read-counted non_null load next R None e ih = rw e refl
read-counted non_null load next R (Some o) e ih = rw e (one-read (puts non_null (next o) R) ∙ ap suc (ih o))

mutual
  -- as many loads are read as the program reads
  pub puts-read : (non_null : Bool) (p : Program) (R : Reader) → sum_by put_reads (puts non_null p R) ≡ count_read p R
  puts-read non_null (Is leaf_value) R = refl
  puts-read non_null (Read load next) R = read-counted non_null load next R (R load) refl (λ o. puts-read non_null (next o) R)
  puts-read non_null (Under kind below) R =
      let ended : sum_by put_reads (all_puts kind below R ++ Ends kind non_null ∷ []) ≡ sum_by put_reads (all_puts kind below R) + 0 = sum_by-append put_reads (all_puts kind below R) (Ends kind non_null ∷ []) in
      omega (arith, ended, all-puts-read kind below R)

  all-puts-read : (kind : Kind) (ps : Programs) (R : Reader) → sum_by put_reads (all_puts kind ps R) ≡ length (all_needs ps R)
  all-puts-read kind End R = refl
  all-puts-read kind (With position p ps) R =
      sum_by-append put_reads (puts position.non_null p R) (all_puts kind ps R) ∙ rw (puts-read position.non_null p R, all-puts-read kind ps R) (sym (length-append (needs p R) (all_needs ps R)))

-- ---- loads that are read

pub reads-counted : (n : ℕ) → sum_by put_reads (reads n) ≡ n
reads-counted zero = refl
reads-counted (suc n) = one-read (reads n) ∙ ap suc (reads-counted n)

-- they say nothing else
reads-silent : {A : Type 0} (says : Put → List A) (n : ℕ) → says Reads ≡ [] → flat_map says (reads n) ≡ []
reads-silent says zero none = refl
reads-silent says (suc n) none = rw none (reads-silent says n none)

-- they were counted
pub reads-put : (v : View) (n : ℕ) (old new : Output) → new.blocked ≡ old.blocked → new.text ≡ old.text → IsCounted n old.loads new.loads → Puts v (reads n) old new
reads-put v n old new blocked text counted = record {
  first = ([], blocked ∙ sym (append-nil old.blocked));
  within = λ h. subst (AreWithin v.count) (sym blocked) h;
  asked = λ R. ap (λ bs. thinned [] (all_asks v bs R)) blocked ∙ ap (thinned (thinned [] (all_asks v old.blocked R))) (sym (reads-silent (put_asks R) n refl));
  loads = rw (reads-counted n) counted;
  written = λ none. subst (TakesAll (reads n) old.text) (sym text) (takes-reads n old.text);
}

-- one put, which asks for nothing, and which the text takes where nothing waits
pub one-put : (v : View) (p : Put) (old new : Output) → new.blocked ≡ old.blocked → new.loads ≡ old.loads → ((R : Reader) → put_asks R p ≡ []) → put_reads p ≡ 0 → (new.blocked ≡ [] → Takes p old.text new.text) → Puts v (p ∷ []) old new
one-put v p old new blocked loads silent none takes = record {
  first = ([], blocked ∙ sym (append-nil old.blocked));
  within = λ h. subst (AreWithin v.count) (sym blocked) h;
  asked = λ R. ap (λ bs. thinned [] (all_asks v bs R)) blocked
      ∙ ap (λ ls. thinned (thinned [] (all_asks v old.blocked R)) (ls ++ [])) (sym (silent R));
  loads = rw none (omega (arith, loads));
  written = takes;
}

-- they write nothing
pub reads-written : (n : ℕ) (old new : OutputOf) → new.text ≡ old.text → IsCounted n old.loads new.loads → Writes (reads n) old new
reads-written n old new text counted = record { text = text ∙ same n old.text; loads = rw (reads-counted n) counted }
  where
    same : (n : ℕ) (w : WrittenOf) → w ≡ put_all (reads n) w
    same zero w = refl
    same (suc n) w = same n w

pub reads-taken : (n : ℕ) (left : Option ℕ) → TakesWork (reads n) left left
reads-taken zero left = takes-none left
reads-taken (suc n) left = reads-taken n left

-- ---- text

abbrev puts_plain : List Put → Bool
puts_plain ps = list_all is_plain ps

abbrev pub puts_tokens : List Put → List Token
puts_tokens ps = flat_map put_tokens ps

-- the tokens of a tree without errors
pub record IsPlain (non_null : Bool) (t : Tree) (ts : List Token) : Type 0 where
  pub stays : (non_null && nulls t) ≡ false
  pub errors : (place : Place) (path : List Part) → errors_at non_null place path t ≡ []
  pub tokens : json_tokens (json_of (response t)) ≡ ts

abbrev kind_tokens : Kind → ResponsesOf → List Token
kind_tokens ListOf rs = items_tokens (items_json rs)
kind_tokens ObjectOf rs = members_tokens (members_json rs)

record ArePlain (kind : Kind) (below : Trees) (ts : List Token) : Type 0 where
  pub stay : pulls_down below ≡ false
  pub errors : (path : List Part) → all_errors path below ≡ []
  pub tokens : kind_tokens kind (responses below) ≡ ts ++ closing kind ∷ []

part-put : (kind : Kind) (part : Part) (r : ResponseOf) (rs : ResponsesOf) (ts us : List Token) → json_tokens (json_of r) ≡ ts → kind_tokens kind rs ≡ us ++ closing kind ∷ []
    → kind_tokens kind (Responding part r rs) ≡ (part_tokens kind part ++ (ts ++ us)) ++ closing kind ∷ []
part-put ListOf part r rs ts us e f = rw (e, f) (sym (append_assoc ts us (closing ListOf ∷ [])))
part-put ObjectOf (Key k) r rs ts us e f = rw (e, f) (ap (λ vs. key k ∷ vs) (sym (append_assoc ts us (closing ObjectOf ∷ []))))
part-put ObjectOf (Item n) r rs ts us e f = rw (e, f) (ap (λ vs. key (decimal n) ∷ vs) (sym (append_assoc ts us (closing ObjectOf ∷ []))))

under-put : (non_null : Bool) (kind : Kind) (below : Trees) (ts : List Token) → ArePlain kind below ts → IsPlain non_null (Over kind below) (opening kind ∷ (ts ++ closing kind ∷ []))
under-put non_null kind below ts p = record {
  stays = ap (λ b. non_null && b) p.stay ∙ and-false non_null;
  errors = λ place path. p.errors path;
  tokens = ap (λ b. json_tokens (json_of (if b then NullResponse else Holding kind (responses below)))) p.stay ∙ go kind (responses below) p.tokens;
}
  where
    go : (k : Kind) (rs : ResponsesOf) → kind_tokens k rs ≡ ts ++ closing k ∷ [] → json_tokens (json_of (Holding k rs)) ≡ opening k ∷ (ts ++ closing k ∷ [])
    go ListOf rs e = ap (λ vs. begin_array ∷ vs) e
    go ObjectOf rs e = ap (λ vs. begin_object ∷ vs) e

read-plain : (non_null : Bool) (load : Load) (next : OutcomeOf → Program) (R : Reader) (r : Option OutcomeOf) → R load ≡ r
    → ((o : OutcomeOf) → puts_plain (puts non_null (next o) R) ≡ true → IsPlain non_null (tree (next o) R) (puts_tokens (puts non_null (next o) R)))
    → puts_plain (puts non_null (Read load next) R) ≡ true → IsPlain non_null (tree (Read load next) R) (puts_tokens (puts non_null (Read load next) R))
read-plain non_null load next R None e ih h = let f : false ≡ true = rw e at h in absurd (cc f)
read-plain non_null load next R (Some o) e ih h = rw e (ih o (rw e at h))

mutual
  -- puts that are all plain have the tokens of the response, and there are no errors
  pub plain-puts : (non_null : Bool) (p : Program) (R : Reader) → puts_plain (puts non_null p R) ≡ true → IsPlain non_null (tree p R) (puts_tokens (puts non_null p R))
  plain-puts non_null (Is (Value leaf)) R h = record { stays = and-false non_null; errors = λ place path. refl; tokens = sym (append-nil (leaf_value_tokens (Value leaf))) }
  plain-puts true (Is Null) R h = absurd (cc h)
  plain-puts false (Is Null) R h = record { stays = refl; errors = λ place path. refl; tokens = refl }
  plain-puts non_null (Is (Fault text)) R h = absurd (cc h)
  plain-puts non_null (Read load next) R h = read-plain non_null load next R (R load) refl (λ o. plain-puts non_null (next o) R) h
  plain-puts non_null (Under kind below) R h =
      let parts = and_parts _ _ (sym (list_all-append is_plain (all_puts kind below R) (Ends kind non_null ∷ [])) ∙ h) in
      subst (λ (ts : List Token). IsPlain non_null (Over kind (trees below R)) (opening kind ∷ ts)) (sym (flat_map-append put_tokens (all_puts kind below R) (Ends kind non_null ∷ [])))
      (under-put non_null kind (trees below R) (puts_tokens (all_puts kind below R)) (all-plain-puts kind below R parts.0))

  all-plain-puts : (kind : Kind) (ps : Programs) (R : Reader) → puts_plain (all_puts kind ps R) ≡ true → ArePlain kind (trees ps R) (puts_tokens (all_puts kind ps R))
  all-plain-puts ListOf End R h = record { stay = refl; errors = λ path. refl; tokens = refl }
  all-plain-puts ObjectOf End R h = record { stay = refl; errors = λ path. refl; tokens = refl }
  all-plain-puts kind (With position p ps) R h =
      let each = and_parts _ _ (sym (list_all-append is_plain (puts position.non_null p R) (all_puts kind ps R)) ∙ h) in
      let here : IsPlain position.non_null (tree p R) (puts_tokens (puts position.non_null p R)) = plain-puts position.non_null p R each.0 in
      let there : ArePlain kind (trees ps R) (puts_tokens (all_puts kind ps R)) = all-plain-puts kind ps R each.1 in
      record {
        stay = rw (here.stays, there.stay) refl;
        errors = λ path. ap (λ (es : List ErrorOf). es ++ all_errors path (trees ps R)) (here.errors position.place (path ++ position.part ∷ [])) ∙ there.errors path;
        tokens = part-put kind position.part (response (tree p R)) (responses (trees ps R)) (puts_tokens (puts position.non_null p R)) (puts_tokens (all_puts kind ps R)) here.tokens there.tokens
            ∙ ap (λ ts. (part_tokens kind position.part ++ ts) ++ closing kind ∷ []) (sym (flat_map-append put_tokens (puts position.non_null p R) (all_puts kind ps R)));
      }
