-- Lemmas on what the text of an answer holds after one put more.
use Rattle.std.proofs.Common.{◌≡◌, ℕ, zero, suc, Bool, true, false, List, [], ◌∷◌, ◌++◌, sym, ◌∙◌, ap, subst, refl, append_assoc, append-nil, if◌then◌else◌, None, Some}
use Rattle.std.specs.Fmt.{signed_decimal}
use Rattle.std.specs.List.{list_all, flat_map}
use Rattle.std.proofs.lemmas.Bool.{and_from}
use Rattle.std.proofs.lemmas.Grind.{flat_map-append}
use Rattle.std.proofs.lemmas.List.Folds.{list_all-append}
use Rattle.std.specs.declared.boxed.Box.{Box}
use Rattle.std.specs.declared.alloc.Global.{Global}
use Rattle.text_place.specs.declared.place.Place.{Place}
use Rattle.json.specs.Token.{Token, string, number, boolean}
use Rattle.json.specs.Tree.{json_tokens}
use Rattle.execution.specs.Program.{Leaf, Text, Int, Boolean, Value, LeafValue, Kind, ListOf, ObjectOf, FieldPosition}
use Rattle.plan_walk.specs.Puts.{Put, Begins, Ends, Enters, Has, Reads, Waits, reads}
use Rattle.gq_resolve.specs.Answered.{leaf_json}
use Rattle.gq_resolve.specs.Written.{is_plain, put_tokens}
use Rattle.gq_resolve.specs.Texted.{OpenOf, WrittenOf, nulled, closed, left, ended_in, put_one, put_all-append, nothing_written, written_of}
use Rattle.gq_resolve.specs.ReadBack.{StandsAt, AreInOrder, IsNext, at_root, item_of, item_entered, all_taken, HaveBegun, IsReadBack}
use Rattle.gq_resolve.specs.AnswerTexts.{data_tokens, after_puts, IsPlainText, IsCompletedTo, HasTextBy, IsTextOf, TakesAll, Takes, IsReadBackOf, IsCompletedAs, IsCompleted, HasWrittenBy, HasWritten}
use Rattle.gq_resolve.specs.Composing.{in-order-first}
use Rattle.gq_resolve.specs.declared.answer_text.AnswerText.{AnswerText}
use Rattle.gq_resolve.specs.declared.completed_text.CompletedText.{CompletedText}
use Rattle.gq_resolve.proofs.ReadingBack.{at-entered, at-past, read-back}

-- ---- a text that may have errors

after-one : (most : ℕ) (qs : List Put) (p : Put) → put_one p (after_puts most qs) ≡ after_puts most (qs ++ p ∷ [])
after-one most qs p = sym (put_all-append qs (p ∷ []) (nothing_written most))

pub has-text : (most : ℕ) (ps : List Put) (a : AnswerText) → a.is_plain ≡ false → IsCompletedTo (after_puts most ps) a.completed → HasTextBy a.is_plain most ps a
has-text most ps a e h = subst (λ (b : Bool). HasTextBy b most ps a) (sym e) h

pub is-completed : (most : ℕ) (ps : List Put) (a : AnswerText) → a.is_plain ≡ false → IsTextOf most ps a → IsCompletedTo (after_puts most ps) a.completed
is-completed most ps a e h = subst (λ (b : Bool). HasTextBy b most ps a) e h.text

pub takes-completed : (p : Put) (old new : AnswerText) (before after : Box CompletedText Global) → old.is_plain ≡ false → new.is_plain ≡ false → new.most ≡ old.most → old.completed ≡ Some before → new.completed ≡ Some after
    → written_of after.value ≡ put_one p (written_of before.value) → Takes p old new
takes-completed p old new before after e f same was now h = λ most qs t order is.
    let there : written_of before.value ≡ after_puts most qs = subst (IsCompletedTo (after_puts most qs)) was (is-completed most qs old e is) in
    record {
      limit = same ∙ is.limit;
      text = has-text most (qs ++ p ∷ []) new f (subst (IsCompletedTo (after_puts most (qs ++ p ∷ []))) (sym now) (h ∙ ap (put_one p) there ∙ after-one most qs p));
    }

-- nothing is written where there is no text
pub takes-nothing : (ps : List Put) (old new : AnswerText) → old.is_plain ≡ false → old.completed ≡ None → TakesAll ps old new
takes-nothing ps old new e none = λ most qs t order is. absurd (subst (IsCompletedTo (after_puts most qs)) none (is-completed most qs old e is))

-- where errors are stays
pub ended-place : (kind : Kind) (non_null : Bool) (w : WrittenOf) → (put_one (Ends kind non_null) w).place ≡ w.place
ended-place kind non_null w = go w.levels
  where
    go : (ls : List OpenOf) → (ended_in ls kind non_null w).place ≡ w.place
    go [] = refl
    go (l ∷ ls) = elim w.muted as (λ (b : Bool). (if b then nulled non_null l.muted l.before (left l ls w) else closed kind l.before (left l ls w)).place ≡ w.place) [
      | true ↦ refl
      | false ↦ refl
    ]

-- ---- a plain text

pub is-plain-text : (most : ℕ) (ps : List Put) (a : AnswerText) → a.is_plain ≡ true → IsTextOf most ps a → IsPlainText most ps a
is-plain-text most ps a e h = subst (λ (b : Bool). HasTextBy b most ps a) e h.text

-- a limit was counted after some tokens were written
pub wrote-counted : (ts : List Token) (old mid new : AnswerText) → mid.writer.tokens ≡ old.writer.tokens ++ ts → mid.most ≡ old.most → mid.place ≡ old.place → HasWritten [] mid new → HasWritten ts old new
wrote-counted ts old mid new wrote most place h = go new.is_plain h
  where
    all : mid.writer.tokens ++ [] ≡ old.writer.tokens ++ ts
    all = append-nil mid.writer.tokens ∙ wrote

    go : (b : Bool) → HasWrittenBy b (mid.writer.tokens ++ []) mid new → HasWrittenBy b (old.writer.tokens ++ ts) old new
    go true (tokens, m, p) = (tokens ∙ all, m ∙ most, p ∙ place)
    go false done = record {
      plain = done.plain;
      limit = done.limit ∙ most;
      text = λ us e.
          subst (λ (q : Place). IsCompletedTo (record (all_taken us (nothing_written old.most)) { place = q }) new.completed) place
          (subst (λ (n : ℕ). IsCompletedTo (record (all_taken us (nothing_written n)) { place = mid.place }) new.completed) most (done.text us (all ∙ e)));
    }

-- after one token nothing that was entered is still to be read back
past-token : (p : Put) (x : Token) (s t : StandsAt) (w z : WrittenOf) → put_tokens p ≡ x ∷ [] → IsNext p s t → IsReadBack t w z → w ≡ record z { place = w.place }
past-token (Begins kind) x s t w z one (e, f) h = at-past t w z (ap (λ (u : StandsAt). u.entered) f) h
past-token (Ends kind non_null) x s t w z one (e, f, n, is) h = at-past t w z f h
past-token (Enters ListOf position) x s t w z one next h = absurd (cc one)
past-token (Enters ObjectOf position) x s t w z one (e, n, rest, is, step, f) h =
    at-entered t w z (ap (λ (u : StandsAt). u.entered) f) h ∙ ap (λ (y : WrittenOf). record y { place = w.place }) (go z.levels refl (subst (λ (u : StandsAt). HaveBegun u.entered u.within z.levels z.path) f h.begun))
  where
    go : (ls : List OpenOf) → z.levels ≡ ls → HaveBegun true (record { kind = ObjectOf; count = suc n } ∷ rest) ls z.path → item_entered z.levels z ≡ z
    go [] same none = absurd none
    go (l ∷ ls) same begun = ap (λ (xs : List OpenOf). item_entered xs z) same ∙ ap (λ (kind : Kind). item_of kind l.depth z) begun.0
past-token (Has non_null leaf_value) x s t w z one (e, f) h = at-past t w z (ap (λ (u : StandsAt). u.entered) f) h
past-token Reads x s t w z one next h = absurd (cc one)
past-token (Waits p) x s t w z one next h = absurd (cc one)

plain-more : (qs : List Put) (p : Put) → list_all is_plain qs ≡ true → is_plain p ≡ true → list_all is_plain (qs ++ p ∷ []) ≡ true
plain-more qs p whole one = list_all-append is_plain qs (p ∷ []) ∙ and_from (list_all is_plain qs) (list_all is_plain (p ∷ [])) whole (rw one refl)

tokens-more : (qs : List Put) (p : Put) (ts : List Token) → put_tokens p ≡ ts → flat_map put_tokens qs ++ ts ≡ flat_map put_tokens (qs ++ p ∷ [])
tokens-more qs p ts is =
    ap (λ (us : List Token). flat_map put_tokens qs ++ us) (sym is ∙ sym (append-nil (put_tokens p))) ∙ sym (flat_map-append put_tokens qs (p ∷ []))

-- a put was written as its token, where `mid` is the text with the place of its errors
pub takes-token : (p : Put) (x : Token) (old mid new : AnswerText) → old.is_plain ≡ true → mid.writer ≡ old.writer → mid.most ≡ old.most → put_tokens p ≡ x ∷ [] → is_plain p ≡ true
    → ((w : WrittenOf) → w.place ≡ old.place → (put_one p w).place ≡ mid.place) → HasWritten (x ∷ []) mid new → Takes p old new
takes-token p x old mid new e writer same one plain place h = λ most qs t order is. go most qs t order is.limit (is-plain-text most qs old e is) new.is_plain refl h
  where
    go : (most : ℕ) (qs : List Put) (t : StandsAt) → AreInOrder (qs ++ p ∷ []) at_root t → old.most ≡ most → IsPlainText most qs old
        → (b : Bool) → new.is_plain ≡ b → HasWrittenBy b (mid.writer.tokens ++ x ∷ []) mid new → IsTextOf most (qs ++ p ∷ []) new
    go most qs t order limit text b is wrote = by b is wrote
      where
        all : mid.writer.tokens ++ x ∷ [] ≡ data_tokens (flat_map put_tokens (qs ++ p ∷ []))
        all = ap (λ (w : _). w.tokens ++ x ∷ []) writer ∙ ap (λ (ts : List Token). ts ++ x ∷ []) text.tokens ∙ ap data_tokens (tokens-more qs p (x ∷ []) one)

        there : (after_puts most (qs ++ p ∷ [])).place ≡ mid.place
        there = ap (λ (w : WrittenOf). w.place) (sym (after-one most qs p)) ∙ place (after_puts most qs) (sym text.place)

        by : (b : Bool) → new.is_plain ≡ b → HasWrittenBy b (mid.writer.tokens ++ x ∷ []) mid new → IsTextOf most (qs ++ p ∷ []) new
        by true is (tokens, m, q) = record {
          limit = m ∙ same ∙ limit;
          text = subst (λ (c : Bool). HasTextBy c most (qs ++ p ∷ []) new) (sym is) (record { plain = plain-more qs p text.plain plain; tokens = tokens ∙ all; place = q ∙ sym there });
        }
        by false is done =
            let us : List Token = flat_map put_tokens (qs ++ p ∷ []) in
            let first = in-order-first qs (p ∷ []) at_root t order in
            let back = read-back (qs ++ p ∷ []) t most (plain-more qs p text.plain plain) order in
            let last : IsNext p first.0 t = subst (λ (u : StandsAt). IsNext p first.0 u) (sym first.2.2) first.2.1 in
            let written : after_puts most (qs ++ p ∷ []) ≡ record (all_taken us (nothing_written mid.most)) { place = mid.place } =
            past-token p x first.0 t (after_puts most (qs ++ p ∷ [])) (all_taken us (nothing_written most)) one last back
            ∙ ap (λ (q : Place). record (all_taken us (nothing_written most)) { place = q }) there
            ∙ ap (λ (n : ℕ). record (all_taken us (nothing_written n)) { place = mid.place }) (sym (same ∙ limit)) in
            record {
              limit = done.limit ∙ same ∙ limit;
              text = has-text most (qs ++ p ∷ []) new done.plain (subst (λ (w : WrittenOf). IsCompletedTo w new.completed) (sym written) (done.text us all));
            }

-- the value of a leaf was written
pub takes-leaf : (non_null : Bool) (leaf : Leaf) (old new : AnswerText) → old.is_plain ≡ true → HasWritten (json_tokens (leaf_json leaf)) old new → Takes (Has non_null (Value leaf)) old new
takes-leaf non_null (Text text) old new e h = takes-token (Has non_null (Value (Text text))) (string text) old old new e refl refl refl refl (λ w q. q) h
takes-leaf non_null (Int i) old new e h = takes-token (Has non_null (Value (Int i))) (number (signed_decimal i)) old old new e refl refl refl refl (λ w q. q) h
takes-leaf non_null (Boolean b) old new e h = takes-token (Has non_null (Value (Boolean b))) (boolean b) old old new e refl refl refl refl (λ w q. q) h

-- an item leaves no token
pub takes-item : (position : FieldPosition) (old new : AnswerText) → old.is_plain ≡ true → new.is_plain ≡ true → new.writer ≡ old.writer → new.most ≡ old.most → new.place ≡ position.place → Takes (Enters ListOf position) old new
takes-item position old new e f writer same place = λ most qs t order is.
    let text = is-plain-text most qs old e is in
    let p : Put = Enters ListOf position in
    record {
      limit = same ∙ is.limit;
      text = subst (λ (b : Bool). HasTextBy b most (qs ++ p ∷ []) new) (sym f) (record {
        plain = plain-more qs p text.plain refl;
        tokens = ap (λ (w : _). w.tokens) writer ∙ text.tokens ∙ ap data_tokens (sym (append-nil (flat_map put_tokens qs)) ∙ tokens-more qs p [] refl);
        place = place ∙ ap (λ (w : WrittenOf). w.place) (after-one most qs p);
      });
    }

-- a load that is read says nothing
takes-read : (a : AnswerText) → Takes Reads a a
takes-read a = λ most qs t order is. record { limit = is.limit; text = go most qs a.is_plain is.text }
  where
    go : (most : ℕ) (qs : List Put) (b : Bool) → HasTextBy b most qs a → HasTextBy b most (qs ++ Reads ∷ []) a
    go most qs true text = record {
      plain = plain-more qs Reads text.plain refl;
      tokens = text.tokens ∙ ap data_tokens (sym (append-nil (flat_map put_tokens qs)) ∙ tokens-more qs Reads [] refl);
      place = text.place ∙ ap (λ (w : WrittenOf). w.place) (after-one most qs Reads);
    }
    go most qs false text = subst (λ (w : WrittenOf). IsCompletedTo w a.completed) (after-one most qs Reads) text

takes-then : (ps qs : List Put) (a b c : AnswerText) → TakesAll ps a b → TakesAll qs b c → TakesAll (ps ++ qs) a c
takes-then ps qs a b c p q = λ most rs t order is.
    let all : AreInOrder ((rs ++ ps) ++ qs) at_root t = subst (λ (xs : List Put). AreInOrder xs at_root t) (sym (append_assoc rs ps qs)) order in
    let first = in-order-first (rs ++ ps) qs at_root t all in
    subst (λ (xs : List Put). IsTextOf most xs c) (append_assoc rs ps qs) (q most (rs ++ ps) t all (p most rs first.0 first.1 is))

pub takes-reads : (n : ℕ) (a : AnswerText) → TakesAll (reads n) a a
takes-reads zero a = λ most qs t order is. rw (append-nil qs) is
takes-reads (suc n) a = takes-then (Reads ∷ []) (reads n) a a a (takes-read a) (takes-reads n a)

-- ---- the first error

entered-place : (z : WrittenOf) (q : Place) → item_entered z.levels (record z { place = q }) ≡ record (item_entered z.levels z) { place = q }
entered-place z q = go z.levels
  where
    at : (kind : Kind) (depth : ℕ) → item_of kind depth (record z { place = q }) ≡ record (item_of kind depth z) { place = q }
    at ListOf depth = refl
    at ObjectOf depth = refl

    go : (ls : List OpenOf) → item_entered ls (record z { place = q }) ≡ record (item_entered ls z) { place = q }
    go [] = refl
    go (l ∷ ls) = at l.kind l.depth

pub takes-error : (non_null : Bool) (leaf_value : LeafValue) (most : ℕ) (old new : AnswerText) (back entered put : CompletedText) → old.is_plain ≡ true → most ≡ old.most → IsReadBackOf old.writer.tokens old.most old.place back
    → written_of entered ≡ item_entered (written_of back).levels (written_of back) → written_of put ≡ put_one (Has non_null leaf_value) (written_of entered) → IsCompletedAs new (written_of put) most → Takes (Has non_null leaf_value) old new
takes-error non_null leaf_value limit old new back entered put e same read enters puts went = λ most qs t order is.
    let p : Put = Has non_null leaf_value in
    let text = is-plain-text most qs old e is in
    let us : List Token = flat_map put_tokens qs in
    let w : WrittenOf = after_puts most qs in
    let z : WrittenOf = all_taken us (nothing_written most) in
    let first = in-order-first qs (p ∷ []) at_root t order in
    let there : w ≡ record (item_entered z.levels z) { place = w.place } = at-entered first.0 w z first.2.1.0 (read-back qs first.0 most text.plain first.1) in
    let begun : written_of back ≡ record z { place = w.place } =
    read us text.tokens ∙ ap (λ (n : ℕ). record (all_taken us (nothing_written n)) { place = old.place }) is.limit ∙ ap (λ (q : Place). record z { place = q }) text.place in
    let reached : written_of entered ≡ w = enters ∙ ap (λ (x : WrittenOf). item_entered x.levels x) begun ∙ entered-place z w.place ∙ sym there in
    record {
      limit = went.limit ∙ same ∙ is.limit;
      text = has-text most (qs ++ p ∷ []) new went.plain (subst (λ (x : WrittenOf). IsCompletedTo x new.completed) (puts ∙ ap (put_one p) reached ∙ after-one most qs p) went.text);
    }

-- what was read back of all tokens is completed from now on
pub goes-completed : (ts : List Token) (most : ℕ) (old new : AnswerText) (back : CompletedText) → most ≡ old.most → IsReadBackOf ts old.most old.place back → IsCompletedAs new (written_of back) most → IsCompleted ts old new
goes-completed ts most old new back same read went = record {
  plain = went.plain;
  limit = went.limit ∙ same;
  text = λ us is. subst (λ (x : WrittenOf). IsCompletedTo x new.completed) (read us is) went.text;
}

-- of tokens that were written before, nothing else was counted
pub counted-completed : (old new : AnswerText) → IsCompleted old.writer.tokens old new → HasWritten [] old new
counted-completed old new done = subst (λ (b : Bool). HasWrittenBy b (old.writer.tokens ++ []) old new) (sym done.plain) (record {
  plain = done.plain;
  limit = done.limit;
  text = λ us e. done.text us (sym (append-nil old.writer.tokens) ∙ e);
})
