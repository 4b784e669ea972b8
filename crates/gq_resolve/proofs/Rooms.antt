-- What is written of a text, and of errors, that may be too long.
use Rattle.std.proofs.Common.{◌≡◌, ◌<◌, ◌+◌, ◌-◌, ℕ, Bool, true, false, List, [], ◌∷◌, ◌++◌, length, sym, ◌∙◌, ap, refl, arith, append_assoc, append-nil, length-append, if◌then◌else◌, nat_lt, ltb-true, ltb-false, Some, None}
use Rattle.json.specs.Token.{Token}
use Rattle.json.specs.Print.{print_from, separator, token_text, ends}
use Rattle.execution.specs.Completion.{ErrorOf}
use Rattle.gq_resolve.specs.Texted.{TextOf, ErrorsOf, text_put, piece, with_token, with_tokens, error_size, error_put, with_error, with_errors}
use Rattle.gq_resolve.proofs.Sizes.{errors_size}

-- ---- texts

-- there is no room from then on
no-room : (ts : List Token) (x : TextOf) → x.room ≡ None → (with_tokens ts x).room ≡ None
no-room [] x h = h
no-room (t ∷ ts) x h = no-room ts (with_token t x) (rw h refl)

-- all of it was written, or it is too long
pub record IsText (room : ℕ) (bytes : List ℕ) (text : List ℕ) (x : TextOf) : Type 0 where
  pub some : (left : ℕ) → x.room ≡ Some left → x.bytes ≡ bytes ++ text
  pub none : x.room ≡ None → room < length text

pub is-text : (ts : List Token) (room : ℕ) (bytes : List ℕ) (after_value : Bool) → IsText room bytes (print_from after_value ts) (with_tokens ts (record { bytes = bytes; after_value = after_value; room = Some room }))
unfolding print_from
is-text [] room bytes after_value = record { some = λ left h. sym (append-nil bytes); none = λ h. absurd (cc h) }
is-text (t ∷ ts) room bytes after_value = go (is-text ts (room - length new) (bytes ++ new) (ends t)) (nat_lt room (length new)) refl
  where
    new : List ℕ
    new = piece after_value t

    rest : List ℕ
    rest = print_from (ends t) ts

    all : length (separator after_value t ++ (token_text t ++ rest)) ≡ length new + length rest
    all = omega (arith, length-append (separator after_value t) (token_text t ++ rest), length-append (token_text t) rest, length-append (separator after_value t) (token_text t))

    go : IsText (room - length new) (bytes ++ new) rest (with_tokens ts (record { bytes = bytes ++ new; after_value = ends t; room = Some (room - length new) }))
        → (b : Bool) → nat_lt room (length new) ≡ b → IsText room bytes (separator after_value t ++ (token_text t ++ rest)) (with_tokens ts (text_put (if b then None else Some (room - length new)) new (ends t) (record { bytes = bytes; after_value = after_value; room = Some room })))
    go later true e = record {
      some = λ left h. absurd (cc (sym h ∙ no-room ts (record { bytes = bytes; after_value = after_value; room = None }) refl));
      none = λ h. omega (arith, ltb-true room (length new) e, all);
    }
    go later false e = record {
      some = λ left h. later.some left h ∙ append_assoc bytes new rest ∙ ap (λ (bs : List ℕ). bytes ++ bs) (append_assoc (separator after_value t) (token_text t) rest);
      none = λ h. omega (arith, ltb-false room (length new) e, all, later.none h);
    }

-- ---- errors

no-room-errors : (es : List ErrorOf) (k : ErrorsOf) → k.room ≡ None → (with_errors es k).room ≡ None
no-room-errors [] k h = h
no-room-errors (e ∷ es) k h = no-room-errors es (with_error e k) (rw h refl)

pub record AreErrors (room : ℕ) (before es : List ErrorOf) (k : ErrorsOf) : Type 0 where
  pub some : (left : ℕ) → k.room ≡ Some left → k.errors ≡ before ++ es
  pub none : k.room ≡ None → room < errors_size es

pub are-errors : (es : List ErrorOf) (room : ℕ) (before : List ErrorOf) → AreErrors room before es (with_errors es (record { errors = before; room = Some room }))
are-errors [] room before = record { some = λ left h. sym (append-nil before); none = λ h. absurd (cc h) }
are-errors (e ∷ es) room before = go (are-errors es (room - error_size e) (before ++ e ∷ [])) (nat_lt room (error_size e)) refl
  where
    go : AreErrors (room - error_size e) (before ++ e ∷ []) es (with_errors es (record { errors = before ++ e ∷ []; room = Some (room - error_size e) }))
        → (b : Bool) → nat_lt room (error_size e) ≡ b → AreErrors room before (e ∷ es) (with_errors es (error_put (if b then None else Some (room - error_size e)) e (record { errors = before; room = Some room })))
    go later true is = record {
      some = λ left h. absurd (cc (sym h ∙ no-room-errors es (record { errors = before; room = None }) refl));
      none = λ h. omega (arith, ltb-true room (error_size e) is);
    }
    go later false is = record {
      some = λ left h. later.some left h ∙ append_assoc before (e ∷ []) es;
      none = λ h. omega (arith, ltb-false room (error_size e) is, later.none h);
    }
