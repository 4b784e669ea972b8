-- Definitions of the text of an answer with its errors, as it is written from a list of puts (sections 6.4.3, 6.4.4 and 7.1 of the
-- GraphQL specification): what stood in an object or a list that becomes null is let go, and nothing more of it is written.
use Rattle.std.specs.Prelude.{◌≡◌, refl, ℕ, suc, ◌+◌, ◌-◌, nat_lt, Bool, false, ◌||◌, List, [], ◌∷◌, ◌++◌, map, reverse, take, length, if◌then◌else◌, Option, Some, None, string_bytes}
use Rattle.std.proofs.Common.{ap, sym, ◌∙◌}
use Rattle.std.specs.Fmt.{signed_decimal}
use Rattle.text_place.specs.declared.place.Place.{Place}
use Rattle.answer_json.specs.declared.field_error.PathSegment.{PathSegment}
use Rattle.json.specs.Token.{Token, string, number, boolean, null}
use Rattle.json.specs.Print.{token_text, separator, begins, ends}
use Rattle.execution.specs.Program.{LeafValue, Value, Null, Fault, Text, Int, Boolean, Kind, Part, At}
use Rattle.execution.specs.Completion.{ErrorOf, own_errors}
use Rattle.answer_json.specs.Answer.{part_of, errors_of}
use Rattle.gq_resolve.specs.Written.{opening, closing, part_tokens}
use Rattle.plan_walk.specs.Puts.{Put, Begins, Ends, Enters, Has, Reads, Waits}
use Rattle.plan_walk.specs.Positions.{kind_of}
use Rattle.gq_resolve.specs.declared.bounded.BoundedText.{BoundedText}
use Rattle.gq_resolve.specs.declared.bounded.BoundedErrors.{BoundedErrors}
use Rattle.gq_resolve.specs.declared.completed_text.OpenLevel.{OpenLevel}
use Rattle.gq_resolve.specs.declared.completed_text.CompletedText.{CompletedText}

-- ---- what a limit has room for

-- the room that is left after so many bytes; none where there was less, and from then on
abbrev pub room_after : Option ℕ → ℕ → Option ℕ
room_after None n = None
room_after (Some room) n = if nat_lt room n then None else Some (room - n)

-- A text: its bytes, whether a value has just ended, and how many bytes more it may have. Where there is no room, it is too long, and
-- its bytes are its first ones.
pub record TextOf : Type 0 where
  pub bytes : List ℕ
  pub after_value : Bool
  pub room : Option ℕ

abbrev pub text_put : Option ℕ → List ℕ → Bool → TextOf → TextOf
text_put None bytes after_value x = record x { room = None }
text_put (Some left) bytes after_value x =
    record { bytes = x.bytes ++ bytes; after_value = after_value; room = Some left }

abbrev pub piece : Bool → Token → List ℕ
piece after_value t = separator after_value t ++ token_text t

abbrev pub with_token : Token → TextOf → TextOf
with_token t x = text_put (room_after x.room (length (piece x.after_value t))) (piece x.after_value t) (ends t) x

-- a token's text, and whether it begins and whether it ends a value
pub record IsTokenText (t : Token) (text : List ℕ) (begins_value ends_value : Bool) : Type 0 where
  pub is : text ≡ token_text t
  pub begins : begins_value ≡ begins t
  pub ends : ends_value ≡ ends t

abbrev pub with_tokens : List Token → TextOf → TextOf
with_tokens [] x = x
with_tokens (t ∷ ts) x = with_tokens ts (with_token t x)

-- how many bytes the text of an error has at least
abbrev pub error_size : ErrorOf → ℕ
error_size e = suc (length e.message + length e.path)

-- errors, and how many bytes more they may have; where there is no room, they are the first ones
pub record ErrorsOf : Type 0 where
  pub errors : List ErrorOf
  pub room : Option ℕ

abbrev pub error_put : Option ℕ → ErrorOf → ErrorsOf → ErrorsOf
error_put None e k = record k { room = None }
error_put (Some left) e k = record { errors = k.errors ++ e ∷ []; room = Some left }

abbrev pub with_error : ErrorOf → ErrorsOf → ErrorsOf
with_error e k = error_put (room_after k.room (error_size e)) e k

abbrev pub with_errors : List ErrorOf → ErrorsOf → ErrorsOf
with_errors [] k = k
with_errors (e ∷ es) k = with_errors es (with_error e k)

-- ---- what is written

-- Says of an object or a list that has begun: which of them it is, how many steps lead to it, whether what is around it is muted, and the
-- text before it.
pub record OpenOf : Type 0 where
  pub kind : Kind
  pub depth : ℕ
  pub muted : Bool
  pub before : TextOf

-- Says what is written so far: what has begun and not ended, innermost first; the steps to what is put next, and where its errors are;
-- whether it stands in something that becomes null, and so isn't written; the text since what was begun last; and the errors.
pub record WrittenOf : Type 0 where
  pub levels : List OpenOf
  pub path : List Part
  pub place : Place
  pub muted : Bool
  pub text : TextOf
  pub found : ErrorsOf

-- ---- one put

abbrev pub text_with : Bool → List Token → TextOf → TextOf
text_with muted ts x = if muted then x else with_tokens ts x

abbrev pub written : List Token → WrittenOf → WrittenOf
written ts w = record w { text = text_with w.muted ts w.text }

abbrev pub begun : Kind → WrittenOf → WrittenOf
begun kind w = written (opening kind ∷ []) (record w {
  levels = record { kind = kind; depth = length w.path; muted = w.muted; before = w.text }
      ∷ w.levels;
  text = record w.text { bytes = [] };
})

abbrev pub left : OpenOf → List OpenOf → WrittenOf → WrittenOf
left l ls w = record w { levels = ls; path = take l.depth w.path }

-- what was begun last is null, and pulls down what is around it where its type is non-null
abbrev pub nulled : Bool → Bool → TextOf → WrittenOf → WrittenOf
nulled non_null muted before w =
    written (null ∷ []) (record w { muted = muted || non_null; text = before })

abbrev pub text_after : TextOf → TextOf → TextOf
text_after before x = record x { bytes = before.bytes ++ x.bytes }

abbrev pub closed : Kind → TextOf → WrittenOf → WrittenOf
closed kind before w =
    record w { text = text_after before (with_tokens (closing kind ∷ []) w.text) }

abbrev pub ended_in : List OpenOf → Kind → Bool → WrittenOf → WrittenOf
ended_in [] kind non_null w = w
ended_in (l ∷ ls) kind non_null w = if w.muted then nulled non_null l.muted l.before (left l ls w)
    else closed kind l.before (left l ls w)

abbrev pub depth_in : List OpenOf → ℕ
depth_in [] = 0
depth_in (l ∷ ls) = l.depth

abbrev pub entered_at : Part → Place → WrittenOf → WrittenOf
entered_at part place w = record w {
  path = take (depth_in w.levels) w.path ++ part ∷ [];
  place = place;
}

-- a null or a fault pulls down what is around it, where its type is non-null
abbrev pub pulls : Bool → LeafValue → Bool
pulls non_null (Value leaf) = false
pulls non_null Null = non_null
pulls non_null (Fault text) = non_null

-- a position with nothing below it; an error is null
abbrev pub leaf_token : LeafValue → Token
leaf_token (Value (Text t)) = string t
leaf_token (Value (Int z)) = number (signed_decimal z)
leaf_token (Value (Boolean b)) = boolean b
leaf_token Null = null
leaf_token (Fault text) = null

abbrev pub found_at : Bool → List ErrorOf → WrittenOf → WrittenOf
found_at pulled es w = record w { muted = w.muted || pulled; found = with_errors es w.found }

-- an error at the position of what is put next, which is null then
abbrev pub faulted : List ℕ → Bool → WrittenOf → WrittenOf
faulted message non_null w = written (null ∷ [])
    (found_at non_null (record { message = message; place = w.place; path = w.path } ∷ []) w)

abbrev pub given_leaf_value : Bool → LeafValue → WrittenOf → WrittenOf
given_leaf_value non_null leaf_value w = written (leaf_token leaf_value ∷ [])
    (found_at (pulls non_null leaf_value) (own_errors non_null w.place w.path (At leaf_value)) w)

abbrev pub put_one : Put → WrittenOf → WrittenOf
put_one (Begins kind) w = begun kind w
put_one (Ends kind non_null) w = ended_in w.levels kind non_null w
put_one (Enters kind position) w = written (part_tokens kind position.part)
    (entered_at position.part position.place w)
put_one (Has non_null leaf_value) w = given_leaf_value non_null leaf_value w
put_one Reads w = w
put_one (Waits p) w = w

-- ---- all puts

abbrev pub put_all : List Put → WrittenOf → WrittenOf
put_all [] w = w
put_all (x ∷ xs) w = put_all xs (put_one x w)

pub put_all-append : (ps qs : List Put) (w : WrittenOf)
    → put_all (ps ++ qs) w ≡ put_all qs (put_all ps w)
put_all-append [] qs w = refl
put_all-append (p ∷ ps) qs w = put_all-append ps qs (put_one p w)

-- the puts of two calls, one after the other
pub put_all-more : (ps qs : List Put) (a b c : WrittenOf)
    → b ≡ put_all ps a → c ≡ put_all qs b → c ≡ put_all (ps ++ qs) a
put_all-more ps qs a b c f g = g ∙ ap (put_all qs) f ∙ sym (put_all-append ps qs a)

-- Nothing, of an answer that may have `most` bytes. An error at its root has the place of a text's first character.
abbrev pub nothing_written : ℕ → WrittenOf
nothing_written most = record {
  levels = [];
  path = [];
  place = record { line = 1; column = 1 };
  muted = false;
  text = record { bytes = []; after_value = false; room = Some most };
  found = record { errors = []; room = Some most };
}

-- ---- what contracts see

abbrev pub text_of : BoundedText → TextOf
text_of t = record { bytes = string_bytes t.text; after_value = t.after_value; room = t.room }

abbrev pub errors_kept : BoundedErrors → ErrorsOf
errors_kept e = record { errors = errors_of e.errors.items; room = e.room }

abbrev pub error_at : List ℕ → Place → List PathSegment → ErrorOf
error_at message place path =
    record { message = message; place = place; path = map part_of path }

abbrev pub level_seen : OpenLevel → OpenOf
level_seen l =
    record { kind = kind_of l.kind; depth = l.depth; muted = l.muted; before = text_of l.before }

abbrev pub levels_seen : List OpenLevel → List OpenOf
levels_seen ls = reverse (map level_seen ls)

abbrev pub written_of : CompletedText → WrittenOf
written_of t = record {
  levels = levels_seen t.levels.items;
  path = map part_of t.path.items;
  place = t.place;
  muted = t.muted;
  text = text_of t.text;
  found = errors_kept t.errors;
}
