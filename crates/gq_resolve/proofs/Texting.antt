-- What is written of a program is the text of its answer, and its errors.
use Rattle.std.proofs.Common.{◌≡◌, ℕ, Bool, true, false, ◌||◌, ◌&&◌, List, [], ◌∷◌, ◌++◌, take, length, sym, ◌∙◌, ap, subst, refl, append_assoc, append-nil, if◌then◌else◌, Option, Some, None}
use Rattle.std.proofs.Math.Bool.{and-true, and-false}
use Rattle.std.proofs.lemmas.Bool.{or_parts}
use Rattle.std.proofs.lemmas.List.{take_at}
use Rattle.json.specs.Token.{Token, null}
use Rattle.json.specs.Tree.{json_tokens, items_tokens, members_tokens}
use Rattle.json.specs.Print.{ends}
use Rattle.text_place.specs.declared.place.Place.{Place}
use Rattle.execution.specs.Loads.{Reader}
use Rattle.execution.specs.Program.{LeafValue, Value, Null, Fault, Text, Int, Boolean, Kind, ListOf, ObjectOf, Part, Key, Item, Program, Is, Read, Under, Programs, End, With, Tree, Open, At, Trees, given, tree, trees}
use Rattle.execution.specs.Completion.{ErrorOf, ResponseOf, NullResponse, Holding, ResponsesOf, NoResponses, Responding, is_open, any_open}
use Rattle.execution.specs.Executed.{nulls, pulls_down, response, responses, errors, all_errors, completed}
use Rattle.gq_resolve.specs.Answered.{json_of, items_json, members_json}
use Rattle.plan_walk.specs.Puts.{Put, Ends, Waits, puts, all_puts}
use Rattle.gq_resolve.specs.Written.{opening, closing, part_tokens}
use Rattle.gq_resolve.specs.Texted.{TextOf, ErrorsOf, OpenOf, WrittenOf, room_after, text_put, piece, with_token, with_tokens, text_after, text_with, with_error, with_errors, leaf_token, pulls, nulled, closed, left, put_all, put_all-append, nothing_written}

-- ---- texts and errors, one after another

tokens-append : (ts us : List Token) (x : TextOf) → with_tokens (ts ++ us) x ≡ with_tokens us (with_tokens ts x)
tokens-append [] us x = refl
tokens-append (t ∷ ts) us x = tokens-append ts us (with_token t x)

errors-append : (es fs : List ErrorOf) (k : ErrorsOf) → with_errors (es ++ fs) k ≡ with_errors fs (with_errors es k)
errors-append [] fs k = refl
errors-append (e ∷ es) fs k = errors-append es fs (with_error e k)

put-after : (left : Option ℕ) (bytes : List ℕ) (ended : Bool) (before x : TextOf) → text_put left bytes ended (text_after before x) ≡ text_after before (text_put left bytes ended x)
put-after None bytes ended before x = refl
put-after (Some n) bytes ended before x = ap (λ (bs : List ℕ). record { bytes = bs; after_value = ended; room = Some n }) (append_assoc before.bytes x.bytes bytes)

-- tokens are written alike, whatever stands before them
tokens-after : (ts : List Token) (before x : TextOf) → with_tokens ts (text_after before x) ≡ text_after before (with_tokens ts x)
tokens-after [] before x = refl
tokens-after (t ∷ ts) before x =
    ap (with_tokens ts) (put-after (room_after x.room (length (piece x.after_value t))) (piece x.after_value t) (ends t) before x) ∙ tokens-after ts before (with_token t x)

-- ---- positions

-- a position was put: its errors are there, it pulls down what is around it or not, and its tokens are written unless they are muted
record Settles (es : List ErrorOf) (down : Bool) (ts : List Token) (old new : WrittenOf) : Type 0 where
  pub state : new ≡ record old { place = new.place; muted = old.muted || down; text = new.text; found = with_errors es old.found }
  pub whole : (old.muted || down) ≡ false → new.text ≡ with_tokens ts old.text

-- an object or a list has ended, inside these
abbrev shut : Bool → Bool → OpenOf → List OpenOf → List Part → Place → TextOf → ErrorsOf → WrittenOf
shut pulled non_null l ls path place x found = record {
  levels = ls;
  path = path;
  place = place;
  muted = pulled && (l.muted || non_null);
  text = if pulled then text_with (l.muted || non_null) (null ∷ []) l.before else text_after l.before x;
  found = found;
}

abbrev kind_tokens : Kind → ResponsesOf → List Token
kind_tokens ListOf rs = items_tokens (items_json rs)
kind_tokens ObjectOf rs = members_tokens (members_json rs)

kind-more : (kind : Kind) (part : Part) (r : ResponseOf) (rs : ResponsesOf) → kind_tokens kind (Responding part r rs) ≡ part_tokens kind part ++ (json_tokens (json_of r) ++ kind_tokens kind rs)
kind-more ListOf part r rs = refl
kind-more ObjectOf (Key k) r rs = refl
kind-more ObjectOf (Item n) r rs = refl

kind-whole : (kind : Kind) (rs : ResponsesOf) → json_tokens (json_of (Holding kind rs)) ≡ opening kind ∷ kind_tokens kind rs
kind-whole ListOf rs = refl
kind-whole ObjectOf rs = refl

kind-none : (kind : Kind) → kind_tokens kind NoResponses ≡ closing kind ∷ []
kind-none ListOf = refl
kind-none ObjectOf = refl

-- no position more was put
ended-last : (muted : Bool) (kind : Kind) (l : OpenOf) (ls : List OpenOf) (path base : List Part) (non_null : Bool) (place : Place) (x : TextOf) (found : ErrorsOf) → take l.depth path ≡ base
    → (if muted then nulled non_null l.muted l.before (left l ls (record { levels = l ∷ ls; path = path; place = place; muted = muted; text = x; found = found }))
    else closed kind l.before (left l ls (record { levels = l ∷ ls; path = path; place = place; muted = muted; text = x; found = found })))
    ≡ shut (muted || false) non_null l ls base place (with_tokens (kind_tokens kind NoResponses) x) found
ended-last true kind l ls path base non_null place x found p = rw p refl
ended-last false kind l ls path base non_null place x found p = rw (p, kind-none kind) refl

-- one position was put, and then those after it
level-more : (muted down rest non_null : Bool) (l : OpenOf) (ls : List OpenOf) (base : List Part) (place : Place) (x y : TextOf) (kind : Kind) (part : Part) (r : ResponseOf) (rs : ResponsesOf) (es fs : List ErrorOf) (found : ErrorsOf)
    → ((muted || down) ≡ false → y ≡ with_tokens (json_tokens (json_of r)) (text_with muted (part_tokens kind part) x))
    → shut ((muted || down) || rest) non_null l ls base place (with_tokens (kind_tokens kind rs) y) (with_errors fs (with_errors es found))
    ≡ shut (muted || (down || rest)) non_null l ls base place (with_tokens (kind_tokens kind (Responding part r rs)) x) (with_errors (es ++ fs) found)
level-more true down rest non_null l ls base place x y kind part r rs es fs found h = rw (errors-append es fs found) refl
level-more false true rest non_null l ls base place x y kind part r rs es fs found h = rw (errors-append es fs found) refl
level-more false false true non_null l ls base place x y kind part r rs es fs found h = rw (errors-append es fs found) refl
level-more false false false non_null l ls base place x y kind part r rs es fs found h =
    let first : List Token = json_tokens (json_of r) in
    let text : with_tokens (kind_tokens kind rs) y ≡ with_tokens (kind_tokens kind (Responding part r rs)) x =
    ap (with_tokens (kind_tokens kind rs)) (h refl)
    ∙ sym (tokens-append first (kind_tokens kind rs) (with_tokens (part_tokens kind part) x))
    ∙ sym (tokens-append (part_tokens kind part) (first ++ kind_tokens kind rs) x)
    ∙ ap (λ (ts : List Token). with_tokens ts x) (sym (kind-more kind part r rs)) in
    rw (errors-append es fs found, text) refl

text-whole : (x : TextOf) (kind : Kind) (rs : ResponsesOf) → text_after x (with_tokens (kind_tokens kind rs) (with_tokens (opening kind ∷ []) (record x { bytes = [] }))) ≡ with_tokens (json_tokens (json_of (Holding kind rs))) x
text-whole x kind rs = rw (kind-whole kind rs) (sym (tokens-after (opening kind ∷ kind_tokens kind rs) x (record x { bytes = [] }))
    ∙ ap (λ (bs : List ℕ). with_tokens (opening kind ∷ kind_tokens kind rs) (record x { bytes = bs })) (append-nil x.bytes))

-- it was all of this object or list
level-settled : (muted non_null pulled : Bool) (levels : List OpenOf) (path : List Part) (place after : Place) (x : TextOf) (found : ErrorsOf) (es : List ErrorOf) (kind : Kind) (rs : ResponsesOf)
    → Settles es (non_null && pulled) (json_tokens (json_of (if pulled then NullResponse else Holding kind rs))) (record { levels = levels; path = path; place = place; muted = muted; text = x; found = found })
    (shut (muted || pulled) non_null (record { kind = kind; depth = length path; muted = muted; before = x }) levels path after
    (with_tokens (kind_tokens kind rs) (text_with muted (opening kind ∷ []) (record x { bytes = [] }))) (with_errors es found))
level-settled true non_null pulled levels path place after x found es kind rs = record { state = refl; whole = λ h. absurd (cc h) }
level-settled false true true levels path place after x found es kind rs = record { state = refl; whole = λ h. absurd (cc h) }
level-settled false false true levels path place after x found es kind rs = record { state = refl; whole = λ h. refl }
level-settled false true false levels path place after x found es kind rs = record { state = refl; whole = λ h. text-whole x kind rs }
level-settled false false false levels path place after x found es kind rs = record { state = refl; whole = λ h. text-whole x kind rs }

leaf-pulls : (non_null : Bool) (leaf_value : LeafValue) → pulls non_null leaf_value ≡ (non_null && nulls (At leaf_value))
leaf-pulls non_null (Value leaf) = sym (and-false non_null)
leaf-pulls non_null Null = sym (and-true non_null)
leaf-pulls non_null (Fault text) = sym (and-true non_null)

leaf-tokens : (leaf_value : LeafValue) → json_tokens (json_of (response (At leaf_value))) ≡ leaf_token leaf_value ∷ []
leaf-tokens (Value (Text text)) = refl
leaf-tokens (Value (Int z)) = refl
leaf-tokens (Value (Boolean b)) = refl
leaf-tokens Null = refl
leaf-tokens (Fault text) = refl

leaf-settled : (muted : Bool) (ts : List Token) (x : TextOf) → muted ≡ false → text_with muted ts x ≡ with_tokens ts x
leaf-settled true ts x h = absurd (cc h)
leaf-settled false ts x h = refl

mutual
  settles : (non_null : Bool) (p : Program) (R : Reader) (w : WrittenOf) → is_open (tree p R) ≡ false
      → Settles (errors non_null w.place w.path (tree p R)) (non_null && nulls (tree p R)) (json_tokens (json_of (response (tree p R)))) w (put_all (puts non_null p R) w)
  settles non_null (Is leaf_value) R w h =
      rw (sym (leaf-pulls non_null leaf_value), leaf-tokens leaf_value) (record { state = refl; whole = λ none. leaf-settled (w.muted || pulls non_null leaf_value) (leaf_token leaf_value ∷ []) w.text none })
  settles non_null (Read load next) R w h =
      elim (R load) as (λ o. is_open (given o Open (λ outcome. tree (next outcome) R)) ≡ false
      → Settles (errors non_null w.place w.path (given o Open (λ outcome. tree (next outcome) R))) (non_null && nulls (given o Open (λ outcome. tree (next outcome) R)))
      (json_tokens (json_of (response (given o Open (λ outcome. tree (next outcome) R))))) w
      (put_all (given o (Waits (Read load next) ∷ []) (λ outcome. puts non_null (next outcome) R)) w)) [
        | None ↦ λ closed. absurd (cc closed)
        | Some outcome ↦ λ closed. settles non_null (next outcome) R w closed
      ] h
  settles non_null (Under kind below) R w h =
      let l : OpenOf = record { kind = kind; depth = length w.path; muted = w.muted; before = w.text } in
      let ts : Trees = trees below R in
      let es : List ErrorOf = all_errors w.path ts in
      let last = shuts below R kind non_null l w.levels w.path w.path [] w.place w.muted (text_with w.muted (opening kind ∷ []) (record w.text { bytes = [] })) w.found (sym (append-nil w.path)) refl h in
      subst (λ (new : WrittenOf). Settles es (non_null && pulls_down ts) (json_tokens (json_of (if pulls_down ts then NullResponse else Holding kind (responses ts)))) w new)
      (sym last.1) (level-settled w.muted non_null (pulls_down ts) w.levels w.path w.place last.0 w.text w.found es kind (responses ts))

  -- the rest of an object or a list is put, and where the errors of what was put last are
  shuts : (ps : Programs) (R : Reader) (kind : Kind) (non_null : Bool) (l : OpenOf) (ls : List OpenOf) (path base extra : List Part) (place : Place) (muted : Bool) (x : TextOf) (found : ErrorsOf)
      → path ≡ base ++ extra → length base ≡ l.depth → any_open (trees ps R) ≡ false
      → (after : Place) × (put_all (all_puts kind ps R ++ Ends kind non_null ∷ []) (record { levels = l ∷ ls; path = path; place = place; muted = muted; text = x; found = found })
      ≡ shut (muted || pulls_down (trees ps R)) non_null l ls base after (with_tokens (kind_tokens kind (responses (trees ps R))) x) (with_errors (all_errors base (trees ps R)) found))
  shuts End R kind non_null l ls path base extra place muted x found p d h =
      (place, ended-last muted kind l ls path base non_null place x found (ap (take l.depth) p ∙ take_at base extra l.depth d))
  shuts (With position q rest) R kind non_null l ls path base extra place muted x found p d h =
      let t : Tree = tree q R in
      let ts : Trees = trees rest R in
      let y : TextOf = text_with muted (part_tokens kind position.part) x in
      let at : List Part → WrittenOf = λ (steps : List Part). record { levels = l ∷ ls; path = steps; place = position.place; muted = muted; text = y; found = found } in
      let steps : List Part = base ++ position.part ∷ [] in
      let first : List Put = puts position.non_null q R in
      let others : List Put = all_puts kind rest R in
      let end : List Put = Ends kind non_null ∷ [] in
      let open_none : (is_open t ≡ false) × (any_open ts ≡ false) = or_parts (is_open t) (any_open ts) h in
      let one = settles position.non_null q R (at steps) open_none.0 in
      let put : WrittenOf = put_all first (at steps) in
      let last = shuts rest R kind non_null l ls steps base (position.part ∷ []) put.place (muted || (position.non_null && nulls t)) put.text
      (with_errors (errors position.non_null position.place steps t) found) refl d open_none.1 in (
        last.0,
        ap (λ (start : List Part). put_all ((first ++ others) ++ end) (at (start ++ position.part ∷ []))) (ap (take l.depth) p ∙ take_at base extra l.depth d)
            ∙ ap (λ xs. put_all xs (at steps)) (append_assoc first others end)
            ∙ put_all-append first (others ++ end) (at steps)
            ∙ ap (put_all (others ++ end)) one.state
            ∙ last.1
            ∙ level-more muted (position.non_null && nulls t) (pulls_down ts) non_null l ls base last.0 x put.text kind position.part (response t) (responses ts) (errors position.non_null position.place steps t) (all_errors base ts) found one.whole,
      )

-- of a whole program: its text, and its errors
pub whole-settled : (p : Program) (R : Reader) (most : ℕ) → is_open (tree p R) ≡ false
    → ((put_all (puts false p R) (nothing_written most)).text ≡ with_tokens (json_tokens (json_of (response (tree p R)))) (nothing_written most).text)
    × ((put_all (puts false p R) (nothing_written most)).found ≡ with_errors (completed (tree p R)).errors (nothing_written most).found)
whole-settled p R most h =
    let one = settles false p R (nothing_written most) h in
    (one.whole refl, ap (λ (w : WrittenOf). w.found) one.state)
