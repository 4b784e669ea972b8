-- Numbers, tables and texts among the words of a command line.
use Rattle.std.proofs.Common.{zero, suc, subst, ◌≡◌, ◌≢◌, ℕ, ◌+◌, ◌<◌, List, [], ◌∷◌, ◌++◌, length, get_or, drop, map, refl, sym, ap, ◌∙◌, Some, None, Option, append_assoc, drop-cons, add-one, arith}
use Rattle.std.specs.Prelude.{Result, Ok, Err, Any, Bool, true, false, codes, string_bytes}
use Rattle.std.specs.Borrow.{Bor}
use Rattle.std.specs.List.{All}
use Rattle.std.proofs.lemmas.List.{map-append}
use Rattle.std.proofs.lemmas.List.Elements.{All-nil}
use Rattle.std.specs.Str.Parse.{ParsesUnsigned}
use Rattle.std.proofs.lemmas.List.{get_or_default}
use Rattle.clap.specs.Words.{ReadsOne}
use Rattle.query_command.specs.Words.{HasNoEquals, IsNumber, IsFlag, AreTables, joined, equals_sign}
use Rattle.world_files.specs.declared.files.TableFile.{TableFile}

-- the number that `get_one` reads
pub number_read : {E : Type 0} (gives : List ℕ → Result ℕ E → Type 0) → ((text : List ℕ) (r : Result ℕ E) → gives text r → ParsesUnsigned 32 10 text r)
    → (o : Option (List ℕ)) (n : Option ℕ) → (o ≡ None → n ≡ None) → ((text : List ℕ) → o ≡ Some text → ReadsOne gives text n) → IsNumber o n
number_read gives sound None n none some = none refl
number_read gives sound (Some text) (Some n) none some = sound text (Ok n) (some text refl)
number_read gives sound (Some text) None none some = let read = some text refl in sound text (Err read.0) read.1

-- the flag that `get_flag` reads
pub flag_read : (o : Option (List ℕ)) (b : Bool) → (o ≡ None → b ≡ false) → (o ≡ Some (codes "true") → b ≡ true) → (o ≡ Some (codes "false") → b ≡ false) → IsFlag o b
flag_read None b none set unset = none refl
flag_read (Some text) b none set unset = (λ e. set (ap Some e), λ e. unset (ap Some e))

pub lacks_equals : (text : List ℕ) → ((i : ℕ) → i < length text → get_or text i 0 ≢ equals_sign) → HasNoEquals text
lacks_equals text lacks k d lt e = lacks k lt (get_or_default text k 0 d lt ∙ e)

abbrev pub texts : List (Bor (List ℕ)) → List (List ℕ)
texts words = map (λ w. w.now) words

-- the word at a place
text_at_place : (words : List (Bor (List ℕ))) (i : ℕ) (d : Bor (List ℕ)) → i < length words
    → (i < length (texts words)) × (get_or (texts words) i (get_or words i d).now ≡ (get_or words i d).now)
text_at_place [] i d lt = absurd (omega (arith, lt))
text_at_place (w ∷ words) zero d lt = (omega arith, refl)
text_at_place (w ∷ words) (suc i) d lt = let rest = text_at_place words i d (omega (arith, lt)) in (omega (arith, rest.0), rest.1)

pub bad_word : (words : List (Bor (List ℕ))) (i : ℕ) (d : Bor (List ℕ)) → i < length words → HasNoEquals (get_or words i d).now → Any HasNoEquals (texts words)
bad_word words i d lt lacks = let place = text_at_place words i d lt in (i, (get_or words i d).now, place.0, place.1, lacks)

-- one table more
pub more_tables : (words : List (Bor (List ℕ))) (i : ℕ) (d : Bor (List ℕ)) (tables later : List TableFile) (t : TableFile) → i < length words → later ≡ tables ++ t ∷ [] → joined t ≡ (get_or words i d).now
    → map joined tables ++ texts (drop i words) ≡ texts words → map joined later ++ texts (drop (i + 1) words) ≡ texts words
more_tables words i d tables later t lt e same whole =
    let rest = texts (drop (i + 1) words) in
    let next : drop i words ≡ get_or words i d ∷ drop (i + 1) words = rw add-one (drop-cons words i d lt) in
    let left : texts (drop i words) ≡ (get_or words i d).now ∷ rest = ap texts next in
    ap (λ l. map joined l ++ rest) e
    ∙ ap (λ l. l ++ rest) (map-append joined tables (t ∷ []))
    ∙ append_assoc (map joined tables) (joined t ∷ []) rest
    ∙ ap (λ x. map joined tables ++ (x ∷ rest)) same
    ∙ ap (λ l. map joined tables ++ l) (sym left)
    ∙ whole

pub no_tables : (words : List (List ℕ)) (tables : List TableFile) → words ≡ [] → tables ≡ [] → AreTables words tables
no_tables words tables e f = record {
  whole = ap (map joined) f ∙ sym e;
  first = subst (All (λ t. HasNoEquals (string_bytes t.name))) (sym f) (All-nil (λ t. HasNoEquals (string_bytes t.name)));
}
