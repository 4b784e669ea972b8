-- Lines and words by where a text is cut.
use Rattle.std.proofs.Common.{◌≡◌, ◌≢◌, ℕ, suc, ◌<◌, true, false, cond, eqb, List, [], ◌∷◌, ◌++◌, length, get_or, refl, sym, ap, ◌∙◌, arith, inl, inr, length-append, Bor}
use Rattle.std.specs.Prelude.{Option, Some, None, option_map, MatchOption, unwrap_or, ⊤}
use Rattle.std.proofs.lemmas.Bool.{ne_eqb, eq-eqb, eqb-true, cases_Bool}
use Rattle.std.proofs.lemmas.Str.Pattern.{IsSplitOnceResult, split_parts}
use Rattle.bindings_syntax.specs.Cuts.{Text, with_byte, cut_at}
use Rattle.bindings_syntax.specs.Lines.{statement_lines, on_first}
use Rattle.bindings_syntax.specs.Words.{words_of}

has_none : (mark b : ℕ) (bs : Text) → ((i : ℕ) → i < length (b ∷ bs) → get_or (b ∷ bs) i 0 ≢ mark) → (b ≢ mark) × ((i : ℕ) → i < length bs → get_or bs i 0 ≢ mark)
has_none mark b bs h = (h 0 (omega arith), λ i k. h (suc i) (omega arith))

cut_none : (mark : ℕ) (bs : Text) → ((i : ℕ) → i < length bs → get_or bs i 0 ≢ mark) → cut_at mark bs ≡ None
cut_none mark [] h = refl
cut_none mark (b ∷ bs) h =
    let parts = has_none mark b bs h in
    rw (ne_eqb b mark parts.0, cut_none mark bs parts.1) refl

cut_some : (mark : ℕ) (xs ys : Text) → ((i : ℕ) → i < length xs → get_or xs i 0 ≢ mark) → cut_at mark (xs ++ mark ∷ ys) ≡ Some (xs, ys)
cut_some mark [] ys h = rw (eq-eqb mark mark refl) refl
cut_some mark (x ∷ xs) ys h =
    let parts = has_none mark x xs h in
    rw (ne_eqb x mark parts.0, cut_some mark xs ys parts.1) refl

-- the result of `split_once` is the cut at the first such mark
pub cut_from : (mark : ℕ) (bs : Text) (r : Option (Bor Text × Bor Text)) → IsSplitOnceResult mark bs r → mark < 128 → option_map (λ p. (p.0.now, p.1.now)) r ≡ cut_at mark bs
cut_from mark bs None h ascii = sym (cut_none mark bs (split_parts mark bs None h ascii))
cut_from mark bs (Some p) h ascii =
    let parts = split_parts mark bs (Some p) h ascii in
    sym (ap (cut_at mark) parts.0 ∙ cut_some mark p.0.now p.1.now parts.1)

pub cut_shorter : (mark : ℕ) (bs : Text) (r : Option (Bor Text × Bor Text)) → IsSplitOnceResult mark bs r → mark < 128 → MatchOption r ⊤ (λ p. length p.1.now < length bs)
cut_shorter mark bs None h ascii = tt
cut_shorter mark bs (Some p) h ascii =
    let parts = split_parts mark bs (Some p) h ascii in
    rw parts.0 (omega (arith, length-append p.0.now (mark ∷ p.1.now)))

-- a piece that nothing ends
abbrev pub last_piece : Text → List Text
last_piece [] = []
last_piece (b ∷ bs) = (b ∷ bs) ∷ []

-- a piece before those behind it, unless it is empty
abbrev pub piece_before : Text → List Text → List Text
piece_before [] pieces = pieces
piece_before (b ∷ bs) pieces = (b ∷ bs) ∷ pieces

abbrev pub WordsCut : Option (Text × Text) → List Text → Text → Type 0
WordsCut None words bs = words ≡ last_piece bs
WordsCut (Some p) words bs = words ≡ piece_before p.0 (words_of p.1)

word_goes_on : (b x : ℕ) (xs : Text) (o : Option (Text × Text)) (words : List Text) → WordsCut (option_map (with_byte x) o) words (x ∷ xs)
    → WordsCut (option_map (with_byte b) (option_map (with_byte x) o)) (on_first b words) (b ∷ x ∷ xs)
word_goes_on b x xs None words h = ap (on_first b) h
word_goes_on b x xs (Some p) words h = ap (on_first b) h

pub words_cut : (bs : Text) → WordsCut (cut_at 32 bs) (words_of bs) bs
words_cut [] = refl
words_cut (b ∷ []) = elim (cases_Bool (eqb b 32)) [ inl is ↦ rw is refl | inr other ↦ rw other refl ]
words_cut (b ∷ x ∷ xs) =
    let more = words_cut (x ∷ xs) in
    elim (cases_Bool (eqb b 32)) [
      | inl is ↦ rw is refl
      | inr other ↦ elim (cases_Bool (eqb x 32)) [
        | inl ends ↦ rw (other, ends) refl
        | inr on ↦ rw (other, on) (word_goes_on b x xs (cut_at 32 xs) _ (rw on at more))
      ]
    ]

-- a line without the carriage return at its end
abbrev pub unreturned : Text → Text
unreturned [] = []
unreturned (b ∷ []) = cond (eqb b 13) [] (b ∷ [])
unreturned (b ∷ c ∷ bs) = b ∷ unreturned (c ∷ bs)

abbrev pub LinesCut : Option (Text × Text) → List Text → Text → Type 0
LinesCut None lines bs = lines ≡ last_piece bs
LinesCut (Some p) lines bs = lines ≡ unreturned p.0 ∷ statement_lines p.1

line_goes_on : (b x : ℕ) (xs : Text) (o : Option (Text × Text)) (lines : List Text) → LinesCut (option_map (with_byte x) o) lines (x ∷ xs)
    → LinesCut (option_map (with_byte b) (option_map (with_byte x) o)) (on_first b lines) (b ∷ x ∷ xs)
line_goes_on b x xs None lines h = ap (on_first b) h
line_goes_on b x xs (Some p) lines h = ap (on_first b) h

pub lines_cut : (bs : Text) → LinesCut (cut_at 10 bs) (statement_lines bs) bs
lines_cut [] = refl
lines_cut (b ∷ []) = elim (cases_Bool (eqb b 10)) [ inl is ↦ rw is refl | inr other ↦ rw other refl ]
lines_cut (b ∷ x ∷ xs) =
    let more = lines_cut (x ∷ xs) in
    elim (cases_Bool (eqb b 10)) [
      | inl is ↦ rw is refl
      | inr other ↦ elim (cases_Bool (eqb x 10)) [
        | inl ends ↦ elim (cases_Bool (eqb b 13)) [ inl return ↦ rw (other, ends, return) refl | inr none ↦ rw (other, ends, none) refl ]
        | inr on ↦ rw (other, on) (line_goes_on b x xs (cut_at 10 xs) _ (rw on at more))
      ]
    ]

unreturned-push : (xs : Text) → unreturned (xs ++ 13 ∷ []) ≡ xs
unreturned-push [] = refl
unreturned-push (x ∷ []) = refl
unreturned-push (x ∷ y ∷ xs) = ap (λ l. x ∷ l) (unreturned-push (y ∷ xs))

unreturned_same : (bs : Text) → ((front : Text) → bs ≢ front ++ 13 ∷ []) → unreturned bs ≡ bs
unreturned_same [] h = refl
unreturned_same (b ∷ []) h =
    elim (cases_Bool (eqb b 13)) [
      | inl is ↦ absurd (h [] (ap (λ x. x ∷ []) (eqb-true b 13 is)))
      | inr other ↦ rw other refl
    ]
unreturned_same (b ∷ c ∷ bs) h = ap (λ l. b ∷ l) (unreturned_same (c ∷ bs) (λ front e. h (b ∷ front) (ap (λ l. b ∷ l) e)))

-- the result of `strip_suffix`, or else the line, is the line without its return
pub unreturned_from : (line : Bor Text) (r : Option (Bor Text)) → MatchOption r ((front : Text) → line.now ≢ front ++ 13 ∷ []) (λ x. line.now ≡ x.now ++ 13 ∷ []) → (unwrap_or r line).now ≡ unreturned line.now
unreturned_from line None h = sym (unreturned_same line.now h)
unreturned_from line (Some x) h = sym (ap unreturned h ∙ unreturned-push x.now)

-- a piece is found where the text is cut, or is the rest

word_some : (bs : Text) (o : Option (Text × Text)) (words : List Text) (word rest : Text) → Some (word, rest) ≡ o → WordsCut o words bs → words ≡ piece_before word (words_of rest)
word_some bs None words word rest e h = cc
word_some bs (Some p) words word rest e h = let same : (word, rest) ≡ p = cc in h ∙ ap (λ (q : Text × Text). piece_before q.0 (words_of q.1)) (sym same)

word_last : (bs : Text) (o : Option (Text × Text)) (words : List Text) → None ≡ o → WordsCut o words bs → words ≡ last_piece bs
word_last bs None words e h = h
word_last bs (Some p) words e h = cc

piece_found : (word : Text) (pieces : List Text) → eqb (length word) 0 ≡ false → piece_before word pieces ≡ word ∷ pieces
piece_found [] pieces e = cc
piece_found (b ∷ bs) pieces e = refl

piece_empty : (word : Text) (pieces : List Text) → eqb (length word) 0 ≡ true → piece_before word pieces ≡ pieces
piece_empty [] pieces e = refl
piece_empty (b ∷ bs) pieces e = absurd (omega (arith, eqb-true (length (b ∷ bs)) 0 e))

last_found : (bs : Text) → eqb (length bs) 0 ≡ false → last_piece bs ≡ bs ∷ []
last_found [] e = cc
last_found (b ∷ bs) e = refl

last_empty : (bs : Text) → eqb (length bs) 0 ≡ true → last_piece bs ≡ []
last_empty [] e = refl
last_empty (b ∷ bs) e = absurd (omega (arith, eqb-true (length (b ∷ bs)) 0 e))

pub word_found : (bs word rest : Text) → Some (word, rest) ≡ cut_at 32 bs → eqb (length word) 0 ≡ false → words_of bs ≡ word ∷ words_of rest
word_found bs word rest e h = word_some bs _ _ word rest e (words_cut bs) ∙ piece_found word _ h

pub word_passed : (bs word rest : Text) → Some (word, rest) ≡ cut_at 32 bs → eqb (length word) 0 ≡ true → words_of bs ≡ words_of rest
word_passed bs word rest e h = word_some bs _ _ word rest e (words_cut bs) ∙ piece_empty word _ h

pub last_word : (bs : Text) → None ≡ cut_at 32 bs → eqb (length bs) 0 ≡ false → words_of bs ≡ bs ∷ []
last_word bs e h = word_last bs _ _ e (words_cut bs) ∙ last_found bs h

pub no_word : (bs : Text) → None ≡ cut_at 32 bs → eqb (length bs) 0 ≡ true → words_of bs ≡ []
no_word bs e h = word_last bs _ _ e (words_cut bs) ∙ last_empty bs h

line_some : (bs : Text) (o : Option (Text × Text)) (lines : List Text) (line rest : Text) → Some (line, rest) ≡ o → LinesCut o lines bs → lines ≡ unreturned line ∷ statement_lines rest
line_some bs None lines line rest e h = cc
line_some bs (Some p) lines line rest e h = let same : (line, rest) ≡ p = cc in h ∙ ap (λ (q : Text × Text). unreturned q.0 ∷ statement_lines q.1) (sym same)

line_last : (bs : Text) (o : Option (Text × Text)) (lines : List Text) → None ≡ o → LinesCut o lines bs → lines ≡ last_piece bs
line_last bs None lines e h = h
line_last bs (Some p) lines e h = cc

pub line_found : (bs line rest found : Text) → Some (line, rest) ≡ cut_at 10 bs → found ≡ unreturned line → statement_lines bs ≡ found ∷ statement_lines rest
line_found bs line rest found e h = line_some bs _ _ line rest e (lines_cut bs) ∙ ap (λ l. l ∷ statement_lines rest) (sym h)

pub last_line : (bs : Text) → None ≡ cut_at 10 bs → eqb (length bs) 0 ≡ false → statement_lines bs ≡ bs ∷ []
last_line bs e h = line_last bs _ _ e (lines_cut bs) ∙ last_found bs h

pub no_line : (bs : Text) → None ≡ cut_at 10 bs → eqb (length bs) 0 ≡ true → statement_lines bs ≡ []
no_line bs e h = line_last bs _ _ e (lines_cut bs) ∙ last_empty bs h
