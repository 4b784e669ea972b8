-- Block strings: raw values, lines and indents.
use Rattle.std.proofs.Common.{◌≡◌, ℕ, suc, zero, ◌+◌, ◌-◌, ◌<◌, ◌≤◌, Bool, true, false, cond, not, ◌&&◌, List, [], ◌∷◌, ◌++◌, length, get_or, set, take, drop, map, reverse, min, Bor, Option, Some, None, Result, Ok, Err, IfOk, IsUtf8, refl, sym, ap, subst, ◌∙◌, arith, append_assoc, eqb, ltb, inl, inr}
use Rattle.std.specs.Prelude.{nat_eq, option_map}
use Rattle.std.specs.List.{prefix_len, starts_with, join_with_byte, AllByRecursion, fold, reduce, filter_map, cons_option}
use Rattle.std.specs.Str.{IsCharBoundary}
use Rattle.std.proofs.iter.FirstChar.{cut, beside_ascii, at_start}
use Rattle.std.proofs.lemmas.Bool.{cases_Bool, and_parts, eqb-true, ne_eqb, ltb-true, ltb-false, true≢false}
use Rattle.std.proofs.lemmas.List.{append-nil, take_all, drop_at, drop_all, take_more, take-append-drop, drop-map, take-map, length-map, length-drop, length-reverse, reverse-append, reverse-reverse, map-set, map-append}
use Rattle.std.proofs.lemmas.List.Sums.{prefix_len-le-length, prefix_len_passes, prefix_len_stops}
use Rattle.std.proofs.Math.ListN.{get_or-map}
use borrow.Rule.Slice.PartMut.{put_mid}
use Rattle.std.proofs.lemmas.Bool.Decides.{nat_tests}
use Rattle.gq_lexer.specs.Place.{ends_no_line}
use Rattle.gq_lexer.specs.Block.{raw_of, is_blank, is_blank_line, lines_of, indent_of, least, common_indent, without_indent, unindented, drop_blank, trimmed, block_value}
use Rattle.gq_lexer.specs.Lines.{line_end_len}
use Rattle.gq_lexer.specs.Unescape.{is_plain}
use Rattle.gq_lexer.specs.Grammar.{NoneNext}
use Rattle.gq_lexer.proofs.Runs.{one_more, run_passes, begins_with}
use Rattle.gq_lexer.proofs.Values.{run_boundary}

-- gives what the code takes away from the front of a line
abbrev pub strip : ℕ → List ℕ → List ℕ
strip n line = drop (min n (prefix_len is_blank line)) line

-- the first i elements mapped
abbrev pub part : (List ℕ → List ℕ) → ℕ → List (List ℕ) → List (List ℕ)
part f zero ys = ys
part f (suc i) [] = []
part f (suc i) (y ∷ ys) = f y ∷ part f i ys

pub part_set : (f : List ℕ → List ℕ) (i : ℕ) (ys : List (List ℕ)) (d : List ℕ) → i < length ys → set (part f i ys) i (f (get_or ys i d)) ≡ part f (suc i) ys
part_set f i [] d h = absurd (omega arith)
part_set f zero (y ∷ ys) d h = refl
part_set f (suc i) (y ∷ ys) d h = ap (λ (x : List (List ℕ)). f y ∷ x) (part_set f i ys d (omega arith))

pub part_get : (f : List ℕ → List ℕ) (i : ℕ) (ys : List (List ℕ)) (d : List ℕ) → get_or (part f i ys) i d ≡ get_or ys i d
part_get f zero ys d = refl
part_get f (suc i) [] d = refl
part_get f (suc i) (y ∷ ys) d = part_get f i ys d

pub part_all : (f : List ℕ → List ℕ) (ys : List (List ℕ)) → part f (length ys) ys ≡ map f ys
part_all f [] = refl
part_all f (y ∷ ys) = ap (λ (x : List (List ℕ)). f y ∷ x) (part_all f ys)

no_elements : (xs : List ℕ) → length xs < 1 → xs ≡ []
no_elements [] h = refl
no_elements (x ∷ xs) h = absurd (omega arith)

-- ---- the common indent

-- a line has at least `n` tabs and spaces at its front, or nothing else
abbrev IsIndented : ℕ → List ℕ → Type 0
IsIndented n line = is_blank_line line ≡ false → n ≤ prefix_len is_blank line

blank_all : (line : List ℕ) → is_blank_line line ≡ true → prefix_len is_blank line ≡ length line
blank_all [] h = refl
blank_all (b ∷ bs) h =
    let parts = and_parts (is_blank b) (is_blank_line bs) h in
    rw (parts.0, blank_all bs parts.1) (omega arith)

-- ---- raw values

pub raw_run : (rest : List ℕ) → raw_of rest ≡ take (prefix_len is_plain rest) rest ++ raw_of (drop (prefix_len is_plain rest) rest)
unfolding raw_of
raw_run [] = refl
raw_run (b ∷ bs) =
    elim (cases_Bool (is_plain b)) [
      | inl plain ↦
          let other : eqb b 92 ≡ false = grind (arith, nat_tests) in
          rw (plain, one_more (prefix_len is_plain bs), other) (ap (λ (x : List ℕ). b ∷ x) (raw_run bs))
      | inr backslash ↦ rw backslash refl
    ]

-- gives what a backslash gives, and what follows it
abbrev pub kept : List ℕ → List ℕ
kept behind = cond (starts_with nat_eq behind (34 ∷ 34 ∷ 34 ∷ [])) [] (92 ∷ [])

-- a step over the bytes before a backslash, and over the backslash
pub record RawStep (rest after : List ℕ) (n : ℕ) : Type 0 where
  pub backslash : IsCharBoundary after 1
  pub utf8 : IsUtf8 (drop 1 after)
  pub raw_is : raw_of rest ≡ take n rest ++ (kept (drop 1 after) ++ raw_of (drop 1 after))

at_backslash : (after : List ℕ) → NoneNext is_plain after → 1 ≤ length after → (get_or after 0 0 ≡ 92) × (raw_of after ≡ kept (drop 1 after) ++ raw_of (drop 1 after))
unfolding raw_of
at_backslash [] none some = absurd (omega arith)
at_backslash (b ∷ bs) none some =
    let e : b ≡ 92 = grind (arith, nat_tests) in
    (e, rw e (go (starts_with nat_eq bs (34 ∷ 34 ∷ 34 ∷ [])) refl))
  where
    go : (quotes : Bool) → quotes ≡ starts_with nat_eq bs (34 ∷ 34 ∷ 34 ∷ []) → cond quotes (raw_of bs) (92 ∷ raw_of bs) ≡ cond quotes [] (92 ∷ []) ++ raw_of bs
    go true e = refl
    go false e = refl

pub raw_step : (rest after : List ℕ) (n : ℕ) → IsUtf8 rest → n ≡ prefix_len is_plain rest → after ≡ drop n rest → 1 ≤ length after → RawStep rest after n
raw_step rest after n utf8 e after_is some =
    let boundary : IsCharBoundary rest n = subst (IsCharBoundary rest) (sym e) (run_boundary rest) in
    let text : IsUtf8 after = subst IsUtf8 (sym after_is) (cut rest n utf8 boundary).1 in
    let none : NoneNext is_plain after = subst (NoneNext is_plain) (sym (after_is ∙ ap (λ (m : ℕ). drop m rest) e)) (run_passes is_plain rest).1 in
    let first = at_backslash after none some in
    let one : IsCharBoundary after 1 = (beside_ascii after 0 text (omega arith) (omega (arith, first.0))).1 in
    let run : raw_of rest ≡ take n rest ++ raw_of after = raw_run rest ∙ (λ i. take (e' i) rest ++ raw_of (after' i)) in
    record { backslash = one; utf8 = (cut after 1 text one).1; raw_is = run ∙ ap (λ (x : List ℕ). take n rest ++ x) first.1 }
  where
    e' : prefix_len is_plain rest ≡ n
    e' = sym e

    after' : drop (prefix_len is_plain rest) rest ≡ after
    after' = sym (after_is ∙ ap (λ (m : ℕ). drop m rest) e)

pub raw_end : (rest after : List ℕ) (n : ℕ) → n ≡ prefix_len is_plain rest → after ≡ drop n rest → length after < 1 → raw_of rest ≡ take n rest
unfolding raw_of
raw_end rest after n e after_is none =
    let empty : drop (prefix_len is_plain rest) rest ≡ [] = no_elements (drop (prefix_len is_plain rest) rest) (omega (arith, ap length after_is, ap (λ (m : ℕ). length (drop m rest)) e)) in
    raw_run rest ∙ ap (λ (x : List ℕ). take (prefix_len is_plain rest) rest ++ raw_of x) empty ∙ append-nil (take (prefix_len is_plain rest) rest) ∙ ap (λ (m : ℕ). take m rest) (sym e)

-- ---- lines

-- the rest of the lines, behind the first
abbrev pub lines_after : List ℕ → List (List ℕ)
lines_after after = cond (eqb (line_end_len after) 0) [] (lines_of (drop (line_end_len after) after))

lines_at_end : (b : ℕ) (bs : List ℕ) → ends_no_line b ≡ false → lines_of (b ∷ bs) ≡ [] ∷ lines_of (drop (line_end_len (b ∷ bs)) (b ∷ bs))
unfolding lines_of
lines_at_end b bs h =
    elim (cases_Bool (eqb b 10)) [
      | inl feed ↦
          let no_return : eqb b 13 ≡ false = grind (arith, nat_tests) in
          rw (feed, no_return) refl
      | inr no_feed ↦
          let return : eqb b 13 ≡ true = grind (arith, nat_tests) in
          rw (no_feed, return) (go bs)
    ]
  where
    go : (bs : List ℕ) → cond (not (starts_with nat_eq bs (10 ∷ []))) ([] ∷ lines_of bs) (lines_of bs) ≡ [] ∷ lines_of (drop (cond (starts_with nat_eq bs (10 ∷ [])) 2 1) (b ∷ bs))
    go [] = refl
    go (c ∷ cs) = elim (cases_Bool (eqb 10 c)) [ inl feed ↦ (let e : c ≡ 10 = sym (eqb-true 10 c feed) in rw e refl) | inr other ↦ rw other refl ]

pub lines_run : (rest : List ℕ) → lines_of rest ≡ take (prefix_len ends_no_line rest) rest ∷ lines_after (drop (prefix_len ends_no_line rest) rest)
unfolding lines_of
lines_run [] = refl
lines_run (b ∷ bs) =
    elim (cases_Bool (ends_no_line b)) [
      | inl plain ↦
          let no_feed : eqb b 10 ≡ false = grind (arith, nat_tests) in
          let no_return : eqb b 13 ≡ false = grind (arith, nat_tests) in
          let more = lines_run bs in
          rw (plain, one_more (prefix_len ends_no_line bs), no_feed, no_return, more) refl
      | inr end ↦ rw end (lines_at_end b bs end ∙ rw (some_end b bs) refl)
    ]
  where
    some_end : (b : ℕ) (bs : List ℕ) → eqb (line_end_len (b ∷ bs)) 0 ≡ false
    some_end b bs = elim (cases_Bool (eqb b 13 && starts_with nat_eq bs (10 ∷ []))) [ inl two ↦ rw two refl | inr one ↦ rw one refl ]

-- a step over a line and what ends it
pub record LineStep (rest after : List ℕ) (n : ℕ) : Type 0 where
  pub boundary : IsCharBoundary after (line_end_len after)
  pub utf8 : IsUtf8 (drop (line_end_len after) after)
  pub lines_are : lines_of rest ≡ take n rest ∷ lines_after after

-- the bytes of a line end before a LF, a CR or the end
pub line_boundary : (rest : List ℕ) → IsCharBoundary rest (prefix_len ends_no_line rest)
line_boundary rest = (
  prefix_len-le-length ends_no_line rest,
  λ inside high.
      let stops = prefix_len_stops ends_no_line rest 0 inside in
      let small : get_or rest (prefix_len ends_no_line rest) 0 < 128 = grind (arith, nat_tests) in
      absurd (omega arith),
)

end_boundary : (after : List ℕ) → IsUtf8 after → NoneNext ends_no_line after → IsCharBoundary after (line_end_len after)
end_boundary [] utf8 none = at_start [] utf8
end_boundary (b ∷ bs) utf8 none =
    let small : b < 128 = grind (arith, nat_tests) in
    go (eqb b 13 && starts_with nat_eq bs (10 ∷ [])) refl (beside_ascii (b ∷ bs) 0 utf8 (omega arith) small).1
  where
    go : (two : Bool) → two ≡ (eqb b 13 && starts_with nat_eq bs (10 ∷ [])) → IsCharBoundary (b ∷ bs) 1 → IsCharBoundary (b ∷ bs) (cond two 2 1)
    go false e one = one
    go true e one =
        let feed : bs ≡ 10 ∷ drop 1 bs = begins_with (10 ∷ []) bs (and_parts (eqb b 13) (starts_with nat_eq bs (10 ∷ [])) (sym e)).1 in
        let second : get_or (b ∷ bs) 1 0 ≡ 10 = ap (λ (x : List ℕ). get_or (b ∷ x) 1 0) feed in
        (beside_ascii (b ∷ bs) 1 utf8 (omega (arith, ap length feed)) (omega (arith, second))).1

pub line_step : (rest after : List ℕ) (n : ℕ) → IsUtf8 rest → n ≡ prefix_len ends_no_line rest → after ≡ drop n rest → LineStep rest after n
line_step rest after n utf8 e after_is =
    let text : IsUtf8 after = subst IsUtf8 (sym after_is) (cut rest n utf8 (subst (IsCharBoundary rest) (sym e) (line_boundary rest))).1 in
    let whole : after ≡ drop (prefix_len ends_no_line rest) rest = after_is ∙ ap (λ (m : ℕ). drop m rest) e in
    let none : NoneNext ends_no_line after = subst (NoneNext ends_no_line) (sym whole) (run_passes ends_no_line rest).1 in
    let boundary = end_boundary after text none in
    record { boundary = boundary; utf8 = (cut after (line_end_len after) text boundary).1; lines_are = lines_run rest ∙ (λ i. take (sym e i) rest ∷ lines_after (sym whole i)) }

pub lines_last : (after : List ℕ) → line_end_len after ≡ 0 → lines_after after ≡ []
lines_last after e = rw e refl

pub lines_next : (after : List ℕ) (m : ℕ) → m ≡ line_end_len after → (m ≡ 0 → ⊥) → lines_after after ≡ lines_of (drop m after)
lines_next after m e some =
    let test : eqb (line_end_len after) 0 ≡ false = ne_eqb (line_end_len after) 0 (λ none. some (e ∙ none)) in
    rw test (ap (λ (k : ℕ). lines_of (drop k after)) (sym e))

-- ---- indents

-- the bytes of an indent are characters
pub blank_boundary : (line : List ℕ) (m : ℕ) → IsUtf8 line → m ≤ prefix_len is_blank line → IsCharBoundary line m
blank_boundary line zero utf8 within = at_start line utf8
blank_boundary line (suc k) utf8 within =
    let inside : k < length line = omega (arith, prefix_len-le-length is_blank line) in
    let blank : is_blank (get_or line k 0) ≡ true = prefix_len_passes is_blank line k 0 (omega arith) in
    let small : get_or line k 0 < 128 = grind (arith, nat_tests) in
    let one : k + 1 ≡ suc k = omega arith in
    subst (IsCharBoundary line) one (beside_ascii line k utf8 inside small).1

pub length_part : (f : List ℕ → List ℕ) (i : ℕ) (ys : List (List ℕ)) → length (part f i ys) ≡ length ys
length_part f zero ys = refl
length_part f (suc i) [] = refl
length_part f (suc i) (y ∷ ys) = ap (λ (n : ℕ). suc n) (length_part f i ys)

part_done : (f : List ℕ → List ℕ) (i : ℕ) (ys : List (List ℕ)) → length ys ≤ i → part f i ys ≡ map f ys
part_done f zero [] h = refl
part_done f zero (y ∷ ys) h = absurd (omega arith)
part_done f (suc i) [] h = refl
part_done f (suc i) (y ∷ ys) h = ap (λ (x : List (List ℕ)). f y ∷ x) (part_done f i ys (omega arith))

-- one more line
pub part_more : {X : Type 0} (now : X → List ℕ) (f : List ℕ → List ℕ) (xs : List X) (zs : List (List ℕ)) (i : ℕ) (r d : X) → i < length xs → map now xs ≡ part f i zs → now r ≡ f (now (get_or xs i d)) → map now (set xs i r) ≡ part f (i + 1) zs
part_more now f xs zs i r d inside so_far r_is =
    let within : i < length zs = omega (arith, ap length so_far, length-map xs now, length_part f i zs) in
    let element : now (get_or xs i d) ≡ get_or zs i (now d) = sym (get_or-map now xs i d) ∙ ap (λ (l : List (List ℕ)). get_or l i (now d)) so_far ∙ part_get f i zs (now d) in
    let one : suc i ≡ i + 1 = omega arith in
    map-set now xs i r ∙ (λ j. set (so_far j) i (r_is j)) ∙ ap (λ (l : List ℕ). set (part f i zs) i (f l)) element ∙ part_set f i zs (now d) within ∙ ap (λ (m : ℕ). part f m zs) one

-- the least indent is no more than each
indented_less : (m n : ℕ) → m ≤ n → (lines : List (List ℕ)) → AllByRecursion (IsIndented n) lines → AllByRecursion (IsIndented m) lines
indented_less m n h [] all = tt
indented_less m n h (line ∷ lines) all = ((λ full. let k : n ≤ prefix_len is_blank line = all.0 full in omega arith), indented_less m n h lines all.1)

no_indent : (lines : List (List ℕ)) → common_indent lines ≡ None → (n : ℕ) → AllByRecursion (IsIndented n) lines
no_indent [] e n = tt
no_indent (line ∷ lines) e n = go (λ k. no_indent lines k n) (is_blank_line line) refl
  where
    go : (common_indent lines ≡ None → AllByRecursion (IsIndented n) lines) → (blank : Bool) → blank ≡ is_blank_line line → AllByRecursion (IsIndented n) (line ∷ lines)
    go others true h = ((λ full. absurd (true≢false (h ∙ full))), others (rw (← h) at e))
    go others false h = absurd (some (common_indent lines) (rw (← h) at e))
      where
        some : (o : Option ℕ) → least (Some (prefix_len is_blank line)) o ≡ None → ⊥
        some None k = cc
        some (Some j) k = cc

pub all_indented : (lines : List (List ℕ)) (n : ℕ) → common_indent lines ≡ Some n → AllByRecursion (IsIndented n) lines
all_indented [] n e = tt
all_indented (line ∷ lines) n e = go (λ m k. all_indented lines m k) (is_blank_line line) refl
  where
    go : ((m : ℕ) → common_indent lines ≡ Some m → AllByRecursion (IsIndented m) lines) → (blank : Bool) → blank ≡ is_blank_line line → AllByRecursion (IsIndented n) (line ∷ lines)
    go others true h = ((λ full. absurd (true≢false (h ∙ full))), others n (rw (← h) at e))
    go others false h = both (common_indent lines) refl (rw (← h) at e)
      where
        both : (o : Option ℕ) → o ≡ common_indent lines → least (Some (prefix_len is_blank line)) o ≡ Some n → AllByRecursion (IsIndented n) (line ∷ lines)
        both None k same = let is : prefix_len is_blank line ≡ n = cc in ((λ _. omega arith), no_indent lines (sym k) n)
        both (Some m) k same =
            let is : min (prefix_len is_blank line) m ≡ n = cc in
            ((λ _. omega arith), indented_less n m (omega arith) lines (others m (sym k)))

strip_is : (n : ℕ) (line : List ℕ) → IsIndented n line → strip n line ≡ drop n line
strip_is n line h = go (is_blank_line line) refl
  where
    go : (blank : Bool) → blank ≡ is_blank_line line → strip n line ≡ drop n line
    go false e = let k : min n (prefix_len is_blank line) ≡ n = omega (arith, h (sym e)) in ap (λ (m : ℕ). drop m line) k
    go true e =
        let all = blank_all line (sym e) in
        elim (cases_Bool (ltb n (length line))) [
          | inl less ↦ (let k : min n (prefix_len is_blank line) ≡ n = omega (arith, all, ltb-true n (length line) less) in ap (λ (m : ℕ). drop m line) k)
          | inr more ↦
              let le : length line ≤ n = ltb-false n (length line) more in
              drop_all (min n (prefix_len is_blank line)) line (omega (arith, all)) ∙ sym (drop_all n line le)
        ]

strip_all : (n : ℕ) (lines : List (List ℕ)) → AllByRecursion (IsIndented n) lines → map (strip n) lines ≡ map (drop n) lines
strip_all n [] all = refl
strip_all n (line ∷ lines) all = λ i. strip_is n line all.0 i ∷ strip_all n lines all.1 i

-- all lines but the first
pub unindent_done : {X : Type 0} (now : X → List ℕ) (n i : ℕ) (xs ys : List X) → 1 ≤ length xs → common_indent (map now (take (length xs - 1) (drop 1 xs))) ≡ Some n
    → map now ys ≡ part (strip n) i (map now (take (length xs - 1) (drop 1 xs))) → length (take (length xs - 1) (drop 1 xs)) ≤ i → map now (put_mid 1 (length xs - 1) xs ys) ≡ unindented (map now xs)
unindent_done now n i [] ys some e so_far all = absurd (omega arith)
unindent_done {X = X} now n i (x ∷ xs) ys some e so_far all =
    let rest : take (length (x ∷ xs) - 1) xs ≡ xs = take_all (length (x ∷ xs) - 1) xs (omega arith) in
    let others = map now xs in
    let common : common_indent others ≡ Some n = rw rest at e in
    let done : map now ys ≡ map (strip n) others = (rw rest at so_far) ∙ part_done (strip n) i others (omega (arith, ap length rest, length-map xs now)) in
    let behind : drop (length (x ∷ xs) - 1) xs ≡ [] = drop_all (length (x ∷ xs) - 1) xs (omega arith) in
    let put : put_mid 1 (length (x ∷ xs) - 1) (x ∷ xs) ys ≡ x ∷ ys = ap (λ (l : List X). x ∷ (ys ++ l)) behind ∙ ap (λ (l : List X). x ∷ l) (append-nil ys) in
    ap (map now) put ∙ ap (λ (l : List (List ℕ)). now x ∷ l) (done ∙ strip_all n others (all_indented others n common)) ∙ ap (λ (o : Option ℕ). now x ∷ without_indent o others) (sym common)

-- ---- blank lines at the ends

drop_blank_is : (lines : List (List ℕ)) → drop (prefix_len is_blank_line lines) lines ≡ drop_blank lines
drop_blank_is [] = refl
drop_blank_is (line ∷ lines) =
    elim (cases_Bool (is_blank_line line)) [
      | inl blank ↦ rw (blank, one_more (prefix_len is_blank_line lines)) (drop_blank_is lines)
      | inr full ↦ rw full refl
    ]

prefix_len-map : {X Y : Type 0} (p : Y → Bool) (f : X → Y) (xs : List X) → prefix_len p (map f xs) ≡ prefix_len (λ x. p (f x)) xs
prefix_len-map p f [] = refl
prefix_len-map p f (x ∷ xs) = ap (λ (n : ℕ). cond (p (f x)) (1 + n) 0) (prefix_len-map p f xs)

map-reverse : {X Y : Type 0} (f : X → Y) (xs : List X) → map f (reverse xs) ≡ reverse (map f xs)
map-reverse f [] = refl
map-reverse f (x ∷ xs) =
    ap (map f) (reverse-append (x ∷ []) xs) ∙ map-append f (reverse xs) (x ∷ []) ∙ ap (λ l. l ++ f x ∷ []) (map-reverse f xs) ∙ sym (reverse-append (f x ∷ []) (map f xs))

reverse-take : {X : Type 0} (n m : ℕ) (xs : List X) → m + n ≡ length xs → reverse (take m xs) ≡ drop n (reverse xs)
reverse-take n m xs e =
    let back : length (reverse (drop m xs)) ≡ n = omega (arith, length-reverse (drop m xs), length-drop m xs) in
    sym (drop_at (reverse (drop m xs)) (reverse (take m xs)) n back) ∙ ap (drop n) (sym (reverse-append (take m xs) (drop m xs)) ∙ ap reverse (take-append-drop m xs))

pub trimmed_is : {X : Type 0} (now : X → List ℕ) (xs rest : List X) (n m : ℕ) → n ≡ prefix_len (λ x. is_blank_line (now x)) xs → rest ≡ drop n xs → m ≡ prefix_len (λ x. is_blank_line (now x)) (reverse rest) → m ≤ length rest
    → map now (take (length rest - m) rest) ≡ trimmed (map now xs)
trimmed_is now xs rest n m front rest_is back within =
    let first : map now rest ≡ drop_blank (map now xs) = ap (map now) rest_is ∙ sym (drop-map now n xs) ∙ ap (λ (k : ℕ). drop k (map now xs)) (front ∙ sym (prefix_len-map is_blank_line now xs)) ∙ drop_blank_is (map now xs) in
    let lines = reverse (map now rest) in
    let counted : m ≡ prefix_len is_blank_line lines = back ∙ sym (prefix_len-map is_blank_line now (reverse rest)) ∙ ap (prefix_len is_blank_line) (map-reverse now rest) in
    let sum : (length rest - m) + m ≡ length (map now rest) = omega (arith, length-map rest now) in
    let last : reverse (take (length rest - m) (map now rest)) ≡ drop_blank lines = reverse-take m (length rest - m) (map now rest) sum ∙ ap (λ (k : ℕ). drop k lines) counted ∙ drop_blank_is lines in
    sym (take-map now (length rest - m) rest) ∙ sym (reverse-reverse (take (length rest - m) (map now rest))) ∙ ap reverse last ∙ ap (λ (l : List (List ℕ)). reverse (drop_blank (reverse l))) first

-- ---- lines joined

pub join_push : (c : ℕ) (xs : List (List ℕ)) (y : List ℕ) → 0 < length xs → join_with_byte c (xs ++ y ∷ []) ≡ join_with_byte c xs ++ c ∷ y
join_push c [] y some = absurd (omega arith)
join_push c (x ∷ []) y some = refl
join_push c (x ∷ z ∷ xs) y some = ap (λ (l : List ℕ). x ++ c ∷ l) (join_push c (z ∷ xs) y (omega arith)) ∙ sym (append_assoc x (c ∷ join_with_byte c (z ∷ xs)) (c ∷ y))

-- ---- one turn of each loop, by what the code has

-- a line and its end are read
pub lines_kept : {X : Type 0} (now : X → List ℕ) (items pushed : List X) (line : X) (rest after : List ℕ) (n : ℕ) (tail whole : List (List ℕ)) → pushed ≡ items ++ line ∷ [] → now line ≡ take n rest → LineStep rest after n → lines_after after ≡ tail
    → map now items ++ lines_of rest ≡ whole → map now pushed ++ tail ≡ whole
lines_kept now items pushed line rest after n tail whole pushed_is line_is step tail_is so_far =
    let more : map now pushed ≡ map now items ++ now line ∷ [] = ap (map now) pushed_is ∙ map-append now items (line ∷ []) in
    let joined : lines_of rest ≡ now line ∷ tail = step.lines_are ∙ (λ i. sym line_is i ∷ tail_is i) in
    ap (λ (l : List (List ℕ)). l ++ tail) more ∙ append_assoc (map now items) (now line ∷ []) tail ∙ ap (λ (l : List (List ℕ)). map now items ++ l) (sym joined) ∙ so_far

-- the bytes before a backslash and the backslash are read
pub raw_kept : (old pushed final plain rest after whole : List ℕ) (n : ℕ) → pushed ≡ old ++ plain → plain ≡ take n rest → RawStep rest after n → final ≡ pushed ++ kept (drop 1 after) → old ++ raw_of rest ≡ whole → final ++ raw_of (drop 1 after) ≡ whole
raw_kept old pushed final plain rest after whole n pushed_is plain_is step final_is so_far =
    let behind = raw_of (drop 1 after) in
    let k = kept (drop 1 after) in
    let all : final ≡ (old ++ take n rest) ++ k = final_is ∙ ap (λ (x : List ℕ). x ++ k) (pushed_is ∙ ap (λ (x : List ℕ). old ++ x) plain_is) in
    ap (λ (x : List ℕ). x ++ behind) all ∙ append_assoc (old ++ take n rest) k behind ∙ append_assoc old (take n rest) (k ++ behind) ∙ ap (λ (x : List ℕ). old ++ x) (sym step.raw_is) ∙ so_far

pub kept_quotes : (behind pushed final : List ℕ) → starts_with nat_eq behind (34 ∷ 34 ∷ 34 ∷ []) ≡ true → final ≡ pushed → final ≡ pushed ++ kept behind
kept_quotes behind pushed final quotes e = e ∙ rw quotes (sym (append-nil pushed))

pub kept_other : (behind pushed final : List ℕ) → starts_with nat_eq behind (34 ∷ 34 ∷ 34 ∷ []) ≡ false → final ≡ pushed ++ 92 ∷ [] → final ≡ pushed ++ kept behind
kept_other behind pushed final other e = e ∙ rw other refl

-- a line more is joined
pub joined_more : {X : Type 0} (now : X → List ℕ) (xs : List X) (i : ℕ) (d : X) (text final : List ℕ) → i < length (take (length xs - 1) (drop 1 xs)) → final ≡ (text ++ 10 ∷ []) ++ now (get_or (take (length xs - 1) (drop 1 xs)) i d)
    → text ≡ join_with_byte 10 (take (i + 1) (map now xs)) → final ≡ join_with_byte 10 (take (i + 1 + 1) (map now xs))
joined_more now [] i d text final inside final_is text_is = absurd (omega arith)
joined_more {X = X} now (x ∷ xs) i d text final inside final_is text_is =
    let all : take (length (x ∷ xs) - 1) xs ≡ xs = take_all (length (x ∷ xs) - 1) xs (omega arith) in
    let lines = map now xs in
    let within : i < length lines = omega (arith, ap length all, length-map xs now) in
    let line : now (get_or (take (length (x ∷ xs) - 1) xs) i d) ≡ get_or lines i (now d) = ap (λ (l : List X). now (get_or l i d)) all ∙ sym (get_or-map now xs i d) in
    let one : i + 1 ≡ suc i = omega arith in
    let two : i + 1 + 1 ≡ suc (i + 1) = omega arith in
    let front : take (i + 1) (now x ∷ lines) ≡ now x ∷ take i lines = rw one refl in
    let more : take (i + 1 + 1) (now x ∷ lines) ≡ (now x ∷ take i lines) ++ get_or lines i (now d) ∷ [] = rw two (ap (λ (l : List (List ℕ)). now x ∷ l) (take_more lines i (now d) within)) in
    final_is ∙ (λ j. ((text_is ∙ ap (join_with_byte 10) front) j ++ 10 ∷ []) ++ line j) ∙ append_assoc (join_with_byte 10 (now x ∷ take i lines)) (10 ∷ []) (get_or lines i (now d))
    ∙ sym (join_push 10 (now x ∷ take i lines) (get_or lines i (now d)) (omega arith)) ∙ ap (join_with_byte 10) (sym more)

pub block_done : {S E : Type 0} (bytes : S → List ℕ) (r : Result S E) (lines : List (List ℕ)) (raw : List ℕ) → IfOk r (λ s. bytes s ≡ join_with_byte 10 lines) → lines ≡ trimmed (unindented (lines_of raw)) → IfOk r (λ s. bytes s ≡ block_value raw)
unfolding block_value
block_done bytes (Ok s) lines raw h e = h ∙ ap (join_with_byte 10) e
block_done bytes (Err x) lines raw h e = tt

-- ---- the least indent

min_assoc : (a b c : ℕ) → min (min a b) c ≡ min a (min b c)
min_assoc a b c = omega arith

fold_min : (a n : ℕ) (ns : List ℕ) → fold min (min a n) ns ≡ min a (fold min n ns)
fold_min a n [] = refl
fold_min a n (m ∷ ns) = ap (λ (x : ℕ). fold min x ns) (min_assoc a n m) ∙ fold_min a (min n m) ns

least_first : (o : Option ℕ) (ns : List ℕ) → reduce min (cons_option o ns) ≡ least o (reduce min ns)
least_first None ns = refl
least_first (Some a) [] = refl
least_first (Some a) (n ∷ ns) = ap (λ (x : ℕ). Some x) (fold_min a n ns)

pub least_indent : (lines : List (Bor (List ℕ))) → reduce min (filter_map (λ line. indent_of line.now) lines) ≡ common_indent (map (λ line. line.now) lines)
least_indent [] = refl
least_indent (line ∷ lines) = least_first (indent_of line.now) _ ∙ ap (least (indent_of line.now)) (least_indent lines)

pub same_option : {A : Type 0} (o : Option A) → o ≡ option_map (λ x. x) o
same_option None = refl
same_option (Some x) = refl
