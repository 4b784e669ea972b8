-- A part is the longest front of the text that is one.
use Rattle.std.proofs.Common.{◌≡◌, ℕ, ◌<◌, List, [], ◌∷◌, ◌++◌, length, take, drop, refl, sym, ap, subst, ◌∙◌, arith, append_assoc, inl, inr}
use Rattle.std.specs.Prelude.{Bool, nat_eq}
use Rattle.std.specs.List.{concat, starts_with}
use Rattle.std.proofs.lemmas.Bool.{cases_Bool, true≢false}
use Rattle.std.proofs.lemmas.List.{append-nil, take_at, drop_at, take-append-le, drop-append-le, take-append-drop}
use Rattle.gq_lexer.specs.declared.token.TokenKind.TheVariants as kind
use Rattle.gq_lexer.specs.declared.scan.ScannedKind.{ScannedKind}
use Rattle.gq_lexer.specs.declared.scan.ScannedKind.TheVariants as shape
use Rattle.gq_lexer.specs.declared.quoted.Quotes.{Quotes}
use Rattle.gq_lexer.specs.declared.quoted.Quotes.TheVariants as quotes
use Rattle.gq_lexer.specs.Grammar.{IsPart, IsPiece, ReadsPieces, IsQuoted, IsLineEnd, NoneNext, NotFirst, quotes_of}
use Rattle.gq_lexer.proofs.StringLaws.{reads_concat}
use Rattle.gq_lexer.proofs.Runs.{starts_more}
use Rattle.gq_lexer.proofs.Unique.{same_part}

-- a byte that may not come next doesn't come next in a part of the rest either
none_shorter : (p : ℕ → Bool) (mid after : List ℕ) → NoneNext p (mid ++ after) → NoneNext p mid
none_shorter p [] after h = refl
none_shorter p (b ∷ mid) after h = h

not_shorter : (needle text after : List ℕ) → NotFirst needle (text ++ after) → NotFirst needle text
not_shorter needle text after h =
    elim (cases_Bool (starts_with nat_eq text needle)) [
      | inl first ↦ absurd (true≢false (sym (starts_more needle text after first) ∙ h))
      | inr none ↦ none
    ]

piece_shorter : (q : Quotes) (bs text after : List ℕ) → IsPiece q bs (text ++ after) → IsPiece q bs text
piece_shorter quotes.Single bs text after h = h
piece_shorter quotes.Triple bs text after (inl h) = inl h
piece_shorter quotes.Triple bs text after (inr (b, is, source, no_close, no_escape)) =
    inr (b, is, source, not_shorter (34 ∷ 34 ∷ 34 ∷ []) (b ∷ text) after no_close, not_shorter (92 ∷ 34 ∷ 34 ∷ 34 ∷ []) (b ∷ text) after no_escape)

reads_shorter : (q : Quotes) (pieces : List (List ℕ)) (text tail short after : List ℕ) → ReadsPieces q pieces text tail → tail ≡ short ++ after → ReadsPieces q pieces (concat pieces ++ short) short
reads_shorter q [] text tail short after h e = refl
reads_shorter q (bs ∷ pieces) text tail short after h e =
    let rest : h.0 ≡ (concat pieces ++ short) ++ after = reads_concat q pieces h.0 tail h.3 ∙ ap (λ (x : List ℕ). concat pieces ++ x) e ∙ sym (append_assoc (concat pieces) short after) in (
      concat pieces ++ short,
      append_assoc bs (concat pieces) short,
      piece_shorter q bs (concat pieces ++ short) after (subst (IsPiece q bs) rest h.2),
      reads_shorter q pieces h.0 tail short after h.3 e,
    )

quoted_shorter : (q : Quotes) (bs mid after : List ℕ) → IsQuoted q bs (mid ++ after) → IsQuoted q bs mid
quoted_shorter q bs mid after h =
    record { pieces = h.pieces; whole = h.whole; inside = reads_shorter q h.pieces _ (quotes_of q ++ (mid ++ after)) (quotes_of q ++ mid) after h.inside (sym (append_assoc (quotes_of q) mid after)) }

line_end_shorter : (bs mid after : List ℕ) → IsLineEnd bs (mid ++ after) → IsLineEnd bs mid
line_end_shorter bs mid after (inl h) = inl h
line_end_shorter bs mid after (inr (inl h)) = inr (inl h)
line_end_shorter bs mid after (inr (inr h)) = inr (inr (h.0, none_shorter _ mid after h.1))

-- a part is one too where less follows
part_shorter : (s : ScannedKind) (bs mid after : List ℕ) → IsPart s bs (mid ++ after) → IsPart s bs mid
part_shorter shape.Space bs mid after h = h
part_shorter shape.LineEnd bs mid after h = line_end_shorter bs mid after h
part_shorter shape.ByteOrderMark bs mid after h = h
part_shorter shape.Comment bs mid after h = (h.0, none_shorter _ mid after h.1)
part_shorter (shape.Token (kind.Punct p)) bs mid after h = h
part_shorter (shape.Token kind.Name) bs mid after h = (h.0, none_shorter _ mid after h.1)
part_shorter (shape.Token kind.Int) bs mid after h = (h.0, none_shorter _ mid after h.1)
part_shorter (shape.Token kind.Float) bs mid after h = (h.0, none_shorter _ mid after h.1)
part_shorter (shape.Token kind.Str) bs mid after h =
    (quoted_shorter quotes.Single bs mid after h.0, not_shorter (quotes_of quotes.Triple) (bs ++ mid) after (subst (NotFirst (quotes_of quotes.Triple)) (sym (append_assoc bs mid after)) h.1))
part_shorter (shape.Token kind.BlockStr) bs mid after h = quoted_shorter quotes.Triple bs mid after h

-- no longer front of the text is a part on its own
pub longest : (s t : ScannedKind) (bs rest cs after : List ℕ) → IsPart s bs rest → bs ++ rest ≡ cs ++ after → length bs < length cs → IsPart t cs [] → ⊥
longest s t bs rest cs after part e more other =
    let n = length bs in
    let mid = drop n cs in
    let front : bs ≡ take n cs = sym (take_at bs rest n refl) ∙ ap (take n) e ∙ take-append-le n cs after (omega arith) in
    let behind : rest ≡ mid ++ after = sym (drop_at bs rest n refl) ∙ ap (drop n) e ∙ drop-append-le n cs after (omega arith) in
    let whole : bs ++ mid ≡ cs ++ [] = ap (λ (x : List ℕ). x ++ mid) front ∙ take-append-drop n cs ∙ sym (append-nil cs) in
    let same = same_part s t bs cs mid [] (part_shorter s bs mid after (subst (IsPart s bs) behind part)) other whole in
    absurd (omega (arith, ap length same.1))
