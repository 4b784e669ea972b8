-- A name in a text is short, and UTF-8.
use Rattle.std.proofs.Common.{◌≡◌, ℕ, ◌+◌, ◌-◌, ◌<◌, ◌≤◌, true, List, [], ◌∷◌, ◌++◌, length, drop, slice_range, refl, sym, ap, subst, ◌∙◌, arith}
use Rattle.std.specs.List.{list_all}
use Rattle.std.specs.Str.{IsUtf8}
use Rattle.std.proofs.lemmas.Str.{IsUtf8-from_ascii}
use Rattle.std.proofs.lemmas.List.Sums.{AllPass-from_list_all}
use Rattle.std.proofs.lemmas.Str.Ascii.{IsAscii-from_all}
use Rattle.std.proofs.lemmas.Bool.Decides.{nat_tests}
use Rattle.std.proofs.lemmas.List.{take_at, drop_at, drop-drop, length-append, length-drop}
use Rattle.std.proofs.lemmas.List.Elements.{All-weaker}
use Rattle.gq_lexer.specs.declared.token.TokenKind.TheVariants as kind
use Rattle.gq_lexer.specs.declared.token.Token as lexer
use Rattle.gq_lexer.specs.declared.scan.ScannedKind.{ScannedKind}
use Rattle.gq_lexer.specs.declared.scan.ScannedKind.TheVariants as shape
use Rattle.gq_lexer.specs.Characters.{is_name_continue}
use Rattle.gq_lexer.specs.Grammar.{IsPart, IsName}
use Rattle.gq_lexer.specs.Tokens.{Part, Reads, tokens_from, token_of, AreTokens}
use Rattle.gq_parser.specs.Word.{tokens_of}
use Rattle.gq_parser.specs.Fault.{IsDocumentOf, most_bytes}
use Rattle.gq_parser.specs.Tree.{Document}
use Rattle.plan_laws.proofs.Each.{Each}
use Rattle.world_answers.proofs.Names.{IsWritten, TokenNames, DocumentNames, document-names}

name-small : (b : ℕ) → is_name_continue b ≡ true → b < 128
name-small b h = grind (arith, nat_tests)

name-utf8 : (bs : List ℕ) → IsName bs → IsUtf8 bs
name-utf8 [] h = absurd h
name-utf8 (b ∷ bs) h =
    let all : list_all is_name_continue (b ∷ bs) ≡ true = let start = h.0 in let rest = h.1 in grind arith in
    IsUtf8-from_ascii (b ∷ bs) (IsAscii-from_all (b ∷ bs) (All-weaker _ (λ c. c < 128) name-small (b ∷ bs) (AllPass-from_list_all is_name_continue (b ∷ bs) all)))

module _ (text : List ℕ) (short : length text ≤ most_bytes) where
  abbrev Written : List lexer.Token → Type 0
  Written tokens = Each TokenNames (tokens_of text tokens)

  one-part : (s : ScannedKind) (bs after : List ℕ) (start : ℕ) (tokens : List lexer.Token) → start ≤ length text → drop start text ≡ bs ++ after → IsPart s bs after → Written tokens → Written (token_of s text start (start + length bs) ++ tokens)
  one-part (shape.Token kind.Name) bs after start tokens within e part rest =
      let span : start + length bs - start ≡ length bs = omega arith in
      let bytes : slice_range text start (start + length bs) ≡ bs = rw (span, e) (take_at bs after (length bs) refl) in
      let is : IsWritten bs = record { utf8 = name-utf8 bs part.0; short = omega (arith, short, ap length e, length-append bs after, length-drop start text) } in
      (subst IsWritten (sym bytes) is, rest)
  one-part (shape.Token k) bs after start tokens within e part rest = (tt, rest)
  one-part s bs after start tokens within e part rest = rest

  parts-written : (ps : List Part) (start : ℕ) → start ≤ length text → Reads ps (drop start text) [] → Written (tokens_from text start ps)
  parts-written [] start begins h = tt
  parts-written (p ∷ ps) start begins h =
      let n = length p.bytes in
      let within : start + n ≤ length text = omega (arith, ap length h.1, length-append p.bytes h.0, length-drop start text) in
      let rest : h.0 ≡ drop (start + n) text = sym (sym (drop-drop n start text) ∙ ap (drop n) h.1 ∙ drop_at p.bytes h.0 n refl) in
      one-part p.shape p.bytes h.0 start (tokens_from text (start + n) ps) begins h.1 h.2 (parts-written ps (start + n) within (subst (λ (t : List ℕ). Reads ps t []) rest h.3))

  pub tokens-written : (tokens : List lexer.Token) → AreTokens text tokens → Each TokenNames (tokens_of text tokens)
  tokens-written tokens h = subst (λ ts. Written ts) (sym h.tokens_are) (parts-written h.parts 0 (omega arith) h.whole)

pub document-written : (text : List ℕ) (d : Document) → IsDocumentOf text d → DocumentNames d
document-written text d h = document-names d (tokens_of text h.tokens) h.is (tokens-written text h.short h.tokens h.reads)
