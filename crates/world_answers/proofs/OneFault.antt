-- A query is one document or has one first fault.
use Rattle.std.proofs.Common.{◌≡◌, ◌≢◌, ◌<◌, ◌≤◌, ℕ, List, length, Some, None, refl, sym, ap, subst, ◌∙◌, arith}
use Rattle.text_place.specs.declared.place.Place.{Place}
use Rattle.gq_lexer.specs.declared.token.Token as lexer
use Rattle.gq_lexer.specs.declared.scan.ScanFault.{ScanFault}
use Rattle.gq_lexer.specs.declared.scan.ScanFault.TheVariants as stop
use Rattle.gq_lexer.specs.declared.fault.LexFault.TheVariants as lex
use Rattle.gq_lexer.specs.Tokens.{AreTokens, StopsAt}
use Rattle.gq_lexer.specs.Place.{place_of}
use Rattle.gq_lexer.specs.Faults.{fault_of}
use Rattle.gq_lexer.proofs.Unique.{same_tokens, tokens_or_fault, same_fault}
use Rattle.gq_parser.specs.declared.fault.ParseFault.{ParseFault}
use Rattle.gq_parser.specs.declared.fault.ParseFault.TheVariants as fault
use Rattle.gq_parser.specs.Word.{tokens_of}
use Rattle.gq_parser.specs.Tree.{Document}
use Rattle.gq_parser.specs.Grammar.{IsDocument}
use Rattle.gq_parser.specs.Fault.{most_bytes, most_brackets, IsDocumentOf, IsParseFault}
use Rattle.gq_parser.specs.Machine.{ADefinition, one, Outcome, Done, Stopped, Sunk, read}
use Rattle.gq_parser.proofs.Stops.{read_done}
use Rattle.gq_parser.proofs.Unique.{document_one}
use Rattle.world_answers.proofs.Documents.{document-means, unexpected-read, deep-read}

module _ (text : List ℕ) where
  -- gives the fault that a reading ends with
  abbrev told : Outcome → ParseFault
  told Done = fault.NoMemory
  told (Stopped (Some p)) = fault.Unexpected p
  told (Stopped None) = fault.UnexpectedEnd (place_of text (length text))
  told (Sunk p) = fault.TooDeep p

  abbrev outcome : List lexer.Token → Outcome
  outcome ts = read most_brackets (one ADefinition) (tokens_of text ts)

  -- a text that is too long, one that is no list of tokens, or what is read in its tokens
  data FaultCase (f : ParseFault) : Type 0 where
    of_length : most_bytes < length text → f ≡ fault.Lex lex.TooLong → FaultCase f
    of_stop : (s : ScanFault) (p : Place) → StopsAt text s p → length text ≤ most_bytes → f ≡ fault.Lex (fault_of s p) → FaultCase f
    of_tokens : (ts : List lexer.Token) → AreTokens text ts → length text ≤ most_bytes → f ≡ told (outcome ts) → FaultCase f

  fault-case : (f : ParseFault) → f ≢ fault.NoMemory → IsParseFault text f → FaultCase f
  fault-case (fault.Lex lex.TooLong) some h = of_length h refl
  fault-case (fault.Lex (lex.BadCharacter p)) some h = of_stop stop.BadCharacter p h.0 h.1 refl
  fault-case (fault.Lex (lex.UnterminatedString p)) some h = of_stop stop.UnterminatedString p h.0 h.1 refl
  fault-case (fault.Lex (lex.BadEscape p)) some h = of_stop stop.BadEscape p h.0 h.1 refl
  fault-case (fault.Lex (lex.BadNumber p)) some h = of_stop stop.BadNumber p h.0 h.1 refl
  fault-case (fault.Lex lex.NoMemory) some h = absurd h
  fault-case (fault.Unexpected p) some h = of_tokens h.tokens h.reads h.short (ap told (sym (unexpected-read (tokens_of text h.tokens) (Some p) h.holds)))
  fault-case (fault.UnexpectedEnd p) some h = of_tokens h.0.tokens h.0.reads h.0.short (ap fault.UnexpectedEnd h.1 ∙ ap told (sym (unexpected-read (tokens_of text h.0.tokens) None h.0.holds)))
  fault-case (fault.TooDeep p) some h = of_tokens h.tokens h.reads h.short (ap told (sym (deep-read (tokens_of text h.tokens) p h.holds)))
  fault-case fault.NoMemory some h = absurd (some refl)

  one-case : (f g : ParseFault) → FaultCase f → FaultCase g → f ≡ g
  one-case f g (of_length h e) (of_length k d) = e ∙ sym d
  one-case f g (of_length h e) (of_stop t q k short d) = absurd (omega (arith, h, short))
  one-case f g (of_length h e) (of_tokens us k short d) = absurd (omega (arith, h, short))
  one-case f g (of_stop s p h short e) (of_length k d) = absurd (omega (arith, k, short))
  one-case f g (of_stop s p h short e) (of_stop t q k _ d) = let same = same_fault text s t p q h k in e ∙ ap (λ z. fault.Lex (fault_of z p)) same.0 ∙ ap (λ z. fault.Lex (fault_of t z)) same.1 ∙ sym d
  one-case f g (of_stop s p h short e) (of_tokens us k _ d) = absurd (tokens_or_fault text us s p k h)
  one-case f g (of_tokens ts h short e) (of_length k d) = absurd (omega (arith, k, short))
  one-case f g (of_tokens ts h short e) (of_stop t q k _ d) = absurd (tokens_or_fault text ts t q h k)
  one-case f g (of_tokens ts h short e) (of_tokens us k _ d) = e ∙ ap (λ z. told (outcome z)) (same_tokens text ts us h k) ∙ sym d

  document-or-case : (d : Document) (f : ParseFault) → f ≢ fault.NoMemory → IsDocumentOf text d → FaultCase f → ⊥
  document-or-case d f some h (of_length k e) = let short = h.short in omega (arith, k, short)
  document-or-case d f some h (of_stop s p k short e) = tokens_or_fault text h.tokens s p h.reads k
  document-or-case d f some h (of_tokens ts k short e) =
      let done : outcome h.tokens ≡ Done = read_done most_brackets (one ADefinition) (tokens_of text h.tokens) (document-means d (tokens_of text h.tokens) h.is) h.shallow in
      some (e ∙ ap told (ap outcome (same_tokens text ts h.tokens k h.reads) ∙ done))

  pub one_fault : (f g : ParseFault) → f ≢ fault.NoMemory → g ≢ fault.NoMemory → IsParseFault text f → IsParseFault text g → f ≡ g
  one_fault f g some some' h k = one-case f g (fault-case f some h) (fault-case g some' k)

  pub document_or_fault : (d : Document) (f : ParseFault) → f ≢ fault.NoMemory → IsDocumentOf text d → IsParseFault text f → ⊥
  document_or_fault d f some h k = document-or-case d f some h (fault-case f some k)

  pub one_document : (d e : Document) → IsDocumentOf text d → IsDocumentOf text e → d ≡ e
  one_document d e h k = document_one h.is (subst (λ ts. IsDocument e (tokens_of text ts)) (same_tokens text k.tokens h.tokens k.reads h.reads) k.is)
