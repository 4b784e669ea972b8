-- Documents and their faults.
use Rattle.std.proofs.Common.{◌≡◌, ◌≢◌, ◌<◌, ◌≤◌, ℕ, List, [], ◌∷◌, ◌++◌, length, Option, Some, None, refl, sym, subst, append_assoc, arith}
use Rattle.text_place.specs.declared.place.Place.{Place}
use Rattle.gq_lexer.specs.declared.token.Token as lexer
use Rattle.gq_lexer.specs.Tokens.{AreTokens}
use Rattle.gq_parser.specs.Word.{Token, at, tokens_of, AreSpelled}
use Rattle.gq_parser.specs.declared.fault.Fault.{Fault}
use Rattle.gq_parser.specs.declared.fault.Fault.TheVariants.{Unexpected, TooDeep, NoMemory}
use Rattle.gq_parser.specs.Tree.{Operation, Fragment, Document}
use Rattle.gq_parser.specs.Grammar.{AreDefinitions, no_more_definitions, next_operation, next_fragment, IsDocument, IsOperation, shorthand, IsFragment}
use Rattle.gq_parser.specs.Fault.{IsViable, IsShallow, IsUnexpected, IsUnexpectedAt, IsTooDeepAt, IsParseFault, most_brackets, most_bytes}
use Rattle.gq_parser.specs.Machine.{ADefinition, one, Done, read}
use Rattle.gq_parser.specs.Parsing.{Fails, parse_fault_of}
use Rattle.gq_parser.proofs.Means.{Means, ends, then', d_operation, d_fragment}
use Rattle.gq_parser.proofs.Stops as stops
use Rattle.gq_parser.proofs.Stops.{Ends, StopsAt, SinksAt, read_ends, read_done}

definitions_mean : (os : List Operation) (fs : List Fragment) (tokens : List Token) → tokens ≢ [] → AreDefinitions os fs tokens → Means (one ADefinition) tokens
definitions_mean os fs tokens some no_more_definitions = absurd (some refl)
definitions_mean os fs tokens some (next_operation o others) = then' (d_operation o) (ends others)
definitions_mean os fs tokens some (next_fragment f others) = then' (d_fragment f) (ends others)

document_means : (d : Document) (tokens : List Token) → IsDocument d tokens → Means (one ADefinition) tokens
document_means d tokens h = definitions_mean d.operations d.fragments tokens h.some h.are

operation_some : {o : Operation} {tokens mid : List Token} → IsOperation o tokens mid → tokens ≡ [] → ⊥
operation_some {tokens = []} (shorthand s) e = elim s [ ]
operation_some {tokens = t ∷ ts} o e = cc

fragment_some : {f : Fragment} {tokens mid : List Token} → IsFragment f tokens mid → tokens ≡ [] → ⊥
fragment_some {tokens = []} f e = elim f [ ]
fragment_some {tokens = t ∷ ts} f e = cc

means_document : (tokens : List Token) → Means (one ADefinition) tokens → (d : Document) × IsDocument d tokens
means_document tokens (then' (d_operation {o = o} is) (ends {os = os} {fs = fs} others)) =
    (record { operations = o ∷ os; fragments = fs }, record { some = operation_some is; are = next_operation is others })
means_document tokens (then' (d_fragment {f = f} is) (ends {os = os} {fs = fs} others)) =
    (record { operations = os; fragments = f ∷ fs }, record { some = fragment_some is; are = next_fragment is others })

viable : (good more : List Token) → AreSpelled more → Means (one ADefinition) (good ++ more) → IsViable good
viable good more spelled h = let d = means_document (good ++ more) h in record { document = d.0; more = more; spelled = spelled; is = d.1 }

unexpected : (good bad : List Token) → stops.Unexpected (one ADefinition) good bad → IsUnexpected good bad
unexpected good [] u = λ d h. u (document_means d good h)
unexpected good (t ∷ bad) u = λ v. u v.more (subst (Means (one ADefinition)) (append_assoc good (t ∷ []) v.more) (document_means v.document ((good ++ t ∷ []) ++ v.more) v.is))

pub stopped : (tokens : List Token) (place : Option Place) → StopsAt most_brackets (one ADefinition) tokens place → IsUnexpectedAt tokens place
stopped tokens place s = record { good = s.good; bad = s.bad; whole = s.whole; placed = s.placed; viable = viable s.good s.more s.spelled s.viable; shallow = s.shallow; unexpected = unexpected s.good s.bad s.unexpected }

pub sunk : (tokens : List Token) (place : Place) → SinksAt most_brackets (one ADefinition) tokens place → IsTooDeepAt tokens place
sunk tokens place s = record {
  good = s.good;
  opens = s.opens;
  bad = s.bad;
  whole = s.whole;
  viable = viable (s.good ++ at place s.opens ∷ []) s.more s.spelled (subst (Means (one ADefinition)) (sym (append_assoc s.good (at place s.opens ∷ []) s.more)) s.viable);
  shallow = s.shallow;
  deep = s.deep;
}

-- says what a fault says of the tokens
abbrev pub IsTokenFault : List Token → Fault → Type 0
IsTokenFault tokens (Unexpected place) = IsUnexpectedAt tokens place
IsTokenFault tokens (TooDeep place) = IsTooDeepAt tokens place
IsTokenFault tokens NoMemory = Unit {0}

pub is_fault : (tokens : List Token) (e : Fault) → Fails e (read most_brackets (one ADefinition) tokens) → IsTokenFault tokens e
is_fault tokens (Unexpected place) e = stopped tokens place (subst (Ends most_brackets (one ADefinition) tokens) e (read_ends most_brackets (one ADefinition) tokens))
is_fault tokens (TooDeep place) e = sunk tokens place (subst (Ends most_brackets (one ADefinition) tokens) e (read_ends most_brackets (one ADefinition) tokens))
is_fault tokens NoMemory e = tt

-- tokens that come whole do not fail
pub finds_err : (tokens : List Token) (e : Fault) (d : Document) → Fails e (read most_brackets (one ADefinition) tokens) → IsDocument d tokens → IsShallow most_brackets tokens → e ≡ NoMemory
finds_err tokens (Unexpected place) d e h shallow = let done = read_done most_brackets (one ADefinition) tokens (document_means d tokens h) shallow in absurd (cc (e, done))
finds_err tokens (TooDeep place) d e h shallow = let done = read_done most_brackets (one ADefinition) tokens (document_means d tokens h) shallow in absurd (cc (e, done))
finds_err tokens NoMemory d e h shallow = refl

pub shallow_from : (tokens : List Token) → read most_brackets (one ADefinition) tokens ≡ Done → IsShallow most_brackets tokens
shallow_from tokens e = subst (Ends most_brackets (one ADefinition) tokens) e (read_ends most_brackets (one ADefinition) tokens)

-- the fault of a text
pub text_fault : (text : List ℕ) (tokens : List lexer.Token) (f : Fault) → length text ≤ most_bytes → AreTokens text tokens → IsTokenFault (tokens_of text tokens) f → IsParseFault text (parse_fault_of f text)
text_fault text tokens (Unexpected None) short reads h = (record { tokens = tokens; short = short; reads = reads; holds = h }, refl)
text_fault text tokens (Unexpected (Some p)) short reads h = record { tokens = tokens; short = short; reads = reads; holds = h }
text_fault text tokens (TooDeep p) short reads h = record { tokens = tokens; short = short; reads = reads; holds = h }
text_fault text tokens NoMemory short reads h = tt

pub not_long : (m n : ℕ) → (m < n → ⊥) → n ≤ m
not_long m n h = omega arith
