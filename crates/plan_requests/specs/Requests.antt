-- Definitions of what the plan of a request is, and why there is none.
use Rattle.std.specs.Prelude.{◌≡◌, ℕ, Bool, true, false, List, Option, None, Ok, option_map, codes}
use Rattle.std.specs.Borrow.{Bor}
use Rattle.text_place.specs.declared.place.Place.{Place}
use Rattle.gq_lexer.specs.declared.fault.LexFault.{LexFault}
use Rattle.gq_lexer.specs.declared.fault.LexFault.TheVariants as lex
use Rattle.gq_parser.specs.declared.fault.ParseFault.{ParseFault}
use Rattle.gq_parser.specs.declared.fault.ParseFault.TheVariants as parse
use Rattle.gq_parser.specs.Fault.{IsDocumentOf, IsParseFault, place_of_parse_fault}
use Rattle.gq_parser.specs.Tree.{Document}
use Rattle.serde_json.specs.Data.{Data}
use Rattle.schema_syntax.specs.Tree.{Definition}
use Rattle.gq_check.specs.declared.fault.CheckFault.{CheckFault}
use Rattle.gq_check.specs.declared.fault.CheckFault.TheVariants as check
use Rattle.gq_check.specs.declared.fault.PrepareFault.{PrepareFault}
use Rattle.gq_check.specs.declared.fault.PrepareFault.TheVariants as prepare
use Rattle.gq_check.specs.Plans.{PlanOf}
use Rattle.gq_check.specs.Prepared.{prepared, IsPrepareFault}
use Rattle.gq_check.specs.Verdict.{IsVerdict, IsValid, IsCheckFault}
use Rattle.gq_check.specs.Texts.{check_message, check_place, prepare_message}
use Rattle.plan_requests.specs.declared.fault.RequestFault.{RequestFault}
use Rattle.plan_requests.specs.declared.fault.RequestFault.TheVariants as fault

-- the name of an operation, where one is given
abbrev pub name_given : Option (Bor (List ℕ)) → Option (List ℕ)
name_given name = option_map (λ n. n.now) name

-- The query is a document that is valid, and the plan is that of the operation that is asked for, with these values given for
-- its variables.
pub record IsPlanOf (defs : List Definition) (query : List ℕ) (name : Option (List ℕ))
    (given : Data) (p : PlanOf) : Type 0 where
  pub document : Document
  pub says : IsDocumentOf query document
  pub valid : IsValid defs document
  pub fragments : p.fragments ≡ document.fragments
  pub prepared : prepared defs document.operations name given
      ≡ Ok (record { operation = p.operation; variables = p.variables })

-- The query is a document that is not valid, for this.
pub record IsInvalid (defs : List Definition) (query : List ℕ) (e : CheckFault) : Type 0 where
  pub document : Document
  pub says : IsDocumentOf query document
  pub fault : IsCheckFault (IsVerdict defs document) e

-- The query is a document that is valid, and its operation can't be prepared, for this.
pub record IsUnprepared (defs : List Definition) (query : List ℕ) (name : Option (List ℕ))
    (given : Data) (e : PrepareFault) : Type 0 where
  pub document : Document
  pub says : IsDocumentOf query document
  pub valid : IsValid defs document
  pub fault : IsPrepareFault (prepared defs document.operations name given) e

-- says why a request has no plan; of memory this says nothing more
abbrev pub IsRequestFault : List Definition → List ℕ
    → Option (List ℕ) → Data → RequestFault → Type 0
IsRequestFault defs query name given (fault.Parse e) = IsParseFault query e
IsRequestFault defs query name given (fault.Check e) = IsInvalid defs query e
IsRequestFault defs query name given (fault.Prepare e) = IsUnprepared defs query name given e

-- memory was refused
abbrev pub is_want_of_memory : RequestFault → Bool
is_want_of_memory (fault.Parse parse.NoMemory) = true
is_want_of_memory (fault.Check check.NoMemory) = true
is_want_of_memory (fault.Prepare prepare.NoMemory) = true
is_want_of_memory _ = false

-- ---- texts

abbrev pub token_message : LexFault → List ℕ
token_message lex.TooLong = codes "document too long"
token_message (lex.BadCharacter p) = codes "bad character"
token_message (lex.UnterminatedString p) = codes "unterminated string"
token_message (lex.BadEscape p) = codes "bad escape"
token_message (lex.BadNumber p) = codes "bad number"
token_message lex.NoMemory = codes "out of memory"

abbrev pub parse_message : ParseFault → List ℕ
parse_message (parse.Lex e) = token_message e
parse_message (parse.Unexpected p) = codes "unexpected token"
parse_message (parse.UnexpectedEnd p) = codes "unexpected end"
parse_message (parse.TooDeep p) = codes "too deep"
parse_message parse.NoMemory = codes "out of memory"

-- the message of a refusal
abbrev pub request_message : RequestFault → List ℕ
request_message (fault.Parse e) = parse_message e
request_message (fault.Check e) = check_message e
request_message (fault.Prepare e) = prepare_message e

-- the place of a refusal, if it has one
abbrev pub request_place : RequestFault → Option Place
request_place (fault.Parse e) = place_of_parse_fault e
request_place (fault.Check e) = check_place e
request_place (fault.Prepare e) = None
