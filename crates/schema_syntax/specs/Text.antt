-- Schema texts, and the faults of texts: those of tokens behind which the text ends, or has a lexical fault.
use Rattle.std.specs.Prelude.{◌≡◌, ◌<◌, ◌≤◌, ◌⊎◌, ℕ, List, [], length, Option, Some, None, Result, Ok, Err}
use Rattle.text_place.specs.declared.place.Place.{Place}
use Rattle.gq_lexer.specs.declared.token.Token as lexer
use Rattle.gq_lexer.specs.declared.fault.LexFault.{LexFault}
use Rattle.gq_lexer.specs.Place.{place_of}
use Rattle.gq_lexer.specs.Tokens.{AreTokens}
use Rattle.gq_lexer.specs.Faults.{AreTokensBefore, place_of_fault}
use Rattle.gq_parser.specs.Word.{Token, tokens_of}
use Rattle.gq_parser.specs.Fault.{IsShallow, most_brackets, most_bytes}
use Rattle.schema_syntax.specs.declared.fault.SyntaxFault.{SyntaxFault}
use Rattle.schema_syntax.specs.declared.fault.SyntaxFault.TheVariants.{Syntax, NotServed, NoMemory}
use Rattle.schema_syntax.specs.declared.tree.SchemaDocument.{SchemaDocument}
use Rattle.schema_syntax.specs.Tree.{Definition, definitions_of}
use Rattle.schema_syntax.specs.Grammar.{IsDocument}
use Rattle.schema_syntax.specs.Fault.{CanCome, IsUnexpectedAt, IsNotServedAt}

-- no fault is among the tokens: a schema can begin with them
pub record IsReadable (tokens : List Token) : Type 0 where
  pub viable : CanCome tokens []
  pub shallow : IsShallow most_brackets tokens

-- A syntax fault, where the text ends behind the tokens or has a lexical fault there: a token that can't come, or what
-- stands behind the tokens.
abbrev pub IsSyntax : List ℕ → List Token → Option Place → Place → Type 0
IsSyntax text tokens None place = IsUnexpectedAt tokens (Some place)
    ⊎ ((place ≡ place_of text (length text)) × IsUnexpectedAt tokens None)
IsSyntax text tokens (Some lexical) place = IsUnexpectedAt tokens (Some place)
    ⊎ ((place ≡ lexical) × IsReadable tokens)

-- the first fault; of memory this says nothing
abbrev pub IsSyntaxFault : List ℕ → List Token → Option Place → SyntaxFault → Type 0
IsSyntaxFault text tokens lexical (Syntax place) = IsSyntax text tokens lexical place
IsSyntaxFault text tokens lexical (NotServed place) = IsNotServedAt tokens place
IsSyntaxFault text tokens lexical NoMemory = Unit {0}

-- this tree was found, unless memory ran out
abbrev pub FindsTree : List Definition → Result SchemaDocument SyntaxFault → Type 0
FindsTree ds (Ok d) = definitions_of d ≡ ds
FindsTree ds (Err fault) = fault ≡ NoMemory

-- The text is this schema, and no bracket in it is opened while 128 are open.
pub record IsSchemaOf (text : List ℕ) (ds : List Definition) : Type 0 where
  pub tokens : List lexer.Token
  pub short : length text ≤ most_bytes
  pub reads : AreTokens text tokens
  pub is : IsDocument ds (tokens_of text tokens)
  pub shallow : IsShallow most_brackets (tokens_of text tokens)

-- The first fault of a text: it is too long, or it is a list of tokens, or it has tokens and then a lexical fault. Of
-- memory this says nothing.
pub data IsTextFault (text : List ℕ) : SyntaxFault → Type 0 where
  too_long : most_bytes < length text → IsTextFault text (Syntax (record { line = 1; column = 1 }))
  of_tokens : {fault : SyntaxFault} (tokens : List lexer.Token) → length text ≤ most_bytes
      → AreTokens text tokens → IsSyntaxFault text (tokens_of text tokens) None fault
      → IsTextFault text fault
  before_lexical : {fault : SyntaxFault} (tokens : List lexer.Token) (lexical : LexFault)
      → length text ≤ most_bytes → AreTokensBefore text tokens lexical → IsSyntaxFault text
      (tokens_of text tokens) (place_of_fault lexical) fault → IsTextFault text fault
  memory : IsTextFault text NoMemory
