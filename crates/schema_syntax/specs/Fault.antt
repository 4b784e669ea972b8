-- Definitions of where the tokens are no schema, and which fault that is.
use Rattle.std.specs.Prelude.{◌≡◌, ◌⊎◌, ℕ, List, [], ◌∷◌, ◌++◌, Option, Some, codes}
use Rattle.text_place.specs.declared.place.Place.{Place}
use Rattle.gq_lexer.specs.declared.token.Punct.TheVariants.{Amp, Colon, At, BracketLeft, BraceLeft, BraceRight}
use Rattle.gq_parser.specs.declared.keyword.Keyword.{Keyword}
use Rattle.gq_parser.specs.declared.keyword.Keyword.TheVariants.{Query, Mutation, Subscription, Other}
use Rattle.gq_parser.specs.Word.{Word, Punct, Name, Token, at, AreSpelled, place_of_next}
use Rattle.gq_parser.specs.Fault.{IsShallow, most_brackets}
use Rattle.schema_syntax.specs.declared.word.SchemaWord.TheVariants as word
use Rattle.schema_syntax.specs.declared.fault.TokenFault.{TokenFault}
use Rattle.schema_syntax.specs.declared.fault.TokenFault.TheVariants.{Unexpected, NotServed, NoMemory}
use Rattle.schema_syntax.specs.Word.{word_of}
use Rattle.schema_syntax.specs.Tree.{Definition}
use Rattle.schema_syntax.specs.Grammar.{IsDocument}

-- behind these tokens the next ones can come: with more after them they are a schema
pub record CanCome (good next : List Token) : Type 0 where
  pub definitions : List Definition
  pub more : List Token
  pub spelled : AreSpelled more
  pub is : IsDocument definitions (good ++ (next ++ more))

-- an operation type of `schema` but `query`
abbrev pub IsOtherOperation : Keyword → Type 0
IsOtherOperation Mutation = Unit {0}
IsOtherOperation Subscription = Unit {0}
IsOtherOperation _ = ⊥

-- A word that is part of the language, at a place where it isn't served. It stands where a word that is served can come.
pub data IsUnservedWord (Comes : List Token → Type 0) : Token → Type 0 where
  -- `scalar`, `input`, `directive` or `extend`, where the word `type` can come
  definition : {p : Place} {k : Keyword} {n : List ℕ} → word_of n ≡ word.Unserved
      → Comes (at p (Name k (codes "type")) ∷ []) → IsUnservedWord Comes (at p (Name k n))
  -- `mutation` or `subscription`, where the word `query` or a closing brace can come: in `schema` alone they can come where not every name
  -- can
  operation : {p : Place} {k : Keyword} {n : List ℕ} → IsOtherOperation k
      → Comes (at p (Name Query (codes "query")) ∷ []) ⊎ Comes (at p (Punct BraceRight) ∷ [])
      → IsUnservedWord Comes (at p (Name k n))
  -- `implements`, where fields in braces can come, and no further interface: behind the name of an interface
  implements : {p : Place} {k : Keyword} {n : List ℕ} → word_of n ≡ word.Implements
      → Comes (at p (Punct BraceLeft) ∷ at p (Name Other (codes "a")) ∷ at p (Punct Colon) ∷ [])
      → (Comes (at p (Punct Amp) ∷ []) → ⊥) → IsUnservedWord Comes (at p (Name k n))
  -- `Float`, where another name can come
  float : {p : Place} {k : Keyword} {n : List ℕ} → word_of n ≡ word.Float
      → Comes (at p (Name k (codes "a")) ∷ []) → IsUnservedWord Comes (at p (Name k n))

-- the last of these tokens says this
abbrev pub EndsIn : Word → List Token → Type 0
EndsIn w [] = ⊥
EndsIn w (at p v ∷ []) = v ≡ w
EndsIn w (at p v ∷ t ∷ rest) = EndsIn w (t ∷ rest)

-- Behind these tokens the others begin with something that isn't served: with a directive other than a `@deprecated` where
-- one can come, with an unserved word, or with a `[` directly behind the `[` of a type.
pub data IsUnserved (Comes : List Token → Type 0) (good : List Token) : List Token → Type 0 where
  directive : {p q : Place} {k : Keyword} {n : List ℕ} {rest : List Token}
      → (Comes (at p (Punct At) ∷ at q (Name k n) ∷ []) → ⊥)
      → IsUnserved Comes good (at p (Punct At) ∷ at q (Name k n) ∷ rest)
  a_word : {t : Token} {rest : List Token} → (Comes (t ∷ []) → ⊥)
      → IsUnservedWord Comes t → IsUnserved Comes good (t ∷ rest)
  list : {p : Place} {rest : List Token} → (Comes (at p (Punct BracketLeft) ∷ []) → ⊥)
      → EndsIn (Punct BracketLeft) good → IsUnserved Comes good (at p (Punct BracketLeft) ∷ rest)

-- an `@` is on one side, and its name on the other
abbrev pub PartsDirective : List Token → List Token → Type 0
PartsDirective good [] = ⊥
PartsDirective good (at p (Name k n) ∷ rest) = EndsIn (Punct At) good
PartsDirective good (at p _ ∷ rest) = ⊥

-- The first of these tokens can't come behind the good ones, or it opens a bracket while too many are open. Where there is none: the good
-- ones are no schema.
abbrev pub IsRefused : List Token → List Token → Type 0
IsRefused good [] = (ds : List Definition) → IsDocument ds good → ⊥
IsRefused good (t ∷ rest) = (CanCome good (t ∷ []) → ⊥)
    ⊎ (IsShallow most_brackets (good ++ t ∷ []) → ⊥)

-- the tokens up to the first fault, and the others
pub record IsCut (tokens good bad : List Token) : Type 0 where
  pub whole : tokens ≡ good ++ bad
  pub viable : CanCome good []
  pub shallow : IsShallow most_brackets good
  pub together : PartsDirective good bad → ⊥

-- The first fault is a syntax fault, here or at the end.
pub record IsUnexpectedAt (tokens : List Token) (place : Option Place) : Type 0 where
  pub good : List Token
  pub bad : List Token
  pub cut : IsCut tokens good bad
  pub placed : place_of_next bad ≡ place
  pub refused : IsRefused good bad
  pub served : IsUnserved (CanCome good) good bad → ⊥

-- The first fault is here, and it is one of what isn't served.
pub record IsNotServedAt (tokens : List Token) (place : Place) : Type 0 where
  pub good : List Token
  pub bad : List Token
  pub cut : IsCut tokens good bad
  pub placed : place_of_next bad ≡ Some place
  pub unserved : IsUnserved (CanCome good) good bad

-- the first fault of the tokens; of memory this says nothing
abbrev pub IsStop : List Token → TokenFault → Type 0
IsStop tokens (Unexpected place) = IsUnexpectedAt tokens place
IsStop tokens (NotServed place) = IsNotServedAt tokens place
IsStop tokens NoMemory = Unit {0}
