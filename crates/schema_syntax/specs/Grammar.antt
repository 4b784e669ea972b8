-- The grammar of schema texts in the part that is served (October 2021, section 3), a case for each production.
-- IsField f before after says that before is the tokens of the field f and then after; and so the others.
-- A place in a tree is that of the token that stands beside it here.
use Rattle.std.specs.Prelude.{◌≡◌, ℕ, Bool, true, false, List, [], ◌∷◌, Option}
use Rattle.text_place.specs.declared.place.Place.{Place}
use Rattle.gq_lexer.specs.declared.token.Punct.TheVariants.{Amp, ParenLeft, ParenRight, Colon, Equals, At, BraceLeft, BraceRight, Pipe}
use Rattle.gq_parser.specs.declared.keyword.Keyword.{Keyword}
use Rattle.gq_parser.specs.declared.keyword.Keyword.TheVariants.{Query}
use Rattle.gq_parser.specs.Word as token
use Rattle.gq_parser.specs.Word.{Token, at, Punct, Text}
use Rattle.gq_parser.specs.Keywords.{IsEnumName}
use Rattle.gq_parser.specs.Tree.{Value, TypeTree, Named, ListOf}
use Rattle.gq_parser.specs.Grammar.{IsType, IsDefault}
use Rattle.schema_syntax.specs.declared.word.SchemaWord.{SchemaWord}
use Rattle.schema_syntax.specs.declared.word.SchemaWord.TheVariants as word
use Rattle.schema_syntax.specs.Word.{word_of, IsServedName}
use Rattle.schema_syntax.specs.Tree.{Name, Argument, Field, Definition, Schema, Object, Interface, Union, Enum}

-- Description?: a string, which is skipped
pub data IsDescription : List Token → List Token → Type 0 where
  no_description : {after : List Token} → IsDescription after after
  description : {p : Place} {s : List ℕ} {after : List Token}
      → IsDescription (at p (Text s) ∷ after) after

-- a name, whatever it is
pub data IsName : Name → List Token → List Token → Type 0 where
  a_name : {p : Place} {k : Keyword} {n : List ℕ} {after : List Token}
      → IsName (record { text = n; place = p }) (at p (token.Name k n) ∷ after) after

-- the name of a type, not `Float`
pub data IsTypeName : Name → List Token → List Token → Type 0 where
  type_name : {p : Place} {k : Keyword} {n : List ℕ} {after : List Token} → IsServedName n
      → IsTypeName (record { text = n; place = p }) (at p (token.Name k n) ∷ after) after

-- a type without `Float` and without a list in a list
abbrev pub IsServedType : TypeTree → Type 0
IsServedType (Named p n b) = IsServedName n
IsServedType (ListOf p (Named q n b) c) = IsServedName n
IsServedType (ListOf p (ListOf q t b) c) = ⊥

-- Deprecated?: `@` `deprecated` (`(` `reason` `:` string `)`)?, which is skipped
pub data IsReason : List Token → List Token → Type 0 where
  no_reason : {after : List Token} → IsReason after after
  reason : {p q r u v : Place} {k : Keyword} {n s : List ℕ} {after : List Token}
      → word_of n ≡ word.Reason → IsReason (at p (Punct ParenLeft) ∷ at q (token.Name k n)
      ∷ at r (Punct Colon) ∷ at u (Text s) ∷ at v (Punct ParenRight) ∷ after) after

pub data IsDeprecated : List Token → List Token → Type 0 where
  not_deprecated : {after : List Token} → IsDeprecated after after
  deprecated : {p q : Place} {k : Keyword} {n : List ℕ} {mid after : List Token}
      → word_of n ≡ word.Deprecated → IsReason mid after
      → IsDeprecated (at p (Punct At) ∷ at q (token.Name k n) ∷ mid) after

-- ArgDef: Description? Name `:` Type Default?
pub data IsArgument : Argument → List Token → List Token → Type 0 where
  argument : {p : Place} {n : Name} {t : TypeTree} {v : Option Value}
      {before mid mid' mid'' after : List Token}
      → IsDescription before mid → IsName n mid (at p (Punct Colon) ∷ mid') → IsType t mid' mid''
      → IsServedType t → IsDefault v mid'' after
      → IsArgument (record { name = n; of_type = t; default = v }) before after

-- ArgDef* `)`; with false, ArgDef+ `)`
pub data AreArguments : Bool → List Argument → List Token → List Token → Type 0 where
  no_more_arguments : {p : Place} {after : List Token}
      → AreArguments true [] (at p (Punct ParenRight) ∷ after) after
  next_argument : {none : Bool} {a : Argument} {others : List Argument}
      {before mid after : List Token}
      → IsArgument a before mid → AreArguments true others mid after
      → AreArguments none (a ∷ others) before after

-- (`(` ArgDef+ `)`)?
pub data AreOptionalArguments : List Argument → List Token → List Token → Type 0 where
  no_arguments : {after : List Token} → AreOptionalArguments [] after after
  arguments : {p : Place} {as' : List Argument} {mid after : List Token}
      → AreArguments false as' mid after
      → AreOptionalArguments as' (at p (Punct ParenLeft) ∷ mid) after

-- FieldDef: Description? Name (`(` ArgDef+ `)`)? `:` Type Deprecated?
pub data IsField : Field → List Token → List Token → Type 0 where
  field : {p : Place} {n : Name} {as' : List Argument} {t : TypeTree}
      {before mid mid' mid'' mid''' after : List Token}
      → IsDescription before mid → IsName n mid mid'
      → AreOptionalArguments as' mid' (at p (Punct Colon) ∷ mid'') → IsType t mid'' mid'''
      → IsServedType t → IsDeprecated mid''' after
      → IsField (record { name = n; arguments = as'; of_type = t }) before after

-- FieldDef* `}`; with false, FieldDef+ `}`
pub data AreFields : Bool → List Field → List Token → List Token → Type 0 where
  no_more_fields : {p : Place} {after : List Token}
      → AreFields true [] (at p (Punct BraceRight) ∷ after) after
  next_field : {none : Bool} {f : Field} {others : List Field} {before mid after : List Token}
      → IsField f before mid → AreFields true others mid after
      → AreFields none (f ∷ others) before after

-- EnumValue: Description? Name (not `true`, `false`, `null`) Deprecated?
pub data IsEnumValue : Name → List Token → List Token → Type 0 where
  enum_value : {p : Place} {k : Keyword} {n : List ℕ} {before mid after : List Token}
      → IsDescription before (at p (token.Name k n) ∷ mid) → IsEnumName k → IsDeprecated mid after
      → IsEnumValue (record { text = n; place = p }) before after

-- EnumValue* `}`; with false, EnumValue+ `}`
pub data AreEnumValues : Bool → List Name → List Token → List Token → Type 0 where
  no_more_values : {p : Place} {after : List Token}
      → AreEnumValues true [] (at p (Punct BraceRight) ∷ after) after
  next_value : {none : Bool} {v : Name} {others : List Name} {before mid after : List Token}
      → IsEnumValue v before mid → AreEnumValues true others mid after
      → AreEnumValues none (v ∷ others) before after

-- `&`?
pub data IsAmpersand : List Token → List Token → Type 0 where
  no_ampersand : {after : List Token} → IsAmpersand after after
  ampersand : {p : Place} {after : List Token} → IsAmpersand (at p (Punct Amp) ∷ after) after

-- (`&` Name)*
pub data AreMoreInterfaces : List Name → List Token → List Token → Type 0 where
  no_more_interfaces : {after : List Token} → AreMoreInterfaces [] after after
  next_interface : {p : Place} {i : Name} {others : List Name} {mid mid' after : List Token}
      → IsTypeName i mid mid' → AreMoreInterfaces others mid' after
      → AreMoreInterfaces (i ∷ others) (at p (Punct Amp) ∷ mid) after

-- (`implements` `&`? Name (`&` Name)*)?
pub data AreInterfaces : List Name → List Token → List Token → Type 0 where
  no_interfaces : {after : List Token} → AreInterfaces [] after after
  interfaces : {p : Place} {k : Keyword} {n : List ℕ} {i : Name} {others : List Name}
      {mid mid' mid'' after : List Token}
      → word_of n ≡ word.Implements → IsAmpersand mid mid'
      → IsTypeName i mid' mid'' → AreMoreInterfaces others mid'' after
      → AreInterfaces (i ∷ others) (at p (token.Name k n) ∷ mid) after

-- `|`?
pub data IsPipe : List Token → List Token → Type 0 where
  no_pipe : {after : List Token} → IsPipe after after
  pipe : {p : Place} {after : List Token} → IsPipe (at p (Punct Pipe) ∷ after) after

-- (`|` Name)*
pub data AreMoreMembers : List Name → List Token → List Token → Type 0 where
  no_more_members : {after : List Token} → AreMoreMembers [] after after
  next_member : {p : Place} {m : Name} {others : List Name} {mid mid' after : List Token}
      → IsTypeName m mid mid' → AreMoreMembers others mid' after
      → AreMoreMembers (m ∷ others) (at p (Punct Pipe) ∷ mid) after

-- says what follows the word that a definition begins with, and the place of that word
pub data IsBody : SchemaWord → Place → Definition → List Token → List Token → Type 0 where
  -- `schema` `{` `query` `:` Name `}`
  schema : {p q r u v : Place} {w : List ℕ} {n : Name} {mid after : List Token}
      → IsTypeName n mid (at v (Punct BraceRight) ∷ after)
      → IsBody word.Schema p (Schema p n)
      (at q (Punct BraceLeft) ∷ at r (token.Name Query w) ∷ at u (Punct Colon) ∷ mid) after
  -- `type` Name (`implements` `&`? Name (`&` Name)*)? `{` FieldDef+ `}`
  object : {p q : Place} {n : Name} {is : List Name} {fs : List Field}
      {before mid mid' after : List Token}
      → IsTypeName n before mid → AreInterfaces is mid (at q (Punct BraceLeft) ∷ mid')
      → AreFields false fs mid' after → IsBody word.Object p (Object n is fs) before after
  -- `interface` Name `{` FieldDef+ `}`
  interface : {p q : Place} {n : Name} {fs : List Field} {before mid after : List Token}
      → IsTypeName n before (at q (Punct BraceLeft) ∷ mid) → AreFields false fs mid after
      → IsBody word.Interface p (Interface n fs) before after
  -- `union` Name `=` `|`? Name (`|` Name)*
  union : {p q : Place} {n m : Name} {others : List Name} {before mid mid' mid'' after : List Token}
      → IsTypeName n before (at q (Punct Equals) ∷ mid) → IsPipe mid mid' → IsTypeName m mid' mid''
      → AreMoreMembers others mid'' after
      → IsBody word.Union p (Union n (m ∷ others)) before after
  -- `enum` Name `{` EnumValue+ `}`
  enum : {p q : Place} {n : Name} {vs : List Name} {before mid after : List Token}
      → IsTypeName n before (at q (Punct BraceLeft) ∷ mid) → AreEnumValues false vs mid after
      → IsBody word.Enum p (Enum n vs) before after

-- Definition: Description?, the word that says what it defines, and its body
pub data IsDefinition : Definition → List Token → List Token → Type 0 where
  definition : {p : Place} {k : Keyword} {n : List ℕ} {d : Definition}
      {before mid after : List Token}
      → IsDescription before (at p (token.Name k n) ∷ mid) → IsBody (word_of n) p d mid after
      → IsDefinition d before after

-- Document: Definition*, and the end
pub data IsDocument : List Definition → List Token → Type 0 where
  no_more_definitions : IsDocument [] []
  next_definition : {d : Definition} {others : List Definition} {before mid : List Token}
      → IsDefinition d before mid → IsDocument others mid → IsDocument (d ∷ others) before
