-- The words of the grammar of schema texts. Words and tokens are those of documents: this adds what a name is here.
use Rattle.std.specs.Prelude.{◌≢◌, ℕ, List, codes, if◌then◌else◌}
use Rattle.std.specs.Str.{bytes_eq}
use Rattle.schema_syntax.specs.declared.word.SchemaWord.{SchemaWord}
use Rattle.schema_syntax.specs.declared.word.SchemaWord.TheVariants as word

-- gives what a name is where a word is wanted
abbrev pub word_of : List ℕ → SchemaWord
word_of name =
    if bytes_eq name (codes "schema") then word.Schema
    else if bytes_eq name (codes "type") then word.Object
    else if bytes_eq name (codes "interface") then word.Interface
    else if bytes_eq name (codes "union") then word.Union
    else if bytes_eq name (codes "enum") then word.Enum
    else if bytes_eq name (codes "implements") then word.Implements
    else if bytes_eq name (codes "deprecated") then word.Deprecated
    else if bytes_eq name (codes "reason") then word.Reason
    else if bytes_eq name (codes "scalar") then word.Unserved
    else if bytes_eq name (codes "input") then word.Unserved
    else if bytes_eq name (codes "directive") then word.Unserved
    else if bytes_eq name (codes "extend") then word.Unserved
    else if bytes_eq name (codes "Float") then word.Float
    else word.Other

-- a type name that is served: any but `Float`
abbrev pub IsServedName : List ℕ → Type 0
IsServedName name = word_of name ≢ word.Float
