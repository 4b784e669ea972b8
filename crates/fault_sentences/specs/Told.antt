-- What a sentence says of a schema or of bindings.
use Rattle.std.specs.Prelude.{◌≡◌, ℕ, ◌^◌, ◌-◌, ◌⊎◌, nat_lt, Bool, true, false, List, length, take, if◌then◌else◌}
use Rattle.std.specs.List.{concat}
use Rattle.text_place.specs.declared.place.Place.{Place}
use Rattle.schema_syntax.specs.Tree.{Definition}
use Rattle.gq_schema.specs.Reading.{IsSchema}
use Rattle.fault_sentences.specs.declared.schema.SchemaComplaint.{SchemaComplaint}
use Rattle.fault_sentences.specs.declared.schema.SchemaComplaint.TheVariants as complaint
use Rattle.fault_sentences.specs.declared.bindings.BindingsComplaint.{BindingsComplaint}
use Rattle.fault_sentences.specs.declared.told.FaultAt.{FaultAt}
use Rattle.fault_sentences.specs.Schemas.{IsTrueOfSchema, schema_words}
use Rattle.fault_sentences.specs.Bindings.{bindings_words}
use Rattle.fault_sentences.specs.Complaints.{IsTrueOfBindings}

-- the sentence is that of a complaint which is true of the bindings over a schema
abbrev pub SaysOfBindings : List Definition → List ℕ → ℕ → List ℕ → Type 0
SaysOfBindings defs bindings line sentence = (c : BindingsComplaint)
    × IsTrueOfBindings defs bindings line c × (sentence ≡ concat (bindings_words c))

-- a number of 32 bits, or the greatest
abbrev pub small : ℕ → ℕ
small n = if nat_lt n (2 ^ 32) then n else 2 ^ 32 - 1

abbrev pub place_in : FaultAt → Place
place_in fault = record { line = small fault.line; column = small fault.column }

-- the sentence is that of a complaint which is true of the schema
abbrev pub SaysOfSchema : FaultAt → List ℕ → List ℕ → Type 0
SaysOfSchema fault text sentence = (c : SchemaComplaint)
    × IsTrueOfSchema fault.number (place_in fault) text c × (sentence ≡ concat (schema_words c))

-- The sentence is of bindings over the schema that a text is, or says that the text is none.
pub record SaysOver (schema bindings : List ℕ) (line : ℕ) (sentence : List ℕ) : Type 0 where
  pub over : (defs : List Definition) → IsSchema schema defs
      → SaysOfBindings defs bindings line sentence
  pub over_none : ((defs : List Definition) → IsSchema schema defs → ⊥)
      → sentence ≡ concat (schema_words complaint.Refused)

-- The sentence says what is wrong with the schema, or with the bindings over the schema that it is.
abbrev pub SaysIn : Bool → FaultAt → List ℕ → List ℕ → List ℕ → Type 0
SaysIn false fault schema bindings sentence = SaysOfSchema fault schema sentence
SaysIn true fault schema bindings sentence = SaysOver schema bindings fault.line sentence

abbrev pub Says : FaultAt → List ℕ → List ℕ → List ℕ → Type 0
Says fault schema bindings sentence = SaysIn fault.in_bindings fault schema bindings sentence

-- The buffer begins with as much of the text as there is room for, and this is the whole length.
abbrev pub IsCopied : List ℕ → List ℕ → List ℕ → ℕ → Type 0
IsCopied text old new len = (len ≡ length text) × (length new ≡ length old)
    × (take (length text) new ≡ take (length old) text)

-- The buffer begins with the sentence, or nothing is told.
abbrev pub Tells : FaultAt → List ℕ → List ℕ → List ℕ → List ℕ → ℕ → Type 0
Tells fault schema bindings old new len = (len ≡ 0) ⊎ ((sentence : List ℕ)
    × Says fault schema bindings sentence × IsCopied sentence old new len)
