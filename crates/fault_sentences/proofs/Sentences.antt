-- What the sentence of a complaint says.
use Rattle.std.proofs.Common.{◌≡◌, ℕ, ◌<◌, Bool, true, List, length, refl, sym, subst, inl, inr}
use Rattle.std.specs.Prelude.{Result, Ok, Err, IfOk}
use Rattle.std.specs.List.{concat}
use Rattle.bindings_syntax.specs.Reading.{BindingsTextOf, bindings_text}
use Rattle.schema_syntax.specs.Tree.{Definition}
use Rattle.gq_lexer.specs.declared.lexer.TheConstants.{MAX_BYTES}
use Rattle.gq_schema.specs.Reading.{IsSchema}
use Rattle.fault_sentences.specs.declared.bindings.BindingsComplaint.{BindingsComplaint}
use Rattle.fault_sentences.specs.declared.schema.SchemaComplaint.TheVariants as complaint
use Rattle.fault_sentences.specs.declared.told.FaultAt.{FaultAt}
use Rattle.fault_sentences.specs.Bindings.{bindings_words}
use Rattle.fault_sentences.specs.Complaints.{IsTrueOfNoLine}
use Rattle.fault_sentences.specs.Schemas.{schema_words}
use Rattle.fault_sentences.specs.Told.{Says, SaysIn, SaysOfBindings, SaysOfSchema}

-- of a text that is too long, that it is refused
pub refused_says : {A E : Type 0} (bytes : A → List ℕ) (fault : FaultAt) (schema : List ℕ) (r : Result A E) → MAX_BYTES < length schema
    → IfOk r (λ text. bytes text ≡ concat (schema_words complaint.Refused)) → IfOk r (λ text. SaysOfSchema fault schema (bytes text))
refused_says bytes fault schema (Ok text) long h = (complaint.Refused, inr (inr (record { long = long; refused = refl })), h)
refused_says bytes fault schema (Err e) long h = tt

-- of bindings in which no line is bad, what they lack
pub missing_says : {A E : Type 0} (bytes : A → List ℕ) (defs : List Definition) (read : BindingsTextOf) (bindings : List ℕ) (line : ℕ) (c : BindingsComplaint) (r : Result A E)
    → read ≡ bindings_text bindings → line ≡ 0 → IsTrueOfNoLine defs read c
    → IfOk r (λ text. bytes text ≡ concat (bindings_words c)) → IfOk r (λ text. SaysOfBindings defs bindings line (bytes text))
missing_says bytes defs read bindings line c (Ok text) same none is h =
    let P : BindingsTextOf → Type 0 = λ it. IsTrueOfNoLine defs it c in
    (c, inl (none, subst P same is), h)
missing_says bytes defs read bindings line c (Err e) same none is h = tt

-- of bindings over the only schema that the text is
pub bindings_says : {A E : Type 0} (bytes : A → List ℕ) (fault : FaultAt) (schema bindings : List ℕ) (tree : List Definition) (r : Result A E)
    → fault.in_bindings ≡ true → IsSchema schema tree → ((defs : List Definition) → IsSchema schema defs → tree ≡ defs)
    → IfOk r (λ text. SaysOfBindings tree bindings fault.line (bytes text)) → IfOk r (λ text. Says fault schema bindings (bytes text))
bindings_says bytes fault schema bindings tree (Ok text) inside found only h =
    let P : Bool → Type 0 = λ b. SaysIn b fault schema bindings (bytes text) in
    let Q : List Definition → Type 0 = λ defs. SaysOfBindings defs bindings fault.line (bytes text) in
    let said : SaysIn true fault schema bindings (bytes text) =
    record { over = λ defs is. subst Q (only defs is) h; over_none = λ none. absurd (none tree found) } in
    subst P (sym inside) said
bindings_says bytes fault schema bindings tree (Err e) inside found only h = tt
