-- Lemmas on what was read of a text, once its definitions are checked.
use Rattle.std.proofs.Common.{◌≡◌, ◌≢◌, ◌∙◌, sym, ap, subst, ℕ, List, Option, Some, None, Result, Ok, Err, refl}
use Rattle.std.specs.Prelude.{IfOk, IfErr, IsErrAnd}
use Rattle.schema_syntax.specs.declared.tree.Definition as rust
use Rattle.schema_syntax.specs.Tree.{Definition}
use Rattle.schema_syntax.specs.Text.{IsSchemaOf}
use Rattle.gq_schema.specs.declared.fault.SchemaFault.{SchemaFault}
use Rattle.gq_schema.specs.declared.fault.SchemaFault.TheVariants.{NoMemory}
use Rattle.schema_syntax.specs.declared.fault.SyntaxFault.{SyntaxFault}
use Rattle.schema_syntax.specs.declared.fault.SyntaxFault.TheVariants as syntax
use Rattle.gq_schema.specs.SyntaxFaults.{schema_fault_of}
use Rattle.gq_schema.specs.Types.{tree_of}
use Rattle.gq_schema.specs.Fault.{fault_of}
use Rattle.gq_schema.specs.Reading.{IsSchema, Reads}

pub found : (text : List ℕ) (ds : List rust.Definition) (r : Result (List rust.Definition) SchemaFault) → IsSchemaOf text (tree_of ds) → IfOk r (λ s. s ≡ ds) → IfOk r (λ _. fault_of (tree_of ds) ≡ None) → IfOk r (λ s. IsSchema text (tree_of s))
found text ds (Ok s) says same keeps = record {
  says = let P : List rust.Definition → Type 0 = λ x. IsSchemaOf text (tree_of x) in subst P (sym same) says;
  keeps = ap (λ (x : List rust.Definition). fault_of (tree_of x)) same ∙ keeps;
}
found text ds (Err e) says same keeps = tt

-- a fault that is reported of definitions without one is want of memory
out_of_memory : (e : SchemaFault) (fault : Option SchemaFault) → (e ≢ NoMemory → fault ≡ Some e) → fault ≡ None → e ≡ NoMemory
out_of_memory NoMemory fault h none = refl
out_of_memory e fault h none = let is : fault ≡ Some e = h (λ same. cc) in cc

pub only : (text : List ℕ) (ds : List rust.Definition) (r : Result (List rust.Definition) SchemaFault) (defs : List Definition) → tree_of ds ≡ defs → fault_of defs ≡ None
    → IfOk r (λ s. s ≡ ds) → IfErr r (λ e. e ≢ NoMemory → fault_of (tree_of ds) ≡ Some e) → Reads defs r
only text ds (Ok s) defs is keeps same fault = ap tree_of same ∙ is
only text ds (Err e) defs is keeps same fault = out_of_memory e (fault_of (tree_of ds)) fault (ap fault_of is ∙ keeps)

-- Memory that ran out over the syntax is the fault of the whole.
pub unread : (defs : List Definition) (r : Result (List rust.Definition) SchemaFault) (s : SyntaxFault) → IsErrAnd r (λ e. e ≡ schema_fault_of s) → s ≡ syntax.NoMemory → Reads defs r
unread defs (Ok x) s is memory = absurd is
unread defs (Err e) s is memory = is ∙ ap schema_fault_of memory
