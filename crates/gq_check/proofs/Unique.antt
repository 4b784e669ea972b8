-- A document has one verdict.
use Rattle.std.proofs.Common.{◌≡◌, ◌∙◌, sym, ap, List, Option, Some, None}
use Rattle.std.specs.Prelude.{option_map}
use Rattle.gq_parser.specs.Tree.{Document}
use Rattle.schema_syntax.specs.Tree.{Definition}
use Rattle.rules_parts.specs.Broken.{BrokenOf}
use Rattle.rules_parts.specs.Listing.{parts_of}
use Rattle.rules_parts.specs.Parts.{PartsOf}
use Rattle.merging_fields.specs.FieldSelectionMerging.{IsMerging}
use Rattle.gq_check.specs.declared.fault.Rule.TheVariants as rule
use Rattle.gq_check.specs.Verdict.{FaultOf, breaks, first_fault, IsVerdictAfter, IsVerdict}

-- of the selection sets of a document one is reported at most
abbrev pub OneSet : Type 0
OneSet = (p : PartsOf) (a b : Option BrokenOf) → IsMerging p a → IsMerging p b → a ≡ b

after-unique : OneSet → (p : PartsOf) (first v w : Option FaultOf) → IsVerdictAfter p first v → IsVerdictAfter p first w → v ≡ w
after-unique one p (Some f) v w h k = h ∙ sym k
after-unique one p None v w h k = h.2 ∙ (ap (option_map (breaks rule.FieldSelectionMerging)) (one p h.0 k.0 h.1 k.1) ∙ sym k.2)

-- a document has at most one verdict
pub verdict-unique : OneSet → (defs : List Definition) (d : Document) (v w : Option FaultOf) → IsVerdict defs d v → IsVerdict defs d w → v ≡ w
verdict-unique one defs d = after-unique one (parts_of defs d) (first_fault (parts_of defs d))
