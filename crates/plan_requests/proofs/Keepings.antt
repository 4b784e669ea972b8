-- Lemmas on what is kept, and what one text more changes.
use Rattle.std.proofs.Common.{◌≡◌, ◌∙◌, refl, sym, ap, subst, ℕ, ◌≤◌, List, length, Contains, Option, Some, IfSome, is_some, arith}
use Rattle.gq_parser.specs.Fault.{IsDocumentOf}
use Rattle.gq_parser.specs.Tree.{Document, document_of}
use Rattle.gq_parser.specs.declared.tree.Document as rust-document
use Rattle.schema_syntax.specs.declared.tree.Definition as rust
use Rattle.gq_schema.specs.Types.{tree_of}
use Rattle.gq_check.specs.Plans.{KeptParts, kept_document}
use Rattle.gq_check.specs.Verdict.{IsValid}
use Rattle.plan_requests.specs.DocumentCaches.{document_limits, longest, IsKept, IsKeeping}
use Rattle.text_cache.proofs.Found.{found-text, text-found}
use Rattle.text_cache.specs.TextCaches.{TextCacheOf, find, texts_of, FitsAlone, HasRoom, OthersStay}
use Rattle.text_cache.specs.declared.cache.CacheLimits.{CacheLimits}

-- a document that is found by a query is the query's
pub found-kept : (defs : List rust.Definition) (documents : TextCacheOf KeptParts) (query : List ℕ) (k : KeptParts) → IsKeeping defs documents → find documents query ≡ Some k → IsKept defs query k
found-kept defs documents query k is found = subst (λ (o : Option KeptParts). IfSome o (IsKept defs query)) found (is.each query)

-- the query whose document was added is among the texts, unless it is longer than the longest
pub added-text : (defs : List rust.Definition) (old new : TextCacheOf KeptParts) (query : List ℕ) (k : KeptParts) → IsKeeping defs old → (FitsAlone old.limits query → find new query ≡ Some k) → length query ≤ longest → Contains (texts_of new) query
added-text defs old new query k is added short =
    let alone : FitsAlone document_limits query = record { one = omega arith; bytes = omega (arith, short) } in
    found-text new query (ap is_some (added (subst (λ (l : CacheLimits). FitsAlone l query) (sym is.bounded.same_limits) alone)))

-- while there is room, the others stay, where the query isn't among them
pub texts-stay : (defs : List rust.Definition) (old new : TextCacheOf KeptParts) (query text : List ℕ) → IsKeeping defs old → (Contains (texts_of old) query → ⊥) → (HasRoom old.limits (texts_of old) query → OthersStay old new query)
    → HasRoom document_limits (texts_of old) query → Contains (texts_of old) text → Contains (texts_of new) text
texts-stay defs old new query text is apart stay room h =
    let other : text ≡ query → ⊥ = λ same. apart (subst (λ (t : List ℕ). Contains (texts_of old) t) same h) in
    let fits : HasRoom old.limits (texts_of old) query = subst (λ (l : CacheLimits). HasRoom l (texts_of old) query) (sym is.bounded.same_limits) room in
    found-text new text (ap is_some (stay fits text other) ∙ text-found old text h)

-- a document that was checked, as it is kept
pub new-kept : (defs : List rust.Definition) (query : List ℕ) (d : rust-document.Document) (k : KeptParts) → k.definitions ≡ defs → k.operations ≡ d.operations.items → k.fragments ≡ d.fragments.items → IsDocumentOf query (document_of d)
    → IsValid (tree_of defs) (document_of d) → IsKept defs query k
new-kept defs query d k e os fs says valid =
    let same : kept_document k ≡ document_of d = rw (os, fs) refl in
    record { definitions = e; says = subst (λ (x : Document). IsDocumentOf query x) (sym same) says; valid = subst (λ (x : Document). IsValid (tree_of defs) x) (sym same) valid }
