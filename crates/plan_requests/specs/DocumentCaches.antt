-- Definitions of what is kept of the documents of requests.
use Rattle.std.specs.Prelude.{◌≡◌, ℕ, List, IfSome}
use Rattle.gq_parser.specs.Fault.{IsDocumentOf}
use Rattle.schema_syntax.specs.declared.tree.Definition as rust
use Rattle.gq_schema.specs.Types.{tree_of}
use Rattle.gq_check.specs.Plans.{KeptParts, kept_document}
use Rattle.gq_check.specs.Verdict.{IsValid}
use Rattle.plan_requests.specs.Servers.{ServerOf}
use Rattle.text_cache.specs.TextCaches as cache
use Rattle.text_cache.specs.declared.cache.CacheLimits.{CacheLimits}

-- a server, and the texts whose documents over it are kept
pub record KeepingOf : Type 0 where
  pub server : ServerOf
  pub texts : List (List ℕ)

-- gives how many bytes the longest text has that is kept
abbrev pub longest : ℕ
longest = 32768

-- at most how many texts are kept, and how many bytes they have together
abbrev pub document_limits : CacheLimits
document_limits = record { texts = 1024; bytes = 262144 }

-- texts are within the limits
abbrev pub AreBounded : List (List ℕ) → Type 0
AreBounded texts = cache.AreBounded document_limits texts

-- one text more fits
abbrev pub HasRoom : List (List ℕ) → List ℕ → Type 0
HasRoom texts text = cache.HasRoom document_limits texts text

-- this is the document that the text says, and it is valid over these definitions
pub record IsKept (defs : List rust.Definition) (text : List ℕ) (kept : KeptParts) : Type 0 where
  pub definitions : kept.definitions ≡ defs
  pub says : IsDocumentOf text (kept_document kept)
  pub valid : IsValid (tree_of defs) (kept_document kept)

-- Each text is kept with its document. The texts are within the limits.
pub record IsKeeping (defs : List rust.Definition) (documents : cache.TextCacheOf KeptParts)
    : Type 0 where
  pub each : (text : List ℕ) → IfSome (cache.find documents text) (IsKept defs text)
  pub bounded : cache.IsBounded document_limits documents
