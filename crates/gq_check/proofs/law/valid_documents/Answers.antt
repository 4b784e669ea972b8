use Rattle.rules_parts.specs.Listing.{parts_of}
use Rattle.gq_check.proofs.Validity.{valid-keeps, keeps-valid}
use Rattle.gq_check.proofs.law.valid_documents.Goals as goal

pub returns : goal.returns
returns c = λ defs d. (valid-keeps (parts_of defs d), keeps-valid (parts_of defs d))
