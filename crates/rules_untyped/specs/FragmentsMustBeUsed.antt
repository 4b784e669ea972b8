-- Fragments Must Be Used (October 2021, section 5.5.1.4): some spread of the document names each fragment, be it one in a fragment
-- that is itself unused.
use Rattle.std.specs.Prelude.{ℕ, Bool, List, map, filter, not, bytes_eq}
use Rattle.std.specs.List.{list_any}
use Rattle.gq_parser.specs.Tree.{Fragment}
use Rattle.rules_parts.specs.Broken.{BrokenOf}
use Rattle.rules_parts.specs.Parts.{PartsOf, SpreadPart}
use Rattle.rules_untyped.specs.Named.{named_fragment}

-- tells whether a spread names it
abbrev pub spreads : List ℕ → SpreadPart → Bool
spreads name s = bytes_eq name s.name

abbrev pub is_unused : List SpreadPart → Fragment → Bool
is_unused all f = not (list_any (spreads f.name) all)

-- the fragments that no spread names
abbrev pub fragments_must_be_used : PartsOf → List BrokenOf
fragments_must_be_used p = map named_fragment (filter (is_unused p.spreads) p.document.fragments)
