-- Fragment Spread Target Defined (October 2021, section 5.5.2.1): each spread names a fragment of the document.
use Rattle.std.specs.Prelude.{Bool, List, map, filter, is_none}
use Rattle.rules_parts.specs.Broken.{BrokenOf}
use Rattle.rules_parts.specs.Parts.{PartsOf, SpreadPart}
use Rattle.rules_untyped.specs.Named.{named}

abbrev pub is_undefined : SpreadPart → Bool
is_undefined s = is_none s.target

abbrev pub named_spread : SpreadPart → BrokenOf
named_spread s = named s.name s.place

-- the spreads that name no fragment
abbrev pub fragment_spread_target_defined : PartsOf → List BrokenOf
fragment_spread_target_defined p = map named_spread (filter is_undefined p.spreads)
