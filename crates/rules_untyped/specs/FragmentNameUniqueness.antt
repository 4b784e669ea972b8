-- Fragment Name Uniqueness (October 2021, section 5.5.1.1): no two fragments have one name.
use Rattle.std.specs.Prelude.{List, map}
use Rattle.rules_parts.specs.Broken.{BrokenOf}
use Rattle.rules_parts.specs.Parts.{PartsOf}
use Rattle.rules_untyped.specs.Named.{named_fragment}
use Rattle.rules_untyped.specs.Repeated.{repeated}

-- the fragments whose name an earlier one has
abbrev pub fragment_name_uniqueness : PartsOf → List BrokenOf
fragment_name_uniqueness p = repeated (map named_fragment p.document.fragments)
