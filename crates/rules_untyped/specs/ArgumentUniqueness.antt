-- Argument Uniqueness (October 2021, section 5.4.2): a field or a directive is given no two arguments of one name.
use Rattle.std.specs.Prelude.{List, map, flat_map}
use Rattle.rules_parts.specs.Broken.{BrokenOf}
use Rattle.rules_parts.specs.Parts.{PartsOf, ArgumentList}
use Rattle.rules_untyped.specs.Named.{named_argument}
use Rattle.rules_untyped.specs.Repeated.{repeated}

-- the arguments whose name was given before
abbrev pub repeated_arguments : ArgumentList → List BrokenOf
repeated_arguments l = repeated (map named_argument l.arguments)

abbrev pub argument_uniqueness : PartsOf → List BrokenOf
argument_uniqueness p = flat_map repeated_arguments p.argument_lists
