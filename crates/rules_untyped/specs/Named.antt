-- Parts of a document by their names, each at its place.
use Rattle.std.specs.Prelude.{ℕ, List}
use Rattle.text_place.specs.declared.place.Place.{Place}
use Rattle.gq_parser.specs.Tree.{VariableDefinition, Fragment, Directive, Argument}
use Rattle.rules_parts.specs.Broken.{BrokenOf}

abbrev pub named : List ℕ → Place → BrokenOf
named n p = record { name = n; place = p }

abbrev pub named_variable : VariableDefinition → BrokenOf
named_variable v = named v.name v.place

abbrev pub named_fragment : Fragment → BrokenOf
named_fragment f = named f.name f.place

abbrev pub named_directive : Directive → BrokenOf
named_directive d = named d.name d.place

abbrev pub named_argument : Argument → BrokenOf
named_argument a = named a.name a.place
