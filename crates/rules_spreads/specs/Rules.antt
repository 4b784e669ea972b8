-- Definitions of what breaks the rules on reach.
use Rattle.std.specs.Prelude.{ℕ, ◌+◌, Bool, true, nat_lt, List, [], ◌∷◌, if◌then◌else◌, filter_map, Option, Some, None}
use Rattle.text_place.specs.declared.place.Place.{Place}
use Rattle.text_place.specs.Order.{is_before}
use Rattle.gq_parser.specs.Tree.{Operation, Fragment}
use Rattle.rules_parts.specs.Broken.{BrokenOf}
use Rattle.rules_parts.specs.Parts.{PartsOf}
use Rattle.rules_spreads.specs.Graphs.{GraphOf, graph_of}
use Rattle.rules_spreads.specs.Reach.{is_cyclic}
use Rattle.rules_spreads.specs.Levels.{levels_of}

-- those of these fragments that reach themselves, where the first has the number j
abbrev pub cycles_among : GraphOf → ℕ → List Fragment → List BrokenOf
cycles_among g j [] = []
cycles_among g j (f ∷ fs) =
    let others = cycles_among g (j + 1) fs in
    if is_cyclic g j then record { name = f.name; place = f.place } ∷ others else others

-- Fragment Spreads Must Not Form Cycles (section 5.5.2.2)
abbrev pub fragment_spreads_must_not_form_cycles : PartsOf → List BrokenOf
fragment_spreads_must_not_form_cycles p = cycles_among (graph_of p) 0 p.document.fragments

-- gives how many fields may stand on a path
abbrev pub most_levels : ℕ
most_levels = 128

-- an operation with too many levels; no name is reported
abbrev pub deep_operation : List Fragment → Operation → Option BrokenOf
deep_operation fragments o = if nat_lt most_levels (levels_of fragments o)
    then Some (record { name = []; place = o.place }) else None

-- the operations with more than 128 fields on a path
abbrev pub too_deep : PartsOf → List BrokenOf
too_deep p = filter_map (deep_operation p.document.fragments) p.document.operations

-- tells whether a violation at this place would stand before what was kept
abbrev pub stands_first : Option BrokenOf → Place → Bool
stands_first None p = true
stands_first (Some b) p = is_before p b.place
