-- Lone Anonymous Operation (October 2021, section 5.2.2.1): an operation without a name is the only one.
use Rattle.std.specs.Prelude.{Bool, List, [], length, codes, filter, map, nat_lt, is_none, if◌then◌else◌}
use Rattle.gq_parser.specs.Tree.{Operation}
use Rattle.rules_parts.specs.Broken.{BrokenOf}
use Rattle.rules_parts.specs.Parts.{PartsOf}
use Rattle.rules_untyped.specs.Named.{named}

abbrev pub is_anonymous : Operation → Bool
is_anonymous o = is_none o.name

-- an operation without a name is called by the word `query`
abbrev pub anonymous : Operation → BrokenOf
anonymous o = named (codes "query") o.place

-- the operations without a name, where there is more than one operation
abbrev pub lone_anonymous_operation : PartsOf → List BrokenOf
lone_anonymous_operation p =
    let operations = p.document.operations in
    if nat_lt 1 (length operations) then map anonymous (filter is_anonymous operations) else []
