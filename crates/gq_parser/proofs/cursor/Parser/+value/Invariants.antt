use Rattle.std.proofs.Common.{◌+◌, ◌*◌, length, map}
use Rattle.gq_parser.specs.Tree.{values_then, members_then, literal_of, argument_of}
use Rattle.gq_parser.specs.Machine.{MoreValues, MoreMembers, one}
use Rattle.gq_parser.specs.Grammar.{AreValues, AreMembers}
use Rattle.gq_parser.specs.Parsing.{IsFront}
use Rattle.gq_parser.proofs.cursor.Parser.+value.Given as goal

abbrev pub decreases-value : goal.decreases-value
decreases-value l = l.room * 3

abbrev pub decreases-argument : goal.decreases-argument
decreases-argument l = l.room * 3 + 1

abbrev pub decreases-values : goal.decreases-values
decreases-values l = l.room * 3 + 2

abbrev pub decreases-members : goal.decreases-members
decreases-members l = l.room * 3 + 2

abbrev pub invariant-values-loop-constness : goal.invariant-values-loop-constness
invariant-values-loop-constness l =
    IsFront (AreValues l.constness) (AreValues l.constness) (values_then (map literal_of l.values.items)) l.room (one (MoreValues l.constness)) l.room (one (MoreValues l.constness)) l.fn.self l.self

abbrev pub decreases-values-loop-constness : goal.decreases-values-loop-constness
decreases-values-loop-constness l = length l.self

abbrev pub invariant-members-loop-constness : goal.invariant-members-loop-constness
invariant-members-loop-constness l =
    IsFront (AreMembers l.constness) (AreMembers l.constness) (members_then (map argument_of l.members.items)) l.room (one (MoreMembers l.constness)) l.room (one (MoreMembers l.constness)) l.fn.self l.self

abbrev pub decreases-members-loop-constness : goal.decreases-members-loop-constness
decreases-members-loop-constness l = length l.self
