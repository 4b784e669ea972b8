use Rattle.std.proofs.Common.{◌+◌, ◌*◌, length, map}
use Rattle.gq_parser.specs.declared.value.Constness.TheVariants.{Const}
use Rattle.gq_parser.specs.Tree.{values_then, members_then, literal_of, argument_of}
use Rattle.gq_parser.specs.Grammar.{AreValues, AreMembers}
use Rattle.schema_syntax.specs.Machine.{MoreValues, MoreObjectFields, one}
use Rattle.schema_syntax.specs.Parsing.{IsFront}
use Rattle.schema_syntax.proofs.parser.Parser.+value.Given as goal

abbrev pub decreases-value : goal.decreases-value
decreases-value l = l.room * 3

abbrev pub decreases-values : goal.decreases-values
decreases-values l = l.room * 3 + 1

abbrev pub decreases-object_field : goal.decreases-object_field
decreases-object_field l = l.room * 3 + 1

abbrev pub decreases-object_fields : goal.decreases-object_fields
decreases-object_fields l = l.room * 3 + 2

abbrev pub invariant-values-loop-values : goal.invariant-values-loop-values
invariant-values-loop-values l =
    IsFront (AreValues Const) (AreValues Const) (values_then (map literal_of l.values.items)) l.room (one MoreValues) l.room (one MoreValues) l.fn.self l.self

abbrev pub decreases-values-loop-values : goal.decreases-values-loop-values
decreases-values-loop-values l = length l.self

abbrev pub invariant-object_fields-loop-fields : goal.invariant-object_fields-loop-fields
invariant-object_fields-loop-fields l =
    IsFront (AreMembers Const) (AreMembers Const) (members_then (map argument_of l.fields.items)) l.room (one MoreObjectFields) l.room (one MoreObjectFields) l.fn.self l.self

abbrev pub decreases-object_fields-loop-fields : goal.decreases-object_fields-loop-fields
decreases-object_fields-loop-fields l = length l.self
