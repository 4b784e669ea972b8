use Rattle.std.proofs.Common.{◌+◌, ◌*◌}
use Rattle.gq_parser.proofs.cursor.Parser.+type_ref.Given as goal

abbrev pub decreases-type_ref : goal.decreases-type_ref
decreases-type_ref l = l.room * 2

abbrev pub decreases-list_type : goal.decreases-list_type
decreases-list_type l = l.room * 2 + 1
