use Rattle.std.proofs.Common.{◌+◌, ◌*◌, ◌∷◌, length, map}
use Rattle.gq_lexer.specs.declared.token.Punct.TheVariants.{BraceLeft}
use Rattle.gq_parser.specs.Word.{Punct, at}
use Rattle.gq_parser.specs.Tree.{selections_then, selection_of, set_at}
use Rattle.gq_parser.specs.Machine.{FirstSelection, MoreSelections, one}
use Rattle.gq_parser.specs.Grammar.{AreSelections, IsSelectionSet}
use Rattle.gq_parser.specs.Parsing.{IsFront}
use Rattle.gq_parser.proofs.cursor.Parser.+selection.Given as goal

abbrev pub decreases-selections : goal.decreases-selections
decreases-selections l = l.room * 6 + 5

abbrev pub decreases-selection : goal.decreases-selection
decreases-selection l = l.room * 6 + 4

abbrev pub decreases-field : goal.decreases-field
decreases-field l = l.room * 6 + 3

abbrev pub decreases-dots : goal.decreases-dots
decreases-dots l = l.room * 6 + 3

abbrev pub decreases-inline : goal.decreases-inline
decreases-inline l = l.room * 6 + 2

abbrev pub decreases-maybe_set : goal.decreases-maybe_set
decreases-maybe_set l = l.room * 6

abbrev pub decreases-set : goal.decreases-set
decreases-set l = l.room * 6

abbrev pub invariant-selections-loop-selections : goal.invariant-selections-loop-selections
invariant-selections-loop-selections l =
    IsFront AreSelections (λ ss before. IsSelectionSet (set_at l.place ss) (at l.place (Punct BraceLeft) ∷ before)) (selections_then (map selection_of l.selections.items)) l.room (one FirstSelection) l.room (one MoreSelections) l.fn.self l.self

abbrev pub decreases-selections-loop-selections : goal.decreases-selections-loop-selections
decreases-selections-loop-selections l = length l.self
