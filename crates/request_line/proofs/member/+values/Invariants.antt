use Rattle.std.proofs.Common.{◌≡◌, ℕ, ◌+◌, ◌*◌, ◌≤◌, length}
use Rattle.json.specs.Json.{items, members, value, parse_map}
use Rattle.serde_json.specs.Read.{of_items, of_members, converted}
use Rattle.serde_json.specs.View.{members_view}
use Rattle.request_line.proofs.Loops.{items_before}
use Rattle.request_line.specs.Plain.{array_items, object_members}
use Rattle.request_line.proofs.member.+values.Given as goal

abbrev pub decreases-next_value : goal.decreases-next_value
decreases-next_value l = 2 * l.depth

abbrev pub decreases-read_array : goal.decreases-read_array
decreases-read_array l = 2 * l.depth + 1

abbrev pub decreases-read_object : goal.decreases-read_object
decreases-read_object l = 2 * l.depth + 1

abbrev pub invariant-read_array-loop-alloc : goal.invariant-read_array-loop-alloc
invariant-read_array-loop-alloc l =
    (n : ℕ) × (length l.reader ≤ n) × (length l.reader ≤ length l.initial.reader)
    × (array_items l.depth l.initial.reader ≡ parse_map (items_before l.found.items) (converted of_items (items (value l.depth) n l.reader)))

abbrev pub decreases-read_array-loop-alloc : goal.decreases-read_array-loop-alloc
decreases-read_array-loop-alloc l = length l.reader

abbrev pub invariant-read_object-loop-name : goal.invariant-read_object-loop-name
invariant-read_object-loop-name l =
    (n : ℕ) × (length l.reader ≤ n) × (length l.reader ≤ length l.initial.reader)
    × (object_members l.depth l.initial.reader ≡ converted (λ ms. of_members ms (members_view l.found.entries)) (members (value l.depth) n l.reader))

abbrev pub decreases-read_object-loop-name : goal.decreases-read_object-loop-name
decreases-read_object-loop-name l = length l.reader
