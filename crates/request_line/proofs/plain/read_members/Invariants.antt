use Rattle.std.proofs.Common.{◌≡◌, ℕ, ◌≤◌, length}
use Rattle.json.specs.Json.{members, value}
use Rattle.serde_json.specs.Data.{Members}
use Rattle.serde_json.specs.Read.{of_members, converted}
use Rattle.request_line.specs.Plain.{object_members, Says}
use Rattle.request_line.proofs.plain.read_members.Given as goal

abbrev pub invariant-loop-name : goal.invariant-loop-name
invariant-loop-name l =
    (n : ℕ) × (length l.reader ≤ n) × (found : Members) × Says found l.parts × (object_members 126 l.initial.reader ≡ converted (λ ms. of_members ms found) (members (value 126) n l.reader))

abbrev pub decreases-loop-name : goal.decreases-loop-name
decreases-loop-name l = length l.reader
