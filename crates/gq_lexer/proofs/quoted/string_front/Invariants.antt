use Rattle.std.proofs.Common.{◌≡◌, ◌≤◌, ◌-◌, length, drop}
use Rattle.gq_lexer.specs.Scan.{scan_pieces, scan_quoted}
use Rattle.gq_lexer.proofs.quoted.string_front.Given as goal

abbrev pub invariant-loop-len : goal.invariant-loop-len
invariant-loop-len l = record {
  within : l.at ≤ length l.bytes;
  goes_on : scan_pieces l.quotes 0 l.at (drop l.at l.bytes) ≡ scan_quoted l.quotes l.bytes;
}

abbrev pub decreases-loop-len : goal.decreases-loop-len
decreases-loop-len l = length l.bytes - l.at
