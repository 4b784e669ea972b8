use Rattle.std.proofs.Common.{◌≡◌, ◌++◌, length, string_bytes, IsUtf8}
use Rattle.gq_lexer.specs.Block.{raw_of}
use Rattle.gq_lexer.proofs.block.raw_of.Given as goal

abbrev pub invariant-loop-raw : goal.invariant-loop-raw
invariant-loop-raw l = record {
  so_far : string_bytes l.raw ++ raw_of l.rest ≡ raw_of l.body;
  utf8 : IsUtf8 l.rest;
}

abbrev pub decreases-loop-raw : goal.decreases-loop-raw
decreases-loop-raw l = length l.rest
