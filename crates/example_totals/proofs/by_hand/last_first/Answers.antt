use Rattle.std.proofs.Common.{map}
use Rattle.std.proofs.lemmas.List.Sorted.{IsPermutation-map}
use Rattle.load_memory.specs.Replies.{reply_of}
use Rattle.example_totals.proofs.by_hand.last_first.Goals as goal

pub returns : goal.returns
returns c = record {
  replies = map reply_of c.in_ok-replies.replies.items;
  fit = c.in_ok-replies.ensures;
  moved = IsPermutation-map reply_of c.in_ok-replies.replies.items c.reverse.new.self.items c.reverse.ensures.permutation;
}
