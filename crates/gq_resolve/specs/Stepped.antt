-- Definitions of what an output in steps holds after some puts. Two are proofs, which the laws of its sink need here.
use Rattle.std.proofs.Common.{◌≡◌, ℕ, List, [], ◌++◌, refl, ap, arith}
use Rattle.std.specs.List.{sum_by}
use Rattle.execution.specs.Reads.{counted}
use Rattle.plan_walk.specs.Puts.{Put}
use Rattle.gq_resolve.specs.Composing.{reads-more}
use Rattle.gq_resolve.specs.Texted.{WrittenOf, put_all, put_all-more, nothing_written, written_of}
use Rattle.gq_resolve.specs.Written.{put_reads, IsCounted}
use Rattle.gq_resolve.specs.declared.stepped_output.SteppedOutput.{SteppedOutput}

-- what is written so far, and how many loads were read
pub record OutputOf : Type 0 where
  pub text : WrittenOf
  pub loads : ℕ

abbrev pub output_of : SteppedOutput → OutputOf
output_of out = record { text = written_of out.text; loads = out.loads }

-- nothing, of an answer that may have `most` bytes
abbrev pub nothing_put : ℕ → OutputOf
nothing_put most = record { text = nothing_written most; loads = 0 }

-- all of these were written, and the loads among them counted
pub record Writes (ps : List Put) (old new : OutputOf) : Type 0 where
  pub text : new.text ≡ put_all ps old.text
  pub loads : IsCounted (sum_by put_reads ps) old.loads new.loads

pub writes-none : (a : OutputOf) → Writes [] a a
writes-none a = record { text = refl; loads = ap counted (omega arith) }

pub writes-more : (ps qs : List Put) (a b c : OutputOf)
    → Writes ps a b → Writes qs b c → Writes (ps ++ qs) a c
writes-more ps qs a b c p q = record {
  text = put_all-more ps qs a.text b.text c.text p.text q.text;
  loads = reads-more ps qs a.loads b.loads c.loads p.loads q.loads;
}
