use Rattle.std.proofs.Common.{refl, ◌-◌, length, arith}
use Rattle.merging_members.specs.Fragments.{place_in}
use Rattle.merging_members.proofs.RankedLaws.{ranked-fixed}
use Rattle.merging_fields.proofs.Acyclic.{free-of, ranks, are-ranked}
use Rattle.merging_fields.proofs.Naming.{unfolded}
use Rattle.merging_fields.proofs.law.all_members_are_entered.Goals as goal

pub returns : goal.returns
returns c = λ defs d none k le name.
    let free = free-of defs d none in
    unfolded d (ranked-fixed (ranks defs d free) (place_in d.fragments) d (λ q. refl) (are-ranked defs d free)) (k - length d.fragments) k (omega (arith, le)) name
