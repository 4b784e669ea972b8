use Rattle.std.proofs.Common.{◌≡◌, rules}
use Rattle.std.specs.Prelude.{filter, not}
use Rattle.load_memory.specs.Outcomes.{is_failed}
use Rattle.std.proofs.lemmas.Map.Made.{filter_same_pairs}
use Rattle.load_memory.proofs.ChangeLaws.{look_in-items}
use Rattle.load_memory.proofs.loader_memory.drop_failed_of.Goals as goal

pub returns-clause-pairs : goal.returns-clause-pairs
returns-clause-pairs c = λ q.
    let kept : c.retain.new.self.entries ≡ filter (λ e. not (is_failed e.1)) c.args.part.now.entries =
    filter_same_pairs _ (λ e. not (is_failed e.1)) _ (λ k v b w f' t. search rules) c.args.part.now.entries c.retain.new.self.entries c.retain.ensures.filtered in
    rw kept (look_in-items c.args.part.now.entries c.len-before.ensures.unique q)
