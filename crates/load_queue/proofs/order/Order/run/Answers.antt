use Rattle.std.proofs.Common.{◌≡◌, ◌<◌, ◌∙◌, length, map, sym, refl, subst}
use Rattle.std.proofs.lemmas.List.{length-map}
use Rattle.std.proofs.lemmas.Option.{slice_get_read}
use Rattle.load_memory.specs.Keys.{key_of}
use Rattle.load_memory.specs.Outcomes.{outcome_of}
use Rattle.load_queue.specs.Orders.{IsCutBy, cut_of}
use Rattle.load_queue.proofs.IdentityLaws.{has-loader}
use Rattle.load_queue.proofs.ReplyLaws.{replies}
use Rattle.load_queue.proofs.order.Order.run.Goals as goal

pub returns : goal.returns
returns g c =
    let keys = c.self.inside.keys in
    let loaders = c.args.loaders.now in
    let asked = c.index-loaders-loader.result in
    let lt : c.self.inside.loader < length loaders = has-loader loaders (cut_of c.self.inside.identity c.self.inside.loader (map key_of keys)) (subst (IsCutBy loaders) (sym c.self.view_is) c.requires) in
    let at = slice_get_read loaders (length loaders) c.self.inside.loader asked refl lt c.index-loaders-loader.is in
    let can = rw (c.source.ensures, c.as_slice.ensures) at c.ask-answer.ensures in
    let many : c.len.result ≡ length (map key_of keys) = c.len.ensures ∙ sym (length-map keys key_of) in
    rw (← c.self.view_is) (replies g.S.LocalSource.may_tell loaders c.self.inside.loader (map key_of keys) asked (map outcome_of c.in_ok-outcomes.outcomes.items) at c.ask-answer.result can (rw many at c.in_ok-outcomes.ensures))
