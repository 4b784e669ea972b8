use Rattle.std.proofs.Common.{◌∷◌, ◌∙◌, [], map, ap, subst, sym}
use Rattle.std.proofs.lemmas.List.{map-append}
use Rattle.load_memory.specs.Keys.{key_of}
use Rattle.load_queue.specs.Wanted.{HaveSeen}
use Rattle.load_queue.proofs.SeenLaws.{seen-before}
use Rattle.load_queue.proofs.wants.WantedKeys.add_new.Goals as goal

pub invariant_of-self-2 : goal.invariant_of-self-2
invariant_of-self-2 c =
    let ks = c.self.inside.keys.items in
    subst (HaveSeen c.self.inside.mode c.self.inside.seen) (sym (ap (map key_of) c.in_ok-push.ensures.items ∙ map-append key_of ks (c.args.key ∷ [])))
    (seen-before c.self.inside.mode c.self.inside.seen (map key_of ks) (key_of c.args.key ∷ []) c.self.invariant)
