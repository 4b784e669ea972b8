use Rattle.std.proofs.Common.{◌≡◌, ◌<◌, ◌∙◌, ap, sym, length, arith}
use Rattle.std.specs.Prelude.{slice_set}
use Rattle.std.proofs.lemmas.Result.{on_ok_weaker}
use Rattle.load_memory.specs.Keys.{key_of}
use Rattle.load_queue.specs.Wanted.{WantedOf, wanted_in}
use Rattle.load_queue.proofs.WantLaws.{wanted-at, with-at, is-in, with-in, length-in}
use Rattle.load_queue.proofs.wants.Wants.add_new.Goals as goal

pub reach-requires : goal.reach-requires
reach-requires c =
    let ws = c.self.inside.lists.items in
    let ms = c.self.inside.modes.items in
    let asked : c.args.loader < length (wanted_in ws ms) = rw (← c.self.view_is) at c.requires.inside in
    rw c.deref.ensures.value (omega (arith, asked, length-in ws ms))

pub add_new-requires : goal.add_new-requires
add_new-requires c =
    let ms = c.self.inside.modes.items in
    let ws = c.reach.new.lists.items in
    let i = c.args.loader in
    let asked : i < length (wanted_in c.self.inside.lists.items ms) = rw (← c.self.view_is) at c.requires.inside in
    let inside : i < length ms = omega (arith, asked, length-in c.self.inside.lists.items ms) in
    let lt : i < length ws = c.in_ok-reach.ensures.there in
    let same : wanted_in ws ms ≡ wanted_in c.self.inside.lists.items ms = rw c.deref.ensures.value at c.reach.ensures.same in
    sym (wanted-at ws i c.index_mut.result.now (key_of c.args.key) lt c.index_mut.ensures.value) ∙ sym (is-in ws ms i (key_of c.args.key) lt inside) ∙ rw same (rw (← c.self.view_is) at c.requires.new)

pub returns-clause-after : goal.returns-clause-after
returns-clause-after c =
    let ms = c.self.inside.modes.items in
    let ws = c.reach.new.lists.items in
    let i = c.args.loader in
    let asked : i < length (wanted_in c.self.inside.lists.items ms) = rw (← c.self.view_is) at c.requires.inside in
    let inside : i < length ms = omega (arith, asked, length-in c.self.inside.lists.items ms) in
    let lt : i < length ws = c.in_ok-reach.ensures.there in
    let same : wanted_in ws ms ≡ wanted_in c.self.inside.lists.items ms = rw c.deref.ensures.value at c.reach.ensures.same in
    rw (← c.self.view_is, ← same, with-in ws ms i (key_of c.args.key) lt inside, with-at ws i c.index_mut.result.now (key_of c.args.key) lt c.index_mut.ensures.value)
    (on_ok_weaker c.add_new.result (λ e. ap (λ (w : WantedOf). wanted_in (slice_set ws i w) ms) e) c.add_new.ensures.after)

pub returns-clause-loaders : goal.returns-clause-loaders
returns-clause-loaders c =
    let ms = c.self.inside.modes.items in
    rw (← c.self.view_is) (length-in _ ms ∙ sym (length-in c.self.inside.lists.items ms))
