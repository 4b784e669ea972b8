use Rattle.std.proofs.Common.{◌≡◌, ◌∙◌, ap, List, String, Global, bytes_eq}
use Rattle.std.specs.Map.{lookup}
use Rattle.text_cache.specs.Keeping.{entries_of}
use Rattle.text_cache.proofs.Keepings.{room-stays, others-stay}
use Rattle.text_cache.proofs.cache.TextCache.insert.Goals as goal

pub returns-clause-stay : goal.returns-clause-stay
returns-clause-stay g c = λ room other apart.
    let fits = rw (← c.self.view_is) at room in
    let all : c.make_room.new.values.entries ≡ c.self.inside.values.entries = room-stays c.self.inside.limits c.self.inside.values.entries c.make_room.new.values.entries c.self.inside.bytes c.make_room.new.bytes c.args.text.now c.self.invariant fits c.make_room.ensures in
    rw (← c.self.view_is)
    (others-stay c.make_room.new.values.entries c.add.new.values.entries c.in_ok-key.key c.args.text.now c.args.value c.make_room.new.bytes c.add.new.bytes c.add.result c.in_ok-key.ensures.ok c.add.ensures.ok c.add.ensures.err other apart
    ∙ ap (λ (es : List (String Global × g.row.V.Denot)). lookup (bytes_eq other) (entries_of es)) all)
