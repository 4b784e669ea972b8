-- The items of a list, wherever they stand.
use Rattle.std.specs.Prelude.{List, []}
use Rattle.short_list.specs.declared.list.Held.{Held}
use Rattle.short_list.specs.declared.list.Held.TheVariants as held

abbrev pub items_held : {T : Type 0} → Held T → List T
items_held held.None = []
items_held (held.One xs) = xs
items_held (held.Many xs) = xs.items
