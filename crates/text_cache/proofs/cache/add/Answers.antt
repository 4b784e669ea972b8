use Rattle.std.proofs.Common.{◌≡◌, ◌∙◌, ap, rules, not, length, Some, string_bytes}
use Rattle.std.proofs.lemmas.Map.Text.{hash_map_updates_text}
use Rattle.text_cache.proofs.Keepings.{adds-new, adds-again}
use Rattle.text_cache.proofs.cache.add.Goals as goal

pub returns-then-is_none-clause-ok : goal.returns-then-is_none-clause-ok
returns-then-is_none-clause-ok g c =
    let found = hash_map_updates_text (string_bytes c.args.text) c.args.values.now c.insert.new.self (Some c.args.value) c.in_ok-insert.ensures.updates in
    let more : c.len-more.result ≡ length (string_bytes c.args.text) = search rules in
    adds-new c.args.values.now.entries c.insert.new.self.entries c.args.bytes.now c.args.text c.args.value c.in_ok-insert.field-0 _ _ c.if-is_none.ensures more found c.in_ok-insert.ensures.entries

pub returns-else-is_none-clause-ok : goal.returns-else-is_none-clause-ok
returns-else-is_none-clause-ok g c =
    let found = hash_map_updates_text (string_bytes c.args.text) c.args.values.now c.insert.new.self (Some c.args.value) c.in_ok-insert.ensures.updates in
    adds-again c.args.values.now.entries c.insert.new.self.entries c.args.bytes.now c.args.text c.args.value found (c.in_ok-insert.ensures.keys_stay (c.is_none.ensures ∙ ap not c.if-is_none.false))
