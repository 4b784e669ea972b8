use Rattle.std.proofs.Common.{◌≡◌, ◌∙◌, ◌||◌, ap, sym, bytes_eq, string_bytes}
use Rattle.std.specs.HashSet.{contains_text}
use Rattle.std.proofs.lemmas.Map.Text.{hash_set_updates_text}
use Rattle.gq_schema.proofs.Bools.{noted-text, list_any-push}
use Rattle.gq_schema.proofs.type_names.TypeNames.add.Goals as goal

pub invariant_of-self-2 : goal.invariant_of-self-2
invariant_of-self-2 c = λ q.
    let names = c.self.inside.names.items in
    let listed = c.in_ok-listed.listed in
    let same : string_bytes c.in_ok-present.present ≡ string_bytes listed = cc (c.in_ok-listed.ensures.cases, c.in_ok-present.ensures.cases) in
    let at = hash_set_updates_text (string_bytes c.in_ok-present.present) c.self.inside.present c.insert.new.self _ c.in_ok-insert.ensures.updates q in
    let noted = noted-text (contains_text c.insert.new.self q) (contains_text c.self.inside.present q) (string_bytes c.in_ok-present.present) (string_bytes listed) q same at in
    rw (c.in_ok-push.ensures.items, c.in_ok-reserve.ensures.items) (noted ∙ (ap (λ b. bytes_eq q (string_bytes listed) || b) (c.self.invariant q) ∙ sym (list_any-push (bytes_eq q) string_bytes names listed)))
