use Rattle.std.proofs.Common.{◌≡◌, ℕ, List, ap, ◌∙◌, ◌++◌, ◌∷◌, []}
use Rattle.std.specs.Borrow.{Bor}
use Rattle.std.proofs.lemmas.List.{map-append}
use Rattle.gq_parser.specs.declared.tree.Field.{Field}
use Rattle.std.proofs.Math.Seq.{map-set_same}
use Rattle.plan_program.specs.declared.group.Group.{Group}
use Rattle.plan_program.specs.Groups.{FieldOf, GroupOf, Collected}
use Rattle.plan_program.specs.Fields.{field_seen, fields_seen}
use Rattle.plan_program.specs.Seen.{groups_of}
use Rattle.plan_program.specs.Finding.{texts_of}
use Rattle.plan_program.proofs.Grouping.{put_at, put_last}
use Rattle.plan_program.proofs.collected.CollectedFields.add_field.Goals as goal

abbrev collected : List GroupOf → List (List ℕ) → Collected
collected gs names = record { groups = gs; entered = names }

abbrev group : List ℕ → List FieldOf → GroupOf
group key fields = record { key = key; fields = fields }

pub invariant_of-self : goal.invariant_of-self
invariant_of-self c = record {
  found = rw (map-set_same (λ (g : Group). g.key.now) c.args.self.now.groups.items c.in-Some.place (record { key = c.index_mut.result.now.key; fields = c.push.new.self }) c.index_mut.result.now (ap (λ (g : Group). g.key.now) c.index_mut.ensures.value)) c.args.self.now.found;
}

pub returns-in_ok-push-in-Some : goal.returns-in_ok-push-in-Some
returns-in_ok-push-in-Some c =
    let g : Group = c.index_mut.result.now in
    let fields : fields_seen c.push.new.self ≡ fields_seen g.fields ++ field_seen c.args.field.now ∷ [] =
    ap fields_seen c.in_ok-push-in-Some.ensures.ok ∙ map-append (λ (f : Bor Field). field_seen f.now) g.fields (c.args.field ∷ []) in
    ap (λ (gs : List GroupOf). collected gs (texts_of c.args.self.now.entered.keys))
    (put_at c.args.self.now.groups.items (field_seen c.args.field.now) c.key_of-key.result.now c.in-Some.place g (record { key = g.key; fields = c.push.new.self })
    c.key_of-key.ensures (rw c.deref.ensures.value at c.in-Some.ensures) c.index_mut.ensures.value (ap (λ (fs : List FieldOf). group g.key.now fs) fields))

pub returns-in_ok-push-in-None : goal.returns-in_ok-push-in-None
returns-in_ok-push-in-None c =
    let f = field_seen c.args.field.now in
    let g : Group = record { key = c.key_of-key.result; fields = c.one-fields.result } in
    let groups : c.push-in-None.new.self.items ≡ c.args.self.now.groups.items ++ g ∷ [] =
    c.in_ok-push-in-None.ensures.items ∙ ap (λ (gs : List Group). gs ++ g ∷ []) c.in_ok-reserve-in-None.ensures.items in
    ap (λ (gs : List GroupOf). collected gs (texts_of c.args.self.now.entered.keys))
    (ap groups_of groups ∙ put_last c.args.self.now.groups.items f c.key_of-key.result.now g
    c.key_of-key.ensures (rw c.deref.ensures.value at c.in-None.ensures) (ap (λ (k : List ℕ). group k (fields_seen c.one-fields.result)) c.key_of-key.ensures ∙ ap (λ (fs : List FieldOf). group f.key fs) (ap fields_seen c.one-fields.ensures)))
