use Rattle.gq_schema.proofs.schema.Schema.of.Goals as goal

pub invariant_of-result : goal.invariant_of-result
invariant_of-result c = record {
  rooted = rw c.deref.ensures.value at c.in_ok-root.ensures;
  placed = rw c.deref-2.ensures.value at c.in_ok-types.ensures;
  found = rw c.deref-3.ensures.value at c.in_ok-possible.ensures;
  root_found = rw (c.deref-4.ensures.value, c.root_name.ensures, rw c.deref.ensures.value at c.in_ok-root.ensures) at c.entry_of-root_entry.ensures;
  fields_found = rw c.deref-5.ensures.value at c.in_ok-field_entries.ensures;
  conditional = c.in_ok-condition.ensures;
}
