use Rattle.std.proofs.Common.{map, string_bytes}
use Rattle.world.specs.Sources.{table_of}
use Rattle.world_files.proofs.Wholes.{world_whole, refusal_whole}
use Rattle.world_files.proofs.files.open_world.Goals as goal

pub returns-in-Ok-new-clause-ok : goal.returns-in-Ok-new-clause-ok
returns-in-Ok-new-clause-ok g c =
    let front = rw c.as_str.ensures.value at c.in-Ok.ensures.ok in
    let bindings = rw c.as_str-2.ensures.value at c.in-Ok-bindings_file.ensures.ok in
    let tables = rw c.as_slice.ensures.value at c.in-Ok-table_files.ensures.ok in
    let made = rw (c.as_str-3.ensures.value, c.as_str-4.ensures.value) at c.in-Ok-new.ensures.made in
    let whole = world_whole _ _ _ _ _ _ front made in
    record { schema = _; bindings = _; tables = _; from = record { schema_whole = whole; bindings_whole = bindings; tables_whole = tables }; world = made }

pub returns-clause-err : goal.returns-clause-err
returns-clause-err g c =
    let front = rw c.as_str.ensures.value at c.in-Ok.ensures.ok in
    let bindings = rw c.as_str-2.ensures.value at c.in-Ok-bindings_file.ensures.ok in
    let tables = rw c.as_slice.ensures.value at c.in-Ok-table_files.ensures.ok in
    let fault = rw (c.as_str-3.ensures.value, c.as_str-4.ensures.value) at c.in-Err-new.ensures.fault in
    let read = string_bytes c.in-Ok-bindings_file.text in
    let named = map table_of c.in-Ok-table_files.tables.items in
    let whole = refusal_whole _ _ read named c.args.files.now.max_batch c.in-Err-new.fault front fault in
    record { schema = whole.0; bindings = read; tables = named; from = record { schema_whole = whole.1; bindings_whole = bindings; tables_whole = tables }; refused = whole.2 }
