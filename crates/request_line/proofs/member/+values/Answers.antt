use Rattle.std.proofs.Common.{◌≡◌, ◌-◌, ◌<◌, ◌∷◌, length, Some, None, string_bytes, sym, ap, ◌∙◌, arith}
use Rattle.json.specs.Token.{Token}
use Rattle.json.specs.Json.{parse_map, after_end_array, read_key, items, members, value}
use Rattle.json.specs.Reads.{token_of}
use Rattle.json.proofs.Grammar.{value_is, after_end_array-shorter, read_key-shorter}
use Rattle.serde_json.specs.Data.{put}
use Rattle.serde_json.specs.Read.{of_json, of_items, of_members, converted}
use Rattle.serde_json.specs.View.{view, items_view, members_view}
use Rattle.serde_json.proofs.Views.{members_view-insert_entry}
use Rattle.request_line.proofs.Loops.{item_read, items_over, member_read, members_over, items_before, items_before-no_items, one_more_item, none_before}
use Rattle.request_line.specs.Plain.{value_seen, ReadsValue}
use Rattle.request_line.proofs.PlainMembers.{array_value, object_value}
use Rattle.request_line.proofs.member.+values.Goals as goal

pub next_value-returns-in-Null-clause-value : goal.next_value-returns-in-Null-clause-value
next_value-returns-in-Null-clause-value t c =
    let first : c.args.reader.now ≡ token_of c.in-Some.token ∷ c.next.new.self = grind arith in
    let is : c.args.reader.now ≡ Token.null ∷ c.next.new.self = grind (arith, first) in
    ap (converted of_json) (ap (value c.args.depth) is ∙ value_is c.args.depth _)

pub next_value-returns-in-Bool-clause-value : goal.next_value-returns-in-Bool-clause-value
next_value-returns-in-Bool-clause-value t c =
    let first : c.args.reader.now ≡ token_of c.in-Some.token ∷ c.next.new.self = grind arith in
    let is : c.args.reader.now ≡ Token.boolean c.in-Bool.b ∷ c.next.new.self = grind (arith, first) in
    ap (converted of_json) (ap (value c.args.depth) is ∙ value_is c.args.depth _)

pub next_value-returns-in-Some-read_number-clause-value : goal.next_value-returns-in-Some-read_number-clause-value
next_value-returns-in-Some-read_number-clause-value t c =
    let first : c.args.reader.now ≡ token_of c.in-Some.token ∷ c.next.new.self = grind arith in
    let is : c.args.reader.now ≡ Token.number c.in-Number.text.now ∷ c.next.new.self = grind (arith, first) in
    ap (converted of_json) (ap (value c.args.depth) is ∙ value_is c.args.depth _) ∙ rw (← c.in-Some-read_number.ensures)

pub next_value-returns-in-String-clause-value : goal.next_value-returns-in-String-clause-value
next_value-returns-in-String-clause-value t c =
    let first : c.args.reader.now ≡ token_of c.in-Some.token ∷ c.next.new.self = grind arith in
    let is : c.args.reader.now ≡ Token.string c.in-String.text.now ∷ c.next.new.self = grind (arith, first) in
    ap (converted of_json) (ap (value c.args.depth) is ∙ value_is c.args.depth _)

pub next_value-returns-in-Some-2-clause-value : goal.next_value-returns-in-Some-2-clause-value
next_value-returns-in-Some-2-clause-value t c =
    let first : c.args.reader.now ≡ token_of c.in-Some.token ∷ c.next.new.self = grind arith in
    let opened : c.args.reader.now ≡ Token.begin_array ∷ c.next.new.self = first ∙ ap (λ k. token_of k ∷ c.next.new.self) c.in-BeginArray.is in
    rw opened (array_value c.args.depth c.next.new.self c.read_array.new.reader (items_view c.in-Some-2.values.items) (omega arith) (grind arith))

pub next_value-returns-in-Some-3-clause-value : goal.next_value-returns-in-Some-3-clause-value
next_value-returns-in-Some-3-clause-value t c =
    let first : c.args.reader.now ≡ token_of c.in-Some.token ∷ c.next.new.self = grind arith in
    let opened : c.args.reader.now ≡ Token.begin_object ∷ c.next.new.self = first ∙ ap (λ k. token_of k ∷ c.next.new.self) c.in-BeginObject.is in
    rw opened (object_value c.args.depth c.next.new.self c.read_object.new.reader (members_view c.in-Some-3.members.entries) (omega arith) (grind arith))

pub read_array-loop-alloc-init : goal.read_array-loop-alloc-init
read_array-loop-alloc-init t c =
    let all = converted of_items (items (value c.args.depth) (length c.args.reader.now) c.args.reader.now) in
    (length c.args.reader.now, omega arith, omega arith, none_before all ∙ ap (λ vs. parse_map (items_before vs) all) (sym c.new-found.ensures.items))

pub read_array-loop-alloc-preserved : goal.read_array-loop-alloc-preserved
read_array-loop-alloc-preserved t c =
    let p = value c.args.depth in
    let l = c.loop-alloc in
    let n = l.invariant.0 in
    let going : (after_end_array l.reader ≡ None) × (c.take_end_array.new.self ≡ l.reader) = grind arith in
    let v = c.in_ok-value-2.value in
    let r = c.next_value.new.reader in
    let seen : view v ≡ value_seen c.in-Some.value = grind arith in
    let reads : ReadsValue c.args.depth c.take_end_array.new.self r (value_seen c.in-Some.value) = grind arith in
    let lesser : length r < length c.take_end_array.new.self = grind arith in
    let less : length r < length l.reader = rw (← going.1) lesser in
    let turn = item_read p n l.reader r (view v) (omega (arith, l.invariant.1)) going.0 (rw (← going.1, seen) reads) in (
      n - 1,
      omega (arith, l.invariant.1),
      omega (arith, l.invariant.2),
      l.invariant.3 ∙ ap (parse_map (items_before l.found.items)) turn ∙ one_more_item l.found.items v _
          ∙ ap (λ vs. parse_map (items_before vs) (converted of_items (items p (n - 1) r))) (sym c.in_ok-push.ensures.items),
    )

pub read_array-returns-clause-value : goal.read_array-returns-clause-value
read_array-returns-clause-value t c =
    let p = value c.args.depth in
    let l = c.loop-alloc in
    let n = l.invariant.0 in
    let r = c.take_end_array.new.self in
    l.invariant.3 ∙ ap (parse_map (items_before l.found.items)) (items_over p n l.reader r l.invariant.1 (grind arith)) ∙ ap (λ ds. Some (ds, r)) (items_before-no_items l.found.items)

pub read_array-returns-clause-shorter : goal.read_array-returns-clause-shorter
read_array-returns-clause-shorter t c =
    let less = after_end_array-shorter c.loop-alloc.reader c.take_end_array.new.self (grind arith) in
    omega (arith, c.loop-alloc.invariant.2)

pub read_object-loop-name-init : goal.read_object-loop-name-init
read_object-loop-name-init t c =
    let all = members (value c.args.depth) (length c.args.reader.now) c.args.reader.now in
    (length c.args.reader.now, omega arith, omega arith, ap (λ es. converted (λ ms. of_members ms (members_view es)) all) (sym c.new-found.ensures.empty))

pub read_object-loop-name-preserved : goal.read_object-loop-name-preserved
read_object-loop-name-preserved t c =
    let p = value c.args.depth in
    let l = c.loop-name in
    let n = l.invariant.0 in
    let old = members_view l.found.entries in
    let k = c.in-Ok-Some.name.now in
    let s = c.next_key.new.self in
    let named : read_key l.reader ≡ Some (Some k, s) = grind arith in
    let v = c.in_ok-value-2.value in
    let r = c.next_value.new.reader in
    let seen : view v ≡ value_seen c.in-Some.value = grind arith in
    let reads : ReadsValue c.args.depth s r (value_seen c.in-Some.value) = grind arith in
    let less = read_key-shorter l.reader (Some k) s named in
    let lesser : length r < length s = grind arith in
    let copied : string_bytes c.in_ok-key.key ≡ k = grind arith in
    let inserted : members_view c.insert.new.self.entries ≡ put k (view v) old =
    ap members_view c.in_ok-insert.ensures.entries ∙ members_view-insert_entry l.found.entries c.in_ok-key.key v ∙ ap (λ name. put name (view v) old) copied in (
      n - 1,
      omega (arith, l.invariant.1),
      omega (arith, l.invariant.2),
      l.invariant.3 ∙ member_read p old n k l.reader s r (view v) (omega (arith, l.invariant.1)) named (rw seen reads)
          ∙ ap (λ found. converted (λ ms. of_members ms found) (members p (n - 1) r)) (sym inserted),
    )

pub read_object-returns-in-Ok-None-clause-value : goal.read_object-returns-in-Ok-None-clause-value
read_object-returns-in-Ok-None-clause-value t c =
    let p = value c.args.depth in
    let l = c.loop-name in
    let over : read_key l.reader ≡ Some (None, c.next_key.new.self) = grind arith in
    l.invariant.3 ∙ members_over p (members_view l.found.entries) l.invariant.0 l.reader c.next_key.new.self l.invariant.1 over

pub read_object-returns-in-Ok-None-clause-shorter : goal.read_object-returns-in-Ok-None-clause-shorter
read_object-returns-in-Ok-None-clause-shorter t c =
    let l = c.loop-name in
    let over : read_key l.reader ≡ Some (None, c.next_key.new.self) = grind arith in
    let less = read_key-shorter l.reader None c.next_key.new.self over in
    omega (arith, l.invariant.2)
