use Rattle.std.proofs.Common.{◌≡◌, ◌-◌, ◌<◌, length, Some, None, ◌∙◌, arith}
use Rattle.json.specs.Json.{read_key, value}
use Rattle.json.proofs.Grammar.{read_key-shorter}
use Rattle.serde_json.specs.Data.{put}
use Rattle.request_line.proofs.Loops.{member_read, members_over}
use Rattle.request_line.specs.Plain.{value_seen, ReadsValue}
use Rattle.request_line.proofs.plain.read_members.Goals as goal

pub loop-name-preserved : goal.loop-name-preserved
loop-name-preserved c =
    let i = c.loop-name.invariant in
    let k = c.in-Ok-Some.name.now in
    let d = value_seen c.in-Some.value in
    let s = c.next_key.new.self in
    let r = c.next_value.new.reader in
    let named : read_key c.loop-name.reader ≡ Some (Some k, s) = grind arith in
    let reads : ReadsValue 126 s r d = grind arith in
    let lesser : length r < length s = grind arith in
    let less = read_key-shorter c.loop-name.reader (Some k) s named in (
      i.0 - 1,
      omega (arith, i.1),
      put k d i.2,
      c.in_ok-put.ensures i.2 i.3,
      i.4 ∙ member_read (value 126) i.2 i.0 k c.loop-name.reader s r d (omega (arith, i.1)) named reads,
    )

pub returns-in-Ok-None : goal.returns-in-Ok-None
returns-in-Ok-None c =
    let i = c.loop-name.invariant in
    let r = c.next_key.new.self in
    let over : read_key c.loop-name.reader ≡ Some (None, r) = grind arith in
    (i.2, i.3, i.4 ∙ members_over (value 126) i.2 i.0 c.loop-name.reader r i.1 over)
