use Rattle.std.proofs.Common.{◌≡◌, ◌≢◌, ℕ, List, length, ap, ◌∙◌, refl, arith}
use Rattle.std.specs.Borrow.{Bor}
use Rattle.std.proofs.lemmas.List.{length-map}
use Rattle.plan_program.specs.Finding.{texts_of, keys_in}
use Rattle.plan_program.proofs.Grouping.{apart-more, tabled-more}
use Rattle.plan_program.proofs.finding.note_key.Goals as goal
use Rattle.plan_program.proofs.finding.note_key.Goals.{then-is_empty+else-groups-lt-MANY_GROUPS+in_ok-fill, else-is_empty}

pub returns-then-groups-lt-MANY_GROUPS-clause-ok : goal.returns-then-groups-lt-MANY_GROUPS-clause-ok
returns-then-groups-lt-MANY_GROUPS-clause-ok c =
    let none : length c.args.table.now.keys ≡ 0 = c.if-is_empty.ensures.0 refl in
    record {
      apart = apart-more (keys_in c.args.groups.now) c.args.key.now c.requires.found.apart c.requires.absent;
      same = λ some. absurd (omega (arith, some, none, length-map c.args.table.now.keys (λ (k : Bor (List ℕ)). k.now)));
    }

pub returns-clause-ok : goal.returns-clause-ok
returns-clause-ok c =
    let keys = keys_in c.args.groups.now in
    let tabled : texts_of c.if-is_empty.table.keys ≡ keys = elim c.if-is_empty.branch [
      | then-is_empty+else-groups-lt-MANY_GROUPS+in_ok-fill w ↦ rw w.table-is w.in_ok-fill.ensures.ok
      | else-is_empty w ↦
          let full : length c.args.table.now.keys ≢ 0 = λ e. cc (w.if-is_empty.ensures.1 e) in
          rw w.table-is (c.requires.found.same (omega (arith, full, length-map c.args.table.now.keys (λ (k : Bor (List ℕ)). k.now))))
    ] in
    record {
      apart = apart-more keys c.args.key.now c.requires.found.apart c.requires.absent;
      same = λ some. ap texts_of c.in_ok-insert.ensures.keys ∙ tabled-more c.if-is_empty.table.keys c.args.key keys tabled c.requires.absent;
    }
