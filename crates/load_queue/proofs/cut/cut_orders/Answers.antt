use Rattle.std.proofs.Common.{◌≡◌, ◌<◌, ◌≤◌, map, length, ◌∙◌, sym, ap, arith, take, drop, length-drop}
use Rattle.std.proofs.lemmas.List.{append-nil}
use Rattle.std.proofs.lemmas.Bool.{eqb-true, eqb-false}
use Rattle.load_memory.specs.Keys.{key_of}
use Rattle.load_queue.specs.Orders.{cut_of}
use Rattle.load_queue.proofs.PieceLaws.{left, left-step, one-more, last-one, all-fit, none-left}
use Rattle.load_queue.proofs.cut.cut_orders.Goals as goal
use Rattle.load_queue.proofs.cut.cut_orders.Goals.{then-not-is_empty+in_ok-push-2, else-not-is_empty}

pub loop-rest-preserved : goal.loop-rest-preserved
loop-rest-preserved c =
    let rest = c.loop-rest.rest in
    let n = c.args.most in
    let some : 0 < length rest = omega (arith, c.len.ensures, c.loop-rest-test.true) in
    let step = left-step key_of n c.requires rest some in
    let piece : c.new.result ≡ cut_of c.args.identity.now c.args.loader (map key_of (take n rest)) = c.new.ensures ∙ ap (λ ks. cut_of c.args.identity.now c.args.loader (map key_of ks)) c.in_ok-piece.ensures.first in
    rw (c.in_ok-push.ensures.items, c.in_ok-piece.ensures.rest)
    (one-more (cut_of c.args.identity.now c.args.loader) c.loop-rest.orders.items c.new.result (map key_of (take n rest)) (left key_of n (drop n rest)) (left key_of n rest) (map (cut_of c.args.identity.now c.args.loader) (left key_of n c.args.keys.items)) c.loop-rest.invariant step piece)

pub loop-rest-smaller : goal.loop-rest-smaller
loop-rest-smaller c =
    let rest = c.loop-rest.rest in
    rw c.in_ok-piece.ensures.rest (omega (arith, c.len.ensures, c.loop-rest-test.true, c.requires, length-drop c.args.most rest))

pub returns : goal.returns
returns c =
    let rest = c.loop-rest.rest in
    let orders = c.loop-rest.orders.items in
    let n = c.args.most in
    let whole = map (cut_of c.args.identity.now c.args.loader) (left key_of n c.args.keys.items) in
    elim c.if-not-is_empty.branch [
      | then-not-is_empty+in_ok-push-2 w ↦
          let some : 0 < length rest = omega (arith, eqb-false (length rest) 0 (sym c.is_empty.ensures ∙ w.if-not-is_empty.true)) in
          let fits : length rest ≤ n = omega (arith, c.len.ensures, c.loop-rest-test.false) in
          let last = all-fit key_of n c.requires rest some fits in
          rw (w.orders-is, w.in_ok-push-2.ensures.items) (last-one (cut_of c.args.identity.now c.args.loader) orders w.new-then-not-is_empty.result (map key_of rest) (left key_of n rest) whole c.loop-rest.invariant last w.new-then-not-is_empty.ensures)
      | else-not-is_empty w ↦
          let none = none-left rest (eqb-true (length rest) 0 (sym c.is_empty.ensures ∙ w.if-not-is_empty.false)) in
          rw (w.orders-is, ← append-nil orders) (rw none at c.loop-rest.invariant)
    ]
