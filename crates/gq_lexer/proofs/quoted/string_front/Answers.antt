use Rattle.std.proofs.Common.{◌≤◌, ◌+◌, length, drop, sym, ap, ◌∙◌, arith}
use Rattle.std.proofs.lemmas.List.{take_rest, length-drop, drop-drop}
use Rattle.gq_lexer.specs.Pieces.{piece}
use Rattle.gq_lexer.specs.Scan.{scan_pieces}
use Rattle.gq_lexer.proofs.ScanPieces.{pieces_element, pieces_close, pieces_stop}
use Rattle.gq_lexer.proofs.quoted.string_front.Goals as goal

pub loop-len-preserved : goal.loop-len-preserved
loop-len-preserved c =
    let bs = c.args.bytes.now in
    let at = c.loop-len.at in
    let n = c.in-Element.len in
    let rest = take_rest bs at in
    let within : n ≤ length (drop at bs) = omega (arith, c.in-Element.ensures.within, ap length rest) in
    let e = pieces_element c.args.quotes n at (drop at bs) (c.in-Element.ensures.value ∙ ap (piece c.args.quotes) rest) c.in-Element.ensures.within.0 within in
    record {
      within = omega (arith, within, length-drop at bs);
      goes_on = ap (scan_pieces c.args.quotes 0 (at + n)) (sym (drop-drop n at bs)) ∙ sym e ∙ c.loop-len.invariant.goes_on;
    }

pub returns-in-Close : goal.returns-in-Close
returns-in-Close c =
    let bs = c.args.bytes.now in
    let at = c.loop-len.at in
    let e = pieces_close c.args.quotes at (drop at bs) (c.in-Close.ensures.value ∙ ap (piece c.args.quotes) (take_rest bs at)) in
    rw (c.kind.ensures, c.len.ensures) (sym e ∙ c.loop-len.invariant.goes_on)

pub returns-in-Stop : goal.returns-in-Stop
returns-in-Stop c =
    let bs = c.args.bytes.now in
    let at = c.loop-len.at in
    let e = pieces_stop c.args.quotes c.in-Stop.stop at (drop at bs) (c.in-Stop.ensures.value ∙ ap (piece c.args.quotes) (take_rest bs at)) in
    rw c.stop_at.ensures (sym e ∙ c.loop-len.invariant.goes_on)
