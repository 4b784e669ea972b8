use Rattle.std.proofs.Common.{subst, inl, [], ◌++◌, refl, sym, ◌∙◌, ℕ, arith, rules, Err}
use Rattle.std.specs.Io.KnownBytes.{IsAtEnd}
use Rattle.std.proofs.lemmas.Grind.{common_steps}
use Rattle.std.proofs.lemmas.List.Elements.{All-nil, All-append}
use Rattle.std.proofs.lemmas.Result.{IfErr-weaker, IfOk-weaker, MatchResult-from_both}
use Rattle.server_lines.specs.Answering.{by_calls}
use Rattle.server_lines.specs.Devices.{DevicesOf, device_of, devices, given_of, IsReadOut}
use Rattle.server_lines.specs.Lines.{IsLine, HasNoLineFeed}
use Rattle.server_lines.specs.declared.fault.ServeFault.TheVariants.{NoMemory, ReadFault, WriteFault}
use Rattle.server_lines.proofs.Known.{consumes_none, fault_after, sends_kept, sends_trans, steady_same, steady_trans}
use Rattle.server_lines.proofs.Feeding.{are_append, no_line, ends, fails_start, fails_read, fails_send, fails_last, answered_all, reads_later, stays_failed, stopped_later, writes_later, consumes_start, consumes_keeps, consumes_nothing, consumes_more, consumes_lines, sends_sent, sends_close, count_both, count_given}
use Rattle.server_lines.proofs.serving.serve.Goals as goal

pub returns-in-Err : goal.returns-in-Err
returns-in-Err g c =
    ends (by_calls g.F.FnMut) g.R.Read.remaining g.W.Write.contents c.args.answer.now c.args.answer.now c.args.reader.now c.args.reader.now c.args.writer.now c.args.writer.now c.end.new.writer c.new-pending.result (Err NoMemory) c.end.result tt (
      [],
      consumes_none _,
      fails_start (by_calls g.F.FnMut) c.args.answer.now (g.W.Write.contents (device_of c.args.writer.now)) (g.R.Read.remaining (device_of c.args.reader.now)) c.new-pending.result.items c.new-pending.ensures.items,
    )
    (record { reader = steady_same _; writer = steady_same _; bounded = tt; grown = (omega arith, omega arith) })
    c.end.ensures

pub loop-n-init : goal.loop-n-init
loop-n-init g c =
    let e = c.new-held.ensures.items in
    record {
      answered = ([], [], All-nil IsLine, consumes_start _ _ e, refl, (refl, refl), sends_kept _ [] _ [] c.new-pending.ensures.items);
      callable = c.requires;
      sent = c.new-pending.ensures.items;
      held = subst IsLine (sym e) no_line;
      count = omega arith;
      grown = (omega arith, omega arith);
      block = first_of (search rules, grind (arith, common_steps));
      read = steady_same _;
      written = steady_same _;
    }

pub returns-in-Err-read_block : goal.returns-in-Err-read_block
returns-in-Err-read_block g c =
    let inv = c.loop-n.invariant in
    let was = inv.answered in
    let counts = c.in-Err-read_block.ensures.err in
    ends (by_calls g.F.FnMut) g.R.Read.remaining g.W.Write.contents c.args.answer.now c.loop-n.answer c.args.reader.now c.read_block.new.reader c.args.writer.now c.loop-n.writer c.end-in-Err-read_block.new.writer c.loop-n.pending (Err ReadFault)
    c.end-in-Err-read_block.result tt (
      _,
      consumes_keeps _ _ _ _ was.3 c.in-Err-read_block.ensures.bytes,
      fails_read (by_calls g.F.FnMut) _ _ _ _ (g.R.Read.remaining (device_of c.read_block.new.reader)) _ was.0 _ was.1 was.2 inv.held was.5 was.6,
    )
    (record {
      reader = fault_after IsReadOut inv.read c.in-Err-read_block.ensures.faults;
      writer = inv.written;
      bounded = tt;
      grown = (omega (arith, inv.grown.0, counts.called), omega (arith, inv.grown.1, counts.given));
    })
    c.end-in-Err-read_block.ensures

pub returns-then-n-eq0 : goal.returns-then-n-eq0
returns-then-n-eq0 g c =
    let inv = c.loop-n.invariant in
    let was = inv.answered in
    let got = c.in-Ok-read_block.ensures.bytes in
    let counts = c.in-Ok-read_block.ensures.ok in
    let served = c.finish-served.result in
    let now = c.finish-served.new in
    let last = c.finish-served.ensures in
    let end = got.1 c.if-n-eq0.true (omega (arith, c.read_block.auto.block, inv.block)) in
    let went = consumes_nothing _ (g.R.Read.remaining (device_of c.loop-n.reader)) _ _ c.read_block.new.block c.in-Ok-read_block.n c.if-n-eq0.true was.3 got.0 in
    let read = steady_trans inv.read c.in-Ok-read_block.ensures.faults in
    ends (by_calls g.F.FnMut) g.R.Read.remaining g.W.Write.contents c.args.answer.now now.answer c.args.reader.now c.read_block.new.reader c.args.writer.now now.writer c.end-then-n-eq0.new.writer now.pending served c.end-then-n-eq0.result
    (IfOk-weaker served _ _ (λ n all. (
      _,
      went,
      end,
      answered_all (by_calls g.F.FnMut) _ c.loop-n.answer _ _ (g.W.Write.contents (device_of c.loop-n.writer)) _ _ c.loop-n.pending.items _ was.0 _ was.1 c.loop-n.count n was.2 inv.held was.4 all.0 was.5 was.6 all.1,
    )) last.ok)
    (IfErr-weaker served _ _ (λ e fails. (
      _,
      went,
      fails_last (by_calls g.F.FnMut) e _ c.loop-n.answer _ _ (g.W.Write.contents (device_of c.loop-n.writer)) _ _ c.loop-n.pending.items _ was.0 _ was.1 _ was.2 inv.held end was.5 was.6 fails,
    )) last.err)
    (record {
      reader = MatchResult-from_both served _ _ (IfOk-weaker served _ _ (λ n all. read) last.ok) (IfErr-weaker served _ _ (λ e fails. reads_later e _ _ _ _ _ _ read (λ x. x) fails) last.err);
      writer = writes_later _ _ _ served inv.written last.faults;
      bounded = IfOk-weaker served _ _ (λ n all. (counts.calls, omega (arith, counts.room, counts.given, c.if-n-eq0.true))) last.ok;
      grown = (omega (arith, inv.grown.0, counts.called), omega (arith, inv.grown.1, counts.given));
    })
    c.end-then-n-eq0.ensures

pub returns-in-Err-feed : goal.returns-in-Err-feed
returns-in-Err-feed g c =
    let inv = c.loop-n.invariant in
    let was = inv.answered in
    let counts = c.in-Ok-read_block.ensures.ok in
    let now = c.feed.new in
    let e = c.in-Err-feed.fault in
    let stops = c.in-Err-feed.ensures.err in
    ends (by_calls g.F.FnMut) g.R.Read.remaining g.W.Write.contents c.args.answer.now now.answer c.args.reader.now c.read_block.new.reader c.args.writer.now now.writer c.end-in-Err-feed.new.writer now.pending (Err e) c.end-in-Err-feed.result tt (
      _,
      consumes_more _ (g.R.Read.remaining (device_of c.loop-n.reader)) _ _ _ _ was.3 c.in-Ok-read_block.ensures.bytes.0,
      inl (stopped_later (by_calls g.F.FnMut) e _ c.loop-n.answer _ _ (g.W.Write.contents (device_of c.loop-n.writer)) _ _ c.loop-n.pending.items _ was.0 was.1 _ HasNoLineFeed (IsAtEnd (g.R.Read.remaining (device_of c.read_block.new.reader))) was.2 was.5 was.6 stops),
    )
    (record {
      reader = reads_later e _ _ _ _ _ _ (steady_trans inv.read c.in-Ok-read_block.ensures.faults) (λ k. k.2) stops.1;
      writer = writes_later {T = ℕ} _ _ _ (Err e) inv.written c.in-Err-feed.ensures.faults;
      bounded = tt;
      grown = (omega (arith, inv.grown.0, counts.called), omega (arith, inv.grown.1, counts.given));
    })
    c.end-in-Err-feed.ensures

pub returns-in-Err-send : goal.returns-in-Err-send
returns-in-Err-send g c =
    let inv = c.loop-n.invariant in
    let was = inv.answered in
    let now = c.in-Ok-feed.ensures.ok.fed in
    let more = now.3 in
    let counts = c.in-Ok-read_block.ensures.ok in
    let d : DevicesOf = devices g.R.Read.remaining g.W.Write.contents c.args.reader.now c.read_block.new.reader c.args.writer.now c.send.new.writer in
    stays_failed (by_calls g.F.FnMut) c.args.answer.now c.feed.new.answer d c.send.new.pending.items WriteFault refl (
      _,
      consumes_lines _ (g.R.Read.remaining (device_of c.loop-n.reader)) _ was.0 now.0 _ _ _ was.3 c.in-Ok-read_block.ensures.bytes.0 now.1,
      fails_send (by_calls g.F.FnMut) _ _ _ (g.W.Write.contents (device_of c.feed.new.writer)) _ (g.R.Read.remaining (device_of c.read_block.new.reader)) c.feed.new.pending.items c.send.new.pending.items _ _ (was.1 ++ more.0)
          (All-append IsLine was.0 now.0 was.2 now.1.each)
          (are_append (by_calls g.F.FnMut) _ c.loop-n.answer _ was.0 now.0 was.1 more.0 was.5 more.1)
          (sends_trans _ (g.W.Write.contents (device_of c.loop-n.writer)) _ _ c.loop-n.pending.items _ was.1 more.0 was.6 more.2) c.in-Err-send.ensures.err,
    )
    (record {
      reader = inl (steady_trans inv.read c.in-Ok-read_block.ensures.faults);
      writer = fault_after _ (steady_trans inv.written c.in-Ok-feed.ensures.faults) c.in-Err-send.ensures.faults;
      bounded = tt;
      grown = (omega (arith, inv.grown.0, counts.called), omega (arith, inv.grown.1, counts.given));
    })

pub loop-n-preserved : goal.loop-n-preserved
loop-n-preserved g c =
    let was = c.loop-n.invariant.answered in
    let now = c.in-Ok-feed.ensures.ok.fed in
    let more = now.3 in
    let sent = c.in-Ok-send.ensures.ok in
    let counts = c.in-Ok-read_block.ensures.ok in
    record {
      answered = (
        _,
        was.1 ++ more.0,
        All-append IsLine was.0 now.0 was.2 now.1.each,
        consumes_lines _ (g.R.Read.remaining (device_of c.loop-n.reader)) _ was.0 now.0 _ _ _ was.3 c.in-Ok-read_block.ensures.bytes.0 now.1,
        count_both c.loop-n.count _ _ was.0 now.0 was.4 now.2 refl,
        are_append (by_calls g.F.FnMut) _ c.loop-n.answer _ was.0 now.0 was.1 more.0 was.5 more.1,
        sends_sent _ _ _ _ sent.0 (sends_close _ (g.W.Write.contents (device_of c.feed.new.writer)) _ c.feed.new.pending.items _
            (sends_trans _ (g.W.Write.contents (device_of c.loop-n.writer)) _ _ c.loop-n.pending.items _ was.1 more.0 was.6 more.2) sent.1),
      );
      callable = c.in-Ok-feed.ensures.callable;
      sent = sent.0;
      held = c.in-Ok-feed.ensures.ok.line;
      count = count_given c.loop-n.count c.in-Ok-feed.more (given_of c.loop-n.reader) (given_of c.read_block.new.reader) c.in-Ok-read_block.n c.read_block.new.block c.loop-n.invariant.count c.in-Ok-feed.ensures.ok.count counts.given;
      grown = (omega (arith, c.loop-n.invariant.grown.0, counts.called), omega (arith, c.loop-n.invariant.grown.1, counts.given));
      block = c.read_block.auto.block ∙ c.loop-n.invariant.block;
      read = steady_trans c.loop-n.invariant.read c.in-Ok-read_block.ensures.faults;
      written = steady_trans (steady_trans c.loop-n.invariant.written c.in-Ok-feed.ensures.faults) c.in-Ok-send.ensures.faults;
    }
