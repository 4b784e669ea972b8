use Rattle.std.proofs.Common.{◌≡◌, length}
use Rattle.host_clients.specs.Laid.{texts_at}
use Rattle.host_clients.proofs.LaidKeys.{as-many-ends, key-misfit, key-no-memory, key-texts}
use Rattle.host_clients.proofs.keys.read_key.Goals as goal

pub returns-then-len-width-clause-fault : goal.returns-then-len-width-clause-fault
returns-then-len-width-clause-fault c =
    let t = texts_at c.args.ends.now c.args.bytes.now in let n : c.len.result ≡ length t.ends = as-many-ends t c.in_ok-texts.texts c.len.result c.in_ok-texts.ensures.ok c.len.ensures in
    key-misfit c.args.width t c.in_ok-texts.ensures.whole c.len.result n c.if-len-width.true

pub returns-in_err-of_text-in-1-clause-fault : goal.returns-in_err-of_text-in-1-clause-fault
returns-in_err-of_text-in-1-clause-fault c =
    let t = texts_at c.args.ends.now c.args.bytes.now in let n : c.len.result ≡ length t.ends = as-many-ends t c.in_ok-texts.texts c.len.result c.in_ok-texts.ensures.ok c.len.ensures in
    key-no-memory c.args.width t (key-texts c.args.width t c.in_ok-texts.ensures.whole c.len.result n c.if-len-width.false) c.from_residual-in_err-of_text-in-1.result c.from_residual-in_err-of_text-in-1.ensures.1

pub returns-in_err-of_pair-in_default-clause-fault : goal.returns-in_err-of_pair-in_default-clause-fault
returns-in_err-of_pair-in_default-clause-fault c =
    let t = texts_at c.args.ends.now c.args.bytes.now in let n : c.len.result ≡ length t.ends = as-many-ends t c.in_ok-texts.texts c.len.result c.in_ok-texts.ensures.ok c.len.ensures in
    key-no-memory c.args.width t (key-texts c.args.width t c.in_ok-texts.ensures.whole c.len.result n c.if-len-width.false) c.from_residual-in_err-of_pair-in_default.result c.from_residual-in_err-of_pair-in_default.ensures.1

pub returns-in-0-clause-formed : goal.returns-in-0-clause-formed
returns-in-0-clause-formed c =
    let t = texts_at c.args.ends.now c.args.bytes.now in let n : c.len.result ≡ length t.ends = as-many-ends t c.in_ok-texts.texts c.len.result c.in_ok-texts.ensures.ok c.len.ensures in
    key-texts c.args.width t c.in_ok-texts.ensures.whole c.len.result n c.if-len-width.false

pub returns-in_ok-of_text-in-1-clause-formed : goal.returns-in_ok-of_text-in-1-clause-formed
returns-in_ok-of_text-in-1-clause-formed c =
    let t = texts_at c.args.ends.now c.args.bytes.now in let n : c.len.result ≡ length t.ends = as-many-ends t c.in_ok-texts.texts c.len.result c.in_ok-texts.ensures.ok c.len.ensures in
    key-texts c.args.width t c.in_ok-texts.ensures.whole c.len.result n c.if-len-width.false

pub returns-in_ok-of_pair-in_default-clause-formed : goal.returns-in_ok-of_pair-in_default-clause-formed
returns-in_ok-of_pair-in_default-clause-formed c =
    let t = texts_at c.args.ends.now c.args.bytes.now in let n : c.len.result ≡ length t.ends = as-many-ends t c.in_ok-texts.texts c.len.result c.in_ok-texts.ensures.ok c.len.ensures in
    key-texts c.args.width t c.in_ok-texts.ensures.whole c.len.result n c.if-len-width.false
