use Rattle.std.proofs.Common.{◌≡◌, ap, subst, ℕ, ◌<◌, ◌≤◌, take, length, IfSome, inl, inr, lit<}
use Rattle.std.specs.Option.{option_map}
use Rattle.std.specs.Prelude.{string_bytes, string_len}
use Rattle.std.specs.Global.{Vec}
use Rattle.std.proofs.lemmas.Result.{IfOk-weaker}
use Rattle.gq_lexer.specs.declared.lexer.TheConstants.{MAX_BYTES}
use Rattle.world_files.proofs.Fronts.{front-read, bounded-read}
use Rattle.world_files.specs.Opening.{IsWholeOrLong}
use Rattle.world_files.proofs.reading.read_schema.Goals as goal

pub returns-in-Ok-from_utf8 : goal.returns-in-Ok-from_utf8
returns-in-Ok-from_utf8 g c =
    let remaining = g.R.Read.remaining in
    let items = c.read_to_end.new.buf.items in
    let known = remaining c.args.reader in
    let read : IfSome (option_map (take 1048580) known) (λ xs. items ≡ xs) =
    bounded-read _ remaining c.take.result c.args.reader 1048580 c.new-bytes.result.items items c.take.ensures.inner c.take.ensures.limit c.new-bytes.ensures.items c.in-Ok.ensures.bytes in
    front-read known 1048580 MAX_BYTES items (string_bytes c.in-Ok-from_utf8.text) (lit< tt) read (inl (ap (λ (v : Vec ℕ). v.items) c.in-Ok-from_utf8.ensures.ok))

pub returns-in-Err-from_utf8 : goal.returns-in-Err-from_utf8
returns-in-Err-from_utf8 g c =
    let remaining = g.R.Read.remaining in
    let items = c.read_to_end.new.buf.items in
    let known = remaining c.args.reader in
    let read : IfSome (option_map (take 1048580) known) (λ xs. items ≡ xs) =
    bounded-read _ remaining c.take.result c.args.reader 1048580 c.new-bytes.result.items items c.take.ensures.inner c.take.ensures.limit c.new-bytes.ensures.items c.in-Ok.ensures.bytes in
    IfOk-weaker c.long_text.result _ (λ text. IfSome known (λ bytes. IsWholeOrLong MAX_BYTES bytes (string_bytes text)))
    (λ text long.
    let size : string_len text ≡ length (string_bytes text) = text.bytes.ok.0 in
    let within : string_len text ≤ length items = subst (λ (v : Vec ℕ). string_len text ≤ length v.items) c.in-Err-from_utf8.ensures.err long.1 in
    front-read known 1048580 MAX_BYTES items (string_bytes text) (lit< tt) read (inr (subst (λ (n : ℕ). MAX_BYTES < n) size long.0, subst (λ (n : ℕ). n ≤ length items) size within)))
    c.long_text.ensures.ok
