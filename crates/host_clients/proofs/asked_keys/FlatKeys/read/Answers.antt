use Rattle.std.proofs.Common.{ℕ, List, [], ◌∷◌, ◌++◌, ◌≡◌, map, subst, length, refl, arith}
use Rattle.std.proofs.lemmas.Result.{err_from_is_err_and}
use Rattle.std.proofs.lemmas.List.{map_push}
use Rattle.load_memory.specs.Keys.{key_of}
use Rattle.flat_orders.specs.Written.{keys_said}
use Rattle.host_clients.specs.Laid.{laid_keys}
use Rattle.host_clients.proofs.LaidKeys.{as-many-ends, fit-next, keys-all, shape-fault, sum-next, texts-left}
use Rattle.host_clients.proofs.ReadKeys.{so-next, so-all}
use Rattle.host_clients.proofs.asked_keys.FlatKeys.read.Goals as goal

pub loop-count-preserved : goal.loop-count-preserved
loop-count-preserved c =
    let now = c.loop-count.invariant in let key = c.in_ok-key.key in
    let pushed : c.push.new.self.items ≡ c.loop-count.read.items ++ key ∷ [] = rw c.if-is_err.ensures.negation at c.push.ensures.items in
    record {
      read = rw (pushed, map_push key_of c.loop-count.read.items key)
          (so-next c.args.self.now.shapes.now c.in_ok-texts.texts c.loop-count.count-index c.loop-count.at c.loop-count-test.true (map key_of c.loop-count.read.items) (key_of key) now.read c.in_ok-key.ensures.key);
      within = c.in_ok-key.ensures.within;
      fit = fit-next c.args.self.now.shapes.now c.loop-count.count-index c.loop-count-test.true c.args.width now.fit c.in_ok-key.ensures.fits;
      so_many = sum-next c.args.self.now.shapes.now c.loop-count.count-index c.loop-count-test.true c.loop-count.at now.so_many;
    }

pub returns-clause-keys : goal.returns-clause-keys
returns-clause-keys c =
    let shapes = c.args.self.now.shapes.now in
    subst (λ (texts : List (List ℕ)). map key_of c.loop-count.read.items ≡ keys_said shapes texts) c.in_ok-texts.ensures.ok
    (so-all shapes c.in_ok-texts.texts c.loop-count.count-index c.loop-count.at c.loop-count-test.false (map key_of c.loop-count.read.items) c.loop-count.invariant.read)

pub returns-in_err-key-clause-first : goal.returns-in_err-key-clause-first
returns-in_err-key-clause-first c =
    let now = c.loop-count.invariant in let k = laid_keys c.args.self.now in let texts = c.in_ok-texts.texts in
    let p = err_from_is_err_and c.from_residual-in_err-key.result c.from_residual-in_err-key.ensures.1 in
    rw (p.1, p.2)
    (shape-fault c.args.width k c.in_ok-texts.ensures.whole c.loop-count.count-index c.loop-count.at (length texts) now.fit now.so_many (as-many-ends k.texts texts (length texts) c.in_ok-texts.ensures.ok refl) now.within
    c.loop-count-test.true _ c.in_err-key.ensures.shape)

pub returns-then-at-len-clause-first : goal.returns-then-at-len-clause-first
returns-then-at-len-clause-first c =
    let now = c.loop-count.invariant in let k = laid_keys c.args.self.now in let texts = c.in_ok-texts.texts in
    texts-left c.args.width k c.in_ok-texts.ensures.whole c.loop-count.count-index c.loop-count.at c.len-len.result now.fit now.so_many (as-many-ends k.texts texts c.len-len.result c.in_ok-texts.ensures.ok c.len-len.ensures)
    c.loop-count-test.false c.if-at-len.true

pub returns-clause-formed : goal.returns-clause-formed
returns-clause-formed c =
    let now = c.loop-count.invariant in let k = laid_keys c.args.self.now in let texts = c.in_ok-texts.texts in
    keys-all c.args.width k c.in_ok-texts.ensures.whole c.loop-count.count-index c.loop-count.at c.len-len.result now.fit now.so_many (as-many-ends k.texts texts c.len-len.result c.in_ok-texts.ensures.ok c.len-len.ensures)
    c.loop-count-test.false (omega (arith, now.within, c.len-len.ensures)) c.if-at-len.false
