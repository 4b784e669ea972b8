use Rattle.std.proofs.Common.{◌≡◌, sym, ◌∙◌, refl}
use Rattle.load_memory.specs.Keys.{KeyOf, all, text, pair, borrowed_of, folded}
use Rattle.load_memory.specs.declared.key.KeyMode.TheVariants.{Exact}
use Rattle.load_memory.proofs.Looks.{same_key-is}
use Rattle.load_memory.proofs.key.CacheKey.is_of.Goals as goal

folded-exact : (k : KeyOf) → folded Exact k ≡ k
folded-exact all = refl
folded-exact (text t) = refl
folded-exact (pair s t) = refl

pub returns-in-Exact : goal.returns-in-Exact
returns-in-Exact c = λ same.
    let known = borrowed_of c.as_key_ref.result in
    let key = borrowed_of c.args.key in
    rw c.in-Exact.is (sym c.as_key_ref.ensures ∙ same_key-is known key (sym c.are_same.ensures ∙ same) ∙ sym (folded-exact key))
