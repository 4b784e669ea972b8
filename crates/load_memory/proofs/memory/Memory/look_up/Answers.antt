use Rattle.std.proofs.Common.{◌≡◌, ap, ◌∙◌, sym, ℕ, ◌<◌, List, [], ◌∷◌, length, get_or, Option, Some, None, refl}
use Rattle.std.specs.Prelude.{slice_get}
use Rattle.load_memory.specs.Keys.{KeyOf, borrowed_of, folded, mode_at}
use Rattle.load_memory.specs.Outcomes.{OutcomeOf}
use Rattle.load_memory.specs.Pairs.{MemoryOf, look}
use Rattle.load_memory.specs.LoaderMemories.{PartOf, EntriesOf, look_in, pairs_from}
use Rattle.load_memory.specs.declared.key.KeyMode.{KeyMode}
use Rattle.load_memory.proofs.LoaderMemoryLaws.{look-part, at_part-read}
use Rattle.load_memory.proofs.ReplyPairs.{mode-at}
use Rattle.load_memory.proofs.memory.Memory.look_up.Goals as goal

-- a part without entries says nothing
look_in-empty : (es : EntriesOf) (q : KeyOf) → length es ≡ 0 → None ≡ look_in es q
look_in-empty [] q e = refl
look_in-empty (e ∷ es) q h = absurd (cc h)

-- the memory says of a key what the loader's part says
told : (m : MemoryOf) (parts : List PartOf) (loader : ℕ) (d : PartOf) (mode : KeyMode) (key : KeyOf) (o : Option OutcomeOf) → pairs_from 0 parts ≡ m.pairs → slice_get m.modes loader ≡ Some mode → loader < length parts → d ≡ get_or parts loader d
    → o ≡ look_in d.entries (folded mode key) → o ≡ look m.pairs loader (folded (mode_at m.modes loader) key)
told m parts loader d mode key o pairs at lt is known =
    let cached = folded mode key in
    rw (mode-at m.modes loader mode at, ← pairs) (known ∙ ap (λ (p : PartOf). look_in p.entries cached) is ∙ sym (at_part-read parts loader d cached lt) ∙ sym (look-part parts loader cached))

pub returns-then-is_empty : goal.returns-then-is_empty
returns-then-is_empty c =
    let parts = c.self.inside.parts.items in
    let lt : c.args.loader < length parts = rw (c.self.invariant.lined_up, ap (λ (m : MemoryOf). m.modes) c.self.view_is) c.requires in
    let known = look_in-empty c.index-part.result.now.entries (folded c.mode-mode.result (borrowed_of c.args.key)) (c.is_empty.ensures.0 c.if-is_empty.true) in
    told c.args.self.now parts c.args.loader c.index-part.result.now c.mode-mode.result (borrowed_of c.args.key) _ (ap (λ (m : MemoryOf). m.pairs) c.self.view_is) c.mode-mode.ensures lt c.index-part.ensures known

pub returns-in-Some : goal.returns-in-Some
returns-in-Some c =
    let parts = c.self.inside.parts.items in
    let lt : c.args.loader < length parts = rw (c.self.invariant.lined_up, ap (λ (m : MemoryOf). m.modes) c.self.view_is) c.requires in
    told c.args.self.now parts c.args.loader c.index-part.result.now c.mode-mode.result (borrowed_of c.args.key) _ (ap (λ (m : MemoryOf). m.pairs) c.self.view_is) c.mode-mode.ensures lt c.index-part.ensures (sym c.in-Some.ensures)

pub returns-in-None : goal.returns-in-None
returns-in-None c =
    let parts = c.self.inside.parts.items in
    let lt : c.args.loader < length parts = rw (c.self.invariant.lined_up, ap (λ (m : MemoryOf). m.modes) c.self.view_is) c.requires in
    let known = c.in-None.ensures ∙ ap (look_in c.index-part.result.now.entries) c.in_ok-set.ensures in
    told c.args.self.now parts c.args.loader c.index-part.result.now c.mode-mode.result (borrowed_of c.args.key) _ (ap (λ (m : MemoryOf). m.pairs) c.self.view_is) c.mode-mode.ensures lt c.index-part.ensures known

pub returns-in_ok-note_hashed-in-Some-find : goal.returns-in_ok-note_hashed-in-Some-find
returns-in_ok-note_hashed-in-Some-find c =
    let parts = c.self.inside.parts.items in
    let lt : c.args.loader < length parts = rw (c.self.invariant.lined_up, ap (λ (m : MemoryOf). m.modes) c.self.view_is) c.requires in
    let known = c.in-Some-find.ensures ∙ ap (look_in c.index-part.result.now.entries) c.in_ok-set.ensures in
    told c.args.self.now parts c.args.loader c.index-part.result.now c.mode-mode.result (borrowed_of c.args.key) _ (ap (λ (m : MemoryOf). m.pairs) c.self.view_is) c.mode-mode.ensures lt c.index-part.ensures known
