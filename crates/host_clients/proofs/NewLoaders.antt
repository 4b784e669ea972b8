-- New loaders, one after another.
use Rattle.std.proofs.Common.{◌≡◌, ◌<◌, ◌≤◌, ◌+◌, ◌++◌, ℕ, suc, List, [], ◌∷◌, get_or, drop, map, length, refl, sym, ap, ◌∙◌, subst, arith, All}
use Rattle.std.proofs.lemmas.List.{append_assoc, append-nil, drop_more, drop_all, drop-drop}
use Rattle.std.proofs.lemmas.List.Elements.{All-nil, All-cons, All-drop, All-head}
use Rattle.load_queue.specs.declared.loader.QueueFault.{QueueFault}
use Rattle.load_queue.specs.declared.loader.QueueFault.TheVariants as queue
use Rattle.load_queue.specs.Loaders.{IsBadLimit, LoaderOf}
use Rattle.gq_bindings.specs.Tree as bindings
use Rattle.gq_bindings.specs.Seen.{loader_of}
use Rattle.gq_bindings.specs.declared.binding.LoaderLine.{LoaderLine}
use Rattle.server.specs.Opening.{new_loader}
use Rattle.rounds_by_hand.specs.declared.handed_in.HandedIn.{HandedIn}
use Rattle.host_clients.specs.Faults.{queue_fault}
use Rattle.host_clients.specs.Opening.{AreNewLoaders, LimitsFault, handed_in, limit_at, limits_after}

-- nobody has asked a new loader
pub none-asked : (limits : List ℕ) (lines : List bindings.LoaderOf) (loaders : List (LoaderOf HandedIn)) → AreNewLoaders handed_in limits lines loaders
    → All (λ (l : LoaderOf HandedIn). l.log ≡ []) loaders
none-asked limits [] [] are = All-nil (λ (l : LoaderOf HandedIn). l.log ≡ [])
none-asked limits [] (l ∷ ls) are = absurd are
none-asked limits (line ∷ lines) [] are = absurd are
none-asked limits (line ∷ lines) (l ∷ ls) are =
    All-cons (λ (o : LoaderOf HandedIn). o.log ≡ []) l ls (ap (λ (o : LoaderOf HandedIn). o.log) are.0) (none-asked (limits_after limits) lines ls are.1)

-- there is one for each line
pub as-many : (limits : List ℕ) (lines : List bindings.LoaderOf) (loaders : List (LoaderOf HandedIn)) → AreNewLoaders handed_in limits lines loaders → length lines ≡ length loaders
as-many limits [] [] are = refl
as-many limits [] (l ∷ ls) are = absurd are
as-many limits (line ∷ lines) [] are = absurd are
as-many limits (line ∷ lines) (l ∷ ls) are = ap suc (as-many (limits_after limits) lines ls are.1)

-- says what are the loaders of the lines that are left are, after those that there are, the loaders of all
-- lines
abbrev pub SoFar : List ℕ → List ℕ → List LoaderLine → ℕ → List (LoaderOf HandedIn) → Type 0
SoFar limits left lines i done = (more : List (LoaderOf HandedIn)) → AreNewLoaders handed_in left (map loader_of (drop i lines)) more
    → AreNewLoaders handed_in limits (map loader_of lines) (done ++ more)

pub so-next : (limits left rest : List ℕ) (lines : List LoaderLine) (i : ℕ) (line : LoaderLine) → i < length lines → line ≡ get_or lines i line → (done : List (LoaderOf HandedIn))
    (loader : LoaderOf HandedIn) → SoFar limits left lines i done → loader ≡ new_loader loader.identity (limit_at left) (loader_of line) handed_in → rest ≡ limits_after left
    → SoFar limits rest lines (i + 1) (done ++ loader ∷ [])
so-next limits left rest lines i line lt is done loader so made e = λ more are.
    let cons : drop i lines ≡ line ∷ drop (i + 1) lines = drop_more lines i line lt ∙ ap (λ x. x ∷ drop (i + 1) lines) (sym is) in
    let front : AreNewLoaders handed_in left (map loader_of (drop i lines)) (loader ∷ more) =
    rw cons (made, subst (λ r. AreNewLoaders handed_in r (map loader_of (drop (i + 1) lines)) more) e are) in
    rw (append_assoc done (loader ∷ []) more) (so (loader ∷ more) front)

pub so-all : (limits left : List ℕ) (lines : List LoaderLine) (i : ℕ) → length lines ≤ i → (done : List (LoaderOf HandedIn)) → SoFar limits left lines i done
    → AreNewLoaders handed_in limits (map loader_of lines) done
so-all limits left lines i past done so =
    let none : AreNewLoaders handed_in left (map loader_of (drop i lines)) [] = rw (drop_all i lines past) tt in
    rw append-nil at (so [] none)

-- ---- a limit that is too large

after-one : (limits : List ℕ) → limits_after limits ≡ drop 1 limits
after-one [] = refl
after-one (n ∷ ns) = refl

pub left-next : (limits left rest : List ℕ) (i : ℕ) → left ≡ drop i limits → rest ≡ limits_after left → rest ≡ drop (i + 1) limits
left-next limits left rest i is after = after ∙ ap (λ l. limits_after l) is ∙ after-one (drop i limits) ∙ drop-drop 1 i limits

bad-limit : (n : ℕ) → n ≤ 65535 → IsBadLimit (limit_at (n ∷ [])) → ⊥
bad-limit n le = grind arith

bad-head : (limits : List ℕ) → All (λ n. n ≤ 65535) limits → IsBadLimit (limit_at limits) → ⊥
bad-head [] all bad = bad
bad-head (n ∷ ns) all bad = bad-limit n (All-head (λ m. m ≤ 65535) n ns all) bad

pub limits-fault : (limits left : List ℕ) (i : ℕ) → left ≡ drop i limits → (e : QueueFault) → (e ≡ queue.BadLimit → IsBadLimit (limit_at left)) → LimitsFault limits (queue_fault e)
limits-fault limits left i is queue.BadLimit bad = λ all. bad-head left (subst (λ l. All (λ n. n ≤ 65535) l) (sym is) (All-drop (λ n. n ≤ 65535) i limits all)) (bad refl)
limits-fault limits left i is queue.NoMemory bad = tt
