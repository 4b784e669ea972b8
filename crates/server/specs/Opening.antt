-- The loaders of a new session.
use Rattle.std.specs.Prelude.{◌≡◌, ℕ, List, [], ◌∷◌, Option, Some, None, if◌then◌else◌}
use denote.Ref.{Bor}
use Rattle.std.specs.Fn.{Mut, Called}
use Rattle.load_memory.specs.declared.key.KeyMode.{KeyMode}
use Rattle.load_memory.specs.declared.key.KeyMode.TheVariants.{Exact, FoldAscii}
use Rattle.bindings_syntax.specs.Statements.{ByOf}
use Rattle.load_queue.specs.Loaders.{LoaderOf}
use Rattle.gq_bindings.specs.Tree as bindings
use Rattle.gq_bindings.specs.Seen.{loader_of}
use Rattle.gq_bindings.specs.declared.binding.LoaderLine.{LoaderLine}

-- gives how the keys of a loader's line are compared
abbrev pub mode_of : Option ByOf → KeyMode
mode_of None = Exact
mode_of (Some by) = if by.fold then FoldAscii else Exact

-- a new loader of a line, over this source
abbrev pub new_loader : {S : Type 0} → ℕ → Option ℕ → bindings.LoaderOf → S → LoaderOf S
new_loader identity limit line source = record {
  name = line.name;
  source = source;
  mode = mode_of line.by;
  limit = limit;
  log = [];
  orders = 0;
  identity = identity;
}

-- The loaders are new ones of these lines, in order, and a call of f at each line, in order, gave its source.
abbrev pub AreOpened : {S F : Type 0} → Mut F (Bor LoaderLine × Unit {0}) S
    → F → Option ℕ → List bindings.LoaderOf → List (LoaderOf S) → Type 0
AreOpened g f limit [] [] = Unit {0}
AreOpened g f limit [] (l ∷ ls) = ⊥
AreOpened g f limit (line ∷ lines) [] = ⊥
AreOpened {S} {F} g f limit (line ∷ lines) (l ∷ ls) = (shown : Bor LoaderLine)
    × (source : S) × (later : F) × (loader_of shown.now ≡ line)
    × Called g f (shown, tt) source later × (l ≡ new_loader l.identity limit line source)
    × AreOpened g later limit lines ls
