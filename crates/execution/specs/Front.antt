-- *Front*: the loads that are needed and that the memory lacks.
use Rattle.std.specs.Prelude.{ℕ, ◌==◌, if◌then◌else◌, not, List, [], ◌∷◌, map, is_none}
use Rattle.std.specs.List.{filter}
use Rattle.load_memory.specs.Keys.{KeyOf}
use Rattle.load_memory.specs.declared.key.KeyMode.{KeyMode}
use Rattle.load_queue.specs.Wanted.{WantedOf, nothing_wanted, with_wanted}
use Rattle.execution.specs.Loads.{Load, Reader, Memory, read, same}
use Rattle.execution.specs.Program.{Program, needs}

-- those that aren't answered
abbrev pub missing : Reader → List Load → List Load
missing R ls = filter (λ l. is_none (R l)) ls

-- of one loader's equal cache keys only the first
abbrev pub firsts : List KeyMode → List Load → List Load
firsts modes [] = []
firsts modes (l ∷ ls) = l ∷ filter (λ m. not (same modes m l)) (firsts modes ls)

-- front(plan, M)
abbrev pub front : List KeyMode → Program → Memory → List Load
front modes p M = firsts modes (missing (read modes M) (needs p (read modes M)))

-- front(loader, keys, M)
abbrev pub front_of_keys : List KeyMode → ℕ → List KeyOf → Memory → List Load
front_of_keys modes loader keys M =
    firsts modes (missing (read modes M) (map (λ key. record { loader = loader; key = key }) keys))

-- the wants with these loads too, in order
abbrev pub wanting : List WantedOf → List Load → List WantedOf
wanting wants [] = wants
wanting wants (l ∷ ls) = wanting (with_wanted wants l.loader l.key) ls

-- the wants of loaders of these modes, with these loads in order
abbrev pub wanted : List KeyMode → List Load → List WantedOf
wanted modes ls = wanting (map nothing_wanted modes) ls

abbrev pub modes_wanted : List WantedOf → List KeyMode
modes_wanted wants = map (λ w. w.mode) wants

-- the keys that are asked of the loader of a number
abbrev pub keys_for : ℕ → List Load → List KeyOf
keys_for loader [] = []
keys_for loader (l ∷ ls) =
    if l.loader == loader then l.key ∷ keys_for loader ls else keys_for loader ls
