-- Definitions of what the files at paths hold.
use Rattle.std.specs.Prelude.{◌≡◌, ◌≢◌, ℕ, List, [], ◌∷◌, Option, Some, None, IfSome, bytes_eq, string_bytes, if◌then◌else◌}
use Rattle.world_files.specs.declared.folder.CreatedFile.{CreatedFile}
use Rattle.world_files.specs.declared.folder.MemoryFile.{MemoryFile}

-- says what the file at each path holds, where that is known
abbrev pub Holdings : Type 0
Holdings = List ℕ → Option (List ℕ)

-- a reader has left all that its file holds, where that is known
abbrev pub IsAllOf : Option (List ℕ) → Option (List ℕ) → Type 0
IsAllOf held left = IfSome held (λ bytes. left ≡ Some bytes)

-- gives what the first file of a path holds
abbrev pub held_in : List MemoryFile → Holdings
held_in [] path = None
held_in (f ∷ fs) path = if bytes_eq f.path.now path then Some f.bytes.now else held_in fs path

-- the file was empty first, and holds at last what was written to it, where that is known
abbrev pub IsWritten : Option (List ℕ) → Option (List ℕ) → Option (List ℕ) → Type 0
IsWritten written first last = IfSome written (λ bytes. (first ≡ Some []) × (last ≡ Some bytes))

-- No file at another path was written: of each the same is known as before, or less.
abbrev pub WritesNoOther : List ℕ → Holdings → Holdings → Type 0
WritesNoOther path before after = (other : List ℕ)
    → other ≢ path → IsAllOf (after other) (before other)

-- the file that was created is at this path
abbrev pub IsCreatedAt : Option CreatedFile → List ℕ → Type 0
IsCreatedAt None path = ⊥
IsCreatedAt (Some file) path = string_bytes file.path ≡ path

-- gives what was written to the file that was created, by its path
abbrev pub written_in : Option CreatedFile → Holdings
written_in None path = None
written_in (Some file) path =
    if bytes_eq (string_bytes file.path) path then Some file.bytes.items else None
