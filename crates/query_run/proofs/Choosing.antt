-- A run of some words.
use Rattle.std.proofs.Common.{◌≡◌, ℕ, List, [], ◌∷◌, map, length, refl}
use Rattle.std.specs.Io.KnownBytes.{Keeps}
use Rattle.query_command.specs.declared.run_end.RunEnd.{RunEnd}
use Rattle.server_lines.specs.Devices.{DevicesOf}
use Rattle.world_files.specs.Folders.{Holdings}
use Rattle.query_run.specs.Runs.{IsProgramRun, IsWordsRun}

pub words-run : {A : Type 0} (f : A → List ℕ) (holds written : Holdings) (ws : List A) (d : DevicesOf) (end : RunEnd) → (length ws ≡ 0 → ⊥) → Keeps d.unread d.rest → IsWordsRun holds written (map f ws) d.old d.new end
    → IsProgramRun holds written (map f ws) d end
words-run f holds written [] d end some same h = absurd (some refl)
words-run f holds written (w ∷ ws) d end some same h = (same, h)
