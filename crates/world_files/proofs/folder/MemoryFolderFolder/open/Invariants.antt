use Rattle.std.proofs.Common.{◌≡◌, drop}
use Rattle.world_files.specs.Folders.{held_in}
use Rattle.world_files.proofs.folder.MemoryFolderFolder.open.Given as goal

abbrev pub invariant-loop-file : goal.invariant-loop-file
invariant-loop-file l = held_in l.file-items l.path ≡ held_in (drop l.file-index l.file-items) l.path
