use Rattle.std.proofs.Common.{map, take}
use Rattle.std.specs.List.{AllZip}
use Rattle.world.specs.Sources.{table_of}
use Rattle.world_files.specs.Files.{IsTableFrom}
use Rattle.world_files.proofs.files.table_files.Given as goal

abbrev pub invariant-loop-place : goal.invariant-loop-place
invariant-loop-place g l = AllZip (IsTableFrom (g.D.Folder.holds l.folder)) (take l.place l.given) (map table_of l.tables.items)
