-- Lemmas on what is known where files give no world.
use Rattle.world_files.specs.declared.fault.FileFault.{FileFault}
use Rattle.world_files.specs.declared.fault.FileFault.TheVariants as opening
use Rattle.world_files.specs.declared.files.WorldFiles.{WorldFiles}
use Rattle.world_files.specs.Folders.{Holdings}
use Rattle.world_files.specs.Opening.{IsUnmade}
use Rattle.world_files.specs.Files.{IsUnmadeFrom}

-- files that give no world hold texts and tables that give none
pub unmade_from : (holds : Holdings) (files : WorldFiles) (fault : FileFault) → IsUnmadeFrom holds files fault → IsUnmade files.max_batch fault
unmade_from holds files (opening.Unread input reason) h = tt
unmade_from holds files (opening.Table place fault reason) h = tt
unmade_from holds files (opening.World fault) h = (h.schema, h.bindings, h.tables, h.refused)
unmade_from holds files (opening.Uncreated reason) h = absurd h
unmade_from holds files opening.NoMemory h = tt
