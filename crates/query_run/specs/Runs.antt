-- Definitions of what a run of the program writes, and how it ends.
use Rattle.std.specs.Prelude.{◌≡◌, ◌⊎◌, ℕ, List, [], ◌∷◌, ◌++◌, map, Option, Some, None, String, codes, string_bytes}
use Rattle.std.specs.declared.alloc.Global.{Global}
use Rattle.std.specs.Io.KnownBytes.{Appends, Keeps}
use Rattle.server_lines.specs.declared.fault.ServeFault.TheVariants as serve
use Rattle.server_lines.specs.Devices.{DevicesOf, device_of}
use Rattle.server_lines.specs.declared.device.CountedDevice.{CountedDevice}
use Rattle.server_lines.specs.Lines.{line_feed}
use Rattle.server_lines.specs.Output.{IsCut}
use Rattle.query_command.specs.declared.run_end.RunEnd.{RunEnd}
use Rattle.query_command.specs.declared.run_end.RunEnd.TheVariants as stop
use Rattle.query_command.specs.declared.command_words.CommandWords.{CommandWords}
use Rattle.query_command.specs.Words.{IsRead, IsRefused}
use Rattle.query_command.specs.declared.origin.End.{End}
use Rattle.query_command.specs.declared.origin.LocatedRunEnd.{LocatedRunEnd}
use Rattle.query_command.specs.RunEnds.{stop_of}
use Rattle.query_command.specs.Origins.{origin_of, origin_of_opening, Explains}
use Rattle.world.specs.Sources.{TableOf}
use Rattle.world.specs.Worlds.{WorldOf, IsWorld}
use Rattle.world_files.specs.declared.fault.InputFile.TheVariants.{Requests}
use Rattle.world_files.specs.declared.fault.FileFault.{FileFault}
use Rattle.world_files.specs.Files.{IsWorldFrom, IsUnmadeFrom}
use Rattle.world_files.specs.Folders.{Holdings, IsAllOf, WritesNoOther}
use Rattle.world_files.specs.Opening.{IsUnread, IsUncreated, IsLocated, IsUnmade}
use Rattle.query_run.specs.Serving.{IsServed, IsServedBy}
use Rattle.query_run.specs.Tracing.{IsTracedTo}
use Rattle.world_answers.specs.Services.{ServiceOf, service_of, within}
use Rattle.world_answers.specs.declared.service.Service.{Service}
use Rattle.query_run.specs.declared.context.RunContext.{RunContext}

-- some texts and tables that were read are this world, with no limit of a batch
abbrev pub IsSample : WorldOf → Type 0
IsSample world = (schema : List ℕ) × (bindings : List ℕ)
    × (tables : List TableOf) × IsWorld schema bindings tables None world

-- there was no sample world, and nothing was written
pub record IsSampleUnmade (old new : Option (List ℕ)) (end : RunEnd) : Type 0 where
  pub unmade : (fault : FileFault) × IsUnmade None fault × (end ≡ stop_of fault)
  pub kept : Keeps old new

-- the lines of the reader were served over the sample world, without any limit, or there was no world and nothing was read
abbrev pub IsSampleRun : DevicesOf → RunEnd → Type 0
IsSampleRun d end =
    ((world : WorldOf) × IsSample world × IsServed (within None None world) d end)
    ⊎ (Keeps d.unread d.rest × IsSampleUnmade d.old d.new end)

-- Lines were served; and where the words name a file for a trace, their trace is what was written to it.
abbrev pub IsServedTo : Option (String Global) → Holdings
    → Option ℕ → ServiceOf → DevicesOf → RunEnd → Type 0
IsServedTo None written workers service d end = IsServedBy workers service d end
IsServedTo (Some path) written workers service d end =
    IsTracedTo (written (string_bytes path)) workers service d end

abbrev pub IsServedFor : CommandWords → Holdings → ServiceOf → DevicesOf → RunEnd → Type 0
IsServedFor words written service d end = IsServedTo words.trace written words.workers service d end

-- The request lines of a file were served over the world of the other files, with the limits and the trace of the words. As far as it is
-- known what the files hold, the world is of all that they hold, and so are the lines.
pub record AreFilesServed (holds written : Holdings) (words : CommandWords)
    (old new : Option (List ℕ)) (end : RunEnd) : Type 0 where
  pub world : WorldOf
  pub from : IsWorldFrom holds words.files world
  pub devices : DevicesOf
  pub requests : IsAllOf (holds (string_bytes words.requests)) devices.unread
  pub answers : (devices.old ≡ old) × (devices.new ≡ new)
  pub served : IsServedFor words written
      (within words.max_answer words.max_work world) devices end

-- no world or no request lines were to be had of the files, and nothing was written
pub record AreFilesUnserved (holds : Holdings) (words : CommandWords) (old new : Option (List ℕ))
    (end : RunEnd) : Type 0 where
  pub fault : FileFault
  pub unmade : IsUnmadeFrom holds words.files fault ⊎ IsUnread Requests fault
  pub told : end ≡ stop_of fault
  pub kept : Keeps old new

abbrev pub IsFilesRun : Holdings → Holdings → CommandWords
    → Option (List ℕ) → Option (List ℕ) → RunEnd → Type 0
IsFilesRun holds written words old new end = AreFilesServed holds written words old new end
    ⊎ AreFilesUnserved holds words old new end

-- no file is written but one that the words name for a trace
abbrev pub WritesTrace : CommandWords → Holdings → Holdings → Type 0
WritesTrace words before after = (after ≡ before) ⊎ ((path : String Global)
    × (words.trace ≡ Some path) × WritesNoOther (string_bytes path) before after)

-- the help was written with a line feed, or a front of it went out
abbrev pub IsShown : List ℕ → Option (List ℕ) → Option (List ℕ) → RunEnd → Type 0
IsShown help old new (stop.Help text) = (string_bytes text ≡ help)
    × Appends old new (help ++ line_feed ∷ [])
IsShown help old new (stop.Serve fault) = (fault ≡ serve.WriteFault)
    × IsCut old new (help ++ line_feed ∷ [])
IsShown help old new stop.Served = ⊥
IsShown help old new (stop.Command text) = ⊥
IsShown help old new (stop.World fault) = ⊥
IsShown help old new (stop.Table fault) = ⊥
IsShown help old new stop.File = ⊥

-- words that are refused end the run, and help is shown
abbrev pub EndsAsRefused : RunEnd → Option (List ℕ) → Option (List ℕ) → RunEnd → Type 0
EndsAsRefused (stop.Help text) old new end = IsShown (string_bytes text) old new end
EndsAsRefused refusal old new end = (end ≡ refusal) × Keeps old new

-- a run of words: of the files that they name, where they are read, or else of what is said of them
abbrev pub IsWordsRun : Holdings → Holdings → List (List ℕ)
    → Option (List ℕ) → Option (List ℕ) → RunEnd → Type 0
IsWordsRun holds written texts old new end =
    ((words : CommandWords) × IsRead texts words × IsFilesRun holds written words old new end)
    ⊎ ((refusal : RunEnd) × IsRefused texts refusal × EndsAsRefused refusal old new end)

-- Without words the sample world is served from the reader. Else nothing is read of it.
abbrev pub IsProgramRun : Holdings → Holdings → List (List ℕ) → DevicesOf → RunEnd → Type 0
IsProgramRun holds written [] d end = IsSampleRun d end
IsProgramRun holds written (word ∷ words) d end = Keeps d.unread d.rest
    × IsWordsRun holds written (word ∷ words) d.old d.new end

-- ---- the same, as the functions of a run see it

-- lines were served with the workers and the trace of a run's words
abbrev pub ServesFor : {R : Type 0} → Holdings → RunContext R
    → Service → DevicesOf → LocatedRunEnd → Type 0
ServesFor written run service d end =
    IsServedFor run.words.now written (service_of service) d end.stop

-- a run of words that are read, to a writer whose contents a function says
abbrev pub RunsFiles : {R W : Type 0} → Holdings → Holdings → RunContext R
    → (W → Option (List ℕ)) → CountedDevice W → CountedDevice W → LocatedRunEnd → Type 0
RunsFiles holds written run contents old new end = IsFilesRun holds written run.words.now
    (contents (device_of old)) (contents (device_of new)) end.stop

-- a run of the words of a program
abbrev pub RunsIn : Holdings → Holdings → List (String Global) → DevicesOf → End → Type 0
RunsIn holds written words d end = IsProgramRun holds written (map string_bytes words) d end.stop

-- ---- what is written and what is said besides

-- a run writes no file but one that its words name for a trace, where they are read
abbrev pub WritesOnlyTrace : List (List ℕ) → Holdings → Holdings → Type 0
WritesOnlyTrace texts before after = (after ≡ before)
    ⊎ ((words : CommandWords) × IsRead texts words × WritesTrace words before after)

-- says where the fault of serving is, or why the file of the trace can't be created
abbrev pub IsPlacedTrace : LocatedRunEnd → Type 0
IsPlacedTrace end = (end.origin ≡ origin_of end.stop)
    ⊎ ((fault : FileFault) × IsUncreated fault × (end.stop ≡ stop_of fault)
    × (end.origin ≡ origin_of_opening fault))

-- a file of the words can't be opened or created, or the files of the world give none
abbrev pub IsUnopenedOf : CommandWords → FileFault → Type 0
IsUnopenedOf words fault = IsLocated words.files fault ⊎ IsUnread Requests fault ⊎ IsUncreated fault

-- says where the fault is: what the end itself says, or what is known of the files that were to be opened
abbrev pub IsPlaced : CommandWords → LocatedRunEnd → Type 0
IsPlaced words end = (end.origin ≡ origin_of end.stop)
    ⊎ ((fault : FileFault) × IsUnopenedOf words fault × (end.stop ≡ stop_of fault)
    × (end.origin ≡ origin_of_opening fault))

-- says what is said besides: the words asked for it, and it names the file of the fault and where in it that is, as far as that is known
abbrev pub SaysWhere : List (List ℕ) → RunEnd → List ℕ → Type 0
SaysWhere texts stop text = (words : CommandWords) × (end : LocatedRunEnd)
    × IsRead texts words × (end.stop ≡ stop) × IsPlaced words end
    × Explains words end.origin text

-- says why the program has no words
abbrev pub IsWordless : RunEnd → Type 0
IsWordless (stop.Command text) =
    string_bytes text ≡ codes "error: invalid UTF-8 was detected in one or more arguments"
IsWordless (stop.Serve fault) = fault ≡ serve.NoMemory
IsWordless (stop.Help text) = ⊥
IsWordless stop.Served = ⊥
IsWordless (stop.World fault) = ⊥
IsWordless (stop.Table fault) = ⊥
IsWordless stop.File = ⊥
