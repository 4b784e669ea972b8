-- Definitions of what serving reads and writes.
-- The promise of serving is one record (Serves), so a caller that serves by it hands on all of it by one lemma.
use Rattle.std.specs.Prelude.{◌≡◌, ◌≢◌, ◌<◌, ◌≤◌, ◌+◌, ◌⊎◌, ℕ, List, [], ◌++◌, length, Option, Result, IfOk, IfErr, OnOk, MatchResult, Err, String, string_bytes}
use Rattle.std.specs.List.{All}
use Rattle.std.specs.Io.KnownBytes.{Appends, Consumes, IsAtEnd}
use Rattle.std.specs.Global.{Vec}
use Rattle.std.specs.declared.alloc.Global.{Global}
use Rattle.server_lines.specs.declared.device.CountedDevice.{CountedDevice}
use Rattle.server_lines.specs.declared.fault.ServeFault.{ServeFault}
use Rattle.server_lines.specs.declared.fault.ServeFault.TheVariants as fault
use Rattle.server_lines.specs.declared.fault.LineFault.{LineFault}
use Rattle.server_lines.specs.declared.fault.LineFault.TheVariants.{NoMemory, TraceFault}
use Rattle.server_lines.specs.Answering.{AnsweringOf, FrontOf, IsOutput, IsStopped, MayStop, WithAnswers}
use Rattle.server_lines.specs.Devices.{bound, CountsOf, DevicesOf, HasFault, IsFlushed, IsReadOut, IsSteady, IsStuck, counts_of, device_of}
use Rattle.server_lines.specs.Lines.{limit, ended, HasNoLineFeed, IsLine, IsLong, Splits, input_lines, last_of}
use Rattle.server_lines.specs.Output.{SendsBy, CutsBy, IsCut}

-- says what holds at each fault; workers aren't counted while lines are served
abbrev pub AtFault : ServeFault → Type 0 → Type 0 → Type 0 → (LineFault → Type 0) → Type 0
AtFault fault.LineTooLong long read write line = long
AtFault fault.ReadFault long read write line = read
AtFault fault.WriteFault long read write line = write
AtFault fault.NoMemory long read write line = line NoMemory
AtFault fault.BadCount long read write line = ⊥
AtFault fault.TraceFault long read write line = line TraceFault

-- the most bytes that are read at once
abbrev pub block_size : ℕ
block_size = 65536

-- Rest that was read behind the last line whose answer was sent: the front of a line, and no more than was read at once with its end.
-- So of the lines that ended before that, each answer was sent.
pub record IsUnanswered (rest : List ℕ) : Type 0 where
  pub front : List ℕ
  pub block : List ℕ
  pub whole : rest ≡ front ++ block
  pub one : HasNoLineFeed front
  pub few : length block ≤ block_size

-- a line that is too long is next
abbrev pub StartsLong : List ℕ → Type 0
StartsLong rest = (line : List ℕ) × (more : List ℕ) × IsLong rest line more

-- Whole lines stand at the front of the text. Their answers were sent at a fault, or a front of them where the writer failed; after them
-- comes a line that is too long, or no whole line where the reader failed, or where memory ran out or a trace couldn't be written no more
-- than was read at once. The state is what these lines left. Only where a last call stopped is it what that one left; the writer may have
-- failed then.
abbrev pub Stopped : {F : Type 0} → AnsweringOf F → F → F → List ℕ → (List ℕ → Type 0)
    → (List ℕ → Type 0) → (List ℕ → Type 0) → Type 0 → ServeFault → Type 0
Stopped A f g text Sent Cut Read AtEnd fault = (s : FrontOf A f text) × AtFault fault
    ((g ≡ s.state) × Sent s.output × StartsLong s.rest)
    ((g ≡ s.state) × Sent s.output × Read s.rest)
    (MayStop A s.state s.rest AtEnd g × Cut s.output)
    (λ e. IsStopped A e s.state s.rest AtEnd g × Sent s.output × IsUnanswered s.rest)

-- each line of the text was answered, and this many there were
pub record IsAnswered {F : Type 0} (A : AnsweringOf F) (f g : F) (text : List ℕ) (n : ℕ)
    (Sent : List ℕ → Type 0) : Type 0 where
  pub each : All IsLine (input_lines text)
  pub count : n ≡ length (input_lines text)
  pub output : List ℕ
  pub answers : IsOutput A f text output g
  pub sent : Sent output

-- the writer failed after the input was read to its end, where the last line may have no line feed
pub record FailsAtEnd {F : Type 0} (A : AnsweringOf F) (f g : F) (text : List ℕ)
    (Cut : List ℕ → Type 0) (remaining : Option (List ℕ)) : Type 0 where
  pub end : IsAtEnd remaining
  pub output : List ℕ
  pub answers : IsOutput A f text output g
  pub cut : Cut output

-- serving stopped at a fault
abbrev pub Fails : {F : Type 0} → AnsweringOf F → F → F → List ℕ
    → (List ℕ → Type 0) → (List ℕ → Type 0) → Option (List ℕ) → ServeFault → Type 0
Fails A f g text Sent Cut remaining fault =
    Stopped A f g text Sent Cut HasNoLineFeed (IsAtEnd remaining) fault
    ⊎ AtFault fault ⊥ ⊥ (FailsAtEnd A f g text Cut remaining) (λ _. ⊥)

-- The writer counted one fault where serving stopped at its fault, and none elsewhere.
abbrev pub WriterCounts : {T : Type 0} → CountsOf → CountsOf → Result T ServeFault → Type 0
WriterCounts old new result = MatchResult result (λ _. IsSteady old new)
    (λ fault. AtFault fault (IsSteady old new) (IsSteady old new) (HasFault IsStuck old new)
    (λ _. IsSteady old new))

-- The reader counted one fault where serving stopped at its fault, and none elsewhere, unless the writer failed after it.
abbrev pub ReaderCounts : {T : Type 0} → CountsOf → CountsOf → Result T ServeFault → Type 0
ReaderCounts old new result = MatchResult result (λ _. IsSteady old new)
    (λ fault. AtFault fault (IsSteady old new) (HasFault IsReadOut old new)
    (IsSteady old new ⊎ HasFault IsReadOut old new) (λ _. IsSteady old new))

-- All that was written was flushed, unless the writer failed.
abbrev pub WriterFlushed : {T : Type 0} → CountsOf → Result T ServeFault → Type 0
WriterFlushed counts result = MatchResult result (λ _. IsFlushed counts)
    (λ fault.
    AtFault fault (IsFlushed counts) (IsFlushed counts) (Unit {0}) (λ _. IsFlushed counts))

-- ---- lines and blocks, by a counted writer with what is pending before and later

-- a call gave an answer, and of it and its line feed this holds
abbrev pub IsGiven : Result (String Global) LineFault → (List ℕ → Type 0) → Type 0
IsGiven given P = MatchResult given (λ text. P (ended (string_bytes text))) (λ _. ⊥)

-- the writer failed in what was pending and the answer that a call gave, or the call gave a fault
abbrev pub FailsAnswer : {D : Type 0} → Result (String Global) LineFault → (D → Option (List ℕ))
    → CountedDevice D → Vec ℕ → CountedDevice D → Vec ℕ → ServeFault → Type 0
FailsAnswer given contents old pending new later fault =
    AtFault fault ⊥ ⊥ (IsGiven given (CutsBy contents old pending new))
    (λ e. (given ≡ Err e) × SendsBy contents old pending new later [])

-- the writer failed in what was pending and the answer of the last line, or a fault kept that from its answer
abbrev pub FailsLast : {F D : Type 0} → AnsweringOf F → F → F → Vec ℕ → (D → Option (List ℕ))
    → CountedDevice D → Vec ℕ → CountedDevice D → Vec ℕ → ServeFault → Type 0
FailsLast A f g last contents old pending new later fault =
    AtFault fault ⊥ ⊥ (WithAnswers A f (last_of last.items) g (CutsBy contents old pending new))
    (λ e. (last.items ≢ []) × A.stops e f last.items g
    × SendsBy contents old pending new later [])

-- the line is too long, or memory ran out before it was asked for
abbrev pub FailsWhole : List ℕ → ServeFault → Type 0
FailsWhole line fault =
    AtFault fault (limit < length line) ⊥ ⊥ (λ e. e ≡ NoMemory)

-- of what was held and the block this many lines end, their answers were sent, and the rest is held
abbrev pub Feeds : {F D : Type 0} → AnsweringOf F → F → F → Vec ℕ → List ℕ → Vec ℕ
    → (D → Option (List ℕ)) → CountedDevice D → Vec ℕ → CountedDevice D → Vec ℕ → ℕ → Type 0
Feeds A f g held block left contents old pending new later n =
    (lines : List (List ℕ)) × Splits (held.items ++ block) lines left.items
    × (n ≡ length lines) × WithAnswers A f lines g (SendsBy contents old pending new later)

-- the start of a line that is held, and a block that was read behind it
pub record IsNextBlock (held block : List ℕ) : Type 0 where
  pub line : IsLine held
  pub few : length block ≤ block_size

-- the block was fed: what is held now is the start of a line, and the block has no more lines than bytes
pub record FeedsBlock {F D : Type 0} (A : AnsweringOf F) (f g : F) (held : Vec ℕ) (block : List ℕ)
    (left : Vec ℕ) (contents : D → Option (List ℕ)) (old : CountedDevice D) (pending : Vec ℕ)
    (new : CountedDevice D) (later : Vec ℕ) (n : ℕ) : Type 0 where
  pub fed : Feeds A f g held block left contents old pending new later n
  pub line : IsLine left.items
  pub count : n ≤ length block

-- a fault among the lines of what was held and the block, which isn't the reader's
abbrev pub StopsFeeding : {F D : Type 0} → AnsweringOf F → F → F → Vec ℕ → List ℕ
    → (D → Option (List ℕ)) → CountedDevice D → Vec ℕ
    → CountedDevice D → Vec ℕ → ServeFault → Type 0
StopsFeeding A f g held block contents old pending new later =
    Stopped A f g (held.items ++ block) (SendsBy contents old pending new later)
    (CutsBy contents old pending new) (λ _. ⊥) ⊥

-- the last line was answered, where there is one, and n are it and the lines before
abbrev pub EndsAll : {F D : Type 0} → AnsweringOf F → F → F → Vec ℕ → ℕ
    → (D → Option (List ℕ)) → CountedDevice D → Vec ℕ → CountedDevice D → Vec ℕ → ℕ → Type 0
EndsAll A f g last before contents old pending new later n =
    (n ≡ before + length (last_of last.items))
    × WithAnswers A f (last_of last.items) g (SendsBy contents old pending new later)

-- Says how serving ends: the writer had failed, and is left as it is; or what was pending went out and was flushed; or the writer failed in that.
pub data EndsServing {D : Type 0} (contents : D → Option (List ℕ)) (old : CountedDevice D)
    (pending : Vec ℕ) (new : CountedDevice D) (served result : Result ℕ ServeFault) : Type 0 where
  had_failed : served ≡ Err fault.WriteFault → result ≡ served → new ≡ old
      → EndsServing contents old pending new served result
  closed : served ≢ Err fault.WriteFault → result ≡ served
      → Appends (contents (device_of old)) (contents (device_of new)) pending.items
      → IsFlushed (counts_of new) → IsSteady (counts_of old) (counts_of new)
      → EndsServing contents old pending new served result
  was_cut : served ≢ Err fault.WriteFault → result ≡ Err fault.WriteFault
      → IsCut (contents (device_of old)) (contents (device_of new)) pending.items
      → HasFault IsStuck (counts_of old) (counts_of new)
      → EndsServing contents old pending new served result

-- ---- the whole, from a counted reader to a counted writer

-- the input was read to its end, it has n lines, and each was answered
abbrev pub ReadsAll : {F : Type 0} → AnsweringOf F → F
    → F → DevicesOf → (List ℕ → Type 0) → ℕ → Type 0
ReadsAll A f g d Sent n = (text : List ℕ) × Consumes d.unread d.rest text
    × IsAtEnd d.rest × IsAnswered A f g text n Sent

-- a text was read, and serving it stopped at a fault
abbrev pub StopsAt : {F : Type 0} → AnsweringOf F → F → F
    → DevicesOf → (List ℕ → Type 0) → ServeFault → Type 0
StopsAt A f g d Sent fault = (text : List ℕ) × Consumes d.unread d.rest text
    × Fails A f g text Sent (IsCut d.old d.new) d.rest fault

-- all of the input was read, and what was written is the output of its lines; the number counts those lines
abbrev pub ServesAll : {F : Type 0} → AnsweringOf F → F → F → DevicesOf → ℕ → Type 0
ServesAll A f g d = ReadsAll A f g d (Appends d.old d.new)

-- after a fault the answers of the lines before it were written, or a front of them where the writer failed
abbrev pub StopsServing : {F : Type 0} → AnsweringOf F → F → F → DevicesOf → ServeFault → Type 0
StopsServing A f g d = StopsAt A f g d (Appends d.old d.new)

-- past a bound of the reader no input is served to its end
abbrev pub IsBounded : CountsOf → Type 0
IsBounded c = (c.calls ≤ bound) × (c.given < bound)

abbrev pub HasGrown : CountsOf → CountsOf → Type 0
HasGrown old new = (old.calls ≤ new.calls) × (old.given ≤ new.given)

-- Each line of the reader is answered by a line to the writer, and the states go from f to g.
pub record Serves {F : Type 0} (A : AnsweringOf F) (f g : F) (d : DevicesOf)
    (result : Result ℕ ServeFault) : Type 0 where
  pub all : IfOk result (ServesAll A f g d)
  pub stopped : IfErr result (StopsServing A f g d)
  pub reader : ReaderCounts d.reader_old d.reader_new result
  pub writer : WriterCounts d.writer_old d.writer_new result
  pub flushed : WriterFlushed d.writer_new result
  pub bounded : OnOk result (IsBounded d.reader_new)
  pub grown : HasGrown d.reader_old d.reader_new
