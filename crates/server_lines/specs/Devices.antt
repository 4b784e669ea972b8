-- Definitions of what is seen of a counted device, and how its faults are counted.
use Rattle.std.specs.Prelude.{◌≡◌, ◌<◌, ◌≤◌, ◌+◌, ◌-◌, ◌^◌, ◌⊎◌, ℕ, List, min, Bool, true, Option, Result, Ok, Err, MatchResult}
use Rattle.server_lines.specs.declared.calls.DeviceCalls.{DeviceCalls}
use Rattle.server_lines.specs.declared.calls.CallFault.{CallFault}
use Rattle.server_lines.specs.declared.calls.CallFault.TheVariants.{Interrupted, Failed}
use Rattle.server_lines.specs.declared.device.CountedDevice.{CountedDevice}

abbrev pub device_of : {D : Type 0} → CountedDevice D → D
device_of c = c.called.device

-- the faults so far
abbrev pub faults_of : {D : Type 0} → CountedDevice D → ℕ
faults_of c = c.faults

-- gives how often a device was called
abbrev pub calls_of : {D : Type 0} → CountedDevice D → ℕ
calls_of c = c.called.calls

-- gives how many bytes a reader gave
abbrev pub given_of : {D : Type 0} → CountedDevice D → ℕ
given_of c = c.called.given

-- a reader gives no more bytes and is called no more often, and no device is interrupted more often in a row
abbrev pub bound : ℕ
bound = 1099511627776

-- a count of `n` and `more`, up to the greatest count
abbrev pub counted_with : ℕ → ℕ → ℕ
counted_with n more = min (n + more) (2 ^ 64 - 1)

-- one fault more
abbrev pub counted : ℕ → ℕ
counted n = counted_with n 1

-- ---- one call of a device

-- the bytes that a call gave or took are counted
abbrev pub given_after : Result ℕ CallFault → ℕ → ℕ
given_after (Ok n) given = counted_with given n
given_after (Err fault) given = given

-- a call that failed is counted
abbrev pub failed_after : Result ℕ CallFault → ℕ → ℕ
failed_after (Ok n) failed = failed
failed_after (Err Interrupted) failed = failed
failed_after (Err Failed) failed = counted failed

-- an interruption is counted with those right before it
abbrev pub interrupted_after : Result ℕ CallFault → ℕ → ℕ
interrupted_after (Ok n) interrupted = 0
interrupted_after (Err Interrupted) interrupted = counted interrupted
interrupted_after (Err Failed) interrupted = 0

-- one call was counted, and what came of it
pub record CountsCall {D : Type 0} (old new : DeviceCalls D)
    (outcome : Result ℕ CallFault) : Type 0 where
  pub calls : new.calls ≡ counted old.calls
  pub given : new.given ≡ given_after outcome old.given
  pub failed : new.failed ≡ failed_after outcome old.failed
  pub interrupted : new.interrupted ≡ interrupted_after outcome old.interrupted

-- gives what came of a flush: it takes no bytes, and has failed also where it was interrupted
abbrev pub flushed : {T : Type 0} → Result T CallFault → Result ℕ CallFault
flushed (Ok x) = Ok 0
flushed (Err fault) = Err Failed

-- ---- the faults of a counted device

-- says what a device has counted: its faults, the calls of it and the bytes that they gave, those that failed, and the interruptions in a
-- row; and whether nothing was written since the last flush that went well
pub record CountsOf : Type 0 where
  pub faults : ℕ
  pub calls : ℕ
  pub given : ℕ
  pub failed : ℕ
  pub interrupted : ℕ
  pub flushed : Bool

abbrev pub counts_of : {D : Type 0} → CountedDevice D → CountsOf
counts_of c = record {
  faults = c.faults;
  calls = c.called.calls;
  given = c.called.given;
  failed = c.called.failed;
  interrupted = c.called.interrupted;
  flushed = c.called.flushed;
}

-- a device has counted nothing yet
abbrev pub nothing_counted : CountsOf
nothing_counted =
    record { faults = 0; calls = 0; given = 0; failed = 0; interrupted = 0; flushed = true }

-- a reader met a bound, and is called no more
abbrev pub IsReadOut : CountsOf → Type 0
IsReadOut c = (bound ≤ c.calls) ⊎ (bound ≤ c.given)

-- a writer met a bound
abbrev pub IsStuck : CountsOf → Type 0
IsStuck c = bound ≤ c.interrupted

-- a writer was flushed after all that was written to it
abbrev pub IsFlushed : CountsOf → Type 0
IsFlushed c = c.flushed ≡ true

-- no fault was counted, and no call failed
pub record IsSteady (old new : CountsOf) : Type 0 where
  pub faults : new.faults ≡ old.faults
  pub failed : new.failed ≡ old.failed

-- one fault was counted; it is of a call that failed, or of a bound that was met
pub record HasFault (IsMet : CountsOf → Type 0) (old new : CountsOf) : Type 0 where
  pub one : new.faults ≡ counted old.faults
  pub due : (new.failed ≡ counted old.failed) ⊎ ((new.failed ≡ old.failed) × IsMet new)

-- one fault was counted where the call failed
abbrev pub CountsFaults : {T E : Type 0} → (CountsOf → Type 0)
    → CountsOf → CountsOf → Result T E → Type 0
CountsFaults IsMet old new result =
    MatchResult result (λ _. IsSteady old new) (λ _. HasFault IsMet old new)

-- says what a call of a reader that gave n bytes counts: it was within the bounds
pub record CountsRead {D : Type 0} (old new : CountedDevice D) (n : ℕ) : Type 0 where
  pub called : calls_of old < calls_of new
  pub calls : calls_of new ≤ bound
  pub room : given_of old < bound
  pub given : given_of new ≡ given_of old + n

-- a call that gave nothing
pub record CountsNone {D : Type 0} (old new : CountedDevice D) : Type 0 where
  pub called : calls_of old ≤ calls_of new
  pub given : given_of new ≡ given_of old

-- ---- a reader and a writer, before and after

-- the rest of a reader and the text of a writer, as far as these devices tell it, and what they have counted
pub record DevicesOf : Type 0 where
  pub unread : Option (List ℕ)
  pub rest : Option (List ℕ)
  pub old : Option (List ℕ)
  pub new : Option (List ℕ)
  pub reader_old : CountsOf
  pub reader_new : CountsOf
  pub writer_old : CountsOf
  pub writer_new : CountsOf

abbrev pub devices : {R W : Type 0} → (R → Option (List ℕ)) → (W → Option (List ℕ))
    → CountedDevice R → CountedDevice R → CountedDevice W → CountedDevice W → DevicesOf
devices remaining contents unread rest old new = record {
  unread = remaining (device_of unread);
  rest = remaining (device_of rest);
  old = contents (device_of old);
  new = contents (device_of new);
  reader_old = counts_of unread;
  reader_new = counts_of rest;
  writer_old = counts_of old;
  writer_new = counts_of new;
}
