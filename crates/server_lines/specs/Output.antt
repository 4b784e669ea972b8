-- Definitions of how texts are written out.
use Rattle.std.specs.Prelude.{◌≡◌, ℕ, List, ◌++◌, Option}
use Rattle.std.specs.Io.KnownBytes.{Appends}
use Rattle.std.specs.Global.{Vec}
use Rattle.server_lines.specs.declared.device.CountedDevice.{CountedDevice}
use Rattle.server_lines.specs.Devices.{device_of}

-- `gone` went out of what was pending and the text behind it, and the rest is pending later
pub record SendsSome (old new : Option (List ℕ)) (pending later text gone : List ℕ) : Type 0 where
  pub went : Appends old new gone
  pub left : gone ++ later ≡ pending ++ text

-- the text was sent, or is pending
abbrev pub Sends : Option (List ℕ) → List ℕ → Option (List ℕ) → List ℕ → List ℕ → Type 0
Sends old pending new later text = (gone : List ℕ) × SendsSome old new pending later text gone

-- a front of the text went out
pub record Cuts (old new : Option (List ℕ)) (text out rest : List ℕ) : Type 0 where
  pub front : text ≡ out ++ rest
  pub went : Appends old new out

abbrev pub IsCut : Option (List ℕ) → Option (List ℕ) → List ℕ → Type 0
IsCut old new text = (out : List ℕ) × (rest : List ℕ) × Cuts old new text out rest

-- ---- the same of a counted writer, whose contents a function says

-- the pending text and this text were sent, or are pending later
abbrev pub SendsBy : {D : Type 0} → (D → Option (List ℕ))
    → CountedDevice D → Vec ℕ → CountedDevice D → Vec ℕ → List ℕ → Type 0
SendsBy contents old pending new later text =
    Sends (contents (device_of old)) pending.items (contents (device_of new)) later.items text

-- a front of what was pending and the text went out
abbrev pub CutsBy : {D : Type 0} → (D → Option (List ℕ))
    → CountedDevice D → Vec ℕ → CountedDevice D → List ℕ → Type 0
CutsBy contents old pending new text =
    IsCut (contents (device_of old)) (contents (device_of new)) (pending.items ++ text)
