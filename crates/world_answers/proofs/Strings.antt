-- A text of UTF-8 is that of a string, where it isn't too long for one.
use Rattle.std.proofs.Common.{◌≡◌, ◌<◌, ◌≤◌, ◌^◌, ◌++◌, codes, ltb, true, ℕ, List, length, IsUtf8, refl, arith}
use Rattle.std.specs.Global.{Global}
use Rattle.std.specs.Prelude.{string_bytes}
use Rattle.std.specs.declared.string.String.{String}
use Rattle.std.proofs.lemmas.Bool.{ltb-true}
use Rattle.std.proofs.lemmas.Str.{IsUtf8-append}
use Rattle.std.proofs.lemmas.List.{length-append}
use Rattle.json.proofs.Printed.Utf8.{are_ascii, IsUtf8-are_ascii}
use Rattle.gq_parser.specs.Fault.{most_bytes}
use denote.RawPtr.{null_ptr}

-- a string says this
abbrev pub IsSaid : List ℕ → Type 0
IsSaid bs = (s : String Global) × (string_bytes s ≡ bs)

pub said : (bs : List ℕ) → length bs < 2 ^ 63 → IsUtf8 bs → IsSaid bs
said bs small utf8 = (record { bytes = record { ptr = null_ptr; len = length bs; cap = length bs; alloc = record { memory = record { seal = tt } }; items = bs; ok = (refl, omega arith); small = small }; ok = ∣ utf8 ∣₁ }, refl)

-- UTF-8, of at most `n` bytes
pub record Fits (n : ℕ) (s : List ℕ) : Type 0 where
  pub utf8 : IsUtf8 s
  pub short : length s ≤ n

pub said-fitting : {n : ℕ} {s : List ℕ} → n < 2 ^ 63 → Fits n s → IsSaid s
said-fitting {n} {s} small h = let short = h.short in said s (omega (arith, short, small)) h.utf8

-- a name of a text
pub said-name : {s : List ℕ} → Fits most_bytes s → IsSaid s
said-name h = said-fitting (omega arith) h

-- a word
pub said-word : (bs : List ℕ) → are_ascii bs ≡ true → ltb (length bs) (2 ^ 63) ≡ true → IsSaid bs
said-word bs all short = said bs (ltb-true (length bs) (2 ^ 63) short) (IsUtf8-are_ascii bs all)

-- a variable, with its `$`
pub said-variable : {n : List ℕ} → Fits most_bytes n → IsSaid (codes "$" ++ n)
said-variable {n} h =
    let short = h.short in
    let one : length (codes "$") ≡ 1 = refl in
    said (codes "$" ++ n) (omega (arith, short, length-append (codes "$") n, one)) (IsUtf8-append (codes "$") n (IsUtf8-are_ascii (codes "$") refl) h.utf8)
