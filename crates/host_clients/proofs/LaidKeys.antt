-- Lemmas on the texts of keys that a host lays out, and on why they are refused.
use Rattle.std.proofs.Common.{◌≡◌, ◌≢◌, ◌∙◌, ◌<◌, ◌≤◌, ◌+◌, ℕ, List, [], ◌∷◌, get_or, take, length, sym, ap, subst, arith, Ok, Err, All, zero-add}
use Rattle.std.specs.Prelude.{Result, IfErr, IsErrAnd, sum}
use Rattle.std.proofs.lemmas.List.{take_more, take_all}
use Rattle.std.proofs.lemmas.List.Elements.{All-append, All-cons, All-nil}
use Rattle.std.proofs.lemmas.List.Sums.{sum_by-append}
use Rattle.load_memory.specs.Cells.{cut}
use Rattle.load_memory.proofs.CellLaws.{length-cut}
use Rattle.host_clients.specs.Laid.{AreKeyTexts, AreKeys, AreKeysTo, AreTexts, KeyFault, KeysFault, LaidKeys, ShapeFault, TextsOf}
use Rattle.host_clients.specs.declared.fault.Fault.{Fault}
use Rattle.host_clients.specs.declared.fault.Fault.TheVariants as fault

-- there are as many texts as ends
pub as-many-ends : (t : TextsOf) (texts : List (List ℕ)) (n : ℕ) → texts ≡ cut t.bytes 0 t.ends → n ≡ length texts → n ≡ length t.ends
as-many-ends t texts n are is = is ∙ ap length are ∙ length-cut t.bytes 0 t.ends

-- ---- a key

pub key-texts : (width : ℕ) (t : TextsOf) → AreTexts t → (n : ℕ) → n ≡ length t.ends → n ≡ width → AreKeyTexts width t
key-texts width t are n is fit = record { texts = are; fit = sym is ∙ fit }

pub key-misfit : (width : ℕ) (t : TextsOf) → AreTexts t → (n : ℕ) → n ≡ length t.ends → n ≢ width → KeyFault width t fault.BadKey
key-misfit width t are n is other = (are, λ same. other (is ∙ same))

-- memory ran out
pub key-no-memory : {T : Type 0} (width : ℕ) (t : TextsOf) → AreKeyTexts width t → (r : Result T Fault) → IsErrAnd r (λ f. f ≡ fault.NoMemory) → IfErr r (KeyFault width t)
key-no-memory width t are (Ok x) is = tt
key-no-memory width t are (Err e) is = subst (KeyFault width t) (sym is) are

-- ---- keys of a loader

abbrev fit_in : ℕ → List ℕ → Type 0
fit_in width ns = All (λ n. n ≡ width) ns

module _ (shapes : List ℕ) (i : ℕ) (lt : i < length shapes) where
  pub fit-next : (width : ℕ) → fit_in width (take i shapes) → get_or shapes i 0 ≡ width → fit_in width (take (i + 1) shapes)
  fit-next width fit is =
      rw (take_more shapes i 0 lt)
      (All-append (λ n. n ≡ width) (take i shapes) (get_or shapes i 0 ∷ []) fit (All-cons (λ n. n ≡ width) (get_or shapes i 0) [] is (All-nil (λ n. n ≡ width))))

  pub sum-next : (at : ℕ) → at ≡ sum (take i shapes) → at + get_or shapes i 0 ≡ sum (take (i + 1) shapes)
  sum-next at is =
      let n = get_or shapes i 0 in
      ap (λ m. m + n) is ∙ sym (ap sum (take_more shapes i 0 lt) ∙ sum_by-append (λ x. x) (take i shapes) (n ∷ []) ∙ ap (λ m. sum (take i shapes) + m) (zero-add n))

module _ (width : ℕ) (k : LaidKeys) (are : AreTexts k.texts) (i at texts : ℕ) (fit : fit_in width (take i k.shapes)) (so : at ≡ sum (take i k.shapes)) (many : texts ≡ length k.texts.ends) where
  keys-to : at ≤ texts → AreKeysTo width k i
  keys-to within = record { texts = are; fit = fit; enough = omega (arith, so, many, within) }

  -- a key has a fault
  pub shape-fault : at ≤ texts → i < length k.shapes → (e : Fault) → ShapeFault width (get_or k.shapes i 0) texts at e → KeysFault width k e
  shape-fault within lt fault.BadKey s = (i, keys-to within, lt, s)
  shape-fault within lt fault.TooFewTexts s = (i, keys-to within, lt, omega (arith, so, many, s))
  shape-fault within lt fault.NoMemory s = are
  shape-fault within lt e s = absurd s

  -- all keys were read
  fit-all : length k.shapes ≤ i → fit_in width k.shapes
  fit-all past = subst (fit_in width) (take_all i k.shapes past) fit

  sum-all : length k.shapes ≤ i → at ≡ sum k.shapes
  sum-all past = so ∙ ap sum (take_all i k.shapes past)

  pub texts-left : length k.shapes ≤ i → at < texts → KeysFault width k fault.TextsLeft
  texts-left past lt = let all = sum-all past in (are, fit-all past, omega (arith, all, many, lt))

  pub keys-all : length k.shapes ≤ i → at ≤ texts → texts ≤ at → AreKeys width k
  keys-all past within le = let all = sum-all past in record { texts = are; fit = fit-all past; all = omega (arith, all, many, within, le) }
