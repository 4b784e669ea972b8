-- What is wanted of loaders, by the loader's number.
use Rattle.std.proofs.Common.{◌≡◌, ℕ, zero, suc, ◌<◌, true, false, List, [], ◌∷◌, ◌++◌, map, length, get_or, refl, ap, sym, ◌∙◌, arith}
use Rattle.std.proofs.Common.{◌≤◌}
use Rattle.std.proofs.lemmas.List.{length-map}
use Rattle.std.specs.Prelude.{slice_set}
use Rattle.load_memory.specs.Keys.{KeyOf}
use Rattle.load_memory.specs.declared.key.KeyMode.{KeyMode}
use Rattle.load_memory.specs.declared.key.KeyMode.TheVariants.{Exact}
use Rattle.load_queue.specs.Wanted.{WantedOf, nothing_wanted, wanted_in, is_wanted, with_key, mode_wanted, keys_wanted, is_key_wanted, with_wanted, taken_from}

pub with-new : (w : WantedOf) (key : KeyOf) → is_wanted w key ≡ false → with_key w key ≡ record { mode = w.mode; keys = w.keys ++ key ∷ [] }
with-new w key e = rw e refl

pub with-old : (w : WantedOf) (key : KeyOf) → is_wanted w key ≡ true → with_key w key ≡ w
with-old w key e = rw e refl

-- one loader's part
pub mode-at : (ws : List WantedOf) (i : ℕ) (w : WantedOf) → i < length ws → w ≡ get_or ws i w → mode_wanted ws i ≡ w.mode
mode-at [] i w lt e = absurd (omega arith)
mode-at (x ∷ ws) zero w lt e = ap (λ (v : WantedOf). v.mode) (sym e)
mode-at (x ∷ ws) (suc i) w lt e = mode-at ws i w (omega arith) e

pub keys-at : (ws : List WantedOf) (i : ℕ) (w : WantedOf) → i < length ws → w ≡ get_or ws i w → keys_wanted ws i ≡ w.keys
keys-at [] i w lt e = absurd (omega arith)
keys-at (x ∷ ws) zero w lt e = ap (λ (v : WantedOf). v.keys) (sym e)
keys-at (x ∷ ws) (suc i) w lt e = keys-at ws i w (omega arith) e

pub wanted-at : (ws : List WantedOf) (i : ℕ) (w : WantedOf) (key : KeyOf) → i < length ws → w ≡ get_or ws i w → is_key_wanted ws i key ≡ is_wanted w key
wanted-at [] i w key lt e = absurd (omega arith)
wanted-at (x ∷ ws) zero w key lt e = ap (λ (v : WantedOf). is_wanted v key) (sym e)
wanted-at (x ∷ ws) (suc i) w key lt e = wanted-at ws i w key (omega arith) e

pub with-at : (ws : List WantedOf) (i : ℕ) (w : WantedOf) (key : KeyOf) → i < length ws → w ≡ get_or ws i w → with_wanted ws i key ≡ slice_set ws i (with_key w key)
with-at [] i w key lt e = absurd (omega arith)
with-at (x ∷ ws) zero w key lt e = ap (λ (v : WantedOf). with_key v key ∷ ws) (sym e)
with-at (x ∷ ws) (suc i) w key lt e = ap (λ vs. x ∷ vs) (with-at ws i w key (omega arith) e)

pub taken-at : (ws : List WantedOf) (i : ℕ) (w : WantedOf) → i < length ws → w ≡ get_or ws i w → taken_from ws i ≡ slice_set ws i (nothing_wanted w.mode)
taken-at [] i w lt e = absurd (omega arith)
taken-at (x ∷ ws) zero w lt e = ap (λ (v : WantedOf). nothing_wanted v.mode ∷ ws) (sym e)
taken-at (x ∷ ws) (suc i) w lt e = ap (λ vs. x ∷ vs) (taken-at ws i w (omega arith) e)

pub length-taken : (ws : List WantedOf) (i : ℕ) → length (taken_from ws i) ≡ length ws
length-taken [] i = refl
length-taken (x ∷ ws) zero = refl
length-taken (x ∷ ws) (suc i) = ap suc (length-taken ws i)

-- the keys of the loaders after it stay
pub taken-other : (ws : List WantedOf) (i j : ℕ) → i < j → keys_wanted (taken_from ws i) j ≡ keys_wanted ws j
taken-other [] i j lt = refl
taken-other (x ∷ ws) i zero lt = absurd (omega arith)
taken-other (x ∷ ws) zero (suc j) lt = refl
taken-other (x ∷ ws) (suc i) (suc j) lt = taken-other ws i j (omega arith)

-- loaders without lists
pub length-in : (ws : List WantedOf) (modes : List KeyMode) → length (wanted_in ws modes) ≡ length modes
length-in [] modes = length-map modes nothing_wanted
length-in (w ∷ ws) [] = refl
length-in (w ∷ ws) (m ∷ modes) = ap suc (length-in ws modes)

pub more-in : (ws : List WantedOf) (modes : List KeyMode) (other : KeyMode) → length ws < length modes → wanted_in (ws ++ nothing_wanted (get_or modes (length ws) other) ∷ []) modes ≡ wanted_in ws modes
more-in [] [] other lt = absurd (omega arith)
more-in [] (m ∷ modes) other lt = refl
more-in (w ∷ ws) [] other lt = absurd (omega arith)
more-in (w ∷ ws) (m ∷ modes) other lt = ap (λ vs. w ∷ vs) (more-in ws modes other (omega arith))

pub none-keys : (modes : List KeyMode) (i : ℕ) → keys_wanted (map nothing_wanted modes) i ≡ []
none-keys [] i = refl
none-keys (m ∷ modes) zero = refl
none-keys (m ∷ modes) (suc i) = none-keys modes i

pub none-taken : (modes : List KeyMode) (i : ℕ) → taken_from (map nothing_wanted modes) i ≡ map nothing_wanted modes
none-taken [] i = refl
none-taken (m ∷ modes) zero = refl
none-taken (m ∷ modes) (suc i) = ap (λ vs. nothing_wanted m ∷ vs) (none-taken modes i)

pub none-mode : (modes : List KeyMode) (i : ℕ) (m : KeyMode) → i < length modes → m ≡ get_or modes i m → mode_wanted (map nothing_wanted modes) i ≡ m
none-mode [] i m lt e = absurd (omega arith)
none-mode (x ∷ modes) zero m lt e = sym e
none-mode (x ∷ modes) (suc i) m lt e = none-mode modes i m (omega arith) e

-- past the lists nothing is wanted
pub past-mode : (ws : List WantedOf) (modes : List KeyMode) (i : ℕ) (m : KeyMode) → length ws ≤ i → i < length modes → m ≡ get_or modes i m → mode_wanted (wanted_in ws modes) i ≡ m
past-mode [] modes i m le lt e = none-mode modes i m lt e
past-mode (w ∷ ws) [] i m le lt e = absurd (omega arith)
past-mode (w ∷ ws) (x ∷ modes) zero m le lt e = absurd (omega arith)
past-mode (w ∷ ws) (x ∷ modes) (suc i) m le lt e = past-mode ws modes i m (omega arith) (omega arith) e

pub past-keys : (ws : List WantedOf) (modes : List KeyMode) (i : ℕ) → length ws ≤ i → keys_wanted (wanted_in ws modes) i ≡ []
past-keys [] modes i le = none-keys modes i
past-keys (w ∷ ws) [] i le = refl
past-keys (w ∷ ws) (m ∷ modes) zero le = absurd (omega arith)
past-keys (w ∷ ws) (m ∷ modes) (suc i) le = past-keys ws modes i (omega arith)

pub past-taken : (ws : List WantedOf) (modes : List KeyMode) (i : ℕ) → length ws ≤ i → taken_from (wanted_in ws modes) i ≡ wanted_in ws modes
past-taken [] modes i le = none-taken modes i
past-taken (w ∷ ws) [] i le = refl
past-taken (w ∷ ws) (m ∷ modes) zero le = absurd (omega arith)
past-taken (w ∷ ws) (m ∷ modes) (suc i) le = ap (λ vs. w ∷ vs) (past-taken ws modes i (omega arith))

-- a loader with a list
pub mode-in : (ws : List WantedOf) (modes : List KeyMode) (i : ℕ) → i < length ws → i < length modes → mode_wanted (wanted_in ws modes) i ≡ mode_wanted ws i
mode-in [] modes i lt inside = absurd (omega arith)
mode-in (w ∷ ws) [] i lt inside = absurd (omega arith)
mode-in (w ∷ ws) (m ∷ modes) zero lt inside = refl
mode-in (w ∷ ws) (m ∷ modes) (suc i) lt inside = mode-in ws modes i (omega arith) (omega arith)

pub keys-in : (ws : List WantedOf) (modes : List KeyMode) (i : ℕ) → i < length ws → i < length modes → keys_wanted (wanted_in ws modes) i ≡ keys_wanted ws i
keys-in [] modes i lt inside = absurd (omega arith)
keys-in (w ∷ ws) [] i lt inside = absurd (omega arith)
keys-in (w ∷ ws) (m ∷ modes) zero lt inside = refl
keys-in (w ∷ ws) (m ∷ modes) (suc i) lt inside = keys-in ws modes i (omega arith) (omega arith)

pub is-in : (ws : List WantedOf) (modes : List KeyMode) (i : ℕ) (key : KeyOf) → i < length ws → i < length modes → is_key_wanted (wanted_in ws modes) i key ≡ is_key_wanted ws i key
is-in [] modes i key lt inside = absurd (omega arith)
is-in (w ∷ ws) [] i key lt inside = absurd (omega arith)
is-in (w ∷ ws) (m ∷ modes) zero key lt inside = refl
is-in (w ∷ ws) (m ∷ modes) (suc i) key lt inside = is-in ws modes i key (omega arith) (omega arith)

pub with-in : (ws : List WantedOf) (modes : List KeyMode) (i : ℕ) (key : KeyOf) → i < length ws → i < length modes → with_wanted (wanted_in ws modes) i key ≡ wanted_in (with_wanted ws i key) modes
with-in [] modes i key lt inside = absurd (omega arith)
with-in (w ∷ ws) [] i key lt inside = absurd (omega arith)
with-in (w ∷ ws) (m ∷ modes) zero key lt inside = refl
with-in (w ∷ ws) (m ∷ modes) (suc i) key lt inside = ap (λ vs. w ∷ vs) (with-in ws modes i key (omega arith) (omega arith))

pub taken-in : (ws : List WantedOf) (modes : List KeyMode) (i : ℕ) → i < length ws → i < length modes → taken_from (wanted_in ws modes) i ≡ wanted_in (taken_from ws i) modes
taken-in [] modes i lt inside = absurd (omega arith)
taken-in (w ∷ ws) [] i lt inside = absurd (omega arith)
taken-in (w ∷ ws) (m ∷ modes) zero lt inside = refl
taken-in (w ∷ ws) (m ∷ modes) (suc i) lt inside = ap (λ vs. w ∷ vs) (taken-in ws modes i (omega arith) (omega arith))

-- where nothing is wanted of the loaders with lists, nothing is wanted
pub none-in : (ws : List WantedOf) (modes : List KeyMode) → length ws ≤ length modes → ((k : ℕ) (other : WantedOf) → k < length ws → get_or ws k other ≡ nothing_wanted (get_or modes k Exact)) → wanted_in ws modes ≡ map nothing_wanted modes
none-in [] modes le none = refl
none-in (w ∷ ws) [] le none = absurd (omega (arith, le))
none-in (w ∷ ws) (m ∷ modes) le none =
    ap (λ v. v ∷ wanted_in ws modes) (none zero w (omega arith))
    ∙ ap (λ vs. nothing_wanted m ∷ vs) (none-in ws modes (omega (arith, le)) (λ k other lt. none (suc k) other (omega (arith, lt))))
