-- Lemmas on what the logs gain by steps, and which cells are asked so.
use Rattle.std.proofs.Common.{◌≡◌, ◌==◌, ℕ, zero, suc, ◌+◌, Bool, true, false, List, [], ◌∷◌, ◌++◌, map, length, drop, inl, inr, ◌⊎◌, sym, ◌∙◌, ap, refl, Option, Some, None, if◌then◌else◌, arith, append_assoc, eqb-true, ◌<◌}
use Rattle.std.proofs.lemmas.List.{append-nil, map-append}
use Rattle.std.specs.Prelude.{slice_get}
use Rattle.std.specs.List.{filter}
use Rattle.load_memory.specs.Keys.{KeyOf}
use Rattle.load_memory.specs.Replies.{ReplyOf}
use Rattle.load_memory.specs.declared.key.KeyMode.{KeyMode}
use Rattle.load_queue.specs.Answers.{AnswerOf}
use Rattle.load_queue.specs.Batches.{batches, joined}
use Rattle.load_queue.specs.Loaders.{LoaderOf, AskedOf}
use Rattle.load_queue.specs.Orders.{OrderOf, order_of}
use Rattle.load_queue.proofs.PieceLaws.{are-batches}
use Rattle.execution.specs.Loads.{Load, Memory, read, IsOneOf}
use Rattle.execution.specs.Front.{keys_for, missing}
use Rattle.execution.specs.Rounds.{rule_of, orders_from, round_orders, AreLimited}
use Rattle.execution.specs.Sessions.{Cell, key_cell, cell_of, AreApart, order_cells, Step, AskedLoads, Lost, Restarted, AreMissing}
use Rattle.execution.proofs.Same.{one-left, one-right, one-either}
use Rattle.execution.proofs.ReplyLaws.{firsts-apart}
use Rattle.load_rounds.specs.Sessions.{StateOf, rules_of, entry, logged_from, after_step, after_steps}
use Rattle.load_rounds.specs.Histories.{entered_cells, log_in, log_of, gained, stored_gained, Leads}
use Rattle.load_rounds.proofs.Stepping.{steps-rules}

drop-length : {X : Type 0} (xs ys : List X) → drop (length xs) (xs ++ ys) ≡ ys
drop-length [] ys = refl
drop-length (x ∷ xs) ys = drop-length xs ys

filter-append : {X : Type 0} (f : X → Bool) (xs ys : List X) → filter f (xs ++ ys) ≡ filter f xs ++ filter f ys
filter-append f [] ys = refl
filter-append f (x ∷ xs) ys = go (f x) (filter-append f xs ys) where
  go : (b : Bool) → filter f (xs ++ ys) ≡ filter f xs ++ filter f ys → (if b then x ∷ filter f (xs ++ ys) else filter f (xs ++ ys)) ≡ (if b then x ∷ filter f xs else filter f xs) ++ filter f ys
  go true e = ap (λ zs. x ∷ zs) e
  go false e = e

-- the stored ones of some entries
abbrev pub of_stored : List AskedOf → List AskedOf
of_stored es = filter (λ e. e.stored) es

all-stored : (round : ℕ) (ps : List (List KeyOf)) → of_stored (map (entry true round) ps) ≡ map (entry true round) ps
all-stored round [] = refl
all-stored round (p ∷ ps) = ap (λ es. entry true round p ∷ es) (all-stored round ps)

none-stored : (round : ℕ) (ps : List (List KeyOf)) → of_stored (map (entry false round) ps) ≡ []
none-stored round [] = refl
none-stored round (p ∷ ps) = none-stored round ps

module _ (modes : List KeyMode) where
  entered-append : (n : ℕ) (xs ys : List AskedOf) → entered_cells modes n (xs ++ ys) ≡ entered_cells modes n xs ++ entered_cells modes n ys
  entered-append n [] ys = refl
  entered-append n (x ∷ xs) ys = ap (λ cs. map (key_cell modes n) x.keys ++ cs) (entered-append n xs ys) ∙ sym (append_assoc (map (key_cell modes n) x.keys) (entered_cells modes n xs) (entered_cells modes n ys))

  entered-pieces : (n round : ℕ) (ps : List (List KeyOf)) → entered_cells modes n (map (entry true round) ps) ≡ map (key_cell modes n) (joined ps)
  entered-pieces n round [] = refl
  entered-pieces n round (p ∷ ps) = ap (λ cs. map (key_cell modes n) p ++ cs) (entered-pieces n round ps) ∙ sym (map-append (key_cell modes n) p (joined ps))

  order-append : (xs ys : List OrderOf) → order_cells modes (xs ++ ys) ≡ order_cells modes xs ++ order_cells modes ys
  order-append [] ys = refl
  order-append (x ∷ xs) ys = ap (λ cs. map (key_cell modes x.loader) x.keys ++ cs) (order-append xs ys) ∙ sym (append_assoc (map (key_cell modes x.loader) x.keys) (order_cells modes xs) (order_cells modes ys))

  order-pieces : (n : ℕ) (ps : List (List KeyOf)) → order_cells modes (map (order_of n) ps) ≡ map (key_cell modes n) (joined ps)
  order-pieces n [] = refl
  order-pieces n (p ∷ ps) = ap (λ cs. map (key_cell modes n) p ++ cs) (order-pieces n ps) ∙ sym (map-append (key_cell modes n) p (joined ps))

  keys-in : (n : ℕ) (ls : List Load) (c : Cell) → IsOneOf c (map (key_cell modes n) (keys_for n ls)) → IsOneOf c (map (cell_of modes) ls)
  keys-in n [] c h = h
  keys-in n (l ∷ ls) c h = go (l.loader == n) refl h (keys-in n ls c) where
    go : (b : Bool) → (l.loader == n) ≡ b → IsOneOf c (map (key_cell modes n) (if b then l.key ∷ keys_for n ls else keys_for n ls)) → (IsOneOf c (map (key_cell modes n) (keys_for n ls)) → IsOneOf c (map (cell_of modes) ls)) → IsOneOf c (map (cell_of modes) (l ∷ ls))
    go true e (inl same) more = inl (same ∙ ap (λ m. key_cell modes m l.key) (sym (eqb-true l.loader n e)))
    go true e (inr k) more = inr (more k)
    go false e k more = inr (more k)

  -- the keys of one loader are apart where the loads are
  keys-apart : (n : ℕ) (ls : List Load) → AreApart (map (cell_of modes) ls) → AreApart (map (key_cell modes n) (keys_for n ls))
  keys-apart n [] h = tt
  keys-apart n (l ∷ ls) h = go (l.loader == n) refl (keys-apart n ls h.1) where
    go : (b : Bool) → (l.loader == n) ≡ b → AreApart (map (key_cell modes n) (keys_for n ls)) → AreApart (map (key_cell modes n) (if b then l.key ∷ keys_for n ls else keys_for n ls))
    go true e ih = (λ one. h.0 (keys-in n ls (cell_of modes l) (let same : cell_of modes l ≡ key_cell modes n l.key = ap (λ m. key_cell modes m l.key) (eqb-true l.loader n e) in rw same one)), ih)
    go false e ih = ih

-- the step leaves the entries of the logs
abbrev pub GoesOn : Step → Type 0
GoesOn Restarted = ⊥
GoesOn step = Unit {0}

abbrev pub AllGoOn : List Step → Type 0
AllGoOn [] = Unit {0}
AllGoOn (step ∷ steps) = GoesOn step × AllGoOn steps

module _ {S : Type 0} where
  -- the entries that a loader's log gains by a step
  abbrev new_entries : Option (LoaderOf S) → Bool → ℕ → List KeyOf → List AskedOf
  new_entries None stored round keys = []
  new_entries (Some l) stored round keys = map (entry stored round) (batches l.limit keys)

  abbrev step_entries : StateOf S → ℕ → Step → List AskedOf
  step_entries s n (AskedLoads loads replies) = new_entries (slice_get s.loaders n) true (s.rounds + 1) (keys_for n loads)
  step_entries s n (Lost loads) = new_entries (slice_get s.loaders n) false (s.rounds + 1) (keys_for n loads)
  step_entries s n step = []

  abbrev all_entries : StateOf S → ℕ → List Step → List AskedOf
  all_entries s n [] = []
  all_entries s n (step ∷ steps) = step_entries s n step ++ all_entries (after_step s step) n steps

  logged-at : (n i m : ℕ) (stored : Bool) (round : ℕ) (keys : ℕ → List KeyOf) (ls : List (LoaderOf S)) → m ≡ n + i
      → log_in (slice_get (logged_from n stored round keys ls) i) ≡ log_in (slice_get ls i) ++ new_entries (slice_get ls i) stored round (keys m)
  logged-at n i m stored round keys [] e = refl
  logged-at n zero m stored round keys (l ∷ ls) e = let same : n ≡ m = omega (arith, e) in ap (λ k. l.log ++ map (entry stored round) (batches l.limit (keys k))) same
  logged-at n (suc i) m stored round keys (l ∷ ls) e = logged-at (suc n) i m stored round keys ls (omega (arith, e))

  step-log : (s : StateOf S) (n : ℕ) (step : Step) → GoesOn step → log_of (after_step s step) n ≡ log_of s n ++ step_entries s n step
  step-log s n (AskedLoads loads replies) on = logged-at 0 n n true (s.rounds + 1) (λ m. keys_for m loads) s.loaders (omega arith)
  step-log s n (Lost loads) on = logged-at 0 n n false (s.rounds + 1) (λ m. keys_for m loads) s.loaders (omega arith)
  step-log s n Restarted on = absurd on
  step-log s n step on = sym (append-nil (log_of s n))

  steps-log : (s : StateOf S) (n : ℕ) (steps : List Step) → AllGoOn steps → log_of (after_steps s steps) n ≡ log_of s n ++ all_entries s n steps
  steps-log s n [] on = sym (append-nil (log_of s n))
  steps-log s n (step ∷ steps) on =
      steps-log (after_step s step) n steps on.1 ∙ ap (λ es. es ++ all_entries (after_step s step) n steps) (step-log s n step on.0) ∙ append_assoc (log_of s n) (step_entries s n step) (all_entries (after_step s step) n steps)

  gained-entries : (may : S → List KeyOf → AnswerOf → Type 0) (old new : StateOf S) (n : ℕ) (steps : List Step) → AllGoOn steps → Leads may old steps new → gained n old new ≡ all_entries old n steps
  gained-entries may old new n steps on h =
      let log : log_of new n ≡ log_of old n ++ all_entries old n steps = ap (λ (s : StateOf S). log_of s n) h.after ∙ steps-log old n steps on in
      ap (λ es. drop (length (log_of old n)) es) log ∙ drop-length (log_of old n) (all_entries old n steps)

module _ {S : Type 0} (modes : List KeyMode) (n : ℕ) where
  -- the cells of a step's stored entries, and of those of all steps
  abbrev pub step_cells : StateOf S → Step → List Cell
  step_cells s step = entered_cells modes n (of_stored (step_entries s n step))

  abbrev pub all_cells : StateOf S → List Step → List Cell
  all_cells s [] = []
  all_cells s (step ∷ steps) = step_cells s step ++ all_cells (after_step s step) steps

  cells-are : (s : StateOf S) (steps : List Step) → entered_cells modes n (of_stored (all_entries s n steps)) ≡ all_cells s steps
  cells-are s [] = refl
  cells-are s (step ∷ steps) =
      ap (entered_cells modes n) (filter-append (λ (e : AskedOf). e.stored) (step_entries s n step) (all_entries (after_step s step) n steps))
      ∙ entered-append modes n (of_stored (step_entries s n step)) (of_stored (all_entries (after_step s step) n steps))
      ∙ ap (λ cs. step_cells s step ++ cs) (cells-are (after_step s step) steps)

  pub gained-cells : (may : S → List KeyOf → AnswerOf → Type 0) (old new : StateOf S) (steps : List Step) → AllGoOn steps → Leads may old steps new → entered_cells modes n (stored_gained n old new) ≡ all_cells old steps
  gained-cells may old new steps on h = ap (λ es. entered_cells modes n (of_stored es)) (gained-entries may old new n steps on h) ∙ cells-are old steps

  limited-at : (ls : List (LoaderOf S)) (i : ℕ) (l : LoaderOf S) → AreLimited (map rule_of ls) → slice_get ls i ≡ Some l → (k : ℕ) → l.limit ≡ Some k → 0 < k
  limited-at [] i l h e = absurd (cc e)
  limited-at (x ∷ xs) zero l h e = let same : x ≡ l = cc e in rw same at h.0
  limited-at (x ∷ xs) (suc i) l h e = limited-at xs i l h.1 e

  -- the cells that a loader is asked of some loads, if it is there
  abbrev loader_cells : Option (LoaderOf S) → List Load → List Cell
  loader_cells None loads = []
  loader_cells (Some l) loads = map (key_cell modes n) (keys_for n loads)

  asked-cells : (s : StateOf S) (loads : List Load) (replies : List ReplyOf) → AreLimited (rules_of s) → step_cells s (AskedLoads loads replies) ≡ loader_cells (slice_get s.loaders n) loads
  asked-cells s loads replies limited = go (slice_get s.loaders n) refl where
    go : (x : Option (LoaderOf S)) → slice_get s.loaders n ≡ x → entered_cells modes n (of_stored (new_entries x true (s.rounds + 1) (keys_for n loads))) ≡ loader_cells x loads
    go None e = refl
    go (Some l) e =
        let ps = batches l.limit (keys_for n loads) in
        ap (entered_cells modes n) (all-stored (s.rounds + 1) ps) ∙ entered-pieces modes n (s.rounds + 1) ps ∙ ap (map (key_cell modes n)) (are-batches l.limit (keys_for n loads) (limited-at s.loaders n l limited e)).in_order

  pub lost-cells : (s : StateOf S) (loads : List Load) → step_cells s (Lost loads) ≡ []
  lost-cells s loads = go (slice_get s.loaders n) where
    go : (x : Option (LoaderOf S)) → entered_cells modes n (of_stored (new_entries x false (s.rounds + 1) (keys_for n loads))) ≡ []
    go None = refl
    go (Some l) = ap (entered_cells modes n) (none-stored (s.rounds + 1) (batches l.limit (keys_for n loads)))

  -- says what one round asks of a loader is apart
  pub asked-apart : (s : StateOf S) (loads : List Load) (replies : List ReplyOf) (M : Memory) → AreLimited (rules_of s) → AreMissing modes M loads → AreApart (step_cells s (AskedLoads loads replies))
  asked-apart s loads replies M limited lacks = rw (asked-cells s loads replies limited) (go (slice_get s.loaders n)) where
    go : (x : Option (LoaderOf S)) → AreApart (loader_cells x loads)
    go None = tt
    go (Some l) = keys-apart modes n loads (rw lacks.1 (firsts-apart modes (missing (read modes M) lacks.0)))

  in-orders : (m i : ℕ) (ls : List (LoaderOf S)) (l : LoaderOf S) (loads : List Load) (c : Cell) → AreLimited (map rule_of ls) → n ≡ m + i → slice_get ls i ≡ Some l
      → IsOneOf c (map (key_cell modes n) (keys_for n loads)) → IsOneOf c (order_cells modes (orders_from m (map rule_of ls) loads))
  in-orders m i [] l loads c limited e at one = absurd (cc at)
  in-orders m zero (x ∷ xs) l loads c limited e at one =
      let own : n ≡ m = omega (arith, e) in
      let ps = batches x.limit (keys_for m loads) in
      let keys : joined ps ≡ keys_for m loads = (are-batches x.limit (keys_for m loads) limited.0).in_order in
      let here : IsOneOf c (map (key_cell modes m) (keys_for m loads)) = rw own at one in
      rw (order-append modes (map (order_of m) ps) (orders_from (suc m) (map rule_of xs) loads), order-pieces modes m ps, keys) (one-left c (map (key_cell modes m) (keys_for m loads)) (order_cells modes (orders_from (suc m) (map rule_of xs) loads)) here)
  in-orders m (suc i) (x ∷ xs) l loads c limited e at one =
      let ps = batches x.limit (keys_for m loads) in
      let later = in-orders (suc m) i xs l loads c limited.1 (omega (arith, e)) at one in
      rw (order-append modes (map (order_of m) ps) (orders_from (suc m) (map rule_of xs) loads)) (one-right c (order_cells modes (map (order_of m) ps)) (order_cells modes (orders_from (suc m) (map rule_of xs) loads)) later)

  pub asked-orders : (s : StateOf S) (loads : List Load) (replies : List ReplyOf) (c : Cell) → AreLimited (rules_of s) → IsOneOf c (step_cells s (AskedLoads loads replies)) → IsOneOf c (order_cells modes (round_orders (rules_of s) loads))
  asked-orders s loads replies c limited one = go (slice_get s.loaders n) refl (rw (asked-cells s loads replies limited) at one) where
    go : (x : Option (LoaderOf S)) → slice_get s.loaders n ≡ x → IsOneOf c (loader_cells x loads) → IsOneOf c (order_cells modes (round_orders (rules_of s) loads))
    go None e h = absurd h
    go (Some l) e h = in-orders 0 n s.loaders l loads c limited (omega arith) e h

  pub lost-none : (s : StateOf S) (loads : List Load) (c : Cell) → IsOneOf c (step_cells s (Lost loads)) → ⊥
  lost-none s loads c one = let none = rw (lost-cells s loads) at one in none

  -- a stored entry that asks a cell is of a step that asked it
  pub record AskedIn (s : StateOf S) (steps : List Step) (c : Cell) : Type 0 where
    pub before : List Step
    pub loads : List Load
    pub replies : List ReplyOf
    pub rest : List Step
    pub is : steps ≡ before ++ AskedLoads loads replies ∷ rest
    pub ordered : IsOneOf c (order_cells modes (round_orders (rules_of s) loads))

  pub asked-in : (s : StateOf S) (steps : List Step) (c : Cell) → AreLimited (rules_of s) → IsOneOf c (all_cells s steps) → AskedIn s steps c
  asked-in s [] c limited one = absurd one
  asked-in s (step ∷ steps) c limited one =
      go step (one-either c (step_cells s step) (all_cells (after_step s step) steps) one)
      (λ i. asked-in (after_step s step) steps c (rw (steps-rules s (step ∷ [])) limited) i) (steps-rules s (step ∷ []))
    where
      later : (step : Step) → AskedIn (after_step s step) steps c → rules_of (after_step s step) ≡ rules_of s → AskedIn s (step ∷ steps) c
      later step h same = record { before = step ∷ h.before; loads = h.loads; replies = h.replies; rest = h.rest; is = ap (λ xs. step ∷ xs) h.is; ordered = rw same at h.ordered }

      go : (step : Step) → IsOneOf c (step_cells s step) ⊎ IsOneOf c (all_cells (after_step s step) steps) → (IsOneOf c (all_cells (after_step s step) steps) → AskedIn (after_step s step) steps c) → rules_of (after_step s step) ≡ rules_of s → AskedIn s (step ∷ steps) c
      go step (inr i) more same = later step (more i) same
      go (AskedLoads loads replies) (inl i) more same = record { before = []; loads = loads; replies = replies; rest = steps; is = refl; ordered = asked-orders s loads replies c limited i }
      go (Lost loads) (inl i) more same = absurd (lost-none s loads c i)
      go step (inl i) more same = absurd i
