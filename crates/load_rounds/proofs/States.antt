-- The state of a session after its fields were changed.
use Rattle.std.proofs.Common.{◌≡◌, ℕ, ◌<◌, ◌≤◌, ◌+◌, Bool, true, false, List, [], ◌∷◌, map, length, refl, ap, ◌∙◌, sym, arith, Some, Result, Ok, Err}
use Rattle.std.proofs.Math.Path.{fun_ext}
use Rattle.std.proofs.lemmas.List.{length-map}
use Rattle.std.proofs.lemmas.List.Elements.{All-nil, All-cons}
use Rattle.std.specs.Prelude.{All, slice_get, nat_lt, if◌then◌else◌, OnErr}
use Rattle.load_memory.specs.Keys.{KeyOf, folded, mode_at}
use Rattle.load_memory.specs.Pairs.{MemoryOf, look, IsSameMap}
use Rattle.load_memory.specs.declared.key.KeyMode.{KeyMode}
use Rattle.load_memory.proofs.ReplyPairs.{mode-at}
use Rattle.load_queue.specs.Loaders.{LoaderOf, AskedOf, unasked}
use Rattle.execution.specs.Loads.{Load, Memory}
use Rattle.execution.specs.Front.{keys_for}
use Rattle.execution.specs.Rounds.{rule_of, modes_of, round_orders, stored}
use Rattle.execution.specs.Sessions.{Lost}
use Rattle.load_rounds.specs.Sessions.{StateOf, logged_from, made, after_step, of_first, AreNumbered, IsSession}
use Rattle.load_rounds.specs.Rounds.{orders_by, first_keys, Enters}
use Rattle.load_rounds.proofs.Cutting.{rules-logged, logged-same, logged-past, orders-same, orders-past}
use Rattle.load_rounds.proofs.Numbering.{enters-numbered, orders-loads, keys-first}

pub cached : (modes own : List KeyMode) (loader : ℕ) (mode : KeyMode) (k key : KeyOf) → own ≡ modes → slice_get own loader ≡ Some mode → k ≡ folded mode key → k ≡ folded (mode_at modes loader) key
cached modes own loader mode k key same at is = rw (mode-at modes loader mode (rw same at at)) is

-- two memories that say the same
pub same-memory : (M N : Memory) → ((loader : ℕ) (key : KeyOf) → M loader key ≡ N loader key) → M ≡ N
same-memory M N same = fun_ext (λ loader. fun_ext (λ key. same loader key))

module _ {S : Type 0} where
  abbrev pub state : List (LoaderOf S) → Memory → ℕ → StateOf S
  state loaders memory rounds = record { loaders = loaders; memory = memory; rounds = rounds }

  pub state-is : (ls others : List (LoaderOf S)) (M N : Memory) (r s : ℕ) → ls ≡ others → M ≡ N → r ≡ s → state ls M r ≡ state others N s
  state-is ls others M N r s a b c = rw (a, b, c) refl

  pub rules-unasked : (ls : List (LoaderOf S)) → map rule_of (map unasked ls) ≡ map rule_of ls
  rules-unasked [] = refl
  rules-unasked (l ∷ ls) = ap (λ rs. rule_of l ∷ rs) (rules-unasked ls)

  numbered-unasked : (rounds : ℕ) (ls : List (LoaderOf S)) → AreNumbered rounds (map unasked ls)
  numbered-unasked rounds [] = All-nil (λ (l : LoaderOf S). All (λ (a : AskedOf). a.round ≤ rounds) l.log)
  numbered-unasked rounds (l ∷ ls) =
      All-cons (λ (l : LoaderOf S). All (λ (a : AskedOf). a.round ≤ rounds) l.log) (unasked l) (map unasked ls) (All-nil (λ (a : AskedOf). a.round ≤ rounds)) (numbered-unasked rounds ls)

  -- the fields once the session started again
  pub restarted-session : (rounds after : ℕ) (old new : List (LoaderOf S)) (memory later : MemoryOf) → IsSession old memory rounds → later.modes ≡ memory.modes → new ≡ map unasked old → IsSession new later after
  restarted-session rounds after old new memory later is same again =
      let rules : map rule_of new ≡ map rule_of old = ap (map rule_of) again ∙ rules-unasked old in
      record {
        modes = same ∙ is.modes ∙ ap modes_of (sym rules);
        limited = rw rules is.limited;
        numbered = rw again (numbered-unasked after old);
      }

  -- the fields after something was entered
  pub entered-session : (round before after : ℕ) (keys : ℕ → List KeyOf) (old new : List (LoaderOf S)) (memory later : MemoryOf) → round ≡ before + 1 → IsSession old memory before → Enters round keys old new before after → later.modes ≡ memory.modes → IsSession new later after
  entered-session round before after keys old new memory later next is h same =
      let rules : map rule_of new ≡ map rule_of old = ap (map rule_of) h.loaders ∙ rules-logged false round 0 keys old in
      record {
        modes = same ∙ is.modes ∙ ap modes_of (sym rules);
        limited = rw rules is.limited;
        numbered = enters-numbered round before after keys old new next h is.numbered;
      }

  module _ (keys : ℕ → List KeyOf) (loads : List Load) (old : List (LoaderOf S)) (wanted : (m : ℕ) → m < length old → keys m ≡ keys_for m loads) where
    pub wanted-orders : orders_by 0 (map rule_of old) keys ≡ round_orders (map rule_of old) loads
    wanted-orders = orders-same 0 keys (λ m. keys_for m loads) (map rule_of old) (λ m le lt. wanted m (omega (arith, lt, length-map old rule_of))) ∙ orders-loads 0 (map rule_of old) loads

    pub wanted-logged : (stored : Bool) (round : ℕ) → logged_from 0 stored round keys old ≡ logged_from 0 stored round (λ m. keys_for m loads) old
    wanted-logged stored round = logged-same stored round 0 keys (λ m. keys_for m loads) old (λ m le lt. wanted m (omega (arith, lt)))

    first-wanted : (n m : ℕ) → m < length old → first_keys n keys m ≡ keys_for m (of_first n loads)
    first-wanted n m lt = go (nat_lt m n) refl ∙ sym (keys-first n m loads) where
      go : (b : Bool) → nat_lt m n ≡ b → (if b then keys m else []) ≡ (if b then keys_for m loads else [])
      go true e = wanted m lt
      go false e = refl

    -- the round was lost, with the batches of the first loaders entered
    pub state-lost : (round before after n : ℕ) (cut : List (LoaderOf S)) (memory later : MemoryOf) → round ≡ before + 1 → Enters round (first_keys n keys) old cut before after → IsSameMap later.pairs memory.pairs
        → state cut (look later.pairs) after ≡ after_step (state old (look memory.pairs) before) (Lost (of_first n loads))
    state-lost round before after n cut memory later next h same =
        let keys-same = logged-same false round 0 (first_keys n keys) (λ m. keys_for m (of_first n loads)) old (λ m le lt. first-wanted n m (omega (arith, lt))) in
        let orders = orders-same 0 (first_keys n keys) (λ m. keys_for m (of_first n loads)) (map rule_of old) (λ m le lt. first-wanted n m (omega (arith, lt, length-map old rule_of))) ∙ orders-loads 0 (map rule_of old) (of_first n loads) in
        state-is cut (logged_from 0 false (before + 1) (λ m. keys_for m (of_first n loads)) old) (look later.pairs) (look memory.pairs) after (before + made (round_orders (map rule_of old) (of_first n loads)))
        (h.loaders ∙ keys-same ∙ ap (λ i. logged_from 0 false i (λ m. keys_for m (of_first n loads)) old) next)
        (same-memory (look later.pairs) (look memory.pairs) same)
        (h.rounds ∙ ap (λ os. before + made os) orders)

  -- nothing was entered
  pub enters-nothing : (round before : ℕ) (keys : ℕ → List KeyOf) (old : List (LoaderOf S)) → Enters round (first_keys 0 keys) old old before before
  enters-nothing round before keys old = record {
    loaders = sym (logged-past false round 0 0 keys old (omega arith));
    rounds = rw (orders-past 0 0 keys (map rule_of old) (omega arith)) (omega arith);
  }

pub on-err : {T E P : Type 0} (r : Result T E) → P → OnErr r P
on-err (Ok x) h = tt
on-err (Err e) h = h
