-- Loads that are noted each once, and what they add to the wants.
use Rattle.std.proofs.Common.{◌≡◌, ◌&&◌, Bool, true, false, not, List, [], ◌∷◌, ◌++◌, filter, inl, inr, refl, sym, ap, ◌∙◌, subst, if◌then◌else◌, eqb-true, eq-eqb, append_assoc, append-nil}
use Rattle.std.specs.List.{list_any}
use Rattle.std.proofs.lemmas.Bool.{and_parts, or_cases, or_left, or_right}
use Rattle.std.proofs.lemmas.List.Folds.{list_any-append}
use Rattle.load_memory.specs.Keys.{same_key}
use Rattle.load_memory.specs.declared.key.KeyMode.{KeyMode}
use Rattle.load_memory.proofs.Looks.{same_key-is, same_key-refl}
use Rattle.load_queue.specs.Wanted.{WantedOf, with_wanted}
use Rattle.execution.specs.Loads.{Load, same}
use Rattle.execution.specs.Front.{firsts, wanting, modes_wanted}
use Rattle.execution.proofs.Same.{same-self}
use Rattle.execution.proofs.Wanting.{wanting-firsts}
use Rattle.gq_resolve.specs.Evaluated.{AddsPart}
use Rattle.gq_resolve.specs.Composing.{thinned-append}
use Rattle.gq_resolve.specs.Written.{is_load, with_load, thinned}
use Rattle.gq_resolve.proofs.Evaluating.{wanting-append}

-- ---- a list of loads

load-is : (a b : Load) → is_load a b ≡ true → a ≡ b
load-is a b h =
    let loader : a.loader ≡ b.loader = eqb-true a.loader b.loader (and_parts _ _ h).0 in
    let key : a.key ≡ b.key = same_key-is a.key b.key (and_parts _ _ h).1 in
    ap (λ n. let l : Load = record { loader = n; key = a.key } in l) loader ∙ ap (λ k. let l : Load = record { loader = b.loader; key = k } in l) key

-- those of the loads that go last
abbrev news : List Load → List Load → List Load
news noted [] = []
news noted (l ∷ ls) = if list_any (is_load l) noted then news noted ls else l ∷ news (noted ++ l ∷ []) ls

thinned-news : (noted ls : List Load) → thinned noted ls ≡ noted ++ news noted ls
thinned-news noted [] = sym (append-nil noted)
thinned-news noted (l ∷ ls) = go (list_any (is_load l) noted) (thinned-news noted ls) (thinned-news (noted ++ l ∷ []) ls)
  where
    go : (b : Bool) → thinned noted ls ≡ noted ++ news noted ls → thinned (noted ++ l ∷ []) ls ≡ (noted ++ l ∷ []) ++ news (noted ++ l ∷ []) ls
        → thinned (if b then noted else noted ++ l ∷ []) ls ≡ noted ++ (if b then news noted ls else l ∷ news (noted ++ l ∷ []) ls)
    go true old new = old
    go false old new = new ∙ append_assoc noted (l ∷ []) (news (noted ++ l ∷ []) ls)

-- the first of what goes last are what goes last of the first
news-part : (noted ls xs ys : List Load) → news noted ls ≡ xs ++ ys → (part left : List Load) × (ls ≡ part ++ left) × (news noted part ≡ xs)
news-part noted ls [] ys h = ([], ls, refl, refl)
news-part noted [] (x ∷ xs) ys h = absurd (cc h)
news-part noted (l ∷ ls) (x ∷ xs) ys h = go (list_any (is_load l) noted) refl h (news-part noted ls (x ∷ xs) ys) (news-part (noted ++ l ∷ []) ls xs ys)
  where
    HasPart : List Load → List Load → List Load → Type 0
    HasPart before all firsts = (part left : List Load) × (all ≡ part ++ left) × (news before part ≡ firsts)

    go : (b : Bool) → list_any (is_load l) noted ≡ b → (if b then news noted ls else l ∷ news (noted ++ l ∷ []) ls) ≡ x ∷ (xs ++ ys)
        → (news noted ls ≡ x ∷ (xs ++ ys) → HasPart noted ls (x ∷ xs)) → (news (noted ++ l ∷ []) ls ≡ xs ++ ys → HasPart (noted ++ l ∷ []) ls xs) → HasPart noted (l ∷ ls) (x ∷ xs)
    go true e f old new =
        let r = old f in
        (l ∷ r.0, r.1, ap (λ zs. l ∷ zs) r.2, rw e r.3)
    go false e f old new =
        let r = new (cc f) in
        let first : l ≡ x = cc f in
        (l ∷ r.0, r.1, ap (λ zs. l ∷ zs) r.2, rw e (ap (λ z. z ∷ news (noted ++ l ∷ []) r.0) first ∙ ap (λ zs. x ∷ zs) r.3))

pub thinned-none : (ls : List Load) → thinned [] ls ≡ [] → ls ≡ []
thinned-none [] h = refl
thinned-none (l ∷ ls) h = absurd (cc (sym (thinned-news [] (l ∷ ls)) ∙ h))

-- ---- a load that was noted

abbrev HasLoad : List Load → Load → Type 0
HasLoad noted l = list_any (is_load l) noted ≡ true

-- it stays noted
has-more : (noted ks : List Load) (l : Load) → HasLoad noted l → HasLoad (thinned noted ks) l
has-more noted ks l h = ap (list_any (is_load l)) (thinned-news noted ks) ∙ list_any-append (is_load l) noted (news noted ks) ∙ or_left (list_any (is_load l) noted) (list_any (is_load l) (news noted ks)) h

has-noted : (noted : List Load) (l : Load) → HasLoad (with_load noted l) l
has-noted noted l = go (list_any (is_load l) noted) refl
  where
    self : is_load l l ≡ true
    self = ap (λ b. b && same_key l.key l.key) (eq-eqb l.loader l.loader refl) ∙ same_key-refl l.key

    go : (b : Bool) → list_any (is_load l) noted ≡ b → HasLoad (if b then noted else noted ++ l ∷ []) l
    go true e = e
    go false e = list_any-append (is_load l) noted (l ∷ []) ∙ or_right (list_any (is_load l) noted) (list_any (is_load l) (l ∷ [])) (or_left (is_load l l) false self)

-- loads that were noted are noted once
pub noted-again : (noted ls ks : List Load) → thinned (thinned (thinned noted ls) ks) ls ≡ thinned (thinned noted ls) ks
noted-again noted [] ks = refl
noted-again noted (l ∷ ls) ks =
    let had : HasLoad (thinned (thinned (with_load noted l) ls) ks) l = has-more (thinned (with_load noted l) ls) ks l (has-more (with_load noted l) ls l (has-noted noted l)) in
    ap (λ b. thinned (if b then thinned (thinned (with_load noted l) ls) ks else thinned (thinned (with_load noted l) ls) ks ++ l ∷ []) ls) had ∙ noted-again (with_load noted l) ls ks

-- ---- wants

-- a load that they have adds nothing
abbrev Holds : List WantedOf → Load → Type 0
Holds ws l = with_wanted ws l.loader l.key ≡ ws

-- of two loads the second is dropped where it is like the first
dropped : (modes : List KeyMode) (l : Load) (b : Bool) → filter (λ m. not (same modes m l)) (if b then l ∷ [] else []) ≡ []
dropped modes l true = ap (λ b. if not b then l ∷ [] else []) (same-self modes l)
dropped modes l false = refl

holds-added : (ws : List WantedOf) (l : Load) → Holds (with_wanted ws l.loader l.key) l
holds-added ws l =
    let modes : List KeyMode = modes_wanted ws in
    sym (wanting-firsts modes ws (l ∷ l ∷ []) refl) ∙ ap (λ ls. wanting ws (l ∷ ls)) (dropped modes l true) ∙ wanting-firsts modes ws (l ∷ []) refl

holds-more : (ws : List WantedOf) (k l : Load) → Holds ws l → Holds (with_wanted ws k.loader k.key) l
holds-more ws k l h =
    let modes : List KeyMode = modes_wanted ws in
    let again : wanting ws (l ∷ k ∷ l ∷ []) ≡ wanting ws (l ∷ k ∷ []) =
    sym (wanting-firsts modes ws (l ∷ k ∷ l ∷ []) refl)
    ∙ ap (λ ls. wanting ws (l ∷ (if not (same modes k l) then k ∷ ls else ls))) (dropped modes l (not (same modes l k))) ∙ wanting-firsts modes ws (l ∷ k ∷ []) refl in
    subst (λ (vs : List WantedOf). wanting vs (k ∷ l ∷ []) ≡ wanting vs (k ∷ [])) h again

all-hold : (ws : List WantedOf) (ls : List Load) (l : Load) → Holds ws l → Holds (wanting ws ls) l
all-hold ws [] l h = h
all-hold ws (k ∷ ls) l h = all-hold (with_wanted ws k.loader k.key) ls l (holds-more ws k l h)

noted-holds : (ws : List WantedOf) (noted : List Load) (l : Load) → HasLoad noted l → Holds (wanting ws noted) l
noted-holds ws [] l h = absurd (cc h)
noted-holds ws (n ∷ noted) l h =
    let vs : List WantedOf = with_wanted ws n.loader n.key in
    let held : Holds (wanting vs noted) l = elim (or_cases (is_load l n) (list_any (is_load l) noted) h) [
      | inl e ↦ all-hold vs noted l (rw (load-is l n e) (holds-added ws n))
      | inr e ↦ noted-holds vs noted l e
    ] in
    held

-- a load that was noted adds nothing
wanting-with : (ws : List WantedOf) (noted : List Load) (l : Load) → wanting ws (with_load noted l) ≡ with_wanted (wanting ws noted) l.loader l.key
wanting-with ws noted l = go (list_any (is_load l) noted) refl
  where
    go : (b : Bool) → list_any (is_load l) noted ≡ b → wanting ws (if b then noted else noted ++ l ∷ []) ≡ with_wanted (wanting ws noted) l.loader l.key
    go true e = sym (noted-holds ws noted l e)
    go false e = wanting-append ws noted (l ∷ [])

wanting-more : (ws : List WantedOf) (noted ls : List Load) → wanting ws (thinned noted ls) ≡ wanting (wanting ws noted) ls
wanting-more ws noted [] = refl
wanting-more ws noted (l ∷ ls) = wanting-more ws (with_load noted l) ls ∙ ap (λ vs. wanting vs ls) (wanting-with ws noted l)

-- to add each load once is to add all
pub wanting-thinned : (ws : List WantedOf) (ls : List Load) → wanting ws (thinned [] ls) ≡ wanting ws ls
wanting-thinned ws ls = wanting-more ws [] ls

pub part-thinned : (old new : List WantedOf) (ls : List Load) → AddsPart old new (thinned [] ls) → AddsPart old new ls
part-thinned old new ls h =
    let r = news-part [] ls h.part h.left (sym (thinned-news [] ls) ∙ h.split) in
    record {
      part = r.0;
      left = r.1;
      split = r.2;
      added = h.added ∙ ap (wanting old) (sym (thinned-news [] r.0 ∙ r.3)) ∙ wanting-thinned old r.0;
    }

-- the first of some loads, each once, are the first of them all, each once
pub thinned-part : (old new : List WantedOf) (ls : List Load) → AddsPart old new ls → AddsPart old new (thinned [] ls)
thinned-part old new ls h = record {
  part = thinned [] h.part;
  left = news (thinned [] h.part) h.left;
  split = ap (thinned []) h.split ∙ thinned-append [] h.part h.left ∙ thinned-news (thinned [] h.part) h.left;
  added = h.added ∙ sym (wanting-thinned old h.part);
}
