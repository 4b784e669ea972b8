-- Steps on the known bytes of readers and writers.
use Rattle.std.proofs.lemmas.List.{take_rest, take-append-drop}
use Rattle.std.proofs.Common.{inl, inr, ◌⊎◌, subst, ◌-◌, drop, ◌≡◌, ℕ, List, [], ◌++◌, length, take, refl, sym, ap, ◌∙◌, append_assoc, append-nil, Some, None}
use Rattle.std.specs.Prelude.{Option}
use Rattle.std.specs.Io.KnownBytes.{Appends, Consumes}
use Rattle.server_lines.specs.Devices.{CountsOf, IsSteady, HasFault, counted}
use Rattle.server_lines.specs.Output.{Sends, IsCut}

pub appends_none : (a : Option (List ℕ)) → Appends a a []
appends_none None = tt
appends_none (Some xs) = sym (append-nil xs)

pub appends_trans : (a b c : Option (List ℕ)) (xs ys : List ℕ) → Appends a b xs → Appends b c ys → Appends a c (xs ++ ys)
appends_trans None b c xs ys h k = tt
appends_trans (Some ws) None c xs ys h k = absurd h
appends_trans (Some ws) (Some bs) None xs ys h k = absurd k
appends_trans (Some ws) (Some bs) (Some cs) xs ys h k = k ∙ ap (λ l. l ++ ys) h ∙ append_assoc ws xs ys

pub consumes_none : (a : Option (List ℕ)) → Consumes a a []
consumes_none None = tt
consumes_none (Some xs) = refl

pub consumes_trans : (a b c : Option (List ℕ)) (xs ys : List ℕ) → Consumes a b xs → Consumes b c ys → Consumes a c (xs ++ ys)
consumes_trans None b c xs ys h k = tt
consumes_trans (Some ws) None c xs ys h k = absurd h
consumes_trans (Some ws) (Some bs) None xs ys h k = absurd k
consumes_trans (Some ws) (Some bs) (Some cs) xs ys h k = h ∙ ap (λ l. xs ++ l) k ∙ sym (append_assoc xs ys cs)

pub same_text : (a b : Option (List ℕ)) (xs ys : List ℕ) → Appends a b xs → xs ≡ ys → Appends a b ys
same_text a b xs ys h e = subst (λ t. Appends a b t) e h

-- a front, and then a front of what is left
pub cut_after : (a b c : Option (List ℕ)) (xs ys : List ℕ) → Appends a b xs → IsCut b c ys → IsCut a c (xs ++ ys)
cut_after a b c xs ys h (out, rest, k) = (
  xs ++ out,
  rest,
  record {
    front = ap (λ l. xs ++ l) k.front ∙ sym (append_assoc xs out rest);
    went = appends_trans a b c xs out h k.went;
  },
)

-- and more text behind it
pub cut_before : (a b : Option (List ℕ)) (xs ys : List ℕ) → IsCut a b xs → IsCut a b (xs ++ ys)
cut_before a b xs ys (out, rest, k) = (
  out,
  rest ++ ys,
  record {
    front = ap (λ l. l ++ ys) k.front ∙ append_assoc out rest ys;
    went = k.went;
  },
)

pub cut_same : (a b : Option (List ℕ)) (xs ys : List ℕ) → IsCut a b xs → xs ≡ ys → IsCut a b ys
cut_same a b xs ys h e = subst (λ t. IsCut a b t) e h

pub sends_none : (a : Option (List ℕ)) (p : List ℕ) → Sends a p a p []
sends_none a p = ([], record { went = appends_none a; left = sym (append-nil p) })

pub sends_trans : (a b c : Option (List ℕ)) (p q r xs ys : List ℕ) → Sends a p b q xs → Sends b q c r ys → Sends a p c r (xs ++ ys)
sends_trans a b c p q r xs ys (g, h) (k, i) = (
  g ++ k,
  record {
    went = appends_trans a b c g k h.went i.went;
    left = append_assoc g k r ∙ ap (λ l. g ++ l) i.left ∙ sym (append_assoc g q ys) ∙ ap (λ l. l ++ ys) h.left ∙ append_assoc p xs ys;
  },
)

pub sends_same : (a b : Option (List ℕ)) (p q xs ys : List ℕ) → Sends a p b q xs → xs ≡ ys → Sends a p b q ys
sends_same a b p q xs ys h e = subst (λ t. Sends a p b q t) e h

pub cut_sends : (a b c : Option (List ℕ)) (p q xs ys : List ℕ) → Sends a p b q xs → IsCut b c (q ++ ys) → IsCut a c (p ++ (xs ++ ys))
cut_sends a b c p q xs ys (g, h) k =
    cut_same a c (g ++ (q ++ ys)) (p ++ (xs ++ ys)) (cut_after a b c g (q ++ ys) h.went k)
    (sym (append_assoc g q ys) ∙ ap (λ l. l ++ ys) h.left ∙ append_assoc p xs ys)

pub sends_kept : (a : Option (List ℕ)) (p q text : List ℕ) → q ≡ p ++ text → Sends a p a q text
sends_kept a p q text e = ([], record { went = appends_none a; left = e })

-- the pending text went out, and then the text
pub sends_whole : (a b c : Option (List ℕ)) (p q r text : List ℕ) → p ≡ q → r ≡ [] → Appends a b q → Appends b c text → Sends a p c r text
sends_whole a b c p q r text e n h k = (
  p ++ text,
  record {
    went = appends_trans a b c p text (same_text a b q p h (sym e)) k;
    left = ap (λ l. (p ++ text) ++ l) n ∙ append-nil (p ++ text);
  },
)

pub cut_whole_then : (a b c : Option (List ℕ)) (p q text : List ℕ) → p ≡ q → Appends a b q → IsCut b c text → IsCut a c (p ++ text)
cut_whole_then a b c p q text e h k = cut_after a b c p text (same_text a b q p h (sym e)) k

pub cut_pending : (a b : Option (List ℕ)) (p q text : List ℕ) → p ≡ q → IsCut a b q → IsCut a b (p ++ text)
cut_pending a b p q text e h = cut_before a b p text (cut_same a b q p h (sym e))

pub ruleset using_known = (sends_kept, sends_whole, cut_whole_then, cut_pending)

pub wrote_more : (bytes out rest : List ℕ) (n : ℕ) → bytes ≡ out ++ rest → bytes ≡ (out ++ take n rest) ++ take (length rest - n) (drop n rest)
wrote_more bytes out rest n e =
    e ∙ ap (λ l. out ++ l) (sym (take-append-drop n rest)) ∙ sym (append_assoc out (take n rest) (drop n rest))
    ∙ ap (λ l. (out ++ take n rest) ++ l) (sym (take_rest rest n))

-- ---- what a device has counted

pub steady_same : (a : CountsOf) → IsSteady a a
steady_same a = record { faults = refl; failed = refl }

pub steady_trans : {a b c : CountsOf} → IsSteady a b → IsSteady b c → IsSteady a c
steady_trans h k = record { faults = k.faults ∙ h.faults; failed = k.failed ∙ h.failed }

pub fault_after : (IsMet : CountsOf → Type 0) {a b c : CountsOf} → IsSteady a b → HasFault IsMet b c → HasFault IsMet a c
fault_after IsMet {a} {b} {c} h k = record { one = k.one ∙ ap counted h.faults; due = due k.due }
  where
    due : (c.failed ≡ counted b.failed) ⊎ ((c.failed ≡ b.failed) × IsMet c) → (c.failed ≡ counted a.failed) ⊎ ((c.failed ≡ a.failed) × IsMet c)
    due (inl e) = inl (e ∙ ap counted h.failed)
    due (inr (e, met)) = inr (e ∙ h.failed, met)

-- a front of the text went out, or the whole text and a front of more
pub cut_first : (a b : Option (List ℕ)) (p xs ys : List ℕ) → IsCut a b (p ++ xs) → IsCut a b (p ++ (xs ++ ys))
cut_first a b p xs ys h = cut_same a b ((p ++ xs) ++ ys) (p ++ (xs ++ ys)) (cut_before a b (p ++ xs) ys h) (append_assoc p xs ys)
