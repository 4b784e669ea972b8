-- The pairs of replies.
use Rattle.std.proofs.Common.{◌≡◌, ℕ, zero, suc, ◌<◌, List, [], ◌∷◌, ◌++◌, map, refl, ap, ◌∙◌, sym, append_assoc, Some}
use Rattle.std.specs.Prelude.{All, slice_get}
use Rattle.std.proofs.lemmas.List.Elements.{All-nil, All-cons, All-head, All-tail, All-append}
use Rattle.load_memory.specs.Keys.{KeyOf, mode_at}
use Rattle.load_memory.specs.Outcomes.{OutcomeOf}
use Rattle.load_memory.specs.Pairs.{PairOf}
use Rattle.load_memory.specs.Replies.{ReplyOf, reply_pairs, pairs_of}
use Rattle.load_memory.specs.declared.key.KeyMode.{KeyMode}

pub mode-at : (modes : List KeyMode) (loader : ℕ) (mode : KeyMode) → slice_get modes loader ≡ Some mode → mode_at modes loader ≡ mode
mode-at [] loader mode e = absurd (cc e)
mode-at (m ∷ modes) zero mode e = cc e
mode-at (m ∷ modes) (suc loader) mode e = mode-at modes loader mode e

pub pairs_of-append : (modes : List KeyMode) (rs more : List ReplyOf) → pairs_of modes (rs ++ more) ≡ pairs_of modes rs ++ pairs_of modes more
pairs_of-append modes [] more = refl
pairs_of-append modes (r ∷ rs) more =
    ap (λ ps. reply_pairs (mode_at modes r.loader) r.loader r.keys r.outcomes ++ ps) (pairs_of-append modes rs more)
    ∙ sym (append_assoc (reply_pairs (mode_at modes r.loader) r.loader r.keys r.outcomes) (pairs_of modes rs) (pairs_of modes more))

own-below : (mode : KeyMode) (n loader : ℕ) (keys : List KeyOf) (outcomes : List OutcomeOf) → loader < n → All (λ (p : PairOf). p.loader < n) (reply_pairs mode loader keys outcomes)
own-below mode n loader [] outcomes lt = All-nil (λ (p : PairOf). p.loader < n)
own-below mode n loader (k ∷ ks) [] lt = All-nil (λ (p : PairOf). p.loader < n)
own-below mode n loader (k ∷ ks) (o ∷ os) lt = All-cons (λ (p : PairOf). p.loader < n) _ (reply_pairs mode loader ks os) lt (own-below mode n loader ks os lt)

-- each pair is of the loader of its reply
pub pairs-below : (modes : List KeyMode) (n : ℕ) (rs : List ReplyOf) → All (λ (r : ReplyOf). r.loader < n) rs → All (λ (p : PairOf). p.loader < n) (pairs_of modes rs)
pairs-below modes n [] below = All-nil (λ (p : PairOf). p.loader < n)
pairs-below modes n (r ∷ rs) below =
    All-append (λ (p : PairOf). p.loader < n) (reply_pairs (mode_at modes r.loader) r.loader r.keys r.outcomes) (pairs_of modes rs)
    (own-below (mode_at modes r.loader) n r.loader r.keys r.outcomes (All-head (λ (r : ReplyOf). r.loader < n) r rs below))
    (pairs-below modes n rs (All-tail (λ (r : ReplyOf). r.loader < n) r rs below))

-- a property of each image is one of each element, and the other way
pub All-of_map : {A B : Type 0} (f : A → B) (P : B → Type 0) (xs : List A) → All P (map f xs) → All (λ x. P (f x)) xs
All-of_map f P [] h = All-nil (λ x. P (f x))
All-of_map f P (x ∷ xs) h = All-cons (λ x. P (f x)) x xs (All-head P (f x) (map f xs) h) (All-of_map f P xs (All-tail P (f x) (map f xs) h))

pub All-to_map : {A B : Type 0} (f : A → B) (P : B → Type 0) (xs : List A) → All (λ x. P (f x)) xs → All P (map f xs)
All-to_map f P [] h = All-nil P
All-to_map f P (x ∷ xs) h = All-cons P (f x) (map f xs) (All-head (λ x. P (f x)) x xs h) (All-to_map f P xs (All-tail (λ x. P (f x)) x xs h))
