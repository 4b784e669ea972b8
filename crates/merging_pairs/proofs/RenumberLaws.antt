-- Laws of fields under one numbering holds of them under another.
use Rattle.std.proofs.Common.{◌≡◌, ◌∙◌, sym, ap, subst, refl, ℕ, ◌<◌, Bool, true, false, ◌==◌, List, [], ◌∷◌, map, inl, inr, ◌⊎◌}
use Rattle.std.proofs.lemmas.Bool.{or_cases, or_left, or_right, both_ways, eqb-true, eq-eqb}
use Rattle.merging_pairs.specs.Merging.{Fields, IsPair, joined, SameShape, same, CanMerge, merges, Merges}
use Rattle.merging_pairs.specs.Numbered.{is_in}
use Rattle.merging_pairs.specs.Renumbered.{IsRenumbered}
use Rattle.merging_pairs.specs.Table.{Tells}

-- the fields of D that are known are asked the same as their images in E
record IsImage (D E : Fields ℕ) (Known : ℕ → Type 0) (f : ℕ → ℕ) : Type 0 where
  one_key : (a b : ℕ) → Known a → Known b → E.one_key (f a) (f b) ≡ D.one_key a b
  alike : (a b : ℕ) → Known a → Known b → E.alike (f a) (f b) ≡ D.alike a b
  meet : (a b : ℕ) → Known a → Known b → E.meet (f a) (f b) ≡ D.meet a b
  agree : (a b : ℕ) → Known a → Known b → E.agree (f a) (f b) ≡ D.agree a b
  apart : (a b : ℕ) → Known a → Known b → f a ≡ f b → a ≡ b
  within : (a c : ℕ) → Known a → D.enters a c ≡ true → Known c
  enters : (a c : ℕ) → Known a → D.enters a c ≡ true → E.enters (f a) (f c) ≡ true

module _ (D E : Fields ℕ) (Known : ℕ → Type 0) (f : ℕ → ℕ) (image : IsImage D E Known f) where
  record PairImage (ms : ℕ → Bool) (c d : ℕ) : Type 0 where
    first : Known c
    second : Known d
    pair : IsPair E ms (f c) (f d)

  known-joined : (a b c : ℕ) → Known a → Known b → joined D a b c ≡ true → Known c
  known-joined a b c ka kb e = elim (or_cases (D.enters a c) (D.enters b c) e) [ inl h ↦ image.within a c ka h | inr h ↦ image.within b c kb h ]

  joined-image : (a b c : ℕ) → Known a → Known b → joined D a b c ≡ true → joined E (f a) (f b) (f c) ≡ true
  joined-image a b c ka kb e = elim (or_cases (D.enters a c) (D.enters b c) e) [
    | inl h ↦ or_left (E.enters (f a) (f c)) (E.enters (f b) (f c)) (image.enters a c ka h)
    | inr h ↦ or_right (E.enters (f a) (f c)) (E.enters (f b) (f c)) (image.enters b c kb h)
  ]

  pair-image : (a b c d : ℕ) → Known a → Known b → IsPair D (joined D a b) c d → PairImage (joined E (f a) (f b)) c d
  pair-image a b c d ka kb p =
      let kc : Known c = known-joined a b c ka kb p.first in
      let kd : Known d = known-joined a b d ka kb p.second in
      record {
        first = kc;
        second = kd;
        pair = record {
          first = joined-image a b c ka kb p.first;
          second = joined-image a b d ka kb p.second;
          apart = λ e. p.apart (image.apart c d kc kd e);
          one_key = image.one_key c d kc kd ∙ p.one_key;
        };
      }

  shape-of : {x y : ℕ} → SameShape E x y → (a b : ℕ) → Known a → Known b → x ≡ f a → y ≡ f b → SameShape D a b
  shape-of {x = x} {y = y} (same e h) a b ka kb p q = same (sym (image.alike a b ka kb) ∙ (rw (← p, ← q) e)) (λ c d r. let i = pair-image a b c d ka kb r in shape-of (h (f c) (f d) (rw (p, q) i.pair)) c d i.first i.second refl refl)

  can-of : {ns : ℕ → Bool} → CanMerge E ns → (ms : ℕ → Bool) → ((a b : ℕ) → IsPair D ms a b → PairImage ns a b) → CanMerge D ms
  can-of (merges s p d) ms pairs = merges
      (λ a b r. let i = pairs a b r in shape-of (s (f a) (f b) i.pair) a b i.first i.second refl refl)
      (λ a b r m. let i = pairs a b r in sym (image.agree a b i.first i.second) ∙ p (f a) (f b) i.pair (image.meet a b i.first i.second ∙ m))
      (λ a b r m. let i = pairs a b r in can-of (d (f a) (f b) i.pair (image.meet a b i.first i.second ∙ m)) (joined D a b) (λ x y q. pair-image a b x y i.first i.second q))

  merges-of : (a b : ℕ) → Known a → Known b → Merges E (f a) (f b) → Merges D a b
  merges-of a b ka kb m = record {
    shape = shape-of m.shape a b ka kb refl refl;
    agree = λ e. sym (image.agree a b ka kb) ∙ m.agree (image.meet a b ka kb ∙ e);
    deeper = λ e. can-of (m.deeper (image.meet a b ka kb ∙ e)) (joined D a b) (λ x y q. pair-image a b x y ka kb q);
  }

-- ---- lists of numbers

pub in-map : (f : ℕ → ℕ) (ms : List ℕ) (c : ℕ) → is_in ms c ≡ true → is_in (map f ms) (f c) ≡ true
in-map f [] c e = absurd (both_ways false refl e)
in-map f (m ∷ ms) c e = elim (or_cases (c == m) (is_in ms c) e) [
  | inl h ↦ or_left (f c == f m) (is_in (map f ms) (f c)) (eq-eqb (f c) (f m) (ap f (eqb-true c m h)))
  | inr h ↦ or_right (f c == f m) (is_in (map f ms) (f c)) (in-map f ms c h)
]

-- says what a number in the image comes from
pub record Source (f : ℕ → ℕ) (ms : List ℕ) (i : ℕ) : Type 0 where
  pub source : ℕ
  pub member : is_in ms source ≡ true
  pub is : i ≡ f source

pub source-of : (f : ℕ → ℕ) (ms : List ℕ) (i : ℕ) → is_in (map f ms) i ≡ true → Source f ms i
source-of f [] i e = absurd (both_ways false refl e)
source-of f (m ∷ ms) i e = go (or_cases (i == f m) (is_in (map f ms) i) e) (source-of f ms i)
  where
    go : ((i == f m) ≡ true) ⊎ (is_in (map f ms) i ≡ true) → (is_in (map f ms) i ≡ true → Source f ms i) → Source f (m ∷ ms) i
    go (inl h) rest = record { source = m; member = or_left (m == m) (is_in ms m) (eq-eqb m m refl); is = eqb-true i (f m) h }
    go (inr h) rest = let s = rest h in record { source = s.source; member = or_right (s.source == m) (is_in ms s.source) s.member; is = s.is }

-- ---- to and fro

module _ (D E : Fields ℕ) (n : ℕ) (to from : ℕ → ℕ) (members : ℕ → List ℕ) (is : IsRenumbered D E n to from members) where
  IsBelow : ℕ → Type 0
  IsBelow a = a < n

  to-image : IsImage D E IsBelow to
  unfolding IsBelow
  to-image = record {
    one_key = is.one_key;
    alike = is.alike;
    meet = is.meet;
    agree = is.agree;
    apart = λ a b ka kb e. sym (is.back a ka) ∙ (ap from e ∙ is.back b kb);
    within = λ a c ka e. is.known a c ka (sym (is.own a c ka) ∙ e);
    enters = λ a c ka e. is.enters a (to c) ka ∙ in-map to (members a) c (sym (is.own a c ka) ∙ e);
  }

  record Known (i : ℕ) : Type 0 where
    below : from i < n
    there : to (from i) ≡ i

  known-to : (a : ℕ) → a < n → Known (to a)
  known-to a h = record { below = rw (is.back a h) h; there = ap to (is.back a h) }

  inside : (i k : ℕ) → Known i → E.enters i k ≡ true → Source to (members (from i)) k
  inside i k known e = source-of to (members (from i)) k (sym (is.enters (from i) k known.below) ∙ (rw known.there e))

  known-inside : (i k : ℕ) → Known i → E.enters i k ≡ true → Known k
  known-inside i k known e = let s = inside i k known e in subst Known (sym s.is) (known-to s.source (is.known (from i) s.source known.below s.member))

  enters-inside : (i k : ℕ) → Known i → E.enters i k ≡ true → D.enters (from i) (from k) ≡ true
  enters-inside i k known e =
      let s = inside i k known e in
      let same : from k ≡ s.source = ap from s.is ∙ is.back s.source (is.known (from i) s.source known.below s.member) in
      is.own (from i) (from k) known.below ∙ (rw same s.member)

  from-image : IsImage E D Known from
  from-image = record {
    one_key = λ i j ki kj. sym (is.one_key (from i) (from j) ki.below kj.below) ∙ (rw (ki.there, kj.there) refl);
    alike = λ i j ki kj. sym (is.alike (from i) (from j) ki.below kj.below) ∙ (rw (ki.there, kj.there) refl);
    meet = λ i j ki kj. sym (is.meet (from i) (from j) ki.below kj.below) ∙ (rw (ki.there, kj.there) refl);
    agree = λ i j ki kj. sym (is.agree (from i) (from j) ki.below kj.below) ∙ (rw (ki.there, kj.there) refl);
    apart = λ i j ki kj e. sym ki.there ∙ (ap to e ∙ kj.there);
    within = known-inside;
    enters = enters-inside;
  }

  -- says what a table tells of the new numbers it tells of the old ones
  pub tells-old : (a b : ℕ) (fails : Bool) → a < n → b < n → Tells (Merges E) E (to a) (to b) fails → Tells (Merges D) D a b fails
  unfolding IsBelow
  tells-old a b fails ka kb t = record {
    apart = λ e same. t.apart e (ap to same);
    one_key = λ e. sym (is.one_key a b ka kb) ∙ t.one_key e;
    breaks = λ e m. t.breaks e (merges-of E D Known from from-image (to a) (to b) (known-to a ka) (known-to b kb) (rw (is.back a ka, is.back b kb) m));
    keeps = λ e ne k. merges-of D E IsBelow to to-image a b ka kb (t.keeps e (λ same. ne (to-image.apart a b ka kb same)) (is.one_key a b ka kb ∙ k));
  }
