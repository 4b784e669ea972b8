-- Of a document's broken sets one is reported.
use Rattle.std.proofs.Common.{◌≡◌, ◌∙◌, sym, ap, subst, ℕ, List, [], ◌∷◌, Option, refl, ◌⊎◌, inl, inr}
use Rattle.std.specs.Prelude.{Bool}
use Rattle.rules_parts.specs.Broken.{BrokenOf, earliest}
use Rattle.rules_parts.specs.Parts.{PartsOf}
use Rattle.merging_pairs.specs.Merging.{Fields, CanMerge, Breaks, KeyMerges, IsFirst, breaks, later}
use Rattle.merging_pairs.specs.Numbered.{is_in}
use Rattle.merging_members.specs.Members.{SetOf}
use Rattle.merging_fields.specs.FieldSelectionMerging.{AreBroken, none, merges, fails, IsMerging}

module _ {F : Type 0} (D : Fields F) (ms : F → Bool) where
  clash : (f : F) → Breaks D ms f → KeyMerges D ms f → ⊥
  clash f b k = b.breaks (k b.one b.other b.pair b.key)

  first-cases : (f g : F) (fs : List F) → IsFirst D ms f (g ∷ fs) → ((f ≡ g) × Breaks D ms f) ⊎ (KeyMerges D ms g × IsFirst D ms f fs)
  first-cases f g fs (breaks b) = inl (refl, b)
  first-cases f g fs (later k r) = inr (k, r)

  both : (f g x : F) (xs : List F) → ((f ≡ x) × Breaks D ms f) ⊎ (KeyMerges D ms x × IsFirst D ms f xs) → ((g ≡ x) × Breaks D ms g) ⊎ (KeyMerges D ms x × IsFirst D ms g xs)
      → (IsFirst D ms f xs → IsFirst D ms g xs → f ≡ g) → f ≡ g
  both f g x xs (inl p) (inl q) h = p.0 ∙ sym q.0
  both f g x xs (inl p) (inr q) h = absurd (clash x (subst (λ (y : F). Breaks D ms y) p.0 p.1) q.0)
  both f g x xs (inr p) (inl q) h = absurd (clash x (subst (λ (y : F). Breaks D ms y) q.0 q.1) p.0)
  both f g x xs (inr p) (inr q) h = h p.1 q.1

  first-unique : (f g : F) (fs : List F) → IsFirst D ms f fs → IsFirst D ms g fs → f ≡ g
  first-unique f g [] p q = elim p [ ]
  first-unique f g (x ∷ xs) p q = both f g x xs (first-cases f x xs p) (first-cases g x xs q) (first-unique f g xs)

-- one more set that can't be merged
record Failing (D : Fields ℕ) (key : ℕ → List ℕ) (s : SetOf) (ss : List SetOf) (bs : List BrokenOf) : Type 0 where
  field : ℕ
  rest : List BrokenOf
  fails_here : CanMerge D (is_in s.members) → ⊥
  first : IsFirst D (is_in s.members) field s.members
  behind : AreBroken D key ss rest
  whole : bs ≡ record { name = key field; place = s.place } ∷ rest

module _ (D : Fields ℕ) (key : ℕ → List ℕ) where
  nothing : (bs : List BrokenOf) → AreBroken D key [] bs → bs ≡ []
  nothing bs none = refl

  broken-cases : (s : SetOf) (ss : List SetOf) (bs : List BrokenOf) → AreBroken D key (s ∷ ss) bs
      → (CanMerge D (is_in s.members) × AreBroken D key ss bs) ⊎ Failing D key s ss bs
  broken-cases s ss bs (merges m r) = inl (m, r)
  broken-cases s ss bs (fails {bs = rest} {f = f} n i r) = inr (record { field = f; rest = rest; fails_here = n; first = i; behind = r; whole = refl })

  both-sets : (s : SetOf) (ss : List SetOf) (bs cs : List BrokenOf)
      → (CanMerge D (is_in s.members) × AreBroken D key ss bs) ⊎ Failing D key s ss bs
      → (CanMerge D (is_in s.members) × AreBroken D key ss cs) ⊎ Failing D key s ss cs
      → ((ds es : List BrokenOf) → AreBroken D key ss ds → AreBroken D key ss es → ds ≡ es) → bs ≡ cs
  both-sets s ss bs cs (inl p) (inl q) h = h bs cs p.1 q.1
  both-sets s ss bs cs (inl p) (inr q) h = absurd (q.fails_here p.0)
  both-sets s ss bs cs (inr p) (inl q) h = absurd (p.fails_here q.0)
  both-sets s ss bs cs (inr p) (inr q) h =
      let named : ℕ → BrokenOf = λ n. record { name = key n; place = s.place } in
      p.whole
      ∙ (ap (λ (n : ℕ). named n ∷ p.rest) (first-unique D (is_in s.members) p.field q.field s.members p.first q.first)
      ∙ (ap (λ (rs : List BrokenOf). named q.field ∷ rs) (h p.rest q.rest p.behind q.behind) ∙ sym q.whole))

  broken-unique : (ss : List SetOf) (bs cs : List BrokenOf) → AreBroken D key ss bs → AreBroken D key ss cs → bs ≡ cs
  broken-unique [] bs cs p q = nothing bs p ∙ sym (nothing cs q)
  broken-unique (s ∷ ss) bs cs p q = both-sets s ss bs cs (broken-cases s ss bs p) (broken-cases s ss cs q) (broken-unique ss)

pub merging-unique : (p : PartsOf) (a b : Option BrokenOf) → IsMerging p a → IsMerging p b → a ≡ b
merging-unique p a b m n = m.2 ∙ (ap earliest (broken-unique _ _ _ m.0 n.0 m.1 n.1) ∙ sym n.2)
