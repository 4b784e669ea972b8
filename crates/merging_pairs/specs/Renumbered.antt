-- The fields of a document under other numbers.
use Rattle.std.specs.Prelude.{◌≡◌, ℕ, ◌<◌, true, List, map}
use Rattle.merging_pairs.specs.Merging.{Fields}
use Rattle.merging_pairs.specs.Numbered.{is_in}

-- Of the first n fields of D, the field a has the number `to a` in E, and its members are those of a list.
pub record IsRenumbered (D E : Fields ℕ) (n : ℕ) (to from : ℕ → ℕ)
    (members : ℕ → List ℕ) : Type 0 where
  pub there : (a : ℕ) → a < n → to a < n
  pub back : (a : ℕ) → a < n → from (to a) ≡ a
  pub one_key : (a b : ℕ) → a < n → b < n → E.one_key (to a) (to b) ≡ D.one_key a b
  pub alike : (a b : ℕ) → a < n → b < n → E.alike (to a) (to b) ≡ D.alike a b
  pub meet : (a b : ℕ) → a < n → b < n → E.meet (to a) (to b) ≡ D.meet a b
  pub agree : (a b : ℕ) → a < n → b < n → E.agree (to a) (to b) ≡ D.agree a b
  pub known : (a c : ℕ) → a < n → is_in (members a) c ≡ true → c < n
  pub own : (a c : ℕ) → a < n → D.enters a c ≡ is_in (members a) c
  pub enters : (a i : ℕ) → a < n → E.enters (to a) i ≡ is_in (map to (members a)) i
