-- Uses of variables of one kind: of one name, at locations that the same types fit.
use Rattle.std.specs.Prelude.{◌≡◌, ◌<◌, ℕ, Bool, true, false, not, ◌&&◌, List, [], Option, Some, None, length, nat_eq, bytes_eq, slice_index, slice_index_or, if◌then◌else◌}
use Rattle.std.specs.Global.{Vec}
use Rattle.std.specs.Borrow.{Bor}
use Rattle.std.specs.List.{list_any}
use Rattle.std.specs.Option.{option_map_or}
use Rattle.std.specs.HashMap.{HashMap, get_by}
use Rattle.rules_parts.specs.declared.part.Owner.TheVariants as owner
use Rattle.rules_parts.specs.Parts.{Location, VariableUse}
use Rattle.rules_typed.specs.declared.use_kinds.UseKinds.{UseKinds}
use Rattle.gq_parser.specs.Tree.{VariableDefinition}
use Rattle.rules_typed.specs.AllVariableUsagesAreAllowed.{is_forbidden_at}
use Rattle.rules_typed.specs.CompatibleTypes.{are_compatible}

-- both have a default, or neither, and the types are alike: each is compatible with the other
abbrev pub same_location : Option Location → Option Location → Bool
same_location (Some l) (Some m) = (if l.has_default then m.has_default else not m.has_default)
    && (are_compatible l.of_type m.of_type && are_compatible m.of_type l.of_type)
same_location None None = true
same_location _ _ = false

-- the uses that are noted under a name
abbrev pub listed : {S : Type 0} → HashMap (Bor (List ℕ)) (Vec ℕ) S → List ℕ → List ℕ
listed m q = option_map_or (λ v. v.items) (get_by (λ k. bytes_eq q k.now) m) []

-- the use k is noted under the name
abbrev pub is_listed : {S : Type 0} → HashMap (Bor (List ℕ)) (Vec ℕ) S → List ℕ → ℕ → Bool
is_listed m q k = list_any (nat_eq k) (listed m q)

-- gives what is read behind the last use
abbrev pub no_use : VariableUse
no_use = record {
  owner = owner.Operation 0;
  place = record { line = 1; column = 1 };
  name = [];
  location = None;
}

abbrev pub use_at : List VariableUse → ℕ → VariableUse
use_at uses k = slice_index_or uses k no_use

-- the use r is noted under its name, and under no other
abbrev pub IsKind : {S : Type 0} → HashMap (Bor (List ℕ)) (Vec ℕ) S → List VariableUse → ℕ → Type 0
IsKind m uses r = (q : List ℕ) → is_listed m q r ≡ bytes_eq q (use_at uses r).name

-- The use r is noted, and stands for the use k: it has its name, and its location takes the same.
pub record StandsFor {S : Type 0} (m : HashMap (Bor (List ℕ)) (Vec ℕ) S)
    (uses : List VariableUse) (r k : ℕ) : Type 0 where
  pub within : r < length uses
  pub listed : IsKind m uses r
  pub name : (use_at uses r).name ≡ (use_at uses k).name
  pub location : same_location (use_at uses r).location (use_at uses k).location ≡ true

-- The use k is among these, and its location takes what that of this use takes.
abbrev pub IsStandIn : List VariableUse → List ℕ → VariableUse → ℕ → Type 0
IsStandIn uses places use' k = (list_any (nat_eq k) places ≡ true)
    × (same_location (use_at uses k).location use'.location ≡ true)

abbrev pub AreKinds : UseKinds → List VariableUse → Type 0
AreKinds kinds uses = (k : ℕ) → k < length uses
    → StandsFor kinds.known uses (slice_index kinds.stand_ins.items k) k

-- The variable may not stand where the use stands.
abbrev pub is_forbidden_use : VariableDefinition → VariableUse → Bool
is_forbidden_use v u = option_map_or (λ (l : Location). is_forbidden_at l v) u.location false
