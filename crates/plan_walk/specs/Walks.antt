-- Definitions of what a walk puts into its sink, and what it does to the groups on its way.
use Rattle.std.specs.Prelude.{◌≡◌, ◌<◌, ◌≤◌, ◌⊎◌, ℕ, Bool, List, [], ◌∷◌, length, map, take, Option}
use Rattle.load_memory.specs.Keys.{KeyOf}
use Rattle.load_memory.specs.Rows.{RowOf}
use Rattle.execution.specs.Program.{Program, Under, ListOf, ObjectOf}
use Rattle.gq_check.specs.Plans.{PlanOf, plan_of}
use Rattle.plan_program.specs.PlanPrograms.{places, list_of, read_if, object_program}
use Rattle.plan_walk.specs.Groups.{children_at, Covers, AreRight, Grows, IsAsked, AreKnown, asks_seen, members_seen}
use Rattle.plan_walk.specs.Puts.{Put, OnwardOf, View, puts}
use Rattle.plan_walk.specs.Positions.{is_non_null, onward_of, later_of}
use Rattle.plan_walk.specs.Reading.{lookup}
use Rattle.plan_walk.specs.declared.loading_fields.FieldResolver.{FieldResolver}
use Rattle.plan_walk.specs.declared.loading_fields.LoadingField.{LoadingField}
use Rattle.plan_walk.specs.declared.loading_fields.Member.{Member}
use Rattle.plan_walk.specs.declared.positions.Items.{Items}
use Rattle.plan_walk.specs.declared.walk.LoadingPosition.{LoadingPosition}
use Rattle.plan_walk.specs.declared.walk.Progress.{Progress}
use Rattle.plan_walk.specs.declared.walk.Walk.{Walk}

-- A walk puts these, over each view that tells what its groups do, where the groups are right and
-- what it begins with is known. Once there are `most` groups, those that there are stay as they
-- are.
pub record Goes {S : Type 0} (goes : View → List Put → S → S → Type 0)
    (below : ℕ → S → Type 0) (most : ℕ) (plan : PlanOf) (known : Type 0) (ps : View → List Put)
    (old new : Progress S) : Type 0 where
  pub grows : Grows plan old.groups.items new.groups.items
  pub front : most ≤ length old.groups.items
      → take (length old.groups.items) new.groups.items ≡ old.groups.items
  pub puts : known → AreRight plan old.groups.items → below (length old.groups.items) old.out
      → (v : View) → Covers plan new.groups.items v → goes v (ps v) old.out new.out

-- it puts a program over the memory
abbrev pub Walks : {S : Type 0} (goes : View → List Put → S → S → Type 0) (below : ℕ → S → Type 0)
    → Walk → Type 0 → Bool → (View → Program) → Progress S → Progress S → Type 0
Walks goes below walk known non_null program old new = Goes goes below walk.most
    (plan_of walk.plan.now) known (λ v. puts non_null (program v) (lookup walk.memory.now)) old new

-- it puts an object of these members over a row
abbrev pub WalksMembers : {S : Type 0} (goes : View → List Put → S → S → Type 0)
    (below : ℕ → S → Type 0) → Walk → ℕ → Bool → RowOf → List Member
    → Progress S → Progress S → Type 0
WalksMembers goes below walk levels non_null row ms old new =
    Walks goes below walk (AreKnown (length old.groups.items) ms) non_null (λ v.
    Under ObjectOf (members_seen (plan_of walk.plan.now).definitions v levels row ms)) old new

-- it puts what a position asks for over a row
abbrev pub WalksAsks : {S : Type 0} (goes : View → List Put → S → S → Type 0)
    (below : ℕ → S → Type 0) → Walk → Bool → ℕ → RowOf → FieldResolver
    → Progress S → Progress S → Type 0
WalksAsks goes below walk non_null levels row asks old new =
    Walks goes below walk (IsAsked (length old.groups.items) asks) non_null
    (λ v. asks_seen (plan_of walk.plan.now).definitions v levels row asks) old new

-- it puts a program at a position that loads
abbrev pub WalksAt : {S : Type 0} (goes : View → List Put → S → S → Type 0) (below : ℕ → S → Type 0)
    → Walk → LoadingPosition → (View → Program) → Progress S → Progress S → Type 0
WalksAt goes below walk to program old new = Walks goes below walk
    (to.onward.group < length old.groups.items) (is_non_null to.nullability) program old new

-- gives what a position that loads goes on to, with the rows of its load
abbrev pub after_load : LoadingPosition → View → List RowOf → Program
after_load to v = v.after (onward_of to.onward)

-- it puts what `left` later loaders come to from the first of some rows
abbrev pub WalksLater : {S : Type 0} (goes : View → List Put → S → S → Type 0)
    (below : ℕ → S → Type 0) → Walk → LoadingPosition → ℕ → List RowOf
    → Progress S → Progress S → Type 0
WalksLater goes below walk to left rows old new =
    WalksAt goes below walk to (λ v. v.after (later_of left (onward_of to.onward)) rows) old new

-- it puts an object over a row, at a position that no later loader is left of
abbrev pub WalksRow : {S : Type 0} (goes : View → List Put → S → S → Type 0)
    (below : ℕ → S → Type 0) → Walk → LoadingPosition → RowOf → Progress S → Progress S → Type 0
WalksRow goes below walk to row old new = WalksLater goes below walk to 0 (row ∷ []) old new

-- says the same where the object's type is known
abbrev pub WalksTyped : {S : Type 0} (goes : View → List Put → S → S → Type 0)
    (below : ℕ → S → Type 0) → Walk → LoadingPosition → List ℕ → RowOf
    → Progress S → Progress S → Type 0
WalksTyped goes below walk to ty row old new =
    WalksAt goes below walk to (λ v. object_program (plan_of walk.plan.now) to.onward.levels ty
    (children_at old.groups.items to.onward.group).below row) old new

-- Groups from `count` on were let go, where there were `most` or more and no position more waits.
pub record LetsGo {S : Type 0} (waits : S → ℕ) (most count held : ℕ)
    (old new : Progress S) : Type 0 where
  pub out : new.out ≡ old.out
  pub either : (new.groups.items ≡ old.groups.items)
      ⊎ ((most ≤ count) × (held ≡ waits old.out) × (new.groups.items ≡ take count old.groups.items))

-- a list with an item for each of the rows, from which `left` later loaders go on
abbrev pub items_after : View → List LoadingField → OnwardOf → ℕ → List RowOf → Program
items_after v gs onward left rows = list_of (children_at gs onward.group)
    (map (λ row. v.after (later_of left onward) (row ∷ [])) rows)

-- a list with an item for each key, which goes on so with its rows
abbrev pub items_read : View → Items → OnwardOf → ℕ → List (Option KeyOf) → Program
items_read v items onward loader keys = Under ListOf (places
    (is_non_null items.nullability) items.place 0 (map (read_if loader (v.after onward)) keys))
