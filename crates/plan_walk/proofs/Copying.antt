-- Copies of groups, which share what stands below them: they do what the groups do, and their shapes are as right.
use Rattle.std.proofs.Common.{◌≡◌, ℕ, zero, suc, ◌<◌, ◌≤◌, List, [], ◌∷◌, length, get_or, refl, ap, sym, ◌∙◌, arith}
use Rattle.std.specs.Arc.{arc_value}
use Rattle.std.specs.List.{AllZip, slice_get}
use Rattle.std.specs.Option.{option_map_or}
use Rattle.std.proofs.lemmas.Slice.Zip.{AllZip-long}
use Rattle.std.proofs.lemmas.List.Elements.{AllZip-get_or}
use Rattle.gq_check.specs.Plans.{PlanOf}
use Rattle.plan_program.specs.FieldValues.{ChildrenOf}
use Rattle.plan_program.specs.Prepared.{children_seen}
use Rattle.plan_program.specs.RowUses.{First}
use Rattle.plan_walk.specs.Groups.{children_in, children_at, use_seen, nowhere, Covers, IsShape, Grows}
use Rattle.plan_walk.specs.Puts.{View}
use Rattle.plan_walk.specs.declared.loading_fields.LoadingField.{LoadingField}
use Rattle.plan_walk.specs.declared.loading_fields.TypePositions.{TypePositions}
use Rattle.plan_walk.proofs.Grouping.{covers-like, shape-more}

pub record IsShapeCopy (s c : TypePositions) : Type 0 where
  pub ty : c.ty ≡ s.ty
  pub only : c.only ≡ s.only
  pub members : arc_value c.members ≡ arc_value s.members

pub record IsCopy (g c : LoadingField) : Type 0 where
  pub does : use_seen c.then ≡ use_seen g.then
  pub children : arc_value c.children ≡ arc_value g.children
  pub shapes : AllZip IsShapeCopy g.shapes c.shapes

pub copies-by : {X : Type 0} {R Q : X → X → Type 0} → ((x y : X) → R x y → Q x y) → (xs ys : List X) → AllZip R xs ys → AllZip Q xs ys
copies-by f [] [] h = tt
copies-by f [] (y ∷ ys) h = absurd h
copies-by f (x ∷ xs) [] h = absurd h
copies-by f (x ∷ xs) (y ∷ ys) h = (f x y h.0, copies-by f xs ys h.1)

-- what a copy has that depends on what is the same, at each place
copied-at : {Y : Type 0} (f : LoadingField → Y) (d : Y) → ((g c : LoadingField) → IsCopy g c → f c ≡ f g) → (gs cs : List LoadingField) (i : ℕ) → AllZip IsCopy gs cs
    → option_map_or f (slice_get cs i) d ≡ option_map_or f (slice_get gs i) d
copied-at f d same [] [] i h = refl
copied-at f d same [] (c ∷ cs) i h = absurd h
copied-at f d same (g ∷ gs) [] i h = absurd h
copied-at f d same (g ∷ gs) (c ∷ cs) zero h = same g c h.0
copied-at f d same (g ∷ gs) (c ∷ cs) (suc i) h = copied-at f d same gs cs i h.1

shape-copied : (plan : PlanOf) (gs : List LoadingField) (b b' : ChildrenOf) (s c : TypePositions) → b' ≡ b → IsShapeCopy s c → IsShape plan gs b s → IsShape plan gs b' c
shape-copied plan gs b b' s c below same is = record {
  makes = rw (same.members, same.ty, below) is.makes;
  only = λ e. rw (same.ty, below) (is.only (sym same.only ∙ e));
}

pub copies-grow : (plan : PlanOf) (gs cs : List LoadingField) → AllZip IsCopy gs cs → Grows plan gs cs
copies-grow plan gs cs h =
    let long : length cs ≡ length gs = AllZip-long IsCopy gs cs h in
    let le : length gs ≤ length cs = omega (arith, long) in
    let stand : (i : ℕ) → i < length gs → children_at cs i ≡ children_at gs i =
    λ i lt. copied-at (λ g. children_in g.children) nowhere (λ g c same. ap children_seen same.children) gs cs i h in
    let covers : (v : View) → Covers plan cs v → Covers plan gs v =
    λ v c. covers-like plan gs cs v le (λ i lt. copied-at (λ g. use_seen g.then) First (λ g c same. same.does) gs cs i h) stand c in
    record {
      longer = le;
      stand = stand;
      covers = covers;
      right = λ are k d lt.
          let within : k < length gs = omega (arith, lt, long) in
          let g : LoadingField = get_or gs k d in
          let c : LoadingField = get_or cs k d in
          let same : IsCopy g c = AllZip-get_or IsCopy gs cs k d d h within in
          λ j e here.
          let there : j < length g.shapes = omega (arith, here, AllZip-long IsShapeCopy g.shapes c.shapes same.shapes) in
          shape-copied plan cs (children_in g.children) (children_in c.children) (get_or g.shapes j e) (get_or c.shapes j e) (ap children_seen same.children)
          (AllZip-get_or IsShapeCopy g.shapes c.shapes j e e same.shapes there)
          (shape-more plan gs cs (children_in g.children) (get_or g.shapes j e) le covers (are k d within j e there));
    }
