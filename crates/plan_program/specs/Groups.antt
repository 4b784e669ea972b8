-- *Field groups* (section 6.3.2, CollectFields): the fields of an object type that some selections choose, grouped by
-- response key in order of first meeting.
use Rattle.std.specs.Prelude.{ℕ, zero, suc, Bool, not, ◌||◌, List, [], ◌∷◌, ◌++◌, length, Option, Some, None, bytes_eq, unwrap_or, if◌then◌else◌}
use Rattle.std.specs.List.{list_any}
use Rattle.text_place.specs.declared.place.Place.{Place}
use Rattle.gq_parser.specs.Tree.{Argument, Selection, Field, Spread, Inline, Below, nothing_below, below, SelectionSet, set_at, Selections, no_selection, and_selection, Fragment}
use Rattle.gq_check.specs.Plans.{PlanOf, fragment_in}
use Rattle.plan_program.specs.Chosen.{is_left_out, applies}

-- a field that is chosen
pub record FieldOf : Type 0 where
  pub place : Place
  pub key : List ℕ
  pub name : List ℕ
  pub arguments : List Argument
  pub below : Below

-- the fields of one response key, at least one, in order
pub record GroupOf : Type 0 where
  pub key : List ℕ
  pub fields : List FieldOf

-- one more field: in the group of its key, or a new group after the others
abbrev pub with_field : List GroupOf → FieldOf → List GroupOf
with_field [] f = record { key = f.key; fields = f ∷ [] } ∷ []
with_field (g ∷ gs) f =
    if bytes_eq f.key g.key
    then record { key = g.key; fields = g.fields ++ f ∷ [] } ∷ gs else g ∷ with_field gs f

-- says what was collected: the groups, and the names of the fragments that were entered, of which none is entered
-- again
pub record Collected : Type 0 where
  pub groups : List GroupOf
  pub entered : List (List ℕ)

abbrev pub nothing_collected : Collected
nothing_collected = record { groups = []; entered = [] }

-- the response key is the alias, or the name where there is none
abbrev pub chosen_field : Place → Option (List ℕ) → List ℕ → List Argument → Below → FieldOf
chosen_field place alias name given b =
    record { place = place; key = unwrap_or alias name; name = name; arguments = given; below = b }

-- one more field
abbrev pub with_chosen : Collected → FieldOf → Collected
with_chosen so_far f = record { groups = with_field so_far.groups f; entered = so_far.entered }

-- one more fragment, where it is entered
abbrev pub with_entered_if : Bool → Collected → List ℕ → Collected
with_entered_if entered so_far name = if entered
    then record { groups = so_far.groups; entered = so_far.entered ++ name ∷ [] } else so_far

abbrev pub has_entered : Collected → List ℕ → Bool
has_entered so_far name = list_any (bytes_eq name) so_far.entered

-- says what entering the fragment of a name collects
abbrev pub Entering : Type 0
Entering = Collected → List ℕ → Collected

-- the selections in order; what is left out, what doesn't apply and a fragment that was entered collect nothing
abbrev mutual
  pub collect_one : PlanOf → List ℕ → Entering → Collected → Selection → Collected
  collect_one plan ty enter so_far (Field place alias name given ds b) =
      if is_left_out plan ds then so_far
      else record {
        groups = with_field so_far.groups (chosen_field place alias name given b);
        entered = so_far.entered;
      }
  collect_one plan ty enter so_far (Spread place name ds) =
      if is_left_out plan ds || has_entered so_far name then so_far
      else enter (record { groups = so_far.groups; entered = so_far.entered ++ name ∷ [] }) name
  collect_one plan ty enter so_far (Inline place condition ds set) =
      if is_left_out plan ds || not (applies plan condition ty) then so_far
      else collect_set plan ty enter so_far set

  pub collect_set : PlanOf → List ℕ → Entering → Collected → SelectionSet → Collected
  collect_set plan ty enter so_far (set_at place ss) = collect_all plan ty enter so_far ss

  pub collect_all : PlanOf → List ℕ → Entering → Collected → Selections → Collected
  collect_all plan ty enter so_far no_selection = so_far
  collect_all plan ty enter so_far (and_selection s ss) =
      collect_all plan ty enter (collect_one plan ty enter so_far s) ss

abbrev pub enter_fragment : PlanOf → List ℕ → Entering → Collected → Option Fragment → Collected
enter_fragment plan ty enter so_far None = so_far
enter_fragment plan ty enter so_far (Some f) = if applies plan (Some f.condition) ty
    then collect_set plan ty enter so_far f.selection_set else so_far

-- the fragments of a plan, of which this number may still be entered one inside another
abbrev pub entering : PlanOf → List ℕ → ℕ → Entering
entering plan ty zero so_far name = so_far
entering plan ty (suc left) so_far name =
    enter_fragment plan ty (entering plan ty left) so_far (fragment_in plan.fragments name)

-- no more fragments stand one inside another than there are, since none is entered twice
abbrev pub collect_from : PlanOf → List ℕ → Collected → Selections → Collected
collect_from plan ty so_far ss =
    collect_all plan ty (entering plan ty (length plan.fragments)) so_far ss

abbrev pub collect : PlanOf → List ℕ → Selections → List GroupOf
collect plan ty ss = (collect_from plan ty nothing_collected ss).groups

abbrev pub selections_in : SelectionSet → Selections
selections_in (set_at place ss) = ss

abbrev pub selections_below : Below → Selections
selections_below nothing_below = no_selection
selections_below (below set) = selections_in set

-- gives the same for what several fields select, joined in order (MergeSelectionSets)
abbrev pub collect_subfields : PlanOf → List ℕ → Collected → List Below → Collected
collect_subfields plan ty so_far [] = so_far
collect_subfields plan ty so_far (b ∷ bs) =
    collect_subfields plan ty (collect_from plan ty so_far (selections_below b)) bs
