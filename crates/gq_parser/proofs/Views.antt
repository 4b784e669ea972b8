-- The views of trees, case by case.
use Rattle.std.proofs.Common.{◌≡◌, ℕ, Bool, List, [], ◌∷◌, ◌++◌, map, Option, Some, None, refl, sym, ap, ◌∙◌}
use Rattle.std.specs.Global.{Vec, Global}
use Rattle.std.specs.declared.boxed.Box.{Box}
use Rattle.std.specs.declared.sync.Arc.{Arc}
use Rattle.text_place.specs.declared.place.Place.{Place}
use Rattle.gq_parser.specs.declared.tree.Argument as rust-argument
use Rattle.gq_parser.specs.declared.tree.Literal as rust-literal
use Rattle.gq_parser.specs.declared.tree.Value as rust-value
use Rattle.gq_parser.specs.declared.tree.Value.TheVariants as value
use Rattle.gq_parser.specs.declared.tree.Value.TheOpen as open-value
use Rattle.gq_parser.specs.declared.tree.Value.TheViews.{roll-Argument}
use Rattle.gq_parser.specs.declared.tree.Value.TheFolds.{fold-Value, fold-roll-Value, fold-roll-Literal, fold-roll-Argument}
use Rattle.gq_parser.specs.declared.tree.TypeRef as rust-type
use Rattle.gq_parser.specs.declared.tree.TypeRef.TheVariants as typeref
use Rattle.gq_parser.specs.declared.tree.TypeRef.TheOpen as open-type
use Rattle.gq_parser.specs.declared.tree.TypeRef.TheFolds.{fold-roll-TypeRef}
use Rattle.gq_parser.specs.declared.tree.Directive as rust-directive
use Rattle.gq_parser.specs.declared.tree.TypeCondition as rust-condition
use Rattle.gq_parser.specs.declared.tree.Spread as rust-spread
use Rattle.gq_parser.specs.declared.tree.Selection as rust-selection
use Rattle.gq_parser.specs.declared.tree.Selection.TheVariants as selection
use Rattle.gq_parser.specs.declared.tree.Selection.TheOpen as open-selection
use Rattle.gq_parser.specs.declared.tree.Selection.TheViews.{roll-Field, roll-Inline, roll-SelectionSet}
use Rattle.gq_parser.specs.declared.tree.Selection.TheFolds.{fold-roll-Selection, fold-roll-Field, fold-roll-Inline, fold-roll-SelectionSet}
use Rattle.gq_parser.specs.declared.tree.SelectionSet as rust-set
use Rattle.gq_parser.specs.declared.tree.Field as rust-field
use Rattle.gq_parser.specs.declared.tree.Inline as rust-inline
use Rattle.gq_parser.specs.Tree.{Value, Variable, Int, Float, Text, Boolean, Null, Enum, Array, Object, Values, and_value, Members, and_member, values_then, members_then, TypeTree, Named, ListOf, Argument}
use Rattle.gq_parser.specs.Tree.{Selection, Field, Spread, Inline, SelectionSet, set_at, Selections, and_selection, selections_then, condition_if, below_of, literal_of, map_literals, argument_of, arguments_of, map_members, type_of, the_literal, directives_of, selection_of, field_of, inline_of, set_of, map_selections}
use Rattle.gq_parser.specs.Tree.{value_step, argument_step, literal_step, type_step, selection_step, field_step, inline_step, set_step}

abbrev value_of : rust-value.Value → Place → Value
value_of = fold-Value (Place → Value) Argument Value value_step argument_step literal_step

of_literal : (p : Place) (v : rust-value.Value) → literal_of (the_literal p v) ≡ value_of v p
of_literal p v = fold-roll-Literal (Place → Value) Argument Value value_step argument_step literal_step (record { place = p; value = v })

-- a literal says what its value says, at its place
said : (p : Place) (v : rust-value.Value) (rolled : rust-value.Value) (w : Place → Value) → rolled ≡ v → value_of rolled ≡ w → literal_of (the_literal p v) ≡ w p
said p v rolled w e h = of_literal p v ∙ ap (λ x. value_of x p) (sym e) ∙ ap (λ f. f p) h

pub literal_variable : (p : Place) (n : List ℕ) → literal_of (the_literal p (value.Variable n)) ≡ Variable p n
literal_variable p n = said p (value.Variable n) _ _ (value.rolls-Variable n) (fold-roll-Value (Place → Value) Argument Value value_step argument_step literal_step (open-value.Variable n))

pub literal_int : (p : Place) (n : List ℕ) → literal_of (the_literal p (value.Int n)) ≡ Int p n
literal_int p n = said p (value.Int n) _ _ (value.rolls-Int n) (fold-roll-Value (Place → Value) Argument Value value_step argument_step literal_step (open-value.Int n))

pub literal_float : (p : Place) (n : List ℕ) → literal_of (the_literal p (value.Float n)) ≡ Float p n
literal_float p n = said p (value.Float n) _ _ (value.rolls-Float n) (fold-roll-Value (Place → Value) Argument Value value_step argument_step literal_step (open-value.Float n))

pub literal_text : (p : Place) (n : List ℕ) → literal_of (the_literal p (value.Text n)) ≡ Text p n
literal_text p n = said p (value.Text n) _ _ (value.rolls-Text n) (fold-roll-Value (Place → Value) Argument Value value_step argument_step literal_step (open-value.Text n))

pub literal_boolean : (p : Place) (b : Bool) → literal_of (the_literal p (value.Boolean b)) ≡ Boolean p b
literal_boolean p b = said p (value.Boolean b) _ _ (value.rolls-Boolean b) (fold-roll-Value (Place → Value) Argument Value value_step argument_step literal_step (open-value.Boolean b))

pub literal_null : (p : Place) → literal_of (the_literal p value.Null) ≡ Null p
literal_null p = said p value.Null _ _ value.rolls-Null (fold-roll-Value (Place → Value) Argument Value value_step argument_step literal_step open-value.Null)

pub literal_enum : (p : Place) (n : List ℕ) → literal_of (the_literal p (value.Enum n)) ≡ Enum p n
literal_enum p n = said p (value.Enum n) _ _ (value.rolls-Enum n) (fold-roll-Value (Place → Value) Argument Value value_step argument_step literal_step (open-value.Enum n))

pub literal_list : (p : Place) (vs : Vec rust-literal.Literal) → literal_of (the_literal p (value.List vs)) ≡ Array p (map_literals vs.items)
literal_list p vs = said p (value.List vs) _ _ (value.rolls-List vs) (fold-roll-Value (Place → Value) Argument Value value_step argument_step literal_step (open-value.List vs))

pub literal_object : (p : Place) (ms : Vec rust-argument.Argument) → literal_of (the_literal p (value.Object ms)) ≡ Object p (map_members ms.items)
literal_object p ms = said p (value.Object ms) _ _ (value.rolls-Object ms) (fold-roll-Value (Place → Value) Argument Value value_step argument_step literal_step (open-value.Object ms))

pub of_argument : (p : Place) (n : List ℕ) (v : rust-literal.Literal) → argument_of (roll-Argument (record { place = p; name = n; value = v })) ≡ record { place = p; name = n; value = literal_of v }
of_argument p n v = fold-roll-Argument (Place → Value) Argument Value value_step argument_step literal_step (record { place = p; name = n; value = v })

pub type_named : (p : Place) (n : List ℕ) (b : Bool) → type_of (typeref.Named p n b) ≡ Named p n b
type_named p n b = ap type_of (sym (typeref.rolls-Named p n b)) ∙ fold-roll-TypeRef TypeTree type_step (open-type.Named p n b)

pub type_list : (p : Place) (t : Box rust-type.TypeRef Global) (b : Bool) → type_of (typeref.List p t b) ≡ ListOf p (type_of t.value) b
type_list p t b = ap type_of (sym (typeref.rolls-List p t b)) ∙ fold-roll-TypeRef TypeTree type_step (open-type.List p t b)

pub selection_field : (f : rust-field.Field) → selection_of (selection.Field f) ≡ field_of f
selection_field f = ap selection_of (sym (selection.rolls-Field f)) ∙ fold-roll-Selection Selection Selection Selection SelectionSet selection_step field_step inline_step set_step (open-selection.Field f)

pub selection_spread : (s : rust-spread.Spread) → selection_of (selection.Spread s) ≡ Spread s.place s.name (directives_of s.directives.items)
selection_spread s = ap selection_of (sym (selection.rolls-Spread s)) ∙ fold-roll-Selection Selection Selection Selection SelectionSet selection_step field_step inline_step set_step (open-selection.Spread s)

pub selection_inline : (i : rust-inline.Inline) → selection_of (selection.Inline i) ≡ inline_of i
selection_inline i = ap selection_of (sym (selection.rolls-Inline i)) ∙ fold-roll-Selection Selection Selection Selection SelectionSet selection_step field_step inline_step set_step (open-selection.Inline i)

pub of_field : (p : Place) (alias : Option (List ℕ)) (n : List ℕ) (as' : Vec rust-argument.Argument) (ds : Vec rust-directive.Directive) (s : Option (Arc rust-set.SelectionSet Global))
    → field_of (roll-Field (record { place = p; alias = alias; name = n; arguments = as'; directives = ds; selection_set = s }))
    ≡ Field p alias n (arguments_of as'.items) (directives_of ds.items) (below_of s)
of_field p alias n as' ds None = fold-roll-Field Selection Selection Selection SelectionSet selection_step field_step inline_step set_step (record { place = p; alias = alias; name = n; arguments = as'; directives = ds; selection_set = None })
of_field p alias n as' ds (Some s) = fold-roll-Field Selection Selection Selection SelectionSet selection_step field_step inline_step set_step (record { place = p; alias = alias; name = n; arguments = as'; directives = ds; selection_set = Some s })

pub of_inline : (p : Place) (c : Option rust-condition.TypeCondition) (ds : Vec rust-directive.Directive) (s : rust-set.SelectionSet)
    → inline_of (roll-Inline (record { place = p; condition = c; directives = ds; selection_set = s })) ≡ Inline p (condition_if c) (directives_of ds.items) (set_of s)
of_inline p c ds s = fold-roll-Inline Selection Selection Selection SelectionSet selection_step field_step inline_step set_step (record { place = p; condition = c; directives = ds; selection_set = s })

pub of_set : (p : Place) (ss : Vec rust-selection.Selection) → set_of (roll-SelectionSet (record { place = p; selections = ss })) ≡ set_at p (map_selections ss.items)
of_set p ss = fold-roll-SelectionSet Selection Selection Selection SelectionSet selection_step field_step inline_step set_step (record { place = p; selections = ss })

-- ---- one more item

pub values_push : (xs : List rust-literal.Literal) (x : rust-literal.Literal) (others : Values) → values_then (map literal_of (xs ++ x ∷ [])) others ≡ values_then (map literal_of xs) (and_value (literal_of x) others)
values_push [] x others = refl
values_push (y ∷ xs) x others = ap (and_value (literal_of y)) (values_push xs x others)

pub members_push : (xs : List rust-argument.Argument) (x : rust-argument.Argument) (others : Members)
    → members_then (map argument_of (xs ++ x ∷ [])) others ≡ members_then (map argument_of xs) (and_member (argument_of x).place (argument_of x).name (argument_of x).value others)
members_push [] x others = refl
members_push (y ∷ xs) x others = ap (and_member (argument_of y).place (argument_of y).name (argument_of y).value) (members_push xs x others)

pub map_push : {A B : Type 0} (f : A → B) (xs : List A) (x : A) (others : List B) → map f (xs ++ x ∷ []) ++ others ≡ map f xs ++ f x ∷ others
map_push f [] x others = refl
map_push f (y ∷ xs) x others = ap (λ zs. f y ∷ zs) (map_push f xs x others)

pub selections_push : (xs : List rust-selection.Selection) (x : rust-selection.Selection) (others : Selections)
    → selections_then (map selection_of (xs ++ x ∷ [])) others ≡ selections_then (map selection_of xs) (and_selection (selection_of x) others)
selections_push [] x others = refl
selections_push (y ∷ xs) x others = ap (and_selection (selection_of y)) (selections_push xs x others)
