-- The views of values, case by case, and of lists that grow.
use Rattle.std.proofs.Common.{◌≡◌, ℕ, Bool, List, [], ◌∷◌, ◌++◌, map, refl, sym, ap, ◌∙◌}
use Rattle.std.specs.Global.{Vec, Global}
use Rattle.text_place.specs.declared.place.Place.{Place}
use Rattle.gq_parser.specs.declared.tree.Argument as rust-argument
use Rattle.gq_parser.specs.declared.tree.Literal as rust-literal
use Rattle.gq_parser.specs.declared.tree.Value as rust-value
use Rattle.gq_parser.specs.declared.tree.Value.TheVariants as value
use Rattle.gq_parser.specs.declared.tree.Value.TheOpen as open-value
use Rattle.gq_parser.specs.declared.tree.Value.TheViews.{roll-Literal, roll-Argument}
use Rattle.gq_parser.specs.declared.tree.Value.TheFolds.{fold-Value, fold-roll-Value, fold-roll-Literal, fold-roll-Argument}
use Rattle.gq_parser.specs.Tree.{Value, Int, Float, Text, Boolean, Null, Enum, Array, Object, Values, and_value, Members, and_member, values_then, members_then, Argument}
use Rattle.gq_parser.specs.Tree.{literal_of, map_literals, argument_of, map_members, value_step, argument_step, literal_step}

-- a literal at a place
abbrev pub the_literal : Place → rust-value.Value → rust-literal.Literal
the_literal p v = roll-Literal (record { place = p; value = v })

abbrev value_of : rust-value.Value → Place → Value
value_of = fold-Value (Place → Value) Argument Value value_step argument_step literal_step

of_literal : (p : Place) (v : rust-value.Value) → literal_of (the_literal p v) ≡ value_of v p
of_literal p v = fold-roll-Literal (Place → Value) Argument Value value_step argument_step literal_step (record { place = p; value = v })

-- a literal says what its value says, at its place
said : (p : Place) (v : rust-value.Value) (rolled : rust-value.Value) (w : Place → Value) → rolled ≡ v → value_of rolled ≡ w → literal_of (the_literal p v) ≡ w p
said p v rolled w e h = of_literal p v ∙ ap (λ x. value_of x p) (sym e) ∙ ap (λ f. f p) h

pub literal_int : (p : Place) (n : List ℕ) → literal_of (the_literal p (value.Int n)) ≡ Int p n
literal_int p n = said p (value.Int n) _ _ (value.rolls-Int n) (fold-roll-Value (Place → Value) Argument Value value_step argument_step literal_step (open-value.Int n))

pub literal_float : (p : Place) (n : List ℕ) → literal_of (the_literal p (value.Float n)) ≡ Float p n
literal_float p n = said p (value.Float n) _ _ (value.rolls-Float n) (fold-roll-Value (Place → Value) Argument Value value_step argument_step literal_step (open-value.Float n))

pub literal_text : (p : Place) (n : List ℕ) → literal_of (the_literal p (value.Text n)) ≡ Text p n
literal_text p n = said p (value.Text n) _ _ (value.rolls-Text n) (fold-roll-Value (Place → Value) Argument Value value_step argument_step literal_step (open-value.Text n))

pub literal_boolean : (p : Place) (b : Bool) → literal_of (the_literal p (value.Boolean b)) ≡ Boolean p b
literal_boolean p b = said p (value.Boolean b) _ _ (value.rolls-Boolean b) (fold-roll-Value (Place → Value) Argument Value value_step argument_step literal_step (open-value.Boolean b))

pub literal_null : (p : Place) → literal_of (the_literal p value.Null) ≡ Null p
literal_null p = said p value.Null _ _ value.rolls-Null (fold-roll-Value (Place → Value) Argument Value value_step argument_step literal_step open-value.Null)

pub literal_enum : (p : Place) (n : List ℕ) → literal_of (the_literal p (value.Enum n)) ≡ Enum p n
literal_enum p n = said p (value.Enum n) _ _ (value.rolls-Enum n) (fold-roll-Value (Place → Value) Argument Value value_step argument_step literal_step (open-value.Enum n))

pub literal_list : (p : Place) (vs : Vec rust-literal.Literal) → literal_of (the_literal p (value.List vs)) ≡ Array p (map_literals vs.items)
literal_list p vs = said p (value.List vs) _ _ (value.rolls-List vs) (fold-roll-Value (Place → Value) Argument Value value_step argument_step literal_step (open-value.List vs))

pub literal_object : (p : Place) (ms : Vec rust-argument.Argument) → literal_of (the_literal p (value.Object ms)) ≡ Object p (map_members ms.items)
literal_object p ms = said p (value.Object ms) _ _ (value.rolls-Object ms) (fold-roll-Value (Place → Value) Argument Value value_step argument_step literal_step (open-value.Object ms))

pub of_argument : (p : Place) (n : List ℕ) (v : rust-literal.Literal) → argument_of (roll-Argument (record { place = p; name = n; value = v })) ≡ record { place = p; name = n; value = literal_of v }
of_argument p n v = fold-roll-Argument (Place → Value) Argument Value value_step argument_step literal_step (record { place = p; name = n; value = v })

pub values_push : (xs : List rust-literal.Literal) (x : rust-literal.Literal) (others : Values) → values_then (map literal_of (xs ++ x ∷ [])) others ≡ values_then (map literal_of xs) (and_value (literal_of x) others)
values_push [] x others = refl
values_push (y ∷ xs) x others = ap (and_value (literal_of y)) (values_push xs x others)

pub members_push : (xs : List rust-argument.Argument) (x : rust-argument.Argument) (others : Members)
    → members_then (map argument_of (xs ++ x ∷ [])) others ≡ members_then (map argument_of xs) (and_member (argument_of x).place (argument_of x).name (argument_of x).value others)
members_push [] x others = refl
members_push (y ∷ xs) x others = ap (and_member (argument_of y).place (argument_of y).name (argument_of y).value) (members_push xs x others)

-- a list that grew by one, seen by a view
pub view_push : {A B : Type 0} (view : A → B) (xs : List A) (x : A) (others : List B) → map view (xs ++ x ∷ []) ++ others ≡ map view xs ++ view x ∷ others
view_push view [] x others = refl
view_push view (y ∷ xs) x others = ap (λ zs. view y ∷ zs) (view_push view xs x others)
