-- Definitions of what a bindings text means: its loaders in order, and how each field is answered.
use Rattle.std.specs.Prelude.{ℕ, ◌+◌, Bool, ◌&&◌, List, [], ◌∷◌, Option, Some, None, option_map, find, bytes_eq, if◌then◌else◌}
use Rattle.bindings_syntax.specs.Statements.{ByOf, KeyOf}

-- a loader: its name, its table, and by which columns it finds the rows of a key, if not all rows
pub record LoaderOf : Type 0 where
  pub name : List ℕ
  pub table : List ℕ
  pub by : Option ByOf

-- a loader of `via` after its first, by its number, and the column of the row before that has its key
pub record StepOf : Type 0 where
  pub loader : ℕ
  pub column : List ℕ

-- says how a field is answered; loaders by their numbers, from 0
pub data BindingOf : Type 0 where
  by_column : (column : List ℕ) → BindingOf
  by_one : (loader : ℕ) (key : KeyOf) → BindingOf
  by_many : (loader : ℕ) (key : KeyOf) → BindingOf
  by_each : (loader : ℕ) (argument : List ℕ) → BindingOf
  by_via : (loader : ℕ) (key : KeyOf) (steps : List StepOf) → BindingOf

-- the field of a type, with its binding
pub record BoundFieldOf : Type 0 where
  pub type_name : List ℕ
  pub field_name : List ℕ
  pub binding : BindingOf

pub record BindingsOf : Type 0 where
  pub loaders : List LoaderOf
  pub fields : List BoundFieldOf

abbrev pub is_loader : List ℕ → LoaderOf → Bool
is_loader q l = bytes_eq q l.name

abbrev pub binds : List ℕ → List ℕ → BoundFieldOf → Bool
binds ty name f = bytes_eq ty f.type_name && bytes_eq name f.field_name

-- the binding of this field of this type, if it has one
abbrev pub binding_in : List BoundFieldOf → List ℕ → List ℕ → Option BindingOf
binding_in fields ty name =
    option_map (λ (f : BoundFieldOf). f.binding) (find (binds ty name) fields)

-- the first loader of this name, with its number, where the list begins at number n
abbrev pub loader_from : ℕ → List LoaderOf → List ℕ → Option (ℕ × LoaderOf)
loader_from n [] q = None
loader_from n (l ∷ ls) q = if is_loader q l then Some (n, l) else loader_from (n + 1) ls q

abbrev pub loader_in : List LoaderOf → List ℕ → Option (ℕ × LoaderOf)
loader_in loaders q = loader_from 0 loaders q

abbrev pub number_of : Option (ℕ × LoaderOf) → Option ℕ
number_of found = option_map (λ (l : ℕ × LoaderOf). l.0) found
