-- Definitions of what a walk over a program puts into a sink, one thing after another.
use Rattle.std.specs.Prelude.{◌≡◌, ◌<◌, ℕ, zero, suc, Bool, List, [], ◌∷◌, ◌++◌, Option}
use Rattle.load_memory.specs.Rows.{RowOf}
use Rattle.load_memory.specs.Keys.{KeyOf}
use Rattle.execution.specs.Loads.{Reader}
use Rattle.execution.specs.Program.{LeafValue, Kind, FieldPosition, Program, Is, Read, Under, Programs, End, With, given}
use Rattle.plan_program.specs.PlanPrograms.{read_key}

pub data Put : Type 0 where
  -- an object or a list begins; and ends, whose type is non-null or not
  Begins : Kind → Put
  Ends : Kind → Bool → Put
  -- a position of an object or a list follows
  Enters : Kind → FieldPosition → Put
  -- a position with nothing below it, whose type is non-null or not
  Has : Bool → LeafValue → Put
  -- a position reads a load
  Reads : Put
  -- it waits for that load, and then goes on so
  Waits : Program → Put

-- so many loads are read
abbrev pub reads : ℕ → List Put
reads zero = []
reads (suc n) = Reads ∷ reads n

-- gives what is put of a position, whose type is non-null or not
abbrev mutual
  pub puts : Bool → Program → Reader → List Put
  puts non_null (Is leaf_value) R = Has non_null leaf_value ∷ []
  puts non_null (Read load next) R = Reads ∷ given (R load) (Waits (Read load next) ∷ [])
      (λ outcome. puts non_null (next outcome) R)
  puts non_null (Under kind below) R =
      Begins kind ∷ (all_puts kind below R ++ Ends kind non_null ∷ [])

  pub all_puts : Kind → Programs → Reader → List Put
  all_puts kind End R = []
  all_puts kind (With position p rest) R =
      Enters kind position ∷ (puts position.non_null p R ++ all_puts kind rest R)

-- says how many positions an object or a list has
abbrev pub entries : Programs → ℕ
entries End = 0
entries (With position p rest) = suc (entries rest)

-- Continuation of a position after a load: by what its group does with the rows, or, after a later
-- load of a `via`, by the first of them and `later` more loaders. Below it are `levels` levels of
-- objects.
pub record OnwardOf : Type 0 where
  pub group : ℕ
  pub later : Option ℕ
  pub levels : ℕ

-- says how many groups there are, and what each does with the rows of its load
pub record View : Type 0 where
  pub count : ℕ
  pub after : OnwardOf → List RowOf → Program

-- the groups before this number do the same in both
abbrev pub Agree : ℕ → View → View → Type 0
Agree n v w = (onward : OnwardOf) → onward.group < n → v.after onward ≡ w.after onward

-- the program of a position that waits
abbrev pub waiting : View → OnwardOf → ℕ → KeyOf → Program
waiting v onward loader key = read_key loader key (v.after onward)

-- a position that waits for a load, and then goes on so
abbrev pub a_wait : View → OnwardOf → ℕ → KeyOf → List Put
a_wait v onward loader key = Waits (waiting v onward loader key) ∷ []
