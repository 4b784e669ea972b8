-- The messages of field errors, and the numbers in texts.
use Rattle.std.specs.Prelude.{ℕ, Bool, false, ◌==◌, ◌&&◌, ◌||◌, nat_le, List, [], ◌∷◌, ◌++◌, codes, bytes_eq, if◌then◌else◌}
use Rattle.std.specs.Str.{all_ascii_digits}

abbrev pub null_argument_message : List ℕ → List ℕ
null_argument_message name = codes "null for the non-null argument " ++ name

abbrev pub bad_value_message : List ℕ → List ℕ
bad_value_message column = codes "bad value in column " ++ column

abbrev pub no_column_message : List ℕ → List ℕ
no_column_message column = codes "no column " ++ column

abbrev pub no_type_message : List ℕ
no_type_message = codes "no object type"

abbrev pub not_type_message : List ℕ → List ℕ
not_type_message name = codes "no object type " ++ name

abbrev pub is_digit_one_to_nine : ℕ → Bool
is_digit_one_to_nine c = nat_le 49 c && nat_le c 57

-- `0`, or digits of which the first isn't 0
abbrev pub is_unsigned_text : List ℕ → Bool
is_unsigned_text [] = false
is_unsigned_text (c ∷ cs) =
    (is_digit_one_to_nine c && all_ascii_digits cs) || bytes_eq (c ∷ cs) (codes "0")

-- the text of an Int (section 2.9.1): such digits, with a `-` before them or not
abbrev pub is_int_text : List ℕ → Bool
is_int_text [] = false
is_int_text (c ∷ cs) = if c == 45 then is_unsigned_text cs else is_unsigned_text (c ∷ cs)
