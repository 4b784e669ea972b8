-- The total of the orders of a customer's friends, as a program: what it loads, one load at a time, and what comes of it.
use Rattle.std.specs.Prelude.{◌&&◌, ◌^◌, ◌+◌, ℕ, suc, pos, negsuc, false, Bool, List, [], ◌∷◌, Option, Some, None, option_map, length, nat_lt, codes, if◌then◌else◌}
use Rattle.std.specs.Fmt.{decimal}
use Rattle.std.specs.Str.{all_ascii_digits}
use Rattle.std.specs.Str.Parse.{digits_value, without_leading_plus}
use Rattle.load_memory.specs.Keys.{text}
use Rattle.load_memory.specs.Outcomes.{OutcomeOf, known, batch_fault, rows, key_fault}
use Rattle.load_memory.specs.Pairs.{MemoryOf}
use Rattle.load_memory.specs.Rows.{RowOf, cell_of}
use Rattle.execution.specs.Loads.{Load}
use Rattle.execution.specs.Program.{Leaf, Int, Text, Boolean, LeafValue, Value, Fault, ListOf, Item, FieldPosition, Program, Is, Read, Under, Programs, End, With}
use Rattle.execution.specs.Completion.{ResponseOf, NullResponse, LeafResponse, Holding, ResponsesOf, NoResponses, Responding, ErrorOf, AnsweredOf}
use Rattle.execution.specs.Front.{missing}
use Rattle.load_rounds.specs.Calls.{reader_of}

-- ---- what is loaded

-- an id, asked of the loader of a number: friends of 0, orders of 1
abbrev pub load_of : ℕ → List ℕ → Load
load_of loader id = record { loader = loader; key = text id }

-- decimal digits, of a number below 2^32
abbrev pub is_number : List ℕ → Bool
is_number digits =
    nat_lt 0 (length digits) && all_ascii_digits digits && nat_lt (digits_value 10 digits) (2 ^ 32)

-- the number that a text is, which may have a plus before its digits
abbrev pub number_of : List ℕ → Option ℕ
number_of digits = if is_number (without_leading_plus digits)
    then Some (digits_value 10 (without_leading_plus digits)) else None

abbrev pub number_in : Option (List ℕ) → Option ℕ
number_in None = None
number_in (Some digits) = number_of digits

-- gives what an order has in its column `amount`, if that is a number
abbrev pub amount_of : RowOf → Option ℕ
amount_of order = number_in (cell_of order (codes "amount"))

abbrev pub plus : Option ℕ → Option ℕ → Option ℕ
plus None sum = None
plus (Some amount) sum = option_map (λ n. amount + n) sum

-- the sum of the amounts of orders, if each has one
abbrev pub sum_of : List RowOf → Option ℕ
sum_of [] = Some 0
sum_of (order ∷ orders) = plus (amount_of order) (sum_of orders)

-- ---- the program

abbrev pub number_or_fault : Option ℕ → LeafValue
number_or_fault None = Fault (codes "an order without an amount")
number_or_fault (Some sum) = Value (Int (pos sum))

abbrev pub orders_total : OutcomeOf → Program
orders_total (known (rows orders)) = Is (number_or_fault (sum_of orders))
orders_total (known (key_fault fault)) = Is (Fault fault)
orders_total (batch_fault fault) = Is (Fault fault)

-- a friend's orders are one load, by what the friend's row has in the column `friend`
abbrev pub friend_total : Option (List ℕ) → Program
friend_total None = Is (Fault (codes "a friend without an id"))
friend_total (Some []) = Is (Fault (codes "a friend without an id"))
friend_total (Some (b ∷ bs)) = Read (load_of 1 (b ∷ bs)) orders_total

-- a place of a list, of nullable type; as there is no text, an error stands at the first character of one
abbrev pub item : ℕ → FieldPosition
item n = record { part = Item n; non_null = false; place = record { line = 1; column = 1 } }

-- an item for each friend, numbered from n
abbrev pub friend_totals : ℕ → List RowOf → Programs
friend_totals n [] = End
friend_totals n (friend ∷ friends) =
    With (item n) (friend_total (cell_of friend (codes "friend"))) (friend_totals (suc n) friends)

abbrev pub friends_total : OutcomeOf → Program
friends_total (known (rows friends)) = Under ListOf (friend_totals 0 friends)
friends_total (known (key_fault fault)) = Is (Fault fault)
friends_total (batch_fault fault) = Is (Fault fault)

-- the friends of a customer are one load
abbrev pub total_of_friends : List ℕ → Program
total_of_friends customer = Read (load_of 0 customer) friends_total

-- ---- the text of its response

-- the number that a leaf is, and 0 for any other leaf
abbrev pub number_at : Leaf → ℕ
number_at (Text t) = 0
number_at (Int (pos n)) = n
number_at (Int (negsuc n)) = 0
number_at (Boolean b) = 0

-- the sum of the numbers in a response
abbrev mutual
  pub sum_in : ResponseOf → ℕ
  sum_in NullResponse = 0
  sum_in (LeafResponse leaf) = number_at leaf
  sum_in (Holding kind below) = sum_below below

  pub sum_below : ResponsesOf → ℕ
  sum_below NoResponses = 0
  sum_below (Responding part r rest) = sum_in r + sum_below rest

abbrev pub first_message : List ErrorOf → List ℕ → List ℕ
first_message [] otherwise = otherwise
first_message (e ∷ es) otherwise = e.message

-- the message of the first error, or else the sum in decimal
abbrev pub total_text : AnsweredOf → List ℕ
total_text answered = first_message answered.errors (decimal (sum_in answered.response))

-- ---- what one look-up adds to the wants

-- the load, if the memory lacks it
abbrev pub lacked : MemoryOf → Load → List Load
lacked m load = missing (reader_of m) (load ∷ [])
