-- Small programs with their answers, worked by hand from the rules of the GraphQL specification.
use Rattle.std.specs.Prelude.{ℕ, true, false, List, [], ◌∷◌, Some, None, codes, if◌then◌else◌, ◌==◌}
use Rattle.load_memory.specs.Keys.{KeyOf, all, text}
use Rattle.load_memory.specs.Outcomes.{OutcomeOf, known, batch_fault, rows, key_fault}
use Rattle.text_place.specs.declared.place.Place.{Place}
use Rattle.load_memory.specs.Replies.{ReplyOf}
use Rattle.load_memory.specs.declared.key.KeyMode.TheVariants.{Exact, FoldAscii}
use Rattle.load_queue.specs.Answers.{given, outcomes_of}
use Rattle.load_queue.specs.Orders.{OrderOf}
use Rattle.execution.specs.Loads.{Load, Reader, Memory}
use Rattle.execution.specs.Rounds.{RuleOf}
use Rattle.execution.specs.Program.{Text, LeafValue, Value, Null, Fault, ListOf, ObjectOf, Part, Key, Item, FieldPosition, Program, Is, Read, Under, Programs, End, With}
use Rattle.execution.specs.Completion.{ResponseOf, NullResponse, LeafResponse, Holding, NoResponses, Responding, ErrorOf, AnsweredOf, null_message}

abbrev pub at_column : ℕ → Place
at_column column = record { line = 1; column = column }

abbrev pub nullable : Part → ℕ → FieldPosition
nullable part column = record { part = part; non_null = false; place = at_column column }

abbrev pub required : Part → ℕ → FieldPosition
required part column = record { part = part; non_null = true; place = at_column column }

abbrev pub key : List ℕ → Part
key name = Key name

-- an error's text, the column of its field, and its path
abbrev pub error : List ℕ → ℕ → List Part → ErrorOf
error message column path = record { message = message; place = at_column column; path = path }

abbrev pub answered : ResponseOf → List ErrorOf → AnsweredOf
answered response errors = record { response = response; errors = errors }

abbrev pub object : Programs → Program
object fields = Under ObjectOf fields

-- `{user(id:4){name}}`, where the user has no name
abbrev pub user_without_name : Program
user_without_name = object (With (nullable (key (codes "user")) 2)
    (object (With (required (key (codes "name")) 13) (Is Null) End)) End)

abbrev pub user_is_null : AnsweredOf
user_is_null =
    answered (Holding ObjectOf (Responding (key (codes "user")) NullResponse NoResponses))
    (error null_message 13 (key (codes "user") ∷ key (codes "name") ∷ []) ∷ [])

-- `{users{name}}` with the types `[User!]!` and `String!`: the second user has no name
abbrev pub user : LeafValue → Program
user name = object (With (required (key (codes "name")) 8) (Is name) End)

abbrev pub users_and_one_without_name : Program
users_and_one_without_name =
    object (With (required (key (codes "users")) 2) (Under ListOf (With (required (Item 0) 2)
    (user (Value (Text (codes "Ada")))) (With (required (Item 1) 2) (user Null) End))) End)

abbrev pub data_is_null : AnsweredOf
data_is_null = answered NullResponse
    (error null_message 8 (key (codes "users") ∷ Item 1 ∷ key (codes "name") ∷ []) ∷ [])

-- gives the same with the type `[User]!`: the null stops at the item
abbrev pub nullable_users : Program
nullable_users =
    object (With (required (key (codes "users")) 2) (Under ListOf (With (nullable (Item 0) 2)
    (user (Value (Text (codes "Ada")))) (With (nullable (Item 1) 2) (user Null) End))) End)

abbrev pub item_is_null : AnsweredOf
item_is_null =
    answered (Holding ObjectOf (Responding (key (codes "users")) (Holding ListOf
    (Responding (Item 0) (Holding ObjectOf (Responding (key (codes "name"))
    (LeafResponse (Text (codes "Ada"))) NoResponses))
    (Responding (Item 1) NullResponse NoResponses))) NoResponses))
    (error null_message 8 (key (codes "users") ∷ Item 1 ∷ key (codes "name") ∷ []) ∷ [])

-- `{user(id:1){name id best{id}}}`: the name is null, the id has a bad value, and the best user's too; each is of non-null
-- type but the best user, and each has its error, though the user becomes null
abbrev pub siblings_under_a_null : Program
siblings_under_a_null =
    object (With (nullable (key (codes "user")) 2) (object
    (With (required (key (codes "name")) 13) (Is Null)
    (With (required (key (codes "id")) 18) (Is (Fault (codes "bad")))
    (With (nullable (key (codes "best")) 21) (object
    (With (required (key (codes "id")) 26) (Is (Fault (codes "worse"))) End)) End)))) End)

abbrev pub each_has_its_error : AnsweredOf
each_has_its_error =
    answered (Holding ObjectOf (Responding (key (codes "user")) NullResponse NoResponses)) (
    error null_message 13 (key (codes "user") ∷ key (codes "name") ∷ [])
    ∷ error (codes "bad") 18 (key (codes "user") ∷ key (codes "id") ∷ [])
    ∷ error (codes "worse") 26 (key (codes "user") ∷ key (codes "best") ∷ key (codes "id") ∷ [])
    ∷ []
    )

abbrev pub load_of : ℕ → List ℕ → Load
load_of loader name = record { loader = loader; key = text name }

-- null for no rows, a text for some, and the fault's text for a fault
abbrev pub found : OutcomeOf → Program
found (known (rows [])) = Is Null
found (known (rows (r ∷ rs))) = Is (Value (Text (codes "row")))
found (known (key_fault fault)) = Is (Fault fault)
found (batch_fault fault) = Is (Fault fault)

-- two fields that read a load each, and one that reads a second load after its first
abbrev pub three_loads : Program
three_loads =
    object (With (nullable (key (codes "a")) 2) (Read (load_of 0 (codes "1")) found)
    (With (nullable (key (codes "b")) 4)
    (Read (load_of 0 (codes "2")) (λ outcome. Read (load_of 1 (codes "3")) found))
    (With (nullable (key (codes "c")) 6) (Read (load_of 0 (codes "1")) found) End)))

-- a list with one item, which is found by three loads one after another
abbrev pub through_four_loaders : Program
through_four_loaders =
    object (With (nullable (key (codes "a")) 2) (Read (load_of 0 (codes "1")) (λ rows. Under ListOf
    (With (nullable (Item 0) 2) (Read (load_of 1 (codes "2")) (λ second.
    Read (load_of 2 (codes "3")) (λ third. Read (load_of 3 (codes "4")) found))) End))) End)

-- only loader 0 is answered
abbrev pub first_answered : Reader
first_answered load = if load.loader == 0 then Some (known (rows [])) else None

abbrev pub fault_answered : Reader
fault_answered load = Some (batch_fault (codes "down"))

-- each of the three fields is null, and has the fault
abbrev pub three_faults : AnsweredOf
three_faults =
    answered (Holding ObjectOf (Responding (key (codes "a")) NullResponse (Responding
    (key (codes "b")) NullResponse (Responding (key (codes "c")) NullResponse NoResponses))))
    (error (codes "down") 2 (key (codes "a") ∷ []) ∷ error (codes "down") 4 (key (codes "b") ∷ [])
    ∷ error (codes "down") 6 (key (codes "c") ∷ []) ∷ [])

-- loader 0 folds its keys and is asked two at once; loader 1 has no limit
abbrev pub two_loaders : List RuleOf
two_loaders =
    record { mode = FoldAscii; limit = Some 2 } ∷ record { mode = Exact; limit = None } ∷ []

abbrev pub five_loads : List Load
five_loads = load_of 0 (codes "ABC") ∷ record { loader = 1; key = all } ∷ load_of 0 (codes "abc")
    ∷ load_of 0 (codes "b") ∷ load_of 0 (codes "c") ∷ []

-- the first of each cache key
abbrev pub four_loads : List Load
four_loads = load_of 0 (codes "ABC") ∷ record { loader = 1; key = all } ∷ load_of 0 (codes "b")
    ∷ load_of 0 (codes "c") ∷ []

abbrev pub order : ℕ → List KeyOf → OrderOf
order loader keys = record { loader = loader; keys = keys }

-- those of loader 0 in pieces of two keys, and then that of loader 1
abbrev pub three_orders : List OrderOf
three_orders = order 0 (text (codes "ABC") ∷ text (codes "b") ∷ [])
    ∷ order 0 (text (codes "c") ∷ []) ∷ order 1 (all ∷ []) ∷ []

-- two keys of loader 0, answered by one item
abbrev pub one_item_too_few : ReplyOf
one_item_too_few = record {
  loader = 0;
  keys = text (codes "ABC") ∷ text (codes "b") ∷ [];
  outcomes = outcomes_of 2 (given (rows [] ∷ []));
}

abbrev pub one_of_two : OutcomeOf
one_of_two = batch_fault (codes "the source answered 1 results for 2 keys")

abbrev pub nothing_known : Memory
nothing_known loader key = None
