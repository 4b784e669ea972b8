-- Complaints on a schema: the words of each, and when it is true.
use Rattle.std.specs.Prelude.{◌≡◌, ◌≢◌, ℕ, ◌<◌, ◌⊎◌, Bool, true, false, ◌||◌, List, [], ◌∷◌, length, codes, bytes_eq, nat_eq}
use Rattle.std.specs.List.{list_any}
use Rattle.text_place.specs.declared.place.Place.{Place}
use Rattle.gq_lexer.specs.declared.lexer.TheConstants.{MAX_BYTES}
use Rattle.fault_sentences.specs.declared.schema.SchemaComplaint.{SchemaComplaint}
use Rattle.fault_sentences.specs.declared.schema.SchemaComplaint.TheVariants as complaint
use Rattle.fault_sentences.specs.Places.{Found, NothingIsAt, StandsAt}
use Rattle.fault_sentences.specs.Words.{on_token}

-- ---- the words

abbrev pub lacks_member : List ℕ → List ℕ → List (List ℕ)
lacks_member ty interface = codes "the type \"" ∷ ty ∷ codes "\" lacks a field or an argument of \""
    ∷ interface ∷ codes "\", or has it with another type" ∷ []

abbrev pub schema_words : SchemaComplaint → List (List ℕ)
schema_words (complaint.CantStand token) = on_token [] token.now (codes " can't stand here")
schema_words complaint.EndsEarly = codes "the text ends too early" ∷ []
schema_words (complaint.DefinedTwice token) = on_token [] token.now (codes " is defined twice")
schema_words (complaint.UnknownType token) = on_token (codes "there is no type ") token.now []
schema_words (complaint.LacksMember ty interface) = lacks_member ty.now interface.now
schema_words complaint.NoRoot =
    codes "there is neither a type \"Query\" nor a \"schema\" that names the root type" ∷ []
schema_words (complaint.ReservedName token) =
    on_token (codes "the name ") token.now (codes " begins with two underscores")
schema_words (complaint.NotServed token) = on_token [] token.now (codes " isn't served")
schema_words (complaint.PairNotServed token next) =
    codes "\"" ∷ token.now ∷ codes " " ∷ next.now ∷ codes "\" isn't served" ∷ []
schema_words (complaint.DirectiveNotServed name) =
    codes "the directive \"@" ∷ name.now ∷ codes "\" isn't served" ∷ []
schema_words complaint.ListOfLists = codes "a list of lists isn't served" ∷ []
schema_words (complaint.WrongKind token) =
    on_token [] token.now (codes " is a type of another kind than is needed here")
schema_words (complaint.BadDefault token) =
    on_token (codes "the default ") token.now (codes " isn't of the type of its argument")
schema_words complaint.Refused = codes "the schema is refused" ∷ []

-- ---- when it is true

-- a word that isn't served with what stands behind it
abbrev pub is_of_pair : List ℕ → Bool
is_of_pair word = list_any (bytes_eq word) (codes "scalar" ∷ codes "input" ∷ codes "extend" ∷ [])

-- a word of which more is said than that it isn't served
abbrev pub says_more : List ℕ → Bool
says_more word = bytes_eq word (codes "@") || (bytes_eq word (codes "[") || is_of_pair word)

-- the faults S1 to S4, S6, S7, S10 and S11 are of what stands at their place
abbrev pub is_of_word : ℕ → Bool
is_of_word n = list_any (nat_eq n) (1 ∷ 2 ∷ 3 ∷ 4 ∷ 6 ∷ 7 ∷ 10 ∷ 11 ∷ [])

-- The fault Sn, for the number n, has this complaint where this stands.
abbrev pub IsSaidOf : ℕ → Found → SchemaComplaint → Type 0
IsSaidOf n f (complaint.CantStand token) = (n ≡ 1) × (token.now ≡ f.word)
IsSaidOf n f complaint.EndsEarly = ⊥
IsSaidOf n f (complaint.DefinedTwice token) = (n ≡ 2) × (token.now ≡ f.word)
IsSaidOf n f (complaint.UnknownType token) = (n ≡ 3) × (token.now ≡ f.word)
IsSaidOf n f (complaint.LacksMember ty interface) =
    (n ≡ 4) × (ty.now ≡ f.of_type) × (interface.now ≡ f.word)
IsSaidOf n f complaint.NoRoot = ⊥
IsSaidOf n f (complaint.ReservedName token) = (n ≡ 6) × (token.now ≡ f.word)
IsSaidOf n f (complaint.NotServed token) =
    (n ≡ 7) × (token.now ≡ f.word) × (says_more f.word ≡ false)
IsSaidOf n f (complaint.PairNotServed token next) =
    (n ≡ 7) × (token.now ≡ f.word) × (next.now ≡ f.next) × (is_of_pair f.word ≡ true)
IsSaidOf n f (complaint.DirectiveNotServed name) =
    (n ≡ 7) × (f.word ≡ codes "@") × (name.now ≡ f.next)
IsSaidOf n f complaint.ListOfLists = (n ≡ 7) × (f.word ≡ codes "[")
IsSaidOf n f (complaint.WrongKind token) = (n ≡ 10) × (token.now ≡ f.word)
IsSaidOf n f (complaint.BadDefault token) = (n ≡ 11) × (token.now ≡ f.word)
IsSaidOf n f complaint.Refused = is_of_word n ≡ false

-- The fault Sn, for the number n, has this complaint where nothing stands.
abbrev pub IsSaidOfNothing : ℕ → SchemaComplaint → Type 0
IsSaidOfNothing n complaint.EndsEarly = n ≡ 1
IsSaidOfNothing n complaint.NoRoot = n ≡ 5
IsSaidOfNothing n complaint.Refused = (n ≢ 1) × (n ≢ 5)
IsSaidOfNothing n _ = ⊥

-- It is said of what stands at the place.
pub record IsOfWord (n : ℕ) (at : Place) (schema : List ℕ) (c : SchemaComplaint) : Type 0 where
  pub found : Found
  pub stands : StandsAt schema at found
  pub said : IsSaidOf n found c

-- Nothing stands at the place.
pub record IsOfNothing (n : ℕ) (at : Place) (schema : List ℕ) (c : SchemaComplaint) : Type 0 where
  pub nothing : NothingIsAt schema at
  pub said : IsSaidOfNothing n c

-- The text is too long to be read.
pub record IsOfLongText (schema : List ℕ) (c : SchemaComplaint) : Type 0 where
  pub long : MAX_BYTES < length schema
  pub refused : c ≡ complaint.Refused

-- The complaint is one of the fault's number, on what stands at the place.
abbrev pub IsTrueOfSchema : ℕ → Place → List ℕ → SchemaComplaint → Type 0
IsTrueOfSchema n at schema c =
    IsOfWord n at schema c ⊎ (IsOfNothing n at schema c ⊎ IsOfLongText schema c)
