-- Fragments by their names (section 5.5.1.1). Of several of one name the first counts.
use Rattle.std.specs.Prelude.{◌≡◌, ℕ, Bool, List, Option, bytes_eq}
use Rattle.std.specs.Borrow.{Bor}
use Rattle.std.specs.HashMap.{HashMap, get_by}
use Rattle.gq_parser.specs.Tree.{Fragment}
use Rattle.gq_schema.specs.Places.{place_from}

abbrev pub is_fragment : List ℕ → Fragment → Bool
is_fragment name f = bytes_eq name f.name

-- the number of the first fragment of this name
abbrev pub fragment_place : List Fragment → List ℕ → Option ℕ
fragment_place fragments name = place_from 0 (is_fragment name) fragments

-- gives what the map has for the name q
abbrev pub number_at : {S : Type 0} → HashMap (Bor (List ℕ)) ℕ S → List ℕ → Option ℕ
number_at numbers q = get_by (λ k. bytes_eq q k.now) numbers

-- the map has the number of the first fragment of each name
abbrev pub AreNumbers : {S : Type 0} → List Fragment → HashMap (Bor (List ℕ)) ℕ S → Type 0
AreNumbers fragments numbers = (q : List ℕ) → number_at numbers q ≡ fragment_place fragments q
