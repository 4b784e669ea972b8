-- The tokens of lists, item by item.
use Rattle.std.proofs.Common.{◌≡◌, ◌∙◌, List, [], ◌∷◌, ◌++◌, map, refl, ap, sym, append_assoc, Result, Ok, Err, OnOk}
use Rattle.std.specs.List.{flat_map}
use Rattle.json.specs.Json.{Json}
use Rattle.json.specs.Token.{Token}
use Rattle.json.specs.Tree.{json_tokens, items_tokens}
use Rattle.json.specs.Value.{items_of}

-- each value of a list, and its end
pub items-are : {X : Type 0} (f : X → Json) (xs : List X) → items_tokens (items_of (map f xs)) ≡ flat_map (λ x. json_tokens (f x)) xs ++ Token.end_array ∷ []
items-are f [] = refl
items-are f (x ∷ xs) = ap (λ ts. json_tokens (f x) ++ ts) (items-are f xs) ∙ sym (append_assoc (json_tokens (f x)) (flat_map (λ x. json_tokens (f x)) xs) (Token.end_array ∷ []))

-- a list is its begin, its values and its end
pub array-put : {X E : Type 0} (f : X → Json) (xs : List X) (r : Result (Unit {0}) E) (old begun mid new : List Token) → begun ≡ old ++ Token.begin_array ∷ [] → mid ≡ begun ++ flat_map (λ x. json_tokens (f x)) xs
    → OnOk r (new ≡ mid ++ Token.end_array ∷ []) → OnOk r (new ≡ old ++ Token.begin_array ∷ items_tokens (items_of (map f xs)))
array-put f xs (Ok x) old begun mid new b m e =
    let values = flat_map (λ x. json_tokens (f x)) xs in
    let last : List Token = Token.end_array ∷ [] in
    e ∙ ap (λ ts. ts ++ last) m ∙ ap (λ ts. (ts ++ values) ++ last) b ∙ append_assoc (old ++ Token.begin_array ∷ []) values last ∙ append_assoc old (Token.begin_array ∷ []) (values ++ last)
    ∙ ap (λ ts. old ++ Token.begin_array ∷ ts) (sym (items-are f xs))
array-put f xs (Err x) old begun mid new b m e = tt
