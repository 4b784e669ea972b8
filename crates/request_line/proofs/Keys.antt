-- A key has one query and one name of its operation.
use Rattle.std.proofs.Common.{◌≡◌, ℕ, List, [], ◌∷◌, ◌++◌, Option, sym, ◌∙◌, arith}
use Rattle.request_line.specs.Keys.{IsKey, IsLine, SaysName}
use Rattle.request_line.specs.Requests.{RequestOf}

-- the first line of a text, and what follows it, are determined
pub first-line : (a b c d : List ℕ) → IsLine a → IsLine b → a ++ 10 ∷ c ≡ b ++ 10 ∷ d → (a ≡ b) × (c ≡ d)
first-line [] [] c d p q e = grind arith
first-line [] (y ∷ b) c d p q e = grind arith
first-line (x ∷ a) [] c d p q e = grind arith
first-line (x ∷ a) (y ∷ b) c d p q e = grind (arith, first-line a b c d)

same-name : (line : List ℕ) (u v : Option (List ℕ)) → SaysName line u → SaysName line v → u ≡ v
same-name [] u v h k = h ∙ sym k
same-name (c ∷ cs) u v h k = h ∙ sym k

pub one-operation : (key : List ℕ) (r s : RequestOf) → IsKey key r → IsKey key s → (r.query ≡ s.query) × (r.operation_name ≡ s.operation_name)
one-operation key r s h k =
    let first = first-line h.flags k.flags (h.name ++ 10 ∷ r.query) (k.name ++ 10 ∷ s.query) h.first k.first (sym h.lines ∙ k.lines) in
    let second = first-line h.name k.name r.query s.query h.second k.second first.1 in
    (second.1, same-name k.name r.operation_name s.operation_name (rw second.0 at h.says_name) k.says_name)
