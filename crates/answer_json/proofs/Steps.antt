-- Runs of tokens, one after another, and reading them back.
use Rattle.std.proofs.Common.{◌≡◌, ◌≤◌, ℕ, List, [], ◌++◌, sym, ap, ◌∙◌, append_assoc, append-nil, Result, Ok, Err, OnOk, Some, option_and_then}
use Rattle.json.specs.Token.{Token}
use Rattle.json.specs.Json.{Json, if_last, value}
use Rattle.json.specs.Lex.{tokens}
use Rattle.json.specs.Tree.{json_tokens, depth}
use Rattle.json.proofs.Printed.Trees.{value-json_tokens}
use Rattle.answer_json.specs.Answer.{read_within}

pub then_put : (old ts us mid new : List Token) → mid ≡ old ++ ts → new ≡ mid ++ us → new ≡ old ++ (ts ++ us)
then_put old ts us mid new h k = k ∙ ap (λ l. l ++ us) h ∙ append_assoc old ts us

-- the last run, whose call is the result
pub last_put : {E : Type 0} (r : Result (Unit {0}) E) (old ts us mid new : List Token) → mid ≡ old ++ ts → OnOk r (new ≡ mid ++ us) → OnOk r (new ≡ old ++ (ts ++ us))
last_put (Ok x) old ts us mid new h k = then_put old ts us mid new h k
last_put (Err e) old ts us mid new h k = tt

-- the tokens of a value are read as that value
pub reads : (j : Json) (text : List ℕ) → tokens text ≡ json_tokens j → (limit : ℕ) → depth j ≤ limit → read_within limit text ≡ Some j
reads j text h limit shallow =
    let last = option_and_then (λ p. if_last p.0 p.1) in
    ap (λ ts. last (value limit ts)) (h ∙ sym (append-nil (json_tokens j))) ∙ ap last (value-json_tokens j limit [] shallow)
