-- Orders that run one after another, and loaders that are marked one after another.
use Rattle.std.proofs.Common.{◌≡◌, ℕ, zero, suc, ◌<◌, List, [], ◌∷◌, ◌++◌, map, take, drop, length, get_or, refl, ap, ◌∙◌, arith, append_assoc}
use Rattle.std.proofs.lemmas.List.{map-append, length_push}
use Rattle.std.specs.Prelude.{slice_set}
use Rattle.load_memory.specs.Keys.{KeyOf}
use Rattle.load_memory.specs.Replies.{ReplyOf, reply_of}
use Rattle.load_memory.specs.declared.reply.Reply.{Reply}
use Rattle.load_queue.specs.Answers.{AnswerOf}
use Rattle.load_queue.specs.Orders.{OrderOf}
use Rattle.execution.specs.Rounds.{IsReply, AreReplies}

-- one reply more
pub replies-more : (may : ℕ → List KeyOf → AnswerOf → Type 0) (all rest next : List OrderOf) (o : OrderOf) (done now : List Reply) (r : Reply) → rest ≡ o ∷ next → now ≡ done ++ r ∷ [] → IsReply may o (reply_of r)
    → ((more : List ReplyOf) → AreReplies may rest more → AreReplies may all (map reply_of done ++ more))
    → (more : List ReplyOf) → AreReplies may next more → AreReplies may all (map reply_of now ++ more)
replies-more may all rest next o done now r is put fits so more h =
    let whole : AreReplies may all (map reply_of done ++ (reply_of r ∷ more)) = so (reply_of r ∷ more) (rw is (fits, h)) in
    let e : map reply_of now ++ more ≡ map reply_of done ++ (reply_of r ∷ more) = ap (λ (rs : List Reply). map reply_of rs ++ more) put ∙ ap (λ rs. rs ++ more) (map-append reply_of done (r ∷ [])) ∙ append_assoc (map reply_of done) (reply_of r ∷ []) more in
    rw e whole

heads : {X : Type 0} (x y : X) (xs ys : List X) → x ∷ xs ≡ y ∷ ys → x ≡ y
heads x y xs ys e = cc e

tails : {X : Type 0} (x y : X) (xs ys : List X) → x ∷ xs ≡ y ∷ ys → xs ≡ ys
tails x y xs ys e = cc e

-- one element more is replaced
pub replaced-more : {X : Type 0} (f : X → X) (i n : ℕ) (cur all : List X) (d x : X) → n ≡ suc i → i < length cur → d ≡ get_or cur i d → x ≡ f d → cur ≡ map f (take i all) ++ drop i all → slice_set cur i x ≡ map f (take n all) ++ drop n all
replaced-more f i n [] all d x next lt at is h = absurd (omega arith)
replaced-more f zero n (c ∷ cur) (a ∷ all) d x next lt at is h =
    let first : x ≡ f a = is ∙ ap f (at ∙ heads c a cur all h) in
    rw next (ap (λ y. y ∷ cur) first ∙ ap (λ ys. f a ∷ ys) (tails c a cur all h))
replaced-more f (suc i) n (c ∷ cur) (a ∷ all) d x next lt at is h =
    let first = heads c (f a) cur (map f (take i all) ++ drop i all) h in
    let rest = tails c (f a) cur (map f (take i all) ++ drop i all) h in
    rw (next, first) (ap (λ xs. f a ∷ xs) (replaced-more f i (suc i) cur all d x refl (omega arith) at is rest))
replaced-more f i n cur all d x next lt at is h = absurd (cc h)

pub length-replaced : {X : Type 0} (f : X → X) (i : ℕ) (all : List X) → length (map f (take i all) ++ drop i all) ≡ length all
length-replaced f zero [] = refl
length-replaced f (suc i) [] = refl
length-replaced f zero (a ∷ all) = refl
length-replaced f (suc i) (a ∷ all) = ap suc (length-replaced f i all)

pub none-left : {X : Type 0} (xs : List X) → length xs ≡ 0 → xs ≡ []
none-left [] e = refl
none-left (x ∷ xs) e = absurd (omega (arith, e))

-- a list of one is what is taken off its end
pub only : {X : Type 0} (all rest : List X) (x : X) → all ≡ rest ++ x ∷ [] → length all ≡ 1 → all ≡ x ∷ []
only all [] x is one = is
only all (y ∷ rest) x is one = absurd (omega (arith, one, ap length is, length_push (y ∷ rest) x))
