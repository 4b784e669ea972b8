-- Orders by their loaders and their lists of keys.
use Rattle.std.proofs.Common.{◌≡◌, ℕ, suc, List, [], ◌∷◌, ◌++◌, map, length, refl, ap}
use Rattle.std.proofs.lemmas.Option.{slice_get-map}
use Rattle.std.specs.Prelude.{slice_get, option_map, Option, None, Some}
use Rattle.load_memory.specs.Keys.{KeyOf}
use Rattle.load_queue.specs.Orders.{OrderOf, order_of}
use Rattle.flat_orders.specs.Orders.{paired_orders, keys_of}

suc-same : (m n : ℕ) → suc m ≡ suc n → m ≡ n
suc-same m n e = cc

pub paired-more : (loaders : List ℕ) (lists : List (List KeyOf)) (l : ℕ) (keys : List KeyOf) → length loaders ≡ length lists
    → paired_orders (loaders ++ l ∷ []) (lists ++ keys ∷ []) ≡ paired_orders loaders lists ++ order_of l keys ∷ []
unfolding paired_orders
paired-more [] [] l keys e = refl
paired-more [] (k ∷ ks) l keys e = absurd (cc)
paired-more (x ∷ xs) [] l keys e = absurd (cc)
paired-more (x ∷ xs) (k ∷ ks) l keys e = ap (λ os. order_of x k ∷ os) (paired-more xs ks l keys (suc-same _ _ e))

-- the lists are the keys of the orders
pub paired-keys : (loaders : List ℕ) (lists : List (List KeyOf)) → length loaders ≡ length lists → map keys_of (paired_orders loaders lists) ≡ lists
unfolding paired_orders
paired-keys [] [] e = refl
paired-keys [] (k ∷ ks) e = absurd (cc)
paired-keys (x ∷ xs) [] e = absurd (cc)
paired-keys (x ∷ xs) (k ∷ ks) e = ap (λ ls. k ∷ ls) (paired-keys xs ks (suc-same _ _ e))

both : (o : Option OrderOf) → option_map (λ keys. length keys) (option_map keys_of o) ≡ option_map (λ order. length (keys_of order)) o
both None = refl
both (Some o) = refl

-- the number of keys that the order of a number has
pub count-of : (orders : List OrderOf) (lists : List (List KeyOf)) (i : ℕ) → map keys_of orders ≡ lists
    → option_map (λ keys. length keys) (slice_get lists i) ≡ option_map (λ o. length (keys_of o)) (slice_get orders i)
count-of orders lists i e = rw (← e, slice_get-map keys_of orders i) (both (slice_get orders i))
