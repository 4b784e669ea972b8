-- Receipts in the order of what was taken.
use Rattle.std.proofs.Common.{◌≡◌, ◌+◌, List, [], ◌∷◌, ◌++◌, sym, refl, ap, ap₂, ◌∙◌, append_assoc, Result, Ok, Err, IfOk, arith, true≢false, IsPermutation, All}
use Rattle.std.proofs.lemmas.List.Elements.{All-nil, All-cons}
use Rattle.load_memory.specs.Shelves.{IsOn}
use Rattle.std.specs.Prelude.{IsOk}
use Rattle.std.specs.Global.{Vec}
use Rattle.load_memory.specs.Keys.{KeyOf}
use Rattle.load_memory.specs.declared.shelf.Shelf.{Shelf}
use Rattle.load_memory.specs.declared.shelf.Receipt.{Receipt}
use Rattle.load_queue.specs.Answers.{AnswerOf}
use Rattle.load_queue.specs.Orders.{CutOf}
use Rattle.load_queue.specs.Loaders.{LoaderOf}
use Rattle.std.specs.declared.alloc.AllocError.{AllocError}
use Rattle.batch_workers.specs.declared.desk.Knowledge.{Knowledge}
use Rattle.batch_workers.specs.Desk.{knowledge}
use Rattle.batch_workers.specs.Round.{Shows, EachShown, AllAnswered}
use Rattle.batch_workers.specs.Work.{Worked}

module _ {S : Type 0} (may : S → List KeyOf → AnswerOf → Type 0) (loaders : List (LoaderOf S)) (shelf : Shelf) where
  pub shown_both : (os ps : List CutOf) (rs qs : List Receipt) → EachShown may loaders shelf os rs → EachShown may loaders shelf ps qs → EachShown may loaders shelf (os ++ ps) (rs ++ qs)
  shown_both [] ps [] qs a b = b
  shown_both [] ps (r ∷ rs) qs a b = absurd a
  shown_both (o ∷ os) ps [] qs a b = absurd a
  shown_both (o ∷ os) ps (r ∷ rs) qs a b = (a.0, shown_both os ps rs qs a.1 b)

  pub shown_on : (os : List CutOf) (rs : List Receipt) → EachShown may loaders shelf os rs → All (IsOn shelf) rs
  shown_on [] [] h = All-nil (IsOn shelf)
  shown_on [] (r ∷ rs) h = absurd h
  shown_on (o ∷ os) [] h = absurd h
  shown_on (o ∷ os) (r ∷ rs) h = All-cons (IsOn shelf) r rs h.0.0 (shown_on os rs h.1)

  pub answers_on : (orders : List CutOf) (r : Result (Vec Receipt) AllocError) → IfOk r (λ v. AllAnswered may loaders shelf orders v.items) → IfOk r (λ v. All (IsOn shelf) v.items)
  answers_on orders (Ok v) h = shown_on h.taken v.items h.fit
  answers_on orders (Err e) h = tt

  -- an order was taken, and its receipt joins the others
  pub served : (old v w : Knowledge) (x : CutOf) (r : Receipt) (rs qs : Vec Receipt) → Worked may loaders shelf old v (Ok rs) → w ≡ knowledge v.parts v.all (v.taken ++ x ∷ []) → Shows may loaders shelf x r → qs.items ≡ rs.items ++ r ∷ []
      → Worked may loaders shelf old w (Ok qs)
  served old v w x r rs qs h is shows items = record {
    parts = ap (λ (u : Knowledge). u.parts) is ∙ h.parts;
    all = ap (λ (u : Knowledge). u.all) is ∙ h.all;
    more = h.more ++ x ∷ [];
    taken = ap (λ (u : Knowledge). u.taken) is ∙ ap (λ l. l ++ x ∷ []) h.taken ∙ append_assoc old.taken h.more (x ∷ []);
    fit = rw items (shown_both h.more (x ∷ []) rs.items (r ∷ []) h.fit (shows, tt));
  }

  -- an order was taken, and memory ran out
  pub stopped : (old v w : Knowledge) (x : CutOf) (rs : Vec Receipt) (e : AllocError) → Worked may loaders shelf old v (Ok rs) → w ≡ knowledge v.parts v.all (v.taken ++ x ∷ []) → Worked may loaders shelf old w (Err e)
  stopped old v w x rs e h is = record {
    parts = ap (λ (u : Knowledge). u.parts) is ∙ h.parts;
    all = ap (λ (u : Knowledge). u.all) is ∙ h.all;
    more = h.more ++ x ∷ [];
    taken = ap (λ (u : Knowledge). u.taken) is ∙ ap (λ l. l ++ x ∷ []) h.taken ∙ append_assoc old.taken h.more (x ∷ []);
    fit = tt;
  }

  both_shown : (os ps : List CutOf) (a b r : Result (Vec Receipt) AllocError) → IfOk a (λ v. EachShown may loaders shelf os v.items) → IfOk b (λ v. EachShown may loaders shelf ps v.items)
      → IfOk r (λ v. IfOk a (λ x. IfOk b (λ y. v.items ≡ x.items ++ y.items))) → (IsOk r → IsOk a × IsOk b) → IfOk r (λ v. EachShown may loaders shelf (os ++ ps) v.items)
  both_shown os ps (Ok x) (Ok y) (Ok v) m t items oks = rw items (shown_both os ps x.items y.items m t)
  both_shown os ps (Ok x) (Err e) (Ok v) m t items oks = absurd (true≢false (sym (oks refl).1))
  both_shown os ps (Err e) b (Ok v) m t items oks = absurd (true≢false (sym (oks refl).0))
  both_shown os ps a b (Err e) m t items oks = tt

  -- two halves end, and their passes are joined
  pub both_worked : (old left right new mine theirs : Knowledge) (a b r : Result (Vec Receipt) AllocError)
      → Worked may loaders shelf left mine a → Worked may loaders shelf right theirs b
      → left.parts + right.parts ≡ old.parts → left.all ≡ old.all → left.taken ≡ old.taken → right.taken ≡ []
      → new ≡ knowledge (mine.parts + theirs.parts) mine.all (mine.taken ++ theirs.taken)
      → IfOk r (λ v. IfOk a (λ x. IfOk b (λ y. v.items ≡ x.items ++ y.items))) → (IsOk r → IsOk a × IsOk b)
      → Worked may loaders shelf old new r
  both_worked old left right new mine theirs a b r m t parts all taken none is items oks = record {
    parts = let p = ap (λ (u : Knowledge). u.parts) is in omega (arith, m.parts, t.parts);
    all = ap (λ (u : Knowledge). u.all) is ∙ m.all ∙ all;
    more = m.more ++ t.more;
    taken = let u = t.taken ∙ ap (λ l. l ++ t.more) none in
        let k = m.taken ∙ ap (λ l. l ++ m.more) taken in
        ap (λ (u : Knowledge). u.taken) is ∙ ap₂ ◌++◌ k u ∙ append_assoc old.taken m.more t.more;
    fit = both_shown m.more t.more a b r m.fit t.fit items oks;
  }

  -- all orders are answered where the pass with all parts finds that nothing waits
  pub answered : (orders : List CutOf) (first mid last : Knowledge) (a b r : Result (Vec Receipt) AllocError) → first ≡ knowledge 16 orders []
      → Worked may loaders shelf first mid a → Worked may loaders shelf mid last b → (last.parts ≡ 16 → IfOk b (λ _. IsPermutation last.all last.taken))
      → IfOk r (λ v. IfOk a (λ x. IfOk b (λ y. v.items ≡ x.items ++ y.items))) → (IsOk r → IsOk a × IsOk b)
      → IfOk r (λ v. AllAnswered may loaders shelf orders v.items)
  answered orders first mid last (Ok x) (Ok y) (Ok v) is m t whole items oks =
      let taken : last.taken ≡ m.more ++ t.more = t.taken ∙ ap (λ l. l ++ t.more) (m.taken ∙ ap (λ (u : Knowledge). u.taken ++ m.more) is) in
      let all : last.all ≡ orders = t.all ∙ m.all ∙ ap (λ (u : Knowledge). u.all) is in
      let perm : IsPermutation last.all last.taken = whole (t.parts ∙ m.parts ∙ ap (λ (u : Knowledge). u.parts) is) in
      record {
        taken = m.more ++ t.more;
        each_once = rw (all, taken) at perm;
        fit = rw items (shown_both m.more t.more x.items y.items m.fit t.fit);
      }
  answered orders first mid last (Ok x) (Err e) (Ok v) is m t whole items oks = absurd (true≢false (sym (oks refl).1))
  answered orders first mid last (Err e) b (Ok v) is m t whole items oks = absurd (true≢false (sym (oks refl).0))
  answered orders first mid last a b (Err e) is m t whole items oks = tt
