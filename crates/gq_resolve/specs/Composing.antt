-- Definitions of what is put into an output, one part after another. These are proofs, which the laws of its
-- sink need here.
use Rattle.std.proofs.Common.{◌≡◌, ◌<◌, ◌≤◌, ℕ, List, [], ◌∷◌, ◌++◌, refl, sym, ap, ◌∙◌, subst, arith, append_assoc, append-nil, length, take}
use Rattle.std.specs.List.{flat_map, sum_by}
use Rattle.std.proofs.lemmas.Grind.{flat_map-append}
use Rattle.std.proofs.lemmas.List.Sums.{sum_by-append}
use Rattle.std.proofs.lemmas.List.{take_all, take_at}
use Rattle.std.proofs.lemmas.List.Elements.{All-head, All-tail}
use Rattle.std.proofs.Math.Nat.{le_refl, lt_of_lt_of_le}
use Rattle.load_memory.specs.Keys.{key_of}
use Rattle.load_memory.specs.Rows.{RowOf}
use Rattle.execution.specs.Loads.{Load, Reader}
use Rattle.execution.specs.Program.{Program}
use Rattle.execution.specs.Reads.{counted}
use Rattle.plan_program.specs.PlanPrograms.{read_key}
use Rattle.plan_walk.specs.Puts.{Put, OnwardOf, View}
use Rattle.plan_walk.specs.Positions.{onward_of}
use Rattle.gq_resolve.specs.Written.{put_reads, IsCounted, asks, put_asks, thinned, with_load, left_of, all_asks, AreWithin}
use Rattle.gq_resolve.specs.ReadBack.{StandsAt, AreInOrder, at_root}
use Rattle.gq_resolve.specs.AnswerTexts.{IsTextOf}
use Rattle.gq_resolve.specs.Outputs.{IsWithin, count_waiting, Puts}
use Rattle.plan_walk.specs.declared.waiting.BlockedPosition.{BlockedPosition}
use Rattle.gq_resolve.specs.declared.output.Output.{Output}

pub thinned-append : (noted xs ys : List Load)
    → thinned noted (xs ++ ys) ≡ thinned (thinned noted xs) ys
thinned-append noted [] ys = refl
thinned-append noted (x ∷ xs) ys = thinned-append (with_load noted x) xs ys

-- the loads of puts were counted, and then those of others
pub reads-more : (ps qs : List Put) (a b c : ℕ) → IsCounted (sum_by put_reads ps) a b
    → IsCounted (sum_by put_reads qs) b c → IsCounted (sum_by put_reads (ps ++ qs)) a c
reads-more ps qs a b c p q = omega (arith, p, q, sum_by-append put_reads ps qs)

-- of puts in order the first are in order
pub in-order-first : (ps qs : List Put) (s u : StandsAt) → AreInOrder (ps ++ qs) s u
    → (t : StandsAt) × AreInOrder ps s t × AreInOrder qs t u
in-order-first [] qs s u h = (s, refl, h)
in-order-first (x ∷ ps) qs s u (v, next, h) =
    let rest = in-order-first ps qs v u h in
    (rest.0, (v, next, rest.1), rest.2)

-- the first of two lists that are empty together
left-empty : (bs cs : List BlockedPosition) → bs ++ cs ≡ [] → bs ≡ []
left-empty [] cs e = refl
left-empty (b ∷ bs) cs e = absurd (cc e)

pub puts-none : (v : View) (o : Output) → Puts v [] o o
puts-none v o = record {
  first = ([], sym (append-nil o.blocked));
  within = λ h. h;
  asked = λ R. refl;
  loads = ap counted (omega arith);
  written = λ none most qs t order is. rw (append-nil qs) is;
}

pub puts-more : (v : View) (ps qs : List Put) (a b c : Output)
    → Puts v ps a b → Puts v qs b c → Puts v (ps ++ qs) a c
puts-more v ps qs a b c p q = record {
  first = (
    p.first.0 ++ q.first.0,
    q.first.1 ∙ ap (λ bs. bs ++ q.first.0) p.first.1 ∙ append_assoc a.blocked p.first.0 q.first.0,
  );
  within = λ h. q.within (p.within h);
  asked = λ R. q.asked R ∙ ap (λ ls. thinned ls (flat_map (put_asks R) qs)) (p.asked R)
      ∙ sym (thinned-append (thinned [] (all_asks v a.blocked R)) (flat_map (put_asks R) ps)
      (flat_map (put_asks R) qs))
      ∙ ap (thinned (thinned [] (all_asks v a.blocked R)))
      (sym (flat_map-append (put_asks R) ps qs));
  loads = reads-more ps qs a.loads b.loads c.loads p.loads q.loads;
  written = λ none most rs t order is.
      let whole : b.blocked ≡ [] = left-empty b.blocked q.first.0 (sym q.first.1 ∙ none) in
      let all : AreInOrder ((rs ++ ps) ++ qs) at_root t =
      subst (λ (xs : List Put). AreInOrder xs at_root t) (sym (append_assoc rs ps qs)) order in
      let first = in-order-first (rs ++ ps) qs at_root t all in
      subst (λ (xs : List Put). IsTextOf most xs c.text) (append_assoc rs ps qs)
      (q.written none most (rs ++ ps) t all (p.written whole most rs first.0 first.1 is));
}

-- ---- positions of the first groups

pub within-rises : (n m : ℕ) (o : Output) → n ≤ m → IsWithin n o → IsWithin m o
within-rises n m o le h = λ k d lt. lt_of_lt_of_le (h k d lt) le

pub within-stays : (v : View) (ps : List Put) (a b : Output)
    → Puts v ps a b → IsWithin v.count a → IsWithin v.count b
within-stays v ps a b p = p.within

-- as many as before are the same
same-keys : (a b rest : List BlockedPosition) → b ≡ a ++ rest → length a ≡ length b → b ≡ a
same-keys a b rest e same =
    sym (take_all (length b) b (le_refl (length b))) ∙ ap (λ n. take n b) (sym same)
    ∙ ap (take (length a)) e ∙ take_at a rest (length a) refl

-- over two views that tell the same of them, they ask the same
pub asks-narrow : (v w : View) (n : ℕ) (bs : List BlockedPosition) (R : Reader)
    → ((o : OnwardOf) → o.group < n → v.after o ≡ w.after o)
    → AreWithin n bs → all_asks v bs R ≡ all_asks w bs R
asks-narrow v w n [] R same h = refl
asks-narrow v w n (b ∷ bs) R same h =
    ap (λ (f : List RowOf → Program).
    asks (read_key b.loader (key_of b.key) f) R ++ all_asks v bs R)
    (same (onward_of b.onward) (All-head (λ (x : BlockedPosition). x.onward.group < n) b bs h))
    ∙ ap (λ ls. asks (left_of w b) R ++ ls) (asks-narrow v w n bs R same
    (All-tail (λ (x : BlockedPosition). x.onward.group < n) b bs h))

pub puts-narrow : (v w : View) (n : ℕ) (ps : List Put) (a b : Output) → n ≤ v.count
    → ((o : OnwardOf) → o.group < n → v.after o ≡ w.after o) → IsWithin n a
    → count_waiting a ≡ count_waiting b → Puts w ps a b → Puts v ps a b
puts-narrow v w n ps a b le same within count p =
    let keys : b.blocked ≡ a.blocked = same-keys a.blocked b.blocked p.first.0 p.first.1 count in
    record {
      first = p.first;
      within = λ h. subst (AreWithin v.count) (sym keys) h;
      asked = λ R.
          let alike : all_asks v a.blocked R ≡ all_asks w a.blocked R =
          asks-narrow v w n a.blocked R same within in
          ap (λ bs. thinned [] (all_asks v bs R)) keys ∙ ap (thinned []) alike
          ∙ ap (λ bs. thinned [] (all_asks w bs R)) (sym keys)
          ∙ p.asked R ∙ ap (λ ls. thinned (thinned [] ls) (flat_map (put_asks R) ps)) (sym alike);
      loads = p.loads;
      written = p.written;
    }
