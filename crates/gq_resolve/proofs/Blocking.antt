-- Positions that wait are noted each once, and over each memory they ask what they would ask noted each time.
use Rattle.std.proofs.Common.{◌≡◌, ◌<◌, ◌==◌, ℕ, true, false, List, [], ◌∷◌, Option, Some, None, ◌++◌, length, inl, inr, refl, sym, ap, ◌∙◌, subst, arith, append-nil, length-append, eqb-true}
use Rattle.std.specs.List.{list_any}
use Rattle.std.specs.Option.{option_eq}
use Rattle.std.proofs.lemmas.Bool.{and_parts, or_cases, cond_both}
use Rattle.std.proofs.lemmas.List.{flat_map_more}
use Rattle.std.proofs.lemmas.List.Elements.{All-push}
use Rattle.load_memory.specs.Keys.{KeyOf, key_of}
use Rattle.load_memory.proofs.Looks.{same_key-is}
use Rattle.execution.specs.Loads.{Load, Reader}
use Rattle.plan_walk.specs.Puts.{Waits, View, waiting}
use Rattle.plan_walk.specs.Positions.{onward_of}
use Rattle.plan_walk.specs.Noted.{is_onward, is_position, with_position, IsNoted}
use Rattle.gq_resolve.specs.Written.{asks, thinned, left_of, all_asks, AreWithin}
use Rattle.gq_resolve.specs.Outputs.{Puts}
use Rattle.gq_resolve.specs.Composing.{thinned-append}
use Rattle.plan_walk.specs.declared.positions.Onward.{Onward}
use Rattle.plan_walk.specs.declared.waiting.BlockedPosition.{BlockedPosition}
use Rattle.gq_resolve.specs.declared.output.Output.{Output}
use Rattle.gq_resolve.proofs.Thinning.{noted-again}

later-same : (p q : Option ℕ) → option_eq (λ (a b : ℕ). a == b) p q ≡ true → p ≡ q
later-same None None h = refl
later-same (Some n) (Some m) h = ap Some (eqb-true n m h)
later-same (Some n) None h = absurd (cc h)
later-same None (Some m) h = absurd (cc h)

-- positions that are the same go on alike
alike : (v : View) (b x : BlockedPosition) → is_position b x ≡ true → left_of v b ≡ left_of v x
alike v b x h =
    let outer = and_parts (is_onward b.onward x.onward) _ h in
    let load = and_parts (b.loader == x.loader) _ outer.1 in
    let first = and_parts (b.onward.group == x.onward.group) _ outer.0 in
    let others = and_parts (option_eq (λ (n m : ℕ). n == m) b.onward.later x.onward.later) _ first.1 in
    let group : b.onward.group ≡ x.onward.group = eqb-true b.onward.group x.onward.group first.0 in
    let later : b.onward.later ≡ x.onward.later = later-same b.onward.later x.onward.later others.0 in
    let levels : b.onward.levels ≡ x.onward.levels = eqb-true b.onward.levels x.onward.levels others.1 in
    let loader : b.loader ≡ x.loader = eqb-true b.loader x.loader load.0 in
    let key : key_of b.key ≡ key_of x.key = same_key-is (key_of b.key) (key_of x.key) load.1 in
    rw (group, later, levels, loader, key) refl

-- one that is there asks nothing more
again : (v : View) (R : Reader) (b : BlockedPosition) (bs : List BlockedPosition) (noted : List Load) → list_any (is_position b) bs ≡ true → thinned (thinned noted (all_asks v bs R)) (asks (left_of v b) R) ≡ thinned noted (all_asks v bs R)
again v R b [] noted h = absurd (cc h)
again v R b (x ∷ xs) noted h =
    let first : List Load = asks (left_of v x) R in
    let others : List Load = all_asks v xs R in
    let step : thinned (thinned (thinned noted first) others) (asks (left_of v b) R) ≡ thinned (thinned noted first) others = elim (or_cases (is_position b x) (list_any (is_position b) xs) h) [
      | inl e ↦ ap (λ p. thinned (thinned (thinned noted first) others) (asks p R)) (alike v b x e) ∙ noted-again noted first others
      | inr e ↦ again v R b xs (thinned noted first) e
    ] in
    ap (λ ls. thinned ls (asks (left_of v b) R)) (thinned-append noted first others) ∙ step ∙ sym (thinned-append noted first others)

-- a position that is noted waits, and nothing else is put
waits-noted : (v : View) (b : BlockedPosition) (old new : Output) → b.onward.group < v.count → new.loads ≡ old.loads → new.blocked ≡ with_position old.blocked b → Puts v (Waits (left_of v b) ∷ []) old new
waits-noted v b old new lt read is = record {
  first = noted (λ bs. (rest : List BlockedPosition) × (bs ≡ ks ++ rest)) (λ e. ([], sym (append-nil ks))) (b ∷ [], refl);
  within = λ h. noted (AreWithin v.count) (λ e. h) (All-push (λ (x : BlockedPosition). x.onward.group < v.count) ks b h lt);
  asked = λ R. noted (λ bs. thinned [] (all_asks v bs R) ≡ thinned (thinned [] (all_asks v ks R)) (asks (left_of v b) R ++ []))
      (λ e. sym (again v R b ks [] e) ∙ ap (thinned (thinned [] (all_asks v ks R))) (sym (append-nil (asks (left_of v b) R))))
      (ap (thinned []) (sym (flat_map_more (λ (x : BlockedPosition). asks (left_of v x) R) [] ks b)) ∙ thinned-append [] (all_asks v ks R) (asks (left_of v b) R)
      ∙ ap (thinned (thinned [] (all_asks v ks R))) (sym (append-nil (asks (left_of v b) R))));
  loads = omega (arith, read);
  written = λ empty. absurd (noted (λ bs. bs ≡ [] → ⊥) (λ e none. let f : false ≡ true = sym (ap (list_any (is_position b)) none) ∙ e in cc f) (λ none. omega (arith, length-append ks (b ∷ []), ap length none)) empty);
}
  where
    ks : List BlockedPosition
    ks = old.blocked

    noted : (P : List BlockedPosition → Type 0) → (list_any (is_position b) ks ≡ true → P ks) → P (ks ++ b ∷ []) → P new.blocked
    noted P here more = subst P (sym is) (cond_both (list_any (is_position b) ks) ks (ks ++ b ∷ []) P here (λ e. more))

-- by its load
waits-put : (v : View) (b : BlockedPosition) (key : KeyOf) (old new : Output) → b.onward.group < v.count → key_of b.key ≡ key → new.loads ≡ old.loads → new.blocked ≡ with_position old.blocked b → Puts v (Waits (waiting v (onward_of b.onward) b.loader key) ∷ []) old new
waits-put v b key old new lt same read is = subst (λ (k : KeyOf). Puts v (Waits (waiting v (onward_of b.onward) b.loader k) ∷ []) old new) same (waits-noted v b old new lt read is)

-- a position that waits and was noted
pub noted-put : (v : View) (onward : Onward) (loader : ℕ) (key : KeyOf) (old new : Output) → onward.group < v.count → new.loads ≡ old.loads → IsNoted onward loader key old.blocked new.blocked
    → Puts v (Waits (waiting v (onward_of onward) loader key) ∷ []) old new
noted-put v onward loader key old new lt read n =
    subst (λ (o : Onward). Puts v (Waits (waiting v (onward_of o) loader key) ∷ []) old new) n.goes_on
    (subst (λ (l : ℕ). Puts v (Waits (waiting v (onward_of n.position.onward) l key) ∷ []) old new) n.loads.0
    (waits-put v n.position key old new (subst (λ (o : Onward). o.group < v.count) (sym n.goes_on) lt) n.loads.1 read n.noted))
