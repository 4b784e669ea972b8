use Rattle.std.proofs.Common.{◌≡◌, ◌∷◌, ◌++◌, ◌+◌, [], true, false, map, length, ap, refl, ◌∙◌, sym, subst, arith}
use Rattle.std.specs.Prelude.{not}
use Rattle.std.specs.List.{list_any}
use Rattle.std.proofs.lemmas.Bool.{not-true, not-false}
use Rattle.std.proofs.lemmas.List.{map-append, length-map, length-append}
use Rattle.load_memory.specs.Keys.{key_of}
use Rattle.load_queue.specs.Wanted.{WantedOf, HaveSeen, is_wanted}
use Rattle.load_queue.proofs.WantLaws.{with-new, with-old}
use Rattle.load_queue.proofs.SeenLaws.{equal, seen-wanted, seen-before, seen-kept, saw-last, inserts-none}
use Rattle.load_queue.proofs.wants.WantedKeys.add.Goals as goal

pub invariant_of-self-then-is_empty : goal.invariant_of-self-then-is_empty
invariant_of-self-then-is_empty c =
    let ks = c.self.inside.keys.items in
    subst (HaveSeen c.self.inside.mode c.self.inside.seen) (sym (ap (map key_of) c.in_ok-push.ensures.items ∙ map-append key_of ks (c.args.key ∷ [])))
    (seen-before c.self.inside.mode c.self.inside.seen (map key_of ks) (key_of c.args.key ∷ []) c.self.invariant)

pub invariant_of-self-in_err-added : goal.invariant_of-self-in_err-added
invariant_of-self-in_err-added c =
    let saw : HaveSeen c.self.inside.mode c.see_rest.new.seen (map key_of c.self.inside.keys.items) = rw c.deref.ensures.value at c.see_rest.ensures.seen in
    rw c.in_ok-reserve.ensures.items (seen-kept c.self.inside.mode c.see_rest.new.seen _ _ saw c.in_err-added.ensures.err refl)

pub invariant_of-self-then-not-added : goal.invariant_of-self-then-not-added
invariant_of-self-then-not-added c =
    let saw : HaveSeen c.self.inside.mode c.see_rest.new.seen (map key_of c.self.inside.keys.items) = rw c.deref.ensures.value at c.see_rest.ensures.seen in
    let there : list_any (equal c.in_ok-cached.cached) c.see_rest.new.seen.cache_keys.keys ≡ true = not-false _ (sym c.in_ok-added.ensures.added ∙ c.if-not-added.true) in
    rw c.in_ok-reserve.ensures.items
    (seen-kept c.self.inside.mode c.see_rest.new.seen _ _ saw (c.in_ok-added.ensures.keys ∙ inserts-none c.in_ok-cached.cached c.see_rest.new.seen.cache_keys.keys there) refl)

pub returns-then-not-added-clause-added : goal.returns-then-not-added-clause-added
returns-then-not-added-clause-added c =
    let ks = map key_of c.self.inside.keys.items in
    let saw : HaveSeen c.self.inside.mode c.see_rest.new.seen ks = rw c.deref.ensures.value at c.see_rest.ensures.seen in
    let all : c.see_rest.new.seen.count ≡ length ks = (rw c.deref.ensures.value at c.in_ok-see_rest.ensures.all) ∙ sym (length-map c.self.inside.keys.items key_of) in
    let here = seen-wanted c.self.inside.mode c.see_rest.new.seen ks c.in_ok-cached.cached (key_of c.args.key) saw all c.in_ok-cached.ensures in
    rw (← c.self.view_is) (sym (ap not (sym here ∙ not-false _ (sym c.in_ok-added.ensures.added ∙ c.if-not-added.true))))

pub returns-then-not-added-clause-after : goal.returns-then-not-added-clause-after
returns-then-not-added-clause-after c =
    let ks = map key_of c.self.inside.keys.items in
    let w : WantedOf = record { mode = c.self.inside.mode; keys = ks } in
    let saw : HaveSeen c.self.inside.mode c.see_rest.new.seen ks = rw c.deref.ensures.value at c.see_rest.ensures.seen in
    let all : c.see_rest.new.seen.count ≡ length ks = (rw c.deref.ensures.value at c.in_ok-see_rest.ensures.all) ∙ sym (length-map c.self.inside.keys.items key_of) in
    let here = seen-wanted c.self.inside.mode c.see_rest.new.seen ks c.in_ok-cached.cached (key_of c.args.key) saw all c.in_ok-cached.ensures in
    let wanted : is_wanted w (key_of c.args.key) ≡ true = sym here ∙ not-false _ (sym c.in_ok-added.ensures.added ∙ c.if-not-added.true) in
    rw (← c.self.view_is) (ap (λ xs. record { mode = c.self.inside.mode; keys = map key_of xs }) c.in_ok-reserve.ensures.items ∙ sym (with-old w (key_of c.args.key) wanted))

pub invariant_of-self-2 : goal.invariant_of-self-2
invariant_of-self-2 c =
    let ks = map key_of c.self.inside.keys.items in
    let saw : HaveSeen c.self.inside.mode c.see_rest.new.seen ks = rw c.deref.ensures.value at c.see_rest.ensures.seen in
    let all : c.see_rest.new.seen.count ≡ length ks = (rw c.deref.ensures.value at c.in_ok-see_rest.ensures.all) ∙ sym (length-map c.self.inside.keys.items key_of) in
    let items = c.in_ok-push-2.ensures.items ∙ ap (λ xs. xs ++ c.args.key ∷ []) c.in_ok-reserve.ensures.items in
    let counted : c.len-self-inside.result ≡ length ks + 1 = omega (arith, c.len-self-inside.ensures, ap length items, length-append c.self.inside.keys.items (c.args.key ∷ []), length-map c.self.inside.keys.items key_of) in
    subst (HaveSeen c.self.inside.mode _) (sym (ap (map key_of) items ∙ map-append key_of c.self.inside.keys.items (c.args.key ∷ [])))
    (saw-last c.self.inside.mode c.see_rest.new.seen _ ks c.in_ok-cached.cached (key_of c.args.key) saw all c.in_ok-cached.ensures c.in_ok-added.ensures.keys counted)

pub returns-clause-added : goal.returns-clause-added
returns-clause-added c =
    let ks = map key_of c.self.inside.keys.items in
    let saw : HaveSeen c.self.inside.mode c.see_rest.new.seen ks = rw c.deref.ensures.value at c.see_rest.ensures.seen in
    let all : c.see_rest.new.seen.count ≡ length ks = (rw c.deref.ensures.value at c.in_ok-see_rest.ensures.all) ∙ sym (length-map c.self.inside.keys.items key_of) in
    let here = seen-wanted c.self.inside.mode c.see_rest.new.seen ks c.in_ok-cached.cached (key_of c.args.key) saw all c.in_ok-cached.ensures in
    rw (← c.self.view_is) (sym (ap not (sym here ∙ not-true _ (sym c.in_ok-added.ensures.added ∙ c.if-not-added.false))))

pub returns-clause-after : goal.returns-clause-after
returns-clause-after c =
    let ks = map key_of c.self.inside.keys.items in
    let w : WantedOf = record { mode = c.self.inside.mode; keys = ks } in
    let saw : HaveSeen c.self.inside.mode c.see_rest.new.seen ks = rw c.deref.ensures.value at c.see_rest.ensures.seen in
    let all : c.see_rest.new.seen.count ≡ length ks = (rw c.deref.ensures.value at c.in_ok-see_rest.ensures.all) ∙ sym (length-map c.self.inside.keys.items key_of) in
    let here = seen-wanted c.self.inside.mode c.see_rest.new.seen ks c.in_ok-cached.cached (key_of c.args.key) saw all c.in_ok-cached.ensures in
    let new : is_wanted w (key_of c.args.key) ≡ false = sym here ∙ not-true _ (sym c.in_ok-added.ensures.added ∙ c.if-not-added.false) in
    let keys = ap (map key_of) (c.in_ok-push-2.ensures.items ∙ ap (λ xs. xs ++ c.args.key ∷ []) c.in_ok-reserve.ensures.items) ∙ map-append key_of c.self.inside.keys.items (c.args.key ∷ []) in
    rw (← c.self.view_is) (ap (λ xs. record { mode = c.self.inside.mode; keys = xs }) keys ∙ sym (with-new w (key_of c.args.key) new))
