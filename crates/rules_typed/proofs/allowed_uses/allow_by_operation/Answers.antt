use Rattle.std.proofs.Common.{◌≡◌, ◌∙◌, ◌++◌, ◌∷◌, [], sym, ap, refl, false, not, Option, Some, None, List, map}
use Rattle.std.specs.Slice.Iter.{iter_rest}
use Rattle.std.specs.Iterator.Adapters.{rev_source}
use Rattle.std.specs.Option.{option_map_or}
use Rattle.std.proofs.lemmas.List.{append-nil, append_assoc}
use Rattle.gq_parser.specs.declared.tree.VariableDefinition.{VariableDefinition}
use Rattle.gq_parser.specs.Tree.{variable_of}
use Rattle.rules_parts.specs.Parts.{Location, VariableUse, use_of}
use Rattle.rules_spreads.specs.OperationSpans.{has, set_at}
use Rattle.rules_typed.specs.AllVariableUsagesAreAllowed.{forbids_at, forbids}
use Rattle.rules_typed.specs.UseKinds.{is_listed, use_at}
use Rattle.rules_typed.proofs.AllowLaws.{variable_more, variable_other}
use Rattle.rules_typed.proofs.allowed_uses.allow_by_operation.Goals as goal

forbids_none : (u : VariableUse) → forbids [] u ≡ false
forbids_none u = at u.location where
  at : (l : Option Location) → option_map_or (forbids_at [] u.name) l false ≡ false
  at None = refl
  at (Some l) = refl

pub loop-variable-init : goal.loop-variable-init
loop-variable-init c = record {
  behind = [];
  all = append-nil (iter_rest (rev_source c.into_iter-variable-iterator.result)) ∙ cc;
  own = λ r lt kind before. before ∙ sym (ap (λ b. not b) (forbids_none (use_at (map use_of c.args.uses.now) r)));
  others = λ r m lt below other. refl;
}

pub loop-variable-preserved : goal.loop-variable-preserved
loop-variable-preserved c =
    let n = c.args.number in
    let item = c.in-Some.variable.now in
    let uses = map use_of c.args.uses.now in
    let known = c.args.kinds.now.known in
    let old = c.loop-variable.sets.items in
    let new = c.allow_by_variable.new.sets.items in
    let before = c.loop-variable.invariant in
    let left = iter_rest (rev_source c.next.new.self) in
    record {
      behind = item ∷ before.behind;
      all = sym (append_assoc left (item ∷ []) before.behind) ∙ (ap (λ (xs : List VariableDefinition). xs ++ before.behind) (sym c.in-Some.ensures.steps) ∙ before.all);
      own = λ r lt kind allowed. variable_more (variable_of item) (map variable_of before.behind) (use_at uses r) n (is_listed known item.name r) (has (set_at old r) n) (has (set_at new r) n)
          (kind item.name) (before.own r lt kind allowed) (c.in_ok-allow_by_variable.ensures r n lt c.requires);
      others = λ r m lt below other. variable_other m n _ _ (has (set_at old r) m) (has (set_at new r) m) other (c.in_ok-allow_by_variable.ensures r m lt below) ∙ before.others r m lt below other;
    }
