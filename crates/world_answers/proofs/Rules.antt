-- Lemmas on what a rule tells has a name that a string says.
use Rattle.std.proofs.Common.{refl, ℕ, ◌+◌, zero, suc, Bool, cond, codes, List, [], ◌∷◌, map, length, Option, Some, None, subst, sym}
use Rattle.std.specs.List.{filter, filter_map, list_any}
use Rattle.std.specs.Option.{option_map, unwrap_or}
use Rattle.std.specs.Prelude.{nat_lt, fold}
use Rattle.std.proofs.lemmas.Bool.{cond_both}
use Rattle.text_place.specs.declared.place.Place.{Place}
use Rattle.gq_parser.specs.declared.tree.OperationKind.{OperationKind}
use Rattle.gq_parser.specs.declared.tree.OperationKind.TheVariants as kind
use Rattle.gq_parser.specs.Tree.{Operation, Fragment}
use Rattle.gq_schema.specs.Scan.{or_else}
use Rattle.rules_parts.specs.Broken.{BrokenOf, with_broken, earliest}
use Rattle.rules_parts.specs.Parts.{PartsOf, FieldPart, ArgumentList}
use Rattle.rules_untyped.specs.Repeated.{has_name, repeated_behind}
use Rattle.rules_untyped.specs.DirectivesAreInValidLocations.{is_valid}
use Rattle.rules_untyped.specs.AllVariablesUsed.{unused_variables}
use Rattle.rules_untyped.specs.TooComplex.{is_too_complex}
use Rattle.rules_untyped.specs.NotServed.{other_kind}
use Rattle.rules_typed.specs.DefaultWords.{named_if, is_type_name}
use Rattle.rules_typed.specs.RequiredArguments.{missing_argument}
use Rattle.rules_typed.specs.TypeConditions.{conditions}
use Rattle.rules_spreads.specs.Graphs.{GraphOf, graph_of}
use Rattle.rules_spreads.specs.Reach.{is_cyclic}
use Rattle.rules_spreads.specs.Rules.{cycles_among, too_deep}
use Rattle.merging_pairs.specs.Merging.{Fields}
use Rattle.merging_members.specs.Members.{SetOf}
use Rattle.merging_fields.specs.Compare.{response_key}
use Rattle.merging_fields.specs.Members.{at}
use Rattle.merging_fields.specs.FieldSelectionMerging.{AreBroken, none, merges, fails, key_of}
use Rattle.gq_check.specs.declared.fault.Rule.{Rule}
use Rattle.gq_check.specs.Verdict.{FaultOf, Breaks, TooComplex, TooDeep, NotServed, breaks, report, served_fault, operations_fault, fields_fault, arguments_fault, fragments_fault, spreads_fault, directives_fault, values_fault, variables_fault, first_fault, IsVerdictAfter}
use Rattle.plan_laws.proofs.Each.{Each, Maybe, each-append, each-filter, each-find, each-map, each-filter_map, each-flat_map, any-map, any-then, maybe-map, maybe-and_then}
use Rattle.world_answers.proofs.Strings.{IsSaid, said-name, said-variable, said-word}
use Rattle.world_answers.proofs.Names.{IsWritten, ArgumentNames, DirectiveNames, ConditionNames, VariableNames, OperationNames, FragmentNames}
use Rattle.world_answers.proofs.Parts.{ArgumentSaid, FieldNames, SpreadNames, InlineNames, VariablePartNames, DirectiveListNames, ArgumentListNames, ArgumentPartNames, UseNames, PartsNames}

abbrev pub BrokenSaid : BrokenOf → Type 0
BrokenSaid b = IsSaid b.name

abbrev pub FaultSaid : FaultOf → Type 0
FaultSaid (Breaks r n place) = IsSaid n
FaultSaid TooComplex = Unit {0}
FaultSaid (TooDeep place) = Unit {0}
FaultSaid (NotServed n place) = IsSaid n

abbrev AllSaid : List BrokenOf → Type 0
AllSaid = Each BrokenSaid

-- ---- lists of what is broken

if-said : (b : Bool) (xs ys : List BrokenOf) → AllSaid xs → AllSaid ys → AllSaid (cond b xs ys)
if-said b xs ys p q = cond_both b xs ys AllSaid (λ _. p) (λ _. q)

behind-said : (others names : List BrokenOf) → AllSaid names → AllSaid (repeated_behind others names)
behind-said others [] h = tt
behind-said others (n ∷ ns) h = let rest = behind-said (n ∷ others) ns h.1 in cond_both (list_any (has_name n.name) others) _ _ AllSaid (λ _. (h.0, rest)) (λ _. rest)

fold-said : (o : Option BrokenOf) (bs : List BrokenOf) → Maybe BrokenSaid o → AllSaid bs → Maybe BrokenSaid (fold with_broken o bs)
fold-said o [] p h = p
fold-said None (b ∷ bs) p h = fold-said (Some b) bs h.0 h.1
fold-said (Some a) (b ∷ bs) p h = fold-said (with_broken (Some a) b) bs (cond_both _ b a BrokenSaid (λ _. h.0) (λ _. p)) h.1

-- what is reported of a list
told : (f : BrokenOf → FaultOf) (bs : List BrokenOf) → ((b : BrokenOf) → BrokenSaid b → FaultSaid (f b)) → AllSaid bs → Maybe FaultSaid (option_map f (earliest bs))
told f bs says h = maybe-map BrokenSaid FaultSaid f (earliest bs) says (fold-said None bs tt h)

rule-said : (r : Rule) (bs : List BrokenOf) → AllSaid bs → Maybe FaultSaid (report r bs)
rule-said r bs h = told (breaks r) bs (λ b s. s) h

first-of : (a b : Option FaultOf) → Maybe FaultSaid a → Maybe FaultSaid b → Maybe FaultSaid (or_else a b)
first-of None b q r = r
first-of (Some f) b q r = q

one-broken : (b : Bool) (name : List ℕ) (place : Place) → IsSaid name → Maybe BrokenSaid (named_if b name place)
one-broken b name place h = cond_both b _ _ (Maybe BrokenSaid) (λ _. h) (λ _. tt)

module _ {A : Type 0} (P : A → Type 0) (name : A → List ℕ) (place : A → Place) (says : (x : A) → P x → IsSaid (name x)) where
  -- each is named
  map-said : (xs : List A) → Each P xs → AllSaid (map (λ x. record { name = name x; place = place x }) xs)
  map-said xs h = each-map P BrokenSaid _ xs says h

  -- those that pass a test are named
  filter-said : (test : A → Bool) (xs : List A) → Each P xs → AllSaid (map (λ x. record { name = name x; place = place x }) (filter test xs))
  filter-said test xs h = map-said (filter test xs) (each-filter P test xs h)

  if-broken : (test : A → Bool) (xs : List A) → Each P xs → AllSaid (filter_map (λ x. named_if (test x) (name x) (place x)) xs)
  if-broken test xs h = each-filter_map P BrokenSaid _ xs (λ x p. one-broken (test x) (name x) (place x) (says x p)) h

-- ---- the rules

module _ (p : PartsOf) (h : PartsNames p) where
  kind-said : (k : OperationKind) → Maybe IsSaid (other_kind k)
  kind-said kind.Query = tt
  kind-said kind.Mutation = said-word (codes "mutation") refl refl
  kind-said kind.Subscription = said-word (codes "subscription") refl refl

  served : Maybe FaultSaid (served_fault p)
  served = told _ _ (λ b s. s) (each-append BrokenSaid _ _
      (each-filter_map OperationNames BrokenSaid _ _ (λ o q. maybe-map IsSaid BrokenSaid _ _ (λ word r. r) (kind-said o.kind)) h.document.operations)
      (filter-said FieldNames _ _ (λ f q. said-name q.name) _ _ h.fields))

  of-operations : Maybe FaultSaid (operations_fault p)
  of-operations =
      first-of _ _ (rule-said _ _ (behind-said [] _ (each-filter_map OperationNames BrokenSaid _ _ (λ o q. maybe-map IsWritten BrokenSaid _ _ (λ n r. said-name r) q.0) h.document.operations)))
      (rule-said _ _ (if-said (nat_lt 1 (length p.document.operations)) _ [] (filter-said OperationNames _ _ (λ o q. said-word (codes "query") refl refl) _ _ h.document.operations) tt))

  of-fields : Maybe FaultSaid (fields_fault p)
  of-fields = first-of _ _ (rule-said _ _ (if-broken FieldNames _ _ (λ f q. said-name q.name) _ _ h.fields)) (rule-said _ _ (if-broken FieldNames _ _ (λ f q. said-name q.name) _ _ h.fields))

  missing-said : (l : ArgumentList) → ArgumentListNames l → Maybe BrokenSaid (missing_argument l)
  missing-said l q =
      maybe-map IsSaid BrokenSaid _ _ (λ n r. r)
      (maybe-and_then (Each ArgumentSaid) IsSaid _ _ (λ ds r. maybe-map ArgumentSaid IsSaid _ _ (λ a s. s) (each-find ArgumentSaid _ ds r)) q.definitions)

  of-arguments : Maybe FaultSaid (arguments_fault p)
  of-arguments =
      first-of _ _ (rule-said _ _ (each-append BrokenSaid _ _ (if-broken ArgumentPartNames _ _ (λ a q. said-name q.name) _ _ h.arguments)
      (each-flat_map FieldNames BrokenSaid _ _ (λ f q. if-said (is_type_name f) _ [] (map-said ArgumentNames _ _ (λ a r. said-name r.0) _ q.arguments) tt) h.fields)))
      (first-of _ _ (rule-said _ _ (each-flat_map ArgumentListNames BrokenSaid _ _ (λ l q. behind-said [] _ (map-said ArgumentNames _ _ (λ a r. said-name r.0) _ q.arguments)) h.argument_lists))
      (rule-said _ _ (each-filter_map ArgumentListNames BrokenSaid _ _ missing-said h.argument_lists)))

  conditions-named : Each ConditionNames (conditions p)
  conditions-named =
      each-append ConditionNames _ _ (each-map FragmentNames ConditionNames _ _ (λ f q. q.1) h.document.fragments) (each-filter_map InlineNames ConditionNames _ _ (λ i q. q) h.inlines)

  of-fragments : Maybe FaultSaid (fragments_fault p)
  of-fragments =
      first-of _ _ (rule-said _ _ (behind-said [] _ (map-said FragmentNames _ _ (λ f q. said-name q.0) _ h.document.fragments)))
      (first-of _ _ (rule-said _ _ (if-broken ConditionNames _ _ (λ c q. said-name q) _ _ conditions-named))
      (first-of _ _ (rule-said _ _ (if-broken ConditionNames _ _ (λ c q. said-name q) _ _ conditions-named))
      (rule-said _ _ (filter-said FragmentNames _ _ (λ f q. said-name q.0) _ _ h.document.fragments))))

  cycles-said : (g : GraphOf) (j : ℕ) (fs : List Fragment) → Each FragmentNames fs → AllSaid (cycles_among g j fs)
  cycles-said g j [] q = tt
  cycles-said g j (f ∷ fs) q = let others = cycles-said g (j + 1) fs q.1 in cond_both (is_cyclic g j) _ _ AllSaid (λ _. (said-name q.0.0, others)) (λ _. others)

  of-spreads : Maybe FaultSaid (spreads_fault p)
  of-spreads =
      first-of _ _ (rule-said _ _ (filter-said SpreadNames _ _ (λ s q. said-name q) _ _ h.spreads))
      (first-of _ _ (rule-said _ _ (cycles-said (graph_of p) 0 _ h.document.fragments))
      (rule-said _ _ (each-append BrokenSaid _ _ (if-broken SpreadNames _ _ (λ s q. said-name q) _ _ h.spreads)
      (each-filter_map InlineNames BrokenSaid _ _ (λ i q. maybe-and_then ConditionNames BrokenSaid _ _ (λ c r. one-broken _ _ _ (said-name r)) q) h.inlines))))

  of-values : Maybe FaultSaid (values_fault p)
  of-values =
      rule-said _ _ (each-append BrokenSaid _ _
      (each-filter_map ArgumentPartNames BrokenSaid _ _ (λ a q. any-then BrokenSaid _ a.definition (λ d. one-broken _ _ _ (said-name q.name))) h.arguments)
      (each-filter_map VariablePartNames BrokenSaid _ _ (λ v q. any-then BrokenSaid _ v.definition.default (λ d. one-broken _ _ _ (said-variable q.0))) h.variables))

  of-directives : Maybe FaultSaid (directives_fault p)
  of-directives =
      first-of _ _ (rule-said _ _ (each-flat_map DirectiveListNames BrokenSaid _ _ (λ l q. filter-said DirectiveNames _ _ (λ d r. said-name r.0) _ _ q) h.directive_lists))
      (first-of _ _ (rule-said _ _ (each-flat_map DirectiveListNames BrokenSaid _ _ (λ l q. if-said (is_valid l.location) [] _ tt (filter-said DirectiveNames _ _ (λ d r. said-name r.0) _ _ q)) h.directive_lists))
      (rule-said _ _ (each-flat_map DirectiveListNames BrokenSaid _ _ (λ l q. behind-said [] _ (map-said DirectiveNames _ _ (λ d r. said-name r.0) _ q)) h.directive_lists)))

  unused-said : (i : ℕ) (os : List Operation) → Each OperationNames os → AllSaid (unused_variables (graph_of p) p.uses i os)
  unused-said i [] q = tt
  unused-said i (o ∷ os) q = each-append BrokenSaid _ _ (filter-said VariableNames _ _ (λ v r. said-name r.0) _ _ q.0.1) (unused-said (i + 1) os q.1)

  of-variables : Maybe FaultSaid (variables_fault p)
  of-variables =
      first-of _ _ (rule-said _ _ (each-flat_map OperationNames BrokenSaid _ _ (λ o q. behind-said [] _ (map-said VariableNames _ _ (λ v r. said-name r.0) _ q.1)) h.document.operations))
      (first-of _ _ (rule-said _ _ (if-broken VariablePartNames _ _ (λ v q. said-name q.0) _ _ h.variables))
      (first-of _ _ (rule-said _ _ (filter-said UseNames _ _ (λ u q. said-name q) _ _ h.uses))
      (first-of _ _ (rule-said _ _ (unused-said 0 _ h.document.operations))
      (rule-said _ _ (if-broken UseNames _ _ (λ u q. said-name q) _ _ h.uses)))))

  -- ---- the verdict

  first-said : Maybe FaultSaid (first_fault p)
  first-said =
      first-of _ _ (first-of _ _ served (first-of _ _ of-operations (first-of _ _ of-fields
      (first-of _ _ of-arguments (first-of _ _ of-fragments (first-of _ _ of-spreads (first-of _ _ of-values (first-of _ _ of-directives of-variables))))))))
      (first-of _ _ (any-map FaultSaid _ (earliest (too_deep p)) (λ b. tt))
      (cond_both (is_too_complex p) _ _ (Maybe FaultSaid) (λ _. tt) (λ _. tt)))

  key-of-said : (fs : List FieldPart) (f : ℕ) → Each FieldNames fs → IsSaid (at response_key [] fs f)
  key-of-said [] f q = said-word [] refl refl
  key-of-said (x ∷ fs) zero q = by-name x.alias q.0.alias q.0.name
    where
      by-name : {name : List ℕ} (alias : Option (List ℕ)) → Maybe IsWritten alias → IsWritten name → IsSaid (unwrap_or alias name)
      by-name None r s = said-name s
      by-name (Some a) r s = said-name r
  key-of-said (x ∷ fs) (suc f) q = key-of-said fs f q.1

  merging-said : {D : Fields ℕ} {sets : List SetOf} {bs : List BrokenOf} → AreBroken D (key_of p) sets bs → AllSaid bs
  merging-said none = tt
  merging-said (merges alike others) = merging-said others
  merging-said (fails {f = f} apart first others) = (key-of-said p.fields f h.fields, merging-said others)

  after-said : (first v : Option FaultOf) → Maybe FaultSaid first → IsVerdictAfter p first v → Maybe FaultSaid v
  after-said (Some f) v q is = subst (Maybe FaultSaid) (sym is) q
  after-said None v q is = rw (is.2, is.1.2) (rule-said _ is.1.0 (merging-said is.1.1))

  pub verdict-said : (v : Option FaultOf) → IsVerdictAfter p (first_fault p) v → Maybe FaultSaid v
  verdict-said v is = after-said (first_fault p) v first-said is
