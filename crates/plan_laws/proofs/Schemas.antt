-- Lemmas on what the definitions of a schema keep: each name is defined once, interfaces are implemented, and the root is an
-- object type.
use Rattle.std.proofs.Common.{◌≡◌, ◌∙◌, sym, ap, subst, refl, ℕ, Bool, true, false, not, ◌&&◌, ◌||◌, ◌⊎◌, inl, inr, List, [], ◌∷◌, ◌++◌, Option, Some, None, arith, if◌then◌else◌}
use Rattle.std.specs.Prelude.{option_map, find, is_some, bytes_eq, unwrap_or}
use Rattle.std.specs.List.{list_any, list_all}
use Rattle.std.specs.Option.{option_map_or}
use Rattle.std.proofs.lemmas.Bool.{cases_Bool, or_cases, or_parts, and_parts, both_ways}
use Rattle.std.proofs.lemmas.List.Folds.{list_any-append}
use Rattle.text_place.specs.declared.place.Place.{Place}
use Rattle.gq_parser.specs.Tree.{TypeTree, Named, ListOf}
use Rattle.schema_syntax.specs.Tree.{Name, Argument, Field, Definition, Schema, Object, Union}
use Rattle.gq_schema.specs.declared.fault.SchemaFault.{SchemaFault}
use Rattle.gq_schema.specs.declared.fault.SchemaFault.TheVariants.{ReservedName, Duplicate, UnknownType, BadKind, BadImplements, BadDefault}
use Rattle.gq_schema.specs.declared.kind.TypeKind.{TypeKind}
use Rattle.gq_schema.specs.declared.kind.TypeKind.TheVariants as kind
use Rattle.gq_schema.specs.declared.rules.uses.Role.{Role}
use Rattle.gq_schema.specs.declared.rules.uses.Role.TheVariants.{Implemented, Root}
use Rattle.gq_schema.specs.declared.rules.uses.TypeUseDemand.{TypeUseDemand}
use Rattle.gq_schema.specs.declared.rules.uses.TypeUseDemand.TheVariants.{IsDefined, Fits}
use Rattle.gq_schema.specs.Kinds.{is_object}
use Rattle.gq_schema.specs.Scan.{or_else, first_in}
use Rattle.gq_schema.specs.Types.{is_called, is_built_in, type_name, defines, type_in, kind_in, own_fields, fields_in, is_field, field_in, root_of, declared_root, query, root_in, has_member, is_possible, can_be, is_covariant, core_of}
use Rattle.gq_bindings.specs.Types.{is_object_type}
use Rattle.gq_schema.specs.Reserved.{first_reserved}
use Rattle.gq_schema.specs.Repeated.{repeated_type, repeated_self, repeated_within, repeated_from, first_repeated}
use Rattle.gq_schema.specs.Uses.{fits, broken_use, broken_field, is_own_root, broken_root, broken_in, first_broken}
use Rattle.gq_schema.specs.Implements.{serves, has_argument, may_stand, has_field, implements, bad_interface, bad_interface_in, first_bad_interface}
use Rattle.gq_schema.specs.Defaults.{first_bad_default}
use Rattle.gq_schema.specs.Fault.{missing_root, fault_of}
use Rattle.load_memory.specs.Rows.{cell_of}
use Rattle.execution.specs.Loads.{IsOneOf}
use Rattle.plan_program.specs.PlanPrograms.{object_type, typename, resolved_type, type_of_row}
use Rattle.rules_parts.specs.Parents.{composite_in}
use Rattle.plan_laws.specs.Met.{MayStand}
use Rattle.plan_laws.proofs.Options.{by_option, some-of, none-else, found-one, none-first, same-text, own-text}
use Rattle.plan_laws.proofs.Bound.{object-of}

any-one : {A : Type 0} (test : A → Bool) (xs : List A) → list_any test xs ≡ true → (x : A) × IsOneOf x xs × (test x ≡ true)
any-one test [] e = absurd (both_ways false refl e)
any-one test (y ∷ ys) e = elim (or_cases (test y) (list_any test ys) e) [
  | inl h ↦ (y, inl refl, h)
  | inr h ↦ (let r = any-one test ys h in (r.0, inr r.1, r.2))
]

all-one : {A : Type 0} (test : A → Bool) (xs : List A) (x : A) → list_all test xs ≡ true → IsOneOf x xs → test x ≡ true
all-one test [] x e i = absurd i
all-one test (y ∷ ys) x e i = grind (arith, all-one test ys x)

-- ---- each name is defined once

record IsOnce (earlier ds : List Definition) (q : List ℕ) (d : Definition) : Type 0 where
  before : list_any (defines q) earlier ≡ false
  found : find (defines q) ds ≡ Some d
  built : is_built_in q ≡ false

-- the name that a definition defines
defined-name : (q : List ℕ) (d : Definition) → defines q d ≡ true → (n : Name) × (type_name d ≡ Some n) × (q ≡ n.text)
defined-name q d = by_option (λ o. option_map_or (is_called q) o false ≡ true → (n : Name) × (o ≡ Some n) × (q ≡ n.text)) (type_name d) (λ _ e. absurd (cc e)) (λ n _ e. (n, refl, same-text q n.text e))

named-self : (earlier : List Definition) (d : Definition) (n : Name) → type_name d ≡ Some n → repeated_self earlier d ≡ repeated_type earlier n
named-self earlier d n e = grind arith

self-once : (earlier : List Definition) (q : List ℕ) (d : Definition) → defines q d ≡ true → repeated_self earlier d ≡ None → (list_any (defines q) earlier ≡ false) × (is_built_in q ≡ false)
self-once earlier q d e h =
    let n = defined-name q d e in
    let k : (if is_built_in n.0.text || list_any (defines n.0.text) earlier then Some n.0.place else None) ≡ None = sym (named-self earlier d n.0 n.1) ∙ h in
    let parts : (is_built_in n.0.text ≡ false) × (list_any (defines n.0.text) earlier ≡ false) = grind arith in
    rw n.2 (parts.1, parts.0)

defined-once : (earlier ds : List Definition) (q : List ℕ) (d : Definition) → repeated_from earlier ds ≡ None → IsOneOf d ds → defines q d ≡ true → IsOnce earlier ds q d
defined-once earlier [] q d h i e = absurd i
defined-once earlier (x ∷ ds) q d h i e =
    let own = none-else (repeated_self earlier x) (or_else (repeated_within x) (repeated_from (earlier ++ x ∷ []) ds)) h in
    let later = (none-else (repeated_within x) (repeated_from (earlier ++ x ∷ []) ds) own.1).1 in
    elim i [
      | inl same ↦
          let is : defines q x ≡ true = ap (defines q) (sym same) ∙ e in
          let once = self-once earlier q x is own.0 in
          record { before = once.0; found = rw (is, same) refl; built = once.1 }
      | inr j ↦
          let r = defined-once (earlier ++ x ∷ []) ds q d later j e in
          let parts = or_parts (list_any (defines q) earlier) (list_any (defines q) (x ∷ [])) (sym (list_any-append (defines q) earlier (x ∷ [])) ∙ r.before) in
          record { before = parts.0; found = rw (or_parts (defines q x) false parts.1).0 r.found; built = r.built }
    ]

-- ---- a schema

-- the type ty is the type q, or one that it can be
abbrev pub IsFor : List Definition → List ℕ → List ℕ → Type 0
IsFor defs q ty = (q ≡ ty) ⊎ (can_be defs q ty ≡ true)

-- the type ty has a field of this name, which serves where another is wanted
pub record Serves (defs : List Definition) (ty name : List ℕ) (wanted : Field) : Type 0 where
  pub own : Field
  pub found : field_in defs ty name ≡ Some own
  pub fits_in : (own ≡ wanted) ⊎ (serves defs wanted own ≡ true)

-- no rule of a schema is broken
kept-parts : (defs : List Definition) → fault_of defs ≡ None → (first_repeated defs ≡ None) × (first_broken defs IsDefined ≡ None) × (first_broken defs Fits ≡ None) × (first_bad_interface defs ≡ None) × (missing_root defs ≡ None)
kept-parts defs = all-kept (first_reserved defs) (first_repeated defs) (first_broken defs IsDefined) (first_broken defs Fits) (first_bad_interface defs) (first_bad_default defs) (missing_root defs)
  where
    all-kept : (a b c d e f : Option Place) (m : Option SchemaFault) → or_else (option_map (λ p. ReservedName p) a) (or_else (option_map (λ p. Duplicate p) b) (or_else (option_map (λ p. UnknownType p) c)
        (or_else (option_map (λ p. BadKind p) d) (or_else (option_map (λ p. BadImplements p) e) (or_else (option_map (λ p. BadDefault p) f) m))))) ≡ None → (b ≡ None) × (c ≡ None) × (d ≡ None) × (e ≡ None) × (m ≡ None)
    all-kept a b c d e f m h = grind arith

module _ (defs : List Definition) (kept : fault_of defs ≡ None) where
  once : (q : List ℕ) (d : Definition) → IsOneOf d defs → defines q d ≡ true → IsOnce [] defs q d
  once q d i e = defined-once [] defs q d (kept-parts defs kept).0 i e

  unbroken : (rule : TypeUseDemand) (d : Definition) → IsOneOf d defs → broken_in defs rule d ≡ None
  unbroken IsDefined d i = none-first (broken_in defs IsDefined) defs d (kept-parts defs kept).1 i
  unbroken Fits d i = none-first (broken_in defs Fits) defs d (kept-parts defs kept).2 i

  -- ---- a name that is used names what fits

  used : (role : Role) (n : Name) → broken_use defs IsDefined role n ≡ None → broken_use defs Fits role n ≡ None → (k : TypeKind) × (kind_in defs n.text ≡ Some k) × (fits role k ≡ true)
  used role n h k = by_option (λ o. (if is_some o then None else Some n.place) ≡ None → (if option_map_or (fits role) o true then None else Some n.place) ≡ None → (k : TypeKind) × (o ≡ Some k) × (fits role k ≡ true))
      (kind_in defs n.text) (λ _ x y. absurd (cc x)) (λ kind _ x y. (kind, refl, grind arith)) h k

  -- ---- object types

  abbrev object_kind : Option TypeKind → Bool
  object_kind k = option_map_or is_object k false

  pub object-defined : (n : Name) (is : List Name) (fs : List Field) (q : List ℕ) → IsOneOf (Object n is fs) defs → bytes_eq q n.text ≡ true → (is_object_type defs q ≡ true) × (type_in defs q ≡ Some (Object n is fs))
  object-defined n is fs q i e =
      let o = once q (Object n is fs) i e in
      (rw (o.built, o.found) refl, o.found)

  -- reasons why a type can be an object type
  data Why (q ty : List ℕ) : Type 0 where
    itself : q ≡ ty → Why q ty
    implemented : (n : Name) (is : List Name) (fs : List Field) (i : Name) → IsOneOf (Object n is fs) defs → ty ≡ n.text → IsOneOf i is → q ≡ i.text → Why q ty
    united : (m : Name) (ms : List Name) → IsOneOf (Union m ms) defs → q ≡ m.text → Why q ty

  record Can (q ty : List ℕ) : Type 0 where
    object : is_object_type defs ty ≡ true
    why : Why q ty

  can-why : (q ty : List ℕ) → can_be defs q ty ≡ true → Can q ty
  can-why q ty e =
      let found = any-one (λ (d : Definition). defines ty d && is_possible defs q d) defs e in
      let both = and_parts (defines ty found.0) (is_possible defs q found.0) found.2 in
      cases found.0 found.1 both.0 both.1
    where
      union : (o : List ℕ) (u : Definition) → IsOneOf u defs → has_member q o u ≡ true → Why q ty
      union o (Union m ms) i h = united m ms i (same-text q m.text (and_parts (bytes_eq q m.text) (list_any (is_called o) ms) h).0)
      union o u i h = absurd (cc h)

      cases : (d : Definition) → IsOneOf d defs → defines ty d ≡ true → is_possible defs q d ≡ true → Can q ty
      cases (Object n is fs) i t h = record {
        object = (object-defined n is fs ty i t).0;
        why = elim (or_cases (bytes_eq q n.text) (list_any (is_called q) is || list_any (has_member q n.text) defs) h) [
          | inl s ↦ itself (same-text q n.text s ∙ sym (same-text ty n.text t))
          | inr s ↦ elim (or_cases (list_any (is_called q) is) (list_any (has_member q n.text) defs) s) [
            | inl r ↦ (let one = any-one (is_called q) is r in implemented n is fs one.0 i (same-text ty n.text t) one.1 (same-text q one.0.text one.2))
            | inr r ↦ (let one = any-one (has_member q n.text) defs r in union n.text one.0 one.1 one.2)
          ]
        ];
      }
      cases d i t h = absurd (cc h)

  interface-kind : (n : Name) (is : List Name) (fs : List Field) (i : Name) → IsOneOf (Object n is fs) defs → IsOneOf i is → kind_in defs i.text ≡ Some kind.Interface
  interface-kind n is fs i at among =
      let u = used Implemented i (part IsDefined (unbroken IsDefined (Object n is fs) at)) (part Fits (unbroken Fits (Object n is fs) at)) in
      kinds u.0 u.1 u.2
    where
      part : (rule : TypeUseDemand) → broken_in defs rule (Object n is fs) ≡ None → broken_use defs rule Implemented i ≡ None
      part rule h =
          let later = (none-else (broken_root defs rule n) (or_else (first_in (broken_use defs rule Implemented) is) (first_in (broken_field defs rule) fs)) h).1 in
          none-first (broken_use defs rule Implemented) is i (none-else (first_in (broken_use defs rule Implemented) is) (first_in (broken_field defs rule) fs) later).0 among

      kinds : (k : TypeKind) → kind_in defs i.text ≡ Some k → fits Implemented k ≡ true → kind_in defs i.text ≡ Some kind.Interface
      kinds kind.Interface e h = e
      kinds k e h = absurd (cc h)

  union-defined : (m : Name) (ms : List Name) (q : List ℕ) → IsOneOf (Union m ms) defs → q ≡ m.text → (kind_in defs q ≡ Some kind.Union) × (type_in defs q ≡ Some (Union m ms))
  union-defined m ms q i same =
      let o = once q (Union m ms) i (ap (λ (x : List ℕ). bytes_eq x m.text) same ∙ own-text m.text) in
      (rw (o.built, o.found) refl, o.found)

  object-kind : (q : List ℕ) → is_object_type defs q ≡ true → kind_in defs q ≡ Some kind.Object
  object-kind q h = let o = object-of defs q h in rw (o.built, o.found) refl

  kind-of : (q ty : List ℕ) → Why q ty → (q ≡ ty) ⊎ ((kind_in defs q ≡ Some kind.Interface) ⊎ (kind_in defs q ≡ Some kind.Union))
  kind-of q ty (itself same) = inl same
  kind-of q ty (implemented n is fs i at t among same) = inr (inl (ap (kind_in defs) same ∙ interface-kind n is fs i at among))
  kind-of q ty (united m ms at same) = inr (inr (union-defined m ms q at same).0)

  kind-for : (q ty : List ℕ) → IsFor defs q ty → (q ≡ ty) ⊎ ((kind_in defs q ≡ Some kind.Interface) ⊎ (kind_in defs q ≡ Some kind.Union))
  kind-for q ty (inl same) = inl same
  kind-for q ty (inr can) = kind-of q ty (can-why q ty can).why

  -- a type that can be an object type is composite
  pub for-composite : (q ty : List ℕ) → is_object_type defs ty ≡ true → IsFor defs q ty → composite_in defs q ≡ Some q
  for-composite q ty object for = elim (kind-for q ty for) [
    | inl same ↦ rw (ap (kind_in defs) same ∙ object-kind ty object) refl
    | inr k ↦ elim k [ inl i ↦ rw i refl | inr u ↦ rw u refl ]
  ]

  -- an object type can be no other
  pub object-alone : (q ty : List ℕ) → is_object_type defs q ≡ true → IsFor defs q ty → q ≡ ty
  object-alone q ty object for = elim (kind-for q ty for) [
    | inl same ↦ same
    | inr k ↦ elim k [ inl i ↦ absurd (cc (sym (object-kind q object) ∙ i)) | inr u ↦ absurd (cc (sym (object-kind q object) ∙ u)) ]
  ]

  -- ---- an object type has the fields of what it implements

  pub field-serves : (q ty name : List ℕ) (wanted : Field) → is_object_type defs ty ≡ true → IsFor defs q ty → field_in defs q name ≡ Some wanted → Serves defs ty name wanted
  field-serves q ty name wanted object for field = go for
    where
      same-type : q ≡ ty → Serves defs ty name wanted
      same-type same = record { own = wanted; found = ap (λ (x : List ℕ). field_in defs x name) (sym same) ∙ field; fits_in = inl refl }

      served : (n : Name) (o : Option Field) → field_in defs n.text wanted.name.text ≡ o → option_map_or (serves defs wanted) o false ≡ true → ty ≡ n.text → name ≡ wanted.name.text → Serves defs ty name wanted
      served n None e h t named = absurd (cc h)
      served n (Some d) e h t named = record { own = d; found = rw (t, named) e; fits_in = inr h }

      interface : (n : Name) (is : List Name) (fs : List Field) (i : Name) → IsOneOf (Object n is fs) defs → ty ≡ n.text → IsOneOf i is → q ≡ i.text → Serves defs ty name wanted
      interface n is fs i at t among same =
          let none : bad_interface_in defs (Object n is fs) ≡ None = none-first (bad_interface_in defs) defs (Object n is fs) ((kept-parts defs kept).3) at in
          let good : bad_interface defs n.text i ≡ None = none-first (bad_interface defs n.text) is i none among in
          let does : implements defs n.text i.text ≡ true = grind arith in
          let w = found-one (is_field name) (fields_in defs i.text) wanted (ap (λ (x : List ℕ). field_in defs x name) (sym same) ∙ field) in
          let has : has_field defs n.text wanted ≡ true = all-one (has_field defs n.text) (fields_in defs i.text) wanted does w.0 in
          let named : name ≡ wanted.name.text = same-text name wanted.name.text w.1 in
          served n (field_in defs n.text wanted.name.text) refl has t named

      why : Why q ty → Serves defs ty name wanted
      why (itself same) = same-type same
      why (implemented n is fs i at t among same) = interface n is fs i at t among same
      why (united m ms at same) = let none : field_in defs q name ≡ None = ap (λ (d : Option Definition). find (is_field name) (option_map_or own_fields d [])) (union-defined m ms q at same).1 in absurd (cc (sym none ∙ field))

      go : IsFor defs q ty → Serves defs ty name wanted
      go (inl same) = same-type same
      go (inr can) = why (can-why q ty can).why

  -- ---- what stands for a type

  object-stands : (q object : List ℕ) → is_object_type defs q ≡ true → MayStand defs q object → q ≡ object
  object-stands q object e may =
      let resolved : type_of_row defs q may.0 ≡ object_type q = rw e refl in
      let same : object_type q ≡ object_type object = sym resolved ∙ may.1 in
      cc

  resolved-can : (q : List ℕ) (cell : Option (List ℕ)) (object : List ℕ) → resolved_type defs q cell ≡ object_type object → can_be defs q object ≡ true
  resolved-can q None object h = absurd (cc h)
  resolved-can q (Some []) object h = absurd (cc h)
  resolved-can q (Some (c ∷ cs)) object h = grind arith

  stands-for : (q object : List ℕ) → MayStand defs q object → (is_object_type defs object ≡ true) × IsFor defs q object
  stands-for q object may = elim (cases_Bool (is_object_type defs q)) [
    | inl e ↦ (let same = object-stands q object e may in (ap (is_object_type defs) (sym same) ∙ e, inl same))
    | inr e ↦ (let can = resolved-can q (cell_of may.0 typename) object (rw e at may.1) in ((can-why q object can).object, inr can))
  ]

  pub may-object : (q object : List ℕ) → MayStand defs q object → is_object_type defs object ≡ true
  may-object q object may = (stands-for q object may).0

  pub serves-type : (wanted own : Field) → serves defs wanted own ≡ true → is_covariant defs own.of_type wanted.of_type ≡ true
  serves-type wanted own h = (and_parts (is_covariant defs own.of_type wanted.of_type) (list_all (has_argument own.arguments) wanted.arguments && list_all (may_stand wanted.arguments) own.arguments) h).0

  pub serves-argument : (wanted own : Field) (a : Argument) → serves defs wanted own ≡ true → IsOneOf a wanted.arguments → has_argument own.arguments a ≡ true
  serves-argument wanted own a h i =
      let both = and_parts (is_covariant defs own.of_type wanted.of_type) (list_all (has_argument own.arguments) wanted.arguments && list_all (may_stand wanted.arguments) own.arguments) h in
      all-one (has_argument own.arguments) wanted.arguments a (and_parts (list_all (has_argument own.arguments) wanted.arguments) (list_all (may_stand wanted.arguments) own.arguments) both.1).0 i

  -- an object type that may stand for a type stands for each that this type is covariant to
  pub may-for : (t u : TypeTree) (object : List ℕ) → is_covariant defs t u ≡ true → MayStand defs (core_of t).text object → IsFor defs (core_of u).text object
  may-for (Named p n non_null) (Named q m wanted) object e may = elim (or_cases (bytes_eq n m) (can_be defs m n) (and_parts (non_null || not wanted) (bytes_eq n m || can_be defs m n) e).1) [
    | inl h ↦ subst (λ (x : List ℕ). IsFor defs x object) (same-text n m h) (stands-for n object may).1
    | inr h ↦ subst (IsFor defs m) (object-stands n object (can-why m n h).object may) (inr h)
  ]
  may-for (ListOf p t non_null) (ListOf q u wanted) object e may = may-for t u object (and_parts (non_null || not wanted) (is_covariant defs t u) e).1 may
  may-for t u object e may = absurd (cc e)

  pub may-itself : (t : TypeTree) (object : List ℕ) → MayStand defs (core_of t).text object → IsFor defs (core_of t).text object
  may-itself t object may = (stands-for (core_of t).text object may).1

  -- ---- the root

  root-kind : (n : Name) → broken_use defs IsDefined Root n ≡ None → broken_use defs Fits Root n ≡ None → is_object_type defs n.text ≡ true
  root-kind n h k = let u = used Root n h k in ap object_kind u.1 ∙ u.2

  schema-root : (ds : List Definition) (r : List ℕ) → first_in root_of ds ≡ Some r → (p : Place) × (n : Name) × IsOneOf (Schema p n) ds × (r ≡ n.text)
  schema-root [] r h = absurd (cc h)
  schema-root (Schema p n ∷ ds) r h = let same : n.text ≡ r = cc in (p, n, inl refl, sym same)
  schema-root (d ∷ ds) r h = let s = schema-root ds r h in (s.0, s.1, inr s.2, s.3)

  named-root : (rule : TypeUseDemand) (d : Definition) (n : Name) → type_name d ≡ Some n → broken_in defs rule d ≡ None → broken_root defs rule n ≡ None
  named-root rule d n e h = grind arith

  pub root-object : is_object_type defs (root_in defs) ≡ true
  root-object = by_option (λ o. declared_root defs ≡ o → is_object_type defs (unwrap_or o query) ≡ true) (declared_root defs) own declared refl
    where
      declared : (r : List ℕ) → declared_root defs ≡ Some r → declared_root defs ≡ Some r → is_object_type defs r ≡ true
      declared r e _ =
          let s = schema-root defs r e in
          ap (is_object_type defs) s.3 ∙ root-kind s.1 (unbroken IsDefined (Schema s.0 s.1) s.2) (unbroken Fits (Schema s.0 s.1) s.2)

      own : declared_root defs ≡ None → declared_root defs ≡ None → is_object_type defs query ≡ true
      own e _ =
          let missing : missing_root defs ≡ None = (kept-parts defs kept).4 in
          let there : is_some (type_in defs query) ≡ true = grind arith in
          let d = some-of (type_in defs query) there in
          let at = found-one (defines query) defs d.0 d.1 in
          let n = defined-name query d.0 at.1 in
          let is : is_own_root defs n.0 ≡ true = rw (e, ← n.2) (own-text query) in
          let part : (rule : TypeUseDemand) → broken_use defs rule Root n.0 ≡ None = λ rule. rw is at (named-root rule d.0 n.0 n.1 (unbroken rule d.0 at.0)) in
          ap (is_object_type defs) n.2 ∙ root-kind n.0 (part IsDefined) (part Fits)
