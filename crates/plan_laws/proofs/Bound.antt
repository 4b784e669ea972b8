-- Bindings that are read of a text bind each field of each object type, and name no loader that they don't define.
use Rattle.std.proofs.Common.{◌≡◌, ◌∙◌, sym, ap, subst, refl, ℕ, ◌+◌, ◌<◌, ◌≤◌, Bool, true, false, not, ◌&&◌, ◌||◌, List, [], ◌∷◌, ◌++◌, length, length-append, Option, Some, None, inl, inr, arith, if◌then◌else◌}
use Rattle.std.specs.Prelude.{option_map, option_and_then, find, is_some}
use Rattle.std.specs.Option.{option_map_or}
use Rattle.std.proofs.lemmas.Bool.{cond_both}
use Rattle.std.proofs.lemmas.Slice.Eq.{bytes_eq-Decides}
use Rattle.bindings_syntax.specs.Statements as source
use Rattle.bindings_syntax.specs.Statements.{KeyOf, from_argument, from_column, from_all, from_pair, FormOf, to_column, to_one, to_many, to_each, to_via, StatementOf, loader_line, field_line}
use Rattle.bindings_syntax.specs.Reading.{NumberedOf, BindingsTextOf, bindings_text}
use Rattle.schema_syntax.specs.Tree.{Name, Field, Definition, Object}
use Rattle.gq_schema.specs.declared.kind.TypeKind.{TypeKind}
use Rattle.gq_schema.specs.Kinds.{is_object}
use Rattle.gq_schema.specs.Types.{is_built_in, defines, type_in, kind_of, is_field, field_in}
use Rattle.gq_bindings.specs.Types.{is_object_type, is_root_type, is_leaf_type}
use Rattle.gq_bindings.specs.Tree.{LoaderOf, StepOf, BindingOf, by_column, by_one, by_many, by_each, by_via, BoundFieldOf, BindingsOf, binds, binding_in, loader_from, loader_in}
use Rattle.gq_bindings.specs.Forms.{keyed_loader, paired_loader, whole_loader, asked_loader, later_step, later_steps, form_binding, field_binding}
use Rattle.gq_bindings.specs.Reading.{Reading, accepted, with_loader, with_field, after_statement, or_refused, and_then, after_statements, settled_field, settled_fields, settled, at_end, nothing, reading_of, bindings_of}
use Rattle.execution.specs.Loads.{IsOneOf}
use Rattle.plan_laws.specs.Met.{StepsThere, AreThere, IsBound}
use Rattle.plan_laws.proofs.Options.{if-given, if-not-given, map-given, then-given, some-of, found-one}

-- ---- numbers of loaders

from-there : (n : ℕ) (ls : List LoaderOf) (q : List ℕ) (l : ℕ × LoaderOf) → loader_from n ls q ≡ Some l → l.0 < n + length ls
from-there n [] q l h = absurd (cc h)
from-there n (x ∷ ls) q l h = let rest = from-there (n + 1) ls q l in grind arith

module _ (ls : List LoaderOf) where
  keyed-there : (name : List ℕ) (k : ℕ) → keyed_loader ls name ≡ Some k → k < length ls
  keyed-there name k h = grind (arith, from-there 0 ls name)

  paired-there : (name : List ℕ) (k : ℕ) → paired_loader ls name ≡ Some k → k < length ls
  paired-there name k h = grind (arith, from-there 0 ls name)

  whole-there : (name : List ℕ) (k : ℕ) → whole_loader ls name ≡ Some k → k < length ls
  whole-there name k h = grind (arith, from-there 0 ls name)

  asked-there : (of_root : Bool) (field : Field) (name : List ℕ) (key : KeyOf) (k : ℕ) → asked_loader ls of_root field name key ≡ Some k → k < length ls
  asked-there of_root field name (from_argument a) k h = keyed-there name k (grind arith)
  asked-there of_root field name (from_column c) k h = keyed-there name k (grind arith)
  asked-there of_root field name from_all k h = whole-there name k h
  asked-there of_root field name (from_pair one two) k h = paired-there name k (grind arith)

  abbrev step-at : source.StepOf → ℕ → StepOf
  step-at s n = record { loader = n; column = s.1 }

  step-there : (s : source.StepOf) (t : StepOf) → later_step ls s ≡ Some t → t.loader < length ls
  step-there s t h =
      let m = map-given (step-at s) (keyed_loader ls s.0) t h in
      subst (λ (q : StepOf). q.loader < length ls) m.2 (keyed-there s.0 m.0 m.1)

  steps-there : (steps : List source.StepOf) (ss : List StepOf) → later_steps ls steps ≡ Some ss → StepsThere (length ls) ss
  steps-there [] ss h = let same : [] ≡ ss = cc in subst (StepsThere (length ls)) same tt
  steps-there (s ∷ rest) ss h =
      let t = then-given (λ (t : StepOf). option_map (λ (ts : List StepOf). t ∷ ts) (later_steps ls rest)) (later_step ls s) ss h in
      let u = map-given (λ (ts : List StepOf). t.0 ∷ ts) (later_steps ls rest) ss t.2 in
      subst (StepsThere (length ls)) u.2 (step-there s t.0 t.1, steps-there rest u.0 u.1)

  form-there : (defs : List Definition) (of_root : Bool) (field : Field) (form : FormOf) (b : BindingOf) → form_binding defs ls of_root field form ≡ Some b → AreThere (length ls) b
  form-there defs of_root field (to_column c) b h =
      let g = if-given (not of_root && is_leaf_type defs field.of_type) (Some (by_column c)) b h in
      let same : by_column c ≡ b = cc in
      subst (AreThere (length ls)) same tt
  form-there defs of_root field (to_one l key) b h =
      let m = map-given (λ (n : ℕ). by_one n key) (asked_loader ls of_root field l key) b (grind arith) in
      subst (AreThere (length ls)) m.2 (asked-there of_root field l key m.0 m.1)
  form-there defs of_root field (to_many l key) b h =
      let m = map-given (λ (n : ℕ). by_many n key) (asked_loader ls of_root field l key) b (grind arith) in
      subst (AreThere (length ls)) m.2 (asked-there of_root field l key m.0 m.1)
  form-there defs of_root field (to_each l a) b h =
      let m = map-given (λ (n : ℕ). by_each n a) (keyed_loader ls l) b (grind arith) in
      subst (AreThere (length ls)) m.2 (keyed-there l m.0 m.1)
  form-there defs of_root field (to_via l key steps) b h =
      let t = then-given (λ (n : ℕ). option_map (λ (ss : List StepOf). by_via n key ss) (later_steps ls steps)) (asked_loader ls of_root field l key) b (grind arith) in
      let u = map-given (λ (ss : List StepOf). by_via t.0 key ss) (later_steps ls steps) b t.2 in
      subst (AreThere (length ls)) u.2 (asked-there of_root field l key t.0 t.1, steps-there steps u.0 u.1)

-- ---- what is bound after each line

abbrev AllThere : ℕ → List BoundFieldOf → Type 0
AllThere n [] = Unit {0}
AllThere n (f ∷ fs) = AreThere n f.binding × AllThere n fs

steps-more : (n m : ℕ) (ss : List StepOf) → n ≤ m → StepsThere n ss → StepsThere m ss
steps-more n m [] le h = tt
steps-more n m (s ∷ ss) le h = let a = h.0 in (omega (arith, le, a), steps-more n m ss le h.1)

there-more : (n m : ℕ) (b : BindingOf) → n ≤ m → AreThere n b → AreThere m b
there-more n m (by_column column) le h = tt
there-more n m (by_via loader key steps) le h = let a = h.0 in (omega (arith, le, a), steps-more n m steps le h.1)
there-more n m b le h = omega (arith, le, h)

all-more : (n m : ℕ) (fs : List BoundFieldOf) → n ≤ m → AllThere n fs → AllThere m fs
all-more n m [] le h = tt
all-more n m (f ∷ fs) le h = (there-more n m f.binding le h.0, all-more n m fs le h.1)

all-last : (n : ℕ) (fs : List BoundFieldOf) (f : BoundFieldOf) → AllThere n fs → AreThere n f.binding → AllThere n (fs ++ f ∷ [])
all-last n [] f h k = (k, tt)
all-last n (x ∷ fs) f h k = (h.0, all-last n fs f h.1 k)

-- the bindings name no loader that they don't define
abbrev AreWhole : BindingsOf → Type 0
AreWhole b = AllThere (length b.loaders) b.fields

statement-whole : (defs : List Definition) (b c : BindingsOf) (s : StatementOf) → after_statement defs b s ≡ Some c → AreWhole b → AreWhole c
statement-whole defs b c (loader_line name table by) h whole =
    let l : LoaderOf = record { name = name; table = table; by = by } in
    let g = if-not-given (is_some (loader_in b.loaders name)) _ c h in
    let same : with_loader b (record { name = name; table = table; by = by }) ≡ c = cc in
    subst AreWhole same (all-more (length b.loaders) (length (b.loaders ++ l ∷ [])) b.fields (omega (arith, length-append b.loaders (l ∷ []))) whole)
statement-whole defs b c (field_line ty name form) h whole =
    let m = map-given (with_field b ty name) (field_binding defs b.loaders ty name form) c (if-not-given (is_some (binding_in b.fields ty name)) _ c h).1 in
    let t = then-given (λ (field : Field). form_binding defs b.loaders (is_root_type defs ty) field form) (field_in defs ty name) m.0 (if-given (is_object_type defs ty) _ m.0 m.1).1 in
    subst AreWhole m.2 (all-last (length b.loaders) b.fields (record { type_name = ty; field_name = name; binding = m.0 }) whole (form-there b.loaders defs (is_root_type defs ty) t.0 form m.0 t.2))

-- reading went on from some bindings
then-accepted : (r : Reading) (next : BindingsOf → Reading) (c : BindingsOf) → and_then r next ≡ accepted c → (b : BindingsOf) × (r ≡ accepted b) × (next b ≡ accepted c)
then-accepted r next c h = grind arith

or-accepted : (line : ℕ) (o : Option BindingsOf) (c : BindingsOf) → or_refused line o ≡ accepted c → o ≡ Some c
or-accepted line o c h = grind arith

statements-whole : (defs : List Definition) (b c : BindingsOf) (ss : List NumberedOf) → after_statements defs b ss ≡ accepted c → AreWhole b → AreWhole c
statements-whole defs b c [] h whole = let same : b ≡ c = cc in subst AreWhole same whole
statements-whole defs b c (s ∷ ss) h whole =
    let t = then-accepted (or_refused s.line (after_statement defs b s.statement)) (λ (d : BindingsOf). after_statements defs d ss) c h in
    statements-whole defs t.0 c ss t.2 (statement-whole defs b t.0 s.statement (or-accepted s.line (after_statement defs b s.statement) t.0 t.1) whole)

-- ---- what is bound at the end

abbrev is_bound : BindingsOf → List ℕ → List ℕ → Bool
is_bound b ty name = is_some (binding_in b.fields ty name)

-- a field that is bound stays bound
abbrev Keeps : BindingsOf → BindingsOf → Type 0
Keeps b c = (ty name : List ℕ) → is_bound b ty name ≡ true → is_bound c ty name ≡ true

find-more : (ty name : List ℕ) (fs gs : List BoundFieldOf) → is_some (binding_in fs ty name) ≡ true → is_some (binding_in (fs ++ gs) ty name) ≡ true
find-more ty name [] gs h = absurd (cc h)
find-more ty name (f ∷ fs) gs h = let rest = find-more ty name fs gs in grind arith

find-last : (ty name : List ℕ) (fs : List BoundFieldOf) (binding : BindingOf) → is_some (binding_in (fs ++ record { type_name = ty; field_name = name; binding = binding } ∷ []) ty name) ≡ true
find-last ty name [] binding = rw ((bytes_eq-Decides ty ty).1 refl, (bytes_eq-Decides name name).1 refl) refl
find-last ty name (f ∷ fs) binding = let rest = find-last ty name fs binding in grind arith

-- says what one more field leaves
record Settles (b c : BindingsOf) : Type 0 where
  whole : AreWhole b → AreWhole c
  keeps : Keeps b c

settles-both : (b c d : BindingsOf) → Settles b c → Settles c d → Settles b d
settles-both b c d s t = record { whole = λ h. t.whole (s.whole h); keeps = λ ty name h. t.keeps ty name (s.keeps ty name h) }

settles-none : (b : BindingsOf) → Settles b b
settles-none b = record { whole = λ h. h; keeps = λ ty name h. h }

field-settles : (defs : List Definition) (ty : List ℕ) (b c : BindingsOf) (f : Field) → settled_field defs ty b f ≡ Some c → Settles b c × (is_bound c ty f.name.text ≡ true)
field-settles defs ty b c f h = go (is_bound b ty f.name.text) refl h
  where
    more : Settles b (with_field b ty f.name.text (by_column f.name.text)) × (is_bound (with_field b ty f.name.text (by_column f.name.text)) ty f.name.text ≡ true)
    more = (
      record {
        whole = λ w. all-last (length b.loaders) b.fields (record { type_name = ty; field_name = f.name.text; binding = by_column f.name.text }) w tt;
        keeps = λ other name e. find-more other name b.fields (record { type_name = ty; field_name = f.name.text; binding = by_column f.name.text } ∷ []) e;
      },
      find-last ty f.name.text b.fields (by_column f.name.text),
    )

    go : (x : Bool) → is_bound b ty f.name.text ≡ x → (if x then Some b else (if is_root_type defs ty || not (is_leaf_type defs f.of_type) then None else Some (with_field b ty f.name.text (by_column f.name.text)))) ≡ Some c
        → Settles b c × (is_bound c ty f.name.text ≡ true)
    go true e k = let same : b ≡ c = cc in subst (λ (d : BindingsOf). Settles b d × (is_bound d ty f.name.text ≡ true)) same (settles-none b, e)
    go false e k =
        let g = if-not-given (is_root_type defs ty || not (is_leaf_type defs f.of_type)) (Some (with_field b ty f.name.text (by_column f.name.text))) c k in
        let same : with_field b ty f.name.text (by_column f.name.text) ≡ c = cc in
        subst (λ (d : BindingsOf). Settles b d × (is_bound d ty f.name.text ≡ true)) same more

abbrev AllBound : BindingsOf → List ℕ → List Field → Type 0
AllBound b ty fs = (f : Field) → IsOneOf f fs → is_bound b ty f.name.text ≡ true

fields-settle : (defs : List Definition) (ty : List ℕ) (b c : BindingsOf) (fs : List Field) → settled_fields defs ty b fs ≡ Some c → Settles b c × AllBound c ty fs
fields-settle defs ty b c [] h = let same : b ≡ c = cc in (subst (Settles b) same (settles-none b), λ f i. absurd i)
fields-settle defs ty b c (f ∷ fs) h =
    let t = then-given (λ (d : BindingsOf). settled_fields defs ty d fs) (settled_field defs ty b f) c h in
    let s = field-settles defs ty b t.0 f t.1 in
    let r = fields-settle defs ty t.0 c fs t.2 in (
      settles-both b t.0 c s.0 r.0,
      λ g i. elim i [
        | inl e ↦ subst (λ (x : Field). is_bound c ty x.name.text ≡ true) (sym e) (r.0.keeps ty f.name.text s.1)
        | inr j ↦ r.1 g j
      ],
    )

-- each field of each object type among these definitions is bound
abbrev AllTypes : BindingsOf → List Definition → Type 0
AllTypes b ds = (n : Name) (is : List Name) (fs : List Field) → IsOneOf (Object n is fs) ds → AllBound b n.text fs

types-settle : (defs : List Definition) (b c : BindingsOf) (ds : List Definition) → settled defs b ds ≡ Some c → Settles b c × AllTypes c ds
types-settle defs b c [] h = let same : b ≡ c = cc in (subst (Settles b) same (settles-none b), λ n is fs i. absurd i)
types-settle defs b c (Object n is fs ∷ ds) h =
    let t = then-given (λ (d : BindingsOf). settled defs d ds) (settled_fields defs n.text b fs) c h in
    let s = fields-settle defs n.text b t.0 fs t.1 in
    let r = types-settle defs t.0 c ds t.2 in (
      settles-both b t.0 c s.0 r.0,
      λ m js gs i. elim i [
        | inl e ↦
            let name : m ≡ n = cc in
            let fields : gs ≡ fs = cc in
            λ f j. subst (λ (x : Name). is_bound c x.text f.name.text ≡ true) (sym name) (r.0.keeps n.text f.name.text (s.1 f (subst (λ (xs : List Field). IsOneOf f xs) fields j)))
        | inr j ↦ r.1 m js gs j
      ],
    )
types-settle defs b c (d ∷ ds) h = let r = types-settle defs b c ds h in (r.0, λ m js gs i. elim i [ inl e ↦ absurd (cc e) | inr j ↦ r.1 m js gs j ])

-- ---- bindings that are read

end-settles : (defs : List Definition) (headed : Bool) (bad : Option ℕ) (b c : BindingsOf) → at_end defs headed bad b ≡ accepted c → settled defs b defs ≡ Some c
end-settles defs headed (Some line) b c h = absurd (cc h)
end-settles defs true None b c h = or-accepted 0 (settled defs b defs) c h
end-settles defs false None b c h = absurd (cc h)

read-settles : (defs : List Definition) (text : BindingsTextOf) (c : BindingsOf) → reading_of defs text ≡ accepted c → AreWhole c × AllTypes c defs
read-settles defs text c h =
    let t = then-accepted (after_statements defs nothing text.statements) (at_end defs text.is_headed text.bad_line) c h in
    let s = types-settle defs t.0 c defs (end-settles defs text.is_headed text.bad_line t.0 c t.2) in
    (s.0.whole (statements-whole defs nothing t.0 text.statements t.1 tt), s.1)

-- a binding that is found names loaders that are there
pub binding-there : (n : ℕ) (fs : List BoundFieldOf) (ty name : List ℕ) (binding : BindingOf) → AllThere n fs → binding_in fs ty name ≡ Some binding → AreThere n binding
binding-there n [] ty name binding all h = absurd (cc h)
binding-there n (f ∷ fs) ty name binding all h =
    cond_both (binds ty name f) _ _ (λ o. option_map (λ (x : BoundFieldOf). x.binding) o ≡ Some binding → AreThere n binding) (λ _ k. let same : f.binding ≡ binding = cc in subst (AreThere n) same all.0)
    (λ _ k. binding-there n fs ty name binding all.1 k) h

pub read-there : (defs : List Definition) (text : List ℕ) (b : BindingsOf) (ty name : List ℕ) (binding : BindingOf) → bindings_of defs text ≡ accepted b → binding_in b.fields ty name ≡ Some binding → AreThere (length b.loaders) binding
read-there defs text b ty name binding h e = binding-there (length b.loaders) b.fields ty name binding (read-settles defs (bindings_text text) b h).0 e

-- ---- object types

-- says what a type that is an object type has
pub record IsObjectOf (defs : List Definition) (ty : List ℕ) : Type 0 where
  pub name : Name
  pub interfaces : List Name
  pub fields : List Field
  pub found : type_in defs ty ≡ Some (Object name interfaces fields)
  pub built : is_built_in ty ≡ false

abbrev is_object_kind : Option TypeKind → Bool
is_object_kind k = option_map_or is_object k false

pub object-of : (defs : List Definition) (ty : List ℕ) → is_object_type defs ty ≡ true → IsObjectOf defs ty
object-of defs ty h = kinds (type_in defs ty) refl (grind arith) (grind arith)
  where
    kinds : (d : Option Definition) → type_in defs ty ≡ d → is_built_in ty ≡ false → is_object_kind (option_and_then kind_of d) ≡ true → IsObjectOf defs ty
    kinds (Some (Object n is fs)) e b k = record { name = n; interfaces = is; fields = fs; found = e; built = b }
    kinds d e b k = absurd (cc k)

-- a field of an object type is bound
pub read-bound : (defs : List Definition) (text : List ℕ) (b : BindingsOf) (ty name : List ℕ) (d : Field) → bindings_of defs text ≡ accepted b → is_object_type defs ty ≡ true → field_in defs ty name ≡ Some d → IsBound b ty name
read-bound defs text b ty name d h object field =
    let settles = read-settles defs (bindings_text text) b h in
    let o = object-of defs ty object in
    let at = found-one (defines ty) defs (Object o.name o.interfaces o.fields) o.found in
    let here : find (is_field name) o.fields ≡ Some d = rw o.found at field in
    let own = found-one (is_field name) o.fields d here in
    let ty_is : ty ≡ o.name.text = (bytes_eq-Decides ty o.name.text).0 at.1 in
    let name_is : name ≡ d.name.text = (bytes_eq-Decides name d.name.text).0 own.1 in
    let bound : is_bound b o.name.text d.name.text ≡ true = settles.1 o.name o.interfaces o.fields at.0 d own.0 in
    let found = some-of (binding_in b.fields ty name) (ap (λ (t : List ℕ). is_bound b t name) ty_is ∙ (ap (is_bound b o.name.text) name_is ∙ bound)) in
    let s = map-given (λ (x : BoundFieldOf). x.binding) (find (binds ty name) b.fields) found.0 found.1 in
    record { binding = found.0; bound = found.1; there = read-there defs text b ty name found.0 h found.1 }
