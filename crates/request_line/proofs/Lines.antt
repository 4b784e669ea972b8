-- A line as what was read of it.
use Rattle.std.proofs.Common.{◌≡◌, ℕ, suc, ◌<◌, ◌≤◌, Bool, true, false, List, [], ◌∷◌, map, length, Option, Some, None, refl, sym, ap, ◌∙◌}
use Rattle.std.proofs.lemmas.Bool.{false≢true}
use Rattle.std.proofs.lemmas.Slice.Eq.{bytes_eq-Decides}
use Rattle.std.proofs.lemmas.Iterator.{YieldsList, IsCollectResult, items_from_drains}
use Rattle.std.specs.Option.{option_map, option_and_then}
use Rattle.std.specs.Prelude.{Result, Ok, Err, IfOk, vec_items}
use Rattle.std.specs.declared.vec.Vec.{Vec}
use Rattle.std.specs.Prelude.{IsUtf8}
use Rattle.std.specs.Str.{bytes_eq}
use Rattle.serde_json.specs.Data.{Data, null, boolean, number, string, array, object, Items}
use Rattle.serde_json.specs.Find.{as_array}
use Rattle.serde_json.specs.Read.{read}
use Rattle.serde_json.specs.View.{view, items_view}
use Rattle.serde_json.specs.declared.value.Value.{Value}
use Rattle.request_line.specs.Requests.{IsValue, AreRequests, IsNoRequest, most_requests, asked, asked_each}
use Rattle.request_line.specs.Seen.{requests_of}
use Rattle.request_line.specs.declared.request.Request.{Request}

none_some : {X : Type 0} (x : X) → None ≡ Some x → ⊥
none_some x e = cc e

some_one : {X : Type 0} (x y : X) → Some x ≡ Some y → x ≡ y
some_one x y e = cc e

-- ---- no value

pub no_value : (text : List ℕ) → (IsUtf8 text → read text ≡ None) → IsNoRequest text
no_value text none = record {
  not_one = λ request is. none_some request (sym (ap (option_and_then asked) (none is.text)) ∙ is.members);
  not_several = λ requests are. none_some requests (sym (ap (λ d. option_map asked_each (option_and_then as_array d)) (none are.text)) ∙ are.values);
}

-- ---- an array

-- the requests of values, one by one
pub asked-items : (vs : List Value) → map (λ v. asked (view v)) vs ≡ asked_each (items_view vs)
asked-items [] = refl
asked-items (v ∷ vs) = ap (λ rs. asked (view v) ∷ rs) (asked-items vs)

-- the collected items, as they are seen
pub seen-collected : {S A B Z E : Type 0} {steps : S → Option A → S → Type 0} {s : S} {all : List B} → (v : A → B) → (r : Result (Vec A Z) E) → IsCollectResult steps s r → YieldsList steps v s all
    → IfOk r (λ w. map v (vec_items w) ≡ all)
seen-collected v (Ok w) ran yields = ap (map v) ran.2.0 ∙ items_from_drains ran.0 ran.1 yields
seen-collected v (Err e) ran yields = tt

pub length-asked : (vs : List Value) → length (asked_each (items_view vs)) ≡ length vs
length-asked [] = refl
length-asked (v ∷ vs) = ap suc (length-asked vs)

-- an array is no request
array-not_asked : (d : Data) (ds : Items) → as_array d ≡ Some ds → asked d ≡ None
array-not_asked null ds e = refl
array-not_asked (boolean b) ds e = refl
array-not_asked (number n) ds e = refl
array-not_asked (string s) ds e = refl
array-not_asked (array es) ds e = refl
array-not_asked (object ms) ds e = absurd (none_some ds e)

module _ (text : List ℕ) (d : Data) (vs : List Value) (is : IsValue text d) (e : Some (items_view vs) ≡ as_array d) where
  array-values : option_map asked_each (option_and_then as_array (read text)) ≡ Some (asked_each (items_view vs))
  array-values = ap (option_map asked_each) (ap (option_and_then as_array) is.value ∙ sym e)

  pub array_reading : (found : List (Option Request)) → requests_of found ≡ asked_each (items_view vs) → 0 < length vs → length vs ≤ most_requests → AreRequests text (requests_of found)
  array_reading found each some few = record {
    text = is.text;
    values = array-values ∙ ap Some (sym each);
    some = rw (ap length each ∙ length-asked vs) some;
    few = rw (ap length each ∙ length-asked vs) few;
  }

  pub array_refused : (0 < length vs → length vs ≤ most_requests → ⊥) → IsNoRequest text
  array_refused other = record {
    not_one = λ request one. none_some request (sym (ap (option_and_then asked) is.value ∙ array-not_asked d (items_view vs) (sym e)) ∙ one.members);
    not_several = λ requests are.
        let same : length requests ≡ length vs = ap length (some_one requests (asked_each (items_view vs)) (sym are.values ∙ array-values)) ∙ length-asked vs in
        other (rw same at are.some) (rw same at are.few);
  }

-- ---- names

pub same_name : (xs ys : List ℕ) (b : Bool) → b ≡ bytes_eq xs ys → b ≡ true → xs ≡ ys
same_name xs ys b e is = (bytes_eq-Decides xs ys).0 (sym e ∙ is)

pub other_name : (xs ys : List ℕ) (b : Bool) → b ≡ bytes_eq xs ys → b ≡ false → xs ≡ ys → ⊥
other_name xs ys b e other same = false≢true (sym other ∙ e ∙ (bytes_eq-Decides xs ys).1 same)
