-- Tables by their names, one more at a time.
use Rattle.std.proofs.Common.{◌≡◌, ◌⊎◌, ◌∙◌, ◌+◌, ◌<◌, ℕ, List, [], ◌∷◌, ◌++◌, true, false, cond, get_or, length, sym, ap, refl, Option, Some, None, inl, inr, arith}
use Rattle.std.proofs.lemmas.Bool.{cases_Bool}
use Rattle.std.proofs.lemmas.List.{length-append, get_or_default, get_or_at}
use Rattle.std.proofs.Math.ListN.{get_or-append}
use Rattle.std.proofs.lemmas.List.Folds.{find-append, Any-from_list_any, list_any_at}
use Rattle.csv_source.specs.Reading.{Repeats}
use Rattle.std.proofs.lemmas.Slice.Eq.{bytes_eq-Decides}
use Rattle.std.specs.Prelude.{bytes_eq, find, is_some, option_map}
use Rattle.std.specs.Option.{option_or}
use Rattle.std.specs.List.{list_any}
use Rattle.load_memory.specs.Rows.{SheetOf}
use Rattle.world.specs.Sources.{TableOf, names_of, is_table, sheet_named}

-- a table is found where its name is among the names
pub named-any : (ts : List TableOf) (q : List ℕ) → is_some (sheet_named ts q) ≡ list_any (bytes_eq q) (names_of ts)
named-any [] q = refl
named-any (t ∷ ts) q = elim (cases_Bool (is_table q t)) [ inl is ↦ rw is refl | inr other ↦ rw other (named-any ts q) ]

unfound : (o : Option TableOf) → option_map (λ (t : TableOf). t.sheet) o ≡ None → o ≡ None
unfound None h = refl
unfound (Some t) h = cc

kept : (o : Option TableOf) → option_or o None ≡ o
kept None = refl
kept (Some t) = refl

pub none-of : (o : Option SheetOf) → is_some o ≡ false → o ≡ None
none-of None h = refl
none-of (Some s) h = cc

-- a table more, of a name that no table before it has
pub sheet-append : (ts : List TableOf) (t : TableOf) (q : List ℕ) → sheet_named ts t.name ≡ None → sheet_named (ts ++ t ∷ []) q ≡ cond (is_table q t) (Some t.sheet) (sheet_named ts q)
sheet-append ts t q new = elim (cases_Bool (is_table q t)) [
  | inl is ↦
      let same : q ≡ t.name = (bytes_eq-Decides q t.name).0 is in
      let none : find (is_table q) ts ≡ None = unfound (find (is_table q) ts) (ap (sheet_named ts) same ∙ new) in
      ap (option_map (λ (t : TableOf). t.sheet)) (find-append (is_table q) ts (t ∷ [])) ∙ rw (none, is) refl
  | inr other ↦ ap (option_map (λ (t : TableOf). t.sheet)) (find-append (is_table q) ts (t ∷ [])) ∙ rw (other, kept (find (is_table q) ts)) refl
]

-- a name that stands before stands twice
pub repeats-before : (ns : List (List ℕ)) (n : List ℕ) (rest : List (List ℕ)) → list_any (bytes_eq n) ns ≡ true → Repeats (ns ++ n ∷ rest)
repeats-before ns n rest known =
    let (k, x, below, here, same) = Any-from_list_any (bytes_eq n) ns known in
    let is : n ≡ x = (bytes_eq-Decides n x).0 same in
    record {
      first = k;
      second = length ns;
      earlier = below;
      within = omega (arith, length-append ns (n ∷ rest));
      same = get_or-append ns (n ∷ rest) [] k below ∙ (get_or_default ns k [] x below ∙ (here ∙ (sym is ∙ sym (get_or_at ns n rest [] (length ns) refl))));
    }

last : (a b n : ℕ) → a < b → b < n + 1 → (b < n) ⊎ ((b ≡ n) × (a < n))
last a b n below within = grind arith

-- a name more, that no name before it is
pub repeats-more : (ns : List (List ℕ)) (n : List ℕ) → list_any (bytes_eq n) ns ≡ false → (Repeats ns → ⊥) → Repeats (ns ++ n ∷ []) → ⊥
repeats-more ns n new once r =
    let size : r.second < length ns + 1 = omega (arith, r.within, length-append ns (n ∷ [])) in
    elim (last r.first r.second (length ns) r.earlier size) [
      | inl lower ↦
          let before : r.first < length ns = omega (arith, r.earlier, lower) in
          once (record {
            first = r.first;
            second = r.second;
            earlier = r.earlier;
            within = lower;
            same = sym (get_or-append ns (n ∷ []) [] r.first before) ∙ (r.same ∙ get_or-append ns (n ∷ []) [] r.second lower);
          })
      | inr (here, before) ↦
          let at : get_or ns r.first [] ≡ n = sym (get_or-append ns (n ∷ []) [] r.first before) ∙ (r.same ∙ get_or_at ns n [] [] r.second (sym here)) in
          let known = list_any_at (bytes_eq n) ns r.first [] before ((bytes_eq-Decides n (get_or ns r.first [])).1 (sym at)) in
          cc
    ]
