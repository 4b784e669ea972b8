-- The loaders of a world, one more at a time.
use Rattle.std.proofs.Common.{◌≡◌, ◌<◌, ◌≤◌, ◌+◌, ℕ, zero, suc, List, [], ◌∷◌, ◌++◌, All, map, length, take, get_or, Option, refl, sym, ap, subst, ◌∙◌, add-one, arith}
use Rattle.std.proofs.lemmas.List.{length-map, get_or-map, take_all, map-append}
use Rattle.std.proofs.lemmas.List.Elements.{All-nil, All-cons}
use Rattle.csv_source.specs.Tables.{SourceOf}
use Rattle.gq_bindings.specs.Tree as bindings
use Rattle.load_memory.proofs.ReplyPairs.{All-of_map}
use Rattle.load_queue.specs.Loaders.{LoaderOf, as_made}
use Rattle.load_rounds.specs.Sessions.{SessionOf}
use Rattle.world.specs.Worlds.{WorldOf}
use Rattle.world_answers.specs.Sessions.{loader_over, loaders_over, whichever, IsOver}

module _ (limit : Option ℕ) where
  pub take-over : (lines : List bindings.LoaderOf) (sources : List SourceOf) (n : ℕ) (d : bindings.LoaderOf) (e : SourceOf) → length sources ≡ length lines → n < length lines
      → take (suc n) (loaders_over limit lines sources) ≡ take n (loaders_over limit lines sources) ++ loader_over 0 limit (get_or lines n d).name (get_or sources n e) ∷ []
  take-over [] sources n d e same lt = absurd (omega arith)
  take-over (line ∷ lines) [] n d e same lt = absurd (cc same)
  take-over (line ∷ lines) (source ∷ sources) zero d e same lt = refl
  take-over (line ∷ lines) (source ∷ sources) (suc n) d e same lt =
      let below : n < length lines = omega arith in
      ap (λ ls. loader_over 0 limit line.name source ∷ ls) (take-over lines sources n d e (cc same) below)

  -- what holds of each loader over its source
  pub over-all : (P : LoaderOf SourceOf → Type 0) → ((name : List ℕ) (source : SourceOf) → P (loader_over 0 limit name source)) → (lines : List bindings.LoaderOf) (sources : List SourceOf) → All P (loaders_over limit lines sources)
  over-all P h (line ∷ lines) (source ∷ sources) = All-cons P (loader_over 0 limit line.name source) (loaders_over limit lines sources) (h line.name source) (over-all P h lines sources)
  over-all P h lines sources = All-nil P

  -- those that are these, whichever they are, have asked nothing
  pub quiet-over : (lines : List bindings.LoaderOf) (sources : List SourceOf) (ls : List (LoaderOf SourceOf)) → map whichever ls ≡ loaders_over limit lines sources → All (λ (l : LoaderOf SourceOf). l.log ≡ []) ls
  quiet-over lines sources ls is =
      let P : LoaderOf SourceOf → Type 0 = λ l. l.log ≡ [] in
      All-of_map whichever P ls (subst (λ xs. All P xs) (sym is) (over-all P (λ name source. refl) lines sources))

  pub length-over : (lines : List bindings.LoaderOf) (sources : List SourceOf) → length sources ≡ length lines → length (loaders_over limit lines sources) ≡ length lines
  length-over [] sources e = refl
  length-over (line ∷ lines) [] e = absurd (cc e)
  length-over (line ∷ lines) (source ∷ sources) e = ap suc (length-over lines sources (cc e))

  module _ {X : Type 0} (seen : X → bindings.LoaderOf) where
    -- one loader more
    pub built-more : (raw : List X) (item : X) (lines : List bindings.LoaderOf) (sources : List SourceOf) (n : ℕ) (d : SourceOf) (done new : List (LoaderOf SourceOf)) (l : LoaderOf SourceOf) (name : List ℕ) → map seen raw ≡ lines → length sources ≡ length lines → n < length raw
        → item ≡ get_or raw n item → map whichever done ≡ take n (loaders_over limit lines sources) → name ≡ (seen item).name → l ≡ loader_over l.identity limit name (get_or sources n d) → new ≡ done ++ l ∷ [] → map whichever new ≡ take (n + 1) (loaders_over limit lines sources)
    built-more raw item lines sources n d done new l name are same lt is built named made added =
        let below : n < length lines = omega (arith, lt, ap length are, length-map raw seen) in
        let line : get_or lines n (seen item) ≡ seen item = ap (λ ls. get_or ls n (seen item)) (sym are) ∙ get_or-map seen raw n item (seen item) lt ∙ ap seen (sym is) in
        let whole : take (suc n) (loaders_over limit lines sources) ≡ take n (loaders_over limit lines sources) ++ loader_over 0 limit (seen item).name (get_or sources n d) ∷ [] =
        rw line at (take-over lines sources n (seen item) d same below) in
        rw add-one (ap (map whichever) added ∙ map-append whichever done (l ∷ []) ∙ ap (λ ls. ls ++ whichever l ∷ []) built ∙ ap (λ x. take n (loaders_over limit lines sources) ++ x ∷ []) (ap whichever made ∙ ap (λ q. loader_over 0 limit q (get_or sources n d)) named) ∙ sym whole)

    -- all of them
    pub built-all : (raw : List X) (lines : List bindings.LoaderOf) (sources : List SourceOf) (n : ℕ) (done : List (LoaderOf SourceOf)) → map seen raw ≡ lines → length sources ≡ length lines → length raw ≤ n → map whichever done ≡ take n (loaders_over limit lines sources)
        → map whichever done ≡ loaders_over limit lines sources
    built-all raw lines sources n done are same ge built =
        let enough : length (loaders_over limit lines sources) ≤ n = omega (arith, length-over lines sources same, ap length are, length-map raw seen) in
        built ∙ take_all n (loaders_over limit lines sources) enough

-- a session of a world has the loaders of its bindings
pub enough : (w : WorldOf) (session : SessionOf SourceOf) (b : bindings.BindingsOf) → b ≡ w.bindings → IsOver w session → length b.loaders ≤ length session.loaders
enough w session b same over =
    let most : length (map as_made session.loaders) ≡ length w.bindings.loaders = ap length over.loaders ∙ length-over w.limit w.bindings.loaders w.sources over.each in
    let own : length b.loaders ≡ length w.bindings.loaders = ap (λ (x : bindings.BindingsOf). length x.loaders) same in
    omega (arith, most, own, length-map session.loaders as_made)
