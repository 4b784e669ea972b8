-- The loaders of a session of a world, and the items of their keys.
use Rattle.std.proofs.Common.{◌≡◌, ◌∙◌, ℕ, zero, suc, List, [], ◌∷◌, map, length, Option, refl, sym, ap, subst}
use Rattle.std.proofs.Math.Path.{fun_ext}
use Rattle.std.proofs.lemmas.Option.{none-some}
use Rattle.load_memory.specs.Keys.{KeyOf}
use Rattle.load_memory.specs.Outcomes.{ItemOf}
use Rattle.load_memory.specs.Pairs.{PairOf, look}
use Rattle.load_memory.specs.declared.key.KeyMode.{KeyMode}
use Rattle.csv_source.specs.Tables.{SourceOf, item_of_key}
use Rattle.load_queue.specs.Loaders.{LoaderOf, as_made}
use Rattle.execution.specs.Rounds.{without_failed, HoldsItems}
use Rattle.gq_bindings.specs.Tree as bindings
use Rattle.load_rounds.specs.KeyByKey.{CompareAlike, item_over}
use Rattle.load_rounds.specs.Sessions.{SessionOf}
use Rattle.world_answers.specs.Answers.{item_at}
use Rattle.world.specs.Worlds.{WorldOf}
use Rattle.load_memory.proofs.ReplyPairs.{All-of_map}
use Rattle.world_answers.specs.Sessions.{loaders_over, IsOver}
use Rattle.world_answers.proofs.Loading.{over-all}

-- ---- the loaders of a world

module _ (limit : Option ℕ) where
  -- the items of the loaders are those of the sources
  items-over : (lines : List bindings.LoaderOf) (sources : List SourceOf) (loader : ℕ) (key : KeyOf) → length sources ≡ length lines → item_over item_of_key (loaders_over limit lines sources) loader key ≡ item_at sources loader key
  items-over [] [] loader key e = refl
  items-over (line ∷ lines) (source ∷ sources) zero key e = refl
  items-over (line ∷ lines) (source ∷ sources) (suc loader) key e = items-over lines sources loader key (cc e)
  items-over lines sources loader key e = absurd (cc e)

nothing-held : (modes : List KeyMode) (item : ℕ → KeyOf → ItemOf) → HoldsItems modes item (without_failed (look []))
nothing-held modes item = λ loader key outcome h. absurd (none-some outcome h)

-- as a loader was made, so it compares keys, and so is its source
made-alike : (ls : List (LoaderOf SourceOf)) → CompareAlike (λ (s : SourceOf). s.mode) (map as_made ls) → CompareAlike (λ (s : SourceOf). s.mode) ls
made-alike ls h = All-of_map as_made (λ (l : LoaderOf SourceOf). l.mode ≡ l.source.mode) ls h

made-items : (ls : List (LoaderOf SourceOf)) (loader : ℕ) (key : KeyOf) → item_over item_of_key (map as_made ls) loader key ≡ item_over item_of_key ls loader key
made-items [] loader key = refl
made-items (l ∷ ls) zero key = refl
made-items (l ∷ ls) (suc loader) key = made-items ls loader key

-- ---- a session of a world

module _ (w : WorldOf) (s : SessionOf SourceOf) (over : IsOver w s) where
  pub over-alike : CompareAlike (λ (s : SourceOf). s.mode) s.loaders
  over-alike = made-alike s.loaders (subst (CompareAlike (λ (s : SourceOf). s.mode)) (sym over.loaders)
      (over-all w.limit (λ (l : LoaderOf SourceOf). l.mode ≡ l.source.mode) (λ name source. refl) w.bindings.loaders w.sources))

  pub over-items : item_over item_of_key s.loaders ≡ item_at w.sources
  over-items = fun_ext (λ loader. fun_ext (λ key.
      sym (made-items s.loaders loader key) ∙ ap (λ ls. item_over item_of_key ls loader key) over.loaders ∙ items-over w.limit w.bindings.loaders w.sources loader key over.each))

  pub over-held : (modes : List KeyMode) (item : ℕ → KeyOf → ItemOf) → HoldsItems modes item (without_failed (look s.pairs))
  over-held modes item =
      let none : [] ≡ s.pairs = ap (λ (x : SessionOf SourceOf). x.pairs) over.fresh in
      subst (λ (ps : List PairOf). HoldsItems modes item (without_failed (look ps))) none (nothing-held modes item)
