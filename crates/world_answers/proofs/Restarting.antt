-- A new session of a world is one of it, and so is one that has answered, once it starts again.
use Rattle.std.proofs.Common.{◌≡◌, ◌∙◌, List, [], ◌∷◌, map, length, All, refl, ap, sym}
use Rattle.std.proofs.lemmas.List.Elements.{All-weaker}
use Rattle.std.proofs.lemmas.List.Folds.{map_fixed}
use Rattle.std.proofs.lemmas.Simd.{map-map}
use Rattle.csv_source.specs.Tables.{SourceOf}
use Rattle.load_queue.specs.Loaders.{LoaderOf, as_made, unasked}
use Rattle.execution.specs.Sessions.{Restarted}
use Rattle.load_rounds.specs.Sessions.{SessionOf, state_of, restarted}
use Rattle.load_rounds.proofs.Stepping.{steps-made}
use Rattle.world.specs.Worlds.{WorldOf}
use Rattle.world_answers.specs.Sessions.{loaders_over, whichever, over_whichever, session_over, IsOver}
use Rattle.world_answers.proofs.Loading.{over-all, quiet-over}

-- a session of these loaders of which nothing is known
abbrev new_over : List (LoaderOf SourceOf) → SessionOf SourceOf
new_over ls = record { loaders = ls; pairs = []; rounds = 0 }

quiet-unasked : (ls : List (LoaderOf SourceOf)) → All (λ (l : LoaderOf SourceOf). l.log ≡ []) ls → map unasked ls ≡ ls
quiet-unasked ls h = map_fixed unasked ls (All-weaker (λ l. l.log ≡ []) (λ l. unasked l ≡ l) (λ l quiet. ap (λ log. record l { log = log }) (sym quiet)) ls h)

made-over : (w : WorldOf) → map as_made (loaders_over w.limit w.bindings.loaders w.sources) ≡ loaders_over w.limit w.bindings.loaders w.sources
made-over w = map_fixed as_made _ (over-all w.limit (λ l. as_made l ≡ l) (λ name source. refl) w.bindings.loaders w.sources)

pub over-new : (w : WorldOf) → length w.sources ≡ length w.bindings.loaders → IsOver w (session_over w)
over-new w each = record { loaders = made-over w; fresh = ap new_over (quiet-unasked _ (over-all w.limit (λ l. l.log ≡ []) (λ name source. refl) w.bindings.loaders w.sources)); each = each }

-- whichever its loaders are
pub over-whichever : (w : WorldOf) (s : SessionOf SourceOf) → over_whichever s ≡ session_over w → length w.sources ≡ length w.bindings.loaders → IsOver w s
over-whichever w s is each =
    let all : map whichever s.loaders ≡ loaders_over w.limit w.bindings.loaders w.sources = ap (λ (x : SessionOf SourceOf). x.loaders) is in
    let pairs : s.pairs ≡ [] = ap (λ (x : SessionOf SourceOf). x.pairs) is in
    let rounds : s.rounds ≡ 0 = ap (λ (x : SessionOf SourceOf). x.rounds) is in
    record {
      loaders = sym (map-map as_made whichever s.loaders) ∙ ap (map as_made) all ∙ made-over w;
      fresh = ap new_over (quiet-unasked s.loaders (quiet-over w.limit w.bindings.loaders w.sources s.loaders all))
          ∙ ap (λ ps. record { loaders = s.loaders; pairs = ps; rounds = 0 }) (sym pairs) ∙ ap (λ n. record { loaders = s.loaders; pairs = s.pairs; rounds = n }) (sym rounds);
      each = each;
    }

-- a session of the same loaders
pub over-kept : (w : WorldOf) (begun s : SessionOf SourceOf) → IsOver w begun → map as_made s.loaders ≡ map as_made begun.loaders → IsOver w (restarted s)
over-kept w begun s over same = record {
  loaders = steps-made (state_of s) (Restarted ∷ []) ∙ same ∙ over.loaders;
  fresh = ap new_over (map-map unasked unasked s.loaders);
  each = over.each;
}
