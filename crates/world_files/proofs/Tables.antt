-- One table more.
use Rattle.std.proofs.Common.{◌≡◌, ◌∙◌, ap, sym, subst, ℕ, ◌+◌, ◌<◌, List, [], ◌∷◌, ◌++◌, length, get_or, map, take, String}
use Rattle.std.specs.Global.{Global}
use Rattle.std.specs.List.{AllZip}
use Rattle.std.proofs.lemmas.List.{map-append, take_more}
use Rattle.std.proofs.lemmas.Slice.Zip.{all_zipped_more}
use Rattle.load_memory.specs.Rows.{SheetOf}
use Rattle.world.specs.Sources.{TableOf, table_of}
use Rattle.world_files.specs.declared.files.TableFile.{TableFile}

pub tables_more : (R : TableFile → TableOf → Type 0) (given : List TableFile) (k : ℕ) (f : TableFile) (old new : List (String Global × SheetOf)) (t : String Global × SheetOf)
    → k < length given → f ≡ get_or given k f → new ≡ old ++ t ∷ [] → AllZip R (take k given) (map table_of old) → R f (table_of t)
    → AllZip R (take (k + 1) given) (map table_of new)
tables_more R given k f old new t within here pushed before now =
    let files : take (k + 1) given ≡ take k given ++ f ∷ [] = take_more given k f within ∙ ap (λ (x : TableFile). take k given ++ x ∷ []) (sym here) in
    let tables : map table_of new ≡ map table_of old ++ table_of t ∷ [] = ap (map table_of) pushed ∙ map-append table_of old (t ∷ []) in
    let all = all_zipped_more R (take k given) (map table_of old) f (table_of t) before now in
    subst (λ (fs : List TableFile). AllZip R fs (map table_of new)) (sym files)
    (subst (AllZip R (take k given ++ f ∷ [])) (sym tables) all)
