-- The sources of loaders, one more at a time.
use Rattle.std.proofs.Common.{◌≡◌, ℕ, suc, List, [], ◌∷◌, ◌++◌, length, ap, refl, sym, ◌∙◌, Option}
use Rattle.std.specs.Prelude.{Result, Ok, Err}
use Rattle.gq_bindings.specs.Tree.{LoaderOf}
use Rattle.load_memory.specs.Rows.{SheetOf}
use Rattle.csv_source.specs.Tables.{SourceOf}
use Rattle.world.specs.declared.fault.WorldFault.{WorldFault}
use Rattle.world.specs.declared.fault.WorldFault.TheVariants as world
use Rattle.world.specs.Sources.{source_for, sources_for, source_over_found, before, with_rest, IsRefused}

-- these sources, and then those
abbrev pub joined : List SourceOf → Result (List SourceOf) WorldFault → Result (List SourceOf) WorldFault
joined done (Ok rest) = Ok (done ++ rest)
joined done (Err e) = Err e

pub sources_for-same : (f g : List ℕ → Option SheetOf) → ((q : List ℕ) → f q ≡ g q) → (ls : List LoaderOf) → sources_for f ls ≡ sources_for g ls
sources_for-same f g same [] = refl
sources_for-same f g same (l ∷ ls) = rw (same l.table, sources_for-same f g same ls) refl

pub source_for-same : (f g : List ℕ → Option SheetOf) → ((q : List ℕ) → f q ≡ g q) → (l : LoaderOf) → source_for f l ≡ source_for g l
source_for-same f g same l = ap (λ (o : Option SheetOf). source_over_found o l.by) (same l.table)

-- a refusal of one is one of another that tells the same
pub refused-as : {A B : Type 0} (one : Result A WorldFault) (other : Result B WorldFault) → ((e : WorldFault) → one ≡ Err e → other ≡ Err e) → (fault : WorldFault) → IsRefused one fault → IsRefused other fault
refused-as one other tells world.BadLimit r = r
refused-as one other tells (world.Schema fault) r = r
refused-as one other tells world.DuplicateTable r = r
refused-as one other tells world.NoSuchTable r = tells world.NoSuchTable r
refused-as one other tells world.NoSuchColumn r = tells world.NoSuchColumn r
refused-as one other tells world.NoMemory r = r

-- each loader has its source
same-ok : (xs ys : List SourceOf) → ◌≡◌ {A = Result (List SourceOf) WorldFault} (Ok xs) (Ok ys) → xs ≡ ys
same-ok xs ys e = cc e

length-before : (s : SourceOf) (rest : Result (List SourceOf) WorldFault) (n : ℕ) (ss : List SourceOf) → ((more : List SourceOf) → rest ≡ Ok more → length more ≡ n) → before s rest ≡ Ok ss → length ss ≡ suc n
length-before s (Ok more) n ss h e = ap length (sym (same-ok (s ∷ more) ss e)) ∙ ap suc (h more refl)
length-before s (Err f) n ss h e = absurd (cc e)

length-with : (one : Result SourceOf WorldFault) (rest : Result (List SourceOf) WorldFault) (n : ℕ) (ss : List SourceOf) → ((more : List SourceOf) → rest ≡ Ok more → length more ≡ n) → with_rest one rest ≡ Ok ss → length ss ≡ suc n
length-with (Ok s) rest n ss h e = length-before s rest n ss h e
length-with (Err f) rest n ss h e = absurd (cc e)

pub sources_for-length : (sheets : List ℕ → Option SheetOf) (ls : List LoaderOf) (ss : List SourceOf) → sources_for sheets ls ≡ Ok ss → length ss ≡ length ls
sources_for-length sheets [] ss e = ap length (sym (same-ok [] ss e))
sources_for-length sheets (l ∷ ls) ss e = length-with (source_for sheets l) (sources_for sheets ls) (length ls) ss (λ more. sources_for-length sheets ls more) e
