-- Definitions of what a part of the total comes to over a memory, as the code finds it. No public clause
-- names these.
use Rattle.std.specs.Prelude.{◌≡◌, ◌+◌, ℕ, List, length}
use Rattle.load_memory.specs.Pairs.{MemoryOf}
use Rattle.load_queue.specs.Wanted.{WantedOf}
use Rattle.execution.specs.Program.{Value, Null, Fault, Program, Programs, needs, all_needs, Tree, Open, At, Over, Trees, NoMore, And, tree, trees}
use Rattle.execution.specs.Front.{missing, wanting}
use Rattle.execution.specs.Reads.{count_read, counted}
use Rattle.load_rounds.specs.Calls.{reader_of}
use Rattle.example_totals.specs.Totals.{number_at}
use Rattle.example_totals.specs.declared.totals.Found.{Found}
use Rattle.example_totals.specs.declared.totals.Finding.{Finding}
use Rattle.example_totals.specs.declared.totals.Found.TheVariants as it

-- something is missing, or a number, or why there is none
pub data FoundOf : Type 0 where
  lacking : FoundOf
  number : ℕ → FoundOf
  fault : List ℕ → FoundOf

abbrev pub found_of : Found → FoundOf
found_of it.Missing = lacking
found_of (it.Number n) = number n
found_of (it.Fault text) = fault text.now

-- joins two findings: one that lacks something leaves both lacking, the first fault counts, and numbers are added
abbrev pub both : FoundOf → FoundOf → FoundOf
both lacking g = lacking
both (number m) lacking = lacking
both (number m) (number n) = number (m + n)
both (number m) (fault text) = fault text
both (fault text) lacking = lacking
both (fault text) (number n) = fault text
both (fault text) (fault other) = fault text

-- gives what a tree comes to
abbrev mutual
  pub found_in : Tree → FoundOf
  found_in Open = lacking
  found_in (At (Value leaf)) = number (number_at leaf)
  found_in (At Null) = number 0
  found_in (At (Fault text)) = fault text
  found_in (Over kind below) = found_below below

  pub found_below : Trees → FoundOf
  found_below NoMore = number 0
  found_below (And position t rest) = both (found_in t) (found_below rest)

-- it is what the program comes to over the memory, with the count of its loads, and what the program needs and the memory lacks
-- was wanted
pub record IsFound (p : Program) (m : MemoryOf) (old new : List WantedOf)
    (part : Finding) : Type 0 where
  pub found : found_of part.found ≡ found_in (tree p (reader_of m))
  pub loads : part.loads ≡ counted (count_read p (reader_of m))
  pub wants : new ≡ wanting old (missing (reader_of m) (needs p (reader_of m)))

-- says the same of the programs below a position
pub record AreFound (ps : Programs) (m : MemoryOf) (old new : List WantedOf)
    (part : Finding) : Type 0 where
  pub found : found_of part.found ≡ found_below (trees ps (reader_of m))
  pub loads : part.loads ≡ counted (length (all_needs ps (reader_of m)))
  pub wants : new ≡ wanting old (missing (reader_of m) (all_needs ps (reader_of m)))
