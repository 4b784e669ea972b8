-- Records that were read, one more at a time.
use Rattle.std.proofs.Common.{◌≡◌, ◌<◌, ℕ, List, [], ◌∷◌, ◌++◌, length, Some, Option, None, refl, sym, arith, length-append}
use Rattle.csv.specs.Machine.{next_record}
use Rattle.csv.specs.Reading.{AreRecords, Reached, default_config, source_of, reader_state}
use Rattle.csv.specs.Records.{AllText}
use Rattle.csv.specs.declared.parser.State.TheVariants as st
use Rattle.csv.specs.declared.reader.Reader.{Reader}
use Rattle.csv_source.specs.Reading.{Record, StandsBehind, Begins, Fit, Lawful, HeaderFault, RowFault, FaultIs}
use Rattle.csv_source.specs.declared.fault.TableFault.{TableFault}
use Rattle.csv_source.specs.declared.fault.TableFault.TheVariants as fault

pub starts : {R : Type 0} (rem : R → Option (List ℕ)) (s : Reader R) (text : List ℕ) → reader_state s ≡ st.StartRecord → source_of rem s ≡ Some text → StandsBehind rem s text []
unfolding Reached
starts rem s text at is = (text, is, (sym at, refl))

pub begins_with : {R : Type 0} (rem : R → Option (List ℕ)) (s : Reader R) (text : List ℕ) (seen : List Record) → StandsBehind rem s text seen → Begins text seen
begins_with rem s text seen h = (reader_state s, h.0, h.2)

pub no_records : (text : List ℕ) → AreRecords default_config st.StartRecord text [] → next_record default_config st.StartRecord [] [] text ≡ None
unfolding Reached
no_records text (s, y, (a, b), e) = rw (a, b) e

pub fits_none : (head : Record) → Fit head []
unfolding Fit
fits_none head = tt

pub fit_end : (head : Record) (rows : List Record) (r : Record) → Fit head rows → length r ≡ length head → AllText r → Fit head (rows ++ r ∷ [])
unfolding Fit
fit_end head [] r f same text = (same, text, tt)
fit_end head (x ∷ xs) r f same text = (f.0, f.1, fit_end head xs r f.2 same text)

pub lawful_more : (head : Record) (rows : List Record) (r : Record) → Lawful (head ∷ rows) → length r ≡ length head → AllText r → length rows < 1000000 → Lawful (head ∷ (rows ++ r ∷ []))
lawful_more head rows r h same text lt = (h.0, fit_end head rows r h.1 same text, omega (arith, length-append rows (r ∷ []), lt))

-- the first record is no header
pub header-fault : (text : List ℕ) (head : Record) (e : TableFault) → Begins text (head ∷ []) → HeaderFault head e → FaultIs text e
header-fault text head fault.NotText begins why = record { before = []; last = head; begins = begins; lawful = tt; faulty = why }
header-fault text head fault.DuplicateColumn begins why = record { before = []; last = head; begins = begins; lawful = tt; faulty = why }
header-fault text head fault.NoMemory begins why = tt
header-fault text head fault.NoHeader begins why = absurd why
header-fault text head fault.BadRecord begins why = absurd why
header-fault text head fault.TooManyRows begins why = absurd why
header-fault text head fault.NoSuchColumn begins why = absurd why
header-fault text head fault.ReadFault begins why = absurd why

-- a later one is no row
pub row-fault : (text : List ℕ) (head : Record) (rows : List Record) (r : Record) (e : TableFault) → Begins text (head ∷ (rows ++ r ∷ [])) → Lawful (head ∷ rows) → RowFault head r e → FaultIs text e
row-fault text head rows r fault.BadRecord begins lawful why = record { before = head ∷ rows; last = r; begins = begins; lawful = lawful; faulty = why }
row-fault text head rows r fault.NotText begins lawful why = record { before = head ∷ rows; last = r; begins = begins; lawful = lawful; faulty = why }
row-fault text head rows r fault.NoMemory begins lawful why = tt
row-fault text head rows r fault.NoHeader begins lawful why = absurd why
row-fault text head rows r fault.DuplicateColumn begins lawful why = absurd why
row-fault text head rows r fault.TooManyRows begins lawful why = absurd why
row-fault text head rows r fault.NoSuchColumn begins lawful why = absurd why
row-fault text head rows r fault.ReadFault begins lawful why = absurd why
