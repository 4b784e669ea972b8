use Rattle.csv_source.proofs.Unique.{same-table, table-or-fault, same-fault}
use Rattle.csv_source.proofs.law.one_reading.Goals as goal

pub returns : goal.returns
returns c = record { table = same-table; apart = table-or-fault; fault = same-fault }
