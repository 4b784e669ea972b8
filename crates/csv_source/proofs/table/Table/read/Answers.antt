use Rattle.csv.specs.Reading.{strip_bom}
use Rattle.csv_source.proofs.Behind.{starts}
use Rattle.csv_source.proofs.table.Table.read.Goals as goal

pub returns : goal.returns
returns g c = λ bytes is.
    let fr = c.from_reader-reader.ensures in
    c.read_all.ensures.reads (strip_bom bytes) (starts g.R.Read.remaining c.from_reader-reader.result (strip_bom bytes) fr.state (rw is at fr.source))
