-- Definitions of what contracts see of a fault that borrows its document.
use Rattle.rules_parts.specs.Broken.{BrokenOf, broken_of}
use Rattle.gq_check.specs.declared.report.Report as rust
use Rattle.gq_check.specs.declared.report.Report.TheVariants as report
use Rattle.gq_check.specs.Verdict.{FaultOf, breaks, TooComplex, TooDeep, NotServed}

abbrev pub not_served_here : BrokenOf → FaultOf
not_served_here b = NotServed b.name b.place

abbrev pub report_of : rust.Report → FaultOf
report_of (report.Breaks r b) = breaks r (broken_of b)
report_of report.TooComplex = TooComplex
report_of (report.TooDeep p) = TooDeep p
report_of (report.NotServed b) = not_served_here (broken_of b)
