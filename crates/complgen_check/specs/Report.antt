-- The text that is printed for findings.
use Rattle.std.specs.Prelude.{ℕ, List, ◌++◌, codes}
use Rattle.std.specs.List.{flat_map}
use Rattle.complgen_check.specs.declared.errors.finding.Finding.{Finding}
use Rattle.complgen_check.specs.Lines.{finding_line}
use Rattle.complgen_check.specs.Objects.{finding_object}
use Rattle.complgen_check.specs.declared.report.Report.{Report}
use Rattle.complgen_check.specs.declared.report.Report.TheVariants.{Json, Lines}

-- the text for a finding in a file of these bytes
abbrev pub finding_text : Report → List ℕ → Finding → List ℕ
finding_text Lines bytes finding = finding_line bytes finding
finding_text Json bytes finding = finding_object bytes finding ++ codes "\n"

-- the text for several findings, in their order
abbrev pub report_text : Report → List ℕ → List Finding → List ℕ
report_text report bytes found = flat_map (finding_text report bytes) found
