-- Findings as JSON objects.
use Rattle.std.specs.Prelude.{ℕ, List, codes, decimal, string_bytes, take}
use Rattle.json.specs.Json.{Json, member, no_members, number, object, string}
use Rattle.json.specs.Print.{print}
use Rattle.json.specs.Tree.{json_tokens}
use Rattle.complgen_check.specs.Places.{column_after, line_after}
use Rattle.complgen_check.specs.declared.errors.finding.Finding.{Finding}
use Rattle.complgen_check.specs.Lines.{level_text}

-- a finding as JSON, with the texts of its line and of its column
abbrev pub object_with : List ℕ → List ℕ → Finding → Json
object_with line column finding = object (member (codes "line") (number line)
    (member (codes "column") (number column)
    (member (codes "level") (string (level_text finding.level))
    (member (codes "path") (string (string_bytes finding.path))
    (member (codes "text") (string (string_bytes finding.text)) no_members)))))

-- a finding in a file of these bytes as JSON
abbrev pub finding_json : List ℕ → Finding → Json
finding_json bytes finding = object_with (decimal (line_after (take finding.offset bytes)))
    (decimal (column_after (take finding.offset bytes))) finding

-- the text of that JSON, without spaces; `print` writes `"`, `\` and control characters in a string
-- as escapes
abbrev pub finding_object : List ℕ → Finding → List ℕ
finding_object bytes finding = print (json_tokens (finding_json bytes finding))
