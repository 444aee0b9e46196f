-- Where a tree comes from, and whether its commands may be run.
use Rattle.std.specs.Prelude.{Bool, true}
use Rattle.cc_candidates.specs.PathTexts.{is_absolute}
use Rattle.complgen_live.specs.declared.requests.Origin.{Origin}
use Rattle.complgen_live.specs.declared.requests.Origin.TheVariants.{Program, File}

-- Commands may be run if the program that is completed has the tree, or if its file was found by an
-- absolute path.
abbrev pub is_trusted : Origin → Bool
is_trusted Program = true
is_trusted (File path) = is_absolute path.now
