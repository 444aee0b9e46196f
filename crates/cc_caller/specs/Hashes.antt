-- The hash of a value by the standard hasher.
use Rattle.std.specs.Prelude.{ℕ, fold}
use Rattle.std.specs.Hash.{HashWrites}
use Rattle.std.specs.Hash.DefaultHasher.{finish, initial, write}

-- what the standard hasher returns after these writes
abbrev pub standard_hash : HashWrites → ℕ
standard_hash writes = finish (fold write initial writes)
