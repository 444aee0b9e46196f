-- The representation of an entry, by which proofs decide whether entries are equal.
use Rattle.std.specs.Prelude.{ℕ, List, Option, refl}
use Rattle.std.specs.Coded.{Coded, code_by, coded×, coded_ℕ, coded_list, coded_option}
use Rattle.cc_command.specs.Tree.{Tree}
use Rattle.cc_command.specs.TreeCode.{tree_code}
use Rattle.cc_generator.specs.Flat.{Entry}

-- an entry is stored as its fields
abbrev pub entry_code : Coded Entry
entry_code =
    code_by (Tree × (Option ℕ × (ℕ × ℕ)))
    (coded× tree_code (coded× (coded_option coded_ℕ) (coded× coded_ℕ coded_ℕ)))
    (λ entry. (entry.tree, (entry.parent, (entry.first_child, entry.child_count))))
    (λ stored. record {
      tree = stored.0;
      parent = stored.1.0;
      first_child = stored.1.1.0;
      child_count = stored.1.1.1;
    })
    (λ _. refl)

-- a list of entries is stored as the list of their representations
abbrev pub entries_code : Coded (List Entry)
entries_code = coded_list entry_code
