-- Words that the command line accepts, for each command, and words that it rejects.
use Rattle.std.proofs.Common.{◌≡◌, refl, true, false, List, [], ◌∷◌, None, Some, codes}
use Rattle.std.specs.Prelude.{option_map}
use Rattle.clap.specs.Words.{Text, first_of, subcommand_of, takes}
use Rattle.clap.proofs.OnLiterals.{clap_on_literals}
use Rattle.complgen_command_line.specs.CommandLine.{program_line}
use Rattle.complgen_command_line.specs.Plans.{is_set, words_of}

-- the words after `script` and `register`
abbrev values : List Text
values = codes "--shell" ∷ codes "bash" ∷ codes "--bin" ∷ codes "app" ∷ codes "t.json" ∷ []

-- the words for candidates for an empty word
abbrev asking : List Text
asking = codes "complgen" ∷ codes "candidates" ∷ codes "--index" ∷ codes "1" ∷ codes "t.json"
    ∷ codes "--" ∷ codes "app" ∷ codes "" ∷ []

takes_script : takes program_line (codes "complgen" ∷ codes "script" ∷ values) ≡ true
unfolding clap_on_literals
takes_script = refl

takes_register : takes program_line (codes "complgen" ∷ codes "register" ∷ values) ≡ true
unfolding clap_on_literals
takes_register = refl

takes_candidates : takes program_line asking ≡ true
unfolding clap_on_literals
takes_candidates = refl

-- the values of `WORDS` are the words after `--`
words_of_candidates : option_map (λ entered. words_of entered.1) (subcommand_of program_line asking)
    ≡ Some (codes "app" ∷ codes "" ∷ [])
unfolding clap_on_literals
words_of_candidates = refl

-- `--values` has a value only if it is given
no_values : option_map (λ entered. first_of (codes "values") entered.1)
    (subcommand_of program_line asking) ≡ Some None
unfolding clap_on_literals
no_values = refl

values_of_candidates : option_map (λ entered. first_of (codes "values") entered.1)
    (subcommand_of program_line (codes "complgen" ∷ codes "candidates" ∷ codes "--index" ∷ codes "1"
    ∷ codes "--values" ∷ codes "v" ∷ codes "t.json" ∷ [])) ≡ Some (Some (codes "v"))
unfolding clap_on_literals
values_of_candidates = refl

takes_wanted : takes program_line (codes "complgen" ∷ codes "wanted" ∷ codes "--index" ∷ codes "1"
    ∷ codes "t.json" ∷ codes "--" ∷ codes "app" ∷ codes "" ∷ []) ≡ true
unfolding clap_on_literals
takes_wanted = refl

-- `wanted` has no option `--values`
no_values_of_wanted : takes program_line (codes "complgen" ∷ codes "wanted" ∷ codes "--index"
    ∷ codes "1" ∷ codes "--values" ∷ codes "v" ∷ codes "t.json" ∷ []) ≡ false
unfolding clap_on_literals
no_values_of_wanted = refl

-- a command is required, and so is `--index`
no_subcommand : takes program_line (codes "complgen" ∷ []) ≡ false
unfolding clap_on_literals
no_subcommand = refl

no_index : takes program_line (codes "complgen" ∷ codes "candidates" ∷ codes "t.json" ∷ []) ≡ false
unfolding clap_on_literals
no_index = refl

-- ---- `scripts` and `check`

takes_scripts : takes program_line (codes "complgen" ∷ codes "scripts" ∷ codes "--bin=app"
    ∷ codes "--out-dir" ∷ codes "." ∷ codes "t.json" ∷ []) ≡ true
unfolding clap_on_literals
takes_scripts = refl

no_directory : takes program_line (codes "complgen" ∷ codes "scripts" ∷ codes "--bin" ∷ codes "app"
    ∷ codes "t.json" ∷ []) ≡ false
unfolding clap_on_literals
no_directory = refl

-- the words of `check` with the tree file alone, and with both options
abbrev plain_check : List Text
plain_check = codes "complgen" ∷ codes "check" ∷ codes "t.json" ∷ []

abbrev full_check : List Text
full_check = codes "complgen" ∷ codes "check" ∷ codes "--json" ∷ codes "--bin" ∷ codes "app"
    ∷ codes "t.json" ∷ []

takes_check : takes program_line plain_check ≡ true
unfolding clap_on_literals
takes_check = refl

takes_full_check : takes program_line full_check ≡ true
unfolding clap_on_literals
takes_full_check = refl

-- the flag is set only if it is given
not_json : option_map (λ entered. is_set (codes "json") entered.1)
    (subcommand_of program_line plain_check) ≡ Some false
unfolding clap_on_literals
not_json = refl

json : option_map (λ entered. is_set (codes "json") entered.1)
    (subcommand_of program_line full_check) ≡ Some true
unfolding clap_on_literals
json = refl

-- `check` works without `--bin`
no_bin : option_map (λ entered. first_of (codes "bin") entered.1)
    (subcommand_of program_line plain_check) ≡ Some None
unfolding clap_on_literals
no_bin = refl

no_tree : takes program_line (codes "complgen" ∷ codes "check" ∷ []) ≡ false
unfolding clap_on_literals
no_tree = refl

-- ---- `man`

takes_man : takes program_line (codes "complgen" ∷ codes "man" ∷ codes "--bin" ∷ codes "app"
    ∷ codes "t.json" ∷ []) ≡ true
unfolding clap_on_literals
takes_man = refl
