-- The reading of the arms of a bash script.
use Rattle.std.proofs.Common.{◌≡◌, ℕ, Bool, List, [], ◌∷◌, ◌++◌, flat_map, Some, codes, refl, ap, ◌∙◌}
use Rattle.std.specs.List.{AllByRecursion}
use Rattle.cc_base.specs.Bytes.{close_parenthesis, line_feed}
use Rattle.cc_base.proofs.Lines.{IsLine}
use Rattle.cc_base.proofs.Lines.IsLine.{line}
use Rattle.cc_generator.proofs.ReadInTurn.{in_parts, in_turn, items_begin}
use Rattle.cc_quote.specs.PosixSigns.{sign, byte_of}
use Rattle.cc_quote.specs.PosixTokens.{cut, double, between, in_double}
use Rattle.cc_quote.specs.Tokens.{Token, is_word}
use Rattle.cc_quote.specs.Tokens.Piece.{bare}
use Rattle.cc_quote.proofs.PosixCutting.{IsWord, tokens_from, bare_word, double_run}
use Rattle.cc_bash.specs.Arms.{Arm}
use Rattle.cc_bash.specs.Reader.{Table, pattern_of, assigned, bare_text, with_arm, new_arm, next, read}
use Rattle.cc_bash.specs.Reader.State.{between_arms, at_words, after_words, at_level, between_details}
use Rattle.cc_bash.specs.Script.{detail_text, arm_text}
use Rattle.cc_bash.specs.Words.{words_text}
use Rattle.cc_bash.specs.Texts.{arm_begins, arm_words, arm_level, arm_details, arm_ends}
use Rattle.cc_bash.proofs.ReadsCases.{reading, pattern_found}
use Rattle.cc_bash.proofs.ReadsDetails.{IsReadableDetail, detail_line, details_read}
use Rattle.cc_bash.proofs.WordsRead.{Lacks, words_read, IsKept-words}

-- the arm is readable
pub record IsReadableArm (arm : Arm) : Type 0 where
  pub label : IsWord arm.label
  pub no_paren : Lacks close_parenthesis arm.label
  pub level : IsWord arm.level
  pub words : AllByRecursion IsWord arm.words
  pub details : AllByRecursion IsReadableDetail arm.details

-- an arm begins a line, and so does its rest after the level
pub arm_line : (arm : Arm) (rest : List ℕ) → IsLine (arm_text arm ++ rest)
unfolding arm_text arm_begins
arm_line arm rest = line _

ends_line : (rest : List ℕ) → IsLine (arm_ends ++ rest)
unfolding arm_ends
ends_line rest = line _

module _ (whole : Bool) where
  arm_opens : (table : Table) (token : Token) (label : List ℕ) → pattern_of token ≡ Some label →
      next whole (between_arms table) token ≡ at_words table (new_arm label)
  unfolding next
  arm_opens table token label e = rw (e, next)

  words_open : (table : Table) (arm : Arm) (words : List (List ℕ)) → AllByRecursion IsWord words →
      next whole (at_words table arm) (bare (codes "opts=") ∷ double (words_text words) ∷ [])
      ≡ after_words table (record arm { words = words })
  unfolding next assigned
  words_open table arm words h = ap (λ ws. after_words table (record arm { words = ws }))
      (words_read words h)

  -- the text after the words, up to the level
  level_read : (table : Table) (arm : Arm) (rest : List ℕ) →
      reading whole (after_words table arm) between
      (codes "if [[ ${cur} == -* || ${COMP_CWORD} -eq " ++ rest)
      ≡ reading whole (at_level table arm) between rest
  unfolding sign byte_of cut is_word next read
  level_read table arm rest = refl

  -- the level, up to the details
  details_open : (table : Table) (arm : Arm) (level rest : List ℕ) → IsWord level → IsLine rest →
      reading whole (at_level table arm) between (level ++ (arm_details ++ rest))
      ≡ reading whole (between_details table (record arm { level = level })) between rest
  unfolding arm_details sign byte_of cut is_word bare_text next read
  details_open table arm level rest h (line tail) =
      ap (read whole (at_level table arm)) (bare_word level (arm_details ++ line_feed ∷ tail) h)

  -- an arm ends
  arm_closes : (table : Table) (arm : Arm) (rest : List ℕ) → IsLine rest →
      reading whole (between_details table arm) between (arm_ends ++ rest)
      ≡ reading whole (between_arms (with_arm table arm)) between rest
  unfolding arm_ends sign byte_of cut is_word pattern_of next read
  arm_closes table arm rest (line tail) = refl

  -- an arm is read
  arm_reads : (table : Table) (arm : Arm) (rest : List ℕ) → IsReadableArm arm → IsLine rest →
      reading whole (between_arms table) between (arm_text arm ++ rest)
      ≡ reading whole (between_arms (with_arm table arm)) between rest
  unfolding arm_text arm_begins arm_words arm_level sign byte_of cut read
  arm_reads table arm rest h l =
      let ended : List ℕ = arm_ends ++ rest in
      let details : List ℕ = flat_map detail_text arm.details ++ ended in
      let level : List ℕ = arm.level ++ (arm_details ++ details) in
      let words : List ℕ = words_text arm.words ++ (arm_level ++ level) in
      let worded : Arm = record {
        label = arm.label;
        level = [];
        words = arm.words;
        details =
            [];
      } in
      let levelled : Arm = record {
        label = arm.label;
        level = arm.level;
        words =
            arm.words;
        details = [];
      } in
      ap (reading whole (between_arms table) between)
      (in_parts arm_begins (arm.label ∷ arm_words ∷ words_text arm.words ∷ arm_level ∷ arm.level
      ∷ arm_details ∷ flat_map detail_text arm.details ∷ arm_ends ∷ []) rest)
      ∙ ap (read whole (between_arms table)) (bare_word arm.label (arm_words ++ words) h.label)
      ∙ ap (λ s. read whole s (tokens_from (in_double (bare (codes "opts=") ∷ []) []) words))
      (arm_opens table (bare (arm.label ++ close_parenthesis ∷ []) ∷ []) arm.label
      (pattern_found arm.label h.no_paren))
      ∙ ap (read whole (at_words table (new_arm arm.label)))
      (double_run (words_text arm.words) (arm_level ++ level) (bare (codes "opts=") ∷ []) []
      (IsKept-words arm.words h.words))
      ∙ ap (λ s. read whole s (tokens_from between
      (codes "if [[ ${cur} == -* || ${COMP_CWORD} -eq " ++ level)))
      (words_open table (new_arm arm.label) arm.words h.words)
      ∙ level_read table worded level
      ∙ details_open table worded arm.level details h.level
      (items_begin IsLine detail_text detail_line arm.details ended (ends_line rest))
      ∙ details_read whole table levelled arm.details ended h.details (ends_line rest)
      ∙ arm_closes table arm rest l

  -- arms are read one after another
  pub arms_read : (table : Table) (arms : List Arm) (rest : List ℕ) →
      AllByRecursion IsReadableArm arms → IsLine rest →
      reading whole (between_arms table) between (flat_map arm_text arms ++ rest)
      ≡ reading whole (between_arms (record table { arms = table.arms ++ arms })) between rest
  arms_read table arms rest h l =
      in_turn (λ many. reading whole (between_arms (record table { arms = many })) between)
      arm_text IsReadableArm arm_line (λ many. arm_reads (record table { arms = many }))
      table.arms arms rest h l
