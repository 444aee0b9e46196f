-- The reading of the details of a bash script.
use Rattle.std.proofs.Common.{◌≡◌, ℕ, Bool, false, List, [], ◌∷◌, ◌++◌, flat_map, Option, Some, None, codes, refl, ap, ◌∙◌, append_assoc}
use Rattle.std.specs.Prelude.{bytes_eq}
use Rattle.std.specs.List.{AllByRecursion}
use Rattle.cc_base.specs.Bytes.{close_parenthesis, line_feed}
use Rattle.cc_base.proofs.Lines.{IsLine}
use Rattle.cc_base.proofs.Lines.IsLine.{line}
use Rattle.cc_generator.proofs.ReadInTurn.{in_parts, in_turn}
use Rattle.cc_quote.specs.PosixSigns.{sign, byte_of}
use Rattle.cc_quote.specs.PosixTokens.{cut, double, between, in_bare}
use Rattle.cc_quote.specs.Tokens.{Token, is_word}
use Rattle.cc_quote.specs.Tokens.Piece.{bare}
use Rattle.cc_quote.proofs.PosixCutting.{IsWord, tokens_from, bare_word, double_run}
use Rattle.cc_bash.specs.Arms.{Offered, values, files, typed, nothing, Mode, filenames, plusdirs, nospace, Detail, Arm}
use Rattle.cc_bash.specs.Reader.{Table, pattern_of, bare_text, double_text, is_empty_reply, is_typed_reply, is_compgen_reply, mode_named, with_detail, new_detail, next, read}
use Rattle.cc_bash.specs.Reader.State.{between_details, at_reply, at_values, after_reply}
use Rattle.cc_bash.specs.Script.{offered_text, reply_text, mode_word, mode_text, moded_text, detail_text}
use Rattle.cc_bash.specs.Words.{words_text}
use Rattle.cc_bash.specs.Texts.{detail_begins, detail_word_ends, keep_separator, separator_back, reply_begins, reply_ends, values_begin, values_end, offer_files, offer_word, mode_begins, mode_ends, detail_ends}
use Rattle.cc_bash.proofs.ReadsCases.{reading, pattern_found}
use Rattle.cc_bash.proofs.WordsRead.{Lacks, words_read, IsKept-words}

-- the values that are offered, if there are any, are words
abbrev pub IsReadableOffer : Offered → Type 0
IsReadableOffer (values names) = AllByRecursion IsWord names
IsReadableOffer _ = Unit {0}

-- the detail is readable
pub record IsReadableDetail (detail : Detail) : Type 0 where
  pub word : IsWord detail.word
  pub no_paren : Lacks close_parenthesis detail.word
  pub no_star : bytes_eq detail.word (codes "*") ≡ false
  pub offered : IsReadableOffer detail.offered

-- the reply with its mode begins a line
moded_line : (mode : Option Mode) (offered : Offered) (rest : List ℕ) →
    IsLine (moded_text mode offered ++ rest)
unfolding moded_text reply_text reply_begins keep_separator
moded_line None offered rest = line _
moded_line (Some filenames) offered rest = line _
moded_line (Some mode) offered rest = line _

-- a detail begins a line
pub detail_line : (detail : Detail) (rest : List ℕ) → IsLine (detail_text detail ++ rest)
unfolding detail_text detail_begins
detail_line detail rest = line _

module _ (whole : Bool) where
  at_values_read : (table : Table) (arm : Arm) (detail : Detail) (names : List (List ℕ)) →
      AllByRecursion IsWord names →
      next whole (at_values table arm detail) (double (words_text names) ∷ [])
      ≡ after_reply table arm (record detail { offered = values names })
  unfolding next double_text
  at_values_read table arm detail names h =
      ap (λ ws. after_reply table arm (record detail { offered = values ws })) (words_read names h)

  -- the reply of a detail
  reply_reads : (table : Table) (arm : Arm) (word : List ℕ) (offered : Offered) (rest : List ℕ) →
      IsReadableOffer offered → IsLine rest →
      reading whole (at_reply table arm (new_detail word)) between (reply_text offered ++ rest)
      ≡ reading whole (after_reply table arm
      (record { word = word; offered = offered; mode = None })) between rest
  unfolding reply_text offered_text reply_begins reply_ends values_begin values_end offer_files offer_word sign byte_of cut is_word is_empty_reply is_typed_reply is_compgen_reply next read
  reply_reads table arm word files rest h (line tail) = refl
  reply_reads table arm word typed rest h (line tail) = refl
  reply_reads table arm word nothing rest h (line tail) = refl
  reply_reads table arm word (values names) rest h (line tail) =
      let after : List ℕ = values_end ++ (reply_ends ++ line_feed ∷ tail) in
      ap (reading whole (at_reply table arm (new_detail word)) between)
      (let e : ((reply_begins ++ ((values_begin ++ words_text names) ++ values_end)) ++ reply_ends)
      ++ line_feed ∷ tail
      ≡ reply_begins ++ (values_begin ++ (words_text names ++ after)) =
      regroup_values reply_begins values_begin (words_text names) values_end reply_ends
      (line_feed ∷ tail) in e)
      ∙ ap (read whole (at_values table arm (new_detail word)))
      (double_run (words_text names) after [] [] (IsKept-words names h))
      ∙ ap (λ s. read whole s (tokens_from between (codes " -- \"${cur}\"))\n" ++ tail)))
      (at_values_read table arm (new_detail word) names h)
    where
      regroup_values : (a b c d e f : List ℕ) →
          ((a ++ ((b ++ c) ++ d)) ++ e) ++ f ≡ a ++ (b ++ (c ++ (d ++ (e ++ f))))
      regroup_values a b c d e f = simp append_assoc

  -- the mode of a detail
  mode_reads : (table : Table) (arm : Arm) (detail : Detail) (mode : Mode) (rest : List ℕ) →
      IsLine rest →
      reading whole (after_reply table arm detail) between (mode_text mode ++ rest)
      ≡ reading whole (after_reply table arm (record detail { mode = Some mode })) between rest
  unfolding mode_text mode_word mode_begins mode_ends sign byte_of cut is_word bare_text mode_named next read
  mode_reads table arm detail filenames rest (line tail) = refl
  mode_reads table arm detail mode rest (line tail) = refl

  separator_read : (table : Table) (arm : Arm) (detail : Detail) (rest : List ℕ) → IsLine rest →
      reading whole (at_reply table arm detail) between (keep_separator ++ rest)
      ≡ reading whole (at_reply table arm detail) between rest
  unfolding keep_separator sign byte_of cut is_word is_empty_reply is_typed_reply is_compgen_reply next read
  separator_read table arm detail rest (line tail) = refl

  separator_back_read : (table : Table) (arm : Arm) (detail : Detail) (rest : List ℕ) →
      IsLine rest →
      reading whole (after_reply table arm detail) between (separator_back ++ rest)
      ≡ reading whole (after_reply table arm detail) between rest
  unfolding separator_back sign byte_of cut is_word next read
  separator_back_read table arm detail rest (line tail) = refl

  -- the reply, and the mode after it
  plain_reads : (table : Table) (arm : Arm) (word : List ℕ) (mode : Mode) (offered : Offered)
      (rest : List ℕ) → IsReadableOffer offered → IsLine rest →
      reading whole (at_reply table arm (new_detail word)) between
      ((reply_text offered ++ mode_text mode) ++ rest)
      ≡ reading whole (after_reply table arm
      (record { word = word; offered = offered; mode = Some mode })) between rest
  unfolding mode_text mode_begins
  plain_reads table arm word mode offered rest h l =
      ap (reading whole (at_reply table arm (new_detail word)) between)
      (append_assoc (reply_text offered) (mode_text mode) rest)
      ∙ reply_reads table arm word offered (mode_text mode ++ rest) h (line _)
      ∙ mode_reads table arm (record { word = word; offered = offered; mode = None }) mode rest l

  -- the reply with its mode
  moded_reads : (table : Table) (arm : Arm) (word : List ℕ) (mode : Option Mode) (offered : Offered)
      (rest : List ℕ) → IsReadableOffer offered → IsLine rest →
      reading whole (at_reply table arm (new_detail word)) between (moded_text mode offered ++ rest)
      ≡ reading whole (after_reply table arm
      (record { word = word; offered = offered; mode = mode })) between rest
  unfolding moded_text reply_text reply_begins mode_text mode_begins keep_separator separator_back
  moded_reads table arm word None offered rest h l = reply_reads table arm word offered rest h l
  moded_reads table arm word (Some filenames) offered rest h l =
      let after : List ℕ = mode_text filenames ++ rest in
      ap (reading whole (at_reply table arm (new_detail word)) between)
      (in_parts keep_separator
      (reply_text offered ∷ separator_back ∷ mode_text filenames ∷ []) rest)
      ∙ separator_read table arm (new_detail word) (reply_text offered ++ (separator_back ++ after))
      (line _)
      ∙ reply_reads table arm word offered (separator_back ++ after) h (line _)
      ∙ separator_back_read table arm (record { word = word; offered = offered; mode = None }) after
      (line _)
      ∙ mode_reads table arm (record { word = word; offered = offered; mode = None })
      filenames rest l
  moded_reads table arm word (Some plusdirs) offered rest h l =
      plain_reads table arm word plusdirs offered rest h l
  moded_reads table arm word (Some nospace) offered rest h l =
      plain_reads table arm word nospace offered rest h l

  -- a detail ends
  detail_closes : (table : Table) (arm : Arm) (detail : Detail) (rest : List ℕ) → IsLine rest →
      reading whole (after_reply table arm detail) between (detail_ends ++ rest)
      ≡ reading whole (between_details table (with_detail arm detail)) between rest
  unfolding detail_ends sign byte_of cut is_word next read
  detail_closes table arm detail rest (line tail) = refl

  detail_opens : (table : Table) (arm : Arm) (token : Token) (word : List ℕ) →
      pattern_of token ≡ Some word → bytes_eq word (codes "*") ≡ false →
      next whole (between_details table arm) token ≡ at_reply table arm (new_detail word)
  unfolding next
  detail_opens table arm token word e f = rw (e, next, f)

  -- a line feed ends the pattern of a detail
  pattern_reads : (table : Table) (arm : Arm) (word rest : List ℕ) → Lacks close_parenthesis word →
      bytes_eq word (codes "*") ≡ false → IsLine rest →
      reading whole (between_details table arm) (in_bare [] word) (detail_word_ends ++ rest)
      ≡ reading whole (at_reply table arm (new_detail word)) between rest
  unfolding detail_word_ends sign byte_of cut read
  pattern_reads table arm word rest lacks star (line tail) =
      ap (λ s. read whole s (tokens_from between tail))
      (detail_opens table arm (bare (word ++ close_parenthesis ∷ []) ∷ []) word
      (pattern_found word lacks) star)

  -- a detail is read
  detail_reads : (table : Table) (arm : Arm) (detail : Detail) (rest : List ℕ) →
      IsReadableDetail detail → IsLine rest →
      reading whole (between_details table arm) between (detail_text detail ++ rest)
      ≡ reading whole (between_details table (with_detail arm detail)) between rest
  unfolding detail_text detail_begins detail_ends sign byte_of cut
  detail_reads table arm detail rest h l =
      let after : List ℕ = detail_ends ++ rest in
      let moded : List ℕ = moded_text detail.mode detail.offered ++ after in
      ap (reading whole (between_details table arm) between)
      (in_parts detail_begins (detail.word ∷ detail_word_ends
      ∷ moded_text detail.mode detail.offered ∷ detail_ends ∷ []) rest)
      ∙ ap (read whole (between_details table arm))
      (bare_word detail.word (detail_word_ends ++ moded) h.word)
      ∙ pattern_reads table arm detail.word moded h.no_paren h.no_star
      (moded_line detail.mode detail.offered after)
      ∙ moded_reads table arm detail.word detail.mode detail.offered after h.offered (line _)
      ∙ detail_closes table arm detail rest l

  -- details are read one after another
  pub details_read : (table : Table) (arm : Arm) (details : List Detail) (rest : List ℕ) →
      AllByRecursion IsReadableDetail details → IsLine rest →
      reading whole (between_details table arm) between (flat_map detail_text details ++ rest)
      ≡ reading whole (between_details table (record arm { details = arm.details ++ details }))
      between rest
  details_read table arm details rest h l =
      in_turn
      (λ many. reading whole (between_details table (record arm { details = many })) between)
      detail_text IsReadableDetail detail_line
      (λ many. detail_reads table (record arm { details = many })) arm.details details rest h l
