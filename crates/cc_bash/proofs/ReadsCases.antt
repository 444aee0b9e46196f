-- The reading of the case table of a bash script.
use Rattle.std.proofs.Common.{◌≡◌, ℕ, Bool, List, [], ◌∷◌, ◌++◌, flat_map, Option, Some, codes, refl, ap, ◌∙◌, append_assoc}
use Rattle.std.specs.List.{AllByRecursion}
use Rattle.cc_base.specs.Bytes.{comma, close_parenthesis}
use Rattle.cc_base.proofs.Lines.{IsLine}
use Rattle.cc_base.proofs.Lines.IsLine.{line}
use Rattle.cc_generator.proofs.ReadInTurn.{in_parts, in_turn}
use Rattle.cc_quote.specs.PosixSigns.{sign, byte_of}
use Rattle.cc_quote.specs.PosixTokens.{CutState, cut, double, between, in_bare, in_double}
use Rattle.cc_quote.specs.Tokens.{Token, is_word}
use Rattle.cc_quote.specs.Tokens.Piece.{bare}
use Rattle.cc_quote.proofs.PosixCutting.{IsOther, IsWord, IsKept, tokens_from, bare_run, bare_word, double_run}
use Rattle.cc_bash.specs.CaseTable.{Case}
use Rattle.cc_bash.specs.Reader.{Table, State, pattern_of, assigned, case_by, with_case, next, read}
use Rattle.cc_bash.specs.Reader.State.{between_cases, at_label, after_label}
use Rattle.cc_bash.specs.Script.{case_text}
use Rattle.cc_bash.specs.Texts.{case_begins, case_comma, case_sets, case_ends}
use Rattle.cc_bash.proofs.WordsRead.{Lacks, Lacks-append, parted_at}

-- what the reader reads from a state on, if the script is cut from a quote state on
abbrev pub reading : Bool → State → CutState → List ℕ → Option Table
reading whole state quote script = read whole state (tokens_from quote script)

-- the case is readable
pub record IsReadableCase (c : Case) : Type 0 where
  pub from : IsWord c.from
  pub from_no_paren : Lacks close_parenthesis c.from
  pub from_no_comma : Lacks comma c.from
  pub word : IsOther c.word
  pub word_no_paren : Lacks close_parenthesis c.word
  pub to : IsKept c.to

-- a text before a `)` is a pattern
pub pattern_found : (pattern : List ℕ) → Lacks close_parenthesis pattern →
    pattern_of (bare (pattern ++ close_parenthesis ∷ []) ∷ []) ≡ Some pattern
unfolding pattern_of
pattern_found pattern h = let e = parted_at close_parenthesis pattern [] h in rw (e, pattern_of)

case_found : (c : Case) → Lacks comma c.from →
    case_by ((c.from ++ comma ∷ []) ++ c.word) c.to ≡ Some c
unfolding case_by
case_found c h =
    ap (λ p. case_by p c.to) (append_assoc c.from (comma ∷ []) c.word)
    ∙ (let e = parted_at comma c.from c.word h in rw e)

-- a case begins a line
pub case_line : (c : Case) (rest : List ℕ) → IsLine (case_text c ++ rest)
unfolding case_text case_begins
case_line c rest = line _

module _ (whole : Bool) where
  -- the state after a pattern, and after a label that is set
  at_pattern : (table : Table) (token : Token) (pattern : List ℕ) →
      pattern_of token ≡ Some pattern →
      next whole (between_cases table) token ≡ at_label table pattern
  unfolding next
  at_pattern table token pattern e = rw (e, next)

  at_set : (table : Table) (pattern label : List ℕ) (c : Case) → case_by pattern label ≡ Some c →
      next whole (at_label table pattern) (bare (codes "cmd=") ∷ double label ∷ [])
      ≡ after_label table c
  unfolding next assigned
  at_set table pattern label c e = rw (e, next)

  -- a line feed ends a case
  case_closes : (table : Table) (c : Case) (rest : List ℕ) → IsLine rest →
      reading whole (after_label table c) (in_bare [] (codes ";;")) rest
      ≡ reading whole (between_cases (with_case table c)) between rest
  unfolding sign cut is_word next read
  case_closes table c rest (line tail) = refl

  -- a case is read
  case_reads : (table : Table) (c : Case) (rest : List ℕ) → IsReadableCase c → IsLine rest →
      reading whole (between_cases table) between (case_text c ++ rest)
      ≡ reading whole (between_cases (with_case table c)) between rest
  unfolding case_text case_begins case_comma case_sets case_ends sign byte_of cut read
  case_reads table c rest h l =
      let pattern : List ℕ = (c.from ++ comma ∷ []) ++ c.word in
      let lacks : Lacks close_parenthesis pattern =
      Lacks-append close_parenthesis (c.from ++ comma ∷ []) c.word
      (Lacks-append close_parenthesis c.from (comma ∷ []) h.from_no_paren (refl, tt))
      h.word_no_paren in
      let set : List ℕ = case_sets ++ (c.to ++ (case_ends ++ rest)) in
      ap (reading whole (between_cases table) between)
      (in_parts case_begins (c.from ∷ case_comma ∷ c.word ∷ case_sets ∷ c.to ∷ case_ends ∷ []) rest)
      ∙ ap (read whole (between_cases table))
      (bare_word c.from (case_comma ++ (c.word ++ set)) h.from)
      ∙ ap (read whole (between_cases table))
      (bare_run c.word set [] (c.from ++ comma ∷ []) h.word)
      ∙ ap (λ s. read whole s (tokens_from (in_double (bare (codes "cmd=") ∷ []) [])
      (c.to ++ (case_ends ++ rest)))) (at_pattern table
      (bare (pattern ++ close_parenthesis ∷ []) ∷ []) pattern (pattern_found pattern lacks))
      ∙ ap (read whole (at_label table pattern))
      (double_run c.to (case_ends ++ rest) (bare (codes "cmd=") ∷ []) [] h.to)
      ∙ ap (λ s. read whole s (tokens_from (in_bare [] (codes ";;")) rest))
      (at_set table pattern c.to c (case_found c h.from_no_comma))
      ∙ case_closes table c rest l

  -- cases are read one after another
  pub cases_read : (table : Table) (cases : List Case) (rest : List ℕ) →
      AllByRecursion IsReadableCase cases → IsLine rest →
      reading whole (between_cases table) between (flat_map case_text cases ++ rest)
      ≡ reading whole (between_cases (record table { cases = table.cases ++ cases })) between rest
  cases_read table cases rest h l =
      in_turn (λ many. reading whole (between_cases (record table { cases = many })) between)
      case_text IsReadableCase case_line (λ many. case_reads (record table { cases = many }))
      table.cases cases rest h l
