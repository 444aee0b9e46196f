use Rattle.std.proofs.Common.{◌≡◌, ◌∙◌, ◌++◌, List, ℕ, Bool, cond, true, false, codes, sym, ap, string_bytes}
use Rattle.cc_quote.specs.PosixQuote.{is_posix_safe_word, posix_escaped, posix_quoted}
use Rattle.cc_quote.proofs.PosixWords.{posix_reads_back}
use Rattle.cc_quote.proofs.posix.posix_quote.Goals as goal

-- the quoted text, if the result of the test is known
by_test : (text : List ℕ) (safe : Bool) → is_posix_safe_word text ≡ safe → posix_quoted text ≡ cond safe text (codes "'" ++ posix_escaped text ++ codes "'")
unfolding posix_quoted
by_test text safe is = ap (λ b. cond b text (codes "'" ++ posix_escaped text ++ codes "'")) is

pub returns-then-is_safe_word-clause-quoted : goal.returns-then-is_safe_word-clause-quoted
returns-then-is_safe_word-clause-quoted c =
    c.in_ok-from_str.ensures.ok ∙ sym (by_test c.args.text.now true (sym c.is_safe_word.ensures ∙ c.if-is_safe_word.true))

pub returns-then-is_safe_word-clause-read_back : goal.returns-then-is_safe_word-clause-read_back
returns-then-is_safe_word-clause-read_back c =
    posix_reads_back c.args.text.now (string_bytes c.in_ok-from_str.field-0)
    (c.in_ok-from_str.ensures.ok ∙ sym (by_test c.args.text.now true (sym c.is_safe_word.ensures ∙ c.if-is_safe_word.true)))

pub returns-clause-quoted : goal.returns-clause-quoted
returns-clause-quoted c = c.in_ok-in_quotes.ensures ∙ sym (by_test c.args.text.now false (sym c.is_safe_word.ensures ∙ c.if-is_safe_word.false))

pub returns-clause-read_back : goal.returns-clause-read_back
returns-clause-read_back c =
    posix_reads_back c.args.text.now (string_bytes c.in_ok-in_quotes.field-0)
    (c.in_ok-in_quotes.ensures ∙ sym (by_test c.args.text.now false (sym c.is_safe_word.ensures ∙ c.if-is_safe_word.false)))
