use Rattle.cc_quote.specs.PosixQuote.{posix_word_from, posix_word_of}
use Rattle.cc_quote.proofs.PosixTokenReading.{reads_first_token}
use Rattle.cc_quote.proofs.PosixWords.{posix_reads}
use Rattle.cc_quote.proofs.posix.posix_word.Goals as goal

pub returns-clause-word : goal.returns-clause-word
unfolding posix_word_of posix_word_from
returns-clause-word c = c.in_ok-read_word.ensures posix_reads

pub returns-clause-token : goal.returns-clause-token
unfolding posix_word_of posix_word_from
returns-clause-token c = reads_first_token c.args.text.now _ (c.in_ok-read_word.ensures posix_reads)
