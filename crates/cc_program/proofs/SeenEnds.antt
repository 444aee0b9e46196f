-- The ends of a program over streams, as ends over what the streams have taken.
use Rattle.std.proofs.Common.{◌≡◌, ℕ, Bool, true, false, List, [], Option, Result, ap, refl, subst}
use Rattle.std.specs.declared.process.ExitCode.{ExitCode}
use Rattle.clap.specs.declared.error.kind.ErrorKind.{ErrorKind}
use Rattle.clap.specs.declared.parser.matches.ArgMatches.{ArgMatches}
use Rattle.cc_env.specs.Answers.{Told}
use Rattle.cc_env.specs.OwnEnds.{EndsOwn, not_answered, not_requested, write_failed, written}
use Rattle.cc_base.specs.Sink.{none_failed}
use Rattle.cc_base.specs.Writes.{Writes}
use Rattle.cc_base.specs.declared.error.Error.{Error}
use Rattle.cc_base.specs.declared.sink.Sink.{Ghosts}
use Rattle.cc_command.specs.Tree.{Tree}
use Rattle.cc_env.specs.Wanted.{Wanted}
use Rattle.cc_env.specs.declared.safe_shell.SafeShell.{SafeShell}
use Rattle.cc_program.specs.Messages.{Explains, Puts, SaysText, explained, is_asked_for, unexplained}
use Rattle.cc_program.specs.Seen.{Seen, seen_by, seen_of, seen_streams, unused}
use Rattle.cc_program.specs.Statuses.{EndsOver, EndsParse, EndsTree, ParserFacts, carried, completed, not_made, out_of_memory, parsed, refused, tree_parsed}
use Rattle.cc_program.specs.declared.failure.Failure.{Failure}
use Rattle.cc_program.specs.declared.streams.Streams.{Streams}

module _ {S : Type 0} (sink : Ghosts S) where
  seen_writes : (done : Result (Unit {0}) Error) (old new : S) (text : List ℕ) → Writes sink.taken sink.failed done old new text
      → Writes seen_by.taken seen_by.failed done (seen_of sink old) (seen_of sink new) text
  seen_writes done old new text w = record { ok = w.ok; begun = w.begun; failures = w.failures; kinds = w.kinds }

  seen_own : (Answers : Result (Option Told) Error → Type 0) (old new : S) (result : Result (Option ℕ) Error) → EndsOwn sink.taken sink.failed Answers old new result
      → EndsOwn seen_by.taken seen_by.failed Answers (seen_of sink old) (seen_of sink new) result
  seen_own Answers old new result (not_answered error answers same) = not_answered error answers (ap (seen_of sink) same)
  seen_own Answers old new result (not_requested answers same) = not_requested answers (ap (seen_of sink) same)
  seen_own Answers old new result (write_failed told kind answers begun fails) = write_failed told kind answers begun fails
  seen_own Answers old new result (written told answers takes fails) = written told answers takes fails

module _ {O X : Type 0} (out : Ghosts O) (err : Ghosts X) (old new : Streams O X) where
  abbrev before : Streams Seen Seen
  before = seen_streams out err old

  abbrev after : Streams Seen Seen
  after = seen_streams out err new

  seen_same : new ≡ old → after ≡ before
  seen_same same = ap (seen_streams out err) same

  seen_puts : (asked : Bool) (done : Result (Unit {0}) Error) (text : List ℕ) → Puts out err asked done old new text → Puts seen_by seen_by asked done before after text
  seen_puts true done text puts = (seen_writes out done old.out new.out text puts.0, ap (seen_of err) puts.1)
  seen_puts false done text puts = (seen_writes err done old.err new.err text puts.0, ap (seen_of out) puts.1)

  seen_says : {E : Type 0} (kind : ErrorKind) (text : List ℕ) (result : Result ExitCode (Failure E)) → SaysText out err kind old new text result
      → SaysText seen_by seen_by kind before after text result
  seen_says kind text result (done, puts, ends) = (done, seen_puts (is_asked_for kind) done text puts, ends)

  seen_explains : {E : Type 0} (kind : ErrorKind) (Says : List ℕ → Type 0) (result : Result ExitCode (Failure E)) → Explains out err kind Says old new result
      → Explains seen_by seen_by kind Says before after result
  seen_explains kind Says result (unexplained same) = unexplained (seen_same same)
  seen_explains kind Says result (explained text r memory says said) = explained text result memory says (seen_says kind text result said)

  module _ {E : Type 0} (parser : ParserFacts) (Does : ArgMatches → Result (Unit {0}) E → Type 0) where
    seen_tree : (tree : Tree) (result : Result ExitCode (Failure E)) → EndsTree out err tree parser Does old new result
        → EndsTree seen_by seen_by tree parser Does before after result
    seen_tree tree result (carried found r parses carries same) = carried found result parses carries (seen_same same)
    seen_tree tree result (refused error r parses explains) = refused error result parses (seen_explains _ _ result explains)

    seen_parse : (Makes : Result Tree Error → Type 0) (result : Result ExitCode (Failure E)) → EndsParse out err Makes parser Does old new result
        → EndsParse seen_by seen_by Makes parser Does before after result
    seen_parse Makes result (not_made error makes same) = not_made error makes (seen_same same)
    seen_parse Makes result (out_of_memory same) = out_of_memory (seen_same same)
    seen_parse Makes result (tree_parsed tree r makes ends) = tree_parsed tree result makes (seen_tree _ result ends)

    -- the ends of the whole program
    pub seen_program : (requested : Wanted SafeShell) (Answers : (Result Tree Error → Type 0) → Result (Option Told) Error → Type 0)
        (Makes : Result Tree Error → Type 0) (result : Result ExitCode (Failure E))
        → EndsOver out err requested Answers Makes parser Does old new result → EndsOver seen_by seen_by requested Answers Makes parser Does before after result
    seen_program requested Answers Makes result (completed ended r asks ends is same) =
        completed ended result asks (seen_own out (Answers Makes) old.out new.out ended ends) is (ap (seen_of err) same)
    seen_program requested Answers Makes result (parsed r is ends) = parsed result is (seen_parse Makes result ends)

-- streams that have taken nothing and have not failed
pub unused_is : {O X : Type 0} (out : Ghosts O) (err : Ghosts X) (streams : Streams O X)
    → out.taken streams.out ≡ [] → out.failed streams.out ≡ none_failed → err.taken streams.err ≡ [] → err.failed streams.err ≡ none_failed
    → seen_streams out err streams ≡ unused
unused_is out err streams no_bytes no_failures no_messages no_others = rw (no_bytes, no_failures, no_messages, no_others) refl

-- over streams that had taken nothing
pub seen_run : {E O X : Type 0} (out : Ghosts O) (err : Ghosts X) (old new : Streams O X) (parser : ParserFacts) (Does : ArgMatches → Result (Unit {0}) E → Type 0)
    (requested : Wanted SafeShell) (Answers : (Result Tree Error → Type 0) → Result (Option Told) Error → Type 0)
    (Makes : Result Tree Error → Type 0) (result : Result ExitCode (Failure E))
    → out.taken old.out ≡ [] → out.failed old.out ≡ none_failed → err.taken old.err ≡ [] → err.failed old.err ≡ none_failed
    → EndsOver out err requested Answers Makes parser Does old new result
    → (seen : Streams Seen Seen) × EndsOver seen_by seen_by requested Answers Makes parser Does unused seen result
seen_run out err old new parser Does requested Answers Makes result no_bytes no_failures no_messages no_others ends =
    let seen : Streams Seen Seen = seen_streams out err new in (
      seen,
      subst (λ (before : Streams Seen Seen). EndsOver seen_by seen_by requested Answers Makes parser Does before seen result)
          (unused_is out err old no_bytes no_failures no_messages no_others)
          (seen_program out err old new parser Does requested Answers Makes result ends),
    )
