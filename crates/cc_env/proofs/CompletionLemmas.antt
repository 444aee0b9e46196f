-- The candidates over given lines, before and after the command is built.
use Rattle.std.proofs.Common.{◌≡◌, ◌∙◌, ap, refl, sym, subst, ℕ, true, false, List, length, map, Option, None, Some, Result, Ok, Err, Global, String, IfErr, IfOk, OnOk, inr}
use Rattle.std.proofs.lemmas.List.{length-map}
use Rattle.std.specs.String.{string_bytes}
use Rattle.cc_arg.specs.declared.parts.ArgParts.{ArgParts as Arg}
use Rattle.cc_base.specs.declared.error.Error.{Error}
use Rattle.cc_base.specs.declared.error.Error.TheVariants.{Memory, NoCompletion}
use Rattle.cc_arg.specs.declared.value_source.SourceValues.{SourceValues}
use Rattle.cc_candidates.specs.declared.candidate.CompletionCandidate.{CompletionCandidate}
use Rattle.cc_env.proofs.AnswerLemmas.{listed_built}
use Rattle.cc_command.specs.Built.{built_tree}
use Rattle.cc_command.specs.Tree.{Tree}
use Rattle.cc_command.specs.ValueLists.{listed_tree}
use Rattle.cc_engine.specs.Asked.{Asks}
use Rattle.cc_engine.specs.Completion.{Completes, Refuses, is_in_range}
use Rattle.cc_engine.specs.Values.{MayReturn}
use Rattle.cc_env.specs.Completion.{CompletesWith, LeavesListed, RefusesWith}
use Rattle.cc_env.specs.ValuesRead.{read_values}
use Rattle.cc_env.specs.WithLines.{with_lines}
use Rattle.cc_env.specs.declared.asking.values_read.ValuesRead.{ValuesRead}

module _ (words passed : List (String Global)) (same : passed ≡ words) (index : ℕ) (old mid : Tree)
    (is : mid ≡ built_tree old) (whole : built_tree mid ≡ mid) where
  -- the argument is asked for at a word of the command line
  asks_words : (found some : Option Arg) → found ≡ some
      → Asks (built_tree old) (map string_bytes passed) index found
      → Asks (built_tree old) (map string_bytes words) index some
  asks_words found some equal asks =
      subst (λ o. Asks (built_tree old) (map string_bytes words) index o) equal
      (subst (λ ws. Asks (built_tree old) (map string_bytes ws) index found) same asks)

  built_whole : built_tree (built_tree old) ≡ built_tree old
  built_whole = ap built_tree (sym is) ∙ whole ∙ is

  -- the built tree with the values of the lines
  listed_whole : (listed new : Tree) (asked : Arg) (values : SourceValues)
      → listed ≡ listed_tree asked values mid → new ≡ built_tree listed
      → new ≡ built_tree (listed_tree asked values old)
  listed_whole listed new asked values lists built =
      built ∙ ap built_tree (lists ∙ ap (listed_tree asked values) is)
      ∙ listed_built asked values old built_whole

  -- no argument is asked for
  pub completes_alone : {A : Type 0} (items : A → List CompletionCandidate) (returned : MayReturn)
      (lines : List ℕ) (new : Tree) (found : Option Arg) (result : Result A Error)
      → found ≡ None → Asks (built_tree old) (map string_bytes passed) index found
      → OnOk result (new ≡ built_tree mid)
      → IfOk result (λ f. Completes returned new (map string_bytes words) index (items f))
      → IfOk result (λ f. CompletesWith returned lines old (map string_bytes words) index (items f))
  completes_alone items returned lines new found (Ok f) none asks built completes = record {
    asked = None;
    asks = asks_words found None none asks;
    completes = subst (λ tree. Completes returned tree (map string_bytes words) index (items f))
        (built ∙ whole ∙ is) completes;
  }
  completes_alone items returned lines new found (Err e) none asks built completes = tt

  -- the lines are the values of an argument
  pub completes_over : {A : Type 0} (items : A → List CompletionCandidate) (returned : MayReturn)
      (lines : List ℕ) (listed new : Tree) (found : Option Arg) (asked : Arg) (read : ValuesRead)
      (result : Result A Error) → found ≡ Some asked
      → Asks (built_tree old) (map string_bytes passed) index found
      → read ≡ read_values asked lines
      → listed ≡ listed_tree asked (read_values asked lines).values mid
      → OnOk result (new ≡ built_tree listed)
      → IfOk result (λ f.
      Completes (with_lines returned read.lines.candidates) new (map string_bytes words) index (items f))
      → IfOk result (λ f. CompletesWith returned lines old (map string_bytes words) index (items f))
  completes_over items returned lines listed new found asked read (Ok f) some asks reads lists built
      completes = record {
        asked = Some asked;
        asks = asks_words found (Some asked) some asks;
        completes = subst (λ tree. Completes
            (with_lines returned (read_values asked lines).lines.candidates) tree
            (map string_bytes words) index (items f))
            (listed_whole listed new asked (read_values asked lines).values lists built)
            (subst (λ r. Completes (with_lines returned r.lines.candidates) new
            (map string_bytes words) index (items f)) reads completes);
      }
  completes_over items returned lines listed new found asked read (Err e) some asks reads lists built
      completes = tt

  -- the command is built
  pub leaves_alone : {A : Type 0} (lines : List ℕ) (new : Tree) (found : Option Arg) (result : Result A Error)
      → found ≡ None → Asks (built_tree old) (map string_bytes passed) index found
      → OnOk result (new ≡ built_tree mid)
      → OnOk result (LeavesListed lines old new (map string_bytes words) index)
  leaves_alone lines new found (Ok f) none asks built =
      record { asked = None; asks = asks_words found None none asks; is = built ∙ whole ∙ is }
  leaves_alone lines new found (Err e) none asks built = tt

  -- the command is built, and has the values of the lines
  pub leaves_listed : {A : Type 0} (lines : List ℕ) (listed new : Tree) (found : Option Arg)
      (asked : Arg) (result : Result A Error) → found ≡ Some asked
      → Asks (built_tree old) (map string_bytes passed) index found
      → listed ≡ listed_tree asked (read_values asked lines).values mid
      → OnOk result (new ≡ built_tree listed)
      → OnOk result (LeavesListed lines old new (map string_bytes words) index)
  leaves_listed lines listed new found asked (Ok f) some asks lists built = record {
    asked = Some asked;
    asks = asks_words found (Some asked) some asks;
    is = listed_whole listed new asked (read_values asked lines).values lists built;
  }
  leaves_listed lines listed new found asked (Err e) some asks lists built = tt

  -- the word is in range
  pub ranges : {A : Type 0} (result : Result A Error)
      → is_in_range old.node (length passed) index ≡ true
      → OnOk result (is_in_range old.node (length words) index ≡ true)
  ranges (Ok f) in_range = subst (λ ws. is_in_range old.node (length ws) index ≡ true) same in_range
  ranges (Err e) in_range = tt

  -- the same of the bytes of the words
  counted : (tree new : Tree) (error : Error) → Refuses tree new (length words) index error
      → Refuses tree new (length (map string_bytes words)) index error
  counted tree new error refuses =
      subst (λ count. Refuses tree new count index error) (sym (length-map words string_bytes)) refuses

  refuses_for : (lines : List ℕ) (listed new : Tree) (asked : Arg) (error : Error)
      → Asks (built_tree old) (map string_bytes words) index (Some asked)
      → is_in_range old.node (length words) index ≡ true
      → listed ≡ listed_tree asked (read_values asked lines).values (built_tree old)
      → Refuses listed new (length words) index error
      → RefusesWith lines old new (map string_bytes words) index error
  refuses_for lines listed new asked Memory asks in_range lists refuses = inr (
    refl,
    (
      asked,
      asks,
      counted (listed_tree asked (read_values asked lines).values (built_tree old)) new Memory
          (subst (λ tree. Refuses tree new (length words) index Memory) lists refuses),
    ),
  )
  refuses_for lines listed new asked NoCompletion asks in_range lists refuses =
      let out : is_in_range old.node (length words) index ≡ false =
      subst (λ (tree : Tree). is_in_range tree.node (length words) index ≡ false)
      (refuses.0 ∙ ap built_tree lists) refuses.1 in
      cc
  refuses_for lines listed new asked _ asks in_range lists refuses = absurd refuses

  -- memory runs out after an argument got the values
  pub refuses_over : {A : Type 0} (lines : List ℕ) (listed new : Tree) (found : Option Arg)
      (asked : Arg) (result : Result A Error) → found ≡ Some asked
      → Asks (built_tree old) (map string_bytes passed) index found
      → is_in_range old.node (length passed) index ≡ true
      → listed ≡ listed_tree asked (read_values asked lines).values mid
      → IfErr result (Refuses listed new (length words) index)
      → IfErr result (RefusesWith lines old new (map string_bytes words) index)
  refuses_over lines listed new found asked (Ok f) some asks in_range lists refuses = tt
  refuses_over lines listed new found asked (Err error) some asks in_range lists refuses =
      refuses_for lines listed new asked error (asks_words found (Some asked) some asks)
      (subst (λ ws. is_in_range old.node (length ws) index ≡ true) same in_range)
      (lists ∙ ap (listed_tree asked (read_values asked lines).values) is) refuses
