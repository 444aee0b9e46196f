-- The registration and the reply for the prompt read back.
use Rattle.std.proofs.Common.{◌∙◌, ap, refl, sym, ℕ, List, [], ◌∷◌}
use Rattle.std.proofs.lemmas.List.{append-nil}
use Rattle.clap_complete.specs.cc_candidates.declared.candidate.CompletionCandidate.{CompletionCandidate}
use Rattle.cc_caller.specs.Prompt.{PromptReads, PromptReplyReads, ended_line, prompt_reply}
use Rattle.cc_caller.specs.WordList.{lines_of}
use Rattle.cc_caller.proofs.LinesRead.{one_line}

pub registration_back : (variable completer : List ℕ) → PromptReads variable completer
registration_back variable completer v c =
    one_line variable (ended_line completer) v
    ∙ ap (λ lines. variable ∷ lines)
    (ap lines_of (sym (append-nil (ended_line completer))) ∙ one_line completer [] c)

pub reply_back : (found : List CompletionCandidate) → PromptReplyReads found
reply_back [] h = refl
reply_back (candidate ∷ found) h =
    one_line candidate.value (prompt_reply found) h.0 ∙ ap (λ lines. candidate.value ∷ lines) (reply_back found h.1)
