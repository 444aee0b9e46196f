-- Lemmas for the outcomes of answering in memory.
use Rattle.std.proofs.Common.{◌≡◌, ◌∙◌, ap, map, subst, ℕ, List, Option, Result, Err}
use Rattle.std.specs.Option.{option_copied}
use Rattle.std.specs.String.{string_bytes}
use Rattle.cc_env.specs.Answers.{Told}
use Rattle.cc_env.specs.WithLines.{passed_lines}
use Rattle.cc_base.specs.declared.error.Error.TheVariants.{Memory}
use Rattle.cc_candidates.specs.Folders.{FolderFacts}
use Rattle.cc_replies.specs.Environment.{value_of}
use Rattle.cc_replies.specs.declared.environment.EnvValues.{EnvValues}
use Rattle.complgen_live.specs.Answers.{AnswersRequest, not_prepared}
use Rattle.complgen_live.specs.Prepared.{out_of_memory}
use Rattle.complgen_live.specs.declared.reply_errors.ReplyError.{ReplyError}
use Rattle.complgen_live.specs.declared.reply_errors.ReplyError.TheVariants.{Library}
use Rattle.complgen_c.specs.Listings.{HoldsListing, Listing, facts_of, listing_of}
use Rattle.complgen_c.specs.Live.{AnswersOver, EndsBy, MakesReply, answered, current_dir, home_name, parts_over}
use Rattle.complgen_c.specs.Requests.{HasParts}
use Rattle.complgen_c.specs.declared.listed.Listed.{Listed}
use Rattle.complgen_c.specs.declared.outcome.Outcome.{Outcome}
use Rattle.complgen_c.specs.declared.requests.RequestTexts.{RequestTexts}
use Rattle.complgen_c.proofs.SameFacts.{same_facts}

module _ (tree : List ℕ) (words : List (List ℕ)) (env : EnvValues) (output : List ℕ)
    (facts : FolderFacts) (listed : List ℕ) (outcome : Outcome) where
  -- the answer over the directory where relative paths begin, as it was read
  pub over_current : (current : Option (List ℕ)) (path : List ℕ)
      (answer : Result (Option Told) ReplyError) → current ≡ current_dir env → path ≡ listed
      → AnswersRequest (parts_over tree words env facts current)
      (λ asked lines. lines ≡ passed_lines output asked) answer
      → EndsBy path answer outcome → AnswersOver tree words env output facts listed outcome
  over_current current path answer is same answers ends = record {
    answer = answer;
    answers = subst (λ (c : Option (List ℕ)). AnswersRequest (parts_over tree words env facts c)
        (λ asked lines. lines ≡ passed_lines output asked) answer) is answers;
    ends = subst (λ (p : List ℕ). EndsBy p answer outcome) same ends;
  }

  -- out of memory before there is an answer
  pub no_answer : EndsBy listed (Err (Library Memory)) outcome
      → AnswersOver tree words env output facts listed outcome
  no_answer ends = record {
    answer = Err (Library Memory);
    answers = not_prepared (Library Memory) (out_of_memory tree);
    ends = ends;
  }

-- a folder that holds a listing states the same about paths as the listing
pub over_listing : (tree : List ℕ) (words : List (List ℕ)) (env : EnvValues) (output : List ℕ)
    (listing : Listing) (home : Option (List ℕ)) (listed : Listed) (outcome : Outcome)
    → home ≡ value_of home_name env → HoldsListing listing home listed
    → AnswersOver tree words env output
    (facts_of (listing_of listed) (option_copied listed.home)) listed.path.now outcome
    → AnswersOver tree words env output (facts_of listing (value_of home_name env)) listing.path
    outcome
over_listing tree words env output listing home listed outcome is holds answers =
    subst (λ (path : List ℕ). AnswersOver tree words env output
    (facts_of listing (value_of home_name env)) path outcome) holds.path_same
    (subst (λ (facts : FolderFacts). AnswersOver tree words env output facts listed.path.now outcome)
    (same_facts listing home listed holds ∙ ap (facts_of listing) is) answers)

-- the answer to a request that was read
pub request_answered : (tree : List ℕ) (words variables names : List (List ℕ))
    (output path : List ℕ) (folders files : List (List ℕ)) (request : RequestTexts)
    (outcome : Outcome) → HasParts words variables names request
    → AnswersOver tree (map string_bytes request.words.items) request.env output (facts_of (record {
      path = path;
      names = map string_bytes request.names.items;
      folders = folders;
      files = files;
    }) (value_of home_name request.env)) path outcome
    → MakesReply tree words variables output (record {
      path = path;
      names = names;
      folders = folders;
      files = files;
    }) outcome
request_answered tree words variables names output path folders files request outcome parts answers =
    answered request.env outcome parts.utf8 parts.variables_same
    (subst (λ (n : List (List ℕ)). AnswersOver tree words request.env output (facts_of (record {
      path = path;
      names = n;
      folders = folders;
      files = files;
    }) (value_of home_name request.env)) path outcome) parts.names_same
    (subst (λ (w : List (List ℕ)). AnswersOver tree w request.env output (facts_of (record {
      path = path;
      names = map string_bytes request.names.items;
      folders = folders;
      files = files;
    }) (value_of home_name request.env)) path outcome) parts.words_same answers))
