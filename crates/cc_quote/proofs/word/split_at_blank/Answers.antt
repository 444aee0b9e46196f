use Rattle.std.proofs.Common.{◌≡◌, ℕ, Bool, List, [], ◌∷◌, Option}
use Rattle.std.specs.Char.{char_set_contains}
use Rattle.std.specs.Str.Pattern.{FindsBy}
use Rattle.cc_base.specs.Bytes.{is_blank, line_feed, space, tab}
use Rattle.cc_quote.proofs.Blanks.{blanks_are, cut_at_found}
use Rattle.cc_quote.proofs.word.split_at_blank.Goals as goal

pub returns : goal.returns
returns c =
    let text = c.args.text.now in
    let F : List ℕ → Option (ℕ × ℕ) → Type 0 = λ s r. (k : ℕ → Bool) → ((x : ℕ) → char_set_contains (space ∷ tab ∷ line_feed ∷ []) x ≡ k x) → FindsBy k s r in
    let cut = cut_at_found F text (λ r finds. finds is_blank blanks_are) c.find.result c.find.ensures.cases in
    rw (c.split_at.ensures.front, c.split_at.ensures.back, c.unwrap_or-end.ensures) cut
