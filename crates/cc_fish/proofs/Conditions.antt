-- The reading of a path's condition.
use Rattle.std.proofs.Common.{◌≡◌, ℕ, true, false, List, [], ◌∷◌, ◌++◌, eqb, refl, ap, ◌∙◌, sym, append_assoc, append-nil, Option, Some, None, map, codes, Bool, cond, reverse, flat_map, option_map}
use Rattle.std.proofs.lemmas.List.{reverse-append, reverse-reverse}
use Rattle.std.proofs.lemmas.List.Folds.{list_all-append}
use Rattle.std.specs.List.{list_all, AllByRecursion}
use Rattle.cc_base.specs.Bytes.{dash, semicolon, space}
use Rattle.cc_base.specs.Found.{after, before_ending, pieces_from}
use Rattle.cc_command.specs.Tree.{Forest, none, more}
use Rattle.cc_base.specs.Bytes as ascii
use Rattle.cc_base.proofs.Members.{AllByRecursion-append}
use Rattle.cc_quote.specs.FishQuote.{is_fish_safe}
use Rattle.cc_quote.proofs.FishWords.{IsSafe, safe_is_not, safe_bytes}
use Rattle.cc_fish.specs.Script.{seen_text, spaced_name, not_seen, excluded_text}
use Rattle.cc_generator.specs.Subcommands.{sibling_names}
use Rattle.cc_fish.specs.Table.{function_name, function_begin, condition_at}
use Rattle.cc_fish.specs.Reader.{without_semicolon, seen_function, a_name, nothing, asked, condition_from, condition_of_pieces, condition_of}
use Rattle.cc_fish.specs.Records.{Condition}
use Rattle.cc_fish.proofs.RecordWords.{is_kept, IsKept}

-- the condition of the node at a path
abbrev pub path_condition : List ℕ → List (List ℕ) → Forest → Option (List ℕ)
path_condition bin_name [] none = None
path_condition bin_name [] (more node below rest) = Some (codes "__fish_" ++ (function_name bin_name ++ codes "_needs_command"))
path_condition bin_name (first ∷ names) children =
    Some (codes "__fish_" ++ (function_name bin_name ++ (codes "_using_subcommand " ++ (first ++ (flat_map seen_text names ++ excluded_text children)))))

-- ---- pieces

not_space : (byte : ℕ) → is_fish_safe byte ≡ true → eqb byte space ≡ false
unfolding is_fish_safe
not_space byte h = safe_is_not byte space h refl

not_semicolon : (byte : ℕ) → is_fish_safe byte ≡ true → eqb byte semicolon ≡ false
unfolding is_fish_safe
not_semicolon byte h = safe_is_not byte semicolon h refl

pieces_safe : (text piece rest : List ℕ) → IsSafe text → pieces_from space piece (text ++ rest) ≡ pieces_from space (piece ++ text) rest
pieces_safe [] piece rest h = rw append-nil
pieces_safe (byte ∷ text) piece rest (h, hs) = rw (pieces_from, not_space byte h) (rw append_assoc at (pieces_safe text (piece ++ byte ∷ []) rest hs))

semicolon_off : (text : List ℕ) → without_semicolon (text ++ semicolon ∷ []) ≡ text
semicolon_off (byte ∷ next ∷ text) = ap (λ bytes. byte ∷ bytes) (semicolon_off (next ∷ text))
semicolon_off text = refl

safe_stays : (text : List ℕ) → IsSafe text → without_semicolon text ≡ text
safe_stays [] h = refl
safe_stays (byte ∷ []) (h, hs) = rw (not_semicolon byte h)
safe_stays (byte ∷ next ∷ text) (h, hs) = ap (λ bytes. byte ∷ bytes) (safe_stays (next ∷ text) hs)

-- the pieces of a text, without their semicolons
abbrev cut_pieces : List ℕ → List ℕ → List (List ℕ)
cut_pieces piece text = map without_semicolon (pieces_from space piece text)

-- names after spaces
names_pieces : (names : List (List ℕ)) (piece : List ℕ) → IsSafe piece → AllByRecursion IsSafe names → cut_pieces piece (flat_map spaced_name names) ≡ piece ∷ names
names_pieces [] piece h hs = ap (λ t. t ∷ []) (safe_stays piece h)
names_pieces (name ∷ names) piece h (k, ks) =
    ap (λ pieces. without_semicolon piece ∷ map without_semicolon pieces) (pieces_safe name [] (flat_map spaced_name names) k)
    ∙ ap (λ t. t ∷ cut_pieces name (flat_map spaced_name names)) (safe_stays piece h)
    ∙ ap (λ pieces. piece ∷ pieces) (names_pieces names name k ks)

-- ---- from the first name on

seen_pieces : (names : List (List ℕ)) → AllByRecursion IsSafe names → cut_pieces seen_function (flat_map spaced_name names) ≡ seen_function ∷ names
seen_pieces [] hs = refl
seen_pieces (name ∷ names) (k, ks) =
    ap (λ pieces. seen_function ∷ map without_semicolon pieces) (pieces_safe name [] (flat_map spaced_name names) k)
    ∙ ap (λ pieces. seen_function ∷ pieces) (names_pieces names name k ks)

-- a condition whose function and path have been read, with the excluded names
abbrev read_so : List ℕ → List (List ℕ) → List (List ℕ) → Condition
read_so function path excluded = record { function = function; path = path; excluded = excluded }

excluded_read : (function : List ℕ) (children : Forest) (path : List (List ℕ)) (name : List ℕ) → IsSafe name → AllByRecursion IsSafe (sibling_names children)
    → condition_from a_name (read_so function path []) (cut_pieces name (excluded_text children)) ≡ Some (read_so function (path ++ name ∷ []) (sibling_names children))
unfolding not_seen
excluded_read function none path name h hs = ap (λ t. condition_from a_name (read_so function path []) (t ∷ [])) (safe_stays name h)
excluded_read function (more node below rest) path name h hs =
    let names : List (List ℕ) = sibling_names (more node below rest) in
    ap (λ t. condition_from a_name (read_so function path []) (t ∷ codes "and" ∷ codes "not" ∷ cut_pieces seen_function (flat_map spaced_name names))) (semicolon_off name)
    ∙ ap (λ pieces. condition_from a_name (read_so function path []) (name ∷ codes "and" ∷ codes "not" ∷ pieces)) (seen_pieces names hs)

names_read : (function : List ℕ) (names : List (List ℕ)) (children : Forest) (path : List (List ℕ)) (name : List ℕ) → IsSafe name → AllByRecursion IsSafe names → AllByRecursion IsSafe (sibling_names children)
    → condition_from a_name (read_so function path []) (cut_pieces name (flat_map seen_text names ++ excluded_text children)) ≡ Some (read_so function (path ++ name ∷ names) (sibling_names children))
names_read function [] children path name h ks hs = excluded_read function children path name h hs
names_read function (next ∷ names) children path name h (k, ks) hs =
    let tail : List ℕ = flat_map seen_text names ++ excluded_text children in
    ap (λ t. condition_from a_name (read_so function path []) (cut_pieces name t)) (append_assoc (seen_text next) (flat_map seen_text names) (excluded_text children))
    ∙ ap (λ t. condition_from a_name (read_so function path []) (t ∷ codes "and" ∷ seen_function ∷ cut_pieces [] (next ++ tail))) (semicolon_off name)
    ∙ ap (λ pieces. condition_from a_name (read_so function (path ++ name ∷ []) []) (map without_semicolon pieces)) (pieces_safe next [] tail k)
    ∙ names_read function names children (path ++ name ∷ []) next k ks hs
    ∙ ap (λ names. Some (read_so function names (sibling_names children))) (append_assoc path (name ∷ []) (next ∷ names))

-- ---- the first piece

pub safe_append : (a b : List ℕ) → IsSafe a → IsSafe b → IsSafe (a ++ b)
safe_append a b h k = AllByRecursion-append (λ byte. is_fish_safe byte ≡ true) a b h k

pub function_safe : (bin_name : List ℕ) → IsSafe bin_name → IsSafe (function_name bin_name)
unfolding is_fish_safe
function_safe [] h = tt
function_safe (byte ∷ bytes) (h, hs) = safe_append (cond (eqb byte dash) (codes "_") (byte ∷ [])) (function_name bytes) (by_test (eqb byte dash)) (function_safe bytes hs)
  where
    by_test : (is : Bool) → IsSafe (cond is (codes "_") (byte ∷ []))
    by_test true = (refl, tt)
    by_test false = (h, tt)

-- the name of a function
abbrev function_of : List ℕ → List ℕ → List ℕ
function_of bin_name ending = codes "__fish_" ++ (function_name bin_name ++ ending)

function_of_safe : (bin_name ending : List ℕ) → IsSafe bin_name → list_all is_fish_safe ending ≡ true → IsSafe (function_of bin_name ending)
unfolding is_fish_safe
function_of_safe bin_name ending b h =
    safe_append (codes "__fish_") (function_name bin_name ++ ending) (safe_bytes (codes "__fish_") refl)
    (safe_append (function_name bin_name) ending (function_safe bin_name b) (safe_bytes ending h))

function_reversed : (bin_name ending : List ℕ) → reverse (function_of bin_name ending) ≡ (reverse ending ++ reverse (function_name bin_name)) ++ reverse (codes "__fish_")
function_reversed bin_name ending =
    reverse-append (codes "__fish_") (function_name bin_name ++ ending) ∙ ap (λ t. t ++ reverse (codes "__fish_")) (reverse-append (function_name bin_name) ending)

-- the meaning of the first piece's ending, given the piece in reverse
abbrev chosen : List ℕ → List (List ℕ) → Option Condition
chosen backwards pieces = elim (option_map (λ front. reverse front) (after (reverse (codes "_using_subcommand")) backwards)) as (λ x. Option Condition) [
  | Some function ↦ condition_from a_name (asked function) pieces
  | None ↦ elim (option_map (λ front. reverse front) (after (reverse (codes "_needs_command")) backwards)) as (λ x. Option Condition) [
    | Some function ↦ condition_from nothing (asked function) pieces
    | None ↦ None
  ]
]

-- the beginning of a function's name
function_found : (bin_name : List ℕ) → reverse (reverse (function_name bin_name) ++ reverse (codes "__fish_")) ≡ function_begin bin_name
function_found bin_name =
    reverse-append (reverse (function_name bin_name)) (reverse (codes "__fish_")) ∙ ap (λ t. codes "__fish_" ++ t) (reverse-reverse (function_name bin_name))

needs_read : (bin_name : List ℕ) → condition_of_pieces (function_of bin_name (codes "_needs_command") ∷ []) ≡ Some (asked (function_begin bin_name))
unfolding before_ending after
needs_read bin_name =
    ap (λ t. chosen t []) (function_reversed bin_name (codes "_needs_command")) ∙ ap (λ function. Some (asked function)) (function_found bin_name)

using_read : (bin_name : List ℕ) (pieces : List (List ℕ)) → condition_of_pieces (function_of bin_name (codes "_using_subcommand") ∷ pieces)
    ≡ condition_from a_name (asked (function_begin bin_name)) pieces
unfolding before_ending after
using_read bin_name pieces =
    ap (λ t. chosen t pieces) (function_reversed bin_name (codes "_using_subcommand")) ∙ ap (λ function. condition_from a_name (asked function) pieces) (function_found bin_name)

-- ---- the whole condition

-- the condition states the path and the excluded names
pub condition_read : (bin_name : List ℕ) (path : List (List ℕ)) (children : Forest) (text : List ℕ) → IsSafe bin_name → AllByRecursion IsSafe path → AllByRecursion IsSafe (sibling_names children)
    → path_condition bin_name path children ≡ Some text → condition_of text ≡ condition_at bin_name path children
unfolding is_fish_safe
condition_read bin_name [] none text b p hs e = absurd (cc)
condition_read bin_name [] (more node below rest) text b p hs e =
    let function : List ℕ = function_of bin_name (codes "_needs_command") in
    let same : text ≡ function = cc in
    let is : IsSafe function = function_of_safe bin_name (codes "_needs_command") b refl in
    ap condition_of same
    ∙ ap (λ pieces. condition_of_pieces (map without_semicolon pieces)) (ap (pieces_from space []) (sym (append-nil function)) ∙ pieces_safe function [] [] is)
    ∙ ap (λ t. condition_of_pieces (t ∷ [])) (safe_stays function is)
    ∙ needs_read bin_name
condition_read bin_name (first ∷ names) children text b (h, ks) hs e =
    let tail : List ℕ = flat_map seen_text names ++ excluded_text children in
    let function : List ℕ = function_of bin_name (codes "_using_subcommand") in
    let is : IsSafe function = function_of_safe bin_name (codes "_using_subcommand") b refl in
    let same : text ≡ function ++ space ∷ (first ++ tail) = cc (regrouped (function_name bin_name) (first ++ tail)) in
    ap condition_of same
    ∙ ap (λ pieces. condition_of_pieces (map without_semicolon pieces)) (pieces_safe function [] (space ∷ (first ++ tail)) is)
    ∙ ap (λ t. condition_of_pieces (t ∷ cut_pieces [] (first ++ tail))) (safe_stays function is)
    ∙ using_read bin_name (cut_pieces [] (first ++ tail))
    ∙ ap (λ pieces. condition_from a_name (asked (function_begin bin_name)) (map without_semicolon pieces)) (pieces_safe first [] tail h)
    ∙ names_read (function_begin bin_name) names children [] first h ks hs
  where
    regrouped : (function t : List ℕ) → codes "__fish_" ++ (function ++ (codes "_using_subcommand " ++ t)) ≡ (codes "__fish_" ++ (function ++ codes "_using_subcommand")) ++ space ∷ t
    regrouped function t = ap (λ x. codes "__fish_" ++ x) (sym (append_assoc function (codes "_using_subcommand") (space ∷ t)))

-- ---- all its bytes stay as they are between two `"`

safe_kept : (text : List ℕ) → IsSafe text → list_all is_kept text ≡ true
unfolding is_fish_safe
safe_kept [] h = refl
safe_kept (byte ∷ text) (h, hs) =
    rw (
      safe_is_not byte ascii.double_quote h refl,
      safe_is_not byte ascii.backslash h refl,
      safe_is_not byte ascii.dollar h refl,
    ) (safe_kept text hs)

kept_append : (a b : List ℕ) → list_all is_kept a ≡ true → list_all is_kept b ≡ true → list_all is_kept (a ++ b) ≡ true
kept_append a b h k = list_all-append is_kept a b ∙ rw (h, k)

kept_flat_map : (text : List ℕ → List ℕ) → ((name : List ℕ) → IsSafe name → list_all is_kept (text name) ≡ true) → (names : List (List ℕ)) → AllByRecursion IsSafe names → list_all is_kept (flat_map text names) ≡ true
kept_flat_map text each [] h = refl
kept_flat_map text each (name ∷ names) (h, hs) = kept_append (text name) (flat_map text names) (each name h) (kept_flat_map text each names hs)

excluded_kept : (children : Forest) → AllByRecursion IsSafe (sibling_names children) → list_all is_kept (excluded_text children) ≡ true
unfolding not_seen
excluded_kept none h = refl
excluded_kept (more node below rest) h =
    let names : List (List ℕ) = sibling_names (more node below rest) in
    kept_append (codes "; and not __fish_seen_subcommand_from") (flat_map spaced_name names) refl (kept_flat_map spaced_name (λ name k. safe_kept name k) names h)

function_kept : (bin_name rest : List ℕ) → IsSafe bin_name → list_all is_kept rest ≡ true → list_all is_kept (codes "__fish_" ++ (function_name bin_name ++ rest)) ≡ true
function_kept bin_name rest b h =
    kept_append (codes "__fish_") (function_name bin_name ++ rest) refl (kept_append (function_name bin_name) rest (safe_kept (function_name bin_name) (function_safe bin_name b)) h)

pub condition_kept : (bin_name : List ℕ) (path : List (List ℕ)) (children : Forest) → IsSafe bin_name → AllByRecursion IsSafe path → AllByRecursion IsSafe (sibling_names children)
    → IsKept (path_condition bin_name path children)
condition_kept bin_name [] none b p hs = tt
condition_kept bin_name [] (more node below rest) b p hs = function_kept bin_name (codes "_needs_command") b refl
condition_kept bin_name (first ∷ names) children b (h, ks) hs =
    let tail : List ℕ = flat_map seen_text names ++ excluded_text children in
    function_kept bin_name (codes "_using_subcommand " ++ (first ++ tail)) b
    (kept_append (codes "_using_subcommand ") (first ++ tail) refl (kept_append first tail (safe_kept first h)
    (kept_append (flat_map seen_text names) (excluded_text children) (kept_flat_map seen_text (λ name k. safe_kept name k) names ks) (excluded_kept children hs))))
