-- Lines of a block add options to it.
use Rattle.std.proofs.Common.{◌≡◌, ℕ, cond, List, [], ◌∷◌, ◌++◌, map, flat_map, Option, Some, None, codes, refl, sym, subst, ◌∙◌, ap, append_assoc, append-nil}
use Rattle.std.specs.List.{AllByRecursion}
use Rattle.std.specs.Option.{option_to_list}
use Rattle.std.proofs.lemmas.List.Concat.{flat_map_single}
use Rattle.cc_base.specs.Bytes.{single_quote}
use Rattle.cc_quote.specs.PosixSigns.{sign}
use Rattle.cc_quote.specs.PosixTokens.{CutState, cut, between, in_single}
use Rattle.cc_quote.proofs.PosixCutting.{tokens_from}
use Rattle.cc_zsh.specs.Options.{line_end}
use Rattle.cc_zsh.specs.Reader.{Block, Parts, Path, State, ZshOption, first_named, named_function, next, option_of, read, with_word}
use Rattle.cc_zsh.specs.Reader.State.{at_ret, in_block}
use Rattle.cc_zsh.proofs.Cutting.{Escapes, quoted_token, single_cut, token_quoted, not_word, names_none, word_of-quoted}

-- what the reader reads from a state on, if the script is cut from a quote state on
abbrev pub reading : State → CutState → List ℕ → Option Parts
reading state quote script = read state (tokens_from quote script)

-- a block with more options
abbrev pub with_options : Block → List ZshOption → Block
with_options block options = record block { options = block.options ++ options }

-- in a block the text adds the given options, whatever follows it
abbrev pub Adds : List ℕ → List ZshOption → Type 0
Adds text options = (outer : List Path) (blocks : List Block) (block : Block) (rest : List ℕ) →
    reading (in_block outer blocks block) between (text ++ rest)
    ≡ reading (in_block outer blocks (with_options block options)) between rest

pub adds_none : Adds [] []
adds_none outer blocks block rest =
    ap (λ os. reading (in_block outer blocks (record block { options = os })) between rest)
    (sym (append-nil block.options))

pub adds_append : (s t : List ℕ) (os ps : List ZshOption) → Adds s os → Adds t ps →
    Adds (s ++ t) (os ++ ps)
adds_append s t os ps a b outer blocks block rest =
    ap (reading (in_block outer blocks block) between) (append_assoc s t rest)
    ∙ a outer blocks block (t ++ rest)
    ∙ b outer blocks (with_options block os) rest
    ∙ ap (λ all. reading (in_block outer blocks (record block { options = all })) between rest)
    (append_assoc block.options os ps)

pub adds_flat_map : {X : Type 0} (P : X → Type 0) (text : X → List ℕ) (options : X → List ZshOption) →
    ((x : X) → P x → Adds (text x) (options x)) → (xs : List X) → AllByRecursion P xs →
    Adds (flat_map text xs) (flat_map options xs)
adds_flat_map P text options each [] h = adds_none
adds_flat_map P text options each (x ∷ xs) (h, hs) =
    adds_append (text x) (flat_map text xs) (options x) (flat_map options xs) (each x h)
    (adds_flat_map P text options each xs hs)

pub adds_map : {X : Type 0} (P : X → Type 0) (text : X → List ℕ) (option : X → ZshOption) →
    ((x : X) → P x → Adds (text x) (option x ∷ [])) → (xs : List X) → AllByRecursion P xs →
    Adds (flat_map text xs) (map option xs)
adds_map P text option each xs h = subst (Adds (flat_map text xs)) (flat_map_single option xs)
    (adds_flat_map P text (λ x. option x ∷ []) each xs h)

pub adds_nothing : {X : Type 0} (P : X → Type 0) (text : X → List ℕ) →
    ((x : X) → P x → Adds (text x) []) → (xs : List X) → AllByRecursion P xs →
    Adds (flat_map text xs) []
adds_nothing P text each [] h = adds_none
adds_nothing P text each (x ∷ xs) (h, hs) =
    adds_append (text x) (flat_map text xs) [] [] (each x h) (adds_nothing P text each xs hs)

pub first_named-none : (named : Option (List ℕ)) → first_named named None ≡ named
first_named-none None = refl
first_named-none (Some label) = refl

-- a block after a quoted word
word_added : (word : List ℕ) (options : List ZshOption) (block : Block) →
    option_to_list (option_of word) ≡ options →
    with_word block (quoted_token word) ≡ with_options block options
unfolding with_word
word_added word options block e =
    ap (λ os. record {
      path = block.path;
      options = block.options ++ os;
      function = first_named block.function (named_function (quoted_token word));
    })
    (ap (λ w. option_to_list (option_of w)) (word_of-quoted word) ∙ e)
    ∙ ap (λ f. record { path = block.path; options = block.options ++ options; function = f })
    (ap (first_named block.function) (names_none (quoted_token word) (token_quoted word))
    ∙ first_named-none block.function)

word_next : (word : List ℕ) (options : List ZshOption) (outer : List Path) (blocks : List Block)
    (block : Block) → option_to_list (option_of word) ≡ options →
    next (in_block outer blocks block) (quoted_token word)
    ≡ in_block outer blocks (with_options block options)
unfolding next
word_next word options outer blocks block e =
    ap (λ b. cond b (at_ret outer blocks block)
    (in_block outer blocks (with_word block (quoted_token word))))
    (not_word (codes "&&") (quoted_token word) (token_quoted word))
    ∙ ap (in_block outer blocks) (word_added word options block e)

-- a line with a quoted word
pub line_adds : (text word : List ℕ) (options : List ZshOption) → Escapes text word →
    option_to_list (option_of word) ≡ options → Adds (single_quote ∷ (text ++ line_end)) options
unfolding line_end sign cut read
line_adds text word options escapes e outer blocks block rest =
    ap (λ t. reading (in_block outer blocks block) (in_single [] []) t)
    (append_assoc text line_end rest ∙ ap (λ t. t ++ (line_end ++ rest)) escapes.is)
    ∙ ap (read (in_block outer blocks block)) (single_cut word rest [] [])
    ∙ ap (λ s. read s (tokens_from between rest)) (word_next word options outer blocks block e)
