-- A reader of roff reads the parts of a page one after another.
use Rattle.std.proofs.Common.{◌≡◌, ℕ, Bool, true, false, cond, List, [], ◌∷◌, ◌++◌, map, flat_map, refl, sym, ap, ◌∙◌, append_assoc, append-nil}
use Rattle.cc_base.specs.Joined.{joined, joined_after}
use Rattle.complgen_man.specs.Page.{where_true}
use Rattle.complgen_man.specs.Reader.{Sign, State, read_byte, read_from, state_after, step}
use Rattle.complgen_man.specs.Shown.{separated, signs_where}

-- from a state on, a text is read as some signs, and leads to another state
pub record Reads (start : State) (text : List ℕ) (signs : List Sign) (end : State) : Type 0 where
  pub shows : read_from start text ≡ signs
  pub ends : state_after start text ≡ end

read_append : (start : State) (text more : List ℕ) → read_from start (text ++ more) ≡ read_from start text ++ read_from (state_after start text) more
read_append start [] more = refl
read_append start (byte ∷ text) more =
    ap (λ signs. read_byte start.place start.font byte ++ signs) (read_append (step start byte) text more)
    ∙ sym (append_assoc (read_byte start.place start.font byte) (read_from (step start byte) text) (read_from (state_after (step start byte) text) more))

after_append : (start : State) (text more : List ℕ) → state_after start (text ++ more) ≡ state_after (state_after start text) more
after_append start [] more = refl
after_append start (byte ∷ text) more = after_append (step start byte) text more

-- one part after another
pub then : {a b c : State} {text more : List ℕ} {signs rest : List Sign} → Reads a text signs b → Reads b more rest c → Reads a (text ++ more) (signs ++ rest) c
then {a} {b} {c} {text} {more} {signs} {rest} first second = record {
  shows =
      read_append a text more
      ∙ ap (λ shown. shown ++ read_from (state_after a text) more) first.shows
      ∙ ap (λ (state : State). signs ++ read_from state more) first.ends
      ∙ ap (λ shown. signs ++ shown) second.shows;
  ends = after_append a text more ∙ ap (λ (state : State). state_after state more) first.ends ∙ second.ends;
}

-- the same where the first part, or the second, shows nothing
pub unseen_then : {a b c : State} {text more : List ℕ} {signs : List Sign} → Reads a text [] b → Reads b more signs c → Reads a (text ++ more) signs c
unseen_then first second = then first second

pub then_unseen : {a b c : State} {text more : List ℕ} {signs : List Sign} → Reads a text signs b → Reads b more [] c → Reads a (text ++ more) signs c
then_unseen {signs = signs} first second =
    let both = then first second in record { shows = both.shows ∙ append-nil signs; ends = both.ends }

-- a text without variables, by computation
pub computed : {a b : State} {text : List ℕ} {signs : List Sign} → read_from a text ≡ signs → state_after a text ≡ b → Reads a text signs b
computed shows ends = record { shows = shows; ends = ends }

-- the same with the text and the signs given
pub fixed : {a b : State} (text : List ℕ) (signs : List Sign) → read_from a text ≡ signs → state_after a text ≡ b → Reads a text signs b
fixed text signs shows ends = record { shows = shows; ends = ends }

pub nothing : {a : State} → Reads a [] [] a
nothing = record { shows = refl; ends = refl }

-- a part that depends on a test
pub when : {a : State} {text : List ℕ} {signs : List Sign} (test : Bool) → Reads a text signs a → Reads a (where_true test text) (signs_where test signs) a
when true part = part
when false part = nothing

pub either : {a b : State} {text other : List ℕ} {signs others : List Sign} (test : Bool) → Reads a text signs b → Reads a other others b
    → Reads a (cond test text other) (cond test signs others) b
either true one other = one
either false one other = other

module _ {X : Type 0} (text : X → List ℕ) where
  -- a part for each of some things
  pub each : {a : State} (signs : X → List Sign) → ((x : X) → Reads a (text x) (signs x) a) → (xs : List X) → Reads a (flat_map text xs) (flat_map signs xs) a
  each signs part [] = nothing
  each signs part (x ∷ xs) = then (part x) (each signs part xs)

  -- the same where each part is read as one sign
  pub each_one : {a : State} (sign : X → Sign) → ((x : X) → Reads a (text x) (sign x ∷ []) a) → (xs : List X) → Reads a (flat_map text xs) (map sign xs) a
  each_one sign part [] = nothing
  each_one sign part (x ∷ xs) = then (part x) (each_one sign part xs)

  module _ (between : List ℕ) (between_shown : List Sign) where
    later : {a : State} (signs : X → List Sign) → Reads a between between_shown a → ((x : X) → Reads a (text x) (signs x) a) → (xs : List X)
        → Reads a (joined_after between true (map text xs)) (flat_map (λ more. between_shown ++ more) (map signs xs)) a
    later signs middle part [] = nothing
    later signs middle part (x ∷ xs) = then (then middle (part x)) (later signs middle part xs)

    -- parts with a separator before each but the first
    pub joins : {a : State} (signs : X → List Sign) → Reads a between between_shown a → ((x : X) → Reads a (text x) (signs x) a) → (xs : List X)
        → Reads a (joined between (map text xs)) (separated between_shown (map signs xs)) a
    joins signs middle part [] = nothing
    joins signs middle part (x ∷ xs) = then (part x) (later signs middle part xs)
