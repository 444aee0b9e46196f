-- The results of parsing the command line, and how parsing fails.
use Rattle.std.proofs.Common.{◌≡◌, ◌⊎◌, ◌||◌, inl, inr, refl, subst, sym, true, false, not, Bool}
use Rattle.std.proofs.Common.{List, drop, ℕ}
use Rattle.std.proofs.Common.{[], ◌∷◌, Option, Some, None, is_some, option_map}
use Rattle.std.specs.Borrow.{Bor}
use Rattle.std.specs.Prelude.{IsSome, codes, find, if◌then◌else◌}
use Rattle.std.specs.List.{list_all}
use Rattle.std.specs.Option.{option_map_or}
use Rattle.clap.specs.Faults.{check_fault, defaults_fault, entered_fault, level_fault, settle_fault}
use Rattle.clap.specs.Faults.{walk_fault}
use Rattle.clap.specs.Kinds.{HasKind, Kinds}
use Rattle.clap.specs.Simple.{Shape, argument_words, built, entered, label_of, names_of, new_shape}
use Rattle.clap.specs.Simple.{rows_at}
use Rattle.clap.specs.Takes.{is_given}
use Rattle.clap.specs.Values.{kind_of}
use Rattle.clap.specs.Walk.{Row, Text, answers_to, finished, first_of, nothing_held, rows_after}
use Rattle.clap.specs.Walk.{settled, walk, walk_from}
use Rattle.clap.specs.Words.{fault_of, is_simple, is_simple_and_free, subcommand_of}
use Rattle.clap.specs.declared.error.Error.{Error}
use Rattle.clap.specs.declared.error.kind.ErrorKind.{ErrorKind}
use Rattle.clap.specs.declared.error.kind.ErrorKind.TheVariants as kind
use Rattle.clap.proofs.OnLiterals.{clap_on_literals}
use Rattle.complgen_command_line.specs.CommandLine.{program_line}
use Rattle.complgen_command_line.specs.Plans.{Enters, EntersOne, GivesDirectory, GivesNames}
use Rattle.complgen_command_line.specs.Plans.{GivesPage, GivesTree, GivesWords}
use Rattle.complgen_command_line.specs.Refusals.{Reports, ReportsKind}
use Rattle.complgen_scripts.specs.Refusals.{IsOutOfMemory}
use Rattle.complgen_scripts.specs.declared.refusals.Refusal.{Refusal}
use Rattle.complgen_command_line.proofs.GivenValues.{first_none, given_value, leaves_value, rows_kept}
use Rattle.complgen_command_line.proofs.GivenValues.{second_none}

-- the specification of clap states the result of a parse
pub program_line_is_simple : is_simple program_line ≡ true
unfolding clap_on_literals
program_line_is_simple = refl

-- and the kinds of error with which a parse fails
pub program_line_is_free : is_simple_and_free program_line ≡ true
unfolding clap_on_literals
program_line_is_free = refl

pub reports_words : (kinds : Kinds) (entered : Option (Text × List Row)) (error : Error)
    (refusal : Refusal) → HasKind kinds error → ReportsKind (kind_of error) refusal
    → Reports kinds entered refusal
reports_words kinds entered error refusal (inl out) refuses =
    inl (subst (λ (kind : ErrorKind). ReportsKind kind refusal) out refuses)
reports_words [] entered error refusal (inr among) refuses = absurd among
reports_words (first ∷ more) entered error refusal (inr among) refuses =
    inr (kind_of error, among, refuses)

-- ---- words at which no step fails

abbrev first_shape : List Shape → Shape
first_shape [] = new_shape []
first_shape (s ∷ subs) = s

-- the command at a place, as it is built
abbrev shape_at : ℕ → Shape
shape_at place = first_shape (drop place (built program_line).subs)

is_entered : (has : Bool) (rows : List Row) → check_fault (built program_line).top rows has ≡ []
    → has ≡ true
is_entered true rows h = refl
is_entered false rows h = cc

-- this command was entered, with some words, and no step of it fails
abbrev EntersShape : Option (Text × List Row) → Shape → Type 0
EntersShape entered s = (words : List Text)
    × (entered ≡ Some (s.name, rows_after s.rules [] words))
    × (level_fault s [] nothing_held words false [] ≡ [])

-- one of these commands was entered so
abbrev EntersAmong : Option (Text × List Row) → List Shape → Type 0
EntersAmong entered [] = ⊥
EntersAmong entered (s ∷ more) = EntersShape entered s ⊎ EntersAmong entered more

-- the command that a word names
abbrev named : Text → List Shape → Option Shape
named word subs = find (λ s. answers_to word (label_of s)) subs

-- what is entered is one of the commands
entered_among : (subs : List Shape) (p : Text × List Text)
    → is_some (option_map (λ s. rows_at s p.1) (named p.0 subs)) ≡ true
    → option_map_or (λ s. level_fault s [] nothing_held p.1 false []) (named p.0 subs) [] ≡ []
    → EntersAmong (option_map (λ s. rows_at s p.1) (named p.0 subs)) subs
entered_among [] p has e = cc
entered_among (s ∷ more) p has e =
    go (answers_to p.0 (label_of s)) (named p.0 more) (entered_among more p) has e
  where
    go : (t : Bool) (other : Option Shape)
        → (is_some (option_map (λ s. rows_at s p.1) other) ≡ true
        → option_map_or (λ s. level_fault s [] nothing_held p.1 false []) other [] ≡ []
        → EntersAmong (option_map (λ s. rows_at s p.1) other) more)
        → is_some (option_map (λ s. rows_at s p.1) (if t then Some s else other)) ≡ true
        → option_map_or (λ s. level_fault s [] nothing_held p.1 false [])
        (if t then Some s else other) [] ≡ []
        → EntersAmong (option_map (λ s. rows_at s p.1) (if t then Some s else other)) (s ∷ more)
    go true other rest has e = inl (p.1, refl, e)
    go false other rest has e = inr (rest has e)

entered_one : (stop : Option (Text × List Text))
    → is_some (entered (built program_line) stop) ≡ true
    → entered_fault (built program_line) stop ≡ []
    → EntersAmong (entered (built program_line) stop) (built program_line).subs
entered_one None has e = cc
entered_one (Some p) has e = entered_among (built program_line).subs p has e

-- no argument is missing: three required arguments were given, or two, or one
pub three_given : (a b d : Bool)
    → (if not a || (not b || (not d || false)) then kind.MissingRequiredArgument ∷ [] else []) ≡ []
    → (a ≡ true) × (b ≡ true) × (d ≡ true)
three_given true true true h = (refl, refl, refl)
three_given true true false h = cc
three_given true false d h = cc
three_given false b d h = cc

two_given : (a b : Bool)
    → (if not a || (not b || false) then kind.MissingRequiredArgument ∷ [] else []) ≡ []
    → (a ≡ true) × (b ≡ true)
two_given true true h = (refl, refl)
two_given true false h = cc
two_given false b h = cc

one_given : (a : Bool) → (if not a || false then kind.MissingRequiredArgument ∷ [] else []) ≡ []
    → a ≡ true
one_given true h = refl
one_given false h = cc

module _ (s : Shape) (words : List Text)
    (e : level_fault s [] nothing_held words false [] ≡ []) where
  abbrev pub rows : List Row
  rows = rows_after s.rules [] words

  -- the checks after the words pass
  pub checks_pass : check_fault s rows false ≡ []
  checks_pass =
      let end = (walk s.rules [] nothing_held words).held in
      let after_walk = second_none (walk_fault s [] (walk_from nothing_held) words) _ e in
      let after_last = second_none (settle_fault s.rules s.args_override_self end) _ after_walk in
      second_none (defaults_fault (settled s.rules end).rows s.rules) _ after_last

  -- an argument that was given has a value
  pub has_value : (id : Text) → list_all (leaves_value id) s.rules ≡ true → is_given id rows ≡ true
      → IsSome (first_of id rows)
  has_value id leaves given =
      let after_walk = second_none (walk_fault s [] (walk_from nothing_held) words) _ e in
      let value = given_value id _ (rows_kept s id leaves [] words (first_none _ _ e)
      (first_none _ _ after_walk)) given in
      subst IsSome (sym value.1) refl

  gives_names : list_all (leaves_value (codes "shell")) s.rules ≡ true
      → list_all (leaves_value (codes "bin")) s.rules ≡ true
      → list_all (leaves_value (codes "tree")) s.rules ≡ true
      → (is_given (codes "shell") rows ≡ true) × (is_given (codes "bin") rows ≡ true)
      × (is_given (codes "tree") rows ≡ true) → GivesNames rows
  gives_names shell bin tree given = (
    has_value (codes "shell") shell given.0,
    has_value (codes "bin") bin given.1,
    has_value (codes "tree") tree given.2,
  )

  gives_directory : list_all (leaves_value (codes "bin")) s.rules ≡ true
      → list_all (leaves_value (codes "out-dir")) s.rules ≡ true
      → list_all (leaves_value (codes "tree")) s.rules ≡ true
      → (is_given (codes "bin") rows ≡ true) × (is_given (codes "out-dir") rows ≡ true)
      × (is_given (codes "tree") rows ≡ true) → GivesDirectory rows
  gives_directory bin directory tree given = (
    has_value (codes "bin") bin given.0,
    has_value (codes "out-dir") directory given.1,
    has_value (codes "tree") tree given.2,
  )

  gives_words : list_all (leaves_value (codes "index")) s.rules ≡ true
      → list_all (leaves_value (codes "tree")) s.rules ≡ true
      → (is_given (codes "index") rows ≡ true) × (is_given (codes "tree") rows ≡ true)
      → GivesWords rows
  gives_words index tree given =
      (has_value (codes "index") index given.0, has_value (codes "tree") tree given.1)

gives_two : (one other : Text) (s : Shape) (words : List Text)
    → level_fault s [] nothing_held words false [] ≡ []
    → list_all (leaves_value one) s.rules ≡ true → list_all (leaves_value other) s.rules ≡ true
    → (is_given one (rows_after s.rules [] words) ≡ true) × (is_given other (rows_after s.rules [] words) ≡ true)
    → IsSome (first_of one (rows_after s.rules [] words)) × IsSome (first_of other (rows_after s.rules [] words))
gives_two one other s words e first second given =
    (has_value s words e one first given.0, has_value s words e other second given.1)

entered_from : (words : List Text) (stop : Option (Text × List Text))
    → level_fault (built program_line).top (names_of (built program_line)) nothing_held words
    (is_some (entered (built program_line) stop)) (entered_fault (built program_line) stop) ≡ []
    → (is_some (entered (built program_line) stop) ≡ true)
    × (entered_fault (built program_line) stop ≡ [])
entered_from words stop e =
    let top = (built program_line).top in
    let names = names_of (built program_line) in
    let end = (walk top.rules names nothing_held words).held in
    let after_walk = second_none (walk_fault top names (walk_from nothing_held) words) _ e in
    let after_below = second_none (entered_fault (built program_line) stop) _ after_walk in
    let settles = settle_fault top.rules top.args_override_self end in
    let after_last = second_none settles _ after_below in
    let checks = second_none (defaults_fault (settled top.rules end).rows top.rules) _ after_last in
    (is_entered _ (finished top.rules end) checks, first_none _ _ after_walk)

-- a command was entered, and its rows have a property
enters : (entered : Option (Text × List Row)) (s : Shape) (Has : List Row → Type 0)
    → ((words : List Text) → level_fault s [] nothing_held words false [] ≡ []
    → Has (rows_after s.rules [] words))
    → EntersShape entered s → Enters s.name Has entered
enters entered s Has gives found = record {
  rows = rows_after s.rules [] found.0;
  is_entered = found.1;
  has = gives found.0 found.2;
}

either : {A B C D : Type 0} → (A → C) → (B → D) → A ⊎ B → C ⊎ D
either f g (inl a) = inl (f a)
either f g (inr b) = inr (g b)

last : {A C : Type 0} → (A → C) → A ⊎ ⊥ → C
last f (inl a) = f a
last f (inr none) = absurd none

regroup : {A B C D E F R : Type 0} → A ⊎ (B ⊎ (C ⊎ (D ⊎ (E ⊎ (F ⊎ R)))))
    → (A ⊎ (B ⊎ (C ⊎ (D ⊎ (E ⊎ F))))) ⊎ R
regroup (inl a) = inl (inl a)
regroup (inr (inl b)) = inl (inr (inl b))
regroup (inr (inr (inl c))) = inl (inr (inr (inl c)))
regroup (inr (inr (inr (inl d)))) = inl (inr (inr (inr (inl d))))
regroup (inr (inr (inr (inr (inl e))))) = inl (inr (inr (inr (inr (inl e)))))
regroup (inr (inr (inr (inr (inr (inl f)))))) = inl (inr (inr (inr (inr (inr f)))))
regroup (inr (inr (inr (inr (inr (inr r)))))) = inr r

-- the rows of each command have its required arguments
enters_its : (entered : Option (Text × List Row)) → EntersAmong entered (built program_line).subs
    → EntersOne entered
enters_its entered among = regroup (
    either (enters entered (shape_at 0) GivesNames (λ words e. gives_names (shape_at 0) words e refl refl
    refl (three_given _ _ _ (checks_pass (shape_at 0) words e))))
    (either (enters entered (shape_at 1) GivesDirectory (λ words e. gives_directory (shape_at 1) words e
    refl refl refl (three_given _ _ _ (checks_pass (shape_at 1) words e))))
    (either (enters entered (shape_at 2) GivesNames (λ words e. gives_names (shape_at 2) words e refl refl
    refl (three_given _ _ _ (checks_pass (shape_at 2) words e))))
    (either (enters entered (shape_at 3) GivesWords (λ words e. gives_words (shape_at 3) words e refl refl
    (two_given _ _ (checks_pass (shape_at 3) words e))))
    (either (enters entered (shape_at 4) GivesWords (λ words e. gives_words (shape_at 4) words e refl refl
    (two_given _ _ (checks_pass (shape_at 4) words e))))
    (either (enters entered (shape_at 5) GivesTree (λ words e. has_value (shape_at 5) words e (codes "tree")
    refl (one_given _ (checks_pass (shape_at 5) words e))))
    (last (enters entered (shape_at 6) GivesPage (λ words e. gives_two (codes "bin") (codes "tree")
    (shape_at 6) words e refl refl (two_given _ _ (checks_pass (shape_at 6) words e)))))))))) among)

-- words at which no step fails enter a command, with its required arguments
pub enters_one : (words : List Text) → fault_of program_line words ≡ []
    → EntersOne (subcommand_of program_line words)
enters_one words e =
    let given = argument_words program_line words in
    let line = built program_line in
    let stop = (walk line.top.rules (names_of line) nothing_held given).stopped in
    let here = entered_from given stop e in
    enters_its _ (entered_one stop here.0 here.1)

pub reports_memory : (k : ErrorKind) (refusal : Refusal) → k ≡ kind.OutOfMemory
    → ReportsKind k refusal → IsOutOfMemory refusal
reports_memory k refusal out refuses = subst (λ (k : ErrorKind). ReportsKind k refusal) out refuses

-- a text that was found by reference
pub some_found : (o : Option (Bor Text)) (p : Option Text) → option_map (λ s. s.now) o ≡ p
    → IsSome p → IsSome o
some_found None p e h = subst IsSome (sym e) h
some_found (Some s) p e h = refl
