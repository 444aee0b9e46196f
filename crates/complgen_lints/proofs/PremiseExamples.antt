-- Whether a warning says that a premise does not hold, for small trees and some kinds.
use Rattle.std.proofs.Common.{◌≡◌, ◌∷◌, [], true, false, Some, None, codes, refl}
use Rattle.cc_base.specs.PlainName.{is_joined, is_plain_name, name_byte}
use Rattle.cc_command.specs.Made.{new_node, new_tree}
use Rattle.cc_command.specs.Tree.{Tree, more, none}
use Rattle.complgen_lints.specs.Findings.{finding}
use Rattle.complgen_lints.specs.Lists.{is_nil}
use Rattle.complgen_lints.specs.PremiseList.{premise_list}
use Rattle.complgen_lints.specs.Premises.{premise_at}
use Rattle.complgen_lints.specs.declared.found.Spot.TheVariants.{Command}
use Rattle.complgen_lints.specs.declared.place.Key.TheVariants.{Aliases}
use Rattle.complgen_lints.specs.declared.warning.Advice.TheVariants.{ZshSign}
use Rattle.complgen_lints.specs.declared.warning.Kind.TheVariants as kind
use Rattle.complgen_lints.specs.declared.warning.Premise.TheVariants.{TakenName}

-- `app`, which has a name alone
plain_row : premise_list None (new_tree (codes "app")) ≡ []
unfolding is_plain_name is_joined name_byte
plain_row = refl

-- a bin name that is not plain
bin_row : is_nil (premise_list (Some (codes "a b")) (new_tree (codes "app"))) ≡ false
unfolding is_plain_name is_joined name_byte
bin_row = refl

-- `app` with a hidden `add`, and `sub` with the alias `add`
abbrev twice : Tree
twice = record {
  node = new_node (codes "app");
  children = more (record (new_node (codes "add")) { hide = true }) none
      (more (record (new_node (codes "sub")) { aliases = codes "add" ∷ [] }) none none);
}

taken_row : premise_list None twice ≡ record {
  place = record { command = 1 ∷ []; argument = None; key = Some Aliases; item = Some 0 };
  kind = TakenName (codes "add") (codes "add");
} ∷ []
unfolding is_plain_name is_joined name_byte
taken_row = refl

-- a sign that ends a text of the zsh script is a warning, but no premise
sign_row : premise_at (finding Command Aliases None ZshSign).place (kind.Advice ZshSign) ≡ []
sign_row = refl
