-- Requests, by the value of the variable and the words.
use Rattle.std.proofs.Common.{◌≡◌, true, false, [], ◌∷◌, Some, None, codes, refl}
use Rattle.cc_replies.specs.Requests.{is_request}

alone_row : is_request (Some (codes "bash")) (codes "complgen" ∷ []) ≡ true
alone_row = refl

words_row : is_request (Some (codes "fish")) (codes "complgen" ∷ codes "--" ∷ codes "git" ∷ []) ≡ true
words_row = refl

script_row : is_request (Some (codes "fish")) (codes "complgen" ∷ codes "script" ∷ []) ≡ false
script_row = refl

zero_row : is_request (Some (codes "0")) (codes "complgen" ∷ []) ≡ false
zero_row = refl

empty_row : is_request (Some []) (codes "complgen" ∷ []) ≡ false
empty_row = refl

unset_row : is_request None (codes "complgen" ∷ []) ≡ false
unset_row = refl
