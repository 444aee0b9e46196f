-- Computed examples.
use Rattle.std.specs.Prelude.{◌≡◌, [], ◌∷◌, true, false, Some, None, refl, codes}
use Rattle.std.specs.Char.{encode_utf8}
use Rattle.cc_base.specs.Bytes.{comma}
use Rattle.cc_arg.specs.declared.parts.ArgParts.{ArgParts as Arg}
use Rattle.cc_arg.specs.Arguments.{new_arg}
use Rattle.cc_arg.specs.Printed.{printed, printed_after_name, printed_names, printed_values}
use Rattle.cc_candidates.specs.Candidate.{new_candidate}
use Rattle.cc_engine.specs.Parts.{front, front_length, part}
use Rattle.cc_engine.specs.Values.{gather, question, nothing, values}

parts :
    (front (Some comma) (codes "a,b,c") ≡ codes "a,b,")
    × (part (Some comma) (codes "a,b,c") ≡ codes "c")
    -- a delimiter of two bytes, `§`
    × (part (Some 167) (97 ∷ 194 ∷ 167 ∷ 98 ∷ []) ≡ codes "b")
unfolding front_length encode_utf8
parts = (refl, refl, refl)

abbrev color : Arg
color = record (new_arg (codes "color")) {
  short = Some 99;
  long = Some (codes "color");
  possible_values = Some (record { name = codes "auto"; help = None; hide = false } ∷ record { name = codes "never"; help = None; hide = true } ∷ []);
}

color_values :
    (question color 0 (codes "a") ≡ nothing)
    × (values color (codes "a") [] ≡ record (new_candidate (codes "auto")) { tag = Some (codes "--color <color>") } ∷ [])
unfolding question values gather front_length printed printed_after_name printed_names printed_values
color_values = (refl, refl)
