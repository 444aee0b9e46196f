-- Files of values for some texts.
use Rattle.std.proofs.Common.{◌≡◌, [], Some, None, codes, refl}
use Rattle.std.specs.Path.{path_join}
use Rattle.cc_lines.specs.ValueFiles.{first_lines, values_path}

root_row : values_path (Some (codes "/h")) None (codes "/x/y") ≡ Some (codes "/x/y")
root_row = refl

home_row : values_path (Some (codes "/h")) (Some (codes "/c")) (codes "~/x/y")
    ≡ Some (codes "/h/x/y")
unfolding path_join
home_row = refl

no_home_row : values_path None (Some (codes "/c")) (codes "~/x") ≡ None
no_home_row = refl

-- the home of another user is not looked up
other_home_row : values_path (Some (codes "/h")) (Some (codes "/c")) (codes "~x/y")
    ≡ Some (codes "/c/~x/y")
unfolding path_join
other_home_row = refl

below_row : values_path (Some (codes "/h")) (Some (codes "/c")) (codes "x/y")
    ≡ Some (codes "/c/x/y")
unfolding path_join
below_row = refl

nowhere_row : values_path (Some (codes "/h")) None (codes "x") ≡ None
nowhere_row = refl

short_row : first_lines 5 (codes "a\nbcd") ≡ codes "a\nbcd"
short_row = refl

cut_row : first_lines 5 (codes "a\nbcde\n") ≡ codes "a\n"
cut_row = refl

cut_at_end_row : first_lines 2 (codes "a\nbcde\n") ≡ codes "a\n"
cut_at_end_row = refl

no_line_row : first_lines 3 (codes "abcd\n") ≡ []
no_line_row = refl
