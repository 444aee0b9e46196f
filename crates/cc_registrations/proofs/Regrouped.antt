-- The parts of a registration, bracketed from the right.
use Rattle.std.proofs.Common.{◌≡◌, ℕ, List, ◌++◌, append_assoc}

-- the parts for POSIX shells and fish: a line of five, and a function of five, the completer and the
-- end
pub regroup_twelve : (a b c d e f g h i j k l : List ℕ)
    → ((((a ++ b) ++ c) ++ d) ++ e) ++ ((((((f ++ g) ++ h) ++ i) ++ j) ++ k) ++ l)
    ≡ a ++ (b ++ (c ++ (d ++ (e ++ (f ++ (g ++ (h ++ (i ++ (j ++ (k ++ l))))))))))
regroup_twelve a b c d e f g h i j k l = simp append_assoc

-- the parts for Elvish
pub regroup_seven : (a b c d e f g : List ℕ)
    → (((((a ++ b) ++ c) ++ d) ++ e) ++ f) ++ g ≡ a ++ (b ++ (c ++ (d ++ (e ++ (f ++ g)))))
regroup_seven a b c d e f g = simp append_assoc

-- the parts for PowerShell: a head of three, a call of four, the completer and the end
pub regroup_nine : (a b c d e f g h i : List ℕ)
    → ((((a ++ b) ++ c) ++ (((d ++ e) ++ f) ++ g)) ++ h) ++ i
    ≡ a ++ (b ++ (c ++ (d ++ (e ++ (f ++ (g ++ (h ++ i)))))))
regroup_nine a b c d e f g h i = simp append_assoc
