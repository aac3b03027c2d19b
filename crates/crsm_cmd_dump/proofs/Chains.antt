-- Seven texts behind one another.
use Rattle.std.proofs.Common.{◌≡◌, ◌∙◌, ◌++◌, append_assoc}
use Rattle.crsm_cmd_dump.specs.Texts.{Text}

regroup : (o a b c d e f g : Text) → ((((((o ++ a) ++ b) ++ c) ++ d) ++ e) ++ f) ++ g ≡ o ++ ((((((a ++ b) ++ c) ++ d) ++ e) ++ f) ++ g)
regroup o a b c d e f g = simp append_assoc

pub seven : (o o1 o2 o3 o4 o5 o6 o7 a b c d e f g : Text) → o1 ≡ o ++ a → o2 ≡ o1 ++ b → o3 ≡ o2 ++ c → o4 ≡ o3 ++ d → o5 ≡ o4 ++ e → o6 ≡ o5 ++ f → o7 ≡ o6 ++ g
    → o7 ≡ o ++ ((((((a ++ b) ++ c) ++ d) ++ e) ++ f) ++ g)
seven o o1 o2 o3 o4 o5 o6 o7 a b c d e f g p1 p2 p3 p4 p5 p6 p7 =
    let whole : o7 ≡ ((((((o ++ a) ++ b) ++ c) ++ d) ++ e) ++ f) ++ g = cc in
    whole ∙ regroup o a b c d e f g
