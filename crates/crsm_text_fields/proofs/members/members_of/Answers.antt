use Rattle.std.proofs.Common.{◌≡◌, ℕ, List, ap, subst, ◌∙◌, Err, refl, arith}
use Rattle.crsm_base.specs.Members.{IsMembers}
use Rattle.crsm_base.proofs.MembersLemmas.{members_le}
use Rattle.crsm_base.proofs.MembersTests.{members_test, members_fail}
use Rattle.crsm_text_fields.proofs.members.members_of.Goals as goal

pub returns-then-cells-gt-ROOM : goal.returns-then-cells-gt-ROOM
returns-then-cells-gt-ROOM c =
    let long = c.if-cells-gt-ROOM.true in
    rw (members_fail c.args.cells.now (λ h. let most = members_le c.args.cells.now h in omega arith)) refl

pub returns-in-Ok : goal.returns-in-Ok
returns-in-Ok c =
    let made = c.in-Ok.ensures.value in
    let is : c.in-Ok.members ≡ c.args.cells.now = made.0 ∙ c.widened-numbers.ensures in
    rw (is, members_test c.args.cells.now (subst IsMembers is made.1)) refl

pub returns-in-Err-NotAscending : goal.returns-in-Err-NotAscending
returns-in-Err-NotAscending c =
    let none = c.in-Err-NotAscending.ensures.not_ascending (ap Err c.in-Err-NotAscending.field-0-is) in
    rw (members_fail c.args.cells.now (subst (λ (ks : List ℕ). IsMembers ks → ⊥) c.widened-numbers.ensures none)) refl
