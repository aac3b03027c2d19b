use Rattle.std.proofs.Common.{◌≡◌, ◌++◌, take}
use Rattle.crsm_text_fields.proofs.members.put_replicas.Given as goal

abbrev pub invariant-loop-member : goal.invariant-loop-member
invariant-loop-member l = l.out ≡ l.initial.out ++ take l.member-index l.member-items
