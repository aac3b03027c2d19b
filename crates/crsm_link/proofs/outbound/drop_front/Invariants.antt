use Rattle.std.proofs.Common.{◌≡◌, drop}
use Rattle.crsm_link.proofs.outbound.drop_front.Given as goal

abbrev pub invariant-loop-place : goal.invariant-loop-place
invariant-loop-place l = l.frames.items ≡ drop l._place l.initial.frames.items
