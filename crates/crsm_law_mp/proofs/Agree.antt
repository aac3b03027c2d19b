-- No two replicas know different values of a slot.
use Rattle.std.proofs.Common.{◌≡◌, ℕ, List, sym, subst, Some}
use Rattle.crsm_spec.specs.Paxos.{Instance, fresh}
use Rattle.crsm_spec.specs.Following.{IsReached}
use Rattle.crsm_safety.proofs.Paxos.Instances.{Invariant, start, along, agree}
use Rattle.crsm_mpspec.specs.Types.{Value}
use Rattle.crsm_law_mp.specs.Slots.{Seat, Sent, Slots, Holds, Past}

-- what holds of every instance of Paxos
pub invariant : (spec : List ℕ) (s : Instance Value) → IsReached spec s → Invariant Value spec s
invariant spec s r = subst (λ z. Invariant Value spec z) (sym r.is) (along Value spec fresh r.steps r.run (start Value spec))

pub one_value : (spec : List ℕ) (past : Past) (seats : ℕ → Seat) (sent : Sent) (slots : Slots) → Holds spec past seats sent slots →
    (s j k : ℕ) (v w : Value) → (seats j).chosen s ≡ Some v → (seats k).chosen s ≡ Some w → v ≡ w
one_value spec past seats sent slots h s j k v w is_v is_w =
    agree Value spec (slots s) (invariant spec (slots s) (h.reached s)) v w (h.chosen s j v is_v) (h.chosen s k w is_w)
