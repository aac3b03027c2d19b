-- The unexecuted entries after the first of them is executed.
use Rattle.std.proofs.Common.{◌≡◌, ℕ, refl, List, ◌∷◌, Bool, true, false, arith}
use Rattle.std.specs.Prelude.{◌==◌, ◌&&◌}
use Rattle.std.proofs.lemmas.Bool.Decides.{nat_tests}
use Rattle.crsm_base.specs.Order.{stamp_eq}
use Rattle.crsm_replica_epoch.proofs.Recorded.{unexecuted_committed}
use Rattle.crsm_spec.specs.Types.{Stamp, Entry, Rec}
use Rattle.crsm_spec.specs.Log.{unexecuted}
use Rattle.crsm_spec.specs.Draft.{Draft}
use Rattle.crsm_replica.specs.Sound.{IsSound}

both_same : (a b : Bool) → a ≡ true → b ≡ true → (a && b) ≡ true
both_same true b h k = k
both_same false b h k = absurd (cc)

same_number : (a : ℕ) → (a == a) ≡ true
same_number a = grind (arith, nat_tests)

same_stamp : (s : Stamp) → stamp_eq s s ≡ true
unfolding stamp_eq
same_stamp s = both_same (s.time == s.time) (s.origin == s.origin) (same_number s.time) (same_number s.origin)

pub go_on : (x : Draft) (e : Entry) (es : List Entry) → IsSound x → unexecuted x.replica.log ≡ e ∷ es → unexecuted (Rec.Commit e.stamp ∷ x.replica.log) ≡ es
go_on x e es sound h =
    let all = unexecuted_committed x.replica.me x.replica.n x.replica.log e.stamp sound.kept (record { entry = e; rest = es; first = h; stamp = refl }) in
    let behind = rw h at all in
    rw (same_stamp e.stamp) at behind
