use Rattle.std.proofs.Common.{List, ℕ, refl, subst, sym, ◌∙◌}
use Rattle.crsm_base.specs.Members.{IsMembers}
use Rattle.crsm_replica_detector.specs.Detector.{AreAlike, times_of}
use Rattle.crsm_replica_detector.proofs.Suspected.{wanted_are_members}
use Rattle.crsm_replica_detector.proofs.timers.Timers.suspicion.Goals as goal

pub members_of-requires : goal.members_of-requires
members_of-requires c =
    let t = times_of c.args.self.now in
    let alike : AreAlike t t = record { newest = refl; heard = λ k h. refl; ticked = refl; suspected = refl } in
    let M : List ℕ → Type 0 = λ ks. IsMembers ks in
    let spec = subst M (sym c.as_slice-spec.ensures.value) c.as_slice-spec.ensures.members in
    let may = sym (c.may_suspect.ensures t alike) ∙ c.if-not-may_suspect.false in
    let are = c.deref-2.ensures.value ∙ c.in_ok-wanted.ensures t alike in
    subst M (sym are) (wanted_are_members c.args.me t c.as_slice-spec.result.now spec may)
