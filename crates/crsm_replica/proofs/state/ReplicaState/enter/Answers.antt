use Rattle.std.proofs.Common.{◌≡◌, ◌<◌, ℕ, [], subst, rules, true, false}
use Rattle.crsm_replica.specs.Replica.{ReplicaStands}
use Rattle.crsm_replica_output.specs.Made.{made_of}
use Rattle.crsm_spec.specs.Types.{Rec}
use Rattle.crsm_spec.specs.Fits.{fits}
use Rattle.crsm_spec.specs.Draft.{keep}
use Rattle.crsm_spec.specs.Log.{known, decision}
use Rattle.crsm_replica.specs.Recorded.{InBoth}
use Rattle.crsm_spec.specs.Coordinate.{enter, forget_epoch}
use Rattle.crsm_replica.proofs.Rebuilt.{moved, recorded, unrecorded, it_fits, it_does_not, chosen, kept_old}
use Rattle.crsm_replica.proofs.state.ReplicaState.enter.Goals as goal

pub returns-then-not-fit : goal.returns-then-not-fit
unfolding ReplicaStands keep enter forget_epoch
returns-then-not-fit c x s =
    let r = x.replica in
    let epoch : c.known-epoch.result ≡ known r.log = c.known-epoch.ensures x s in
    let n = it_does_not c.in_ok-fit.fit r.me r.n r.log (Rec.Enter c.known-epoch.result) (made_of x) c.put.new.ledger c.put.new.output (search rules) (c.in_ok-fit.ensures.kept x.replica.me x.replica.n x.replica.log (made_of x) s.ledger s.output) in
    let not : fits r.me r.n r.log (Rec.Enter (known r.log)) ≡ false = subst (λ (e : ℕ). fits r.me r.n r.log (Rec.Enter e) ≡ false) epoch n.0 in
    moved ((kept_old _ x (keep (Rec.Enter (known r.log)) (forget_epoch x)) not))
    (unrecorded c.args.self.now x c.put.new.ledger c.put.new.output s n.1 n.2)

pub returns : goal.returns
unfolding ReplicaStands keep enter forget_epoch decision
returns c x s =
    let r = x.replica in
    let epoch : c.known-epoch.result ≡ known r.log = c.known-epoch.ensures x s in
    let rec : Rec = Rec.Enter (known r.log) in
    let f0 = it_fits c.in_ok-fit.fit r.me r.n r.log (Rec.Enter c.known-epoch.result) (made_of x) c.put.new.ledger c.put.new.output (search rules) (c.in_ok-fit.ensures.kept x.replica.me x.replica.n x.replica.log (made_of x) s.ledger s.output) in
    let f : (fits r.me r.n r.log rec ≡ true) × InBoth r.me r.n r.log rec (made_of x) c.put.new.ledger c.put.new.output =
    subst (λ (e : ℕ). (fits r.me r.n r.log (Rec.Enter e) ≡ true) × InBoth r.me r.n r.log (Rec.Enter e) (made_of x) c.put.new.ledger c.put.new.output) epoch f0 in
    let small : known r.log < 18446744073709551616 = subst (λ (e : ℕ). e < 18446744073709551616) epoch c.known-epoch.type_inv in
    moved ((chosen _ x (keep rec (forget_epoch x)) f.0))
    (recorded c.args.self.now x rec c.put.new.ledger c.put.new.output c.forget.new.epoch_state c.args.self.now.coordinator r.coordinator [] [] [] [] [] [] []
    s f.0 small f.1 (c.forget.ensures.entered r s.sound.kept f.0) s.coordinator tt tt)
