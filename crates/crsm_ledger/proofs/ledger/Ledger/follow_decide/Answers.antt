use Rattle.std.proofs.Common.{◌≡◌, ℕ, ◌+◌, refl, ap, length}
use Rattle.crsm_spec.specs.Log.{known, executed, logged}
use Rattle.crsm_spec.specs.Log.{no_ballot}
use Rattle.crsm_ledger.proofs.KeepLemmas.{decides, all_earlier}
use Rattle.crsm_ledger.proofs.ReadLemmas.{holds}
use Rattle.crsm_ledger.proofs.ledger.Ledger.follow_decide.Goals as goal

pub returns-clause-kept : goal.returns-clause-kept
unfolding no_ballot
returns-clause-kept c = λ me n log s fit.
    let d = c.args.decision in
    let count : length c.as_slice.result.now ≡ length d.tail = ap length c.as_slice.ensures in
    decides s d d (d.base_len + length c.as_slice.result.now) c.begin_epoch.new.self
    fit refl (ap (λ (k : ℕ). d.base_len + k) count)
    (c.begin_epoch.ensures (known log) (executed log) (logged log) (holds s) (all_earlier s d fit))

pub returns-clause-anew : goal.returns-clause-anew
unfolding no_ballot
returns-clause-anew c = λ a me n log s fit.
    let d = c.args.decision in
    let count : length c.as_slice.result.now ≡ length d.tail = ap length c.as_slice.ensures in
    decides s d d (d.base_len + length c.as_slice.result.now) c.begin_epoch.new.self
    fit refl (ap (λ (k : ℕ). d.base_len + k) count)
    (c.begin_epoch.ensures (known log) (executed log) (logged log) (holds s) (all_earlier s d fit))
