use Rattle.std.proofs.Common.{ℕ, List, [], ◌∷◌, ◌∙◌, ◌+◌, ◌-◌, ◌≤◌, length, arith, ap, subst, Ok}
use Rattle.std.proofs.lemmas.Result.{err_from_is_err_and}
use Rattle.crsm_port_faults.specs.Plan.{Plan, spent}
use Rattle.crsm_port_image.specs.Calls.{synced, wrote}
use Rattle.crsm_disk.specs.Meaning.{Meaning}
use Rattle.crsm_disk.proofs.Moments.{joined}
use Rattle.crsm_log.specs.Log.{Ran, ServesPut, HasPlace, IsWithOrWithout}
use Rattle.crsm_log.specs.Format.{entries_of}
use Rattle.crsm_log.proofs.Runs.{both_pairs, first_pair_fails, less_four, second_pair_fails}
use Rattle.crsm_log.proofs.Puts.{first_leaves, second_leaves, put_settles, length_overwritten}
use Rattle.crsm_log.proofs.device.write_entry.Goals as goal

-- there is room for the first write and its sync, and then for the second
first_place : (gate n : ℕ) (m : Meaning) (p : Plan) → ServesPut gate (n + 1) m p → HasPlace 2 ((gate + 1 - length m.seen) + n) p
first_place gate n m p s = (omega (arith, s.calls), omega (arith, s.inside, s.written))

second_place : (gate n at_most : ℕ) (m : Meaning) (p : Plan) → gate ≤ at_most → ServesPut gate (n + 1) m p → HasPlace 2 ((gate - at_most) + 1) (spent 1 0 (spent 1 ((gate + 1 - length m.seen) + n) p))
second_place gate n at_most m p le s = (omega (arith, s.calls), omega (arith, s.inside, s.written, le))

pub returns-in_err-write_and_sync-clause-ran : goal.returns-in_err-write_and_sync-clause-ran
returns-in_err-write_and_sync-clause-ran g c e is =
    let m0 = g.D.Disk.meaning c.args.disk.now in
    let m1 = g.D.Disk.meaning c.write_and_sync.new.disk in
    let gate = c.args.gate in
    let p = err_from_is_err_and c.from_residual.result c.from_residual.ensures.1 in
    let P : List ℕ → Type 0 = λ y. Ran (wrote (gate + 1) y ∷ synced ∷ wrote gate (1 ∷ []) ∷ synced ∷ []) (ServesPut gate (length c.args.bytes.now + 1) m0) m0 m1 c.from_residual.result in
    subst P is (rw p.1 (first_pair_fails (wrote (gate + 1) c.args.bytes.now) synced (wrote gate (1 ∷ [])) synced (ServesPut gate (length c.args.bytes.now + 1) m0) m0 _ 0 (λ q s. first_place gate (length c.args.bytes.now) m0 q s) m1 _ c.in_err-write_and_sync.ensures.ran))

pub returns-in_err-write_and_sync-clause-any_moment : goal.returns-in_err-write_and_sync-clause-any_moment
returns-in_err-write_and_sync-clause-any_moment g c e is honest s fits =
    let m0 = g.D.Disk.meaning c.args.disk.now in
    let m1 = g.D.Disk.meaning c.write_and_sync.new.disk in
    first_leaves m0 m1 m1 c.args.gate e c.args.bytes.now is s (c.write_and_sync.ensures.any_moment honest s.durable)

pub returns-in_err-write_and_sync-2-clause-ran : goal.returns-in_err-write_and_sync-2-clause-ran
returns-in_err-write_and_sync-2-clause-ran g c e is =
    let m0 = g.D.Disk.meaning c.args.disk.now in
    let m1 = g.D.Disk.meaning c.write_and_sync.new.disk in
    let m2 = g.D.Disk.meaning c.write_and_sync-2.new.disk in
    let gate = c.args.gate in
    let n = length c.args.bytes.now in
    let first = wrote (gate + 1) c.args.bytes.now in
    let at : (q : Plan) → ServesPut gate (n + 1) m0 q → gate ≤ length m1.seen = λ q s. omega (arith, ap length (c.in_ok-write_and_sync.ensures.written s.honest), length_overwritten m0.seen (gate + 1) c.args.bytes.now) in
    let p = err_from_is_err_and c.from_residual-in_err-write_and_sync-2.result c.from_residual-in_err-write_and_sync-2.ensures.1 in
    let P : List ℕ → Type 0 = λ y. Ran (wrote (gate + 1) y ∷ synced ∷ wrote gate (1 ∷ []) ∷ synced ∷ []) (ServesPut gate (n + 1) m0) m0 m2 c.from_residual-in_err-write_and_sync-2.result in
    subst P is (rw p.1 (second_pair_fails first synced (wrote gate (1 ∷ [])) synced (ServesPut gate (n + 1) m0) m0 _ _ (λ q s. first_place gate n m0 q s) (λ q s. second_place gate n (length m1.seen) m0 q (at q s) s) m1 m2 _ c.in_ok-write_and_sync.ensures.ran c.in_ok-write_and_sync.ensures.plan _ c.in_err-write_and_sync-2.ensures.ran))

pub returns-in_err-write_and_sync-2-clause-any_moment : goal.returns-in_err-write_and_sync-2-clause-any_moment
returns-in_err-write_and_sync-2-clause-any_moment g c e is honest s fits =
    let m0 = g.D.Disk.meaning c.args.disk.now in
    let m1 = g.D.Disk.meaning c.write_and_sync.new.disk in
    let m2 = g.D.Disk.meaning c.write_and_sync-2.new.disk in
    let mid_honest = c.write_and_sync.ensures.ran.goes.honest ∙ honest in
    joined m0 m1 m2 (IsWithOrWithout (entries_of m0.seen) e) (first_leaves m0 m1 m2 c.args.gate e c.args.bytes.now is s (c.write_and_sync.ensures.any_moment honest s.durable))
    (second_leaves m0 m1 m2 c.args.gate e c.args.bytes.now is s fits (c.in_ok-write_and_sync.ensures.written honest) (c.write_and_sync-2.ensures.any_moment mid_honest (c.in_ok-write_and_sync.ensures.durable honest)))

pub returns-clause-ran : goal.returns-clause-ran
returns-clause-ran g c e is =
    let m0 = g.D.Disk.meaning c.args.disk.now in
    let m1 = g.D.Disk.meaning c.write_and_sync.new.disk in
    let m2 = g.D.Disk.meaning c.write_and_sync-2.new.disk in
    let gate = c.args.gate in
    let n = length c.args.bytes.now in
    let first = wrote (gate + 1) c.args.bytes.now in
    let at : (q : Plan) → ServesPut gate (n + 1) m0 q → gate ≤ length m1.seen = λ q s. omega (arith, ap length (c.in_ok-write_and_sync.ensures.written s.honest), length_overwritten m0.seen (gate + 1) c.args.bytes.now) in
    let P : List ℕ → Type 0 = λ y. Ran {T = Unit {0}} (wrote (gate + 1) y ∷ synced ∷ wrote gate (1 ∷ []) ∷ synced ∷ []) (ServesPut gate (n + 1) m0) m0 m2 (Ok tt) in
    subst P is (both_pairs first synced (wrote gate (1 ∷ [])) synced (ServesPut gate (n + 1) m0) m0 _ _ (λ q s. first_place gate n m0 q s) (λ q s. second_place gate n (length m1.seen) m0 q (at q s) s) m1 m2 _ c.in_ok-write_and_sync.ensures.ran c.in_ok-write_and_sync.ensures.plan _ c.in_ok-write_and_sync-2.ensures.ran)

pub returns-clause-settled : goal.returns-clause-settled
returns-clause-settled g c e is honest s fits =
    let m0 = g.D.Disk.meaning c.args.disk.now in
    let m1 = g.D.Disk.meaning c.write_and_sync.new.disk in
    let m2 = g.D.Disk.meaning c.write_and_sync-2.new.disk in
    let mid_honest = c.write_and_sync.ensures.ran.goes.honest ∙ honest in
    put_settles m0 m1 m2 c.args.gate e c.args.bytes.now is s fits (c.in_ok-write_and_sync.ensures.written honest) (c.in_ok-write_and_sync-2.ensures.written mid_honest) (c.in_ok-write_and_sync-2.ensures.durable mid_honest) c.in_ok-write_and_sync-2.ensures.ran.history

pub returns-clause-any_moment : goal.returns-clause-any_moment
returns-clause-any_moment g c e is honest s fits =
    let m0 = g.D.Disk.meaning c.args.disk.now in
    let m1 = g.D.Disk.meaning c.write_and_sync.new.disk in
    let m2 = g.D.Disk.meaning c.write_and_sync-2.new.disk in
    let mid_honest = c.write_and_sync.ensures.ran.goes.honest ∙ honest in
    joined m0 m1 m2 (IsWithOrWithout (entries_of m0.seen) e) (first_leaves m0 m1 m2 c.args.gate e c.args.bytes.now is s (c.write_and_sync.ensures.any_moment honest s.durable))
    (second_leaves m0 m1 m2 c.args.gate e c.args.bytes.now is s fits (c.in_ok-write_and_sync.ensures.written honest) (c.write_and_sync-2.ensures.any_moment mid_honest (c.in_ok-write_and_sync.ensures.durable honest)))

pub returns-clause-left : goal.returns-clause-left
returns-clause-left g c p is = (_, c.in_ok-write_and_sync-2.ensures.plan _ (c.in_ok-write_and_sync.ensures.plan p is), less_four p.good)
