use Rattle.std.proofs.Common.{◌≡◌, ℕ, List, [], None, arith, refl, sym, subst, ◌∙◌}
use Rattle.std.proofs.lemmas.Grind.{merely}
use Rattle.std.proofs.lemmas.Option.{none-some}
use Rattle.crsm_disk.specs.Memory.{Memory, good_left}
use Rattle.crsm_log.specs.Format.{found, bad, reading}
use Rattle.crsm_log.specs.Words.{disk_of}
use Rattle.crsm_mpledger.specs.Sound.{AreBodies}
use Rattle.crsm_mpworld.specs.Disks.{bytes_of}
use Rattle.crsm_mpworld.proofs.Boots.{core_fresh, log_of_fresh, no_boots}
use Rattle.crsm_mpworld.proofs.Disks.{empty_bodies, on_disk, plan_of, well_after}
use Rattle.crsm_mpworld.proofs.stops.never_booted.Goals as goal

-- there are no bodies
none_are : (bodies : List (List ℕ)) → bodies ≡ [] → AreBodies [] bodies []
none_are bodies e = subst (λ (bs : List (List ℕ)). AreBodies [] bs []) (sym e) refl

pub recover-requires : goal.recover-requires
recover-requires c =
    let none = empty_bodies c.in_ok-disk.disk c.in-Ok.mounted.1 c.in_ok-disk.ensures (c.in-Ok.ensures.ok.read refl) in
    let few = no_boots in record { log = []; are = none_are c.in-Ok.mounted.1 none; sound = tt; few = omega (arith, few) }

pub returns : goal.returns
returns c =
    let mounts = c.in-Ok.ensures.ok in
    let bodies = c.in-Ok.mounted.1 in
    let are = none_are bodies (empty_bodies c.in_ok-disk.disk bodies c.in_ok-disk.ensures (mounts.read refl)) in
    let kept = on_disk (disk_of c.in-Ok.mounted.0) bodies [] (mounts.kept refl) are tt in
    (_, record { unspent = refl; on = core_fresh c.new-2.result c.in-Ok.mounted.0 c.args.me c.args.n [] (c.new-2.ensures [] (c.in_ok-ledger.ensures [] are tt)) kept }, log_of_fresh c.args.me c.args.n [])

pub invariant_of-result-clause-well : goal.invariant_of-result-clause-well
invariant_of-result-clause-well c unspent =
    let p = plan_of c.in_ok-disk.disk in
    well_after _ p (disk_of c.in-Ok.mounted.0) (subst (λ (d : Memory). good_left d ≡ None) (sym c.in_ok-disk.ensures) refl) (c.in-Ok.ensures.ok.good refl p refl)

pub invariant_of-result-clause-stands : goal.invariant_of-result-clause-stands
invariant_of-result-clause-stands c unspent =
    let mounts = c.in-Ok.ensures.ok in
    let bodies = c.in-Ok.mounted.1 in
    let are = none_are bodies (empty_bodies c.in_ok-disk.disk bodies c.in_ok-disk.ensures (mounts.read refl)) in
    let kept = on_disk (disk_of c.in-Ok.mounted.0) bodies [] (mounts.kept refl) are tt in
    merely (record { replica = _; is = core_fresh c.new-2.result c.in-Ok.mounted.0 c.args.me c.args.n [] (c.new-2.ensures [] (c.in_ok-ledger.ensures [] are tt)) kept })

-- ---- what it does not answer

pub unreachable-requires : goal.unreachable-requires
unreachable-requires c =
    let e = c.in-Err-DiskFault-default in
    let meets = e.ensures.err.good refl e.field-0-0-is (plan_of c.in_ok-disk.disk) refl in
    none-some meets.0 (sym (subst (λ (d : Memory). good_left d ≡ None) (sym c.in_ok-disk.ensures) refl) ∙ meets.2)

not_bad : (disk : Memory) (entry : ℕ) → reading (bytes_of disk) ≡ found [] → reading (bytes_of disk) ≡ bad entry → ⊥
not_bad disk entry p q = cc

pub unreachable-requires-in-Err-BadGate-default : goal.unreachable-requires-in-Err-BadGate-default
unreachable-requires-in-Err-BadGate-default c =
    let e = c.in-Err-BadGate-default in
    not_bad c.in_ok-disk.disk e.field-0-0-0 (subst (λ (d : Memory). reading (bytes_of d) ≡ found []) (sym c.in_ok-disk.ensures) refl) (e.ensures.err.bad_gate refl e.field-0-0-0 e.field-0-0-is)
