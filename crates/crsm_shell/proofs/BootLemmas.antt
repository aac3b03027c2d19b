-- A boot that becomes durable on a mounted log, or does not.
use Rattle.std.proofs.Common.{◌≡◌, IsTrue, ℕ, ◌<◌, List, [], ◌∷◌, ◌++◌, length, refl, sym, ◌∙◌, ap, subst, inl, inr, arith}
use Rattle.std.specs.Prelude.{◌⊎◌, Some}
use Rattle.crsm_base.specs.declared.rec.Rec.{Rec}
use Rattle.crsm_base.specs.Records.{SpeltBody, body_bytes}
use Rattle.crsm_spec.specs.Log.{Log}
use Rattle.crsm_spec.specs.Replica.{fresh}
use Rattle.crsm_spec.specs.Step.{boot}
use Rattle.crsm_spec.specs.World.{body_size}
use Rattle.crsm_core.specs.declared.replica.Core.{Core}
use Rattle.crsm_core.specs.Core.{CoreStands}
use Rattle.crsm_port_faults.specs.Plan.{Plan}
use Rattle.crsm_disk.specs.Meaning.{LeavesOnly, Meaning}
use Rattle.crsm_disk.proofs.Moments.{joined, unchanged, weaker}
use Rattle.crsm_port_image.specs.Calls.{Call}
use Rattle.crsm_ledger.specs.Recovered.{AreKept, IsBadAt}
use Rattle.crsm_log.specs.declared.errors.MountError.{MountError}
use Rattle.crsm_log.specs.declared.errors.MountError.TheVariants as mount
use Rattle.crsm_log.specs.Format.{Reading, bodies_in, bodies_of, found, gate_in, reading, reading_in}
use Rattle.crsm_log.specs.Log.{IsAsBefore, MeetsIn, Mounts, Refuses, Serves, Used, mount_count, put_calls, recorded}
use Rattle.crsm_replica_epoch.specs.EpochState.{EachFits}
use Rattle.crsm_replica_io.specs.Outgoing.{packets_for}
use Rattle.crsm_shell.specs.declared.begin.Begun.{Begun}
use Rattle.crsm_shell.specs.declared.boot.Booted.{Booted}
use Rattle.crsm_shell.specs.declared.errors.BootError.{BootError}
use Rattle.crsm_shell.specs.declared.errors.BootError.TheVariants as boots
use Rattle.crsm_shell.specs.declared.errors.TurnError.{TurnError}
use Rattle.crsm_shell.specs.declared.errors.TurnError.TheVariants as errors
use Rattle.crsm_shell.specs.Beginning.{BeginsOn, IsRefusal}
use Rattle.crsm_shell.specs.Booting.{AddsBoot, Boots, BootsOn, FailsToKeep, IsBooted, IsBootedOrBefore, IsLeftByBoot, IsOfLog, ReadsAsBefore, RefusesBoot, boot_body, refusal_count}
use Rattle.crsm_shell.specs.Errors.{keep_failure, mount_failure}
use Rattle.crsm_shell.specs.Flushing.{Adds, IsFull, IsLeft, IsPast, KeptWell, keep_calls, keep_count}
use Rattle.crsm_shell.specs.Shell.{HasLog, ShellStands, records_of, sends_of}
use Rattle.crsm_shell.proofs.Boots.{boot_grown, boot_some, goes_behind, meets_behind, rose_behind, used_more}
use Rattle.crsm_shell.proofs.Cores.{core_fits}
use Rattle.crsm_shell.proofs.Files.{IsGroup, added, has_log, kept_after}
use Rattle.crsm_shell.proofs.Records.{fits_in_turn, kept_once}

some_calls : (gate : ℕ) (body : List ℕ) → 0 < length body → keep_calls gate body ≡ put_calls gate body
some_calls gate [] some = absurd (omega (arith, some))
some_calls gate (b ∷ body) some = refl

some_count : (body : List ℕ) → 0 < length body → keep_count body ≡ 4
some_count [] some = absurd (omega (arith, some))
some_count (b ∷ body) some = refl

disk_fault : (why : TurnError) → keep_failure why ≡ boots.DiskFault → why ≡ errors.DiskFault
disk_fault errors.DiskFault is = refl
disk_fault errors.LogFull is = absurd (cc)
disk_fault errors.PortFault is = absurd (cc)
disk_fault errors.Failed is = absurd (cc)
disk_fault errors.NoMemory is = absurd (cc)

log_full : (why : TurnError) → keep_failure why ≡ boots.LogFull → why ≡ errors.LogFull
log_full errors.DiskFault is = absurd (cc)
log_full errors.LogFull is = refl
log_full errors.PortFault is = absurd (cc)
log_full errors.Failed is = absurd (cc)
log_full errors.NoMemory is = absurd (cc)

fault_or_not : (why : TurnError) → (why ≡ errors.DiskFault) ⊎ (why ≡ errors.DiskFault → ⊥)
fault_or_not errors.DiskFault = inl refl
fault_or_not errors.LogFull = inr (λ is. absurd (cc))
fault_or_not errors.PortFault = inr (λ is. absurd (cc))
fault_or_not errors.Failed = inr (λ is. absurd (cc))
fault_or_not errors.NoMemory = inr (λ is. absurd (cc))

no_bad_log : (why : TurnError) (entry kind : ℕ) → keep_failure why ≡ boots.BadLog entry kind → ⊥
no_bad_log errors.DiskFault entry kind is = cc
no_bad_log errors.LogFull entry kind is = cc
no_bad_log errors.PortFault entry kind is = cc
no_bad_log errors.Failed entry kind is = cc
no_bad_log errors.NoMemory entry kind is = cc

-- the fault of a put is met in four calls
pub failed_meets : (gate : ℕ) (body : List ℕ) (old new : Meaning) (why : BootError) → FailsToKeep gate body old new why → IsTrue old.honest → why ≡ boots.DiskFault → MeetsIn 4 old.plan
failed_meets gate body old new why f honest is p told =
    let stops = f.not_kept.stops (disk_fault f.turn (sym f.is ∙ is)) in
    (stops.made, stops.short, stops.good p honest told)

-- the calls of a mount that went well
mounted_served : (me n : ℕ) (old mid : Meaning) (gate : ℕ) (bodies : List (List ℕ)) → Mounts old mid gate bodies → IsTrue old.honest →
    (p : Plan) → old.plan ≡ Some p → Serves (refusal_count (reading old.seen) old.seen) p.good
mounted_served me n old mid gate bodies mounts honest p told =
    subst (λ (r : Reading). Serves (refusal_count r old.seen) p.good) (sym (mounts.read honest)) (mounts.good honest p told).served

-- a body that is not empty is added behind the others
adds_some : (body : List ℕ) (before after : List ℕ) → 0 < length body → Adds body before after → reading after ≡ found (bodies_of before ++ body ∷ [])
adds_some [] before after some adds = absurd (omega (arith, some))
adds_some (b ∷ body) before after some adds = adds

-- a file with the entries of another reads as that one
as_read : (old : Meaning) (file : List ℕ) → IsAsBefore old file → ReadsAsBefore old file
as_read old file = elim [ inl may ↦ inl may | inr same ↦ inr (ap reading_in same) ]

module _ (me n : ℕ) (log : Log) (begun : Begun) (begins : BeginsOn begun me n log) where
  begun_some : 0 < length begun.body
  begun_some = subst (λ (b : List ℕ). 0 < length b) (sym begins.body) (boot_some me n log)

  mine : (boot me n log).replica.me ≡ me
  unfolding fresh
  mine = (boot_grown me n log).me

  count : (boot me n log).replica.n ≡ n
  unfolding fresh
  count = (boot_grown me n log).n

  boot_group : IsGroup me n log (boot me n log).batch (boot me n log).replica.log
  unfolding fresh
  boot_group =
      let r = (boot me n log).replica in
      let grown = (boot_grown me n log).log in
      let fits = subst (λ (k : ℕ). EachFits k n r.log) mine (subst (λ (k : ℕ). EachFits r.me k r.log) count (core_fits begun.core.value r begins.core)) in
      record { spelt = begins.spelt; fit = (fits_in_turn me n log (boot me n log).batch (subst (EachFits me n) grown fits)).0; log = grown }

  -- ---- it is kept on a log that is mounted

  module _ {D : Type 0} {g : _} (b : Booted D g) (mid new : Meaning) (gate : ℕ) (bodies : List (List ℕ)) (there : IsTrue mid.honest → HasLog me n mid.seen log) (booted : IsBooted b begun bodies) (well : KeptWell gate begun.body mid new) where
    file : IsTrue new.honest → HasLog me n new.seen (boot me n log).replica.log
    file honest =
        let at_mid : IsTrue mid.honest = sym well.goes.honest ∙ honest in
        added me n mid.seen log (boot me n log).batch (boot me n log).replica.log (there at_mid) boot_group new.seen (subst (λ (bs : List ℕ). Adds bs mid.seen new.seen) begins.body (well.added at_mid))

    pub boots_kept : Boots b new me n log
    unfolding ShellStands records_of sends_of packets_for body_bytes body_size
    boots_kept = record {
      stands = record {
        core = subst (λ (c : Core). CoreStands c (boot me n log).replica) (sym booted.core) begins.core;
        well = booted.failed;
        body = booted.body;
        spelt = tt;
        outbox = booted.outbox;
        pending = booted.pending;
        log = refl;
        file = λ honest. subst (λ (k : ℕ). HasLog k (boot me n log).replica.n new.seen (boot me n log).replica.log) (sym mine)
            (subst (λ (k : ℕ). HasLog me k new.seen (boot me n log).replica.log) (sym count) (file honest));
      };
      lines = booted.lines ∙ begins.lines;
      size = booted.size ∙ ap length begins.body;
    }

    -- four calls of the disk keep it
    pub kept_used : IsTrue mid.honest → (p : Plan) → mid.plan ≡ Some p → Used 4 p new.plan
    kept_used honest p told = subst (λ (k : ℕ). Used k p new.plan) (some_count begun.body begun_some) (well.plan p honest told)

module _ (one : (a b : List Rec) (s : List ℕ) → SpeltBody a s → SpeltBody b s → a ≡ b) (me n : ℕ) (old mid : Meaning) (gate : ℕ) (bodies : List (List ℕ)) (log : Log) (begun : Begun)
    (mounts : Mounts old mid gate bodies) (are_kept : AreKept me n [] bodies log) (begins : BeginsOn begun me n log) where
  abbrev records : List Rec
  records = (boot me n log).batch

  body_some : 0 < length begun.body
  body_some = begun_some me n log begun begins

  group : IsGroup me n log records (boot me n log).replica.log
  group = boot_group me n log begun begins

  -- what was found
  found_bodies : IsTrue old.honest → bodies_of old.seen ≡ bodies
  found_bodies honest = ap bodies_in (mounts.read honest)

  same_bodies : IsTrue old.honest → bodies_of mid.seen ≡ bodies_of old.seen
  same_bodies honest = ap bodies_in (mounts.kept honest) ∙ sym (found_bodies honest)

  same_reading : IsTrue old.honest → reading mid.seen ≡ reading old.seen
  same_reading honest = mounts.kept honest ∙ sym (mounts.read honest)

  gate_is : IsTrue old.honest → gate ≡ gate_in old.seen
  gate_is honest = mounts.gate honest

  there : IsTrue old.honest → HasLog me n mid.seen log
  there honest = has_log me n mid.seen bodies log (mounts.kept honest) are_kept

  pub one_log : (other : Log) → AreKept me n [] bodies other → log ≡ other
  one_log other k = kept_once one me n [] bodies log other are_kept k

  pub same_log : IsTrue old.honest → (other : Log) → HasLog me n old.seen other → log ≡ other
  unfolding HasLog
  same_log honest other has = one_log other (subst (λ (bs : List (List ℕ)). AreKept me n [] bs other) (found_bodies honest) has.kept)

  honest_mid : IsTrue old.honest → IsTrue mid.honest
  honest_mid honest = mounts.goes.honest ∙ honest

  there_before : IsTrue old.honest → HasLog me n old.seen log
  there_before honest = has_log me n old.seen bodies log (mounts.read honest) are_kept

  served_all : IsTrue old.honest → (p : Plan) → old.plan ≡ Some p → Serves (refusal_count (reading old.seen) old.seen) p.good
  served_all honest p told = mounted_served me n old mid gate bodies mounts honest p told

  -- the boot fits behind the file that was found
  room : IsTrue old.honest → (IsPast gate begun.body → ⊥) → IsFull old.seen (boot_body me n log) → ⊥
  room honest fits full = fits (subst (IsPast gate) (sym begins.body) (subst (λ (k : ℕ). IsPast k (boot_body me n log)) (sym (gate_is honest)) full))

  -- ---- it is kept

  module _ {D : Type 0} {g : _} (b : Booted D g) (new : Meaning) (booted : IsBooted b begun bodies) (well : KeptWell gate begun.body mid new) where
    pub boots_shell : Boots b new me n log
    boots_shell = boots_kept me n log begun begins b mid new gate bodies (λ honest. there (sym mounts.goes.honest ∙ honest)) booted well

    pub boots_on : IsTrue old.honest → BootsOn me n log old new
    boots_on honest = record {
      history = well.history ∙ ap (λ (calls : List Call). recorded calls mid.history) (some_calls gate begun.body body_some)
          ∙ ap (λ (k : ℕ). recorded (put_calls k begun.body) mid.history) (gate_is honest)
          ∙ ap (λ (bs : List ℕ). recorded (put_calls (gate_in old.seen) bs) mid.history) begins.body
          ∙ ap (recorded (put_calls (gate_in old.seen) (boot_body me n log))) (mounts.history honest);
      plan = λ p told.
          let used = mounts.good honest p told in
          let more = well.plan used.left.0 (honest_mid honest) used.left.1 in
          used_more (mount_count old.seen) 4 p used.left.0 new.plan used.served used.left.2 (subst (λ (k : ℕ). Used k used.left.0 new.plan) (some_count begun.body body_some) more);
      fits = room honest well.fits;
    }

    pub boot_added : IsTrue old.honest → AddsBoot me n b old new
    boot_added honest other kept =
        let same = one_log other (subst (λ (bs : List (List ℕ)). AreKept me n [] bs other) booted.found kept) in (
          subst (λ (l : Log). IsFull old.seen (boot_body me n l) → ⊥) same (room honest well.fits),
          adds_some begun.body mid.seen new.seen body_some (well.added (honest_mid honest))
              ∙ ap (λ (bs : List (List ℕ)). found (bs ++ begun.body ∷ [])) (same_bodies honest ∙ found_bodies honest ∙ sym booted.found)
              ∙ ap (λ (body : List ℕ). found (b.bodies ++ body ∷ [])) (begins.body ∙ ap (boot_body me n) same),
        )

  -- ---- a crash at any moment

  left_by_mount : IsTrue old.honest → LeavesOnly old mid (IsLeftByBoot me n old)
  left_by_mount honest = weaker old mid (IsAsBefore old) (IsLeftByBoot me n old) (mounts.any_moment honest) (λ c h. inl (as_read old c h))

  pub left_by_boot : (new : Meaning) → IsTrue old.honest → (IsPast gate begun.body → ⊥) → LeavesOnly mid new (IsLeft (bodies_of mid.seen) begun.body) → LeavesOnly old new (IsLeftByBoot me n old)
  left_by_boot new honest fits left =
      let P = IsLeftByBoot me n old in
      joined old mid new P (left_by_mount honest)
      (weaker mid new (IsLeft (bodies_of mid.seen) begun.body) P left (λ c. elim [
        | inl is ↦ inl (inr (is ∙ sym (mounts.settled honest).whole ∙ same_reading honest))
        | inr is ↦ inr (
          log,
          there_before honest,
          room honest fits,
          is.1 ∙ ap (λ (bs : List (List ℕ)). found (bs ++ begun.body ∷ [])) (same_bodies honest)
              ∙ ap (λ (body : List ℕ). found (bodies_of old.seen ++ body ∷ [])) begins.body,
        )
      ]))

  -- where it is not kept, and only a fault of the disk leaves it there
  pub left_by_refused : (new : Meaning) (why : BootError) → IsTrue old.honest → FailsToKeep gate begun.body mid new why → LeavesOnly old new (IsLeftByBoot me n old)
  left_by_refused new why honest f = elim (fault_or_not f.turn) [
    | inl is ↦ left_by_boot new honest (f.not_kept.fits is) (f.not_kept.any_moment (honest_mid honest))
    | inr other ↦ unchanged old mid new (IsLeftByBoot me n old) (left_by_mount honest) (f.not_kept.unwritten other)
  ]

  pub any_moment : (new : Meaning) → IsTrue old.honest → LeavesOnly mid new (IsLeft (bodies_of mid.seen) begun.body) → LeavesOnly old new (IsBootedOrBefore me n log old)
  any_moment new honest left =
      let P = IsBootedOrBefore me n log old in
      joined old mid new P (weaker old mid (IsAsBefore old) P (mounts.any_moment honest) (λ c h. inl (as_read old c h)))
      (weaker mid new (IsLeft (bodies_of mid.seen) begun.body) P left (λ c. elim [
        | inl is ↦ inl (inr (is ∙ sym (mounts.settled honest).whole ∙ same_reading honest))
        | inr is ↦ inr (kept_after me n mid.seen log records (boot me n log).replica.log (there honest) group c
            (boot_some me n log) (is.1 ∙ ap (λ (bs : List ℕ). found (bodies_of mid.seen ++ bs ∷ [])) begins.body))
      ]))

  -- ---- it is not kept

  pub refuses : (new : Meaning) (why : BootError) → FailsToKeep gate begun.body mid new why → RefusesBoot me n old new why
  refuses new why f =
      let k = f.not_kept in record {
        goes = goes_behind old mid new mounts.goes k.goes;
        fault = λ is. rose_behind old.faults mid.faults new.faults mounts.goes.later (k.fault (disk_fault f.turn (sym f.is ∙ is)));
        meets = λ honest is p told.
            let stops = k.stops (disk_fault f.turn (sym f.is ∙ is)) in
            let used = mounts.good honest p told in
            meets_behind (mount_count old.seen) stops.made p used.left.0 old.plan stops.short told used.served used.left.2 (stops.good used.left.0 (honest_mid honest) used.left.1) p told;
        bad_log = λ honest entry kind is. absurd (no_bad_log f.turn entry kind (sym f.is ∙ is));
        full = λ honest is.
            let past = k.full (log_full f.turn (sym f.is ∙ is)) in
            (log, there_before honest, subst (IsPast (gate_in old.seen)) begins.body (subst (λ (e : ℕ). IsPast e begun.body) (gate_is honest) past));
        served = λ honest of_log p told. served_all honest p told;
        stays = λ honest other. ap reading (k.unwritten (λ is. other (f.is ∙ ap keep_failure is))).seen ∙ same_reading honest;
      }

-- ---- it is not begun

-- a refused body is no full log
module _ (me n : ℕ) (old mid : Meaning) (gate : ℕ) (bodies : List (List ℕ)) (mounts : Mounts old mid gate bodies) where
  at_bodies : IsTrue old.honest → bodies ≡ bodies_of old.seen
  at_bodies honest = sym (ap bodies_in (mounts.read honest))

  found_again : IsTrue old.honest → reading old.seen ≡ found (bodies_of old.seen)
  found_again honest = mounts.read honest ∙ ap found (at_bodies honest)

  pub not_begun : (why : BootError) → IsRefusal me n bodies why → RefusesBoot me n old mid why
  not_begun why refusal = record {
    goes = mounts.goes;
    fault = λ is. absurd (subst (IsRefusal me n bodies) is refusal);
    meets = λ honest is. absurd (subst (IsRefusal me n bodies) is refusal);
    bad_log = λ honest entry kind is.
        inr (found_again honest, subst (λ (bs : List (List ℕ)). IsBadAt me n bs entry kind) (at_bodies honest) (subst (IsRefusal me n bodies) is refusal));
    full = λ honest is. absurd (subst (IsRefusal me n bodies) is refusal);
    served = λ honest of_log p told. mounted_served me n old mid gate bodies mounts honest p told;
    stays = λ honest other. mounts.kept honest ∙ sym (mounts.read honest);
  }

-- ---- it is not mounted

bad_gate_of : (why : MountError) (entry kind : ℕ) → mount_failure why ≡ boots.BadLog entry kind → (why ≡ mount.BadGate entry) × (kind ≡ 10)
bad_gate_of mount.DiskFault entry kind is = absurd (cc)
bad_gate_of (mount.BadGate e) entry kind is = (cc, cc)
bad_gate_of mount.NoMemory entry kind is = absurd (cc)

mount_fault_of : (why : MountError) → mount_failure why ≡ boots.DiskFault → why ≡ mount.DiskFault
mount_fault_of mount.DiskFault is = refl
mount_fault_of (mount.BadGate e) is = absurd (cc)
mount_fault_of mount.NoMemory is = absurd (cc)

never_full : (why : MountError) → mount_failure why ≡ boots.LogFull → ⊥
never_full mount.DiskFault is = cc
never_full (mount.BadGate e) is = cc
never_full mount.NoMemory is = cc

of_gate : (why : MountError) → IsOfLog (mount_failure why) → (entry : ℕ) × (why ≡ mount.BadGate entry)
of_gate mount.DiskFault h = absurd h
of_gate (mount.BadGate entry) h = (entry, refl)
of_gate mount.NoMemory h = absurd h

pub not_mounted : (me n : ℕ) (old new : Meaning) (why : MountError) → Refuses old new why → RefusesBoot me n old new (mount_failure why)
not_mounted me n old new why refuses = record {
  goes = refuses.goes;
  fault = λ is. refuses.fault (mount_fault_of why is);
  meets = λ honest is p told. let k = refuses.good honest (mount_fault_of why is) p told in let less = k.1 in (k.0, omega (arith, less), k.2);
  bad_log = λ honest entry kind is. let b = bad_gate_of why entry kind is in inl (b.1, refuses.bad_gate honest entry b.0);
  full = λ honest is. absurd (never_full why is);
  served = λ honest of_log p told.
      let b = of_gate why of_log in
      subst (λ (r : Reading). Serves (refusal_count r old.seen) p.good) (sym (refuses.bad_gate honest b.0 b.1)) (refuses.served b.0 b.1 p told);
  stays = λ honest other. ap reading (refuses.unwritten honest (λ is. other (ap mount_failure is)));
}
