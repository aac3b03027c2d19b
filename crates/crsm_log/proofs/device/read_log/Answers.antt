use Rattle.std.proofs.Common.{refl, IsTrue, ◌≡◌, ◌<◌, ◌+◌, ℕ, List, [], ◌∷◌, length, ◌∙◌, ap, sym, subst, arith}
use Rattle.std.proofs.lemmas.Result.{err_from_is_err_and}
use Rattle.std.proofs.lemmas.Bool.Decides.{nat_tests}
use Rattle.crsm_port_image.specs.Calls.{synced, wrote}
use Rattle.crsm_log.specs.Log.{Used, mount_calls, mount_count, recorded}
use Rattle.crsm_log.specs.Format.{found}
use Rattle.crsm_log.specs.First.{ReadsFile}
use Rattle.crsm_log.specs.Format.{cluster_among, entries_in, reading_in, size}
use Rattle.crsm_log.proofs.Crash.{items_short}
use Rattle.crsm_log.specs.declared.errors.MountError.TheVariants.{DiskFault, BadGate}
use Rattle.crsm_log.proofs.Mounts.{fetched_on, gone_on, left_on, long_holds, long_mounts, long_opened, short_holds, short_leaves, short_renews, short_settles, three_more, used_five}
use Rattle.crsm_log.proofs.device.read_log.Goals as goal

not_bad : (entry : ℕ) → DiskFault ≡ BadGate entry → ⊥
not_bad entry is = cc

pub returns-in_err-write_and_sync-clause-err : goal.returns-in_err-write_and_sync-clause-err
returns-in_err-write_and_sync-clause-err g c =
    let m0 = g.D.Disk.meaning c.args.disk.now in
    let m1 = g.D.Disk.meaning c.contents.new.disk in
    let m2 = g.D.Disk.meaning c.write_and_sync.new.disk in
    let p = err_from_is_err_and c.from_residual-in_err-write_and_sync.result c.from_residual-in_err-write_and_sync.ensures.1 in
    let fetch = c.in_ok-file.ensures.ok in
    let ran = c.in_err-write_and_sync.ensures.ran in
    let short : IsTrue m0.honest → length m0.seen < 6 = λ honest. let e = ap length (fetch.read honest) in omega (arith, e, c.len.ensures) in
    rw (p.1, p.2) (record {
      goes = record {
        honest = ran.goes.honest ∙ c.contents.ensures.goes.honest;
        fill = ran.goes.fill ∙ c.contents.ensures.goes.fill;
        borrowed_as = ran.goes.borrowed_as ∙ c.contents.ensures.goes.borrowed_as;
        later = omega (arith, ran.goes.later, c.contents.ensures.goes.later);
      };
      any_moment = λ honest.
          let h1 = c.contents.ensures.goes.honest ∙ honest in
          short_leaves m0 m1 m2 (short honest) (fetch.seen honest) (c.contents.ensures.any_moment honest) (c.write_and_sync.ensures.any_moment h1 (fetch.durable honest));
      fault = λ _. omega (arith, ran.fault, c.contents.ensures.goes.later);
      unwritten = λ honest other. absurd (other refl);
      bad_gate = λ honest entry is. absurd (not_bad entry is);
      served = λ entry is p told. absurd (not_bad entry is);
      good = λ honest _ p is.
          let room = fetch.plan p is in
          let count : mount_count m0.seen ≡ 5 = let lt = short honest in grind (arith, nat_tests) in
          let stops = ran.stops in
          let met = stops.good room.0 room.1 (omega (arith, room.4.0, c.requires.calls), omega (arith, room.4.1, c.requires.bytes)) in
          (3 + stops.made, omega (arith, count, stops.short), three_more p.good stops.made room.3 (sym room.2 ∙ met));
    })

short_calls : (file : List ℕ) → length file < 6 → mount_calls file ≡ synced ∷ wrote 0 (0 ∷ []) ∷ synced ∷ []
short_calls file short = grind (arith, nat_tests)

short_count : (file : List ℕ) → length file < 6 → mount_count file ≡ 5
short_count file short = grind (arith, nat_tests)

pub returns-then-len-lt6-clause-ok : goal.returns-then-len-lt6-clause-ok
returns-then-len-lt6-clause-ok g c =
    let m0 = g.D.Disk.meaning c.args.disk.now in
    let m1 = g.D.Disk.meaning c.contents.new.disk in
    let m2 = g.D.Disk.meaning c.write_and_sync.new.disk in
    let fetch = c.in_ok-file.ensures.ok in
    let wrote_gate = c.in_ok-write_and_sync.ensures in
    let ran = wrote_gate.ran in
    let short : IsTrue m0.honest → length m0.seen < 6 = λ honest. let e = ap length (fetch.read honest) in omega (arith, e, c.len.ensures) in
    let h1 : IsTrue m0.honest → IsTrue m1.honest = λ honest. c.contents.ensures.goes.honest ∙ honest in
    let settles = λ (honest : IsTrue m0.honest). short_settles m0 m1 m2 (short honest) (fetch.seen honest) (wrote_gate.written (h1 honest)) (wrote_gate.durable (h1 honest)) ran.history in
    record {
      goes = record {
        honest = ran.goes.honest ∙ c.contents.ensures.goes.honest;
        fill = ran.goes.fill ∙ c.contents.ensures.goes.fill;
        borrowed_as = ran.goes.borrowed_as ∙ c.contents.ensures.goes.borrowed_as;
        later = omega (arith, ran.goes.later, c.contents.ensures.goes.later);
      };
      settled = λ honest. (settles honest).0;
      read = λ honest. ap reading_in (items_short m0.seen (short honest)) ∙ ap found (sym c.new.ensures);
      kept = λ honest. ap reading_in (settles honest).1 ∙ ap found (sym c.new.ensures);
      cluster = λ honest. ap (λ i. cluster_among (entries_in i)) ((settles honest).1 ∙ sym (items_short m0.seen (short honest)));
      gate = λ honest. sym (ap (λ i. size (entries_in i)) (items_short m0.seen (short honest)));
      any_moment = λ honest. short_leaves m0 m1 m2 (short honest) (fetch.seen honest) (c.contents.ensures.any_moment honest) (c.write_and_sync.ensures.any_moment (h1 honest) (fetch.durable honest));
      renewed = λ honest. short_renews m0 m2 (short honest);
      history = λ honest.
          ran.history ∙ ap (recorded (wrote 0 (0 ∷ []) ∷ synced ∷ [])) fetch.history
          ∙ ap (λ calls. recorded calls m0.history) (sym (short_calls m0.seen (short honest)));
      good = λ honest p is.
          let room = fetch.plan p is in
          let U : ℕ → Type 0 = λ n. Used n p m2.plan in
          subst U (sym (short_count m0.seen (short honest)))
          (used_five p room.0 _ m2.plan room.3 room.2 (ran.good room.0 room.1 (omega (arith, room.4.0, c.requires.calls), omega (arith, room.4.1, c.requires.bytes))) (wrote_gate.plan room.0 room.1));
    }

pub returns-then-len-lt6-clause-holds : goal.returns-then-len-lt6-clause-holds
returns-then-len-lt6-clause-holds g c honest =
    let short : length (g.D.Disk.meaning c.args.disk.now).seen < 6 = let e = ap length (c.in_ok-file.ensures.ok.read honest) in omega (arith, e, c.len.ensures) in
    short_holds _ _ _ short refl refl

pub returns-then-len-lt6-clause-room : goal.returns-then-len-lt6-clause-room
returns-then-len-lt6-clause-room g c p is =
    let room = c.in_ok-file.ensures.ok.plan p is in
    (_, c.in_ok-write_and_sync.ensures.plan room.0 room.1, (omega (arith, room.4.0), omega (arith, room.4.1)))

pub renew_last-requires : goal.renew_last-requires
renew_last-requires g c honest =
    let R : List ℕ → Type 0 = λ file. ReadsFile file c.in_ok-held.held in
    long_opened _ _ _ _ c.in_ok-file.file.items c.in_ok-held.held (omega (arith, c.len.ensures, c.if-len-lt6.false)) c.in_ok-file.ensures.ok (subst R c.deref.ensures.value c.in_ok-held.ensures.read) (sym c.contents.ensures.goes.honest ∙ honest)

pub returns-in_err-renew_last-clause-err : goal.returns-in_err-renew_last-clause-err
returns-in_err-renew_last-clause-err g c =
    let p = err_from_is_err_and c.from_residual-in_err-renew_last.result c.from_residual-in_err-renew_last.ensures.1 in
    let renewed = c.in_err-renew_last.ensures in
    rw (p.1, p.2) (record {
      goes = gone_on 0 0 _ _ _ [] renewed.same c.contents.ensures.goes renewed.fill renewed.later;
      any_moment = left_on 0 0 _ _ _ [] renewed.same c.contents.ensures.any_moment;
      fault = λ _. omega (arith, renewed.failed, c.contents.ensures.goes.later);
      unwritten = λ honest other. absurd (other refl);
      bad_gate = λ honest entry is. absurd (not_bad entry is);
      good = λ honest _. absurd (renewed.never (c.contents.ensures.goes.honest ∙ honest));
      served = λ entry is p told. absurd (not_bad entry is);
    })

pub returns-clause-ok : goal.returns-clause-ok
returns-clause-ok g c =
    let R : List ℕ → Type 0 = λ file. ReadsFile file c.in_ok-held.held in
    let renewed = c.in_ok-renew_last.ensures in
    long_mounts _ _ _ _ c.in_ok-file.file.items c.in_ok-held.held (omega (arith, c.len.ensures, c.if-len-lt6.false)) (fetched_on _ _ _ _ _ _ renewed.same c.in_ok-file.ensures.ok renewed.plan) (subst R c.deref.ensures.value c.in_ok-held.ensures.read) (gone_on 0 0 _ _ _ [] renewed.same c.contents.ensures.goes renewed.fill renewed.later) (left_on 0 0 _ _ _ [] renewed.same c.contents.ensures.any_moment) renewed.renewed

pub returns-clause-holds : goal.returns-clause-holds
returns-clause-holds g c honest =
    let R : List ℕ → Type 0 = λ file. ReadsFile file c.in_ok-held.held in
    let renewed = c.in_ok-renew_last.ensures in
    long_holds _ _ _ _ c.in_ok-file.file.items c.in_ok-held.held (omega (arith, c.len.ensures, c.if-len-lt6.false)) (fetched_on _ _ _ _ _ _ renewed.same c.in_ok-file.ensures.ok renewed.plan) (subst R c.deref.ensures.value c.in_ok-held.ensures.read) honest

pub returns-clause-room : goal.returns-clause-room
returns-clause-room g c p is =
    let room = c.in_ok-file.ensures.ok.plan p is in
    (room.0, c.in_ok-renew_last.ensures.plan ∙ room.1, (omega (arith, room.4.0), omega (arith, room.4.1)))
