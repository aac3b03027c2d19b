use Rattle.std.proofs.Common.{◌≡◌, ℕ, ◌+◌, ◌<◌, length, refl, sym, ◌∙◌, ap, subst, inr, arith, Bool, true, false}
use Rattle.std.specs.Prelude.{Ok, Err, Result}
use Rattle.std.proofs.lemmas.Bool.Decides.{nat_tests}
use Rattle.std.proofs.Math.Nat.{lt_of_not-le}
use Rattle.crsm_log.specs.Words as logs
use Rattle.crsm_log.specs.declared.errors.PutError.{PutError}
use Rattle.crsm_log.specs.declared.errors.PutError.TheVariants as put
use Rattle.crsm_shell.specs.declared.errors.TurnError.TheVariants as errors
use Rattle.crsm_shell.specs.Errors.{put_failure}
use Rattle.crsm_shell.specs.Flushing.{IsOfPut}
use Rattle.crsm_shell.proofs.Files.{stopped_image}
use Rattle.crsm_shell.proofs.Keeping.{fault_of, full_of, kept_some, kind_of, left_by}
use Rattle.crsm_shell.proofs.keep.keep.Goals as goal

-- what cannot be
both : (b : Bool) → b ≡ true → b ≡ false → ⊥
both b is other = cc

abbrev failing : PutError → Result (Unit {0}) PutError
failing e = Err e

same_err : (a b : PutError) → failing a ≡ failing b → a ≡ b
same_err a b is = cc

no_err : (u : Unit {0}) (e : PutError) → Ok u ≡ Err e → ⊥
no_err u e is = cc

not_full : (end : ℕ) → put.DiskFault ≡ put.Full end → ⊥
not_full end is = cc

pub returns-in-Ok-clause-kept : goal.returns-in-Ok-clause-kept
returns-in-Ok-clause-kept g c =
    let m = g.D.Disk.meaning (logs.disk_of c.args.log.now) in
    let m' = g.D.Disk.meaning (logs.disk_of c.put.new.self) in
    let gate = logs.gate_of c.args.log.now in
    let some : 0 < length c.args.body.now = grind (arith, nat_tests, c.if-is_empty.ensures) in
    kept_some gate m m' c.args.body.now some c.in-Ok.ensures.goes c.in-Ok.ensures.acknowledged c.in-Ok.ensures.calls c.in-Ok.ensures.four
    (λ past. no_err c.in-Ok.field-0 (put.Full (gate + 6 + length c.args.body.now)) ((c.in-Ok.ensures.full (gate + 6 + length c.args.body.now)).1 (c.requires, refl, past.1)))
    (λ honest. c.in-Ok.ensures.any_moment honest c.requires)

pub returns-in-Err-clause-not_kept : goal.returns-in-Err-clause-not_kept
returns-in-Err-clause-not_kept g c =
    let m = g.D.Disk.meaning (logs.disk_of c.args.log.now) in
    let m' = g.D.Disk.meaning (logs.disk_of c.put.new.self) in
    let gate = logs.gate_of c.args.log.now in
    let body = c.args.body.now in
    let why = c.in-Err.why in
    let some : 0 < length c.args.body.now = grind (arith, nat_tests, c.if-is_empty.ensures) in
    let e = c.in-Err.ensures in
    let fails : (w : PutError) → why ≡ w → failing why ≡ failing w = λ w is. ap failing is in
    let fault : c.from.result ≡ errors.DiskFault → why ≡ put.DiskFault = λ is. fault_of why (sym c.from.ensures ∙ is) in
    let end = gate + 6 + length body in
    let small : c.from.result ≡ errors.DiskFault → length body < 2147483648 = λ is.
    lt_of_not-le (λ long. not_full end (sym (fault is) ∙ same_err why (put.Full end) ((e.full end).1 (c.requires, refl, inr long)))) in
    record {
      some = some;
      goes = e.goes;
      kind = subst IsOfPut (sym c.from.ensures) (kind_of why (λ is. both (logs.has_failed c.args.log.now) (e.failed.0 (fails put.Failed is)) c.requires));
      fault = λ is. e.fault (fails put.DiskFault (fault is));
      stops = λ is.
          let s = e.stops (fails put.DiskFault (fault is)) in
          record {
            made = s.made;
            short = s.short;
            history = s.history;
            good = λ p honest told. s.good p told honest;
            image = λ h fill honest told. stopped_image c.stop_keeps.ensures m gate body s.made (c.args.log.now.sound honest c.requires) s.short (small is) h fill (sym s.history ∙ told);
          };
      unwritten = λ other. (e.none refl (λ is. other (c.from.ensures ∙ ap put_failure (same_err why put.DiskFault is)))).0;
      full = λ is.
          let f = full_of why (sym c.from.ensures ∙ is) in
          let t = (e.full f.0).0 (fails (put.Full f.0) f.1) in (some, t.2);
      fits = λ is past.
          not_full (gate + 6 + length body) (sym (fault is) ∙ same_err why (put.Full (gate + 6 + length body)) ((e.full (gate + 6 + length body)).1 (c.requires, refl, past.1)));
      any_moment = left_by gate m m' body some (λ honest. e.any_moment honest c.requires);
    }
