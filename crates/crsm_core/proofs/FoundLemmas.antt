-- Logs in bodies.
use Rattle.std.proofs.Common.{ℕ, List, [], ◌∷◌, sym, subst}
use Rattle.std.specs.List.{AllByRecursion}
use Rattle.crsm_base.specs.Records.{FitsRec}
use Rattle.crsm_spec.specs.Types.{Rec}
use Rattle.crsm_spec.specs.Log.{Log}
use Rattle.crsm_ledger.specs.Recovered.{AreKept, FitInTurn, with_records}
use Rattle.crsm_replica_epoch.specs.EpochState.{EachFits}

fit_behind : (me n : ℕ) (log : Log) (recs : List Rec) → EachFits me n log → FitInTurn me n log recs → EachFits me n (with_records log recs)
fit_behind me n log [] e f = e
fit_behind me n log (rec ∷ recs) e f = fit_behind me n (rec ∷ log) recs (f.0, e) f.1

spelt_behind : (log : Log) (recs : List Rec) → AllByRecursion FitsRec log → AllByRecursion FitsRec recs → AllByRecursion FitsRec (with_records log recs)
spelt_behind log [] a b = a
spelt_behind log (rec ∷ recs) a b = spelt_behind (rec ∷ log) recs (b.0, a) b.1

pub found_fit : (me n : ℕ) (log end : Log) (bodies : List (List ℕ)) → AreKept me n log bodies end → EachFits me n log → EachFits me n end
found_fit me n log end [] k e = subst (EachFits me n) (sym k) e
found_fit me n log end (body ∷ bodies) k e = found_fit me n (with_records log k.0) end bodies k.3 (fit_behind me n log k.0 e k.2)

pub found_spelt : (me n : ℕ) (log end : Log) (bodies : List (List ℕ)) → AreKept me n log bodies end → AllByRecursion FitsRec log → AllByRecursion FitsRec end
found_spelt me n log end [] k e = subst (AllByRecursion FitsRec) (sym k) e
found_spelt me n log end (body ∷ bodies) k e = found_spelt me n (with_records log k.0) end bodies k.3 (spelt_behind log k.0 e k.1.fits.fit)
