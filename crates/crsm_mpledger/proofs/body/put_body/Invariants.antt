use Rattle.std.proofs.Common.{◌≡◌, ◌++◌, take}
use Rattle.std.specs.List.{flat_map}
use Rattle.crsm_mpspec.specs.Records.{rec_bytes}
use Rattle.crsm_mpledger.proofs.body.put_body.Given as goal

abbrev pub invariant-loop-rec : goal.invariant-loop-rec
invariant-loop-rec l = l.out ≡ l.initial.out ++ flat_map rec_bytes (take l.rec-index l.records)
