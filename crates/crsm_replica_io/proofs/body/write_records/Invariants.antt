use Rattle.std.proofs.Common.{◌≡◌, ◌++◌, take}
use Rattle.std.specs.List.{flat_map}
use Rattle.crsm_base.specs.Records.{rec_bytes}
use Rattle.crsm_replica_io.proofs.body.write_records.Given as goal

abbrev pub invariant-loop-rec : goal.invariant-loop-rec
invariant-loop-rec l = l.body ≡ l.initial.body ++ flat_map rec_bytes (take l.rec-index l.records)
