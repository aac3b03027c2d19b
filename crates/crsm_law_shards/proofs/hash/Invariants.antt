use Rattle.std.proofs.Common.{◌≡◌, take}
use Rattle.crsm_law_shards.specs.Hash.{hash_of}
use Rattle.crsm_law_shards.proofs.hash.Given as goal

abbrev pub invariant-loop-byte : goal.invariant-loop-byte
invariant-loop-byte l = l.hash ≡ hash_of (take l.byte-index l.key)
