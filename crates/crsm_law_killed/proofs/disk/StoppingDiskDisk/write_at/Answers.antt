use Rattle.std.proofs.Common.{arith, ◌+◌, ◌-◌, length}
use Rattle.crsm_port_image.specs.Calls.{wrote}
use Rattle.crsm_law_killed.specs.Calls.{changes}
use Rattle.crsm_law_killed.proofs.Handed.{one_more, refuse}
use Rattle.crsm_law_killed.proofs.disk.StoppingDiskDisk.write_at.Goals as goal

pub invariant_of-self : goal.invariant_of-self
invariant_of-self g c = record { handed = refuse c.args.self.now.handed c.in_err-hand_on.ensures.none c.hand_on.ensures.counts }

pub invariant_of-self-2 : goal.invariant_of-self-2
invariant_of-self-2 g c = record {
  handed = let same = c.in_ok-hand_on.ensures.same in
      one_more c.args.self.now.handed c.in_ok-hand_on.ensures.some c.hand_on.ensures.counts (omega arith)
      (changes (wrote c.args.at c.args.bytes.now) ((c.args.at - length (g.D.Disk.meaning c.args.self.now.inner).seen) + length c.args.bytes.now) c.write_at.result
      (record { done = c.write_at.ensures.written; crash = c.write_at.ensures.crash; told = c.write_at.ensures.told; answer = c.write_at.ensures.answer }));
}
