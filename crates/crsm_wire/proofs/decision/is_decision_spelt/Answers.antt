use Rattle.std.proofs.Common.{arith, ap, length, rules}
use Rattle.crsm_wire.proofs.Sums.{all_before}
use Rattle.crsm_wire.proofs.decision.is_decision_spelt.Goals as goal

pub returns : goal.returns
returns c =
    λ h. let l = ap length c.as_slice.ensures in
    record {
      spec = c.is_set_spelt.ensures (cc);
      epoch = omega arith;
      first = omega arith;
      members = c.are_members.ensures (cc);
      base_len = omega arith;
      tail = c.are_entries_spelt.ensures (cc);
      before = all_before c.args.decision.now.epoch c.args.decision.now.tail (cc);
      end = omega (arith, l);
    }
