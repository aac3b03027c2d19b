use Rattle.std.proofs.Common.{sym, ap}
use Rattle.std.specs.BTreeMap.{is_at}
use Rattle.std.specs.Map.{lookup}
use Rattle.std.specs.Ordering.{nat_cmp}
use Rattle.crsm_mpspec.specs.Log.{by_slot}
use Rattle.crsm_mpspec.specs.Electing.{held_at}
use Rattle.crsm_mpcore.specs.Findings.{by_slots}
use Rattle.crsm_mpcore.proofs.FoundLemmas.{next-none}
use Rattle.crsm_mpcore.proofs.findings.Findings.new.Goals as goal

pub returns : goal.returns
unfolding by_slots by_slot held_at
returns c = record {
  next = sym (next-none c.args.start);
  chosen = c.new.ensures.empty;
  best = λ slot. ap (lookup (is_at (nat_cmp slot))) c.new-2.ensures.empty;
}
