use Rattle.std.proofs.Common.{refl, true, ap, arith, ◌++◌, [], List, ℕ}
use Rattle.crsm_mpworld.specs.Packets.{is_up_among}
use Rattle.crsm_mpworld.proofs.Numbers.{has_none}
use Rattle.crsm_mpworld.proofs.network.MpNetwork.new.Goals as goal

pub returns : goal.returns
returns c = record {
  held = ap (λ s. s.packets) c.new.ensures;
  fit = tt;
  fresh = has_none (λ k. true) _ (ap (λ (is : List ℕ). is ++ []) c.new-2.ensures.items);
  near = has_none (is_up_among _) _ (ap (λ (is : List ℕ). is ++ []) c.new-4.ensures.items);
  fresh_end = omega arith;
  near_end = omega arith;
  counted = refl;
}
