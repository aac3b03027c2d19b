use Rattle.std.proofs.Common.{◌<◌, map, subst, sym, List, Bool, ℕ}
use Rattle.std.specs.List.{count_by}
use Rattle.crsm_sim_network.specs.Nth.{IsNth}
use Rattle.crsm_sim_network.specs.Tally.{is_wanted}
use Rattle.crsm_sim_network.specs.Packets.{class_of_packet, is_of, wanted}
use Rattle.crsm_sim_network.proofs.Classes.{count_classes, nth_class}
use Rattle.crsm_sim_network.proofs.network.Network.nth_of.Goals as goal

pub returns : goal.returns
returns c test these packets bytes h within =
    let classes = map class_of_packet packets in
    let w = is_wanted (wanted c.args.receivers.now c.args.is_used) in
    let same = count_classes w (is_of c.args.is_used test) packets (these.right c.args.is_used) in
    let F : List Bool → Type 0 = λ ws. c.args.j < count_by (is_wanted ws) classes → IsNth (is_wanted ws) classes c.args.j c.nth.result in
    let found = subst F c.wanted.ensures (c.nth.ensures classes h.tallied) (subst (λ (n : ℕ). c.args.j < n) (sym same) within) in
    nth_class w (is_of c.args.is_used test) packets c.args.j c.nth.result (these.right c.args.is_used) found
