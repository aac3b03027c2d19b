use Rattle.std.proofs.Common.{◌∙◌, ap, map}
use Rattle.std.specs.List.{count_by}
use Rattle.crsm_sim_network.specs.Tally.{is_wanted}
use Rattle.crsm_sim_network.specs.Packets.{class_of_packet, is_of, wanted}
use Rattle.crsm_sim_network.proofs.Classes.{count_classes}
use Rattle.crsm_sim_network.proofs.network.Network.count_of.Goals as goal

pub returns : goal.returns
returns c test these packets bytes h =
    c.count.ensures (map class_of_packet packets) h.tallied ∙ ap (λ ws. count_by (is_wanted ws) (map class_of_packet packets)) c.wanted.ensures
    ∙ count_classes (is_wanted (wanted c.args.receivers.now c.args.is_used)) (is_of c.args.is_used test) packets (these.right c.args.is_used)
