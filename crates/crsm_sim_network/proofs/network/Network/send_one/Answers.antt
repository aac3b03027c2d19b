use Rattle.std.proofs.Common.{◌∙◌}
use Rattle.crsm_sim_network.proofs.PacketViews.{one_sent, one_told, none_sent, none_told}
use Rattle.crsm_sim_network.proofs.network.Network.send_one.Goals as goal

pub returns-in_ok-send-in-Replica-clause-network : goal.returns-in_ok-send-in-Replica-clause-network
returns-in_ok-send-in-Replica-clause-network c packets bytes h e = one_sent _ packets bytes c.args.k c.args.send.now c.in-Replica.to c.in-Replica.is (c.in_ok-send-in-Replica.ensures.network packets bytes h e)

pub returns-in_ok-send-in-Replica-clause-lines : goal.returns-in_ok-send-in-Replica-clause-lines
returns-in_ok-send-in-Replica-clause-lines c packets bytes h e = c.in_ok-send-in-Replica.ensures.lines packets bytes h e ∙ one_told _ c.args.k _ c.args.send.now c.in-Replica.to c.in-Replica.is

pub returns-in-Address-clause-network : goal.returns-in-Address-clause-network
returns-in-Address-clause-network c packets bytes h e = none_sent _ packets bytes c.args.k c.args.send.now _ c.in-Address.is h

pub returns-in-Address-clause-lines : goal.returns-in-Address-clause-lines
returns-in-Address-clause-lines c packets bytes h e = none_told _ c.args.k _ c.args.send.now _ c.in-Address.is
