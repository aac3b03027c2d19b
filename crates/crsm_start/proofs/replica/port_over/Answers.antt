use Rattle.std.proofs.Common.{◌∙◌, ℕ, List, subst}
use Rattle.std.proofs.lemmas.Result.{IfOk-weaker}
use Rattle.crsm_port_flow.specs.New.{IsNew as IsNewFlow}
use Rattle.crsm_port_packets.specs.New.{IsNew as IsNewPackets}
use Rattle.crsm_start.specs.Ports.{IsNodePort}
use Rattle.crsm_start.proofs.replica.port_over.Goals as goal

pub returns : goal.returns
returns g c =
    let packets = c.in_ok-packets.packets in let checked = c.new-checked.result in let first = c.new.result in let second = c.new-3.result in
    IfOk-weaker c.new-4.result (IsNewFlow checked second c.args.place.me c.args.peers.now) (IsNodePort c.args.socket c.args.place.me c.args.place.address c.args.peers.now)
    (λ p made. record {
      packets = packets;
      checked = checked;
      first = first;
      second = second;
      over_socket = subst (λ (others : List ℕ). IsNewPackets c.args.socket first others packets) (c.as_slice.ensures.value ∙ c.in_ok-others.ensures) c.in_ok-packets.ensures.made;
      over_packets = record { over = c.new-checked.ensures.over; knows = c.new-checked.ensures.knows ∙ c.in_ok-from_slice.ensures.items };
      over_checked = made;
    }) c.new-4.ensures.made
