use Rattle.std.proofs.Common.{◌∙◌, ap}
use Rattle.std.specs.Prelude.{filter}
use Rattle.crsm_sim_network.specs.Packets.{is_fresh_for, is_up_among, numbers_of}
use Rattle.crsm_sim_network.proofs.Marked.{nears}
use Rattle.crsm_sim_network.proofs.network.Network.due.Goals as goal

pub returns-clause-stands : goal.returns-clause-stands
returns-clause-stands c packets bytes h =
    let seen = c.in_ok-see.ensures.stands packets bytes h in
    nears c.see.new.self packets bytes c.in_ok-self.field-0 seen (c.in_ok-self.ensures.items ∙ c.as_slice.ensures.value ∙ c.in_ok-due.ensures packets bytes seen)

pub returns-clause-due : goal.returns-clause-due
returns-clause-due c packets bytes h =
    let seen = c.in_ok-see.ensures.stands packets bytes h in
    c.in_ok-due.ensures packets bytes seen ∙ seen.near.all ∙ ap (λ us. filter (is_fresh_for (is_up_among us) packets) (numbers_of packets)) c.in_ok-see.ensures.ups
