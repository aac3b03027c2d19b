use Rattle.std.proofs.Common.{◌∙◌, ◌++◌, ap, List, ℕ}
use Rattle.std.specs.Prelude.{filter}
use Rattle.crsm_mpworld.specs.Packets.{is_fresh_for, is_up_among, numbers_of}
use Rattle.crsm_mpworld.proofs.Marked.{nears}
use Rattle.crsm_mpworld.proofs.network.MpNetwork.due.Goals as goal

pub returns-clause-stands : goal.returns-clause-stands
returns-clause-stands c packets bytes h =
    let seen = c.in_ok-see.ensures.stands packets bytes h in
    let kept = c.in_ok-extend_from_slice.ensures.items ∙ ap (λ (numbers : List ℕ). numbers ++ c.as_slice.result.now) c.clear.ensures.items ∙ c.as_slice.ensures.value in
    nears c.see.new.self packets bytes c.extend_from_slice.new.self c.count-end.result seen (kept ∙ c.in_ok-due.ensures packets bytes seen) (c.count-end.ensures packets bytes seen)

pub returns-clause-due : goal.returns-clause-due
returns-clause-due c packets bytes h =
    let seen = c.in_ok-see.ensures.stands packets bytes h in
    c.in_ok-due.ensures packets bytes seen ∙ seen.near.all ∙ ap (λ us. filter (is_fresh_for (is_up_among us) packets) (numbers_of packets)) c.in_ok-see.ensures.ups
