use Rattle.std.proofs.Common.{List, ℕ, ap, ◌∙◌}
use Rattle.std.specs.List.{list_all}
use Rattle.crsm_spec.specs.Lists.{has}
use Rattle.crsm_spec.specs.Types.{Decision}
use Rattle.crsm_replica_detector.proofs.Timely.{members_known}
use Rattle.crsm_replica_detector.proofs.timers.are_members_among.Goals as goal

pub returns : goal.returns
returns c me n log stands =
    let known = ap (λ (d : Decision). d.members) (c.known.ensures.value me n log stands) ∙ members_known n log in
    c.are_among.ensures ∙ ap (λ (ms : List ℕ). list_all (has c.args.wanted.now) ms) (c.as_slice.ensures.value ∙ known)
