use Rattle.crsm_mpworld.proofs.place.Site.step.Goals as goal

pub returns-clause-steps : goal.returns-clause-steps
returns-clause-steps c me n r h =
    let made = c.in_ok-step.ensures.steps r h.place.1 in
    (made.0, record { me_is = h.me_is; n_is = h.n_is; place = (h.place.0, made.1) })
