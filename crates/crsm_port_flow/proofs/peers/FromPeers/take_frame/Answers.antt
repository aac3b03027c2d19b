use Rattle.std.proofs.Common.{◌≡◌, inl, inr, refl}
use Rattle.crsm_port_flow.proofs.Earlies.{expected_not_early, ok_map, ok_of}
use Rattle.crsm_port_flow.specs.declared.early.FrameFate.TheVariants as fate
use Rattle.crsm_port_flow.proofs.peers.FromPeers.take_frame.Goals as goal

waits_later : fate.Waits ≡ fate.InOrder → ⊥
waits_later e = cc

kept_later : fate.IsKept ≡ fate.InOrder → ⊥
kept_later e = cc

pub returns-in-Waits-clause-taken : goal.returns-in-Waits-clause-taken
returns-in-Waits-clause-taken c =
    let f = c.args.frame in
    ok_map c.take_early.result _ _ (λ w. inr (inl (f.from, f.to, f.epoch, f.number, w.0, c.requires.head, c.in-Waits.ensures.early waits_later, w.1, w.2))) c.take_early.ensures.waits

pub returns-in-Waits-clause-dropped : goal.returns-in-Waits-clause-dropped
returns-in-Waits-clause-dropped c = λ err.
    let f = c.args.frame in
    elim (c.take_early.ensures.dropped err) [
      | inl long ↦ (f.from, f.to, f.epoch, f.number, c.requires.head, c.in-Waits.ensures.early waits_later, inr long)
      | inr other ↦ (f.from, f.to, f.epoch, f.number, c.requires.head, c.in-Waits.ensures.early waits_later, inl (other, c.in-Waits.ensures.waits refl))
    ]

pub returns-in-Waits-clause-followed : goal.returns-in-Waits-clause-followed
returns-in-Waits-clause-followed c =
    let f = c.args.frame in
    ok_of c.take_early.result _ (λ expects. absurd (expected_not_early f.from f.epoch f.number c.args.self.now.early.links.items expects (c.in-Waits.ensures.early waits_later)))

pub returns-in-IsKept-clause-taken : goal.returns-in-IsKept-clause-taken
returns-in-IsKept-clause-taken c =
    let f = c.args.frame in
    inr (inr (inl (f.from, f.to, f.epoch, f.number, c.requires.head, c.in-IsKept.ensures.kept refl), refl))

pub returns-in-IsKept-clause-followed : goal.returns-in-IsKept-clause-followed
returns-in-IsKept-clause-followed c = λ expects.
    let f = c.args.frame in
    absurd (expected_not_early f.from f.epoch f.number c.args.self.now.early.links.items expects (c.in-IsKept.ensures.early kept_later))
