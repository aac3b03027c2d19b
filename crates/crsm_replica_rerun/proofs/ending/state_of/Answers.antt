use Rattle.std.proofs.Common.{◌≡◌, Bool, true, false, ◌&&◌, not, ap, sym, ◌∙◌}
use Rattle.std.specs.Prelude.{if◌then◌else◌}
use Rattle.crsm_base.specs.declared.State.{State}
use Rattle.crsm_spec.specs.Log.{active, live, suspended}
use Rattle.crsm_spec.specs.Replica.{Replica}
use Rattle.crsm_spec.specs.World.{Site, state_of}
use Rattle.crsm_replica_rerun.proofs.ending.state_of.Goals as goal

out_of : (r : Replica) → live r.log ≡ false → State.Out ≡ state_of (Site.Up r)
unfolding state_of active
out_of r l = sym (ap (λ (v : Bool). (if v && not (suspended r.log) then State.Live else if v then State.Held else State.Out)) l)

held_of : (r : Replica) → live r.log ≡ true → suspended r.log ≡ true → State.Held ≡ state_of (Site.Up r)
unfolding state_of active
held_of r l s =
    sym (ap (λ (v : Bool). (if v && not (suspended r.log) then State.Live else if v then State.Held else State.Out)) l
    ∙ ap (λ (v : Bool). (if true && not v then State.Live else State.Held)) s)

live_of : (r : Replica) → live r.log ≡ true → suspended r.log ≡ false → State.Live ≡ state_of (Site.Up r)
unfolding state_of active
live_of r l s =
    sym (ap (λ (v : Bool). (if v && not (suspended r.log) then State.Live else if v then State.Held else State.Out)) l
    ∙ ap (λ (v : Bool). (if true && not v then State.Live else State.Held)) s)

pub returns-then-not-live : goal.returns-then-not-live
returns-then-not-live c = λ r s. out_of r (let l : live r.log ≡ false = cc (c.live.ensures r.me r.n r.log s) in l)

pub returns-then-suspended : goal.returns-then-suspended
returns-then-suspended c = λ r s.
    let l : live r.log ≡ true = cc (c.live.ensures r.me r.n r.log s) in
    let h : suspended r.log ≡ true = cc (c.suspended.ensures r.me r.n r.log s) in
    held_of r l h

pub returns : goal.returns
returns c = λ r s.
    let l : live r.log ≡ true = cc (c.live.ensures r.me r.n r.log s) in
    let h : suspended r.log ≡ false = cc (c.suspended.ensures r.me r.n r.log s) in
    live_of r l h
