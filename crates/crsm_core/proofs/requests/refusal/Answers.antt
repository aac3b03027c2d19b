use Rattle.std.proofs.Common.{◌≡◌, arith, true, false}
use Rattle.std.specs.Prelude.{◌≢◌}
use Rattle.crsm_spec.specs.Clock.{u64_max}
use Rattle.crsm_spec.specs.Log.{live, suspended}
use Rattle.crsm_spec.specs.Replica.{is_congested, last_issued}
use Rattle.crsm_core.proofs.RequestLemmas.{runs, not_live, held, busy, congested, clock_spent, taken}
use Rattle.crsm_core.proofs.requests.refusal.Goals as goal

pub returns-then-not-is_live : goal.returns-then-not-is_live
returns-then-not-is_live c = λ x s.
    let l : live x.replica.log ≡ false = cc (c.is_live.ensures x s) in
    not_live x.replica l

pub returns-then-is_suspended : goal.returns-then-is_suspended
returns-then-is_suspended c = λ x s.
    let l : live x.replica.log ≡ true = cc (c.is_live.ensures x s) in
    let h : suspended x.replica.log ≡ true = cc (c.is_suspended.ensures x s) in
    held x.replica l h

pub returns-then-own_unexecuted : goal.returns-then-own_unexecuted
returns-then-own_unexecuted c = λ x s.
    let l : live x.replica.log ≡ true = cc (c.is_live.ensures x s) in
    let h : suspended x.replica.log ≡ false = cc (c.is_suspended.ensures x s) in
    let own = c.own_unexecuted.ensures x s (runs x.replica.log l h) in
    busy x.replica l h (omega (arith, own))

pub returns-then-is_congested : goal.returns-then-is_congested
returns-then-is_congested c = λ x s.
    let l : live x.replica.log ≡ true = cc (c.is_live.ensures x s) in
    let h : suspended x.replica.log ≡ false = cc (c.is_suspended.ensures x s) in
    let own = c.own_unexecuted.ensures x s (runs x.replica.log l h) in
    let g : is_congested x.replica ≡ true = cc (c.is_congested.ensures x s) in
    congested x.replica l h (omega (arith, own)) g

pub returns-then-last_issued-eq18446744073709551615 : goal.returns-then-last_issued-eq18446744073709551615
returns-then-last_issued-eq18446744073709551615 c = λ x s.
    let l : live x.replica.log ≡ true = cc (c.is_live.ensures x s) in
    let h : suspended x.replica.log ≡ false = cc (c.is_suspended.ensures x s) in
    let own = c.own_unexecuted.ensures x s (runs x.replica.log l h) in
    let g : is_congested x.replica ≡ false = cc (c.is_congested.ensures x s) in
    let t : last_issued x.replica ≡ u64_max = omega (arith, c.last_issued.ensures x s) in
    clock_spent x.replica l h (omega (arith, own)) g t

pub returns : goal.returns
returns c = λ x s.
    let l : live x.replica.log ≡ true = cc (c.is_live.ensures x s) in
    let h : suspended x.replica.log ≡ false = cc (c.is_suspended.ensures x s) in
    let own = c.own_unexecuted.ensures x s (runs x.replica.log l h) in
    let g : is_congested x.replica ≡ false = cc (c.is_congested.ensures x s) in
    let last = c.last_issued.ensures x s in
    let t : last_issued x.replica ≢ u64_max = λ e. omega (arith, last, e) in
    taken x.replica l h (omega (arith, own)) g t
