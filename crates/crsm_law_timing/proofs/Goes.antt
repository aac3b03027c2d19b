-- Each event that is next extends the timeline.
use Rattle.std.proofs.Common.{◌≡◌, ℕ, List, sym, subst, arith}
use Rattle.std.specs.Prelude.{Some, slice_get}
use Rattle.crsm_spec.specs.World.{World}
use Rattle.crsm_spec_plan.specs.declared.Plan.{Plan}
use Rattle.crsm_spec_plan.specs.Timelines.{Timed, Sent, sent, delivery, IsDue}
use Rattle.crsm_law_timing.proofs.Letters.{IsLetter}
use Rattle.crsm_law_timing.proofs.Cases.{Here, Goes, ok_small, comes, ticks}
use Rattle.crsm_law_timing.proofs.Acks.{ack_arrives}
use Rattle.crsm_law_timing.proofs.Oks.{ok_arrives}
use Rattle.crsm_law_timing.proofs.Commands.{command_arrives}

delivered : (plan : Plan) (before : List Timed) (w : World) (i : ℕ) (s : Sent) → IsLetter plan s → slice_get (sent plan before) i ≡ Some s → Here plan before (delivery plan i s) w → Goes plan before (delivery plan i s) w
delivered plan before w i s (IsLetter.IsCommand k lt ne e) g here =
    subst (λ z. slice_get (sent plan before) i ≡ Some z → Here plan before (delivery plan i z) w → Goes plan before (delivery plan i z) w) (sym e)
    (λ g here. command_arrives plan before w i k lt ne (let a = here.fit.at in omega (arith, a)) g here) g here
delivered plan before w i s (IsLetter.IsOk m k u m_lt k_lt far ne le e) g here =
    subst (λ z. slice_get (sent plan before) i ≡ Some z → Here plan before (delivery plan i z) w → Goes plan before (delivery plan i z) w) (sym e)
    (λ g here. ok_arrives plan before w i m k u m_lt k_lt far ne le (let a = ok_small plan m here.fit in omega (arith, a)) g here) g here
delivered plan before w i s (IsLetter.IsAck m k a t m_lt k_lt ne le e) g here =
    subst (λ z. slice_get (sent plan before) i ≡ Some z → Here plan before (delivery plan i z) w → Goes plan before (delivery plan i z) w) (sym e)
    (λ g here. ack_arrives plan before w i t m k a m_lt k_lt ne le g here) g here

pub goes : (plan : Plan) (before : List Timed) (w : World) (e : Timed) → IsDue plan before e → Here plan before e w → Goes plan before e w
goes plan before w e IsDue.Comes here = comes plan before w here
goes plan before w e (IsDue.Ticks k moment lt ne reads late) here = ticks plan before w k moment lt ne reads late here
goes plan before w e (IsDue.Arrives i s g) here = delivered plan before w i s (here.stands.letters i s g) g here
