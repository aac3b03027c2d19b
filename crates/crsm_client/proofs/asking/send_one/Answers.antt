use Rattle.crsm_client.proofs.Sending.{had_no_room, was_sent, was_lost}
use Rattle.crsm_client.proofs.asking.send_one.Goals as goal

pub returns-in_err-reserve : goal.returns-in_err-reserve
returns-in_err-reserve g c = λ cluster datagram is. had_no_room _ cluster c.args.to datagram _ _ c.from_residual.result c.reserve.ensures.reserves.same c.from_residual.ensures.1

pub returns-in-Err : goal.returns-in-Err
returns-in-Err g c = λ cluster datagram is. was_lost cluster c.args.to datagram c.args.bytes.now _ _ _ c.reserve.ensures.reserves.same is _ (rw c.in-Err.is at c.send.ensures.sends)

pub returns-in-Ok : goal.returns-in-Ok
returns-in-Ok g c = λ cluster datagram is. was_sent cluster c.args.to datagram c.args.bytes.now _ _ _ c.reserve.ensures.reserves.same is _ (rw c.in-Ok.is at c.send.ensures.sends)
