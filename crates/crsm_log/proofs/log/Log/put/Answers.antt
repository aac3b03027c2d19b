use Rattle.std.proofs.Common.{ℕ, length, ◌∙◌, ap, subst, arith}
use Rattle.std.specs.Prelude.{Option}
use Rattle.crsm_log.specs.Log.{Serves, less}
use Rattle.crsm_log.proofs.log.Log.put.Goals as goal

pub returns-in-Ok-clause-four : goal.returns-in-Ok-clause-four
returns-in-Ok-clause-four g c p honest is =
    let room = c.in_ok-reserve.ensures.plan.room p is in
    let ran = c.in-Ok.ensures.ran c.args.body.now (c.deref.ensures.value ∙ c.in_ok-encode_entry.ensures) in
    let sound = c.args.self.now.sound honest c.if-self.false in
    let S : Option ℕ → Type 0 = λ x. Serves 4 x in
    let left = c.in-Ok.ensures.left room.0 room.1 in
    record {
      left = (left.0, left.1, left.2 ∙ ap (less 4) room.2.good);
      served = subst S room.2.good (ran.good room.0 room.1 (record {
        honest = c.reserve.ensures.same.honest ∙ honest;
        inside = omega (arith, sound.inside, ap length c.reserve.ensures.same.seen);
        calls = omega (arith, room.2.calls);
        written = omega (arith, room.2.bytes, c.len.ensures, ap length c.deref.ensures.value);
      }));
    }
