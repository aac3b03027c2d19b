use Rattle.std.proofs.Common.{◌≡◌, length, take, ◌∙◌, ap, sym, arith}
use Rattle.std.proofs.lemmas.List.{take_at}
use Rattle.crsm_port_image.specs.Calls.{noted, synced}
use Rattle.crsm_log.proofs.Runs.{len_meets, read_meets, fetched, whole_read}
use Rattle.crsm_log.proofs.device.contents.Goals as goal

pub returns-in_err-len-clause-meets : goal.returns-in_err-len-clause-meets
returns-in_err-len-clause-meets g c _ p is =
    let room = c.in_ok-reserve.ensures.plan.room p is in
    (1, omega arith, len_meets _ _ c.args.calls c.args.bytes c.requires p room.0 room.1 room.2 _ c.in_ok-sync.ensures.answer _ _ c.in_err-len.ensures.answer)

pub returns-in_err-count-clause-meets : goal.returns-in_err-count-clause-meets
returns-in_err-count-clause-meets g c _ p is =
    let room = c.in_ok-reserve.ensures.plan.room p is in
    (2, omega arith, read_meets _ _ c.args.calls c.args.bytes c.requires p room.0 room.1 room.2 _ c.in_ok-sync.ensures.answer _ _ c.in_ok-len.ensures.answer _ _ c.in_err-count.ensures.answer)

pub returns-clause-ok : goal.returns-clause-ok
returns-clause-ok g c =
    let items : c.truncate.new.self.items ≡ take c.in_ok-count.count c.read_at.new.buf = rw c.truncate.ensures.items (ap (take c.in_ok-count.count) (take_at c.read_at.new.buf _ c.in_ok-file.file.len (omega (arith, c.read_at.auto.buf, c.deref_mut.ensures.len)))) in
    let seen1 = c.reserve.ensures.same.seen in
    record {
      read = λ honest.
          let h1 = c.reserve.ensures.same.honest ∙ honest in
          let h2 = c.sync.ensures.answer.honest ∙ h1 in
          let h3 = c.len.ensures.answer.honest ∙ h2 in
          let seen2 = c.sync.ensures.seen h1 in
          let seen3 = c.len.ensures.same.seen in
          let size : length c.deref_mut.result.now ≡ length (g.D.Disk.meaning c.len.new.self).seen = omega (arith, c.deref_mut.ensures.len, c.in_ok-file.ensures.len, c.in_ok-len.ensures.length h2, ap length seen3) in
          items ∙ whole_read (g.D.Disk.meaning c.len.new.self).seen c.deref_mut.result.now c.read_at.new.buf c.in_ok-count.count (c.in_ok-count.ensures.bytes h3) size ∙ seen3 ∙ seen2 ∙ seen1;
      seen = λ honest. c.read_at.ensures.same.seen ∙ c.len.ensures.same.seen ∙ c.sync.ensures.seen (c.reserve.ensures.same.honest ∙ honest) ∙ seen1;
      durable = λ honest f now.
          let h1 = c.reserve.ensures.same.honest ∙ honest in
          c.in_ok-sync.ensures.durable h1 f ((c.len.ensures.same.images f).0 ((c.read_at.ensures.same.images f).0 now))
          ∙ sym (c.read_at.ensures.same.seen ∙ c.len.ensures.same.seen ∙ c.sync.ensures.seen h1);
      history = c.read_at.ensures.same.history ∙ c.len.ensures.same.history ∙ c.in_ok-sync.ensures.told ∙ ap (noted synced) c.reserve.ensures.same.history;
      plan = λ p is.
          let room = c.in_ok-reserve.ensures.plan.room p is in
          fetched _ _ c.args.calls c.args.bytes c.requires p room.0 room.1 room.2 _ c.in_ok-sync.ensures.answer _ _ c.in_ok-len.ensures.answer _ _ c.in_ok-count.ensures.answer;
    }
