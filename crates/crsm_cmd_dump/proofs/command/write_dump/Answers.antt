use Rattle.std.proofs.Common.{refl, subst}
use Rattle.crsm_io.specs.Streams.{Puts, PutsPrefix}
use Rattle.crsm_cmd_dump.specs.Texts.{Text}
use Rattle.crsm_cmd_dump.proofs.Endings.{ended, partly, refused, stopped}
use Rattle.crsm_cmd_dump.proofs.command.write_dump.Goals as goal

pub returns-in-Err-clause-ran : goal.returns-in-Err-clause-ran
returns-in-Err-clause-ran g c = stopped c.args.me c.args.n c.args.part _ _ _ _ c.in-Err.end refl c.in-Err.ensures.stopped

pub returns-in-Err-dump_of-clause-ran : goal.returns-in-Err-dump_of-clause-ran
returns-in-Err-dump_of-clause-ran g c = refused c.args.me c.args.n c.args.part _ _ _ _ c.in-Err-dump_of.end c.in-Ok.file.items refl c.in-Ok.ensures.read c.in-Err-dump_of.ensures.bad

pub returns-in-Ok-put_all-clause-ran : goal.returns-in-Ok-put_all-clause-ran
returns-in-Ok-put_all-clause-ran g c =
    ended c.args.me c.args.n c.args.part _ _ _ _ c.in-Ok.file.items c.in-Ok-dump_of.text c.in-Ok.ensures.read c.in-Ok-dump_of.ensures.is
    (subst (λ (t : Text). Puts (g.O.Sink.written c.args.output.now) (g.O.Sink.written c.put_all.new.sink) t) c.as_slice.ensures c.in-Ok-put_all.ensures.ok)

pub returns-clause-ran : goal.returns-clause-ran
returns-clause-ran g c =
    partly c.args.me c.args.n c.args.part _ _ _ _ c.in-Ok.file.items c.in-Ok-dump_of.text c.in-Ok.ensures.read c.in-Ok-dump_of.ensures.is
    (subst (λ (t : Text). PutsPrefix (g.O.Sink.written c.args.output.now) (g.O.Sink.written c.put_all.new.sink) t) c.as_slice.ensures c.in-Err-put_all.ensures.prefix)
