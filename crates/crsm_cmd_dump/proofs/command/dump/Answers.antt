use Rattle.crsm_cmd_dump.proofs.Endings.{completes, is_long, is_within, limited, refuses}
use Rattle.crsm_cmd_dump.proofs.command.dump.Goals as goal

pub returns-clause-complete : goal.returns-clause-complete
returns-clause-complete g c = λ file text is short is_dump no_read no_write.
    completes c.args.me c.args.n c.args.part _ _ _ _ c.write_dump.result c.write_dump.ensures.ran (λ e. no_read (c.write_dump.ensures.read_fault e)) (λ e. no_write (c.write_dump.ensures.write_fault e))
    (λ f x y a b. c.dumps_are_one.ensures.text c.args.me c.args.n c.args.part f x y a b) (λ f t e v a b. c.dumps_are_one.ensures.kept c.args.me c.args.n e v c.args.part f t a b)
    file text is short is_dump

pub returns-clause-refused : goal.returns-clause-refused
returns-clause-refused g c = λ file entry why is short bad no_read no_write.
    refuses c.args.me c.args.n c.args.part _ _ _ _ c.write_dump.result c.write_dump.ensures.ran (λ e. no_read (c.write_dump.ensures.read_fault e)) (λ e. no_write (c.write_dump.ensures.write_fault e))
    (λ f t e v a b. c.dumps_are_one.ensures.kept c.args.me c.args.n e v c.args.part f t a b) (λ f e v x y a b. c.dumps_are_one.ensures.bad c.args.me c.args.n e x v y f a b)
    file entry why is short bad

pub returns-clause-too_long : goal.returns-clause-too_long
returns-clause-too_long g c = λ file is long no_read no_write.
    is_long c.args.me c.args.n c.args.part _ _ _ _ c.write_dump.result c.write_dump.ensures.ran (λ e. no_read (c.write_dump.ensures.read_fault e)) (λ e. no_write (c.write_dump.ensures.write_fault e)) file is long

pub returns-clause-limit : goal.returns-clause-limit
returns-clause-limit g c = λ bytes is long. limited c.args.me c.args.n c.args.part _ _ _ _ c.write_dump.result c.write_dump.ensures.ran bytes is long

pub returns-clause-within : goal.returns-clause-within
returns-clause-within g c = λ bytes is short. is_within c.args.me c.args.n c.args.part _ _ _ _ c.write_dump.result c.write_dump.ensures.ran bytes is short
