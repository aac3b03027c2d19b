use Rattle.std.proofs.Common.{Err, ap, refl, sym, ◌∙◌, subst, map, string_bytes}
use Rattle.crsm_text_words.specs.Answers.{OrderRefused}
use Rattle.crsm_text_words.specs.declared.order.Order.{Order}
use Rattle.crsm_text_words.specs.declared.read.WordsError.{WordsError}
use Rattle.crsm_app.specs.Run.{at_fault, did, no_memory}
use Rattle.crsm_app.specs.Tasks.{IsLogReader, IsReader}
use Rattle.crsm_app.proofs.Asked.{not_idle, not_usage, read_so, within_limits}
use Rattle.crsm_app.proofs.Scarce.{without_memory}
use Rattle.crsm_app.proofs.command.run.Goals as goal

pub do_order-requires : goal.do_order-requires
do_order-requires g c = within_limits _ c.in-Ok.order c.in-Ok.ensures.any

-- ---- an order was read

pub returns-in-Ok-clause-ran : goal.returns-in-Ok-clause-ran
returns-in-Ok-clause-ran g c = did c.in-Ok.order c.in-Ok.ensures.any c.do_order.ensures.did

pub returns-in-Ok-clause-faults : goal.returns-in-Ok-clause-faults
returns-in-Ok-clause-faults g c = record {
  read = c.do_order.ensures.read_fault;
  write = c.do_order.ensures.write_fault;
  port = λ fault. record { order = c.in-Ok.order; made = c.in-Ok.ensures.any; kind = c.do_order.ensures.port_fault fault };
  disk = c.do_order.ensures.disk_fault;
}

pub returns-in-Ok-clause-usage : goal.returns-in-Ok-clause-usage
returns-in-Ok-clause-usage g c = λ is. absurd (not_idle c.in-Ok.order _ _ _ c.do_order.ensures.did is)

pub returns-in-Ok-clause-asked : goal.returns-in-Ok-clause-asked
returns-in-Ok-clause-asked g c = λ plain order asks is. not_idle c.in-Ok.order _ _ _ c.do_order.ensures.did is

pub returns-in-Ok-clause-exactly : goal.returns-in-Ok-clause-exactly
returns-in-Ok-clause-exactly g c = λ plain order asks.
    let same = read_so c.read_words.result c.in-Ok.order order c.in-Ok.is (c.read_words.ensures.only plain order asks) in
    rw (sym same) c.do_order.ensures.exact

pub returns-in-Ok-clause-limit : goal.returns-in-Ok-clause-limit
returns-in-Ok-clause-limit g c = λ plain order asks reads.
    let same = read_so c.read_words.result c.in-Ok.order order c.in-Ok.is (c.read_words.ensures.only plain order asks) in
    c.do_order.ensures.limit (subst (λ (o : Order). IsReader o.task) (sym same) reads)

pub returns-in-Ok-clause-log_limit : goal.returns-in-Ok-clause-log_limit
returns-in-Ok-clause-log_limit g c = λ plain order asks reads.
    let same = read_so c.read_words.result c.in-Ok.order order c.in-Ok.is (c.read_words.ensures.only plain order asks) in
    c.do_order.ensures.log_limit (subst (λ (o : Order). IsLogReader o.task) (sym same) reads)

pub returns-in-Ok-clause-input : goal.returns-in-Ok-clause-input
returns-in-Ok-clause-input g c = λ not_reading. c.do_order.ensures.input (λ reads. not_reading (record { order = c.in-Ok.order; made = c.in-Ok.ensures.any; kind = reads }))

pub returns-in-Ok-clause-port : goal.returns-in-Ok-clause-port
returns-in-Ok-clause-port g c = λ not_asking. c.do_order.ensures.port (λ asks. not_asking (record { order = c.in-Ok.order; made = c.in-Ok.ensures.any; kind = asks }))

pub returns-in-Ok-clause-disk : goal.returns-in-Ok-clause-disk
returns-in-Ok-clause-disk g c = λ not_running. c.do_order.ensures.disk (λ runs. not_running (record { order = c.in-Ok.order; made = c.in-Ok.ensures.any; kind = runs }))

pub returns-in-Ok-clause-clock : goal.returns-in-Ok-clause-clock
returns-in-Ok-clause-clock g c = λ not_running. c.do_order.ensures.clock (λ runs. not_running (record { order = c.in-Ok.order; made = c.in-Ok.ensures.any; kind = runs }))

-- ---- the words are at fault

pub returns-in-Err-Usage-clause-ran : goal.returns-in-Err-Usage-clause-ran
returns-in-Err-Usage-clause-ran g c =
    let words = map string_bytes c.args.words.now in at_fault (subst (λ (r : WordsError). OrderRefused words r) c.in-Err-Usage.field-0-is c.in-Err-Usage.ensures.any) refl
    (record { left = refl; written = refl; read_faults = refl; write_faults = refl; port = refl; disk = record { seen = refl; may_leave = λ bytes left. left; history = refl; faults = refl }; clock = refl })

pub returns-in-Err-Usage-clause-faults : goal.returns-in-Err-Usage-clause-faults
returns-in-Err-Usage-clause-faults g c = record { read = λ is. absurd (cc is); write = λ is. absurd (cc is); port = λ is. absurd (cc is); disk = λ is. absurd (cc is) }

pub returns-in-Err-Usage-clause-usage : goal.returns-in-Err-Usage-clause-usage
returns-in-Err-Usage-clause-usage g c = λ is.
    let words = map string_bytes c.args.words.now in subst (λ (r : WordsError). OrderRefused words r) c.in-Err-Usage.field-0-is c.in-Err-Usage.ensures.any

pub returns-in-Err-Usage-clause-asked : goal.returns-in-Err-Usage-clause-asked
returns-in-Err-Usage-clause-asked g c = λ plain order asks is.
    not_usage c.read_words.result order (c.in-Err-Usage.is ∙ ap Err c.in-Err-Usage.field-0-is) (c.read_words.ensures.only plain order asks)

pub returns-in-Err-Usage-clause-exactly : goal.returns-in-Err-Usage-clause-exactly
returns-in-Err-Usage-clause-exactly g c = λ plain order asks.
    absurd (not_usage c.read_words.result order (c.in-Err-Usage.is ∙ ap Err c.in-Err-Usage.field-0-is) (c.read_words.ensures.only plain order asks))

-- ---- memory ran out

pub returns-in-Err-NoMemory-clause-ran : goal.returns-in-Err-NoMemory-clause-ran
returns-in-Err-NoMemory-clause-ran g c = no_memory refl (record { left = refl; written = refl; read_faults = refl; write_faults = refl; port = refl; disk = record { seen = refl; may_leave = λ bytes left. left; history = refl; faults = refl }; clock = refl })

pub returns-in-Err-NoMemory-clause-faults : goal.returns-in-Err-NoMemory-clause-faults
returns-in-Err-NoMemory-clause-faults g c = record { read = λ is. absurd (cc is); write = λ is. absurd (cc is); port = λ is. absurd (cc is); disk = λ is. absurd (cc is) }

pub returns-in-Err-NoMemory-clause-exactly : goal.returns-in-Err-NoMemory-clause-exactly
returns-in-Err-NoMemory-clause-exactly g c = λ plain order asks. without_memory c.plans_are_in_time.ensures.exact c.audits_are_exact.ensures order.cluster order.task _ _
