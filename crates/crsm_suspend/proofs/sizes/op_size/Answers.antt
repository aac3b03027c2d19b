use Rattle.crsm_suspend.proofs.Lengths.{get_is, put_is, delete_is, cas_is}
use Rattle.crsm_suspend.proofs.sizes.op_size.Goals as goal

pub returns-in-Get-clause-value : goal.returns-in-Get-clause-value
returns-in-Get-clause-value c = get_is c.args.op.now c.in-Get.key c.key_size.result (cc) c.key_size.ensures.value

pub returns-in-Put-clause-value : goal.returns-in-Put-clause-value
returns-in-Put-clause-value c =
    put_is c.args.op.now c.in-Put.key c.in-Put.val c.key_size-in-Put.result c.val_size.result (cc) c.key_size-in-Put.ensures.value c.val_size.ensures.value

pub returns-in-Delete-clause-value : goal.returns-in-Delete-clause-value
returns-in-Delete-clause-value c = delete_is c.args.op.now c.in-Delete.key c.key_size-in-Delete.result (cc) c.key_size-in-Delete.ensures.value

pub returns-in-Cas-clause-value : goal.returns-in-Cas-clause-value
returns-in-Cas-clause-value c =
    cas_is c.args.op.now c.in-Cas.key c.in-Cas.expected c.in-Cas.new c.key_size-in-Cas.result c.option_size.result c.option_size-in-Cas.result (cc)
    c.key_size-in-Cas.ensures.value c.option_size.ensures.value c.option_size-in-Cas.ensures.value
