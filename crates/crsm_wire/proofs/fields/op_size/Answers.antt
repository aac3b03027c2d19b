use Rattle.crsm_wire.proofs.Lengths.{get_sized, put_sized, delete_sized, cas_sized}
use Rattle.crsm_wire.proofs.fields.op_size.Goals as goal

pub returns-in_ok-key_size-in-Get : goal.returns-in_ok-key_size-in-Get
returns-in_ok-key_size-in-Get c = get_sized c.args.op.now c.in-Get.key c.in_ok-key_size-in-Get.field-0 (cc) c.in_ok-key_size-in-Get.ensures

pub returns-in_ok-val_size-in-Put : goal.returns-in_ok-val_size-in-Put
returns-in_ok-val_size-in-Put c =
    put_sized c.args.op.now c.in-Put.key c.in-Put.val c.in_ok-key_size-in-Put.field-0 c.in_ok-val_size-in-Put.field-0 (cc) c.in_ok-key_size-in-Put.ensures c.in_ok-val_size-in-Put.ensures

pub returns-in_ok-key_size-in-Delete : goal.returns-in_ok-key_size-in-Delete
returns-in_ok-key_size-in-Delete c = delete_sized c.args.op.now c.in-Delete.key c.in_ok-key_size-in-Delete.field-0 (cc) c.in_ok-key_size-in-Delete.ensures

pub returns-in_ok-option_size-in-Cas-2 : goal.returns-in_ok-option_size-in-Cas-2
returns-in_ok-option_size-in-Cas-2 c =
    cas_sized c.args.op.now c.in-Cas.key c.in-Cas.expected c.in-Cas.new c.in_ok-key_size-in-Cas.field-0 c.in_ok-option_size-in-Cas.field-0 c.in_ok-option_size-in-Cas-2.field-0 (cc)
    c.in_ok-key_size-in-Cas.ensures c.in_ok-option_size-in-Cas.ensures c.in_ok-option_size-in-Cas-2.ensures
