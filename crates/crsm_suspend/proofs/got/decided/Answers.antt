use Rattle.std.proofs.Common.{◌∙◌, ap, List, length}
use Rattle.crsm_spec.specs.Types.{Entry}
use Rattle.crsm_spec.specs.Collect.{size_of}
use Rattle.crsm_suspend.proofs.CollectLemmas.{complete_is, too_many_is}
use Rattle.crsm_suspend.proofs.got.decided.Goals as goal

pub returns-then-is_within : goal.returns-then-is_within
returns-then-is_within c =
    complete_is c.args.decision (length c.as_slice.result.now) c.total_size-bytes.result (ap (λ (es : List Entry). length es) c.as_slice.ensures) (c.total_size-bytes.ensures ∙ ap size_of c.as_slice-2.ensures) c.if-is_within.true

pub returns-else-is_within : goal.returns-else-is_within
returns-else-is_within c =
    too_many_is c.args.decision (length c.as_slice.result.now) c.total_size-bytes.result (ap (λ (es : List Entry). length es) c.as_slice.ensures) (c.total_size-bytes.ensures ∙ ap size_of c.as_slice-2.ensures) c.if-is_within.false
